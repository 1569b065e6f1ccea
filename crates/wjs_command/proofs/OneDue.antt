-- At most one thing is due, in mode `log` up to the log.
use Rattle.std.proofs.Common.{◌≡◌, ◌≢◌, ℕ, List, [], Option, refl, sym, ap, subst, ◌∙◌, arith}
use Rattle.std.specs.Prelude.{unwrap_or}
use Rattle.wjs_options.specs.declared.answer.Options.{Options}
use Rattle.wjs_options.specs.declared.mode.Mode.{Mode}
use Rattle.wjs_options.specs.declared.mode.Mode.TheVariants as modes
use Rattle.wjs_load.specs.declared.tokens.Refusal.{Refusal}
use Rattle.wjs_load.specs.Laws.{OneRefusal, ProgramOrRefusal, OneAnswer}
use Rattle.wjs_meaning.specs.Trees.{Tree}
use Rattle.wjs_meaning.specs.Programs.{machine}
use Rattle.wjs_meaning.specs.declared.library.TheConstants.{LIBRARY}
use Rattle.wjs_programs.specs.Laws.{OneProgram}
use Rattle.wjs_alone.specs.Playing.{play}
use Rattle.wjs_division.specs.declared.input.InputFault.{InputFault}
use Rattle.wjs_division.specs.Laws.{OneInput, OneFault, InputOrFault}
use Rattle.wjs_audit.specs.declared.fault.AuditFault.{AuditFault}
use Rattle.wjs_logs.specs.Judging.{OneVerdict}
use Rattle.wjs_command.specs.Table.{Due, Told}
use Rattle.wjs_command.specs.Runs.{LogsRun, told_by_run}
use Rattle.wjs_command.specs.Refusals.{refused, text_of_refusal}
use Rattle.wjs_command.specs.Plays.{text_of_input, told_by_play, IsPlayed, OfPlay, refuses as no_play, divides}
use Rattle.wjs_command.specs.Due.{text_of_fault, IsChecked, IsRun, IsLogged, OfScript, refuses, reads, OfLog, blames, agrees, owed_in, IsTold, too_long, served, Asks, bytes_for, taken_by, IsAsked, usage, asked, SameLog, same_bytes, same_told, OneDue, OneLog, OneUsage}

-- the words ask for one thing
pub one_options : (words : List (List ℕ)) (o p : Options) → Asks words o → Asks words p → p ≡ o
one_options words o p a b =
    let steps : p.steps ≡ o.steps = ap (λ (n : Option ℕ). unwrap_or n 0) (sym b.gives.steps ∙ a.gives.steps) in
    let mode : p.mode ≡ o.mode = ap (λ (m : Option Mode). unwrap_or m modes.Run) (sym b.gives.mode ∙ a.gives.mode) in
    let number : p.number ≡ o.number = ap (λ (n : Option ℕ). unwrap_or n 0) (sym b.gives.number ∙ a.gives.number) in
    let turn : p.turn ≡ o.turn = ap (λ (n : Option ℕ). unwrap_or n 0) (sym b.gives.turn ∙ a.gives.turn) in
    λ i. record { steps = steps i; mode = mode i; number = number i; turn = turn i }

-- two runs that owe the same but for their logs
record Alike (a b : Told) : Type 0 where
  same : b ≡ record a { out = b.out }
  logs : SameLog a.out b.out

alike_same : (a b : Told) → b ≡ a → Alike a b
alike_same a b e = record { same = λ i. record (e i) { out = b.out }; logs = same_bytes (ap (λ (t : Told). t.out) e) }

-- in each mode but this they owe the same
abbrev alike_in : Mode → Told → Told → Type 0
alike_in modes.Log a b = Alike a b
alike_in mode a b = b ≡ a

one_in : (mode : Mode) (a b : Told) → mode ≢ modes.Log → alike_in mode a b → b ≡ a
one_in modes.Run a b other h = h
one_in modes.Check a b other h = h
one_in modes.Tree a b other h = h
one_in modes.Gen a b other h = h
one_in modes.Play a b other h = h
one_in modes.Log a b other h = absurd (other refl)
one_in modes.Audit a b other h = h

alike_by : (mode : Mode) (a b : Told) → alike_in mode a b → Alike a b
alike_by modes.Run a b h = alike_same a b h
alike_by modes.Check a b h = alike_same a b h
alike_by modes.Tree a b h = alike_same a b h
alike_by modes.Gen a b h = alike_same a b h
alike_by modes.Play a b h = alike_same a b h
alike_by modes.Log a b h = h
alike_by modes.Audit a b h = alike_same a b h

same_alike : (mode : Mode) (a b : Told) → b ≡ a → alike_in mode a b
same_alike modes.Run a b e = e
same_alike modes.Check a b e = e
same_alike modes.Tree a b e = e
same_alike modes.Gen a b e = e
same_alike modes.Play a b e = e
same_alike modes.Log a b e = alike_same a b e
same_alike modes.Audit a b e = e

module _ (one_refusal : OneRefusal) (either : ProgramOrRefusal) (one_answer : OneAnswer) (one_program : OneProgram) (one_verdict : OneVerdict) (one_input : OneInput) (one_fault : OneFault) (input_or_fault : InputOrFault) where
  -- one thing is owed for a script, where one is for its tree
  module _ (Owed : Tree → Told → Type 0) (Same : Told → Told → Type 0) (same : (a b : Told) → b ≡ a → Same a b) (one : (tree : Tree) (a b : Told) → Owed tree a → Owed tree b → Same a b) where
    one_of_script : (bytes : List ℕ) (a b : Told) → OfScript Owed bytes a → OfScript Owed bytes b → Same a b
    one_of_script bytes a b (refuses x) (refuses y) = same a b (y.is ∙ ap (λ (r : Refusal). refused (text_of_refusal r)) (one_refusal bytes x.refusal y.refusal x.why y.why) ∙ sym x.is)
    one_of_script bytes a b (refuses x) (reads y) = absurd (either bytes y.tree x.refusal y.spelled x.why)
    one_of_script bytes a b (reads x) (refuses y) = absurd (either bytes x.tree y.refusal x.spelled y.why)
    one_of_script bytes a b (reads x) (reads y) = one x.tree a b x.owed (subst (λ (t : Tree). Owed t b) (one_program bytes x.tree y.tree x.spelled y.spelled) y.owed)

  one_checked : (tree : Tree) (a b : Told) → IsChecked tree a → IsChecked tree b → b ≡ a
  one_checked tree a b x y = y ∙ sym x

  one_run : (mode : Mode) (steps : ℕ) (tree : Tree) (a b : Told) → IsRun mode steps tree a → IsRun mode steps tree b → b ≡ a
  one_run mode steps tree a b x y = y.is ∙ ap (λ (library : Option Tree). told_by_run mode (machine library tree steps)) (one_answer LIBRARY.now x.library y.library x.first y.first) ∙ sym x.is

  one_logged : (steps : ℕ) (tree : Tree) (a b : Told) → IsLogged steps tree a → IsLogged steps tree b → Alike a b
  one_logged steps tree a b x y =
      let run : LogsRun (machine x.library tree steps) b = subst (λ (library : Option Tree). LogsRun (machine library tree steps) b) (one_answer LIBRARY.now x.library y.library x.first y.first) y.run in
      let err = run.err ∙ sym (x.run).err in
      let status = run.status ∙ sym (x.run).status in
      record {
        same = λ i. record { out = b.out; err = err i; status = status i };
        logs = same_told _ (x.run).log run.log;
      }

  one_of_log : (bytes : List ℕ) (a b : Told) → OfLog bytes a → OfLog bytes b → b ≡ a
  one_of_log bytes a b (blames x) (blames y) = y.is ∙ ap (λ (f : AuditFault). refused (text_of_fault f)) (one_verdict.fault bytes y.fault x.fault y.why x.why) ∙ sym x.is
  one_of_log bytes a b (blames x) (agrees y) = absurd (one_verdict.either bytes x.fault y.right x.why)
  one_of_log bytes a b (agrees x) (blames y) = absurd (one_verdict.either bytes y.fault x.right y.why)
  one_of_log bytes a b (agrees x) (agrees y) = y.is ∙ sym x.is

  -- ---- plays

  -- a play is decided by its library, its parts and the numbers of steps
  one_played : (steps turn : ℕ) (parts : List Tree) (a b : Told) → IsPlayed steps turn parts a → IsPlayed steps turn parts b → b ≡ a
  one_played steps turn parts a b x y =
      let library = one_answer LIBRARY.now x.library y.library x.first y.first in
      y.is ∙ ap (λ (l : Option Tree). told_by_play l parts steps (play l parts steps [] turn)) library ∙ sym x.is

  one_of_play : (steps turn : ℕ) (bytes : List ℕ) (a b : Told) → OfPlay steps turn bytes a → OfPlay steps turn bytes b → b ≡ a
  one_of_play steps turn bytes a b (no_play x) (no_play y) =
      y.is ∙ ap (λ (f : InputFault). refused (text_of_input f)) (one_fault bytes x.fault y.fault x.why y.why) ∙ sym x.is
  one_of_play steps turn bytes a b (no_play x) (divides y) = absurd (input_or_fault bytes y.parts x.fault y.input x.why)
  one_of_play steps turn bytes a b (divides x) (no_play y) = absurd (input_or_fault bytes x.parts y.fault x.input y.why)
  one_of_play steps turn bytes a b (divides x) (divides y) =
      let parts = one_input bytes x.parts y.parts x.input y.input in
      one_played steps turn x.parts a b x.owed (subst (λ (ts : List Tree). IsPlayed steps turn ts b) parts y.owed)

  by_run : (mode : Mode) (steps : ℕ) (bytes : List ℕ) (a b : Told) → OfScript (IsRun mode steps) bytes a → OfScript (IsRun mode steps) bytes b → b ≡ a
  by_run mode steps bytes a b x y = one_of_script (IsRun mode steps) (λ s t. t ≡ s) (λ s t e. e) (one_run mode steps) bytes a b x y

  -- one thing is owed in a mode
  one_owed : (mode : Mode) (steps turn : ℕ) (bytes : List ℕ) (a b : Told) → owed_in mode steps turn bytes a → owed_in mode steps turn bytes b → alike_in mode a b
  one_owed modes.Run steps turn bytes a b x y = by_run modes.Run steps bytes a b x y
  one_owed modes.Check steps turn bytes a b x y = one_of_script IsChecked (λ s t. t ≡ s) (λ s t e. e) one_checked bytes a b x y
  one_owed modes.Tree steps turn bytes a b x y = by_run modes.Tree steps bytes a b x y
  one_owed modes.Gen steps turn bytes a b x y = by_run modes.Gen steps bytes a b x y
  one_owed modes.Play steps turn bytes a b x y = one_of_play steps turn bytes a b x y
  one_owed modes.Log steps turn bytes a b x y = one_of_script (IsLogged steps) Alike alike_same (one_logged steps) bytes a b x y
  one_owed modes.Audit steps turn bytes a b x y = one_of_log bytes a b x y

  -- one thing is owed for the bytes
  one_told : (options : Options) (bytes : List ℕ) (a b : Told) → IsTold options bytes a → IsTold options bytes b → alike_in options.mode a b
  one_told options bytes a b (too_long x) (too_long y) = same_alike options.mode a b (y.is ∙ sym x.is)
  one_told options bytes a b (too_long x) (served y) = absurd (let m = x.more in let n = y.within in omega arith)
  one_told options bytes a b (served x) (too_long y) = absurd (let m = y.more in let n = x.within in omega arith)
  one_told options bytes a b (served x) (served y) = one_owed options.mode options.steps options.turn bytes a b x.owed y.owed

  -- the same where the options are only equal
  asked_told : (words : List (List ℕ)) (bytes : List ℕ) (d e : Due) (x : IsAsked words bytes d) (y : IsAsked words bytes e) → alike_in (x.options).mode x.told y.told
  asked_told words bytes d e x y =
      one_told x.options (bytes_for x.options bytes) x.told y.told x.is_told (subst (λ (o : Options). IsTold o (bytes_for o bytes) y.told) (one_options words x.options y.options x.asks y.asks) y.is_told)

  one_asked : (words : List (List ℕ)) (bytes : List ℕ) (d e : Due) (x : IsAsked words bytes d) → IsAsked words bytes e → (x.options).mode ≢ modes.Log → e ≡ d
  one_asked words bytes d e x y other =
      let options = one_options words x.options y.options x.asks y.asks in
      let told = one_in (x.options).mode x.told y.told other (asked_told words bytes d e x y) in
      y.is ∙ (λ i. record { taken = taken_by (options i).mode bytes; out = (told i).out; err = (told i).err; status = (told i).status }) ∙ sym x.is

  log_asked : (words : List (List ℕ)) (bytes : List ℕ) (d e : Due) (x : IsAsked words bytes d) → IsAsked words bytes e → (e ≡ record d { out = e.out }) × SameLog d.out e.out
  log_asked words bytes d e x y =
      let options = one_options words x.options y.options x.asks y.asks in
      let h = alike_by (x.options).mode x.told y.told (asked_told words bytes d e x y) in
      let one = ap (λ (due : Due). due.out) x.is in
      let other = ap (λ (due : Due). due.out) y.is in
      let back = sym x.is in
      let taken = ap (λ (due : Due). due.taken) y.is ∙ ap (λ (o : Options). taken_by o.mode bytes) options ∙ ap (λ (due : Due). due.taken) back in
      let err = ap (λ (due : Due). due.err) y.is ∙ ap (λ (t : Told). t.err) h.same ∙ ap (λ (due : Due). due.err) back in
      let status = ap (λ (due : Due). due.status) y.is ∙ ap (λ (t : Told). t.status) h.same ∙ ap (λ (due : Due). due.status) back in (
        λ i. record { taken = taken i; out = e.out; err = err i; status = status i },
        subst (λ (bs : List ℕ). SameLog d.out bs) (sym other) (subst (λ (bs : List ℕ). SameLog bs (y.told).out) (sym one) h.logs),
      )

  pub one_due : OneDue
  one_due words bytes d e (usage x) k none other = absurd (x.fault none)
  one_due words bytes d e (asked x) (usage y) none other = absurd (y.fault none)
  one_due words bytes d e (asked x) (asked y) none other = one_asked words bytes d e x y (other x.options x.asks)

  pub one_log : OneLog
  one_log words bytes d e (usage x) k none = absurd (x.fault none)
  one_log words bytes d e (asked x) (usage y) none = absurd (y.fault none)
  one_log words bytes d e (asked x) (asked y) none = log_asked words bytes d e x y

pub one_usage : OneUsage
one_usage words bytes d e (asked x) k some = absurd (some x.asks.faultless)
one_usage words bytes d e (usage x) (asked y) some = absurd (some y.asks.faultless)
one_usage words bytes d e (usage x) (usage y) some =
    let back = sym x.is in
    (y.is ∙ (λ i. record { taken = (back i).taken; out = (back i).out; err = e.err; status = (back i).status }), x.said, y.said)
