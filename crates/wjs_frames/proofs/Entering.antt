-- Frames that wait, that are entered and that go on.
use Rattle.std.proofs.Common.{◌≡◌, ℕ, suc, ◌+◌, ◌≤◌, List, [], ◌∷◌, ◌++◌, refl, sym, ap, ◌∙◌, subst, arith}
use Rattle.std.specs.Prelude.{map as each}
use Rattle.wjs_base.specs.Text.{Table}
use Rattle.wjs_store.specs.Meaning.{Meaning}
use Rattle.wjs_meaning.specs.Deeds.{St, Env, Goal, Completion, Act, Ret, Tick, Eval, Sub, Outcome, Ends, Spent, interp, then_do, node_here}
use Rattle.wjs_meaning.specs.Programs.{Ending, Done, run_next, eval, entry}
use Rattle.wjs_meaning.proofs.Steps.{entries_lem}
use Rattle.wjs_model.specs.declared.config.Config.{Config}
use Rattle.wjs_model.specs.declared.config.State.TheVariants as states
use Rattle.wjs_model.specs.declared.point.Point.{Point}
use Rattle.wjs_model.specs.declared.point.Start.{Start}
use Rattle.wjs_model.specs.declared.frame.Phase.TheVariants as phases
use Rattle.wjs_model.specs.declared.operand.Operand.{Operand}
use Rattle.wjs_model.specs.declared.frame.Completion.{Completion as Said}
use Rattle.wjs_model.specs.declared.frame.Activation.{Activation as NumberedFrame}
use Rattle.wjs_model.specs.Contents.{Frame, Run, frame_in, completion_in, holding_in, operand_in}
use Rattle.wjs_model.specs.Operands.{with_operand}
use Rattle.wjs_model.specs.Rest.{Go, under, given, act_after, begin, begin_at, turns_over, turns_act}
use Rattle.wjs_model.specs.Waiting.{after}
use Rattle.wjs_model.specs.Configurations.{seen, tells, run_in, state_in, frames_in}
use Rattle.wjs_frames.specs.declared.part.Part.{Part}
use Rattle.wjs_frames.specs.declared.part.Part.TheVariants as part
use Rattle.wjs_frames.specs.Parts.{goal_of, start_of, node_of, due_frame, env_in, then_at, begins_at}
use Rattle.wjs_frames.specs.Operands.{IsOperand}
use Rattle.wjs_frames.specs.Keeping.{rest_with, Keeps, Opens}
use Rattle.wjs_frames.proofs.Frames.{each_snoc, under_snoc, turns_under_snoc}
use Rattle.wjs_frames.proofs.Places.{node_same}
use Rattle.wjs_frames.proofs.Keeping.{keeps_framed}
use Rattle.wjs_frames.proofs.OperandLines.{entered_same}

-- what a part's frame begins with is the part's entry
begins_part : (t : Table) (p : Part) (env : Env)
    → begin_at (start_of p) ((node_of p).0) (node_here env (node_of p).0) (holding_in t []) env ≡ entry (goal_of p) env
begins_part t (part.Expr e) env = refl
begins_part t (part.Target e) env = refl
begins_part t (part.Stmt s) env = refl
begins_part t (part.Again s) env = refl

then_do_assoc : (o : Outcome) (one two : Go) → then_do (then_do o one) two ≡ then_do o (λ c st n. then_do (one c st n) two)
then_do_assoc (Ends c st n) one two = refl
then_do_assoc (Spent st) one two = refl

then_ret : (o : Outcome) → then_do o (λ c st n. Ends c st n) ≡ o
then_ret (Ends c st n) = refl
then_ret (Spent st) = refl

then_same : (o : Outcome) (one two : Go) → ((c : Completion) (st : St) (n : ℕ) → one c st n ≡ two c st n) → then_do o one ≡ then_do o two
then_same (Ends c st n) one two h = h c st n
then_same (Spent st) one two h = refl

-- deeds with what follows them are these deeds above a frame that does it with their completion
over_waiting : (run : Run) (fs : List Frame) (f : Frame) (o : Outcome)
    → then_do (then_do o (λ c st n. interp eval (act_after run f c) st n)) (under run fs Ends) ≡ then_do o (under run (fs ++ f ∷ []) Ends)
over_waiting run fs f o =
    then_do_assoc o _ (under run fs Ends)
    ∙ sym (then_same o _ _ (λ c st n. under_snoc run fs f Ends c st n))

enter_rest : (run : Run) (goal : Goal) (env : Env) (fs : List Frame) (f : Frame) (st : St) (n : ℕ)
    → rest_with run (Eval goal env (act_after run f)) fs st n ≡ rest_with run (Tick (entry goal env)) (fs ++ f ∷ []) st n
enter_rest run goal env fs f st n =
    ap (λ o. run_next o (λ st' n'. (Done, st'))) (over_waiting run fs f (eval goal env st n) ∙ ap (λ o. then_do o (under run (fs ++ f ∷ []) Ends)) (entries_lem goal env st n))

last_rest : (run : Run) (goal : Goal) (env : Env) (fs : List Frame) (st : St) (n : ℕ)
    → rest_with run (Eval goal env Ret) fs st n ≡ rest_with run (Tick (entry goal env)) fs st n
last_rest run goal env fs st n =
    ap (λ o. run_next (then_do o (under run fs Ends)) (λ st' n'. (Done, st'))) (then_ret (eval goal env st n) ∙ entries_lem goal env st n)

sub_rest : (run : Run) (act : Act) (fs : List Frame) (f : Frame) (st : St) (n : ℕ)
    → rest_with run (Sub act (act_after run f)) fs st n ≡ rest_with run act (fs ++ f ∷ []) st n
sub_rest run act fs f st n = ap (λ o. run_next o (λ st' n'. (Done, st'))) (over_waiting run fs f (interp eval act st n))

sub_turns : (run : Run) (act : Act) (fs : List Frame) (f : Frame) (st : St)
    → turns_over run (Sub act (act_after run f)) fs st ≡ suc (turns_over run act (fs ++ f ∷ []) st)
sub_turns run act fs f st = ap (λ go. suc (turns_act act st go)) (sym (turns_under_snoc run fs f (λ c st'. 0)))

one_due : (k : ℕ) → 0 + 1 ≤ suc k
one_due k = omega arith

fewer_above : (x y k : ℕ) → k ≡ suc y → x + 0 ≤ suc y → x + 1 ≤ suc k
fewer_above x y k e h = omega (arith, e, h)

one_given : (x y : ℕ) → x ≡ y → suc x + 1 ≤ suc (suc (suc y))
one_given x y e = omega (arith, e)

no_fewer : (x : ℕ) → x + 0 ≤ x
no_fewer x = omega arith

module _ {S : Type 0} (meaning : S → Meaning) where
  -- what a frame does at a point is the point's line
  pub given_then : (t : Table) (old : Config S) (f : NumberedFrame) (point : Point)
      → given (run_in meaning t old) (frame_in t f) point ≡ then_at meaning old f point t (env_in meaning old t f)
  given_then t old f point = ap (λ node. after point f.node.0 node (holding_in t f.held) (env_in meaning old t f)) (node_same t old.units.items f.tree f.node)

  -- and that of one that waits there
  waits_then : (t : Table) (old : Config S) (f : NumberedFrame) (point : Point)
      → act_after (run_in meaning t old) (frame_in t (record f { phase = phases.Waiting point })) ≡ then_at meaning old f point t (env_in meaning old t f)
  waits_then t old f point = given_then t old f point

  -- what a frame begins with is the start's line
  pub begin_then : (t : Table) (old : Config S) (f : NumberedFrame) (start : Start)
      → begin (run_in meaning t old) (frame_in t f) start ≡ begins_at meaning old f start t (env_in meaning old t f)
  begin_then t old f start = ap (λ node. begin_at start f.node.0 node (holding_in t f.held) (env_in meaning old t f)) (node_same t old.units.items f.tree f.node)

  -- a frame waits, and a part is due above it
  pub keeps_enter : (t : Table) (old : Config S) (f : NumberedFrame) (point : Point) (p : Part) (mid frames : List NumberedFrame) → old.state ≡ states.Running
      → mid ≡ old.frames ++ record f { phase = phases.Waiting point } ∷ [] → frames ≡ mid ++ due_frame f p ∷ []
      → Keeps meaning t 1 (Eval (goal_of p) (env_in meaning old t f) (then_at meaning old f point t (env_in meaning old t f))) old (record old { frames = frames })
  keeps_enter t old f point p mid frames er em ef =
      let run = run_in meaning t old in
      let w = record f { phase = phases.Waiting point } in
      let env = env_in meaning old t f in
      let eg : each (frame_in t) mid ≡ frames_in meaning t old ++ frame_in t w ∷ [] = ap (each (frame_in t)) em ∙ each_snoc (frame_in t) old.frames w in
      keeps_framed meaning t 1 _ (Tick (entry (goal_of p) env)) old frames mid (due_frame f p) er ef (ap Tick (begins_part t p env))
      (λ st n. ap (λ go. rest_with run (Eval (goal_of p) env go) (frames_in meaning t old) st n) (sym (waits_then t old f point)) ∙ enter_rest run (goal_of p) env (frames_in meaning t old) (frame_in t w) st n ∙ sym (ap (λ l. rest_with run (Tick (entry (goal_of p) env)) l st n) eg))
      (λ st. one_due _)

  -- a frame waits for an operand, whose step is due
  pub keeps_operand : (t : Table) (old : Config S) (f : NumberedFrame) (point : Point) (p : Part) (o : Operand) (frames : List NumberedFrame)
      → old.state ≡ states.Running → IsOperand meaning old f p o → frames ≡ old.frames ++ record f { phase = phases.Entering point o } ∷ []
      → Keeps meaning t 1 (Eval (goal_of p) (env_in meaning old t f) (then_at meaning old f point t (env_in meaning old t f))) old (record old { frames = frames })
  keeps_operand t old f point p o frames er is ef =
      let run = run_in meaning t old in
      let env = env_in meaning old t f in
      let go = then_at meaning old f point t env in
      let act = with_operand (operand_in t o) env go in
      keeps_framed meaning t 1 _ (Tick act) old frames old.frames (record f { phase = phases.Entering point o }) er ef (ap (λ k. Tick (with_operand (operand_in t o) env k)) (given_then t old f point))
      (λ st n. ap (λ out. run_next (then_do out (under run (frames_in meaning t old) Ends)) (λ st' n'. (Done, st'))) (entered_same (goal_of p) env go act (is.does t go) st n))
      (λ st. one_due _)

  -- a frame goes on with a completion
  pub keeps_going : (t : Table) (old : Config S) (f : NumberedFrame) (point : Point) (c : Said) (frames : List NumberedFrame) → old.state ≡ states.Running
      → frames ≡ old.frames ++ record f { phase = phases.Given point c } ∷ []
      → Keeps meaning t 1 (Sub (Ret (completion_in t c)) (then_at meaning old f point t (env_in meaning old t f))) old (record old { frames = frames })
  keeps_going t old f point c frames er ef =
      let run = run_in meaning t old in
      let go = then_at meaning old f point t (env_in meaning old t f) in
      let d = completion_in t c in
      let is : given run (frame_in t f) point d ≡ go d = ap (λ (k : Completion → Act). k d) (given_then t old f point) in
      keeps_framed meaning t 1 (Sub (Ret d) go) (go d) old frames old.frames (record f { phase = phases.Given point c }) er ef is
      (λ st n. refl) (λ st. one_given _ _ (ap (λ (a : Act). turns_over run a (frames_in meaning t old) st) is))

  -- a part is due in the place of a frame
  pub keeps_last : (t : Table) (old : Config S) (at : NumberedFrame) (p : Part) (frames : List NumberedFrame) → old.state ≡ states.Running
      → frames ≡ old.frames ++ due_frame at p ∷ [] → Keeps meaning t 1 (Eval (goal_of p) (env_in meaning old t at) Ret) old (record old { frames = frames })
  keeps_last t old at p frames er ef =
      let run = run_in meaning t old in
      let env = env_in meaning old t at in
      keeps_framed meaning t 1 _ (Tick (entry (goal_of p) env)) old frames old.frames (due_frame at p) er ef (ap Tick (begins_part t p env))
      (λ st n. last_rest run (goal_of p) env (frames_in meaning t old) st n)
      (λ st. one_due _)

  -- a frame goes on at once
  pub keeps_ready : (t : Table) (old : Config S) (f : NumberedFrame) (start : Start) (frames : List NumberedFrame) → old.state ≡ states.Running
      → frames ≡ old.frames ++ record f { phase = phases.Ready start } ∷ []
      → Keeps meaning t 0 (begins_at meaning old f start t (env_in meaning old t f)) old (record old { frames = frames })
  keeps_ready t old f start frames er ef =
      let run = run_in meaning t old in
      let gs = frames_in meaning t old in
      let env = env_in meaning old t f in
      let begun : begin run (frame_in t f) start ≡ begins_at meaning old f start t env = begin_then t old f start in
      keeps_framed meaning t 0 _ _ old frames old.frames (record f { phase = phases.Ready start }) er ef begun (λ st n. refl)
      (λ st. subst (λ a. suc (turns_over run a gs st) + 0 ≤ suc (turns_over run (begins_at meaning old f start t env) gs st)) (sym begun) (no_fewer _))

  -- a step is due first
  pub keeps_due : (t : Table) (old : Config S) (f : NumberedFrame) (start : Start) (frames : List NumberedFrame) → old.state ≡ states.Running
      → frames ≡ old.frames ++ record f { phase = phases.Due start } ∷ []
      → Keeps meaning t 1 (Tick (begins_at meaning old f start t (env_in meaning old t f))) old (record old { frames = frames })
  keeps_due t old f start frames er ef =
      keeps_framed meaning t 1 _ _ old frames old.frames (record f { phase = phases.Due start }) er ef (ap Tick (begin_then t old f start)) (λ st n. refl) (λ st. one_due _)

  -- a frame waits for what is done next
  pub opens_waiting : (t : Table) (old : Config S) (f : NumberedFrame) (point : Point) (frames : List NumberedFrame)
      → frames ≡ old.frames ++ record f { phase = phases.Waiting point } ∷ []
      → Opens meaning t (then_at meaning old f point t (env_in meaning old t f)) old (record old { frames = frames })
  opens_waiting t old f point frames ef = record {
    by = λ act later k.
        let run = run_in meaning t old in
        let w = record f { phase = phases.Waiting point } in
        let go = then_at meaning old f point t (env_in meaning old t f) in
        let eg : each (frame_in t) frames ≡ frames_in meaning t old ++ frame_in t w ∷ [] = ap (each (frame_in t)) ef ∙ each_snoc (frame_in t) old.frames w in
        let s = k.stays in
        record {
          stays = record { units = s.units; global = s.global; world = s.world; owner = s.owner; apart = s.apart; texts = s.texts; objects = s.objects; made = s.made; own = s.own; around = s.around; narrows = s.narrows };
          cost = k.cost;
          left = k.left;
          alive = k.alive;
          kept = λ v a h n.
              let st = state_in meaning t v old in
              let m = k.cost + n in
              ap (seen (tells meaning old)) (ap (λ q. rest_with run (Sub act q) (frames_in meaning t old) st m) (sym (waits_then t old f point)) ∙ sub_rest run act (frames_in meaning t old) (frame_in t w) st m ∙ sym (ap (λ l. rest_with run act l st m) eg))
              ∙ k.kept v a h n;
          paid = λ v a h m l.
              let st = state_in meaning t v old in
              ap (λ (r : Ending × St). r.0) (ap (λ q. rest_with run (Sub act q) (frames_in meaning t old) st m) (sym (waits_then t old f point)) ∙ sub_rest run act (frames_in meaning t old) (frame_in t w) st m ∙ sym (ap (λ l. rest_with run act l st m) eg))
              ∙ k.paid v a h m l;
          knows = k.knows;
          falls = λ none v a h.
              let st = state_in meaning t v old in
              let e : turns_over run (Sub act go) (frames_in meaning t old) st ≡ suc (turns_over run act (each (frame_in t) frames) st) =
              ap (λ q. turns_over run (Sub act q) (frames_in meaning t old) st) (sym (waits_then t old f point))
              ∙ sub_turns run act (frames_in meaning t old) (frame_in t w) st
              ∙ ap (λ l. suc (turns_over run act l st)) (sym eg) in
              fewer_above _ _ _ e (k.falls none v a h);
        };
  }
