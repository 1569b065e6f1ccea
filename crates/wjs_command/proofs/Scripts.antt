-- What is owed for bytes, by the mode.
use Rattle.std.proofs.Common.{◌≡◌, ◌≢◌, ℕ, ◌≤◌, List, Option, Result, Ok, Err, refl, sym, ap, subst, length, arith}
use Rattle.wjs_base.specs.Text.{Table}
use Rattle.wjs_io.specs.Streams.{Stream, stream}
use Rattle.wjs_io.proofs.Written.{Appends-nil}
use Rattle.wjs_load.specs.declared.tokens.Refusal.{Refusal}
use Rattle.wjs_load.specs.declared.tokens.LoadFault.{LoadFault}
use Rattle.wjs_load.specs.declared.tokens.LoadFault.TheVariants as faults
use Rattle.wjs_load.specs.Loading.{Refuses as AreRefused, IsRefused as IsNone}
use Rattle.wjs_model.specs.declared.loaded.LoadedProgram.{LoadedProgram as Program}
use Rattle.wjs_model.specs.Units.{unit_in}
use Rattle.wjs_audit.specs.declared.fault.AuditFault.{AuditFault}
use Rattle.wjs_audit.specs.declared.fault.AuditFault.TheVariants.{NotALog, NotTheAnswer, OutOfMemory}
use Rattle.wjs_logs.specs.Judging.{HasFault, Blames}
use Rattle.wjs_options.specs.declared.answer.Options.{Options}
use Rattle.wjs_options.specs.declared.mode.Mode.{Mode}
use Rattle.wjs_options.specs.declared.mode.Mode.TheVariants as modes
use Rattle.wjs_command.specs.declared.report.Report.{Report}
use Rattle.wjs_command.specs.declared.report.Stop.{Stop}
use Rattle.wjs_command.specs.Table.{Told}
use Rattle.wjs_programs.specs.Programs.{IsProgram}
use Rattle.wjs_command.specs.Refusals.{refused, text_of_refusal}
use Rattle.wjs_command.specs.Due.{most_of, text_of_fault, IsRefused, IsRun, OfScript, refuses, reads, OfLog, blames, agrees, IsAgreed, owed_in, IsTold, served}
use Rattle.wjs_command.specs.Attempt.{IsRunOf, IsLogRun, Delivers, Comes, nothing, something, Refuses, RefusesAs, RefusesLog}
use Rattle.wjs_command.proofs.Deliveries.{comes_as}

-- in each mode a script's bytes are not too many
pub most_least : (mode : Mode) → 16777216 ≤ most_of mode
most_least modes.Run = omega arith
most_least modes.Check = omega arith
most_least modes.Tree = omega arith
most_least modes.Gen = omega arith
most_least modes.Play = omega arith
most_least modes.Log = omega arith
most_least modes.Audit = omega arith

-- where they may not be more
pub most_script : (mode : Mode) (bytes : List ℕ) → mode ≢ modes.Audit → length bytes ≤ most_of mode → length bytes ≤ 16777216
most_script modes.Run bytes other within = within
most_script modes.Check bytes other within = within
most_script modes.Tree bytes other within = within
most_script modes.Gen bytes other within = within
most_script modes.Play bytes other within = within
most_script modes.Log bytes other within = within
most_script modes.Audit bytes other within = absurd (other refl)

-- what is owed in the mode is owed for the bytes, which aren't too many
pub served_comes : (options : Options) (bytes : List ℕ) (out : Stream) (result : Result Report Stop) → length bytes ≤ most_of options.mode → Comes (owed_in options.mode options.steps options.turn bytes) out result → Comes (IsTold options bytes) out result
served_comes options bytes out result within h =
    comes_as (owed_in options.mode options.steps options.turn bytes) (IsTold options bytes) out result (λ told owed. served (record { within = within; owed = owed })) h

-- ---- scripts

-- bytes that are no script are refused in each mode that takes one
refused_owed : (mode : Mode) (steps turn : ℕ) (bytes : List ℕ) (told : Told) → mode ≢ modes.Audit → mode ≢ modes.Play → IsRefused bytes told → owed_in mode steps turn bytes told
refused_owed modes.Run steps turn bytes told other script is = refuses is
refused_owed modes.Check steps turn bytes told other script is = refuses is
refused_owed modes.Tree steps turn bytes told other script is = refuses is
refused_owed modes.Gen steps turn bytes told other script is = refuses is
refused_owed modes.Play steps turn bytes told other script is = absurd (script refl)
refused_owed modes.Log steps turn bytes told other script is = refuses is
refused_owed modes.Audit steps turn bytes told other script is = absurd (other refl)

-- and in the modes that print a run is owed
run_owed : (mode : Mode) (steps turn : ℕ) (bytes : List ℕ) (told : Told) → mode ≢ modes.Audit → mode ≢ modes.Play → mode ≢ modes.Check → mode ≢ modes.Log → OfScript (IsRun mode steps) bytes told → owed_in mode steps turn bytes told
run_owed modes.Run steps turn bytes told other script unchecked unlogged is = is
run_owed modes.Check steps turn bytes told other script unchecked unlogged is = absurd (unchecked refl)
run_owed modes.Tree steps turn bytes told other script unchecked unlogged is = is
run_owed modes.Gen steps turn bytes told other script unchecked unlogged is = is
run_owed modes.Play steps turn bytes told other script unchecked unlogged is = absurd (script refl)
run_owed modes.Log steps turn bytes told other script unchecked unlogged is = absurd (unlogged refl)
run_owed modes.Audit steps turn bytes told other script unchecked unlogged is = absurd (other refl)

pub run_told : (options : Options) (bytes : List ℕ) (texts : Table) (script : Program) → options.mode ≢ modes.Audit → options.mode ≢ modes.Play → options.mode ≢ modes.Check → options.mode ≢ modes.Log → IsProgram bytes (unit_in texts script) → (told : Told) → IsRunOf texts script options.steps options.mode told → owed_in options.mode options.steps options.turn bytes told
run_told options bytes texts script other one unchecked unlogged spelled told h = run_owed options.mode options.steps options.turn bytes told other one unchecked unlogged (reads (record {
  tree = unit_in texts script;
  spelled = spelled;
  owed = record { library = h.library; first = h.first; is = h.is };
}))

-- in mode `log` the log of a run is
pub log_told : (options : Options) (bytes : List ℕ) (texts : Table) (script : Program) → options.mode ≡ modes.Log → IsProgram bytes (unit_in texts script) → (told : Told) → IsLogRun texts script options.steps told → owed_in options.mode options.steps options.turn bytes told
log_told options bytes texts script is spelled told h = subst (λ (m : Mode). owed_in m options.steps options.turn bytes told) (sym is) (reads (record {
  tree = unit_in texts script;
  spelled = spelled;
  owed = record { library = h.library; first = h.first; run = h.run };
}))

-- the reason is reported, or memory ran out
refusal_comes : (options : Options) (bytes : List ℕ) (refusal : Refusal) (result : Result Report Stop) (one : Option (List ℕ)) (counted : ℕ) → options.mode ≢ modes.Audit → options.mode ≢ modes.Play → AreRefused bytes refusal → Refuses (text_of_refusal refusal) result → Comes (owed_in options.mode options.steps options.turn bytes) (stream one one counted counted) result
refusal_comes options bytes refusal (Ok report) one counted other script why is =
    let told = refused (text_of_refusal refusal) in
    something told (refused_owed options.mode options.steps options.turn bytes told other script (record { refusal = refusal; why = why; is = refl })) (Appends-nil one, is)
refusal_comes options bytes refusal (Err e) one counted other script why is = nothing (ap Err is) (Appends-nil one)

pub fault_comes : (options : Options) (bytes : List ℕ) (fault : LoadFault) (result : Result Report Stop) (one : Option (List ℕ)) (counted : ℕ) → options.mode ≢ modes.Audit → options.mode ≢ modes.Play → IsNone bytes fault → RefusesAs fault result → Comes (owed_in options.mode options.steps options.turn bytes) (stream one one counted counted) result
fault_comes options bytes (faults.Refused refusal) result one counted other script why is = refusal_comes options bytes refusal result one counted other script why is
fault_comes options bytes faults.OutOfMemory result one counted other script why is = nothing is (Appends-nil one)

-- in mode `check` this is owed for a script
pub check_comes : (mode : Mode) (steps turn : ℕ) (bytes : List ℕ) (out : Stream) (result : Result Report Stop) (told : Told) → mode ≡ modes.Check → owed_in modes.Check steps turn bytes told → Delivers told out result → Comes (owed_in mode steps turn bytes) out result
check_comes mode steps turn bytes out result told is owed d = something told (subst (λ (m : Mode). owed_in m steps turn bytes told) (sym is) owed) d

-- ---- logs

pub log_owed : (mode : Mode) (steps turn : ℕ) (bytes : List ℕ) (told : Told) → mode ≡ modes.Audit → OfLog bytes told → owed_in mode steps turn bytes told
log_owed mode steps turn bytes told is h = subst (λ (m : Mode). owed_in m steps turn bytes told) (sym is) h

pub agree_comes : (bytes : List ℕ) (out : Stream) (result : Result Report Stop) (told : Told) → IsAgreed bytes told → Delivers told out result → Comes (OfLog bytes) out result
agree_comes bytes out result told is d = something told (agrees is) d

blame_comes : (bytes : List ℕ) (fault : AuditFault) (result : Result Report Stop) (one : Option (List ℕ)) (counted : ℕ) → HasFault bytes fault → Refuses (text_of_fault fault) result → Comes (OfLog bytes) (stream one one counted counted) result
blame_comes bytes fault (Ok report) one counted why is = something (refused (text_of_fault fault)) (blames (record { fault = fault; why = why; is = refl })) (Appends-nil one, is)
blame_comes bytes fault (Err e) one counted why is = nothing (ap Err is) (Appends-nil one)

pub audit_comes : (bytes : List ℕ) (fault : AuditFault) (result : Result Report Stop) (one : Option (List ℕ)) (counted : ℕ) → Blames bytes fault → RefusesLog fault result → Comes (OfLog bytes) (stream one one counted counted) result
audit_comes bytes (NotALog n) result one counted why is = blame_comes bytes (NotALog n) result one counted why is
audit_comes bytes (NotTheAnswer n) result one counted why is = blame_comes bytes (NotTheAnswer n) result one counted why is
audit_comes bytes OutOfMemory result one counted why is = nothing is (Appends-nil one)
