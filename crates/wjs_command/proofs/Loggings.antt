-- The run of a script whose log is written.
use Rattle.std.proofs.Common.{◌≡◌, ℕ, Bool, true, false, not, ◌||◌, List, [], ◌++◌, Option, None, Some, Result, Err, refl, sym, ap, ◌∙◌, subst, IsTrue}
use Rattle.std.specs.Prelude.{unwrap_or}
use Rattle.wjs_base.specs.Text.{Table}
use Rattle.wjs_base.proofs.Booleans.{or_false}
use Rattle.wjs_store.specs.Meaning.{Meaning}
use Rattle.wjs_io.specs.Streams.{Stream, stream}
use Rattle.wjs_io.proofs.Written.{Appends-nil}
use Rattle.wjs_io.proofs.Rising.{never_rises}
use Rattle.wjs_audit.specs.Recorded.{Recorded}
use Rattle.wjs_by_content.specs.Worlds.{told_by}
use Rattle.wjs_logs.specs.Telling.{Tells, logged}
use Rattle.wjs_meaning.specs.Deeds.{St}
use Rattle.wjs_meaning.specs.Programs.{Ending, machine}
use Rattle.wjs_meaning.specs.Start.{properties}
use Rattle.wjs_model.specs.declared.config.Config.{Config}
use Rattle.wjs_model.specs.declared.loaded.LoadedProgram.{LoadedProgram as Program}
use Rattle.wjs_model.specs.Units.{unit_in}
use Rattle.wjs_start.specs.First.{IsNew, writes_told}
use Rattle.wjs_model.specs.declared.halt.Ending.{Ending as Outcome}
use Rattle.wjs_model.specs.declared.halt.Ending.TheVariants as outcomes
use Rattle.wjs_machine.specs.Runs.{run_of, RunsTo}
use Rattle.wjs_command.specs.declared.report.Report.{Report}
use Rattle.wjs_command.specs.declared.report.Stop.{Stop}
use Rattle.wjs_command.specs.declared.report.Stop.TheVariants.{OutOfMemory}
use Rattle.wjs_command.specs.Table.{Told}
use Rattle.wjs_command.specs.Runs.{LogsRun, line_of_end, status_of_end}
use Rattle.wjs_command.specs.Attempt.{Begins, Delivers, Comes, nothing, something, RunIs, HasLogged, IsLogRun, stop_in}
use Rattle.wjs_command.proofs.Deliveries.{comes_as}

-- ---- a new store

-- a new store that is logged is new
pub logged_new : {S : Type 0} (meaning : S → Meaning) (store : S) (r : Recorded S) → IsNew (meaning store) → r ≡ record { inner = store; log = []; spent = false } → IsNew (logged meaning r)
logged_new {S} meaning store r new e = subst (λ (x : Recorded S). IsNew (logged meaning x)) (sym e) (record {
  own = new.own;
  each_view = new.each_view;
  works = ap not (or_false (meaning store).spent) ∙ new.works;
  silent = refl;
})

-- a logged store that works is not marked spent
pub not_marked : (a b : Bool) → IsTrue (not (a || b)) → b ≡ false
not_marked true b h = absurd (cc)
not_marked false true h = absurd (cc)
not_marked false false h = refl

-- ---- a run that nobody hears

module _ {S : Type 0} (meaning : S → Meaning) where
  -- no sink fails, so only memory stops it
  unheard_stop : (old new : Config S) (ending : Outcome) (stop : Stop) → stop_in ending ≡ Some stop → RunsTo meaning (stream None None 0 0) old new ending → stop ≡ OutOfMemory
  unheard_stop old new outcomes.SinkFailed stop e h = absurd (never_rises h.cause)
  unheard_stop old new outcomes.OutOfMemory stop e h = cc
  unheard_stop old new outcomes.Done stop e h = absurd (cc)
  unheard_stop old new (outcomes.Threw v) stop e h = absurd (cc)
  unheard_stop old new outcomes.StepsSpent stop e h = absurd (cc)

  -- at its end the store has told its actions
  has_told : (s : Stream) (old new : Config S) (ending : Outcome) → stop_in ending ≡ None → RunsTo meaning s old new ending → unwrap_or (told_by new.heap.texts (meaning new.heap.store).told) [] ≡ ((run_of meaning old).1).done
  has_told s old new outcomes.Done e h = sym h.done
  has_told s old new (outcomes.Threw v) e h = sym (h.0).done
  has_told s old new outcomes.StepsSpent e h = sym h.done
  has_told s old new outcomes.SinkFailed e h = absurd (cc)
  has_told s old new outcomes.OutOfMemory e h = absurd (cc)

module _ {S : Type 0} (meaning : S → Meaning) where
  pub has_logged : (s : Stream) (old new : Config (Recorded S)) (ending : Outcome) → stop_in ending ≡ None → RunsTo (logged meaning) s old new ending → (r : Ending × St) → RunIs (logged meaning) old r → HasLogged new r
  has_logged s old new ending e h r is = has_told (logged meaning) s old new ending e h ∙ ap (λ q. (q.1).done) is

  -- ---- what comes

  pub log_stops : (held : Option (List ℕ)) (faults : ℕ) (old new : Config (Recorded S)) (ending : Outcome) (stop : Stop) → stop_in ending ≡ Some stop → RunsTo (logged meaning) (stream None None 0 0) old new ending → (r : Ending × St) → Comes (LogsRun r) (stream held held faults faults) (Err stop)
  log_stops held faults old new ending stop e h r = nothing (ap Err (unheard_stop (logged meaning) old new ending stop e h)) (Appends-nil held)

  pub log_run : (texts : Table) (script : Program) (steps : ℕ) (c : Config (Recorded S)) (out : Stream) (result : Result Report Stop) → Begins (logged meaning) texts script steps c → ((r : Ending × St) → RunIs (logged meaning) c r → Comes (LogsRun r) out result) → Comes (IsLogRun texts script steps) out result
  log_run texts script steps c out result b comes =
      let r = machine b.library (unit_in texts script) steps in
      comes_as (LogsRun r) (IsLogRun texts script steps) out result (λ told h. record { library = b.library; first = b.first; run = h }) (comes r b.run)

pub log_comes : (log bytes : List ℕ) (out : Stream) (result : Result Report Stop) (r : Ending × St) → bytes ≡ log → Tells log (writes_told properties ++ (r.1).done) → Delivers (record { out = bytes; err = line_of_end r.0 r.1; status = status_of_end r.0 }) out result → Comes (LogsRun r) out result
log_comes log bytes out result r same tells d =
    let told : Told = record { out = bytes; err = line_of_end r.0 r.1; status = status_of_end r.0 } in
    something told (record { log = subst (λ (bs : List ℕ). Tells bs (writes_told properties ++ (r.1).done)) (sym same) tells; err = refl; status = refl }) d
