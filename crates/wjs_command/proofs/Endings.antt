-- The end of a run, and what is told of it.
use Rattle.std.proofs.Common.{◌≡◌, ℕ, ◌≤◌, Bool, true, false, List, [], ◌++◌, Option, None, Some, Result, Ok, Err, IfOk, refl, sym, ◌∙◌, ap, subst, codes}
use Rattle.wjs_base.specs.declared.ids.OutOfMemory.{OutOfMemory as NoMemory}
use Rattle.wjs_base.specs.declared.values.Value.{Value as NumberedValue}
use Rattle.wjs_store.specs.Meaning.{Meaning}
use Rattle.wjs_io.specs.Streams.{Stream, stream, Got}
use Rattle.wjs_by_content.specs.Plans.{Told as Deed}
use Rattle.wjs_by_content.specs.Tables.{value_in}
use Rattle.wjs_meaning.specs.Deeds.{St}
use Rattle.wjs_meaning.specs.Programs.{Ending, Done, Threw, StepsSpent}
use Rattle.wjs_store.specs.State.{first_world}
use Rattle.wjs_meaning.specs.Start.{properties}
use Rattle.wjs_model.specs.declared.config.Config.{Config}
use Rattle.wjs_model.specs.Configurations.{seen, after_done, tells}
use Rattle.wjs_model.specs.Soundness.{Sound}
use Rattle.wjs_start.specs.First.{writes_told}
use Rattle.wjs_reports.specs.Thrown.{ShowsIn}
use Rattle.wjs_reports.proofs.Carried.{shows_first}
use Rattle.wjs_model.specs.declared.halt.Ending.{Ending as Outcome}
use Rattle.wjs_model.specs.declared.halt.Ending.TheVariants as outcomes
use Rattle.wjs_machine.specs.Runs.{output_of, EndsAs, RunsTo}
use Rattle.wjs_machine.proofs.Running.{stops_longer}
use Rattle.wjs_options.specs.declared.mode.Mode.{Mode}
use Rattle.wjs_command.specs.declared.report.Report.{Report}
use Rattle.wjs_command.specs.declared.report.Stop.{Stop}
use Rattle.wjs_command.specs.declared.report.Stop.TheVariants.{OutFault, OutOfMemory}
use Rattle.wjs_command.specs.declared.status.Status.TheVariants as statuses
use Rattle.wjs_command.specs.Table.{Told, line}
use Rattle.wjs_command.specs.Runs.{told_by_run, line_of_end, status_of_end, behind_output}
use Rattle.wjs_command.specs.Attempt.{IsReport, Delivers, IsEndOf, MeansEnd, RunIs, HasThrown, stop_in}
use Rattle.wjs_command.proofs.Deliveries.{prefix_longer, deliver_on}

-- what is told of actions changes nothing else of a run
seen_ending : (b : Bool) (done : List Deed) (r : Ending × St) → (seen b (after_done done r)).0 ≡ r.0
seen_ending true done r = refl
seen_ending false done r = refl

seen_full : (b : Bool) (done : List Deed) (r : Ending × St) → ((seen b (after_done done r)).1).full ≡ (r.1).full
seen_full true done r = refl
seen_full false done r = refl

seen_arena : (b : Bool) (done : List Deed) (r : Ending × St) → ((seen b (after_done done r)).1).arena ≡ (r.1).arena
seen_arena true done r = refl
seen_arena false done r = refl

seen_out : (b : Bool) (done : List Deed) (r : Ending × St) → ((seen b (after_done done r)).1).out ≡ (r.1).out
seen_out true done r = refl
seen_out false done r = refl

module _ {S : Type 0} (meaning : S → Meaning) where
  -- a run that has come to its end
  pub record HasEnded (s : Stream) (old new : Config S) (ending : Outcome) : Type 0 where
    pub got : Got s (output_of meaning old)
    pub sound : Sound meaning new
    pub world : new.world ≡ old.world
    pub thrown : HasThrown new ending
    pub is_end : (r : Ending × St) → RunIs meaning old r → IsEndOf meaning new ending r

  is_end_by : (s : Stream) (old new : Config S) (ending : Outcome) (meant : Ending) → ((e : Ending) → e ≡ meant → MeansEnd new.heap.texts ending e) → EndsAs meaning s old new meant → (r : Ending × St) → RunIs meaning old r → IsEndOf meaning new ending r
  is_end_by s old new ending meant means h r is =
      let told = tells meaning old in
      let done = writes_told properties in
      record {
        ends = means r.0 (sym (ap (λ q. q.0) is ∙ seen_ending told done r) ∙ h.ends);
        worlds_are = sym (ap (λ q. (q.1).full) is ∙ seen_full told done r) ∙ h.worlds;
        arena_is = sym (ap (λ q. (q.1).arena) is ∙ seen_arena told done r) ∙ h.arena;
      }

  ended_as : (s : Stream) (old new : Config S) (ending : Outcome) (meant : Ending) → ((e : Ending) → e ≡ meant → MeansEnd new.heap.texts ending e) → HasThrown new ending → EndsAs meaning s old new meant → HasEnded s old new ending
  ended_as s old new ending meant means thrown h = record { got = h.got; sound = h.sound; world = h.stays.world; thrown = thrown; is_end = is_end_by s old new ending meant means h }

  pub ended : (s : Stream) (old new : Config S) (ending : Outcome) → stop_in ending ≡ None → RunsTo meaning s old new ending → HasEnded s old new ending
  ended s old new outcomes.Done e h = ended_as s old new outcomes.Done Done (λ x q. q) tt h
  ended s old new (outcomes.Threw v) e h = ended_as s old new (outcomes.Threw v) (Threw (value_in new.heap.texts v)) (λ x q. q) h.1 h.0
  ended s old new outcomes.StepsSpent e h = ended_as s old new outcomes.StepsSpent StepsSpent (λ x q. q) tt h
  ended s old new outcomes.SinkFailed e h = absurd (cc)
  ended s old new outcomes.OutOfMemory e h = absurd (cc)

  -- the output of the run that is left
  output_is : (c : Config S) (r : Ending × St) → RunIs meaning c r → output_of meaning c ≡ (r.1).out
  output_is c r is = ap (λ q. (q.1).out) is ∙ seen_out (tells meaning c) (writes_told properties) r

  -- a run that was stopped
  pub stopped : (s : Stream) (old new : Config S) (ending : Outcome) (stop : Stop) (mode : Mode) → stop_in ending ≡ Some stop → RunsTo meaning s old new ending → (r : Ending × St) → RunIs meaning old r → Delivers (told_by_run mode r) s (Err stop)
  stopped s old new outcomes.SinkFailed stop mode e h r is =
      let all = (r.1).out ++ behind_output mode r.1 in
      let P : Stop → Type 0 = λ x. Delivers (told_by_run mode r) s (Err x) in
      let same : OutFault ≡ stop = cc in
      subst P same (stops_longer s (output_of meaning old) all (behind_output mode r.1) (ap (λ l. l ++ behind_output mode r.1) (sym (output_is old r is))) h)
  stopped s old new outcomes.OutOfMemory stop mode e h r is =
      let all = (r.1).out ++ behind_output mode r.1 in
      let P : Stop → Type 0 = λ x. Delivers (told_by_run mode r) s (Err x) in
      let same : OutOfMemory ≡ stop = cc in
      subst P same (prefix_longer s (output_of meaning old) all (behind_output mode r.1) (ap (λ l. l ++ behind_output mode r.1) (sym (output_is old r is))) h)
  stopped s old new outcomes.Done stop mode e h r is = absurd (cc)
  stopped s old new (outcomes.Threw v) stop mode e h r is = absurd (cc)
  stopped s old new outcomes.StepsSpent stop mode e h r is = absurd (cc)

  -- what stands behind the output was delivered, too
  pub whole_run : (before middle after : Option (List ℕ)) (f0 f1 f2 : ℕ) (old new : Config S) (ending : Outcome) (mode : Mode) (result : Result Report Stop) → f0 ≤ f1 → HasEnded (stream before middle f0 f1) old new ending → ((r : Ending × St) → IsEndOf meaning new ending r → Delivers (record { out = behind_output mode r.1; err = line_of_end r.0 r.1; status = status_of_end r.0 }) (stream middle after f1 f2) result) → (r : Ending × St) → RunIs meaning old r → Delivers (told_by_run mode r) (stream before after f0 f2) result
  whole_run before middle after f0 f1 f2 old new ending mode result le h d r is =
      let behind : Told = record { out = behind_output mode r.1; err = line_of_end r.0 r.1; status = status_of_end r.0 } in
      deliver_on before middle after f0 f1 f2 (r.1).out behind result le (subst (Got (stream before middle f0 f1)) (output_is old r is) h.got) (d r (h.is_end r is))

  -- ---- the report

  by_end : (report : Report) (meant e : Ending) (st : St) → e ≡ meant → IsReport (status_of_end meant) (line_of_end meant st) report → IsReport (status_of_end e) (line_of_end e st) report
  by_end report meant e st is h = subst (λ x. IsReport (status_of_end x) (line_of_end x st) report) (sym is) h

  pub told_done : (c : Config S) (report : Report) → IsReport statuses.Done [] report → (r : Ending × St) → IsEndOf meaning c outcomes.Done r → IsReport (status_of_end r.0) (line_of_end r.0 r.1) report
  told_done c report h r is = by_end report Done r.0 r.1 is.ends h

  pub told_spent : (c : Config S) (report : Report) → IsReport statuses.StepsSpent (line (codes "step budget spent")) report → (r : Ending × St) → IsEndOf meaning c outcomes.StepsSpent r → IsReport (status_of_end r.0) (line_of_end r.0 r.1) report
  told_spent c report h r is = by_end report StepsSpent r.0 r.1 is.ends h

  told_thrown : (c : Config S) (v : NumberedValue) (text : List ℕ) (report : Report) → c.world ≡ first_world → ShowsIn meaning c v text → IsReport statuses.Threw (line (codes "uncaught " ++ text)) report → (r : Ending × St) → IsEndOf meaning c (outcomes.Threw v) r → IsReport (status_of_end r.0) (line_of_end r.0 r.1) report
  told_thrown c v text report first shows h r is =
      let t = c.heap.texts in
      let same = shows_first meaning c v text first shows r.1 is.worlds_are is.arena_is in
      by_end report (Threw (value_in t v)) r.0 r.1 is.ends (subst (λ x. IsReport statuses.Threw (line (codes "uncaught " ++ x)) report) same h)

  pub told_thrown_if : (c : Config S) (v : NumberedValue) (text shown : List ℕ) (result : Result Report NoMemory) → c.world ≡ first_world → ShowsIn meaning c v text → shown ≡ text → IfOk result (IsReport statuses.Threw (line (codes "uncaught " ++ shown))) → IfOk result (λ report. (r : Ending × St) → IsEndOf meaning c (outcomes.Threw v) r → IsReport (status_of_end r.0) (line_of_end r.0 r.1) report)
  told_thrown_if c v text shown (Ok report) first shows same h = told_thrown c v text report first shows (subst (λ l. IsReport statuses.Threw (line (codes "uncaught " ++ l)) report) same h)
  told_thrown_if c v text shown (Err e) first shows same h = tt
