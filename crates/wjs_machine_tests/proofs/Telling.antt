-- What is told of a run that has ended.
use Rattle.std.proofs.Common.{◌≡◌, ℕ, List, Option, None, Some, refl, sym, ap, ◌∙◌, IfSome}
use Rattle.std.specs.Prelude.{is_some}
use Rattle.std.specs.Option.{option_map}
use Rattle.wjs_base.specs.Text.{Table, Grows}
use Rattle.wjs_base.proofs.TextLaws.{Grows-refl}
use Rattle.wjs_store.specs.Meaning.{Meaning, PlainAct, PlainReply}
use Rattle.wjs_io.specs.Streams.{Stream, Failed}
use Rattle.wjs_meaning.specs.Trees.{Tree}
use Rattle.wjs_meaning.specs.Deeds.{St}
use Rattle.wjs_meaning.specs.Programs.{Ending, machine}
use Rattle.wjs_meaning.specs.Start.{properties}
use Rattle.wjs_model.specs.declared.config.Config.{Config}
use Rattle.wjs_model.specs.declared.loaded.LoadedProgram.{LoadedProgram as Program}
use Rattle.wjs_model.specs.Configurations.{seen, after_done}
use Rattle.wjs_model.specs.Texts.{KnowsUnit}
use Rattle.wjs_model.specs.Units.{unit_in}
use Rattle.wjs_frames.proofs.NodesGrow.{unit_grows}
use Rattle.wjs_frames.specs.Reaching.{AdmitsOwn}
use Rattle.wjs_start.specs.First.{writes_told}
use Rattle.wjs_start.specs.Starting.{Starts}
use Rattle.wjs_model.specs.declared.halt.Ending.{Ending as Outcome}
use Rattle.wjs_model.specs.declared.halt.Ending.TheVariants as outcomes
use Rattle.wjs_machine.specs.Runs.{run_of, RunsTo}
use Rattle.wjs_machine_tests.specs.Telling.{told_by_store, HasTold, told_of_run}

library_same : (texts t : Table) (library : Option Program) → Grows texts t → IfSome library (KnowsUnit texts) → option_map (unit_in t) library ≡ option_map (unit_in texts) library
library_same texts t None g known = refl
library_same texts t (Some u) g known = ap (λ (x : Tree). Some x) (unit_grows texts t g u known)

told_so : (before : Option (List (PlainAct × PlainReply))) (r : Ending × St) → ((seen (is_some before) (after_done (writes_told properties) r)).1).done ≡ told_of_run before r
told_so None r = refl
told_so (Some done) r = refl

module _ {S : Type 0} (meaning : S → Meaning) where
  pub has_told : (s : Stream) (old new : Config S) (ending : Outcome) → (Failed s → ⊥) → RunsTo meaning s old new ending → HasTold meaning old new ending
  has_told s old new outcomes.Done never h = sym h.done
  has_told s old new (outcomes.Threw v) never h = sym (h.0).done
  has_told s old new outcomes.StepsSpent never h = sym h.done
  has_told s old new outcomes.SinkFailed never h = never h.cause
  has_told s old new outcomes.OutOfMemory never h = tt

  pub told_at_end : (old new : Config S) (ending : Outcome) → (ending ≡ outcomes.OutOfMemory → ⊥) → HasTold meaning old new ending → told_by_store meaning new ≡ ((run_of meaning old).1).done
  told_at_end old new outcomes.Done other h = h
  told_at_end old new (outcomes.Threw v) other h = h
  told_at_end old new outcomes.StepsSpent other h = h
  told_at_end old new outcomes.SinkFailed other h = absurd h
  told_at_end old new outcomes.OutOfMemory other h = absurd (other refl)

  -- the actions of a run from the start are the machine's, behind the first writes
  pub program_told : (texts : Table) (before : Meaning) (library : Option Program) (script : Program) (budget : ℕ) (first : Config S) → AdmitsOwn meaning first → IfSome library (KnowsUnit texts) → KnowsUnit texts script → Starts meaning texts before library script budget first
      → ((run_of meaning first).1).done ≡ told_of_run before.told (machine (option_map (unit_in texts) library) (unit_in texts script) budget)
  program_told texts before library script budget first admitted known script_known starts =
      let t = first.heap.texts in
      let libraries = library_same texts t library starts.grows known in
      let scripts = unit_grows texts t starts.grows script script_known in
      ap (λ r. (r.1).done) (
      starts.run_is t (Grows-refl t) (meaning first.heap.store).own admitted first.left
      ∙ (λ i. seen (is_some before.told) (after_done (writes_told properties) (machine (libraries i) (scripts i) (starts.left i)))))
      ∙ told_so before.told (machine (option_map (unit_in texts) library) (unit_in texts script) budget)
