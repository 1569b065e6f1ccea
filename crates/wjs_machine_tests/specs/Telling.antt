-- What a store tells of a run.
use Rattle.std.specs.Prelude.{◌≡◌, List, [], ◌++◌, Option, None, Some, unwrap_or}
use Rattle.wjs_store.specs.Meaning.{Meaning, PlainAct, PlainReply}
use Rattle.wjs_by_content.specs.Plans.{Told}
use Rattle.wjs_by_content.specs.Worlds.{told_by}
use Rattle.wjs_meaning.specs.Deeds.{St}
use Rattle.wjs_meaning.specs.Programs.{Ending}
use Rattle.wjs_meaning.specs.Start.{properties}
use Rattle.wjs_model.specs.declared.config.Config.{Config}
use Rattle.wjs_start.specs.First.{writes_told}
use Rattle.wjs_model.specs.declared.halt.Ending.{Ending as Outcome}
use Rattle.wjs_model.specs.declared.halt.Ending.TheVariants as outcomes
use Rattle.wjs_machine.specs.Runs.{run_of}

module _ {S : Type 0} (meaning : S → Meaning) where
  -- the actions that the store tells, by the configuration's texts
  abbrev pub told_by_store : Config S → List Told
  told_by_store c = unwrap_or (told_by c.heap.texts (meaning c.heap.store).told) []

  -- a run that has come to its end has told its actions; no sink failed
  abbrev pub HasTold : Config S → Config S → Outcome → Type 0
  HasTold old new outcomes.SinkFailed = ⊥
  HasTold old new outcomes.OutOfMemory = Unit {0}
  HasTold old new _ = told_by_store new ≡ ((run_of meaning old).1).done

-- what is told in the end of a run from the start, by what a new store told
abbrev pub told_of_run : Option (List (PlainAct × PlainReply)) → Ending × St → List Told
told_of_run None r = []
told_of_run (Some done) r = writes_told properties ++ (r.1).done
