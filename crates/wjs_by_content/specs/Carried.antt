-- A plan is carried out by a store.
use Rattle.std.specs.Prelude.{◌≡◌, List, ◌++◌, Option}
use Rattle.std.specs.Option.{option_map}
use Rattle.wjs_base.specs.declared.ids.WorldId.{WorldId}
use Rattle.wjs_base.specs.Text.{Table}
use Rattle.wjs_store.specs.Meaning.{Meaning, View}
use Rattle.wjs_by_content.specs.Plans.{Plan, Told, answer_of, worlds_after, actions_of}
use Rattle.wjs_by_content.specs.Worlds.{worlds_in, KnowsWorlds, told_by}

-- actions are told after those that were told before
abbrev pub tell : List Told → Option (List Told) → Option (List Told)
tell more told = option_map (λ done. done ++ more) told

-- a store went from one meaning to another as the plan does in a world, under a view and in the contents that the table gives: the answer is the plan's, the worlds are those that it leaves, and its actions alone were told
pub record Carries {A : Type 0} (texts : Table) (w : WorldId) (p : Plan A) (answer : A) (old new : Meaning) (v : View) : Type 0 where
  pub answers : answer ≡ answer_of p w (worlds_in texts (old.full v))
  pub worlds : worlds_in texts (new.full v) ≡ worlds_after p w (worlds_in texts (old.full v))
  pub told : told_by texts new.told ≡ tell (actions_of p w (worlds_in texts (old.full v))) (told_by texts old.told)
  -- and the table knows the worlds still
  pub knows : KnowsWorlds texts (new.full v)
