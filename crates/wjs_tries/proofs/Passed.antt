-- A try that rests does so behind another owner's turn.
use Rattle.std.proofs.Common.{◌≡◌, ℕ, ◌≤◌, Bool, true, false, List, None, Some, refl, sym, ap, ◌∙◌, subst, arith}
use Rattle.std.specs.FinMap as map
use Rattle.wjs_base.specs.declared.ids.ObjId.{ObjId}
use Rattle.wjs_base.specs.declared.ids.WorldId.{WorldId}
use Rattle.wjs_store.specs.State.{same_world}
use Rattle.wjs_store.specs.Meaning.{Meaning, Worlds}
use Rattle.wjs_store.proofs.Writes.{world_is}
use Rattle.wjs_arena.specs.Entries.{Entry, Keeps, joined}
use Rattle.wjs_heap.specs.declared.heap.Heap.{Heap}
use Rattle.wjs_meaning.specs.Trees.{Tree}
use Rattle.wjs_model.specs.declared.config.Config.{Config}
use Rattle.wjs_model.specs.Soundness.{Sound}
use Rattle.wjs_session.specs.Stores.{worlds_in}
use Rattle.wjs_session.specs.Returns.{Returns}
use Rattle.wjs_session.specs.Resumed.{resumed}
use Rattle.wjs_session.proofs.RestLaws.{stands_still}
use Rattle.wjs_alone.specs.Alone.{world_of}
use Rattle.wjs_tries.specs.declared.common.Common.{Common}
use Rattle.wjs_tries.specs.declared.common.Rested.{Rested}
use Rattle.wjs_tries.specs.Meant.{itself, resting}
use Rattle.wjs_tries.specs.Common.{IsCommon}
use Rattle.wjs_tries.specs.Passing.{Passes}
use Rattle.wjs_tries.specs.Resting.{IsResting}
use Rattle.wjs_tries.specs.Trying.{IsTrying}
use Rattle.wjs_tries.proofs.Joined.{absent_now, keeps_whole, made_whole, common_whole}
use Rattle.wjs_tries.proofs.Kept.{others_keep_alone}
use Rattle.wjs_tries.proofs.Soundly.{full_stays, admits_stays, worlds_same, others_keep_sound}

module _ (trees : List Tree) (tree budget drawn drawn' q : ℕ) (old new : Common) (rest : Rested) (is : IsResting trees tree budget drawn old rest)
    (passes : Passes q old new) (common : IsCommon new.texts new.arena new.units.items (worlds_in new.shared) drawn') (more : drawn ≤ drawn')
    (differ : ¬ (rest.owner ≡ q)) where
  abbrev F : Worlds
  F = worlds_in old.shared

  abbrev F' : Worlds
  F' = worlds_in new.shared

  abbrev before : Config Meaning
  before = resting is.none old rest

  abbrev heap : Heap Meaning
  heap = record { texts = new.texts; arena = joined new.arena rest.objects; store = resumed F' rest.resting }

  apart : same_world rest.resting.world (world_of q) ≡ false
  apart = by (same_world rest.resting.world (world_of q)) refl
    where
      by : (b : Bool) → same_world rest.resting.world (world_of q) ≡ b → b ≡ false
      by true e = absurd (differ (ap (λ (w : WorldId). w.owner) (sym is.number ∙ world_is rest.resting.world (world_of q) e)))
      by false e = refl

  pub returns : Returns F F' rest.resting.world
  returns = passes.returns rest.resting.world apart is.stands.is.child

  units_same : IsCommon new.texts new.arena old.units.items F' drawn'
  units_same = subst (λ us. IsCommon new.texts new.arena us.items F' drawn') passes.units common

  low : rest.owner ≤ drawn'
  low = let le : rest.owner ≤ drawn = is.owner in omega (arith, le, more)

  -- with its own objects
  whole : IsCommon new.texts (joined new.arena rest.objects) old.units.items F' drawn'
  whole = common_whole old new rest is.none is.sound q drawn' passes units_same is.owns differ low

  keeps : Keeps (joined old.arena rest.objects) (joined new.arena rest.objects)
  keeps = keeps_whole old new rest is.none is.sound q drawn' passes units_same is.owns differ low

  made : (o : ObjId) (e : Entry) → map.get (joined old.arena rest.objects) o ≡ None → map.get (joined new.arena rest.objects) o ≡ Some e → o.owner ≡ q
  made = made_whole old new rest is.none is.sound q drawn' passes units_same is.owns differ low

  -- the configuration that it would be now
  now_is : record before { heap = heap } ≡ resting is.none new rest
  now_is = λ i. record (resting is.none new rest) { units = sym passes.units i }

  sound_now : Sound itself (record before { heap = heap })
  sound_now = others_keep_sound before heap F F' rest.resting q drawn' refl refl is.sound refl is.stands returns whole is.none_is passes.texts keeps
      made differ

  trying_now : IsTrying trees tree budget is.taken (record before { heap = heap })
  trying_now = others_keep_alone trees tree budget is.taken before heap q is.sound is.trying passes.texts keeps made differ whole.worlds_by
      (full_stays before heap F F' rest.resting q drawn' refl refl is.sound refl is.stands returns whole is.none_is passes.texts keeps
      made differ)
      (admits_stays before heap F F' rest.resting q drawn' refl refl is.sound refl is.stands returns whole is.none_is passes.texts keeps
      made differ)
      refl
      (worlds_same before heap F F' rest.resting q drawn' refl refl is.sound refl is.stands returns whole is.none_is passes.texts keeps
      made differ)

  pub rests_still : IsResting trees tree budget drawn' new rest
  rests_still = record {
    stands = (stands_still F F' rest.resting is.stands returns).0;
    number = is.number;
    some = is.some;
    owner = low;
    left = is.left;
    owns = record { owned = is.owns.owned; absent = absent_now old new rest is.none is.sound q drawn' passes units_same is.owns differ low };
    none = is.none;
    none_is = is.none_is;
    sound = subst (Sound itself) now_is sound_now;
    taken = is.taken;
    trying = subst (IsTrying trees tree budget is.taken) now_is trying_now;
  }
