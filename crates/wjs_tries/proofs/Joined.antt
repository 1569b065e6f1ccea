-- The objects of a try that rests, beside those that are shared behind another's turn.
use Rattle.std.proofs.Common.{◌≡◌, ℕ, ◌≤◌, Option, None, Some, is_some, refl, sym, ap, ◌∙◌, subst, IsTrue}
use Rattle.std.specs.FinMap as map
use Rattle.std.proofs.lemmas.Bool.{false≢true}
use Rattle.wjs_base.specs.declared.ids.ObjId.{ObjId}
use Rattle.wjs_base.proofs.TextLaws.{Grows-refl}
use Rattle.wjs_arena.specs.Entries.{Objects, Entry, IsArena, Keeps, has, joined}
use Rattle.wjs_arena.proofs.Joined.{joined_keep, joined_made, joined_either, new_keep, arena_joined}
use Rattle.wjs_meaning.specs.Builtins.{builtin}
use Rattle.wjs_model.specs.Soundness.{Base, Sound}
use Rattle.wjs_model.proofs.Standing.{has_kept, code_kept}
use Rattle.wjs_session.specs.Stores.{worlds_in}
use Rattle.wjs_tries.specs.declared.common.Common.{Common}
use Rattle.wjs_tries.specs.declared.common.Rested.{Rested}
use Rattle.wjs_tries.specs.Meant.{itself, Listed, resting}
use Rattle.wjs_tries.specs.Common.{IsCommon}
use Rattle.wjs_tries.specs.Passing.{Passes}
use Rattle.wjs_tries.specs.Resting.{Owns}
use Rattle.wjs_tries.proofs.Owning.{worlds_are_own}
use Rattle.wjs_tries.proofs.Soundly.{named_later, slot_later}

module _ (old new : Common) (rest : Rested) (us : Listed) (sound : Sound itself (resting us old rest)) (q drawn : ℕ) (passes : Passes q old new)
    (common : IsCommon new.texts new.arena old.units.items (worlds_in new.shared) drawn) (owns : Owns old rest) (differ : ¬ (rest.owner ≡ q))
    (low : rest.owner ≤ drawn) where
  abbrev was : Objects
  was = joined old.arena rest.objects

  abbrev now : Objects
  now = joined new.arena rest.objects

  base : Base itself (resting us old rest)
  base = sound.base

  -- none of its objects is shared still
  pub absent_now : (o : ObjId) → IsTrue (has new.arena o) → ¬ (o.owner ≡ rest.owner)
  absent_now o h is = by (map.get old.arena o) refl
    where
      fresh : (r : Option Entry) → map.get new.arena o ≡ r → map.get old.arena o ≡ None → ⊥
      fresh None at none = false≢true (sym (ap is_some at) ∙ h)
      fresh (Some e) at none = differ (sym is ∙ passes.made o e none at)

      by : (r : Option Entry) → map.get old.arena o ≡ r → ⊥
      by None at = fresh (map.get new.arena o) refl at
      by (Some e) at = owns.absent o (ap is_some at) is

  pub keeps_whole : Keeps (joined old.arena rest.objects) (joined new.arena rest.objects)
  keeps_whole = joined_keep old.arena new.arena rest.objects rest.owner passes.objects absent_now owns.owned

  pub made_whole : (o : ObjId) (e : Entry) → map.get (joined old.arena rest.objects) o ≡ None → map.get (joined new.arena rest.objects) o ≡ Some e → o.owner ≡ q
  made_whole o e none at =
      let k = joined_made old.arena new.arena rest.objects rest.owner passes.objects absent_now owns.owned o e none at in
      passes.made o e k.0 k.1

  keeps_shared : Keeps new.arena (joined new.arena rest.objects)
  keeps_shared = new_keep old.arena new.arena rest.objects rest.owner passes.objects absent_now owns.owned

  -- each is shared, or its own
  either : (P : Type 0) (o : ObjId) (e : Entry) → map.get now o ≡ Some e → (map.get new.arena o ≡ Some e → P)
      → (o.owner ≡ rest.owner → map.get was o ≡ Some e → P) → P
  either = joined_either old.arena new.arena rest.objects rest.owner passes.objects absent_now owns.owned

  pub arena_whole : IsArena (joined new.arena rest.objects)
  arena_whole = arena_joined old.arena new.arena rest.objects rest.owner passes.objects absent_now owns.owned base.heap.arena common.arena_is
      (worlds_are_own was base.worlds_by) (worlds_are_own new.arena common.worlds_by)

  -- with them all is known that is known of what is shared
  pub common_whole : IsCommon new.texts (joined new.arena rest.objects) old.units.items (worlds_in new.shared) drawn
  common_whole = record {
    reached = common.reached;
    first = common.first;
    table = common.table;
    arena_is = arena_whole;
    objects = λ o e at. either _ o e at
        (λ first. named_later new.texts new.texts (Grows-refl new.texts) new.arena now keeps_shared e.object (common.objects o e first))
        (λ own second. named_later old.texts new.texts passes.texts was now keeps_whole e.object (base.heap.objects o e second));
    slots = λ s v at. slot_later new.texts new.texts (Grows-refl new.texts) new.arena now keeps_shared s v (common.slots s v at);
    builtins = λ b. has_kept new.arena now keeps_shared (builtin b) (common.builtins b);
    units_known = common.units_known;
    units_placed = common.units_placed;
    functions = λ o e at. either _ o e at
        (λ first. code_kept new.arena now keeps_shared old.units.items e.object.code e.object.scope (common.functions o e first))
        (λ own second. code_kept was now keeps_whole old.units.items e.object.code e.object.scope (base.functions o e second));
    worlds_by = λ o e w at is. either _ o e at (λ first. common.worlds_by o e w first is) (λ own second. base.worlds_by o e w second is);
    object_owners = λ o h. owner_of o (map.get now o) refl h;
    world_owners = common.world_owners;
  }
    where
      owner_of : (o : ObjId) (r : Option Entry) → map.get now o ≡ r → IsTrue (has now o) → o.owner ≤ drawn
      owner_of o None at h = absurd (false≢true (sym (ap is_some at) ∙ h))
      owner_of o (Some e) at h = either _ o e at (λ first. common.object_owners o (ap is_some first)) (λ own second. subst (λ k. k ≤ drawn) (sym own) low)
