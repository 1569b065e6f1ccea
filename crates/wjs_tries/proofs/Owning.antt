-- A try's own objects, and those of others, which are shared.
use Rattle.std.proofs.Common.{◌≡◌, ℕ, ◌==◌, Bool, true, false, cond, Option, None, Some, is_some, refl, sym, ap, ◌∙◌, eqb-true, IsTrue}
use Rattle.std.specs.Option.{option_map, option_and_then}
use Rattle.std.specs.FinMap as map
use Rattle.std.proofs.lemmas.Bool.{false≢true, eqb-false, eq-eqb}
use Rattle.wjs_base.specs.declared.ids.ObjId.{ObjId}
use Rattle.wjs_base.specs.declared.ids.WorldId.{WorldId}
use Rattle.wjs_base.specs.Order.{obj_exact, obj_total}
use Rattle.wjs_base.specs.Text.{Table}
use Rattle.wjs_store.specs.Meaning.{Meaning}
use Rattle.wjs_arena.specs.Entries.{Objects, Entry, Keeps, has, objects_of, others_of, WorldsAreOwn}
use Rattle.wjs_arena.proofs.TakenOut.{get_owned, get_others, others_found, others_there}
use Rattle.wjs_by_content.specs.Tables.{arena_in, entry_in}
use Rattle.wjs_by_content.proofs.ArenaMaps.{object_found}
use Rattle.wjs_model.specs.declared.config.Config.{Config}
use Rattle.wjs_model.specs.Configurations.{Stays}

-- what is said of entries says it of worlds
pub worlds_are_own : (m : Objects) → ((o : ObjId) (e : Entry) (w : WorldId) → map.get m o ≡ Some e → e.object.world ≡ Some w → w.owner ≡ o.owner)
    → WorldsAreOwn m
worlds_are_own m h o w is = by (map.get m o) refl is
  where
    by : (r : Option Entry) → map.get m o ≡ r → option_and_then (λ (e : Entry). e.object.world) r ≡ Some w → w.owner ≡ o.owner
    by None at k = absurd (cc)
    by (Some e) at k = h o e w at k

-- ---- the objects of others

module _ (m : Objects) (q : ℕ) where
  pub others_keep : Keeps (others_of m q) m
  others_keep o e at = (others_there m q o e at).1

  -- and what isn't among them is the owner's
  pub others_made : (o : ObjId) (e : Entry) → map.get (others_of m q) o ≡ None → map.get m o ≡ Some e → o.owner ≡ q
  others_made o e none at = by (o.owner == q) refl
    where
      by : (b : Bool) → (o.owner == q) ≡ b → o.owner ≡ q
      by true k = eqb-true o.owner q k
      by false k =
          let h : None ≡ Some e = sym none ∙ others_found m q o (eqb-false o.owner q k) ∙ at in
          absurd (cc)

  pub owned_are : (o : ObjId) → IsTrue (has (objects_of m q) o) → o.owner ≡ q
  owned_are o h = by (o.owner == q) refl
    where
      by : (b : Bool) → (o.owner == q) ≡ b → o.owner ≡ q
      by true k = eqb-true o.owner q k
      by false k =
          let none : has (objects_of m q) o ≡ false = ap is_some (get_owned m q o ∙ ap (λ b. cond b (map.get m o) None) k) in
          absurd (false≢true (sym none ∙ h))

  pub others_away : (o : ObjId) → IsTrue (has (others_of m q) o) → ¬ (o.owner ≡ q)
  others_away o h is =
      let none : has (others_of m q) o ≡ false =
      ap is_some (get_others m q o ∙ ap (λ b. cond b None (map.get m o)) (eq-eqb o.owner q is)) in
      false≢true (sym none ∙ h)

  -- by content they are as they were
  pub others_in_same : (t : Table) (o : ObjId) → ¬ (o.owner ≡ q) → map.get (arena_in t (others_of m q)) o ≡ map.get (arena_in t m) o
  others_in_same t o away = object_found t (others_of m q) o ∙ ap (option_map (entry_in t)) (others_found m q o away) ∙ sym (object_found t m o)

-- ---- where an owner's objects were added

module _ (old new : Objects) (q : ℕ) (keeps : Keeps old new)
    (made : (o : ObjId) (e : Entry) → map.get old o ≡ None → map.get new o ≡ Some e → o.owner ≡ q) where
  pub same_other : (o : ObjId) → ¬ (o.owner ≡ q) → map.get new o ≡ map.get old o
  same_other o away = by (map.get old o) refl
    where
      fresh : (r : Option Entry) → map.get new o ≡ r → map.get old o ≡ None → r ≡ None
      fresh None at none = refl
      fresh (Some x) at none = absurd (away (made o x none at))

      by : (r : Option Entry) → map.get old o ≡ r → map.get new o ≡ r
      by None at = fresh (map.get new o) refl at
      by (Some x) at = keeps o x at

  -- the others' are the same
  pub others_same : others_of new q ≡ others_of old q
  others_same = map.same_map obj_total obj_exact (others_of new q) (others_of old q)
      (λ o. get_others new q o ∙ by o (o.owner == q) refl ∙ sym (get_others old q o))
    where
      by : (o : ObjId) (b : Bool) → (o.owner == q) ≡ b → cond (o.owner == q) None (map.get new o) ≡ cond (o.owner == q) None (map.get old o)
      by o true k = ap (λ b. cond b None (map.get new o)) k ∙ sym (ap (λ b. cond b None (map.get old o)) k)
      by o false k = ap (cond (o.owner == q) None) (same_other o (eqb-false o.owner q k))

  -- of an owner that had none they are those that were there
  pub others_begun : ((o : ObjId) → IsTrue (has old o) → ¬ (o.owner ≡ q)) → others_of new q ≡ old
  others_begun none = others_same ∙ map.same_map obj_total obj_exact (others_of old q) old (λ o. get_others old q o ∙ by o (map.get old o) refl)
    where
      none_left : (b : Bool) → ◌≡◌ {A = Option Entry} (cond b None None) None
      none_left true = refl
      none_left false = refl

      by : (o : ObjId) (r : Option Entry) → map.get old o ≡ r → cond (o.owner == q) None (map.get old o) ≡ map.get old o
      by o None at = ap (cond (o.owner == q) None) at ∙ none_left (o.owner == q) ∙ sym at
      by o (Some e) at = kept (o.owner == q) refl
        where
          kept : (b : Bool) → (o.owner == q) ≡ b → cond (o.owner == q) None (map.get old o) ≡ map.get old o
          kept true k = absurd (none o (ap is_some at) (eqb-true o.owner q k))
          kept false k = ap (λ b. cond b None (map.get old o)) k

-- a turn leaves the others' as they were
pub others_stay : {S : Type 0} (meaning : S → Meaning) (old new : Config S) → Stays meaning old new → others_of new.heap.arena new.owner
    ≡ others_of old.heap.arena old.owner
others_stay meaning old new stays = ap (others_of new.heap.arena) stays.owner ∙ others_same old.heap.arena new.heap.arena old.owner stays.objects stays.made
