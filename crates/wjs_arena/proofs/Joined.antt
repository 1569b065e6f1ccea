-- Objects that grow, and an owner's beside them: with them it is an arena still.
use Rattle.std.proofs.Common.{◌≡◌, ℕ, ◌==◌, ◌<◌, ◌↔◌, Bool, true, false, cond, Option, None, Some, refl, sym, ap, ◌∙◌, subst, is_some, eqb-true, eq-eqb, IsTrue}
use Rattle.std.proofs.lemmas.Bool.{false≢true}
use Rattle.std.specs.Option.{option_or, option_map_or, option_and_then}
use Rattle.std.specs.FinMap as map
use Rattle.wjs_base.specs.declared.ids.ObjId.{ObjId}
use Rattle.wjs_base.specs.declared.ids.WorldId.{WorldId}
use Rattle.wjs_base.specs.Order.{obj_exact, obj_total}
use Rattle.wjs_arena.specs.declared.object.Object.{Object}
use Rattle.wjs_arena.specs.Entries.{Objects, Entry, has, world_of, depth_at, objects_of, next_number, joined, IsBelow, IsArena, WorldsAreOwn, Keeps}
use Rattle.wjs_arena.proofs.Owners.{owner_apart}
use Rattle.wjs_arena.proofs.TakenOut.{get_owned, get_joined, joined_first}
use Rattle.wjs_arena.proofs.WorldsByOwner.{or_none}

-- what is less deep is so with more objects
below_kept : (a b : Objects) → Keeps a b → (o : ObjId) (d : ℕ) → IsBelow a o d → IsBelow b o d
below_kept a b keeps o d h = by (map.get a o) refl h
  where
    by : (r : Option Entry) → map.get a o ≡ r → IsTrue (is_some r) × (option_map_or (λ (e : Entry). e.depth) r 0 < d) → IsBelow b o d
    by None at k = absurd (false≢true k.0)
    by (Some e) at k = (ap is_some (keeps o e at), subst (λ (r : Option Entry). option_map_or (λ (x : Entry). x.depth) r 0 < d) (sym (keeps o e at)) k.1)

-- some objects, and more of them, of no owner p; and objects of that owner
module _ (old new own : Objects) (p : ℕ) (keeps : Keeps old new) (absent : (o : ObjId) → IsTrue (has new o) → ¬ (o.owner ≡ p))
    (owned : (o : ObjId) → IsTrue (has own o) → o.owner ≡ p) where
  -- of the second ones, and of those of the first that are among them
  module _ (m : Objects) (among : Keeps m new) where
    none_of : (o : ObjId) → o.owner ≡ p → map.get m o ≡ None
    none_of o is = by (map.get m o) refl
      where
        by : (r : Option Entry) → map.get m o ≡ r → r ≡ None
        by None at = refl
        by (Some e) at = absurd (absent o (ap is_some (among o e at)) is)

    not_own : (o : ObjId) → (o.owner == p) ≡ false → map.get own o ≡ None
    not_own o e = by (map.get own o) refl
      where
        by : (r : Option Entry) → map.get own o ≡ r → r ≡ None
        by None at = refl
        by (Some x) at = absurd (false≢true (sym e ∙ eq-eqb o.owner p (owned o (ap is_some at))))

    look : (o : ObjId) → map.get (joined m own) o ≡ cond (o.owner == p) (map.get own o) (map.get m o)
    look o = get_joined m own o ∙ by (o.owner == p) refl
      where
        by : (b : Bool) → (o.owner == p) ≡ b → option_or (map.get m o) (map.get own o) ≡ cond (o.owner == p) (map.get own o) (map.get m o)
        by true e = ap (λ (r : Option Entry). option_or r (map.get own o)) (none_of o (eqb-true o.owner p e)) ∙ sym (ap (λ b. cond b (map.get own o) (map.get m o)) e)
        by false e = ap (option_or (map.get m o)) (not_own o e) ∙ or_none (map.get m o) ∙ sym (ap (λ b. cond b (map.get own o) (map.get m o)) e)

    look_own : (o : ObjId) → (o.owner == p) ≡ true → map.get (joined m own) o ≡ map.get own o
    look_own o e = look o ∙ ap (λ b. cond b (map.get own o) (map.get m o)) e

    look_other : (o : ObjId) → (o.owner == p) ≡ false → map.get (joined m own) o ≡ map.get m o
    look_other o e = look o ∙ ap (λ b. cond b (map.get own o) (map.get m o)) e

  itself : Keeps new new
  itself o e at = at

  abbrev was : Objects
  was = joined old own

  abbrev now : Objects
  now = joined new own

  same_own : (o : ObjId) → (o.owner == p) ≡ true → map.get now o ≡ map.get was o
  same_own o e = look_own new itself o e ∙ sym (look_own old keeps o e)

  pub joined_keep : Keeps was now
  joined_keep o x at = by (o.owner == p) refl
    where
      by : (b : Bool) → (o.owner == p) ≡ b → map.get now o ≡ Some x
      by true e = same_own o e ∙ at
      by false e = look_other new itself o e ∙ keeps o x (sym (look_other old keeps o e) ∙ at)

  -- what is new is new among the first
  pub joined_made : (o : ObjId) (x : Entry) → map.get was o ≡ None → map.get now o ≡ Some x → (map.get old o ≡ None) × (map.get new o ≡ Some x)
  joined_made o x none at = by (o.owner == p) refl
    where
      by : (b : Bool) → (o.owner == p) ≡ b → (map.get old o ≡ None) × (map.get new o ≡ Some x)
      by true e = let h : None ≡ Some x = sym none ∙ sym (same_own o e) ∙ at in absurd (cc)
      by false e = (sym (look_other old keeps o e) ∙ none, sym (look_other new itself o e) ∙ at)

  -- each is one of both
  pub joined_either : (P : Type 0) (o : ObjId) (x : Entry) → map.get now o ≡ Some x → (map.get new o ≡ Some x → P) → (o.owner ≡ p → map.get was o ≡ Some x → P) → P
  joined_either P o x at first second = by (o.owner == p) refl
    where
      by : (b : Bool) → (o.owner == p) ≡ b → P
      by true e = second (eqb-true o.owner p e) (sym (same_own o e) ∙ at)
      by false e = first (sym (look_other new itself o e) ∙ at)

  pub new_keep : Keeps new now
  new_keep o x at = joined_first new own o x at

  -- ---- numbers

  own_same : objects_of now p ≡ objects_of was p
  own_same = map.same_map obj_total obj_exact (objects_of now p) (objects_of was p) (λ o. get_owned now p o ∙ by o (o.owner == p) refl ∙ sym (get_owned was p o))
    where
      by : (o : ObjId) (b : Bool) → (o.owner == p) ≡ b → cond (o.owner == p) (map.get now o) None ≡ cond (o.owner == p) (map.get was o) None
      by o true e = ap (λ (r : Option Entry). cond (o.owner == p) r None) (same_own o e)
      by o false e = ap (λ b. cond b (map.get now o) None) e ∙ sym (ap (λ b. cond b (map.get was o) None) e)

  other_same : (u : ℕ) → ¬ (u ≡ p) → objects_of now u ≡ objects_of new u
  other_same u away = map.same_map obj_total obj_exact (objects_of now u) (objects_of new u) (λ o. get_owned now u o ∙ by o (o.owner == u) refl ∙ sym (get_owned new u o))
    where
      by : (o : ObjId) (b : Bool) → (o.owner == u) ≡ b → cond (o.owner == u) (map.get now o) None ≡ cond (o.owner == u) (map.get new o) None
      by o true e = ap (λ (r : Option Entry). cond (o.owner == u) r None) (look_other new itself o (owner_apart o.owner p (λ k. away (sym (eqb-true o.owner u e) ∙ k))))
      by o false e = ap (λ b. cond b (map.get now o) None) e ∙ sym (ap (λ b. cond b (map.get new o) None) e)

  module _ (a : IsArena was) (b : IsArena new) where
    serials : (id : ObjId) → IsTrue (has now id) ↔ (id.serial < (next_number now id.owner).serial)
    serials id = by (id.owner == p) refl
      where
        by : (t : Bool) → (id.owner == p) ≡ t → IsTrue (has now id) ↔ (id.serial < (next_number now id.owner).serial)
        by true e =
            let there : has now id ≡ has was id = ap is_some (same_own id e) in
            let count : objects_of now id.owner ≡ objects_of was id.owner = subst (λ q. objects_of now q ≡ objects_of was q) (sym (eqb-true id.owner p e)) own_same in (
              λ h. subst (λ n. id.serial < n) (sym (ap map.len count)) ((a.serials id).0 (sym there ∙ h)),
              λ h. there ∙ (a.serials id).1 (subst (λ n. id.serial < n) (ap map.len count) h),
            )
        by false e =
            let there : has now id ≡ has new id = ap is_some (look_other new itself id e) in
            let count : objects_of now id.owner ≡ objects_of new id.owner = other_same id.owner (λ k. false≢true (sym e ∙ eq-eqb id.owner p k)) in (
              λ h. subst (λ n. id.serial < n) (sym (ap map.len count)) ((b.serials id).0 (sym there ∙ h)),
              λ h. there ∙ (b.serials id).1 (subst (λ n. id.serial < n) (ap map.len count) h),
            )

    deep : (id : ObjId) → IsTrue (has now id) → 0 < depth_at now id
    deep id h = by (id.owner == p) refl
      where
        by : (t : Bool) → (id.owner == p) ≡ t → 0 < depth_at now id
        by true e = subst (λ (r : Option Entry). 0 < option_map_or (λ (x : Entry). x.depth) r 0) (sym (same_own id e)) (a.deep id (sym (ap is_some (same_own id e)) ∙ h))
        by false e =
            let same = look_other new itself id e in
            subst (λ (r : Option Entry). 0 < option_map_or (λ (x : Entry). x.depth) r 0) (sym same) (b.deep id (sym (ap is_some same) ∙ h))

    -- links go to what is less deep
    links : (f : Object → Option ObjId) → ((o q : ObjId) → option_and_then (λ (e : Entry). f e.object) (map.get was o) ≡ Some q → IsBelow was q (depth_at was o))
        → ((o q : ObjId) → option_and_then (λ (e : Entry). f e.object) (map.get new o) ≡ Some q → IsBelow new q (depth_at new o))
        → (o q : ObjId) → option_and_then (λ (e : Entry). f e.object) (map.get now o) ≡ Some q → IsBelow now q (depth_at now o)
    links f one two o q h = by (o.owner == p) refl
      where
        by : (t : Bool) → (o.owner == p) ≡ t → IsBelow now q (depth_at now o)
        by true e =
            let same = same_own o e in
            subst (λ (r : Option Entry). IsBelow now q (option_map_or (λ (x : Entry). x.depth) r 0)) (sym same) (below_kept was now joined_keep q (depth_at was o)
            (one o q (sym (ap (option_and_then (λ (x : Entry). f x.object)) same) ∙ h)))
        by false e =
            let same = look_other new itself o e in
            subst (λ (r : Option Entry). IsBelow now q (option_map_or (λ (x : Entry). x.depth) r 0)) (sym same) (below_kept new now new_keep q (depth_at new o)
            (two o q (sym (ap (option_and_then (λ (x : Entry). f x.object)) same) ∙ h)))

    module _ (own_worlds : WorldsAreOwn was) (new_worlds : WorldsAreOwn new) where
      -- an object's world says whose it is
      by_world : (o : ObjId) (w : WorldId) → world_of now o ≡ Some w → w.owner ≡ o.owner
      by_world o w h = by (o.owner == p) refl
        where
          by : (t : Bool) → (o.owner == p) ≡ t → w.owner ≡ o.owner
          by true e = own_worlds o w (sym (ap (option_and_then (λ (x : Entry). x.object.world)) (same_own o e)) ∙ h)
          by false e = new_worlds o w (sym (ap (option_and_then (λ (x : Entry). x.object.world)) (look_other new itself o e)) ∙ h)

      one_object : (x y : ObjId) (w : WorldId) → world_of now x ≡ Some w → world_of now y ≡ Some w → x ≡ y
      one_object x y w hx hy = by (x.owner == p) refl
        where
          together : x.owner ≡ y.owner
          together = sym (by_world x w hx) ∙ by_world y w hy

          by : (t : Bool) → (x.owner == p) ≡ t → x ≡ y
          by true e =
              a.one_object x y w (sym (ap (option_and_then (λ (z : Entry). z.object.world)) (same_own x e)) ∙ hx)
              (sym (ap (option_and_then (λ (z : Entry). z.object.world)) (same_own y (ap (λ n. n == p) (sym together) ∙ e))) ∙ hy)
          by false e =
              b.one_object x y w (sym (ap (option_and_then (λ (z : Entry). z.object.world)) (look_other new itself x e)) ∙ hx)
              (sym (ap (option_and_then (λ (z : Entry). z.object.world)) (look_other new itself y (ap (λ n. n == p) (sym together) ∙ e))) ∙ hy)

      pub arena_joined : IsArena now
      arena_joined = record {
        serials = serials;
        deep = deep;
        prototypes = links (λ (x : Object). x.prototype) a.prototypes b.prototypes;
        scopes = links (λ (x : Object). x.scope) a.scopes b.scopes;
        one_object = one_object;
      }
