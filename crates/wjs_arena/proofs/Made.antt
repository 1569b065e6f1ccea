-- An arena with one object more.
use Rattle.std.proofs.Common.{◌≡◌, ℕ, ◌+◌, ◌<◌, max, true, false, cond, Option, None, Some, refl, sym, ap, ◌∙◌, subst, arith, IsTrue, ◌↔◌, is_some, IfSome}
use Rattle.std.specs.Option.{option_map_or, option_and_then}
use Rattle.std.specs.FinMap as map
use Rattle.std.specs.Ordering.{eq_by_cmp}
use Rattle.std.specs.Cmp.{eq_by_cmp_equiv, Equal-is}
use Rattle.wjs_base.specs.declared.ids.ObjId.{ObjId}
use Rattle.wjs_base.specs.declared.ids.WorldId.{WorldId}
use Rattle.wjs_base.specs.Order.{obj_cmp, obj_total, world_cmp, world_exact, world_total}
use Rattle.wjs_base.proofs.Booleans.{by_bool}
use Rattle.wjs_arena.specs.Entries.{Objects, Entry, has, prototype_of, scope_of, world_of, depth_at, depth_of, next_number, entry_over, IsThere, IsBelow, IsArena, Keeps}
use Rattle.wjs_arena.specs.declared.object.Object.{Object}
use Rattle.wjs_arena.specs.Kept.{WorldObjects, IsKept, with_world, without_world}
use Rattle.wjs_base.proofs.Trees.{put_and_taken}
use Rattle.wjs_arena.proofs.Owners.{key_is, key_itself, key_apart}

-- what an object names, if there is one
link : (Object → Option ObjId) → Objects → ObjId → Option ObjId
link f m o = option_and_then (λ (e : Entry). f e.object) (map.get m o)

has_by : (m : Objects) (o : ObjId) {A : Type 0} (f : Entry → Option A) (x : A) → option_and_then f (map.get m o) ≡ Some x → IsTrue (has m o)
has_by m o f x h = there (map.get m o) h
  where
    there : (r : Option Entry) → option_and_then f r ≡ Some x → IsTrue (is_some r)
    there None h = cc
    there (Some e) h = refl

-- ---- one entry at a key that was not there

module _ (m : Objects) (k : ObjId) (e : Entry) (new : has m k ≡ false) where
  pub more : Objects
  more = map.insert m k e

  at_new : map.get more k ≡ Some e
  unfolding more
  at_new = map.get-insert obj_total m k e k ∙ ap (λ b. cond b (Some e) (map.get m k)) (key_itself k)

  at_old : (id : ObjId) → IsTrue (has m id) → map.get more id ≡ map.get m id
  unfolding more
  at_old id h = map.get-insert obj_total m k e id ∙ ap (λ b. cond b (Some e) (map.get m id)) (key_apart id k (λ q. let t : has m k ≡ true = ap (has m) (sym q) ∙ h in cc))

  by_key : (id : ObjId) {P : Type 0} → (id ≡ k → P) → (map.get more id ≡ map.get m id → P) → P
  unfolding more
  by_key id {P} here old = by_bool (eq_by_cmp obj_cmp id k) (λ t. here (key_is id k t)) (λ f. old (map.get-insert obj_total m k e id ∙ ap (λ b. cond b (Some e) (map.get m id)) f))

  -- what was below is below
  below_old : (p : ObjId) (d : ℕ) → IsBelow m p d → IsBelow more p d
  below_old p d h =
      let same = at_old p h.0 in
      (ap is_some same ∙ h.0, subst (λ (r : Option Entry). option_map_or (λ (x : Entry). x.depth) r 0 < d) (sym same) h.1)

  below_named : (o : Option ObjId) (p : ObjId) → o ≡ Some p → IsThere m o → depth_of m o < e.depth → IsBelow m p e.depth
  below_named None p h there deep = cc
  below_named (Some q) p h there deep = let s : q ≡ p = cc in subst (λ (z : ObjId). IsBelow m z e.depth) s (there, deep)

  -- links go to what is less deep
  links : (f : Object → Option ObjId) → IsThere m (f e.object) → depth_of m (f e.object) < e.depth → ((o p : ObjId) → link f m o ≡ Some p → IsBelow m p (depth_at m o)) → (o p : ObjId) → link f more o ≡ Some p → IsBelow more p (depth_at more o)
  unfolding link
  links f there deep was o p h = by_key o
      (λ q.
      let here : map.get more o ≡ Some e = ap (map.get more) q ∙ at_new in
      let named : f e.object ≡ Some p = sym (ap (λ (r : Option Entry). option_and_then (λ (x : Entry). f x.object) r) here) ∙ h in
      subst (λ (r : Option Entry). IsBelow more p (option_map_or (λ (x : Entry). x.depth) r 0)) (sym here) (below_old p e.depth (below_named (f e.object) p named there deep)))
      (λ q.
      let named : link f m o ≡ Some p = sym (ap (λ (r : Option Entry). option_and_then (λ (x : Entry). f x.object) r) q) ∙ h in
      subst (λ (r : Option Entry). IsBelow more p (option_map_or (λ (x : Entry). x.depth) r 0)) (sym q) (below_old p (depth_at m o) (was o p named)))

  -- no object stands for the new one's world
  Fresh : Type 0
  Fresh = IfSome e.object.world (λ w. (o : ObjId) → ¬ (world_of m o ≡ Some w))

  fresh_world : (world : Option WorldId) (w : WorldId) (o : ObjId) → IfSome world (λ v. (z : ObjId) → ¬ (world_of m z ≡ Some v)) → world ≡ Some w → world_of m o ≡ Some w → ⊥
  fresh_world None w o f h g = cc
  fresh_world (Some v) w o f h g = f o (let s : v ≡ w = cc in g ∙ ap (λ (z : WorldId). Some z) (sym s))

  world_new : (o : ObjId) → o ≡ k → world_of more o ≡ e.object.world
  world_new o q = ap (λ (r : Option Entry). option_and_then (λ (x : Entry). x.object.world) r) (ap (map.get more) q ∙ at_new)

  world_old : (o : ObjId) → map.get more o ≡ map.get m o → world_of more o ≡ world_of m o
  world_old o q = ap (λ (r : Option Entry). option_and_then (λ (x : Entry). x.object.world) r) q

  one : IfSome e.object.world (λ w. (o : ObjId) → ¬ (world_of m o ≡ Some w)) → ((a b : ObjId) (w : WorldId) → world_of m a ≡ Some w → world_of m b ≡ Some w → a ≡ b) → (a b : ObjId) (w : WorldId) → world_of more a ≡ Some w → world_of more b ≡ Some w → a ≡ b
  one fresh was a b w ha hb = by_key a
      (λ p. by_key b
      (λ q. p ∙ sym q)
      (λ q. absurd (fresh_world e.object.world w b fresh (sym (world_new a p) ∙ ha) (sym (world_old b q) ∙ hb))))
      (λ p. by_key b
      (λ q. absurd (fresh_world e.object.world w a fresh (sym (world_new b q) ∙ hb) (sym (world_old a p) ∙ ha)))
      (λ q. was a b w (sym (world_old a p) ∙ ha) (sym (world_old b q) ∙ hb)))

  arena_more : IsArena m → IsThere m e.object.prototype → IsThere m e.object.scope
      → depth_of m e.object.prototype < e.depth → depth_of m e.object.scope < e.depth
      → IfSome e.object.world (λ w. (o : ObjId) → ¬ (world_of m o ≡ Some w))
      → ((id : ObjId) → IsTrue (has more id) ↔ (id.serial < (next_number more id.owner).serial)) → IsArena more
  unfolding link
  arena_more a prototype scope below below' fresh serials = record {
    serials = serials;
    deep = λ id h. by_key id
        (λ q. subst (λ (r : Option Entry). 0 < option_map_or (λ (x : Entry). x.depth) r 0) (sym (ap (map.get more) q ∙ at_new)) (let d : 0 < e.depth = omega arith in d))
        (λ q. subst (λ (r : Option Entry). 0 < option_map_or (λ (x : Entry). x.depth) r 0) (sym q) (a.deep id (sym (ap is_some q) ∙ h)));
    prototypes = links (λ (x : Object). x.prototype) prototype below a.prototypes;
    scopes = links (λ (x : Object). x.scope) scope below' a.scopes;
    one_object = one fresh a.one_object;
  }

  none_at : map.get m k ≡ None
  none_at = absent (map.get m k) new
    where
      absent : (r : Option Entry) → is_some r ≡ false → r ≡ None
      absent None h = refl
      absent (Some x) h = cc

  -- the objects that stand for worlds are still kept
  worlds_more : (ws : WorldObjects) (world : Option WorldId) → e.object.world ≡ world → IfSome world (λ w. (o : ObjId) → ¬ (world_of m o ≡ Some w)) → ((w : WorldId) (o : ObjId) → (map.get ws w ≡ Some o) ↔ (world_of m o ≡ Some w)) → (w : WorldId) (o : ObjId) → (map.get (with_world ws world k) w ≡ Some o) ↔ (world_of more o ≡ Some w)
  worlds_more ws None is fresh was w o = (
    λ h.
        let old = (was w o).0 h in
        world_old o (at_old o (has_by m o (λ (x : Entry). x.object.world) w old)) ∙ old,
    λ h. by_key o
        (λ q. let n : None ≡ Some w = sym (world_new o q ∙ is) ∙ h in cc)
        (λ q. (was w o).1 (sym (world_old o q) ∙ h)),
  )
  worlds_more ws (Some v) is fresh was w o =
      let look = map.get-insert world_total ws v k w in (
        λ h. by_bool (eq_by_cmp world_cmp w v)
            (λ t.
            let s : w ≡ v = world_exact w v ((Equal-is (world_cmp w v)).0 t) in
            let found : Some k ≡ Some o = sym (look ∙ ap (λ b. cond b (Some k) (map.get ws w)) t) ∙ h in
            let same : o ≡ k = cc in
            world_new o same ∙ is ∙ ap (λ (z : WorldId). Some z) (sym s))
            (λ t.
            let old = (was w o).0 (sym (look ∙ ap (λ b. cond b (Some k) (map.get ws w)) t) ∙ h) in
            world_old o (at_old o (has_by m o (λ (x : Entry). x.object.world) w old)) ∙ old),
        λ h. by_key o
            (λ q.
            let n : Some v ≡ Some w = sym (world_new o q ∙ is) ∙ h in
            let s : w ≡ v = cc in
            look ∙ ap (λ b. cond b (Some k) (map.get ws w)) (subst (λ (z : WorldId). eq_by_cmp world_cmp w z ≡ true) s ((eq_by_cmp_equiv world_total).refl w)) ∙ ap (λ (z : ObjId). Some z) (sym q))
            (λ q.
            let old : world_of m o ≡ Some w = sym (world_old o q) ∙ h in
            look ∙ ap (λ b. cond b (Some k) (map.get ws w)) (by_bool (eq_by_cmp world_cmp w v)
            (λ t. absurd (fresh o (old ∙ ap (λ (z : WorldId). Some z) (world_exact w v ((Equal-is (world_cmp w v)).0 t)))))
            (λ t. t))
            ∙ (was w o).1 old),
      )

  kept_more : (ws : WorldObjects) → IsKept m ws → IsThere m e.object.prototype → IsThere m e.object.scope
      → depth_of m e.object.prototype < e.depth → depth_of m e.object.scope < e.depth
      → IfSome e.object.world (λ w. (o : ObjId) → ¬ (world_of m o ≡ Some w))
      → ((id : ObjId) → IsTrue (has more id) ↔ (id.serial < (next_number more id.owner).serial)) → IsKept more (with_world ws e.object.world k)
  kept_more ws kept prototype scope below below' fresh serials = record {
    arena = arena_more kept.arena prototype scope below below' fresh serials;
    worlds = worlds_more ws e.object.world refl fresh kept.worlds;
  }

  keeps_more : Keeps m more
  keeps_more id x h = at_old id (ap is_some h) ∙ h

-- the next number is new
next_is_new : (m : Objects) (owner : ℕ) → IsArena m → has m (next_number m owner) ≡ false
next_is_new m owner a = by_bool (has m (next_number m owner)) (λ t. let l : (next_number m owner).serial < (next_number m owner).serial = (a.serials (next_number m owner)).0 t in absurd (omega arith)) (λ f. f)

-- no world of an object that is not there
fresh_at : (m : Objects) (ws : WorldObjects) (w : WorldId) → IsKept m ws → ((o : ObjId) → ¬ (world_of m o ≡ Some w)) → map.get ws w ≡ None
fresh_at m ws w kept h = none (map.get ws w) (λ o e. h o ((kept.worlds w o).0 e))
  where
    none : (r : Option ObjId) → ((o : ObjId) → r ≡ Some o → ⊥) → r ≡ None
    none None f = refl
    none (Some o) f = absurd (f o refl)

pub fresh_all : (m : Objects) (ws : WorldObjects) (world : Option WorldId) → IsKept m ws → IfSome world (λ w. (o : ObjId) → ¬ (world_of m o ≡ Some w)) → IfSome world (λ w. map.get ws w ≡ None)
fresh_all m ws None kept h = tt
fresh_all m ws (Some w) kept h = fresh_at m ws w kept h

nowhere : Objects
nowhere = map.empty

nothing : {A : Type 0} (o : ObjId) (f : Entry → Option A) (x : A) → option_and_then f (map.get nowhere o) ≡ Some x → ⊥
unfolding nowhere
nothing o f x h = let t : has nowhere o ≡ true = has_by nowhere o f x h in let u : has nowhere o ≡ false = ap is_some (map.get-empty {X = Entry} obj_cmp o) in cc

pub arena_empty : (m : Objects) → m ≡ map.empty → ((id : ObjId) → IsTrue (has m id) ↔ (id.serial < (next_number m id.owner).serial)) → IsArena m
unfolding nowhere
arena_empty m is serials = record {
  serials = serials;
  deep = λ id h. let u : has m id ≡ false = ap (λ (z : Objects). has z id) is ∙ ap is_some (map.get-empty {X = Entry} obj_cmp id) in cc;
  prototypes = λ o p h. absurd (nothing o (λ (x : Entry). x.object.prototype) p (ap (λ (z : Objects). prototype_of z o) (sym is) ∙ h));
  scopes = λ o p h. absurd (nothing o (λ (x : Entry). x.object.scope) p (ap (λ (z : Objects). scope_of z o) (sym is) ∙ h));
  one_object = λ a b w h g. absurd (nothing a (λ (x : Entry). x.object.world) w (ap (λ (z : Objects). world_of z a) (sym is) ∙ h));
}

pub kept_empty : (m : Objects) (ws : WorldObjects) → m ≡ map.empty → ws ≡ map.empty → ((id : ObjId) → IsTrue (has m id) ↔ (id.serial < (next_number m id.owner).serial)) → IsKept m ws
unfolding nowhere
kept_empty m ws is none serials = record {
  arena = arena_empty m is serials;
  worlds = λ w o. (λ h. let n : map.get ws w ≡ None = ap (λ (z : WorldObjects). map.get z w) none ∙ map.get-empty {X = ObjId} world_cmp w in cc, λ h. absurd (nothing o (λ (x : Entry). x.object.world) w (ap (λ (z : Objects). world_of z o) (sym is) ∙ h)));
}

-- taking a world out again that was put in leaves what was there
pub noted_forgotten : (ws now last : WorldObjects) (world : Option WorldId) (k : ObjId) → IfSome world (λ w. map.get ws w ≡ None) → now ≡ with_world ws world k → last ≡ without_world now world → last ≡ ws
noted_forgotten ws now last None k none put taken = taken ∙ put
noted_forgotten ws now last (Some w) k none put taken = taken ∙ ap (λ (z : WorldObjects). map.remove z w) put ∙ put_and_taken world_total world_exact ws w k none

-- what holds of an arena with one object more
pub record IsMade (m new : Objects) (ws_new : WorldObjects) (owner : ℕ) (id : ObjId) (object : Object) : Type 0 where
  pub kept : IsKept new ws_new
  pub there : map.get new id ≡ Some (entry_over m object)
  pub keeps : Keeps m new

pub made : (m new : Objects) (ws ws_new : WorldObjects) (owner : ℕ) (id : ObjId) (e : Entry) → IsKept m ws → id ≡ next_number m owner
    → IsThere m e.object.prototype → IsThere m e.object.scope → IfSome e.object.world (λ w. (o : ObjId) → ¬ (world_of m o ≡ Some w))
    → e.depth ≡ max (depth_of m e.object.prototype) (depth_of m e.object.scope) + 1
    → new ≡ map.insert m id e → ws_new ≡ with_world ws e.object.world id
    → ((z : ObjId) → IsTrue (has new z) ↔ (z.serial < (next_number new z.owner).serial)) → IsMade m new ws_new owner id e.object
unfolding more
made m new ws ws_new owner id e kept number prototype scope fresh deep is noted serials =
    let absent : has m id ≡ false = ap (has m) number ∙ next_is_new m owner kept.arena in
    let a : depth_of m e.object.prototype < e.depth = omega arith in
    let b : depth_of m e.object.scope < e.depth = omega arith in
    let counted = subst (λ (z : Objects). (y : ObjId) → IsTrue (has z y) ↔ (y.serial < (next_number z y.owner).serial)) is serials in
    let same : e ≡ entry_over m e.object = λ i. record { object = e.object; depth = deep i } in
    record {
      kept = subst (λ (z : Objects). IsKept z ws_new) (sym is) (subst (λ (z : WorldObjects). IsKept (map.insert m id e) z) (sym noted) (kept_more m id e absent ws kept prototype scope a b fresh counted));
      there = ap (λ (z : Objects). map.get z id) is ∙ at_new m id e absent ∙ ap (λ (z : Entry). Some z) same;
      keeps = subst (λ (z : Objects). Keeps m z) (sym is) (keeps_more m id e absent);
    }
