-- The first objects are made one by one.
use Rattle.std.proofs.Common.{◌≡◌, ℕ, zero, suc, ◌+◌, ◌<◌, true, false, cond, List, [], ◌∷◌, Option, None, Some, length, get_or, take, refl, sym, ap, ◌∙◌, subst, arith, IsTrue, ⊎_elim}
use Rattle.std.specs.Prelude.{◌==◌, ◌&&◌, not, IfSome, is_some, nat_lt}
use Rattle.std.specs.Option.{option_and_then}
use Rattle.std.specs.FinMap as map
use Rattle.std.specs.Ordering.{eq_by_cmp}
use Rattle.std.proofs.lemmas.Bool.{and_parts, ltb-true, cases_order}
use Rattle.std.proofs.lemmas.List.{take_more, length-take-le}
use Rattle.std.proofs.lemmas.List.Sums.{fold-append}
use Rattle.std.proofs.lemmas.Option.{same_Some}
use borrow.Author.Tests.{eqb-true}
use Rattle.wjs_base.specs.declared.ids.ObjId.{ObjId}
use Rattle.wjs_base.specs.declared.ids.WorldId.{WorldId}
use Rattle.wjs_base.specs.Order.{obj_cmp, obj_total}
use Rattle.wjs_base.specs.Text.{Table}
use Rattle.wjs_base.proofs.Booleans.{by_bool}
use Rattle.wjs_arena.specs.declared.object.Code.{Code}
use Rattle.wjs_arena.specs.declared.object.Object.{Object}
use Rattle.wjs_arena.specs.Entries as arena
use Rattle.wjs_arena.specs.Entries.{Objects, Entry, has, next_number, world_of, entry_over}
use Rattle.wjs_arena.proofs.Owners.{key_is}
use Rattle.wjs_by_content.specs.Objects.{Arena, created}
use Rattle.wjs_by_content.specs.Tables.{arena_in}
use Rattle.wjs_heap.specs.Heap.{Parts}
use Rattle.wjs_heap.specs.Acts.{Creates}
use Rattle.wjs_store.specs.State.{first_world}
use Rattle.wjs_meaning.specs.Builtins.{first_object, first_world_object}
use Rattle.wjs_heap_steps.proofs.Making.{none_some}
use Rattle.wjs_start.specs.declared.blueprints.Blueprint.{Blueprint}
use Rattle.wjs_start.specs.declared.known.Known.{Known}
use Rattle.wjs_start.specs.Blueprints.{built, built_from, is_before, has_right_world, is_buildable, are_buildable}
use Rattle.wjs_start.specs.Building.{Building, Makes, with_objects}
use Rattle.wjs_start.specs.First.{is_script}
use Rattle.wjs_start.specs.Known.{Knows, declared_in}
use Rattle.wjs_start.specs.Flags.{IsBuilt}
use Rattle.wjs_start.proofs.Blueprinting.{built-snoc}

-- an object of owner 0 by its number
numbered : (o : ObjId) (n : ℕ) → o.owner ≡ 0 → o.serial ≡ n → o ≡ first_object n
numbered o n e d = λ i. record { owner = e i; serial = d i }

module _ (h : Parts) (n : ℕ) (b : Building h n) where
  -- objects below n are there, and no others of the owner
  pub below_there : (o : ObjId) → o.owner ≡ 0 → o.serial < n → IsTrue (has h.arena o)
  below_there o e lt = (b.heap.arena.serials o).1 (subst (λ (m : ℕ). o.serial < (next_number h.arena m).serial) (sym e) (omega (arith, lt, b.count)))

  there_below : (o : ObjId) → o.owner ≡ 0 → IsTrue (has h.arena o) → o.serial < n
  there_below o e there = let l = subst (λ (m : ℕ). o.serial < (next_number h.arena m).serial) e ((b.heap.arena.serials o).0 there) in omega (arith, l, b.count)

  pub before_there : (o : Option ObjId) → is_before n o ≡ true → arena.IsThere h.arena o
  before_there None e = tt
  before_there (Some o) e = let p = and_parts (o.owner == 0) (nat_lt o.serial n) e in below_there o (eqb-true o.owner 0 p.0) (ltb-true o.serial n p.1)

  pub world_free : (w : Option WorldId) → has_right_world n w ≡ true → IfSome w (λ world. (o : ObjId) → ¬ (world_of h.arena o ≡ Some world))
  world_free None e = tt
  world_free (Some w) e = λ o q. let p = and_parts (n == 13) ((w.owner == 0) && (w.serial == 0)) e in let s = eqb-true n 13 p.0 in let l = (b.worlds o w q).0 in absurd (omega (arith, s, l))

  -- an object was made
  module _ (x : Object) (id : ObjId) (new : Parts) (c : Creates 0 x id h new) where
    is_next : id ≡ first_object n
    is_next = numbered id n (ap (λ (o : ObjId). o.owner) c.number) (ap (λ (o : ObjId). o.serial) c.number ∙ b.count)

    look : (o : ObjId) → map.get new.arena o ≡ cond (eq_by_cmp obj_cmp o (next_number h.arena 0)) (Some (entry_over h.arena x)) (map.get h.arena o)
    look o = ap (λ (m : Objects). map.get m o) c.arena ∙ map.get-insert obj_total h.arena (next_number h.arena 0) (entry_over h.arena x) o

    -- what is there was there, or is the new one
    by_key : (o : ObjId) {P : Type 0} → (o ≡ first_object n → map.get new.arena o ≡ Some (entry_over h.arena x) → P) → (map.get new.arena o ≡ map.get h.arena o → P) → P
    by_key o here old = by_bool (eq_by_cmp obj_cmp o (next_number h.arena 0))
        (λ t. here (key_is o (next_number h.arena 0) t ∙ sym c.number ∙ is_next) (look o ∙ ap (λ q. cond q (Some (entry_over h.arena x)) (map.get h.arena o)) t))
        (λ f. old (look o ∙ ap (λ q. cond q (Some (entry_over h.arena x)) (map.get h.arena o)) f))

    no_more : IsTrue (has new.arena (first_object (n + 1))) → ⊥
    no_more there = by_key (first_object (n + 1))
        (λ e q. let s : n + 1 ≡ n = ap (λ (o : ObjId). o.serial) e in absurd (omega (arith, s)))
        (λ e. let l = there_below (first_object (n + 1)) refl (subst (λ (r : Option Entry). IsTrue (is_some r)) e there) in absurd (omega (arith, l)))

    counted : (next_number new.arena 0).serial ≡ n + 1
    counted =
        let m = (next_number new.arena 0).serial in
        let low : n < m = (c.heap.arena.serials (first_object n)).0 (subst (λ (o : ObjId). IsTrue (has new.arena o)) is_next c.there) in
        ⊎_elim (λ e. e) (λ o. ⊎_elim (λ l. absurd (omega (arith, l, low))) (λ l. absurd (no_more ((c.heap.arena.serials (first_object (n + 1))).1 l))) o) (cases_order m (n + 1))

    new_world : (w : Option WorldId) (v : WorldId) → has_right_world n w ≡ true → w ≡ Some v → (13 < n + 1) × (v ≡ first_world)
    new_world None v e q = none_some None v refl q
    new_world (Some w) v e q =
        let p = and_parts (n == 13) ((w.owner == 0) && (w.serial == 0)) e in
        let s = eqb-true n 13 p.0 in
        let r = and_parts (w.owner == 0) (w.serial == 0) p.1 in
        let same : w ≡ v = same_Some w v q in
        (omega (arith, s), sym same ∙ (λ i. record { owner = eqb-true w.owner 0 r.0 i; serial = eqb-true w.serial 0 r.1 i }))

    right_shown : (w : Option WorldId) → 13 ≡ n → has_right_world n w ≡ true → w ≡ Some first_world
    right_shown None s e = let d : false ≡ true = ap (λ (m : ℕ). not (m == 13)) s ∙ e in absurd (cc)
    right_shown (Some w) s e = ap (λ (v : WorldId). Some v) (new_world (Some w) w e refl).1

    -- object 13 is the new one, or was there
    new_shown : has_right_world n x.world ≡ true → 13 < n + 1 → world_of new.arena first_world_object ≡ Some first_world
    new_shown right lt = by_key first_world_object
        (λ e at. ap (option_and_then (λ (y : Entry). (y.object).world)) at ∙ right_shown x.world (ap (λ (o : ObjId). o.serial) e) right)
        (λ e.
        let there : IsTrue (has new.arena first_world_object) = (c.heap.arena.serials first_world_object).1 (omega (arith, lt, counted)) in
        let old : 13 < n = there_below first_world_object refl (subst (λ (r : Option Entry). IsTrue (is_some r)) e there) in
        ap (option_and_then (λ (y : Entry). (y.object).world)) e ∙ b.shown old)

    pub made : has_right_world n x.world ≡ true → IsTrue (not (is_script x.code)) → Building new (n + 1)
    made right code = record {
      heap = c.heap;
      count = counted;
      worlds = λ o w q. by_key o
          (λ e at. new_world x.world w right (sym (ap (option_and_then (λ (y : Entry). (y.object).world)) at) ∙ q))
          (λ e. let old = b.worlds o w (sym (ap (option_and_then (λ (y : Entry). (y.object).world)) e) ∙ q) in (omega (arith, old.0), old.1));
      shown = λ lt. new_shown right lt;
      codes = λ o y q. by_key o
          (λ e at. subst (λ (z : Entry). IsTrue (not (is_script (z.object).code))) (same_Some (entry_over h.arena x) y (sym at ∙ q)) code)
          (λ e. b.codes o y (sym e ∙ q));
    }

-- ---- one more

pub makes_on : (k : Known) (bs : List Blueprint) (i : ℕ) (d : Blueprint) (old now new : Parts) → i < length bs → Makes k (λ declared. built_from declared 0 (take i bs)) i old now → Makes k (λ declared. built declared (first_object i) (get_or bs i d) ∷ []) (i + 1) now new → Makes k (λ declared. built_from declared 0 (take (i + 1) bs)) (i + 1) old new
makes_on k bs i d old now new lt f s = record {
  building = s.building;
  arena = λ t knows.
      let declared = declared_in t k in
      let b = get_or bs i d in
      let number : 0 + length (take i bs) ≡ i = omega (arith, length-take-le i bs (omega (arith, lt))) in
      s.arena t knows
      ∙ ap (λ a. with_objects a (built declared (first_object i) b ∷ [])) (f.arena t knows)
      ∙ sym (ap (λ (l : List Blueprint). with_objects (arena_in t old.arena) (built_from declared 0 l)) (take_more bs i d lt)
      ∙ ap (with_objects (arena_in t old.arena)) (built-snoc declared 0 (take i bs) b)
      ∙ fold-append (λ (a : Arena) object. created a 0 object) (arena_in t old.arena) (built_from declared 0 (take i bs)) (built declared (first_object (0 + length (take i bs))) b ∷ [])
      ∙ ap (λ m. with_objects (with_objects (arena_in t old.arena) (built_from declared 0 (take i bs))) (built declared (first_object m) b ∷ [])) number);
  texts = s.texts ∙ f.texts;
  store = s.store ∙ f.store;
}

pub makes_none : (k : Known) (h : Parts) → Building h 0 → Makes k (λ declared. []) 0 h h
makes_none k h b = record { building = b; arena = λ t knows. refl; texts = refl; store = refl }

pub makes_all : (k : Known) (bs : List Blueprint) (i : ℕ) (old new : Parts) → i ≡ length bs → take i bs ≡ bs → Makes k (λ declared. built_from declared 0 (take i bs)) i old new → Makes k (λ declared. built_from declared 0 bs) (length bs) old new
makes_all k bs i old new e all m = subst (λ (n : ℕ). Makes k (λ declared. built_from declared 0 bs) n old new) e (subst (λ (l : List Blueprint). Makes k (λ declared. built_from declared 0 l) i old new) all m)

-- each of a list can be built at its place
buildable_at : (n : ℕ) (bs : List Blueprint) (i : ℕ) (d : Blueprint) → i < length bs → are_buildable n bs ≡ true → is_buildable (n + i) (get_or bs i d) ≡ true
buildable_at n [] i d lt h = absurd (omega (arith, lt))
buildable_at n (b ∷ bs) zero d lt h = let e : n + 0 ≡ n = omega arith in ap (λ m. is_buildable m b) e ∙ (and_parts (is_buildable n b) (are_buildable (n + 1) bs) h).0
buildable_at n (b ∷ bs) (suc i) d lt h =
    let e : n + suc i ≡ n + 1 + i = omega arith in
    ap (λ m. is_buildable m (get_or bs i d)) e ∙ buildable_at (n + 1) bs i d (omega (arith, lt)) (and_parts (is_buildable n b) (are_buildable (n + 1) bs) h).1

pub buildable_first : (bs : List Blueprint) (i : ℕ) (d : Blueprint) → i < length bs → are_buildable 0 bs ≡ true → is_buildable i (get_or bs i d) ≡ true
buildable_first bs i d lt h = let e : i ≡ 0 + i = omega arith in ap (λ m. is_buildable m (get_or bs i d)) e ∙ buildable_at 0 bs i d lt h

-- the parts of a test
module _ (n : ℕ) (b : Blueprint) (e : is_buildable n b ≡ true) where
  pub prototype_before : is_before n b.prototype ≡ true
  prototype_before = (and_parts (is_before n b.prototype) (is_before n b.constructs && (has_right_world n b.world && not (is_script b.code))) e).0

  but_prototype : (is_before n b.constructs && (has_right_world n b.world && not (is_script b.code))) ≡ true
  but_prototype = (and_parts (is_before n b.prototype) (is_before n b.constructs && (has_right_world n b.world && not (is_script b.code))) e).1

  pub constructs_before : is_before n b.constructs ≡ true
  constructs_before = (and_parts (is_before n b.constructs) (has_right_world n b.world && not (is_script b.code)) but_prototype).0

  but_constructs : (has_right_world n b.world && not (is_script b.code)) ≡ true
  but_constructs = (and_parts (is_before n b.constructs) (has_right_world n b.world && not (is_script b.code)) but_prototype).1

  world_right : has_right_world n b.world ≡ true
  world_right = (and_parts (has_right_world n b.world) (not (is_script b.code)) but_constructs).0

  no_script : IsTrue (not (is_script b.code))
  no_script = (and_parts (has_right_world n b.world) (not (is_script b.code)) but_constructs).1

-- one object was made
pub made_one : (k : Known) (b : Blueprint) (x : Object) (id : ObjId) (h new : Parts) (n : ℕ) → Building h n → is_buildable n b ≡ true → x.world ≡ b.world → x.code ≡ b.code → ((t : Table) (objects : Objects) → Knows t k → arena.IsThere objects b.constructs → IsBuilt t objects x (built (declared_in t k) (first_object n) b)) → Creates 0 x id h new → Makes k (λ declared. built declared (first_object n) b ∷ []) (n + 1) h new
made_one k b x id h new n building fits same code is c = record {
  building = made h n building x id new c (ap (has_right_world n) same ∙ world_right n b fits) (ap (λ (z : Code). not (is_script z)) code ∙ no_script n b fits);
  arena = λ t knows. c.arena_by t ∙ ap (created (arena_in t h.arena) 0) (is t h.arena knows (before_there h n building b.constructs (constructs_before n b fits))).is;
  texts = c.texts;
  store = c.store;
}
