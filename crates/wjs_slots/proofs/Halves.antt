-- The two parts of a table together.
use Rattle.std.proofs.Common.{◌≡◌, ℕ, ◌+◌, ◌-◌, ◌<◌, ◌≤◌, ◌^◌, ◌==◌, true, cond, nat_le, List, [], ◌∷◌, length, None, Some, refl, ap, sym, ◌∙◌, subst, arith, eqb-true}
use Rattle.std.specs.Ordering.{is_le, ordering_then, nat_cmp, eq_by_cmp}
use Rattle.std.specs.Cmp.{nat_cmp_total, tied_itself}
use Rattle.std.specs.FinMap as map
use Rattle.std.specs.FinMap.{FinMap, find}
use Rattle.std.proofs.lemmas.Bool.Decides.{nat_tests}
use Rattle.wjs_base.specs.declared.ids.ObjId.{ObjId}
use Rattle.wjs_base.specs.declared.values.Name.{Name}
use Rattle.wjs_base.specs.declared.values.Slot.{Slot}
use Rattle.wjs_base.specs.Order.{name_cmp, obj_cmp, slot_cmp, name_total}
use Rattle.wjs_base.proofs.Booleans.{by_bool}
use Rattle.wjs_base.proofs.Numbers.{not_le, le_of}
use Rattle.wjs_names.proofs.Firsts.{from_true}
use Rattle.wjs_slots.specs.Near.{IsSplit}
use Rattle.wjs_slots.proofs.Values.{placed_is, placed_at, table}

le_object : (a b : ObjId) → a.owner ≡ b.owner → a.serial ≤ b.serial → is_le (obj_cmp a b) ≡ true
le_object a b h l = ap (λ n. is_le (ordering_then (nat_cmp n b.owner) (nat_cmp a.serial b.serial))) h ∙ ap (λ c. is_le (ordering_then c (nat_cmp a.serial b.serial))) (tied_itself nat_cmp_total b.owner) ∙ from_true a.serial b.serial l

-- some or none
by_count : {P : Type 0} (n : ℕ) → (n ≡ 0 → P) → (0 < n → P) → P
by_count n f g = by_bool (n == 0) (λ e. f (eqb-true n 0 e)) (λ e. g (grind (arith, nat_tests)))

module _ {V : Type 0} where
  -- an owner of no objects may be any, and begin anywhere
  pub settled : (owner other first next : ℕ) (ms : List (FinMap name_cmp V)) (far : List (Slot × V)) → (0 < length ms → other ≡ owner) → (0 < length ms → next ≡ first) → table other next ms far ≡ table owner first ms far
  settled owner other first next [] far h k = refl
  settled owner other first next (m ∷ ms) far h k = ap (λ o. table o next (m ∷ ms) far) (h (omega arith)) ∙ ap (λ f. table owner f (m ∷ ms) far) (k (omega arith))

  pub split_settled : (owner other first next n : ℕ) (far : List (Slot × V)) → (0 < n → other ≡ owner) → (0 < n → next ≡ first) → (n ≡ 0 → next ≤ 2 ^ 64) → IsSplit owner first n far → IsSplit other next n far
  split_settled owner other first next n far h k none split = record {
    apart = λ q at.
        let p = placed_is other next n q.object (q.object.serial - next) at in
        let b = p.below in
        let s = p.from in
        let some : 0 < n = omega arith in
        let e = k some in
        let s' : first ≤ q.object.serial = omega arith in
        let b' : q.object.serial - first < n = omega arith in
        split.apart q (placed_at owner first n q.object (p.owner_is ∙ h some) s' b');
    ordered = split.ordered;
    short = let l = split.short in by_count n (λ e. let s = none e in subst (λ z. next + z ≤ 2 ^ 64) (sym e) (omega arith)) (λ some. subst (λ f. f + n ≤ 2 ^ 64) (sym (k some)) l);
  }

  -- more objects are near where no far row is of any
  pub split_grown : (owner first n more : ℕ) (last : ObjId) (far : List (Slot × V)) → IsSplit owner first n far → last.owner ≡ owner → last.serial < 2 ^ 64 → first + more ≤ last.serial + 1
      → ((q : Slot) → is_le (obj_cmp (record { owner = owner; serial = first + n }) q.object) ≡ true → is_le (obj_cmp q.object last) ≡ true → find slot_cmp q far ≡ None)
      → IsSplit owner first more far
  split_grown owner first n more last far split o small l none = record {
    apart = λ q at.
        let p = placed_is owner first more q.object (q.object.serial - first) at in
        let b = p.below in
        let s = p.from in
        let here : q.object.serial ≤ last.serial = omega arith in
        by_bool (nat_le (first + n) q.object.serial)
        (λ t. none q (le_object (record { owner = owner; serial = first + n }) q.object (sym p.owner_is) (le_of (first + n) q.object.serial t)) (le_object q.object last (p.owner_is ∙ sym o) here))
        (λ f.
        let c = not_le (first + n) q.object.serial f in
        let d : q.object.serial - first < n = omega arith in
        split.apart q (placed_at owner first n q.object p.owner_is p.from d));
    ordered = split.ordered;
    short = omega arith;
  }

-- ---- one object's names

pub name_set : {V : Type 0} (old new got : FinMap name_cmp V) (name : Name) (v : V) → new ≡ map.insert old name v → old ≡ got → (n : Name) → map.get new n ≡ cond (eq_by_cmp name_cmp n name) (Some v) (map.get got n)
name_set old new got name v e same n = ap (λ m. map.get m n) (e ∙ ap (λ m. map.insert m name v) same) ∙ map.get-insert name_total got name v n

pub name_removed : {V : Type 0} (old new got : FinMap name_cmp V) (name : Name) → new ≡ map.remove old name → old ≡ got → (n : Name) → map.get new n ≡ cond (eq_by_cmp name_cmp n name) None (map.get got n)
name_removed old new got name e same n = ap (λ m. map.get m n) (e ∙ ap (λ m. map.remove m name) same) ∙ map.get-remove name_total got name n
