-- The entries of a map, one after another.
use Rattle.std.proofs.Common.{◌≡◌, ℕ, ◌+◌, Bool, true, cond, T, List, [], ◌∷◌, map as each, Some, slice_get, refl, ap, sym, ◌∙◌, arith, suc, zero}
use Rattle.std.specs.declared.cmp.Ordering.{Ordering}
use Rattle.std.specs.declared.cmp.Ordering.TheVariants.{Less, Equal, Greater}
use Rattle.std.specs.Ordering.{is_lt, is_le, nat_cmp, ordering_then}
use Rattle.std.specs.Option.{option_map}
use Rattle.std.specs.Cmp.{IsTotalOrder}
use Rattle.std.specs.FinMap as map
use Rattle.std.specs.FinMap.{FinMap}
use Rattle.std.specs.FinMap.Entries.{below_all, is_sorted}
use Rattle.std.specs.Map.{lookup_entry, lookup_key}
use Rattle.std.proofs.lemmas.Bool.{false≢true}
use Rattle.std.proofs.lemmas.Bool.Decides.{nat_tests}
use Rattle.std.proofs.lemmas.Option.{same_Some}
use Rattle.wjs_base.specs.declared.ids.ObjId.{ObjId}
use Rattle.wjs_base.specs.declared.values.Slot.{Slot}
use Rattle.wjs_base.specs.declared.values.Name.TheVariants.{Index}
use Rattle.wjs_base.specs.Order.{slot_cmp, obj_cmp, name_cmp}
use Rattle.wjs_base.proofs.Booleans.{left_true, right_true, T_true}
use Rattle.wjs_base.proofs.Options.{no_none}
use Rattle.wjs_base.proofs.Orders.{not_back, not_self}
use Rattle.wjs_rows.specs.Order.{is_from, is_after}
use Rattle.wjs_layers.specs.Least.{first_object}
use Rattle.wjs_slots.specs.Least.{first_slot}
use Rattle.wjs_names.proofs.Walks.{first_name}
use Rattle.wjs_layers.proofs.Lists.{key_of_entry}

module _ {K V : Type 0} {R : K → K → Ordering} (total : IsTotalOrder R) where
  pub below_at : (k : K) (es : List (K × V)) (i : ℕ) (e : K × V) → T (below_all R k es) → slice_get es i ≡ Some e → is_lt (R k e.0) ≡ true
  below_at k [] i e h s = no_none e s
  below_at k (d ∷ ds) zero e h s = ap (λ (z : K × V). is_lt (R k z.0)) (sym (same_Some d e s)) ∙ T_true (is_lt (R k d.0)) (left_true (is_lt (R k d.0)) (below_all R k ds) h)
  below_at k (d ∷ ds) (suc i) e h s = below_at k ds i e (right_true (is_lt (R k d.0)) (below_all R k ds) h) s

  first_below : (k : K) (ds : List (K × V)) → T (below_all R k ds) → lookup_entry (is_after R k) ds ≡ slice_get ds 0
  first_below k [] h = refl
  first_below k (d ∷ ds) h = ap (λ b. cond b (Some d) (lookup_entry (is_after R k) ds)) (T_true (is_lt (R k d.0)) (left_true (is_lt (R k d.0)) (below_all R k ds) h))

  after_on : (es : List (K × V)) (i : ℕ) (e : K × V) → T (is_sorted R es) → slice_get es i ≡ Some e → lookup_entry (is_after R e.0) es ≡ slice_get es (suc i)
  after_on [] i e h s = no_none e s
  after_on (d ∷ ds) zero e h s =
      ap (λ (z : K × V). lookup_entry (is_after R z.0) (d ∷ ds)) (sym (same_Some d e s))
      ∙ ap (λ b. cond b (Some d) (lookup_entry (is_after R d.0) ds)) (not_self total d.0)
      ∙ first_below d.0 ds (left_true (below_all R d.0 ds) (is_sorted R ds) h)
  after_on (d ∷ ds) (suc i) e h s =
      ap (λ b. cond b (Some d) (lookup_entry (is_after R e.0) ds)) (not_back total d.0 e.0 (below_at d.0 ds i e (left_true (below_all R d.0 ds) (is_sorted R ds) h) s))
      ∙ after_on ds i e (right_true (below_all R d.0 ds) (is_sorted R ds) h) s

  -- the entry after one is the next
  pub after_is : (m : FinMap R V) (i : ℕ) (e : K × V) → slice_get (map.entries m) i ≡ Some e → lookup_entry (is_after R e.0) (map.entries m) ≡ slice_get (map.entries m) (i + 1)
  after_is m i e s = let n : suc i ≡ i + 1 = omega arith in after_on (map.entries m) i e (map.entries_sorted m) s ∙ ap (slice_get (map.entries m)) n

pub from_is : {K V : Type 0} (p : K → Bool) (es : List (K × V)) → ((k : K) → p k ≡ true) → lookup_entry p es ≡ slice_get es 0
from_is p [] h = refl
from_is p (e ∷ es) h = ap (λ b. cond b (Some e) (lookup_entry p es)) (h e.0)

key_at : {K V : Type 0} (es : List (K × V)) (i : ℕ) → option_map (λ (e : K × V). e.0) (slice_get es i) ≡ slice_get (each (λ (e : K × V). e.0) es) i
key_at [] i = refl
key_at (e ∷ es) zero = refl
key_at (e ∷ es) (suc i) = key_at es i

entry_at : {K V : Type 0} (es : List (K × V)) (i : ℕ) (k : K) → slice_get (each (λ (e : K × V). e.0) es) i ≡ Some k → (v : V) × (slice_get es i ≡ Some (k, v))
entry_at [] i k h = no_none k h
entry_at (e ∷ es) zero k h = let is = same_Some e.0 k h in (e.1, ap (λ j. Some (j, e.1)) is)
entry_at (e ∷ es) (suc i) k h = entry_at es i k h

-- the same of keys
pub after_key : {K V : Type 0} {R : K → K → Ordering} → IsTotalOrder R → (m : FinMap R V) (i : ℕ) (k : K) → slice_get (map.keys m) i ≡ Some k → lookup_key (is_after R k) (map.entries m) ≡ slice_get (map.keys m) (i + 1)
after_key {R = R} total m i k s =
    let e = entry_at (map.entries m) i k s in
    key_of_entry (is_after R k) (map.entries m) ∙ ap (option_map (λ e. e.0)) (after_is total m i (k, e.0) e.1) ∙ key_at (map.entries m) (i + 1)

pub from_key : {K V : Type 0} (p : K → Bool) (es : List (K × V)) → ((k : K) → p k ≡ true) → lookup_key p es ≡ slice_get (each (λ (e : K × V). e.0) es) 0
from_key p es h = key_of_entry p es ∙ ap (option_map (λ e. e.0)) (from_is p es h) ∙ key_at es 0

-- ---- the least of all

zero_le : (n : ℕ) → is_le (nat_cmp 0 n) ≡ true
zero_le n = grind (arith, nat_tests)

le_then : (a b : Ordering) → is_le a ≡ true → is_le b ≡ true → is_le (ordering_then a b) ≡ true
le_then Less b h k = refl
le_then Equal b h k = k
le_then Greater b h k = absurd (false≢true h)

pub all_objects : (o : ObjId) → is_from obj_cmp first_object o ≡ true
all_objects o = le_then (nat_cmp 0 o.owner) (nat_cmp 0 o.serial) (zero_le o.owner) (zero_le o.serial)

pub all_slots : (s : Slot) → is_from slot_cmp first_slot s ≡ true
all_slots s = le_then (obj_cmp first_object s.object) (name_cmp (Index 0) s.name) (all_objects s.object) (first_name s.name)
