-- The slots of the first world are written one by one.
use Rattle.std.proofs.Common.{◌≡◌, ℕ, zero, suc, ◌+◌, ◌-◌, ◌<◌, ◌≤◌, true, List, [], ◌∷◌, Some, length, get_or, drop, refl, sym, ap, ◌∙◌, subst, arith}
use Rattle.std.specs.Prelude.{map, ◌&&◌}
use Rattle.std.proofs.lemmas.Bool.{and_parts}
use Rattle.std.proofs.lemmas.List.{drop_more, drop_all}
use Rattle.wjs_base.specs.declared.values.Value.{Value as NumberedValue}
use Rattle.wjs_base.specs.declared.values.Value.TheVariants as values
use Rattle.wjs_base.specs.Text.{Table, Grows}
use Rattle.wjs_base.proofs.TextLaws.{Grows-Has, Grows-IsName}
use Rattle.wjs_by_content.specs.Plans.{Writes, Gives}
use Rattle.wjs_by_content.specs.Tables.{value_in}
use Rattle.wjs_by_content.specs.Renamed.{Holds}
use Rattle.wjs_heap.specs.Heap.{Parts, IsHeap, Performs}
use Rattle.wjs_heap.specs.Means.{nothing}
use Rattle.wjs_heap.proofs.Turns.{performs_nothing, performs_then}
use Rattle.wjs_store.specs.State.{first_world}
use Rattle.wjs_meaning.specs.Start.{Property}
use Rattle.wjs_start.specs.declared.known.Place.{Place}
use Rattle.wjs_start.specs.Known.{IsThere, HasText, place_in}
use Rattle.wjs_start.specs.Writing.{writes_of, is_below, is_value_below, is_within, are_within}
use Rattle.wjs_start.proofs.Underneath.{holds_at}

-- the slots from one on are written
pub record Written (places : List Place) (i : ℕ) (old new : Parts) : Type 0 where
  pub in_range : i ≤ length places
  pub done : Performs first_world (λ t. writes_of (map (place_in t) (drop i places))) (λ t. nothing) old new

pub none_written : (places : List Place) (h : Parts) → IsHeap h → Written places (length places) h h
none_written places h heap = record {
  in_range = omega arith;
  done = subst (λ (l : List Place). Performs first_world (λ t. writes_of (map (place_in t) l)) (λ t. nothing) h h) (sym (drop_all (length places) places (omega arith))) (performs_nothing first_world (λ t. nothing) h heap);
}

pub written_on : (places : List Place) (i : ℕ) (p : Place) (old now new : Parts) → 0 < i → p ≡ get_or places (i - 1) p → Written places i old now → Performs first_world (λ t. let q = place_in t p in Writes q.at (Some q.value) (Gives nothing)) (λ t. nothing) now new → Written places (i - 1) old new
written_on places zero p old now new pos e w f = absurd (omega (arith, pos))
written_on places (suc j) p old now new pos e w f =
    let j_is : suc j - 1 ≡ j = omega arith in
    let lt : j < length places = omega (arith, w.in_range) in
    let rest : j + 1 ≡ suc j = omega arith in
    let here : drop j places ≡ p ∷ drop (suc j) places = drop_more places j p lt ∙ (λ i. sym (e ∙ ap (λ m. get_or places m p) j_is) i ∷ drop (rest i) places) in
    let both = performs_then first_world (λ t. writes_of (map (place_in t) (drop (suc j) places))) (λ t done. let q = place_in t p in Writes q.at (Some q.value) (Gives nothing)) (λ t. nothing) (λ t. nothing) old now new w.done f in
    record {
      in_range = omega (arith, w.in_range);
      done = subst (λ (l : List Place). Performs first_world (λ t. writes_of (map (place_in t) l)) (λ t. nothing) old new) (sym (ap (λ m. drop m places) j_is ∙ here)) both;
    }

pub all_written : (places : List Place) (i : ℕ) (old new : Parts) → i ≤ 0 → Written places i old new → Performs first_world (λ t. writes_of (map (place_in t) places)) (λ t. nothing) old new
all_written places zero old new none w = w.done
all_written places (suc i) old new none w = absurd (omega (arith, none))

-- ---- a slot's object and value are among the first objects, under any table

value_any : (s t : Table) (n : ℕ) (v : NumberedValue) → is_value_below n (value_in s v) ≡ is_value_below n (value_in t v)
value_any s t n values.Undefined = refl
value_any s t n values.Null = refl
value_any s t n (values.Bool b) = refl
value_any s t n (values.Number x) = refl
value_any s t n (values.Text id) = refl
value_any s t n (values.Object o) = refl

within_any : (s t : Table) (n : ℕ) (p : Place) → is_within n (place_in s p) ≡ is_within n (place_in t p)
within_any s t n p = ap (λ b. is_below n (p.slot).object && b) (value_any s t n p.value)

within_at : (n : ℕ) (f : Place → Property) (places : List Place) (i : ℕ) (d : Place) → i < length places → are_within n (map f places) ≡ true → is_within n (f (get_or places i d)) ≡ true
within_at n f [] i d lt h = absurd (omega (arith, lt))
within_at n f (p ∷ ps) zero d lt h = (and_parts (is_within n (f p)) (are_within n (map f ps)) h).0
within_at n f (p ∷ ps) (suc i) d lt h = within_at n f ps i d (omega (arith, lt)) (and_parts (is_within n (f p)) (are_within n (map f ps)) h).1

pub within_still : (s t : Table) (n : ℕ) (places : List Place) (i : ℕ) (p : Place) → i < length places → p ≡ get_or places i p → are_within n (map (place_in s) places) ≡ true → is_within n (place_in t p) ≡ true
within_still s t n places i p lt e h = within_any t s n p ∙ ap (λ (q : Place). is_within n (place_in s q)) e ∙ within_at n (place_in s) places i p lt h

text_still : (s t : Table) → Grows s t → (v : NumberedValue) → HasText s v → HasText t v
text_still s t g values.Undefined h = tt
text_still s t g values.Null h = tt
text_still s t g (values.Bool b) h = tt
text_still s t g (values.Number x) h = tt
text_still s t g (values.Text id) h = Grows-Has s t id g h
text_still s t g (values.Object o) h = tt

pub there_still : (s t : Table) → Grows s t → (places : List Place) (i : ℕ) (p : Place) → i < length places → p ≡ get_or places i p → Holds (IsThere s) places → IsThere t p
there_still s t g places i p lt e h =
    let here = subst (IsThere s) (sym e) (holds_at (IsThere s) places i p lt h) in
    record { name = Grows-IsName s t (p.slot).name g here.name; value = text_still s t g p.value here.value }
