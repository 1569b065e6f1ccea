-- Values with the kinds of their conversions.
use Rattle.std.proofs.Common.{◌≡◌, ℕ, zero, suc, ◌+◌, ◌<◌, ◌≤◌, Bool, false, cond, ltb, Some, None, List, [], ◌∷◌, ◌++◌, length, get_or, set, take, drop, map, refl, sym, ap, ◌∙◌, arith, inl, inr}
use Rattle.std.specs.Prelude.{slice_get}
use Rattle.std.proofs.lemmas.Bool.{cases_lt, lt-ltb}
use Rattle.std.proofs.lemmas.Bool.Decides.{leb_tells}
use Rattle.std.proofs.lemmas.List.{get_or-set_other, get_or_past, take_more_set, take_all, length-set, length_push, length-map, map-set, map-append}
use Rattle.wjs_arena.specs.declared.native.Native.{Native}
use Rattle.wjs_by_content.specs.Values.{Value, Undefined}
use Rattle.wjs_meaning.specs.Deeds.{Env, Act, Sub, then_value}
use Rattle.wjs_meaning.specs.declared.kinds.Kind.{Kind}
use Rattle.wjs_meaning.specs.Kinds.{with_kinds, convert}
use Rattle.wjs_meaning.specs.Natives.{convert_from, native_run}
use Rattle.wjs_natives.specs.Kinds.{conversions}
use Rattle.wjs_natives.specs.Converting.{placed, converting}

-- ---- values with kinds

pairs_head : (k : Kind) (ks : List Kind) (vs : List Value) → with_kinds (k ∷ ks) vs ≡ (k, get_or vs 0 Undefined) ∷ with_kinds ks (drop 1 vs)
pairs_head k ks [] = refl
pairs_head k ks (v ∷ vs) = refl

drop_get : (vs : List Value) (n : ℕ) → get_or (drop 1 vs) n Undefined ≡ get_or vs (suc n) Undefined
drop_get [] n = refl
drop_get (v ∷ vs) n = refl

-- the pair at a place, and those past it
pub pairs_next : (ks : List Kind) (vs : List Value) (at : ℕ) (k : Kind) → slice_get ks at ≡ Some k → drop at (with_kinds ks vs) ≡ (k, get_or vs at Undefined) ∷ drop (suc at) (with_kinds ks vs)
pairs_next [] vs at k h = absurd (cc)
pairs_next (x ∷ ks) vs zero k h =
    let e : x ≡ k = cc in
    pairs_head x ks vs ∙ ap (λ z. (z, get_or vs 0 Undefined) ∷ with_kinds ks (drop 1 vs)) e ∙ ap (λ l. (k, get_or vs 0 Undefined) ∷ drop 1 l) (sym (pairs_head x ks vs))
pairs_next (x ∷ ks) vs (suc n) k h =
    ap (drop (suc n)) (pairs_head x ks vs)
    ∙ pairs_next ks (drop 1 vs) n k h
    ∙ ap (λ z. (k, z) ∷ drop (suc n) (with_kinds ks (drop 1 vs))) (drop_get vs n)
    ∙ ap (λ l. (k, get_or vs (suc n) Undefined) ∷ drop (suc (suc n)) l) (sym (pairs_head x ks vs))

-- no pair is past the last
pub pairs_end : (ks : List Kind) (vs : List Value) (at : ℕ) → slice_get ks at ≡ None → drop at (with_kinds ks vs) ≡ []
pairs_end [] vs zero h = refl
pairs_end [] vs (suc n) h = refl
pairs_end (x ∷ ks) vs zero h = absurd (cc)
pairs_end (x ∷ ks) vs (suc n) h = ap (drop (suc n)) (pairs_head x ks vs) ∙ pairs_end ks (drop 1 vs) n h

-- the same values from a place on
pairs_same : (ks : List Kind) (vs ws : List Value) (at : ℕ) → ((p : ℕ) → at ≤ p → get_or vs p Undefined ≡ get_or ws p Undefined) → drop at (with_kinds ks vs) ≡ drop at (with_kinds ks ws)
pairs_same [] vs ws zero h = refl
pairs_same [] vs ws (suc n) h = refl
pairs_same (x ∷ ks) vs ws zero h =
    pairs_head x ks vs
    ∙ ap (λ z. (x, z) ∷ with_kinds ks (drop 1 vs)) (h 0 (omega arith))
    ∙ ap (λ l. (x, get_or ws 0 Undefined) ∷ l) (pairs_same ks (drop 1 vs) (drop 1 ws) zero (λ p below. drop_get vs p ∙ h (suc p) (omega arith) ∙ sym (drop_get ws p)))
    ∙ sym (pairs_head x ks ws)
pairs_same (x ∷ ks) vs ws (suc n) h =
    ap (drop (suc n)) (pairs_head x ks vs)
    ∙ pairs_same ks (drop 1 vs) (drop 1 ws) n (λ p below. drop_get vs p ∙ h (suc p) (omega arith) ∙ sym (drop_get ws p))
    ∙ ap (drop (suc n)) (sym (pairs_head x ks ws))

-- ---- a value at a place

pub placed_within : {A : Type 0} (xs : List A) (at : ℕ) (x : A) → at < length xs → placed xs at x ≡ set xs at x
placed_within xs at x h = ap (λ b. cond b (set xs at x) (xs ++ x ∷ [])) (lt-ltb at (length xs) h)

pub placed_past : {A : Type 0} (xs : List A) (at : ℕ) (x : A) → length xs ≤ at → placed xs at x ≡ xs ++ x ∷ []
placed_past xs at x h = let over : ltb at (length xs) ≡ false = elim (leb_tells (suc at) (length xs)) [ inl w ↦ absurd (omega (arith, w.1)) | inr w ↦ w.0 ] in ap (λ b. cond b (set xs at x) (xs ++ x ∷ [])) over

-- what stands past the place stays
placed_keeps : (vs : List Value) (at : ℕ) (v : Value) (p : ℕ) → at < p → get_or vs p Undefined ≡ get_or (placed vs at v) p Undefined
placed_keeps vs at v p h = elim (cases_lt at (length vs)) [
  | inl below ↦ sym (ap (λ l. get_or l p Undefined) (placed_within vs at v below) ∙ get_or-set_other vs at p v Undefined (λ e. omega arith))
  | inr past ↦ get_or_past vs p Undefined (omega arith) ∙ sym (ap (λ l. get_or l p Undefined) (placed_past vs at v past) ∙ get_or_past (vs ++ v ∷ []) p Undefined (omega (arith, length_push vs v)))
]

-- the values up to it
placed_front : {A : Type 0} (vs : List A) (at : ℕ) (v : A) → take (at + 1) (placed vs at v) ≡ take at vs ++ v ∷ []
placed_front vs at v = elim (cases_lt at (length vs)) [
  | inl below ↦ ap (take (at + 1)) (placed_within vs at v below) ∙ take_more_set vs at v below
  | inr past ↦ ap (take (at + 1)) (placed_past vs at v past) ∙ take_all (at + 1) (vs ++ v ∷ []) (omega (arith, length_push vs v)) ∙ ap (λ l. l ++ v ∷ []) (sym (take_all at vs past))
]

pub placed_length : {A : Type 0} (vs : List A) (at : ℕ) (v : A) → at < length vs → length (placed vs at v) ≡ length vs
placed_length vs at v h = ap length (placed_within vs at v h) ∙ length-set vs at v

pub placed_longer : {A : Type 0} (vs : List A) (at : ℕ) (v : A) → length vs ≤ at → length (placed vs at v) ≡ length vs + 1
placed_longer vs at v h = ap length (placed_past vs at v h) ∙ length_push vs v

pub map-placed : {A B : Type 0} (f : A → B) (vs : List A) (at : ℕ) (v : A) → map f (placed vs at v) ≡ placed (map f vs) at (f v)
map-placed f vs at v = elim (cases_lt at (length vs)) [
  | inl below ↦ ap (map f) (placed_within vs at v below) ∙ map-set f vs at v ∙ sym (placed_within (map f vs) at (f v) (omega (arith, length-map vs f)))
  | inr past ↦ ap (map f) (placed_past vs at v past) ∙ map-append f vs (v ∷ []) ∙ sym (placed_past (map f vs) at (f v) (omega (arith, length-map vs f)))
]

-- ---- a step of the conversions

module _ (native : Native) (new : Bool) (given : ℕ) (env : Env) where
  pub converting_placed : (vs : List Value) (at : ℕ) (v : Value) → convert_from native new (drop (at + 1) (with_kinds (conversions native given) vs)) (take at vs ++ v ∷ []) env ≡ converting native new given (placed vs at v) (at + 1) env
  converting_placed vs at v =
      ap (λ l. convert_from native new l (take at vs ++ v ∷ []) env) (pairs_same (conversions native given) vs (placed vs at v) (at + 1) (λ p h. placed_keeps vs at v p (omega arith)))
      ∙ ap (λ l. convert_from native new (drop (at + 1) (with_kinds (conversions native given) (placed vs at v))) l env) (sym (placed_front vs at v))

  pub converting_next : (vs : List Value) (at : ℕ) (k : Kind) → slice_get (conversions native given) at ≡ Some k → converting native new given vs at env ≡ Sub (convert k (get_or vs at Undefined) env) (then_value (λ v. converting native new given (placed vs at v) (at + 1) env))
  converting_next vs at k h =
      let step : suc at ≡ at + 1 = omega arith in
      ap (λ l. convert_from native new l (take at vs) env) (pairs_next (conversions native given) vs at k h)
      ∙ ap (λ n. Sub (convert k (get_or vs at Undefined) env) (then_value (λ v. convert_from native new (drop n (with_kinds (conversions native given) vs)) (take at vs ++ v ∷ []) env))) step
      ∙ ap (λ (go : Value → Act). Sub (convert k (get_or vs at Undefined) env) (then_value go)) (λ i v. converting_placed vs at v i)

  pub converting_end : (vs : List Value) (at : ℕ) → slice_get (conversions native given) at ≡ None → converting native new given vs at env ≡ native_run native new (take at vs) env
  converting_end vs at h = ap (λ l. convert_from native new l (take at vs) env) (pairs_end (conversions native given) vs at h)
