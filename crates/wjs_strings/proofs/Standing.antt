-- Where a text stands in another.
use Rattle.std.proofs.Common.{◌≡◌, ℕ, suc, zero, ◌+◌, ◌<◌, ◌≤◌, true, false, cond, ◌&&◌, nat_le, min, [], ◌∷◌, length, get_or, take, drop, Some, None, Option, refl, ap, sym, ◌∙◌, arith, inl, inr}
use Rattle.std.proofs.lemmas.List.{drop_more, get_or-drop, get_or-take, length-drop, length-take, same_lists, get_or_default, nil_from_length}
use Rattle.std.proofs.lemmas.Slice.Eq.{bytes_eq-Decides}
use Rattle.std.proofs.lemmas.Bool.{cases_Bool, cases_lt, false_from_ne_true, le-leb}
use Rattle.std.proofs.Math.Bool.{and-false}
use Rattle.wjs_base.proofs.Numbers.{lt_not}
use Rattle.wjs_by_content.specs.Values.{Text}
use Rattle.wjs_meaning.specs.NativesOfTexts.{begins_with, first_place, last_place, better}

-- a pattern stands at a place
pub record Stands (s t : Text) (x : ℕ) : Type 0 where
  pub units : (k : ℕ) → k < length s → get_or t (x + k) 0 ≡ get_or s k 0
  pub within : x ≤ length t → x + length s ≤ length t

pub stands_at : (s t : Text) (x : ℕ) → begins_with s (drop x t) ≡ true → Stands s t x
stands_at s t x h =
    let e : s ≡ take (length s) (drop x t) = (bytes_eq-Decides s (take (length s) (drop x t))).0 h in
    let n = ap length e ∙ length-take (length s) (drop x t) in
    record {
      units = λ k below. sym (ap (λ l. get_or l k 0) e ∙ get_or-take (length s) (drop x t) k 0 below ∙ get_or-drop x t k 0);
      within = λ inside. omega (arith, n, length-drop x t);
    }

pub stands_if : (s t : Text) (x : ℕ) → ((k : ℕ) → k < length s → get_or t (x + k) 0 ≡ get_or s k 0) → x + length s ≤ length t → begins_with s (drop x t) ≡ true
stands_if s t x units within =
    let n = length-take (length s) (drop x t) in
    let m = length-drop x t in
    (bytes_eq-Decides s (take (length s) (drop x t))).1
    (same_lists s (take (length s) (drop x t)) (omega (arith, n, m))
    (λ k d below.
    let inside : k < length (take (length s) (drop x t)) = omega (arith, n, m) in
    get_or_default s k d 0 below ∙ sym (units k below) ∙ sym (get_or-drop x t k 0) ∙ sym (get_or-take (length s) (drop x t) k 0 below) ∙ get_or_default (take (length s) (drop x t)) k 0 d inside))

-- a longer one doesn't
begins_short : (s us : Text) → length us < length s → begins_with s us ≡ false
begins_short s us h =
    false_from_ne_true (begins_with s us)
    (λ b.
    let e : s ≡ take (length s) us = (bytes_eq-Decides s (take (length s) us)).0 b in
    let n = ap length e ∙ length-take (length s) us in
    omega (arith, n))

-- ---- the least place

pub first_here : (s : Text) (k : ℕ) (us : Text) → begins_with s us ≡ true → first_place s k us ≡ Some k
first_here s k [] h = ap (λ b. cond b (Some k) None) h
first_here s k (u ∷ us) h = ap (λ b. elim b as (λ v. Option ℕ) [ true ↦ Some k | false ↦ first_place s (k + 1) us ]) h

first_next : (s : Text) (k u : ℕ) (us : Text) → begins_with s (u ∷ us) ≡ false → first_place s k (u ∷ us) ≡ first_place s (k + 1) us
first_next s k u us h = ap (λ b. elim b as (λ v. Option ℕ) [ true ↦ Some k | false ↦ first_place s (k + 1) us ]) h

first_last : (s : Text) (k : ℕ) → begins_with s [] ≡ false → first_place s k [] ≡ None
first_last s k h = ap (λ b. cond b (Some k) None) h

pub first_skip : (s t : Text) (k : ℕ) → k < length t → begins_with s (drop k t) ≡ false → first_place s k (drop k t) ≡ first_place s (k + 1) (drop (k + 1) t)
first_skip s t k h b =
    let e = drop_more t k 0 h in
    ap (first_place s k) e ∙ first_next s k (get_or t k 0) (drop (k + 1) t) (ap (begins_with s) (sym e) ∙ b)

pub first_skips : (s t : Text) (k d : ℕ) → k + d ≤ length t → ((e : ℕ) → e < d → begins_with s (drop (k + e) t) ≡ false) → first_place s k (drop k t) ≡ first_place s (k + d) (drop (k + d) t)
first_skips s t k zero h b = ap (λ x. first_place s x (drop x t)) (omega arith)
first_skips s t k (suc d) h b =
    first_skip s t k (omega arith) (ap (λ x. begins_with s (drop x t)) (omega arith) ∙ b 0 (omega arith))
    ∙ first_skips s t (k + 1) d (omega arith) (λ e below. ap (λ x. begins_with s (drop x t)) (omega arith) ∙ b (e + 1) (omega arith))
    ∙ ap (λ x. first_place s x (drop x t)) (omega arith)

pub first_none : (s : Text) (k : ℕ) (us : Text) → length us < length s → first_place s k us ≡ None
first_none s k [] h = first_last s k (begins_short s [] h)
first_none s k (u ∷ us) h = first_next s k u us (begins_short s (u ∷ us) h) ∙ first_none s (k + 1) us (omega arith)

-- ---- what the least place says

-- the pattern stands at a place of a text, and at none before
pub record FoundAt (s us : Text) (d : ℕ) : Type 0 where
  pub inside : d ≤ length us
  pub here : begins_with s (drop d us) ≡ true
  pub none : (e : ℕ) → e < d → begins_with s (drop e us) ≡ false

none_before : (s : Text) (u : ℕ) (us : Text) (d : ℕ) → begins_with s (u ∷ us) ≡ false → FoundAt s us d → (e : ℕ) → e < suc d → begins_with s (drop e (u ∷ us)) ≡ false
none_before s u us d b found zero below = b
none_before s u us d b found (suc e) below = found.none e (omega arith)

-- one unit on
found_later : (s : Text) (u : ℕ) (us : Text) (d : ℕ) → begins_with s (u ∷ us) ≡ false → FoundAt s us d → FoundAt s (u ∷ us) (suc d)
found_later s u us d b found = record {
  inside = omega (arith, found.inside);
  here = found.here;
  none = none_before s u us d b found;
}

-- how far on a place is that was found
pub record Found (s us : Text) (k p : ℕ) : Type 0 where
  pub on : ℕ
  pub is : p ≡ k + on
  pub at : FoundAt s us on

found_first : (s us : Text) (k p : ℕ) → begins_with s us ≡ true → Some k ≡ Some p → Found s us k p
found_first s us k p b h = record { on = 0; is = (let e : k ≡ p = cc in omega (arith, e)); at = record { inside = omega arith; here = b; none = λ e below. absurd (omega arith) } }

found_on : (s : Text) (u : ℕ) (us : Text) (k p : ℕ) → begins_with s (u ∷ us) ≡ false → Found s us (k + 1) p → Found s (u ∷ us) k p
found_on s u us k p b found = record { on = suc found.on; is = omega (arith, found.is); at = found_later s u us found.on b found.at }

pub found : (s : Text) (k : ℕ) (us : Text) (p : ℕ) → first_place s k us ≡ Some p → Found s us k p
found s k [] p h = elim (cases_Bool (begins_with s [])) [
  | inl b ↦ found_first s [] k p b (sym (first_here s k [] b) ∙ h)
  | inr b ↦ absurd (let e : None ≡ Some p = sym (first_last s k b) ∙ h in cc)
]
found s k (u ∷ us) p h = elim (cases_Bool (begins_with s (u ∷ us))) [
  | inl b ↦ found_first s (u ∷ us) k p b (sym (first_here s k (u ∷ us) b) ∙ h)
  | inr b ↦ found_on s u us k p b (found s (k + 1) us p (sym (first_next s k u us b) ∙ h))
]

missing_on : (s : Text) (u : ℕ) (us : Text) → begins_with s (u ∷ us) ≡ false → ((e : ℕ) → e ≤ length us → begins_with s (drop e us) ≡ false) → (e : ℕ) → e ≤ length (u ∷ us) → begins_with s (drop e (u ∷ us)) ≡ false
missing_on s u us b none zero below = b
missing_on s u us b none (suc e) below = none e (omega arith)

-- it stands at no place
pub missing : (s : Text) (k : ℕ) (us : Text) → first_place s k us ≡ None → (e : ℕ) → e ≤ length us → begins_with s (drop e us) ≡ false
missing s k [] h zero below = elim (cases_Bool (begins_with s [])) [
  | inl b ↦ absurd (let e : Some k ≡ None = sym (first_here s k [] b) ∙ h in cc)
  | inr b ↦ b
]
missing s k [] h (suc e) below = absurd (omega arith)
missing s k (u ∷ us) h e below = elim (cases_Bool (begins_with s (u ∷ us))) [
  | inl b ↦ absurd (let e : Some k ≡ None = sym (first_here s k (u ∷ us) b) ∙ h in cc)
  | inr b ↦ missing_on s u us b (missing s (k + 1) us (sym (first_next s k u us b) ∙ h)) e below
]

-- ---- the greatest place

last_next : (s : Text) (limit : ℕ) (best : Option ℕ) (k u : ℕ) (us : Text) → begins_with s (u ∷ us) ≡ false → last_place s limit best k (u ∷ us) ≡ last_place s limit best (k + 1) us
last_next s limit best k u us b = ap (λ x. last_place s limit (better (nat_le k limit && x) k best) (k + 1) us) b ∙ ap (λ x. last_place s limit (better x k best) (k + 1) us) (and-false (nat_le k limit))

last_end : (s : Text) (limit : ℕ) (best : Option ℕ) (k : ℕ) → begins_with s [] ≡ false → last_place s limit best k [] ≡ best
last_end s limit best k b = ap (λ x. better (nat_le k limit && x) k best) b ∙ ap (λ x. better x k best) (and-false (nat_le k limit))

-- none stands
pub last_none : (s : Text) (limit : ℕ) (best : Option ℕ) (k : ℕ) (us : Text) → ((e : ℕ) → e ≤ length us → begins_with s (drop e us) ≡ false) → last_place s limit best k us ≡ best
last_none s limit best k [] none = last_end s limit best k (none 0 (omega arith))
last_none s limit best k (u ∷ us) none = last_next s limit best k u us (none 0 (omega arith)) ∙ last_none s limit best (k + 1) us (λ e below. none (suc e) (omega arith))

-- none stands at the next places
pub last_skips : (s : Text) (limit : ℕ) (best : Option ℕ) (k : ℕ) (us : Text) (d : ℕ) → d ≤ length us → ((e : ℕ) → e < d → begins_with s (drop e us) ≡ false) → last_place s limit best k us ≡ last_place s limit best (k + d) (drop d us)
last_skips s limit best k us zero h none = ap (λ x. last_place s limit best x us) (omega arith)
last_skips s limit best k [] (suc d) h none = absurd (omega arith)
last_skips s limit best k (u ∷ us) (suc d) h none =
    last_next s limit best k u us (none 0 (omega arith))
    ∙ last_skips s limit best (k + 1) us d (omega arith) (λ e below. none (suc e) (omega arith))
    ∙ ap (λ x. last_place s limit best x (drop d us)) (omega arith)

-- it stands at the next place
pub last_stands : (s : Text) (limit : ℕ) (best : Option ℕ) (k u : ℕ) (us : Text) → begins_with s (u ∷ us) ≡ true → k ≤ limit → last_place s limit best k (u ∷ us) ≡ last_place s limit (Some k) (k + 1) us
last_stands s limit best k u us b h =
    let under : nat_le k limit ≡ true = le-leb k limit h in
    ap (λ x. last_place s limit (better (nat_le k limit && x) k best) (k + 1) us) b ∙ ap (λ x. last_place s limit (better (x && true) k best) (k + 1) us) under

-- past the limit
pub last_past : (s : Text) (limit : ℕ) (best : Option ℕ) (k : ℕ) (us : Text) → limit < k → last_place s limit best k us ≡ best
last_past s limit best k [] h =
    let over = lt_not k limit h in
    ap (λ x. better (x && begins_with s []) k best) over
last_past s limit best k (u ∷ us) h =
    let over = lt_not k limit h in
    ap (λ x. last_place s limit (better (x && begins_with s (u ∷ us)) k best) (k + 1) us) over ∙ last_past s limit best (k + 1) us (omega arith)

-- ---- of the empty text

last_empty_on : (limit : ℕ) (best : Option ℕ) (k : ℕ) (us : Text) → k ≤ limit → last_place [] limit best k us ≡ Some (min limit (k + length us))
last_empty_on limit best k [] h = ap (λ x. better (x && true) k best) (le-leb k limit h) ∙ ap (λ x. Some x) (let q : k ≡ min limit (k + 0) = omega arith in q)
last_empty_on limit best k (u ∷ us) h =
    last_stands [] limit best k u us refl h
    ∙ elim (cases_lt limit (k + 1)) [
      | inl over ↦ last_past [] limit (Some k) (k + 1) us over ∙ ap (λ x. Some x) (let q : k ≡ min limit (k + length (u ∷ us)) = omega arith in q)
      | inr under ↦ last_empty_on limit (Some k) (k + 1) us under ∙ ap (λ x. Some x) (let q : min limit (k + 1 + length us) ≡ min limit (k + length (u ∷ us)) = omega arith in q)
    ]

-- the limit, or the length
pub last_empty : (s : Text) (limit : ℕ) (us : Text) (n : ℕ) → length s ≡ 0 → n ≡ min limit (length us) → Some n ≡ last_place s limit None 0 us
last_empty s limit us n e h =
    ap (λ x. Some x) h ∙ sym (ap (λ l. last_place l limit None 0 us) (nil_from_length s e) ∙ last_empty_on limit None 0 us (omega arith) ∙ ap (λ x. Some x) (let q : min limit (0 + length us) ≡ min limit (length us) = omega arith in q))
