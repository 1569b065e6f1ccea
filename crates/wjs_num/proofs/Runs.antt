-- The longest run at the front, and the value of its digits.
use Rattle.std.proofs.Common.{◌≡◌, ℕ, suc, ◌+◌, ◌-◌, ◌*◌, ◌^◌, ◌<◌, ◌≤◌, min, ◌⊎◌, inl, inr, refl, sym, ◌∙◌, ap, Bool, true, false, List, [], ◌∷◌, None, Some, cond, eqb, ◌&&◌, length, take, drop, get_or, arith}
use Rattle.std.specs.Char.{digit_value, is_digit}
use Rattle.std.specs.List.{prefix_len, list_all}
use Rattle.std.specs.Str.Parse.{digits_value}
use Rattle.std.proofs.lemmas.Bool.{cases_lt}
use Rattle.std.proofs.lemmas.Bool.Decides.{nat_tests}
use Rattle.std.proofs.lemmas.Grind.{common_steps}
use Rattle.std.proofs.lemmas.Int.Digits.{digits_value_more}
use Rattle.std.proofs.lemmas.List.Folds.{length-prefix_len}
use Rattle.std.proofs.Math.Nat.{le-mul_of_pos_right}
use Rattle.std.specs.Prelude.{unsigned_abs}
use Rattle.wjs_num.specs.Exact.{exact}
use Rattle.wjs_num.specs.Numerals.{with_sign, spelled, digits_spell}
use Rattle.wjs_num.proofs.Ranges.{unsigned_abs-neg, both_out}

-- a slice from a place on
pub rest_of : (xs : List ℕ) (m n : ℕ) → m ≡ n → take (length xs - m) (drop m xs) ≡ drop n xs
rest_of xs m n e = grind (arith, common_steps)

capped : (v n radix d : ℕ) → v ≡ min n (2 ^ 53) → 2 ≤ radix → (n < 2 ^ 53) ⊎ (2 ^ 53 ≤ n) → min (v * radix + d) (2 ^ 53) ≡ min (n * radix + d) (2 ^ 53)
capped v n radix d e r (inl h) = let k : v ≡ n = omega arith in rw k refl
capped v n radix d e r (inr h) =
    let k : v ≡ 2 ^ 53 = omega arith in
    let p : 0 < radix = omega arith in
    omega (arith, le-mul_of_pos_right v p, le-mul_of_pos_right n p)

-- one more digit, with the value kept within 2 ^ 53
pub value_more : (units : List ℕ) (radix i v : ℕ) → 2 ≤ radix → i < length units → v ≡ min (digits_value radix (take i units)) (2 ^ 53)
    → min (v * radix + digit_value (get_or units i 0)) (2 ^ 53) ≡ min (digits_value radix (take (i + 1) units)) (2 ^ 53)
value_more units radix i v r h e =
    capped v (digits_value radix (take i units)) radix (digit_value (get_or units i 0)) e r (cases_lt _ _)
    ∙ ap (λ n. min n (2 ^ 53)) (sym (digits_value_more radix units i h))

pub no_digit : (u radix : ℕ) → (digit_value u < radix → ⊥) → is_digit u radix ≡ false
no_digit u radix h = grind (arith, nat_tests)

pub one_digit : (u radix : ℕ) → digit_value u < radix → is_digit u radix ≡ true
one_digit u radix h = grind (arith, nat_tests)

-- what is out of range, with its value kept within 2 ^ 53
unsigned_abs-with_sign : (minus : Bool) (n : ℕ) → unsigned_abs (with_sign minus n) ≡ n
unsigned_abs-with_sign true n = unsigned_abs-neg n
unsigned_abs-with_sign false n = refl

exact_capped : (minus : Bool) (v n : ℕ) → v ≡ min n (2 ^ 53) → (n < 2 ^ 53) ⊎ (2 ^ 53 ≤ n) → exact (with_sign minus v) ≡ exact (with_sign minus n)
exact_capped minus v n e (inl h) = let k : v ≡ n = omega arith in rw k refl
exact_capped minus v n e (inr h) =
    let k : 2 ^ 53 ≤ v = omega arith in
    both_out (with_sign minus v) (with_sign minus n) (omega (arith, unsigned_abs-with_sign minus v)) (omega (arith, unsigned_abs-with_sign minus n))

spelled_by : (minus : Bool) (radix count v : ℕ) (digits : List ℕ) → count ≡ length digits → v ≡ min (digits_value radix digits) (2 ^ 53)
    → spelled minus (cond (eqb count 0) None (Some v)) ≡ spelled minus (digits_spell radix digits)
spelled_by minus radix count v [] c e = let k : eqb count 0 ≡ true = grind (arith, nat_tests) in rw k refl
spelled_by minus radix count v (u ∷ us) c e =
    let k : eqb count 0 ≡ false = grind (arith, nat_tests) in
    rw k (exact_capped minus v (digits_value radix (u ∷ us)) e (cases_lt _ _))

-- what a run of digits in front of a text spells
pub spelled_run : (minus : Bool) (radix count v : ℕ) (units : List ℕ) → count ≡ prefix_len (λ u. is_digit u radix) units → v ≡ min (digits_value radix (take count units)) (2 ^ 53)
    → spelled minus (cond (eqb count 0) None (Some v)) ≡ spelled minus (digits_spell radix (take (prefix_len (λ u. is_digit u radix) units) units))
spelled_run minus radix count v units c e =
    let f : v ≡ min (digits_value radix (take (prefix_len (λ u. is_digit u radix) units) units)) (2 ^ 53) = rw (← c) e in
    spelled_by minus radix count v (take (prefix_len (λ u. is_digit u radix) units) units) (c ∙ sym (length-prefix_len (λ u. is_digit u radix) units)) f

-- a text is all digits where its run is the whole text
all_by : (p : ℕ → Bool) (u : ℕ) (us : List ℕ) (b : Bool) → ((prefix_len p us ≡ length us) → list_all p us ≡ true) → cond b (1 + prefix_len p us) 0 ≡ suc (length us) → (b && list_all p us) ≡ true
all_by p u us true f h = f (omega arith)
all_by p u us false f h = absurd (omega arith)

pub all_digits : (p : ℕ → Bool) (units : List ℕ) → prefix_len p units ≡ length units → list_all p units ≡ true
all_digits p [] h = refl
all_digits p (u ∷ us) h = all_by p u us (p u) (all_digits p us) h

some_by : (p : ℕ → Bool) (us : List ℕ) (b : Bool) → ((prefix_len p us < length us) → list_all p us ≡ false) → cond b (1 + prefix_len p us) 0 < suc (length us) → (b && list_all p us) ≡ false
some_by p us true f h = f (omega arith)
some_by p us false f h = refl

pub not_all_digits : (p : ℕ → Bool) (units : List ℕ) → prefix_len p units < length units → list_all p units ≡ false
not_all_digits p [] h = absurd (omega arith)
not_all_digits p (u ∷ us) h = some_by p us (p u) (not_all_digits p us) h
