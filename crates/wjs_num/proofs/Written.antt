-- A number's digits, written from the last on.
use Rattle.std.proofs.Common.{◌≡◌, ℕ, zero, suc, ◌+◌, ◌-◌, ◌/◌, ◌%◌, ◌^◌, ◌<◌, ◌≤◌, sym, ◌∙◌, ap, List, [], ◌∷◌, ◌++◌, map, length, drop, arith, append_assoc}
use Rattle.std.specs.Char.{digit_char}
use Rattle.std.specs.Int.Digits.{digits_of}
use Rattle.std.proofs.lemmas.Int.Digits.{digits_of_step}
use Rattle.std.proofs.lemmas.List.{map-append, drop-set}
use Rattle.std.proofs.lemmas.Nat.{div_below}
use Rattle.std.proofs.lemmas.Grind.{common_steps}
use Rattle.std.proofs.Math.ListN.{set}
use Rattle.std.proofs.Math.Nat.{pow-suc, mul-le-mul_left}

-- the digits of a number, and what stands after them
digits_more : (radix n : ℕ) (after : List ℕ) → 2 ≤ radix → 0 < n
    → map digit_char (digits_of radix (n / radix)) ++ (digit_char (n % radix) ∷ after) ≡ map digit_char (digits_of radix n) ++ after
digits_more radix n after r h =
    sym (ap (λ ds. map digit_char ds ++ after) (digits_of_step radix n r h)
    ∙ ap (λ ds. ds ++ after) (map-append digit_char (digits_of radix (n / radix)) (n % radix ∷ []))
    ∙ append_assoc (map digit_char (digits_of radix (n / radix))) (digit_char (n % radix) ∷ []) after)

pub write_more : (radix n start digit : ℕ) (buffer digits : List ℕ) → 2 ≤ radix → 0 < n → 1 ≤ start → start ≤ length buffer → digit ≡ digit_char (n % radix)
    → map digit_char (digits_of radix n) ++ drop start buffer ≡ digits
    → map digit_char (digits_of radix (n / radix)) ++ drop (start - 1) (set buffer (start - 1) digit) ≡ digits
write_more radix n start digit buffer digits r h s l d e =
    let place : start - 1 < length buffer = omega arith in
    let next : start - 1 + 1 ≡ start = omega arith in
    let written = drop-set buffer (start - 1) digit place in
    rw (written, next, d) (digits_more radix n (drop start buffer) r h) ∙ e

-- a number loses at least its last bit with each digit
pub fewer_digits : (radix n k : ℕ) → 2 ≤ radix → 0 < n → n < 2 ^ k → n / radix < 2 ^ (k - 1)
fewer_digits radix n zero r h s = absurd (omega arith)
fewer_digits radix n (suc k) r h s =
    let e : suc k - 1 ≡ k = omega arith in
    rw e (div_below n radix (2 ^ k) (omega arith) (omega (arith, pow-suc 2 k, mul-le-mul_left (2 ^ k) r)))

pub room : (n k : ℕ) → 0 < n → n < 2 ^ k → 1 ≤ k
room n zero h s = absurd (omega arith)
room n (suc k) h s = omega arith

pub nothing_written : (buffer digits : List ℕ) (n : ℕ) → length buffer ≡ n → digits ++ drop n buffer ≡ digits
nothing_written buffer digits n e = grind (arith, common_steps)
