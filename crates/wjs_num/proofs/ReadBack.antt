-- Numbers that are written are read back as they were.
use Rattle.std.proofs.Common.{◌≡◌, ℕ, zero, suc, ◌+◌, ◌-◌, ◌*◌, ◌<◌, ◌≤◌, ◌⊎◌, inl, inr, refl, sym, ◌∙◌, ap, cond, Bool, true, false, eqb, leb, List, [], ◌∷◌, map, length, get_or, take, arith, Option, None, Some, Ok, pos, negsuc}
use Rattle.std.specs.Char.{digit_char, is_digit}
use Rattle.std.specs.Int.Digits.{digits_of, number_from_digits, number_from_digits_after, AllBelowBase}
use Rattle.std.specs.List.{prefix_len, suffix_len}
use Rattle.std.specs.Str.Parse.{digits_value_after}
use Rattle.std.proofs.lemmas.Bool.{and_from}
use Rattle.std.proofs.lemmas.Bool.Decides.{nat_tests}
use Rattle.std.proofs.lemmas.Int.{ints}
use Rattle.std.proofs.lemmas.Int.Digits.{all_below_base_digits_of, first_digits_of, number_digits_of}
use Rattle.std.proofs.lemmas.List.Sums.{prefix_len_is, suffix_len_is}
use Rattle.std.proofs.lemmas.Str.{digit_value-digit_char}
use Rattle.std.proofs.Math.Seq.{take-length}
use Rattle.wjs_num.specs.Digits.{numeral}
use Rattle.wjs_num.specs.Exact.{exact}
use Rattle.wjs_num.specs.Numerals.{is_blank, trimmed_front, trimmed_end, after_hex_prefix, has_minus, after_sign, with_sign, digits_spell, text_spells, spelled, or_nan, number_of_trimmed, number_of_text, number_of_numeral, is_radix, meant_radix, run_of_digits, integer_of_text}
use Rattle.wjs_num.specs.ReadBack.{RadixReadsBack, DecimalReadsBack}
use Rattle.wjs_num.proofs.Texts.{integer_found, whole_text}

-- ---- one digit

-- a unit of ASCII past the space is no blank
not_blank : (u : ℕ) → 33 ≤ u → u ≤ 122 → is_blank u ≡ false
not_blank u low high =
    let a : leb u 13 ≡ false = grind (arith, nat_tests) in
    let b : eqb u 32 ≡ false = grind (arith, nat_tests) in
    let c : eqb u 160 ≡ false = grind (arith, nat_tests) in
    let d : eqb u 5760 ≡ false = grind (arith, nat_tests) in
    let e : leb 8192 u ≡ false = grind (arith, nat_tests) in
    let f : eqb u 8232 ≡ false = grind (arith, nat_tests) in
    let g : eqb u 8233 ≡ false = grind (arith, nat_tests) in
    let h : eqb u 8239 ≡ false = grind (arith, nat_tests) in
    let i : eqb u 8287 ≡ false = grind (arith, nat_tests) in
    let j : eqb u 12288 ≡ false = grind (arith, nat_tests) in
    let k : leb 9 u ≡ true = grind (arith, nat_tests) in
    rw (a, b, c, d, e, f, g, h, i, j, k) refl

digit_range : (d : ℕ) → d < 36 → (48 ≤ digit_char d) × (digit_char d ≤ 122)
digit_range d h = (grind (arith, nat_tests), grind (arith, nat_tests))

digit_not_zero : (d : ℕ) → 0 < d → eqb (digit_char d) 48 ≡ false
digit_not_zero d h = grind (arith, nat_tests)

digit_passes : (radix d : ℕ) → radix ≤ 36 → d < radix → is_digit (digit_char d) radix ≡ true
digit_passes radix d r h =
    let e = digit_value-digit_char d (omega arith) in
    rw e (grind (arith, nat_tests))

-- ---- lists of digits

NoBlanks : List ℕ → Type 0
NoBlanks t = (k : ℕ) → is_blank (get_or t k 48) ≡ false

no_blank_digits : (radix : ℕ) (ds : List ℕ) → radix ≤ 36 → AllBelowBase radix ds → (k : ℕ) → is_blank (get_or (map digit_char ds) k 48) ≡ false
no_blank_digits radix [] r a k = not_blank 48 (omega arith) (omega arith)
no_blank_digits radix (d ∷ ds) r a zero = let g = digit_range d (omega (arith, a.0)) in not_blank (digit_char d) (omega (arith, g.0)) g.1
no_blank_digits radix (d ∷ ds) r a (suc k) = no_blank_digits radix ds r a.1 k

no_blank_minus : (t : List ℕ) → ((k : ℕ) → is_blank (get_or t k 48) ≡ false) → (k : ℕ) → is_blank (get_or (45 ∷ t) k 48) ≡ false
no_blank_minus t h zero = not_blank 45 (omega arith) (omega arith)
no_blank_minus t h (suc k) = h k

front_kept : (t : List ℕ) → ((k : ℕ) → is_blank (get_or t k 48) ≡ false) → trimmed_front t ≡ t
front_kept t h =
    let e : prefix_len is_blank t ≡ 0 = prefix_len_is is_blank t 0 48 (omega arith) (λ k l. absurd (omega arith)) (λ l. h 0) in
    rw e refl

end_kept : (t : List ℕ) → ((k : ℕ) → is_blank (get_or t k 48) ≡ false) → trimmed_end t ≡ t
end_kept t h =
    let e : suffix_len is_blank t ≡ length t - length t = suffix_len_is is_blank t (length t) 48 (omega arith) (λ k l m. absurd (omega arith)) (λ l. h (length t - 1)) in
    let f : length t - suffix_len is_blank t ≡ length t = omega (arith, e) in
    ap (λ (n : ℕ). take n t) f ∙ take-length t

all_digits_run : (radix : ℕ) (ds : List ℕ) → radix ≤ 36 → AllBelowBase radix ds → prefix_len (λ u. is_digit u radix) (map digit_char ds) ≡ length (map digit_char ds)
all_digits_run radix [] r a = refl
all_digits_run radix (d ∷ ds) r a =
    let p = digit_passes radix d r a.0 in
    let i = all_digits_run radix ds r a.1 in
    ap (λ b. cond b (1 + prefix_len (λ u. is_digit u radix) (map digit_char ds)) 0) p ∙ omega arith

value_after : (radix n : ℕ) (ds : List ℕ) → radix ≤ 36 → AllBelowBase radix ds → digits_value_after radix n (map digit_char ds) ≡ number_from_digits_after radix n ds
value_after radix n [] r a = refl
value_after radix n (d ∷ ds) r a =
    let e = digit_value-digit_char d (omega (arith, a.0)) in
    ap (λ (v : ℕ). digits_value_after radix (n * radix + v) (map digit_char ds)) e ∙ value_after radix (n * radix + d) ds r a.1

no_sign : (ds : List ℕ) (radix : ℕ) → radix ≤ 36 → AllBelowBase radix ds → (has_minus (map digit_char ds) ≡ false) × (after_sign (map digit_char ds) ≡ map digit_char ds)
no_sign [] radix r a = (refl, refl)
no_sign (d ∷ ds) radix r a =
    let g = (digit_range d (omega (arith, a.0))).0 in
    let m : eqb (digit_char d) 45 ≡ false = grind (arith, nat_tests) in
    let p : eqb (digit_char d) 43 ≡ false = grind (arith, nat_tests) in
    (m, rw (m, p) refl)

no_prefix : (ds : List ℕ) → (0 < get_or ds 0 0) ⊎ (length ds ≡ 1) → after_hex_prefix (map digit_char ds) ≡ None
no_prefix [] h = refl
no_prefix (d ∷ []) h = refl
no_prefix (d ∷ e ∷ ds) (inl h) = let z = digit_not_zero d h in rw z refl
no_prefix (d ∷ e ∷ ds) (inr h) = absurd (omega arith)

-- ---- the digits of a number

record Spelling (radix n : ℕ) (ds : List ℕ) : Type 0 where
  written : numeral radix n ≡ map digit_char ds
  below : AllBelowBase radix ds
  value : number_from_digits radix ds ≡ n
  some : 0 < length ds
  first : (0 < get_or ds 0 0) ⊎ (length ds ≡ 1)

zero_value : (radix : ℕ) → number_from_digits radix (0 ∷ []) ≡ 0
zero_value radix = omega arith

some_digits : (radix n : ℕ) (ds : List ℕ) → number_from_digits radix ds ≡ suc n → 0 < length ds
some_digits radix n [] e = absurd (omega arith)
some_digits radix n (d ∷ ds) e = omega arith

spelling : (radix n : ℕ) → 2 ≤ radix → (ds : List ℕ) × Spelling radix n ds
spelling radix zero r = (0 ∷ [], record { written = refl; below = (omega arith, tt); value = zero_value radix; some = omega arith; first = inr refl })
spelling radix (suc n) r =
    let z : eqb (suc n) 0 ≡ false = grind (arith, nat_tests) in
    let value = number_digits_of radix (suc n) r in (
      digits_of radix (suc n),
      record {
        written = rw z refl;
        below = all_below_base_digits_of radix (suc n) r;
        value = value;
        some = some_digits radix n (digits_of radix (suc n)) value;
        first = inl (first_digits_of radix (suc n) r (omega arith));
      },
    )

spelled_digits : (radix n : ℕ) (ds : List ℕ) → radix ≤ 36 → AllBelowBase radix ds → 0 < length ds → number_from_digits radix ds ≡ n → digits_spell radix (map digit_char ds) ≡ Some n
spelled_digits radix n [] r a s v = absurd (omega arith)
spelled_digits radix n (d ∷ ds) r a s v = ap (λ (m : ℕ). Some m) (value_after radix 0 (d ∷ ds) r a ∙ v)

-- ---- numbers of either sign

in_exact : (minus : Bool) (n : ℕ) → n ≤ 9007199254740991 → exact (with_sign minus n) ≡ Ok (Some (with_sign minus n))
in_exact true zero h = refl
in_exact true (suc n) h = let t : leb (suc n) 9007199254740991 ≡ true = grind (arith, nat_tests) in rw t refl
in_exact false n h = let t : leb n 9007199254740991 ≡ true = grind (arith, nat_tests) in rw t refl

radix_meant : (radix : ℕ) → 2 ≤ radix → meant_radix (pos radix) false ≡ pos radix
radix_meant radix r = grind (arith, nat_tests)

radix_passes : (radix : ℕ) → 2 ≤ radix → radix ≤ 36 → is_radix (pos radix) ≡ true
radix_passes radix r s =
    let a : leb 2 radix ≡ true = grind (arith, nat_tests) in
    let b : leb radix 36 ≡ true = grind (arith, nat_tests) in
    and_from (leb 2 radix) (leb radix 36) a b

-- digits after a sign, or with none
read_digits : (radix n : ℕ) (minus : Bool) (t ds : List ℕ) → 2 ≤ radix → radix ≤ 36 → Spelling radix n ds → n ≤ 9007199254740991
    → trimmed_front t ≡ t → has_minus t ≡ minus → after_sign t ≡ map digit_char ds → integer_of_text t (pos radix) ≡ Ok (Some (with_sign minus n))
read_digits radix n minus t ds r s w small front sign rest =
    let hex = no_prefix ds w.first in
    let run = all_digits_run radix ds s w.below in
    let all : run_of_digits radix (map digit_char ds) ≡ map digit_char ds = ap (λ (k : ℕ). take k (map digit_char ds)) run ∙ take-length (map digit_char ds) in
    integer_found t t (map digit_char ds) None minus (pos radix) (pos radix) (sym front) (sym sign) (sym rest) (sym hex) (sym (radix_meant radix r)) (radix_passes radix r s)
    ∙ ap (λ (u : List ℕ). spelled minus (digits_spell radix u)) all
    ∙ ap (λ (o : Option ℕ). spelled minus o) (spelled_digits radix n ds s w.below w.some w.value)
    ∙ in_exact minus n small

pub radix_reads_back : RadixReadsBack
radix_reads_back radix (pos n) r s h =
    let w = spelling radix n r in
    let t = map digit_char w.0 in
    let sign = no_sign w.0 radix s w.1.below in
    ap (λ (u : List ℕ). integer_of_text u (pos radix)) w.1.written
    ∙ read_digits radix n false t w.0 r s w.1 (omega (arith, ints, h.1)) (front_kept t (no_blank_digits radix w.0 s w.1.below)) sign.0 sign.1
radix_reads_back radix (negsuc n) r s h =
    let w = spelling radix (suc n) r in
    let t = map digit_char w.0 in
    ap (λ (u : List ℕ). integer_of_text (45 ∷ u) (pos radix)) w.1.written
    ∙ read_digits radix (suc n) true (45 ∷ t) w.0 r s w.1 (omega (arith, ints, h.0)) (front_kept (45 ∷ t) (no_blank_minus t (no_blank_digits radix w.0 s w.1.below))) refl refl

-- ---- decimal

no_prefix_minus : (t : List ℕ) → after_hex_prefix (45 ∷ t) ≡ None
no_prefix_minus [] = refl
no_prefix_minus (u ∷ us) = refl

trimmed_some : (t : List ℕ) → 0 < length t → after_hex_prefix t ≡ None → number_of_trimmed t ≡ or_nan (spelled (has_minus t) (text_spells 10 (after_sign t)))
trimmed_some [] h e = absurd (omega arith)
trimmed_some (u ∷ us) h e = ap (λ (o : Option (List ℕ)). number_of_numeral o (u ∷ us)) e

read_decimal : (n : ℕ) (minus : Bool) (t ds : List ℕ) → Spelling 10 n ds → n ≤ 9007199254740991 → ((k : ℕ) → is_blank (get_or t k 48) ≡ false) → 0 < length t → after_hex_prefix t ≡ None
    → has_minus t ≡ minus → after_sign t ≡ map digit_char ds → number_of_text t ≡ Some (with_sign minus n)
read_decimal n minus t ds w small blanks some hex sign rest =
    let run = all_digits_run 10 ds (omega arith) w.below in
    let spelt : text_spells 10 (map digit_char ds) ≡ Some n =
    sym (whole_text 10 (map digit_char ds) run) ∙ ap (λ (k : ℕ). digits_spell 10 (take k (map digit_char ds))) run ∙ ap (λ (u : List ℕ). digits_spell 10 u) (take-length (map digit_char ds))
    ∙ spelled_digits 10 n ds (omega arith) w.below w.some w.value in
    ap (λ (u : List ℕ). number_of_trimmed (trimmed_end u)) (front_kept t blanks)
    ∙ ap number_of_trimmed (end_kept t blanks)
    ∙ trimmed_some t some hex
    ∙ ap (λ (b : Bool). or_nan (spelled b (text_spells 10 (after_sign t)))) sign
    ∙ ap (λ (u : List ℕ). or_nan (spelled minus (text_spells 10 u))) rest
    ∙ ap (λ (o : Option ℕ). or_nan (spelled minus o)) spelt
    ∙ ap or_nan (in_exact minus n small)

length_map : (ds : List ℕ) → 0 < length ds → 0 < length (map digit_char ds)
length_map [] h = absurd (omega arith)
length_map (d ∷ ds) h = omega arith

pub decimal_reads_back : DecimalReadsBack
decimal_reads_back None h = refl
decimal_reads_back (Some (pos n)) h =
    let w = spelling 10 n (omega arith) in
    let t = map digit_char w.0 in
    let sign = no_sign w.0 10 (omega arith) w.1.below in
    ap number_of_text w.1.written
    ∙ read_decimal n false t w.0 w.1 (omega (arith, ints, h.1)) (no_blank_digits 10 w.0 (omega arith) w.1.below) (length_map w.0 w.1.some) (no_prefix w.0 w.1.first) sign.0 sign.1
decimal_reads_back (Some (negsuc n)) h =
    let w = spelling 10 (suc n) (omega arith) in
    let t = map digit_char w.0 in
    ap (λ (u : List ℕ). number_of_text (45 ∷ u)) w.1.written
    ∙ read_decimal (suc n) true (45 ∷ t) w.0 w.1 (omega (arith, ints, h.0)) (no_blank_minus t (no_blank_digits 10 w.0 (omega arith) w.1.below)) (omega arith) (no_prefix_minus t) refl refl
