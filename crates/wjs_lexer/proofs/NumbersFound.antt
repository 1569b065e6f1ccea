-- What was read is the number that stands there, or none stands there.
use Rattle.std.proofs.Common.{◌≡◌, ℕ, ◌+◌, ◌-◌, ◌*◌, ◌^◌, ◌<◌, ◌≤◌, ◌⊎◌, inl, inr, Bool, true, false, ◌||◌, ◌==◌, refl, subst, sym, ◌∙◌, ap, arith, List, Option, Some, None, drop}
use Rattle.std.specs.Prelude.{slice_get, slice_range, if◌then◌else◌}
use Rattle.std.specs.Int.{is_in_range}
use Rattle.std.specs.Char.{is_digit, digit_value}
use Rattle.std.specs.Str.Parse.{digits_value}
use Rattle.std.proofs.lemmas.Bool.{cases_order}
use Rattle.std.proofs.lemmas.Bool.Decides.{nat_tests}
use Rattle.std.proofs.lemmas.Int.Digits.{digits_value_push}
use Rattle.std.proofs.lemmas.Str.Parse.{digits_value-take-le}
use Rattle.std.proofs.lemmas.List.{take-take}
use Rattle.unicode_ident.proofs.Computing.{unicode_ident}
use Rattle.wjs_lexer.specs.declared.numbers.Base.{Base}
use Rattle.wjs_lexer.specs.declared.numbers.Base.TheVariants as bases
use Rattle.wjs_lexer.specs.declared.characters.Kind.TheVariants as kinds
use Rattle.wjs_lexer.specs.Characters.{starts_name, is_decimal}
use Rattle.wjs_lexer.specs.Places.{AllPass, passes}
use Rattle.wjs_lexer.specs.Numbers.{radix, digits_from, is_x, Opens, IsNumeral, IsZero, is_bound_to_number, IsNumber}
use Rattle.wjs_lexer.specs.Pieces.{Piece, number, StandsAt, PieceAt, NoPieceAt}
use Rattle.wjs_lexer.specs.Cursors.{digit_here, DigitsEnd, TooBig}
use Rattle.wjs_lexer.proofs.Ranges.{range_more, pass_more, clash, same_char}
use Rattle.wjs_lexer.proofs.KindLemmas.{fits, fits_kind, digit_kind, hex_bound, other_digit}

-- a digit that stands at a place
chosen : (b : Bool) (x d : ℕ) → Some d ≡ (if b then Some x else None) → (b ≡ true) × (d ≡ x)
chosen true x d h = (refl, cc)
chosen false x d h = cc

pub digit_char : (r : ℕ) (o : Option ℕ) (d : ℕ) → Some d ≡ digit_here r o → (c : ℕ) × ((o ≡ Some c) × ((is_digit c r ≡ true) × (d ≡ digit_value c)))
digit_char r None d h = cc
digit_char r (Some c) d h = (c, (refl, chosen (is_digit c r) (digit_value c) d h))

pub value_more : (r : ℕ) (cs : List ℕ) (i n c v w : ℕ) → i ≤ n → slice_get cs n ≡ Some c → v ≡ digits_value r (slice_range cs i n) → w ≡ v * r + digit_value c → w ≡ digits_value r (slice_range cs i (n + 1))
value_more r cs i n c v w le h e f = f ∙ ap (λ (x : ℕ). x * r + digit_value c) e ∙ sym (digits_value_push r (slice_range cs i n) c) ∙ ap (λ (ds : List ℕ). digits_value r ds) (sym (range_more cs i n c le h))

pub too_big : (base : Base) (cs : List ℕ) (i n c v w : ℕ) → i ≤ n → AllPass (λ x. is_digit x (radix base)) cs i n → slice_get cs n ≡ Some c → is_digit c (radix base) ≡ true → v ≡ digits_value (radix base) (slice_range cs i n) → w ≡ v * radix base + digit_value c → 2 ^ 53 ≤ w → TooBig base cs i
too_big base cs i n c v w le a h d e f big = record {
  end = n + 1;
  some = omega arith;
  digits = pass_more (λ x. is_digit x (radix base)) cs i n c a h d;
  big = let k = value_more (radix base) cs i n c v w le h e f in subst (λ (x : ℕ). 2 ^ 53 ≤ x) k big;
}

-- what begins with a digit is a number
number_piece : (q : Piece) (cs : List ℕ) (i m : ℕ) → fits q kinds.Digit ≡ true → StandsAt cs i m q → (w : ℕ) × ((q ≡ number w) × IsNumber cs i m w)
number_piece (number w) cs i m f h = (w, (refl, h))
number_piece q cs i m f h = cc

digit_piece : (q : Piece) (cs : List ℕ) (i m c : ℕ) → slice_get cs i ≡ Some c → is_decimal c ≡ true → StandsAt cs i m q → (w : ℕ) × ((q ≡ number w) × IsNumber cs i m w)
digit_piece q cs i m c e d h = number_piece q cs i m (fits_kind q cs i m c kinds.Digit e (digit_kind c d) h) h

ten_decimal : (c : ℕ) → is_digit c 10 ≡ true → is_decimal c ≡ true
ten_decimal c h = grind (arith, nat_tests)

or_second : (a b c : Bool) → b ≡ true → (a || (b || c)) ≡ true
or_second true b c e = refl
or_second false true c e = refl
or_second false false c e = cc

decimal_bound : (c : ℕ) → is_decimal c ≡ true → is_bound_to_number c ≡ true
decimal_bound c h = or_second (starts_name c) (is_decimal c) (c == 46) h

-- a number binds each digit of its base
bound_of : (base : Base) (c : ℕ) → is_digit c (radix base) ≡ true → is_bound_to_number c ≡ true
bound_of bases.Decimal c h = decimal_bound c (ten_decimal c h)
bound_of bases.Hexadecimal c h = hex_bound c h

unbound : (a b : Bool) → (a ≡ true → b ≡ true) → b ≡ false → a ≡ false
unbound false b f h = refl
unbound true b f h = let z = f refl in cc

no_digit_behind : (base : Base) (o : Option ℕ) → passes is_bound_to_number o ≡ false → passes (λ c. is_digit c (radix base)) o ≡ false
no_digit_behind base None h = refl
no_digit_behind base (Some c) h = unbound (is_digit c (radix base)) (is_bound_to_number c) (bound_of base c) h

not_nonzero : (c : ℕ) → is_in_range 49 57 c ≡ true → c ≡ 48 → ⊥
not_nonzero c h e = let z : is_in_range 49 57 48 ≡ true = subst (λ (x : ℕ). is_in_range 49 57 x ≡ true) e h in cc

first_nonzero : (cs : List ℕ) (i : ℕ) (o : Option ℕ) → slice_get cs i ≡ o → passes (λ c. is_in_range 49 57 c) o ≡ true → o ≡ Some 48 → ⊥
first_nonzero cs i None e h f = cc
first_nonzero cs i (Some c) e h f = not_nonzero c h (same_char c 48 (Some c) refl f)

zero_opens : (cs : List ℕ) (i : ℕ) → Opens bases.Decimal cs i → slice_get cs i ≡ Some 48 → ⊥
zero_opens cs i h e = first_nonzero cs i (slice_get cs i) refl h e

-- a literal is of one base
one_base : (b d : Base) (cs : List ℕ) (i : ℕ) → Opens b cs i → Opens d cs i → d ≡ b
one_base bases.Decimal bases.Decimal cs i h k = refl
one_base bases.Decimal bases.Hexadecimal cs i h k = absurd (zero_opens cs i h k.0)
one_base bases.Hexadecimal bases.Decimal cs i h k = absurd (zero_opens cs i k h.0)
one_base bases.Hexadecimal bases.Hexadecimal cs i h k = refl

x_cases : (c : ℕ) → is_x c ≡ true → (c ≡ 120) ⊎ (c ≡ 88)
x_cases c h = grind (arith, nat_tests)

small_x : is_bound_to_number 120 ≡ true
unfolding starts_name unicode_ident
small_x = refl

large_x : is_bound_to_number 88 ≡ true
unfolding starts_name unicode_ident
large_x = refl

x_or : (c : ℕ) → (c ≡ 120) ⊎ (c ≡ 88) → is_bound_to_number c ≡ true
x_or c (inl e) = rw e small_x
x_or c (inr e) = rw e large_x

x_bound : (o : Option ℕ) → passes is_x o ≡ true → passes is_bound_to_number o ≡ true
x_bound None h = cc
x_bound (Some c) h = x_or c (x_cases c h)

zero_not : (base : Base) (cs : List ℕ) (i m : ℕ) → Opens base cs i → slice_get cs i ≡ Some 48 → m ≡ i + 1 → passes is_bound_to_number (slice_get cs m) ≡ false → ⊥
zero_not bases.Decimal cs i m h e f nx = zero_opens cs i h e
zero_not bases.Hexadecimal cs i m h e f nx = clash is_bound_to_number (slice_get cs m) (x_bound _ (rw f h.1)) nx

numeral_only : (base : Base) (cs : List ℕ) (i m w : ℕ) → Opens base cs i → passes is_bound_to_number (slice_get cs m) ≡ false → IsZero cs i m w ⊎ ((d : Base) × IsNumeral d cs i m w) → IsNumeral base cs i m w
numeral_only base cs i m w o nx (inl z) = absurd (zero_not base cs i m o z.0 z.1.0 nx)
numeral_only base cs i m w o nx (inr (d, h)) = subst (λ (b : Base). IsNumeral b cs i m w) (one_base base d cs i o h.opens) h

first : (cs : List ℕ) (i : ℕ) (o : Option ℕ) → slice_get cs i ≡ o → passes (λ c. is_in_range 49 57 c) o ≡ true → (c : ℕ) × ((slice_get cs i ≡ Some c) × (is_decimal c ≡ true))
first cs i None e h = cc
first cs i (Some c) e h = (c, (e, other_digit c h))

opens_digit : (base : Base) (cs : List ℕ) (i : ℕ) → Opens base cs i → (c : ℕ) × ((slice_get cs i ≡ Some c) × (is_decimal c ≡ true))
opens_digit bases.Decimal cs i h = first cs i (slice_get cs i) refl h
opens_digit bases.Hexadecimal cs i h = (48, (h.0, refl))

same_end : (p : ℕ → Bool) (cs : List ℕ) (i n m : ℕ) → i ≤ n → i ≤ m → AllPass p cs i n → AllPass p cs i m → passes p (slice_get cs n) ≡ false → passes p (slice_get cs m) ≡ false
    → (m ≡ n) ⊎ ((m < n) ⊎ (n < m)) → m ≡ n
same_end p cs i n m a b dn dm sn sm (inl e) = e
same_end p cs i n m a b dn dm sn sm (inr (inl lt)) = absurd (clash p (slice_get cs m) (dn m b lt) sm)
same_end p cs i n m a b dn dm sn sm (inr (inr gt)) = absurd (clash p (slice_get cs n) (dm n a gt) sn)

-- another numeral of the base ends at the same place, with the same value
same_numeral : (base : Base) (cs : List ℕ) (i n v m w : ℕ) → DigitsEnd base cs (digits_from base i) n v → passes is_bound_to_number (slice_get cs m) ≡ false → IsNumeral base cs i m w → (m ≡ n) × (w ≡ v)
same_numeral base cs i n v m w d nx h =
    let lt : digits_from base i < m = h.some in
    let k : m ≡ n = same_end (λ c. is_digit c (radix base)) cs (digits_from base i) n m d.some (omega arith) d.digits h.digits d.stop (no_digit_behind base _ nx) (cases_order m n) in
    (k, h.value ∙ ap (λ (j : ℕ). digits_value (radix base) (slice_range cs (digits_from base i) j)) k ∙ sym d.value)

pub numeral_found : (base : Base) (cs : List ℕ) (i n v : ℕ) → Opens base cs i → digits_from base i < n → DigitsEnd base cs (digits_from base i) n v → passes is_bound_to_number (slice_get cs n) ≡ false → PieceAt cs i n (number v)
numeral_found base cs i n v o lt d nx = record {
  stands = record {
    numeral = inr (base, record { opens = o; some = lt; digits = d.digits; value = d.value });
    small = d.small;
    next = nx;
  };
  longest = λ m q h.
      let c = opens_digit base cs i o in
      let p = digit_piece q cs i m c.0 c.1.0 c.1.1 h in
      let k = same_numeral base cs i n v m p.0 d p.1.1.next (numeral_only base cs i m p.0 o p.1.1.next p.1.1.numeral) in
      inr (k.0, p.1.0 ∙ ap (λ (x : ℕ). number x) k.1);
}

pub numeral_bound : (base : Base) (cs : List ℕ) (i n v : ℕ) → Opens base cs i → DigitsEnd base cs (digits_from base i) n v → passes is_bound_to_number (slice_get cs n) ≡ true → NoPieceAt cs i
numeral_bound base cs i n v o d nx = record {
  none = λ m q h.
      let c = opens_digit base cs i o in
      let p = digit_piece q cs i m c.0 c.1.0 c.1.1 h in
      let k = same_numeral base cs i n v m p.0 d p.1.1.next (numeral_only base cs i m p.0 o p.1.1.next p.1.1.numeral) in
      clash is_bound_to_number (slice_get cs n) nx (subst (λ (j : ℕ). passes is_bound_to_number (slice_get cs j) ≡ false) k.0 p.1.1.next);
}

-- no digit stands where the digits are to begin
pub numeral_empty : (base : Base) (cs : List ℕ) (i n v : ℕ) → Opens base cs i → n ≡ digits_from base i → DigitsEnd base cs (digits_from base i) n v → NoPieceAt cs i
numeral_empty base cs i n v o e d = record {
  none = λ m q h.
      let c = opens_digit base cs i o in
      let p = digit_piece q cs i m c.0 c.1.0 c.1.1 h in
      let x = numeral_only base cs i m p.0 o p.1.1.next p.1.1.numeral in
      let k = same_numeral base cs i n v m p.0 d p.1.1.next x in
      let lt = x.some in
      let f = k.0 in
      omega (arith, f, e, lt);
}

run_to : (p : ℕ → Bool) (cs : List ℕ) (i m end : ℕ) → AllPass p cs i end → passes p (slice_get cs m) ≡ false → i ≤ m → (m ≡ end) ⊎ ((m < end) ⊎ (end < m)) → end ≤ m
run_to p cs i m end a s le (inl e) = omega arith
run_to p cs i m end a s le (inr (inl lt)) = absurd (clash p (slice_get cs m) (a m le lt) s)
run_to p cs i m end a s le (inr (inr gt)) = omega arith

radix_some : (base : Base) → 1 ≤ radix base
radix_some bases.Decimal = omega arith
radix_some bases.Hexadecimal = omega arith

-- more digits, no smaller value
value_up : (base : Base) (cs : List ℕ) (i n m : ℕ) → n ≤ m → digits_value (radix base) (slice_range cs i n) ≤ digits_value (radix base) (slice_range cs i m)
value_up base cs i n m le =
    let a = digits_value-take-le (radix base) (slice_range cs i m) (n - i) (radix_some base) in
    let b = take-take (n - i) (m - i) (drop i cs) (omega arith) in
    subst (λ (ds : List ℕ). digits_value (radix base) ds ≤ digits_value (radix base) (slice_range cs i m)) b a

pub numeral_big : (base : Base) (cs : List ℕ) (i : ℕ) → Opens base cs i → TooBig base cs (digits_from base i) → NoPieceAt cs i
numeral_big base cs i o b = record {
  none = λ m q h.
      let c = opens_digit base cs i o in
      let p = digit_piece q cs i m c.0 c.1.0 c.1.1 h in
      let x = numeral_only base cs i m p.0 o p.1.1.next p.1.1.numeral in
      let lt : digits_from base i < m = x.some in
      let le : b.end ≤ m = run_to (λ c. is_digit c (radix base)) cs (digits_from base i) m b.end b.digits (no_digit_behind base _ p.1.1.next) (omega arith) (cases_order m b.end) in
      let up = value_up base cs (digits_from base i) b.end m le in
      let big = b.big in
      let small = p.1.1.small in
      let e = x.value in
      omega (arith, up, big, small, e);
}

zero_only : (cs : List ℕ) (i m w : ℕ) → slice_get cs i ≡ Some 48 → passes is_x (slice_get cs (i + 1)) ≡ false → IsZero cs i m w ⊎ ((d : Base) × IsNumeral d cs i m w) → IsZero cs i m w
zero_only cs i m w e x (inl z) = z
zero_only cs i m w e x (inr (bases.Decimal, h)) = absurd (zero_opens cs i h.opens e)
zero_only cs i m w e x (inr (bases.Hexadecimal, h)) = absurd (clash is_x (slice_get cs (i + 1)) h.opens.1 x)

pub zero_found : (cs : List ℕ) (i n : ℕ) → slice_get cs i ≡ Some 48 → passes is_x (slice_get cs (i + 1)) ≡ false → n ≡ i + 1 → passes is_bound_to_number (slice_get cs n) ≡ false → PieceAt cs i n (number 0)
zero_found cs i n e x at nx = record {
  stands = record { numeral = inl (e, (at, refl)); small = omega arith; next = nx };
  longest = λ m q h.
      let p = digit_piece q cs i m 48 e refl h in
      let k = zero_only cs i m p.0 e x p.1.1.numeral in
      inr (k.1.0 ∙ sym at, p.1.0 ∙ ap (λ (v : ℕ). number v) k.1.1);
}

pub zero_bound : (cs : List ℕ) (i n : ℕ) → slice_get cs i ≡ Some 48 → passes is_x (slice_get cs (i + 1)) ≡ false → n ≡ i + 1 → passes is_bound_to_number (slice_get cs n) ≡ true → NoPieceAt cs i
zero_bound cs i n e x at nx = record {
  none = λ m q h.
      let p = digit_piece q cs i m 48 e refl h in
      let k = zero_only cs i m p.0 e x p.1.1.numeral in
      clash is_bound_to_number (slice_get cs n) nx (subst (λ (j : ℕ). passes is_bound_to_number (slice_get cs j) ≡ false) (k.1.0 ∙ sym at) p.1.1.next);
}
