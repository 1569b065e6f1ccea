-- The units of a text in UTF-8, the bytes of units, and where bytes stop being UTF-8.
use Rattle.std.proofs.Common.{◌≡◌, ℕ, zero, suc, ◌+◌, ◌-◌, ◌*◌, ◌/◌, ◌%◌, ◌^◌, ◌<◌, ◌≤◌, Bool, true, false, cond, ◌&&◌, List, [], ◌∷◌, ◌++◌, Option, Some, None, length, map, ◌⊎◌, ⊎_elim, inl, inr, refl, sym, ap, subst, ◌∙◌, true≢false, arith, unwrap_or, slice_index, get_or}
use Rattle.std.proofs.lemmas.Iterator.{YieldsList}
use Rattle.std.proofs.lemmas.Iterator.Splits.{YieldsList-from_shown_while}
use Rattle.std.proofs.lemmas.Str.{chars_past_char, IsUtf8-past_char, utf8_valid_len-IsValidUpTo, chars-nil, encodes-chars, scalars-chars}
use Rattle.std.proofs.lemmas.List.Elements.{All-head, All-tail, All-cons, All-nil}
use Rattle.std.proofs.lemmas.Bool.{and_parts, cases_lt}
use Rattle.std.proofs.Common.{ltb-true, leb-true, le-leb, le-ltb}
use Rattle.std.proofs.Math.Utf8.{scalar, scalar_cases}
use Rattle.std.proofs.str.Utf16.{pair_units, one_unit, two_units, utf16_chars_pair, utf16_chars_lone, utf16_chars-nil, lone_unit_char_low, lone_unit_char_high, IsPair}
use Rattle.std.specs.declared.str.EncodeUtf16.{EncodeUtf16}
use Rattle.std.specs.Char.Escape.{encode_utf16}
use Rattle.std.specs.Char.Utf16.{is_high_surrogate, is_low_surrogate, surrogate_pair_char, lone_unit_char, utf16_chars, utf16_lossy_chars}
use Rattle.std.specs.Prelude.{All, nat_le, nat_lt}
use Rattle.std.specs.Str.{IsUtf8, IsValidUpTo, chars, encode_utf8_all, all_scalars}
use Rattle.std.specs.Str.Iter.{encode_utf16_rest, encode_utf16_pending, encode_utf16_steps}
use Rattle.wjs_base.specs.Unicode.{utf16, SameText, StopsBeingUtf8, Shows, AreUnpaired, is_surrogate, shown, utf8_of}

-- the units that an iterator of them has left
abbrev left : EncodeUtf16 → List ℕ
left s = encode_utf16_pending s ++ utf16 (chars (encode_utf16_rest s))

abbrev Sound : EncodeUtf16 → Type 0
Sound s = IsUtf8 (encode_utf16_rest s)

none_of : (bs : List ℕ) → length bs ≡ 0 → utf16 (chars bs) ≡ []
none_of [] h = ap utf16 chars-nil
none_of (b ∷ bs) h = absurd (omega arith)

nothing_left : (s t : EncodeUtf16) → Sound s → encode_utf16_steps s None t → length (left s) ≡ 0
nothing_left s t is ends = ap (λ (us : List ℕ). length us) {y = []} ((λ i. ends.0 i ++ none_of (encode_utf16_rest s) ends.1 i))

one_less : (s : EncodeUtf16) (x : ℕ) (t : EncodeUtf16) → Sound s → encode_utf16_steps s (Some x) t → Sound t × (left s ≡ x ∷ left t)
one_less s x t is step =
    ⊎_elim
    (λ h. (subst IsUtf8 (sym h.2) is, (λ i. h.0 i ++ utf16 (chars (sym h.2 i))) ∙ (λ i. x ∷ (sym h.1 i ++ utf16 (chars (encode_utf16_rest t))))))
    (λ h. (
      IsUtf8-past_char (encode_utf16_rest s) (encode_utf16_rest t) h.1.0 is h.1.1,
      (λ i. h.0 i ++ utf16 (chars_past_char (encode_utf16_rest s) (encode_utf16_rest t) h.1.0 is h.1.1 i)) ∙ (λ i. h.1.2 i ++ utf16 (chars (encode_utf16_rest t))),
    ))
    step

pub yields_units : (s : EncodeUtf16) (bytes : List ℕ) → IsUtf8 bytes → encode_utf16_rest s ≡ bytes → encode_utf16_pending s ≡ [] → YieldsList encode_utf16_steps (λ x. x) s (utf16 (chars bytes))
yields_units s bytes is rest pending =
    let all = YieldsList-from_shown_while encode_utf16_steps (λ x. x) left Sound nothing_left one_less s (subst IsUtf8 (sym rest) is) in
    let e : left s ≡ utf16 (chars bytes) = λ i. pending i ++ utf16 (chars (rest i)) in
    subst (YieldsList encode_utf16_steps (λ (x : ℕ). x) s) e all

pub same_text : (bytes units : List ℕ) → IsUtf8 bytes → units ≡ utf16 (chars bytes) → SameText bytes units
same_text bytes units is e = record { points = chars bytes; scalars = scalars-chars bytes is; bytes_are = encodes-chars bytes is; units_are = sym e }

-- one length is that of the longest prefix
pub one_stop : (bytes : List ℕ) (m n : ℕ) → IsValidUpTo bytes m → IsValidUpTo bytes n → m ≡ n
one_stop bytes m n p q = sym (utf8_valid_len-IsValidUpTo bytes m p) ∙ utf8_valid_len-IsValidUpTo bytes n q

pub stops : (bytes : List ℕ) (m n : ℕ) → m ≡ n → ¬ (IsUtf8 bytes) → IsValidUpTo bytes n → StopsBeingUtf8 bytes m
stops bytes m n e none longest = record { none = none; longest = subst (IsValidUpTo bytes) (sym e) longest }

-- how units are read, with what stands first
record Reading (units : List ℕ) : Type 0 where
  points : List ℕ
  code_points : All (λ point. point < 0x11_0000) points
  unpaired : AreUnpaired points
  units_are : utf16 points ≡ units
  lossy : map shown points ≡ utf16_lossy_chars units
  first : (length points ≡ 0) ⊎ ((slice_index points 0 ≡ slice_index units 0) ⊎ (0x1_0000 ≤ slice_index points 0))

-- a code point before others that are unpaired
unpaired_before : (point : ℕ) (points : List ℕ) → (0 < length points → (is_high_surrogate point && is_low_surrogate (slice_index points 0)) ≡ true → ⊥) → AreUnpaired points → AreUnpaired (point ∷ points)
unpaired_before point points head tail zero within = λ h. head (omega arith) h
unpaired_before point points head tail (suc k) within = λ h.
    let e : suc k + 1 ≡ suc (k + 1) = omega arith in
    tail k (omega arith) (subst (λ (n : ℕ). (is_high_surrogate (slice_index points k) && is_low_surrogate (slice_index (point ∷ points) n)) ≡ true) e h)

lone_shown : (unit : ℕ) → unwrap_or (lone_unit_char unit) 0xFFFD ≡ shown unit
lone_shown unit = by (is_surrogate unit)
  where
    by : (b : Bool) → unwrap_or (cond b None (Some unit)) 0xFFFD ≡ cond b 0xFFFD unit
    by true = refl
    by false = refl

-- no surrogate past U+FFFF
not_low : (point : ℕ) → 0x1_0000 ≤ point → is_low_surrogate point ≡ true → ⊥
not_low point large low = let below : point < 0xE000 = ltb-true point 0xE000 (and_parts (nat_le 0xDC00 point) (nat_lt point 0xE000) low).1 in omega arith

not_high : (point : ℕ) → 0x1_0000 ≤ point → is_high_surrogate point ≡ true → ⊥
not_high point large high = let below : point < 0xDC00 = ltb-true point 0xDC00 (and_parts (nat_le 0xD800 point) (nat_lt point 0xDC00) high).1 in omega arith

-- a unit that is in no pair with the next is read alone
lone_first : (u v : ℕ) (us : List ℕ) → (is_high_surrogate u && is_low_surrogate v) ≡ false → utf16_chars (u ∷ v ∷ us) ≡ lone_unit_char u ∷ utf16_chars (v ∷ us)
unfolding utf16_chars
lone_first u v us e = ap (λ (t : Bool). cond t (Some (surrogate_pair_char u v) ∷ utf16_chars us) (lone_unit_char u ∷ utf16_chars (v ∷ us))) e

past_shown : (point : ℕ) → 0x1_0000 ≤ point → shown point ≡ point
past_shown point large = rw (le-leb 0xD800 point (omega arith), le-ltb point 0xE000 (omega arith))

a_pair : (u v : ℕ) (us : List ℕ) → (is_high_surrogate u && is_low_surrogate v) ≡ true → Reading us → Reading (u ∷ v ∷ us)
a_pair u v us e r =
    let parts = and_parts _ _ e in
    let high = and_parts _ _ parts.0 in
    let low = and_parts _ _ parts.1 in
    let from : 0xD800 ≤ u = leb-true _ _ high.0 in
    let to : u < 0xDC00 = ltb-true _ _ high.1 in
    let from' : 0xDC00 ≤ v = leb-true _ _ low.0 in
    let to' : v < 0xE000 = ltb-true _ _ low.1 in
    let point = surrogate_pair_char u v in
    let large : 0x1_0000 ≤ surrogate_pair_char u v = omega arith in
    let small : surrogate_pair_char u v < 0x11_0000 = omega arith in
    let same : surrogate_pair_char u v ≡ 0x1_0000 + ((u - 0xD800) * 0x400 + (v - 0xDC00)) = omega arith in
    let units : encode_utf16 (surrogate_pair_char u v) ≡ u ∷ v ∷ [] = ap encode_utf16 same ∙ pair_units u v from from' to' in
    record {
      points = surrogate_pair_char u v ∷ r.points;
      code_points = All-cons (λ (point : ℕ). point < 0x11_0000) (surrogate_pair_char u v) r.points small r.code_points;
      unpaired = unpaired_before (surrogate_pair_char u v) r.points (λ _ h. not_high (surrogate_pair_char u v) large (and_parts _ _ h).0) r.unpaired;
      units_are = (λ i. units i ++ r.units_are i);
      lossy = (λ i. past_shown (surrogate_pair_char u v) large i ∷ r.lossy i) ∙ sym (ap (map (λ (o : Option ℕ). unwrap_or o 0xFFFD)) (utf16_chars_pair u v us (from, to, from', to')));
      first = inr (inr large);
    }

a_lone : (u v : ℕ) (us : List ℕ) → u < 2 ^ 16 → (is_high_surrogate u && is_low_surrogate v) ≡ false → Reading (v ∷ us) → Reading (u ∷ v ∷ us)
a_lone u v us small e r =
    let one = lone_first u v us e in
    record {
      points = u ∷ r.points;
      code_points = All-cons (λ (point : ℕ). point < 0x11_0000) u r.points (omega arith) r.code_points;
      unpaired = unpaired_before u r.points (λ some h. ⊎_elim (λ z. omega arith) (λ there. ⊎_elim
          (λ is. true≢false (sym h ∙ (ap (λ (x : ℕ). is_high_surrogate u && is_low_surrogate x) is ∙ e)))
          (λ large. not_low (slice_index r.points 0) large (and_parts _ _ h).1) there) r.first) r.unpaired;
      units_are = (λ i. one_unit u (omega arith) i ++ r.units_are i);
      lossy = (λ i. sym (lone_shown u) i ∷ r.lossy i) ∙ sym (ap (map (λ (o : Option ℕ). unwrap_or o 0xFFFD)) one);
      first = inr (inl refl);
    }

reading : (units : List ℕ) → All (λ unit. unit < 2 ^ 16) units → Reading units
unfolding utf16_chars
reading [] fits = record {
  points = [];
  code_points = All-nil (λ (point : ℕ). point < 0x11_0000);
  unpaired = λ k within h. absurd (omega arith);
  units_are = refl;
  lossy = refl;
  first = inl refl;
}
reading (u ∷ []) fits =
    let small : u < 2 ^ 16 = All-head (λ (unit : ℕ). unit < 2 ^ 16) u [] fits in
    record {
      points = u ∷ [];
      code_points = All-cons (λ (point : ℕ). point < 0x11_0000) u [] (omega arith) (All-nil (λ (point : ℕ). point < 0x11_0000));
      unpaired = λ k within h. absurd (omega arith);
      units_are = ap (λ (xs : List ℕ). xs ++ []) (one_unit u (omega arith));
      lossy = ap (λ (x : ℕ). x ∷ []) (sym (lone_shown u));
      first = inr (inl refl);
    }
reading (u ∷ v ∷ us) fits =
    by (is_high_surrogate u && is_low_surrogate v) refl
    (reading us (All-tail (λ (unit : ℕ). unit < 2 ^ 16) v us (All-tail (λ (unit : ℕ). unit < 2 ^ 16) u (v ∷ us) fits)))
    (reading (v ∷ us) (All-tail (λ (unit : ℕ). unit < 2 ^ 16) u (v ∷ us) fits))
  where
    by : (b : Bool) → (is_high_surrogate u && is_low_surrogate v) ≡ b → Reading us → Reading (v ∷ us) → Reading (u ∷ v ∷ us)
    by true e r q = a_pair u v us e r
    by false e r q = a_lone u v us (All-head (λ (unit : ℕ). unit < 2 ^ 16) u (v ∷ us) fits) e q

pub shows : (units bytes : List ℕ) → All (λ unit. unit < 2 ^ 16) units → bytes ≡ utf8_of units → Shows units bytes
shows units bytes fits e =
    let r = reading units fits in
    record { points = r.points; code_points = r.code_points; unpaired = r.unpaired; units_are = r.units_are; bytes_are = ap encode_utf8_all r.lossy ∙ sym e }

-- the units of a scalar value are read as it, whatever follows
one_read : (point : ℕ) (units : List ℕ) → scalar point ≡ true → utf16_chars (encode_utf16 point ++ units) ≡ Some point ∷ utf16_chars units
one_read point units is = ⊎_elim low high (scalar_cases point is)
  where
    alone : point < 0x1_0000 → ¬ (IsPair point (get_or units 0 0)) → lone_unit_char point ≡ Some point → utf16_chars (encode_utf16 point ++ units) ≡ Some point ∷ utf16_chars units
    alone small apart itself = ap (λ (us : List ℕ). utf16_chars (us ++ units)) (one_unit point small) ∙ utf16_chars_lone point units apart ∙ ap (λ (o : Option ℕ). o ∷ utf16_chars units) itself

    low : point < 0xD800 → utf16_chars (encode_utf16 point ++ units) ≡ Some point ∷ utf16_chars units
    low below = alone (omega arith) (λ p. omega arith) (lone_unit_char_low point below)

    pair : 0x1_0000 ≤ point → point < 0x11_0000 → utf16_chars (encode_utf16 point ++ units) ≡ Some point ∷ utf16_chars units
    pair large small =
        let first = 0xD800 + (point - 0x1_0000) / 0x400 in
        let second = 0xDC00 + (point - 0x1_0000) % 0x400 in
        let quotient : (point - 0x1_0000) / 0x400 < 0x400 = omega arith in
        let whole : surrogate_pair_char first second ≡ point = omega arith in
        ap (λ (us : List ℕ). utf16_chars (us ++ units)) (two_units point large)
        ∙ utf16_chars_pair first second units (omega arith, omega arith, omega arith, omega arith) ∙ ap (λ (x : ℕ). Some x ∷ utf16_chars units) whole

    high : (57344 ≤ point) × (point < 1114112) → utf16_chars (encode_utf16 point ++ units) ≡ Some point ∷ utf16_chars units
    high h = ⊎_elim (λ small. alone small (λ p. omega arith) (lone_unit_char_high point h.0)) (λ large. pair large h.1) (cases_lt point 0x1_0000)

-- so the units of scalar values show just these
scalars_back : (points : List ℕ) → all_scalars points ≡ true → utf16_lossy_chars (utf16 points) ≡ points
scalars_back [] is = ap (map (λ (o : Option ℕ). unwrap_or o 0xFFFD)) utf16_chars-nil
scalars_back (point ∷ points) is =
    let parts = and_parts (scalar point) (all_scalars points) is in
    ap (map (λ (o : Option ℕ). unwrap_or o 0xFFFD)) (one_read point (utf16 points) parts.0) ∙ ap (λ (ps : List ℕ). point ∷ ps) (scalars_back points parts.1)

-- what is UTF-8 comes back from its units
pub same_back : (bytes units shown_bytes : List ℕ) → shown_bytes ≡ utf8_of units → SameText bytes units → shown_bytes ≡ bytes
same_back bytes units shown_bytes e same =
    e ∙ ap utf8_of (sym same.units_are) ∙ ap encode_utf8_all (scalars_back same.points same.scalars) ∙ same.bytes_are
