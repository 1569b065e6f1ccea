-- A part of a string literal is within the text, and has no more units than bytes.
use Rattle.std.proofs.Common.{◌≡◌, ℕ, zero, suc, ◌+◌, ◌-◌, ◌<◌, ◌≤◌, ◌⊎◌, inl, inr, Bool, true, false, cond, ◌&&◌, ◌||◌, ◌==◌, refl, subst, ◌∙◌, ap, arith, List, [], ◌∷◌, Option, Some, None, length, drop, length-drop, get_or}
use Rattle.std.specs.Prelude.{slice_get, slice_range, nat_lt, if◌then◌else◌}
use Rattle.std.specs.Char.{len_utf8}
use Rattle.std.specs.Char.Escape.{encode_utf16}
use Rattle.std.proofs.lemmas.Bool.{and_parts}
use Rattle.std.proofs.lemmas.Bool.Decides.{nat_tests}
use Rattle.std.proofs.lemmas.List.{length-take}
use Rattle.std.proofs.lemmas.Option.{slice_get_within, slice_get-get_or}
use Rattle.wjs_base.proofs.Numbers.{equal_from_test}
use Rattle.wjs_lexer.specs.declared.strings.Part.{Part}
use Rattle.wjs_lexer.specs.declared.strings.Stands.{Stands}
use Rattle.wjs_lexer.specs.declared.strings.Stands.TheVariants as stands
use Rattle.wjs_lexer.specs.Characters.{is_line_end, is_decimal}
use Rattle.wjs_lexer.specs.Places.{passes, bytes_of, byte_at}
use Rattle.wjs_lexer.specs.Strings.{units_of, escaped, hex_unit, hex_part, digit_escape, continuation, escape_of, escape_at, part_of, part_at}
use Rattle.wjs_lexer.proofs.Places.{byte_more}

len_some : (c : ℕ) → 1 ≤ len_utf8 c
len_some c = grind (arith, nat_tests)

two_of : (b : Bool) (x y z : ℕ) → length (cond b (x ∷ []) (y ∷ z ∷ [])) ≤ 2
two_of true x y z = omega arith
two_of false x y z = omega arith

two_units : (c : ℕ) → length (encode_utf16 c) ≤ 2
two_units c = two_of _ _ _ _

wide : (c : ℕ) → (nat_lt c 0x80 ≡ true) ⊎ (nat_lt c 0x800 ≡ true) → nat_lt c 0x1_0000 ≡ false → ⊥
wide c (inl h) e = grind (arith, nat_tests)
wide c (inr h) e = grind (arith, nat_tests)

decided : (c : ℕ) → {P : Type 0} → P ⊎ (((nat_lt c 0x80 ≡ true) ⊎ (nat_lt c 0x800 ≡ true)) × (nat_lt c 0x1_0000 ≡ false)) → P
decided c (inl p) = p
decided c (inr h) = absurd (wide c h.0 h.1)

le_of : (a b d : Bool) (x y z : ℕ) → length (cond d (x ∷ []) (y ∷ z ∷ [])) ≤ cond a 1 (cond b 2 (cond d 3 4)) ⊎ (((a ≡ true) ⊎ (b ≡ true)) × (d ≡ false))
le_of true b true x y z = inl (omega arith)
le_of true b false x y z = inr (inl refl, refl)
le_of false true true x y z = inl (omega arith)
le_of false true false x y z = inr (inr refl, refl)
le_of false false true x y z = inl (omega arith)
le_of false false false x y z = inl (omega arith)

pub utf16_le : (c : ℕ) → length (encode_utf16 c) ≤ len_utf8 c
utf16_le c = decided c (le_of (nat_lt c 0x80) (nat_lt c 0x800) (nat_lt c 0x1_0000) _ _ _)

-- a character takes a byte at least
one_byte : (cs : List ℕ) (i c : ℕ) → slice_get cs i ≡ Some c → byte_at cs (i + 1) ≡ byte_at cs i + len_utf8 c
one_byte cs i c e = byte_more cs i ∙ ap (λ (o : Option ℕ). byte_at cs i + bytes_of o) e

pub byte_up : (cs : List ℕ) (i k : ℕ) → i + k ≤ length cs → byte_at cs i + k ≤ byte_at cs (i + k)
byte_up cs i zero h = let e : i + 0 ≡ i = omega arith in rw e (omega arith)
byte_up cs i (suc k) h =
    let a = byte_up cs i k (omega arith) in
    let g = slice_get-get_or cs (i + k) 0 (omega arith) in
    let b = one_byte cs (i + k) (get_or cs (i + k) 0) g in
    let l = len_some (get_or cs (i + k) 0) in
    let e : i + suc k ≡ i + k + 1 = omega arith in
    rw e (omega (arith, a, b, l))

-- within the text, not empty, and of no more units than bytes
pub record Sized (cs : List ℕ) (i : ℕ) (p : Part) : Type 0 where
  pub some : 0 < p.size
  pub within : i + p.size ≤ length cs
  pub fits : length (units_of p.stands) + byte_at cs i ≤ byte_at cs (i + p.size)

chosen : (b : Bool) (x y : Option Part) (p : Part) → (if b then x else y) ≡ Some p → ((b ≡ true) × (x ≡ Some p)) ⊎ ((b ≡ false) × (y ≡ Some p))
chosen true x y p h = inl (refl, h)
chosen false x y p h = inr (refl, h)

part_is : (a p : Part) → Some a ≡ Some p → a ≡ p
part_is a p h = cc

-- a part of one unit at most
sized_short : (cs : List ℕ) (i size : ℕ) (value : Stands) (p : Part) → Some (record { size = size; stands = value }) ≡ Some p → length (units_of value) ≤ size → 0 < size → i + size ≤ length cs → Sized cs i p
sized_short cs i size value p h few some w =
    let up = byte_up cs i size w in
    subst (λ (x : Part). Sized cs i x) (part_is (record { size = size; stands = value }) p h) (record { some = some; within = w; fits = omega (arith, up, few) })

range_fits : (cs : List ℕ) (a b count : ℕ) → 0 < count → length (slice_range cs a b) ≡ count → a + count ≤ length cs
range_fits cs a b count some e =
    let t = length-take (b - a) (drop a cs) in
    let d = length-drop a cs in
    omega (arith, t, d, e)

hex_if : (b : Bool) (v size : ℕ) (p : Part) → hex_part size (if b then Some v else None) ≡ Some p → (b ≡ true) × (Some (record { size = size; stands = stands.Unit v }) ≡ Some p)
hex_if true v size p h = (refl, h)
hex_if false v size p h = cc

hex_sized : (cs : List ℕ) (i a b count size : ℕ) (p : Part) → hex_part size (hex_unit count (slice_range cs a b)) ≡ Some p → a ≡ i + 2 → size ≡ count + 2 → 0 < count → Sized cs i p
hex_sized cs i a b count size p h at is some =
    let k = hex_if _ _ size p h in
    let e = equal_from_test (length (slice_range cs a b)) count (and_parts _ _ k.0).0 in
    let f = range_fits cs a b count some e in
    sized_short cs i size _ p k.1 (omega arith) (omega arith) (omega arith)

second_within : (cs : List ℕ) (i c : ℕ) → slice_get cs (i + 1) ≡ Some c → i + 2 ≤ length cs
second_within cs i c e = let w = slice_get_within cs (i + 1) c e in omega (arith, w)

third_within : (cs : List ℕ) (i : ℕ) (o : Option ℕ) → slice_get cs (i + 1 + 1) ≡ o → passes (λ x. x == 10) o ≡ true → i + 3 ≤ length cs
third_within cs i None e h = cc
third_within cs i (Some c) e h = let w = slice_get_within cs (i + 1 + 1) c e in omega (arith, w)

continued : (cs : List ℕ) (i : ℕ) (b d : Bool) (p : Part) → (d ≡ true → i + 3 ≤ length cs) → i + 2 ≤ length cs → Some (record { size = if b && d then 3 else 2; stands = stands.Nothing }) ≡ Some p → Sized cs i p
continued cs i true true p f w h = sized_short cs i 3 stands.Nothing p h (omega arith) (omega arith) (f refl)
continued cs i true false p f w h = sized_short cs i 2 stands.Nothing p h (omega arith) (omega arith) w
continued cs i false d p f w h = sized_short cs i 2 stands.Nothing p h (omega arith) (omega arith) w

digit_sized : (cs : List ℕ) (i : ℕ) (b : Bool) (p : Part) → i + 2 ≤ length cs → (if b then Some (record { size = 2; stands = stands.Unit 0 }) else None) ≡ Some p → Sized cs i p
digit_sized cs i true p w h = sized_short cs i 2 (stands.Unit 0) p h (omega arith) (omega arith) w
digit_sized cs i false p w h = cc

by_line : (cs : List ℕ) (i c : ℕ) (p : Part) → i + 2 ≤ length cs → ((is_line_end c ≡ true) × (Some (continuation cs (i + 1) c) ≡ Some p)) ⊎ ((is_line_end c ≡ false) × (Some (record { size = 2; stands = stands.Character (escaped c) }) ≡ Some p)) → Sized cs i p
by_line cs i c p w (inl h) = continued cs i _ _ p (third_within cs i _ refl) w h.1
by_line cs i c p w (inr h) = sized_short cs i 2 (stands.Character (escaped c)) p h.1 (two_units (escaped c)) (omega arith) w

by_digit : (cs : List ℕ) (i c : ℕ) (rest : Option Part) (p : Part) → i + 2 ≤ length cs → (rest ≡ Some p → Sized cs i p) → ((is_decimal c ≡ true) × (digit_escape cs (i + 1) c ≡ Some p)) ⊎ ((is_decimal c ≡ false) × (rest ≡ Some p)) → Sized cs i p
by_digit cs i c rest p w f (inl h) = digit_sized cs i _ p w h.1
by_digit cs i c rest p w f (inr h) = f h.1

by_hex : (cs : List ℕ) (i count size : ℕ) (b : Bool) (first rest : Option Part) (p : Part) → (first ≡ Some p → Sized cs i p) → (rest ≡ Some p → Sized cs i p) → ((b ≡ true) × (first ≡ Some p)) ⊎ ((b ≡ false) × (rest ≡ Some p)) → Sized cs i p
by_hex cs i count size b first rest p g f (inl h) = g h.1
by_hex cs i count size b first rest p g f (inr h) = f h.1

escape_sized : (cs : List ℕ) (i c : ℕ) (p : Part) → i + 2 ≤ length cs → escape_of cs (i + 1) c ≡ Some p → Sized cs i p
escape_sized cs i c p w h0 =
    by_hex cs i 2 4 (c == 120) _ _ p (λ h. hex_sized cs i (i + 1 + 1) (i + 1 + 3) 2 4 p h (omega arith) (omega arith) (omega arith))
    (λ h1. by_hex cs i 4 6 (c == 117) _ _ p (λ h. hex_sized cs i (i + 1 + 1) (i + 1 + 5) 4 6 p h (omega arith) (omega arith) (omega arith))
    (λ h2. by_digit cs i c _ p w (λ h3. by_line cs i c p w (chosen (is_line_end c) _ _ p h3)) (chosen (is_decimal c) _ _ p h2))
    (chosen (c == 117) _ _ p h1))
    (chosen (c == 120) _ _ p h0)

behind_sized : (cs : List ℕ) (i : ℕ) (o : Option ℕ) (p : Part) → slice_get cs (i + 1) ≡ o → escape_at cs (i + 1) o ≡ Some p → Sized cs i p
behind_sized cs i None p e h = cc
behind_sized cs i (Some c) p e h = escape_sized cs i c p (second_within cs i c e) h

plain_sized : (cs : List ℕ) (i c : ℕ) (p : Part) → slice_get cs i ≡ Some c → Some (record { size = 1; stands = stands.Character c }) ≡ Some p → Sized cs i p
plain_sized cs i c p e h =
    let w = slice_get_within cs i c e in
    let b = one_byte cs i c e in
    let u = utf16_le c in
    subst (λ (x : Part). Sized cs i x) (part_is (record { size = 1; stands = stands.Character c }) p h) (record { some = omega arith; within = omega (arith, w); fits = omega (arith, b, u) })

plain_or : (cs : List ℕ) (i c : ℕ) (b : Bool) (p : Part) → slice_get cs i ≡ Some c → ((b ≡ true) × (None ≡ Some p)) ⊎ ((b ≡ false) × (Some (record { size = 1; stands = stands.Character c }) ≡ Some p)) → Sized cs i p
plain_or cs i c b p e (inl h) = let k = h.1 in cc
plain_or cs i c b p e (inr h) = plain_sized cs i c p e h.1

backslash_or : (cs : List ℕ) (quote i c : ℕ) (p : Part) → slice_get cs i ≡ Some c → (((c == 92) ≡ true) × (escape_at cs (i + 1) (slice_get cs (i + 1)) ≡ Some p)) ⊎ (((c == 92) ≡ false) × ((if (c == quote) || is_line_end c then None else Some (record { size = 1; stands = stands.Character c })) ≡ Some p)) → Sized cs i p
backslash_or cs quote i c p e (inl h) = behind_sized cs i (slice_get cs (i + 1)) p refl h.1
backslash_or cs quote i c p e (inr h) = plain_or cs i c _ p e (chosen ((c == quote) || is_line_end c) _ _ p h.1)

of_char : (cs : List ℕ) (quote i : ℕ) (o : Option ℕ) (p : Part) → slice_get cs i ≡ o → part_of cs quote i o ≡ Some p → Sized cs i p
of_char cs quote i None p e h = cc
of_char cs quote i (Some c) p e h = backslash_or cs quote i c p e (chosen (c == 92) _ _ p h)

pub part_sized : (cs : List ℕ) (quote i : ℕ) (p : Part) → part_at cs quote i ≡ Some p → Sized cs i p
unfolding part_at
part_sized cs quote i p h = of_char cs quote i (slice_get cs i) p refl h
