-- A piece of a short text has a short text's units.
use Rattle.std.proofs.Common.{◌≡◌, ℕ, zero, suc, ◌+◌, ◌-◌, ◌<◌, ◌≤◌, ◌^◌, refl, sym, ◌∙◌, ap, arith, List, [], ◌∷◌, ◌++◌, length, take, drop, get_or, length-append, add-one}
use Rattle.std.specs.Prelude.{slice_range}
use Rattle.std.specs.List.{flat_map}
use Rattle.std.specs.Char.{len_utf8}
use Rattle.std.specs.Char.Escape.{encode_utf16}
use Rattle.std.proofs.Math.Utf8.{encode, encodes}
use Rattle.std.proofs.lemmas.Str.{encodes-append, length-encode}
use Rattle.std.proofs.lemmas.List.{take_more, take_all, take-append-drop}
use Rattle.std.proofs.lemmas.Option.{slice_get_within, slice_get-get_or}
use Rattle.wjs_base.specs.Text.{longest}
use Rattle.wjs_lexer.specs.Places.{byte_at, bytes_of}
use Rattle.wjs_lexer.specs.Strings.{Body, close, more, units_of, IsText}
use Rattle.wjs_lexer.specs.Pieces.{Piece, space, line_end, line_comment, block_comment, word, key, sign, number, text, StandsAt}
use Rattle.wjs_lexer.specs.Steps.{IsShort, Fitting}
use Rattle.wjs_lexer.proofs.Parts.{byte_up, utf16_le, part_sized}

add_nothing : (a b : ℕ) → a ≡ b → a + 0 ≡ b
add_nothing a b e = omega (arith, e)

one_char : (c : ℕ) → length (encodes (c ∷ [])) ≡ len_utf8 c
one_char c = length-append (encode c) [] ∙ add_nothing _ _ (length-encode c)

-- the bytes before a place are those of the characters before it
bytes_before : (cs : List ℕ) (i : ℕ) → i ≤ length cs → byte_at cs i ≡ length (encodes (take i cs))
unfolding byte_at
bytes_before cs zero h = refl
bytes_before cs (suc i) h =
    let a = bytes_before cs i (omega arith) in
    let g = slice_get-get_or cs i 0 (omega arith) in
    let t : take (suc i) cs ≡ take i cs ++ get_or cs i 0 ∷ [] = ap (λ (k : ℕ). take k cs) (sym (add-one i)) ∙ take_more cs i 0 (omega arith) in
    let e = ap (λ (xs : List ℕ). length (encodes xs)) t ∙ ap (λ (xs : List ℕ). length xs) (encodes-append (take i cs) (get_or cs i 0 ∷ [])) ∙ length-append (encodes (take i cs)) (encodes (get_or cs i 0 ∷ [])) in
    let f = one_char (get_or cs i 0) in
    let k = ap bytes_of g in
    omega (arith, a, e, f, k)

pub bytes_all : (cs : List ℕ) → byte_at cs (length cs) ≡ length (encodes cs)
bytes_all cs = bytes_before cs (length cs) (omega arith) ∙ ap (λ (xs : List ℕ). length (encodes xs)) (take_all (length cs) cs (omega arith))

-- a text has no more characters than bytes
pub short_length : (cs : List ℕ) → IsShort cs → length cs ≤ 2 ^ 24
short_length cs s = let u = byte_up cs 0 (length cs) (omega arith) in let e : 0 + length cs ≡ length cs = omega arith in let f = ap (λ (k : ℕ). byte_at cs k) e in omega (arith, u, f, s)

units_le : (xs : List ℕ) → length (flat_map encode_utf16 xs) ≤ length (encodes xs)
units_le [] = omega arith
units_le (x ∷ xs) =
    let a = units_le xs in
    let b = utf16_le x in
    let c = length-encode x in
    let d = length-append (encode_utf16 x) (flat_map encode_utf16 xs) in
    let e = length-append (encode x) (encodes xs) in
    omega (arith, a, b, c, d, e)

front_le : (k : ℕ) (xs : List ℕ) → length (encodes (take k xs)) ≤ length (encodes xs)
front_le k xs =
    let e = ap (λ (ys : List ℕ). length (encodes ys)) (sym (take-append-drop k xs)) ∙ ap (λ (ys : List ℕ). length ys) (encodes-append (take k xs) (drop k xs)) ∙ length-append (encodes (take k xs)) (encodes (drop k xs)) in
    omega (arith, e)

back_le : (k : ℕ) (xs : List ℕ) → length (encodes (drop k xs)) ≤ length (encodes xs)
back_le k xs =
    let e = ap (λ (ys : List ℕ). length (encodes ys)) (sym (take-append-drop k xs)) ∙ ap (λ (ys : List ℕ). length ys) (encodes-append (take k xs) (drop k xs)) ∙ length-append (encodes (take k xs)) (encodes (drop k xs)) in
    omega (arith, e)

word_short : (cs us : List ℕ) (i n : ℕ) → IsShort cs → us ≡ flat_map encode_utf16 (slice_range cs i n) → length us ≤ longest
word_short cs us i n s e =
    let a = units_le (slice_range cs i n) in
    let b = front_le (n - i) (drop i cs) in
    let c = back_le i cs in
    let d = bytes_all cs in
    let f = ap (λ (xs : List ℕ). length xs) e in
    omega (arith, a, b, c, d, f, s)

-- the units of a literal are no more than its bytes
body_short : (cs : List ℕ) (quote n i : ℕ) (us : List ℕ) → Body cs quote n i us → length us + byte_at cs i ≤ byte_at cs n
body_short cs quote n i us (close e h) = let f = ap (λ (k : ℕ). byte_at cs k) e in omega (arith, f)
body_short cs quote n i us (more {us = vs} p h b e) =
    let z = part_sized cs quote i p h in
    let y = z.fits in
    let k = body_short cs quote n (i + p.size) vs b in
    let l = ap (λ (xs : List ℕ). length xs) e ∙ length-append (units_of p.stands) vs in
    omega (arith, y, k, l)

closes_within : (cs : List ℕ) (quote n i : ℕ) (us : List ℕ) → Body cs quote n i us → n < length cs
closes_within cs quote n i us (close e h) = let w = slice_get_within cs i quote h in omega (arith, w, e)
closes_within cs quote n i us (more {us = vs} p h b e) = closes_within cs quote n (i + p.size) vs b

byte_total : (cs : List ℕ) (n : ℕ) → n ≤ length cs → byte_at cs n ≤ byte_at cs (length cs)
byte_total cs n h =
    let u = byte_up cs n (length cs - n) (omega arith) in
    let e : n + (length cs - n) ≡ length cs = omega arith in
    let f = ap (λ (k : ℕ). byte_at cs k) e in
    omega (arith, u, f)

text_short : (cs us : List ℕ) (i n : ℕ) → IsShort cs → IsText cs i n us → length us ≤ longest
text_short cs us i n s h =
    let a = body_short cs h.quote h.close (i + 1) us h.body in
    let w = closes_within cs h.quote h.close (i + 1) us h.body in
    let t = byte_total cs h.close (omega (arith, w)) in
    omega (arith, a, t, s)

pub fitting_piece : (p : Piece) (cs : List ℕ) (i n : ℕ) → IsShort cs → StandsAt cs i n p → Fitting p
fitting_piece space cs i n s h = tt
fitting_piece line_end cs i n s h = tt
fitting_piece line_comment cs i n s h = tt
fitting_piece (block_comment lines) cs i n s h = tt
fitting_piece (word units) cs i n s h = word_short cs units i n s h.spelled
fitting_piece (key k) cs i n s h = tt
fitting_piece (sign r) cs i n s h = tt
fitting_piece (number v) cs i n s h = h.small
fitting_piece (text units) cs i n s h = text_short cs units i n s h
