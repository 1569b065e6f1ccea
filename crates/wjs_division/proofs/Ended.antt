-- The lines that end among characters.
use Rattle.std.proofs.Common.{◌≡◌, ℕ, ◌+◌, ◌≤◌, ◌^◌, List, length, refl, ap, ◌∙◌, subst, arith, slice_get}
use Rattle.std.specs.Str.{IsUtf8, chars, encode_utf8_all}
use Rattle.std.proofs.lemmas.Str.{chars_from_encodes, length-le-encodes}
use Rattle.wjs_lexer.specs.Places.{line_at, line_step}
use Rattle.wjs_lexer.proofs.Places.{line_more}

-- a text begins on its first line
pub first_line : (cs : List ℕ) → line_at cs 0 ≡ 1
unfolding line_at
first_line cs = refl

-- one character more
pub ends_more : (cs : List ℕ) (i ends step : ℕ) → ends + 1 ≡ line_at cs i → step ≡ line_step (slice_get cs i) (slice_get cs (i + 1)) → (ends + step) + 1 ≡ line_at cs (i + 1)
ends_more cs i ends step before is = let more = line_more cs i in omega arith

-- a text has no more characters than bytes
pub few_chars : (text cs : List ℕ) → encode_utf8_all cs ≡ text → length text ≤ 2 ^ 24 → length cs ≤ 2 ^ 24
few_chars text cs encoded short = let same = ap (λ (l : List ℕ). length l) encoded in omega (arith, length-le-encodes cs, same, short)

pub ends_of_text : (text cs ds : List ℕ) (ends : ℕ) → IsUtf8 text → encode_utf8_all cs ≡ text → ds ≡ cs → ends + 1 ≡ line_at ds (length ds) → ends + 1 ≡ line_at (chars text) (length (chars text))
ends_of_text text cs ds ends utf8 encoded same h = subst (λ (xs : List ℕ). ends + 1 ≡ line_at xs (length xs)) (same ∙ chars_from_encodes cs text utf8 encoded) h
