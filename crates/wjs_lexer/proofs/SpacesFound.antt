-- White space and line terminators; and nothing stands at the end.
use Rattle.std.proofs.Common.{◌≡◌, ℕ, ◌+◌, ◌<◌, ◌⊎◌, inl, inr, Bool, true, refl, sym, ◌∙◌, List, [], ◌∷◌, Option, Some, None, length, arith}
use Rattle.std.specs.Prelude.{slice_get}
use Rattle.wjs_tree.specs.Signs.{spelling}
use Rattle.wjs_lexer.specs.declared.characters.Kind.TheVariants as kinds
use Rattle.wjs_lexer.specs.declared.numbers.Base.{Base}
use Rattle.wjs_lexer.specs.declared.numbers.Base.TheVariants as bases
use Rattle.wjs_lexer.specs.Characters.{is_blank, is_line_end, starts_name}
use Rattle.wjs_lexer.specs.KindSteps.{kind_of}
use Rattle.wjs_lexer.specs.Places.{passes}
use Rattle.wjs_lexer.specs.Numbers.{IsZero, IsNumeral}
use Rattle.wjs_lexer.specs.Signs.{Spells}
use Rattle.wjs_lexer.specs.Pieces.{Piece, space, line_end, line_comment, block_comment, word, key, sign, number, text, StandsAt, PieceAt, NoPieceAt}
use Rattle.wjs_lexer.proofs.Ranges.{passes_at}
use Rattle.wjs_lexer.proofs.KindLemmas.{fits, fits_kind, blank_of, line_of}
use Rattle.wjs_lexer.proofs.SignsAhead.{positive}

space_piece : (q : Piece) (cs : List ℕ) (i m : ℕ) → fits q kinds.Space ≡ true → StandsAt cs i m q → (m ≡ i + 1) × (q ≡ space)
space_piece space cs i m f h = (h.1, refl)
space_piece q cs i m f h = cc

pub space_found : (cs : List ℕ) (i n c : ℕ) → slice_get cs i ≡ Some c → kind_of c ≡ kinds.Space → n ≡ i + 1 → PieceAt cs i n space
space_found cs i n c e k at = record {
  stands = (passes_at is_blank cs i c e (blank_of c k), at);
  longest = λ m q h. let s = space_piece q cs i m (fits_kind q cs i m c kinds.Space e k h) h in inr (s.0 ∙ sym at, s.1);
}

line_piece : (q : Piece) (cs : List ℕ) (i m : ℕ) → fits q kinds.LineEnd ≡ true → StandsAt cs i m q → (m ≡ i + 1) × (q ≡ line_end)
line_piece line_end cs i m f h = (h.1, refl)
line_piece q cs i m f h = cc

pub line_end_found : (cs : List ℕ) (i n c : ℕ) → slice_get cs i ≡ Some c → kind_of c ≡ kinds.LineEnd → n ≡ i + 1 → PieceAt cs i n line_end
line_end_found cs i n c e k at = record {
  stands = (passes_at is_line_end cs i c e (line_of c k), at);
  longest = λ m q h. let s = line_piece q cs i m (fits_kind q cs i m c kinds.LineEnd e k h) h in inr (s.0 ∙ sym at, s.1);
}

none_passes : (p : ℕ → Bool) (o : Option ℕ) → o ≡ None → passes p o ≡ true → ⊥
none_passes p None e h = cc
none_passes p (Some c) e h = cc

some_none : (o : Option ℕ) (c : ℕ) → o ≡ None → o ≡ Some c → ⊥
some_none o c e h = cc

no_sign : (t : List ℕ) (cs : List ℕ) (i n : ℕ) → 0 < length t → Spells cs t i n → slice_get cs i ≡ None → ⊥
no_sign [] cs i n l h e = omega (arith, l)
no_sign (c ∷ t) cs i n l h e = some_none (slice_get cs i) c e h.0

no_numeral : (base : Base) (cs : List ℕ) (i n v : ℕ) → IsNumeral base cs i n v → slice_get cs i ≡ None → ⊥
no_numeral bases.Decimal cs i n v h e = none_passes _ (slice_get cs i) e h.opens
no_numeral bases.Hexadecimal cs i n v h e = some_none (slice_get cs i) 48 e h.opens.0

no_number : (cs : List ℕ) (i n v : ℕ) → IsZero cs i n v ⊎ ((base : Base) × IsNumeral base cs i n v) → slice_get cs i ≡ None → ⊥
no_number cs i n v (inl z) e = some_none (slice_get cs i) 48 e z.0
no_number cs i n v (inr (base, h)) e = no_numeral base cs i n v h e

stands_within : (q : Piece) (cs : List ℕ) (i n : ℕ) → StandsAt cs i n q → slice_get cs i ≡ None → ⊥
stands_within space cs i n h e = none_passes is_blank (slice_get cs i) e h.0
stands_within line_end cs i n h e = none_passes is_line_end (slice_get cs i) e h.0
stands_within line_comment cs i n h e = some_none (slice_get cs i) 47 e h.first
stands_within (block_comment lines) cs i n h e = some_none (slice_get cs i) 47 e h.first
stands_within (word units) cs i n h e = none_passes starts_name (slice_get cs i) e h.name.start
stands_within (key k) cs i n h e = none_passes starts_name (slice_get cs i) e h.name.start
stands_within (sign s) cs i n h e = no_sign (spelling s) cs i n (positive s) h.spelled e
stands_within (number v) cs i n h e = no_number cs i n v h.numeral e
stands_within (text units) cs i n h e = some_none (slice_get cs i) h.quote e h.opens

-- nothing stands at the end
pub none_at_end : (cs : List ℕ) (i : ℕ) → slice_get cs i ≡ None → NoPieceAt cs i
none_at_end cs i e = record { none = λ m q h. stands_within q cs i m h e }
