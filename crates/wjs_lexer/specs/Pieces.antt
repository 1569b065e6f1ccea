-- The pieces of a text, and which piece is the longest (ECMA-262, 3rd edition, section 7).
use Rattle.std.specs.Prelude.{◌≡◌, ℕ, ◌+◌, ◌<◌, ◌⊎◌, Bool, true, List, slice_get}
use Rattle.wjs_tree.specs.declared.keys.Key.{Key}
use Rattle.wjs_tree.specs.declared.signs.Sign.{Sign}
use Rattle.wjs_lexer.specs.Characters.{is_blank, is_line_end}
use Rattle.wjs_lexer.specs.Places.{passes}
use Rattle.wjs_lexer.specs.Words.{IsWord, IsKey}
use Rattle.wjs_lexer.specs.Numbers.{IsNumber}
use Rattle.wjs_lexer.specs.Signs.{IsSign}
use Rattle.wjs_lexer.specs.Comments.{LineComment, BlockComment}
use Rattle.wjs_lexer.specs.Strings.{IsText}

-- A kind of piece with what it stands for: a word and a string literal with their code units, a
-- number with its value, and a block comment with whether it holds a line terminator.
pub data Piece : Type 0 where
  space : Piece
  line_end : Piece
  line_comment : Piece
  block_comment : Bool → Piece
  word : List ℕ → Piece
  key : Key → Piece
  sign : Sign → Piece
  number : ℕ → Piece
  text : List ℕ → Piece

-- one character that passes
abbrev pub One : (ℕ → Bool) → List ℕ → ℕ → ℕ → Type 0
One p cs i n = (passes p (slice_get cs i) ≡ true) × (n ≡ i + 1)

-- The piece stands from i up to n, and the next character may follow it.
abbrev pub StandsAt : List ℕ → ℕ → ℕ → Piece → Type 0
StandsAt cs i n space = One is_blank cs i n
StandsAt cs i n line_end = One is_line_end cs i n
StandsAt cs i n line_comment = LineComment cs i n
StandsAt cs i n (block_comment lines) = BlockComment cs i n lines
StandsAt cs i n (word units) = IsWord cs i n units
StandsAt cs i n (key k) = IsKey cs i n k
StandsAt cs i n (sign s) = IsSign cs i n s
StandsAt cs i n (number v) = IsNumber cs i n v
StandsAt cs i n (text units) = IsText cs i n units

-- the piece at i: the longest that stands there
pub record PieceAt (cs : List ℕ) (i n : ℕ) (p : Piece) : Type 0 where
  pub stands : StandsAt cs i n p
  pub longest : (m : ℕ) (q : Piece) → StandsAt cs i m q → (m < n) ⊎ ((m ≡ n) × (q ≡ p))

-- no piece begins at i
pub record NoPieceAt (cs : List ℕ) (i : ℕ) : Type 0 where
  pub none : (m : ℕ) (q : Piece) → StandsAt cs i m q → ⊥
