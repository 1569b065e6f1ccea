-- What the readers of pieces promise of a cursor.
use Rattle.std.specs.Prelude.{◌≡◌, ℕ, ◌+◌, ◌*◌, ◌^◌, ◌<◌, ◌≤◌, ◌⊎◌, Bool, false, not, List, Option, Some, None, length, slice_get, slice_range}
use Rattle.std.specs.Char.{is_digit, digit_value}
use Rattle.std.specs.Str.Parse.{digits_value}
use Rattle.std.specs.Prelude.{if◌then◌else◌}
use Rattle.wjs_lexer.specs.declared.cursor.Cursor.{Cursor}
use Rattle.wjs_lexer.specs.declared.numbers.Base.{Base}
use Rattle.wjs_lexer.specs.declared.pieces.Scanned.{Scanned}
use Rattle.wjs_lexer.specs.declared.pieces.Scanned.TheVariants as scanned
use Rattle.wjs_tree.specs.declared.signs.Sign.{Sign}
use Rattle.wjs_lexer.specs.declared.characters.Kind.TheVariants as kinds
use Rattle.wjs_lexer.specs.SignSteps.{sign_of}
use Rattle.wjs_lexer.specs.Comments.{Closes, BlockComment}
use Rattle.wjs_lexer.specs.Characters.{is_line_end, continues_name}
use Rattle.wjs_lexer.specs.KindSteps.{kind_of}
use Rattle.wjs_lexer.specs.Places.{passes, AllPass, byte_at, line_at}
use Rattle.wjs_lexer.specs.Numbers.{radix}
use Rattle.wjs_lexer.specs.Pieces.{Piece, space, line_end, line_comment, block_comment, word, key, sign, number, text, PieceAt, NoPieceAt}

-- the cursor tells the byte and the line of its place
pub record IsPlaced (c : Cursor) : Type 0 where
  pub small : length c.chars.now ≤ 2 ^ 24
  pub within : c.at ≤ length c.chars.now
  pub byte : c.byte ≡ byte_at c.chars.now c.at
  pub byte_small : c.byte ≤ 4 * c.at
  pub line : c.line ≡ line_at c.chars.now c.at
  pub line_small : c.line ≤ c.at + 1

-- the cursor went on to a place of the same text
pub record Went (old new : Cursor) (n : ℕ) : Type 0 where
  pub placed : IsPlaced new
  pub same : new.chars.now ≡ old.chars.now
  pub at : new.at ≡ n

-- the cursor went over a name, up to where it doesn't go on
pub record ReadsName (old new : Cursor) : Type 0 where
  pub placed : IsPlaced new
  pub same : new.chars.now ≡ old.chars.now
  pub some : old.at < new.at
  pub rest : AllPass continues_name old.chars.now (old.at + 1) new.at
  pub stop : passes continues_name (slice_get old.chars.now new.at) ≡ false

-- the cursor went over `//` to the line's end
pub record ReadsToLineEnd (old new : Cursor) : Type 0 where
  pub placed : IsPlaced new
  pub same : new.chars.now ≡ old.chars.now
  pub some : old.at + 2 ≤ new.at
  pub inside : AllPass (λ c. not (is_line_end c)) old.chars.now (old.at + 2) new.at
  pub stop : passes (λ c. not (is_line_end c)) (slice_get old.chars.now new.at) ≡ false

-- `/*` stands here
pub record OpensBlock (cs : List ℕ) (i : ℕ) : Type 0 where
  pub first : slice_get cs i ≡ Some 47
  pub second : slice_get cs (i + 1) ≡ Some 42

-- the cursor went over a comment, or no `*/` closes it
pub record ReadsClosed (old new : Cursor) (lines : Bool) : Type 0 where
  pub placed : IsPlaced new
  pub same : new.chars.now ≡ old.chars.now
  pub comment : BlockComment old.chars.now old.at new.at lines

pub record NeverCloses (old new : Cursor) : Type 0 where
  pub placed : IsPlaced new
  pub same : new.chars.now ≡ old.chars.now
  pub never : (k : ℕ) → old.at + 2 ≤ k → Closes old.chars.now k → ⊥

abbrev pub ReadsBlock : Cursor → Cursor → Option Bool → Type 0
ReadsBlock old new None = NeverCloses old new
ReadsBlock old new (Some lines) = ReadsClosed old new lines

-- the character here begins a sign, and no comment
pub record BeginsSign (cs : List ℕ) (i c : ℕ) (s : Sign) : Type 0 where
  pub here : slice_get cs i ≡ Some c
  pub sign : sign_of c ≡ Some s
  pub mark : (kind_of c ≡ kinds.Mark) ⊎ ((kind_of c ≡ kinds.Slash) × ((slice_get cs (i + 1) ≡ Some 47 → ⊥) × (slice_get cs (i + 1) ≡ Some 42 → ⊥)))

-- the value of a digit, where one stands
abbrev pub digit_here : ℕ → Option ℕ → Option ℕ
digit_here radix None = None
digit_here radix (Some c) = if is_digit c radix then Some (digit_value c) else None

-- the digits of the base that stand from i on end at n, and their value is small enough
pub record DigitsEnd (base : Base) (cs : List ℕ) (i n v : ℕ) : Type 0 where
  pub some : i ≤ n
  pub digits : AllPass (λ c. is_digit c (radix base)) cs i n
  pub stop : passes (λ c. is_digit c (radix base)) (slice_get cs n) ≡ false
  pub value : v ≡ digits_value (radix base) (slice_range cs i n)
  pub small : v < 2 ^ 53

-- so many digits stand from i on that their value is too big
pub record TooBig (base : Base) (cs : List ℕ) (i : ℕ) : Type 0 where
  pub end : ℕ
  pub some : i ≤ end
  pub digits : AllPass (λ c. is_digit c (radix base)) cs i end
  pub big : 2 ^ 53 ≤ digits_value (radix base) (slice_range cs i end)

pub record ReadsSmall (base : Base) (old new : Cursor) (v : ℕ) : Type 0 where
  pub placed : IsPlaced new
  pub same : new.chars.now ≡ old.chars.now
  pub run : DigitsEnd base old.chars.now old.at new.at v

pub record ReadsBig (base : Base) (old new : Cursor) : Type 0 where
  pub placed : IsPlaced new
  pub same : new.chars.now ≡ old.chars.now
  pub run : TooBig base old.chars.now old.at

abbrev pub ReadsDigits : Base → Cursor → Cursor → Option ℕ → Type 0
ReadsDigits base old new None = ReadsBig base old new
ReadsDigits base old new (Some v) = ReadsSmall base old new v

-- the piece that was read, with the units that were read with it
abbrev pub piece_of : Scanned → List ℕ → Piece
piece_of scanned.Space units = space
piece_of scanned.LineEnd units = line_end
piece_of scanned.LineComment units = line_comment
piece_of (scanned.BlockComment lines) units = block_comment lines
piece_of scanned.Word units = word units
piece_of (scanned.Key k) units = key k
piece_of (scanned.Sign s) units = sign s
piece_of (scanned.Number v) units = number v
piece_of scanned.Text units = text units

-- the cursor went over the piece at its place
pub record Found (old new : Cursor) (p : Piece) : Type 0 where
  pub placed : IsPlaced new
  pub same : new.chars.now ≡ old.chars.now
  pub piece : PieceAt old.chars.now old.at new.at p

-- none begins there
pub record Missing (old new : Cursor) : Type 0 where
  pub placed : IsPlaced new
  pub same : new.chars.now ≡ old.chars.now
  pub nothing : NoPieceAt old.chars.now old.at

abbrev pub ReadsPiece : Cursor → Cursor → List ℕ → Option Scanned → Type 0
ReadsPiece old new units None = Missing old new
ReadsPiece old new units (Some p) = Found old new (piece_of p units)
