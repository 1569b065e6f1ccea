-- The pieces of a text from place to place, and its tokens.
use Rattle.std.specs.Prelude.{◌≡◌, ℕ, ◌<◌, Bool, true, false, ◌||◌, List, [], ◌∷◌, length}
use Rattle.wjs_lexer.specs.Places.{byte_at, line_at}
use Rattle.wjs_lexer.specs.Pieces.{Piece, space, line_end, line_comment, block_comment, word, key, sign, number, text, PieceAt, NoPieceAt}

-- White space, line terminators and comments are no tokens.
abbrev pub is_token : Piece → Bool
is_token space = false
is_token line_end = false
is_token line_comment = false
is_token (block_comment lines) = false
is_token (word units) = true
is_token (key k) = true
is_token (sign s) = true
is_token (number v) = true
is_token (text units) = true

-- the piece is a line terminator, or a comment that holds one
abbrev pub has_line : Piece → Bool
has_line line_end = true
has_line (block_comment lines) = lines
has_line p = false

-- a token at its place, by its content
pub record Placed : Type 0 where
  pub piece : Piece
  pub byte : ℕ
  pub line : ℕ
  pub after_line : Bool

abbrev pub placed_at : List ℕ → ℕ → Bool → Piece → Placed
placed_at cs i after p = record { piece = p; byte = byte_at cs i; line = line_at cs i; after_line = after }

-- From i up to stop stand pieces, each the longest at its place, and these are the tokens among
-- them; after: a line ended since the token before i, or since the start.
pub data Reads (cs : List ℕ) (stop : ℕ) : ℕ → Bool → List Placed → Type 0 where
  done : {i : ℕ} {after : Bool} → i ≡ stop → Reads cs stop i after []
  skipping : {i : ℕ} {after : Bool} {ts : List Placed} (n : ℕ) (p : Piece) → PieceAt cs i n p → is_token p ≡ false → Reads cs stop n (after || has_line p) ts → Reads cs stop i after ts
  taking : {i : ℕ} {after : Bool} {ts : List Placed} (n : ℕ) (p : Piece) → PieceAt cs i n p → is_token p ≡ true → Reads cs stop n false ts → Reads cs stop i after (placed_at cs i after p ∷ ts)

-- the tokens of a text from a place on: its pieces reach the end
abbrev pub AreTokens : List ℕ → ℕ → List Placed → Type 0
AreTokens cs from ts = Reads cs (length cs) from false ts

-- the pieces go up to a place before the end, and none begins there
pub record StopsAt (cs : List ℕ) (from byte line : ℕ) : Type 0 where
  pub stop : ℕ
  pub before : List Placed
  pub reads : Reads cs stop from false before
  pub within : stop < length cs
  pub none : NoPieceAt cs stop
  pub at_byte : byte ≡ byte_at cs stop
  pub at_line : line ≡ line_at cs stop
