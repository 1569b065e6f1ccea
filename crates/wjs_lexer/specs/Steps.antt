-- What the steps of the lexer promise.
use Rattle.std.specs.Prelude.{◌≡◌, ℕ, ◌^◌, ◌<◌, ◌≤◌, Bool, true, false, List, Option, Some, None, length}
use Rattle.std.specs.Str.{IsUtf8, encode_utf8_all}
use Rattle.wjs_base.specs.Text.{Table, longest}
use Rattle.wjs_tree.specs.declared.tokens.Token.{Token}
use Rattle.wjs_tree.specs.declared.tokens.Tok.{Tok}
use Rattle.wjs_lexer.specs.declared.cursor.Cursor.{Cursor}
use Rattle.wjs_lexer.specs.declared.lexing.LexFault.{LexFault}
use Rattle.wjs_lexer.specs.declared.lexing.LexFault.TheVariants as faults
use Rattle.wjs_lexer.specs.declared.lexing.Step.{Step}
use Rattle.wjs_lexer.specs.declared.lexing.Step.TheVariants as steps
use Rattle.wjs_lexer.specs.Places.{byte_at, line_at}
use Rattle.wjs_lexer.specs.Pieces.{Piece, word, number, text, PieceAt, NoPieceAt}
use Rattle.wjs_lexer.specs.Readings.{Placed, is_token, has_line, AreTokens, StopsAt}
use Rattle.wjs_lexer.specs.Cursors.{IsPlaced}
use Rattle.wjs_lexer.specs.Lexing.{Means, AreToks, start, IsNoText}

-- the text takes at most 16,777,216 bytes
abbrev pub IsShort : List ℕ → Type 0
IsShort cs = byte_at cs (length cs) ≤ 2 ^ 24

-- the cursor is where the pieces of a text begin
pub record StartsAt (cs : List ℕ) (c : Cursor) : Type 0 where
  pub placed : IsPlaced c
  pub same : c.chars.now ≡ cs
  pub at : c.at ≡ start cs

-- its units are a text, or its value a number
abbrev pub Fitting : Piece → Type 0
Fitting (word units) = length units ≤ longest
Fitting (number v) = v < 2 ^ 53
Fitting (text units) = length units ≤ longest
Fitting p = Unit {0}

-- the token of a piece, or the piece is none
abbrev pub MeansPiece : Table → Piece → Option Token → Type 0
MeansPiece texts p None = is_token p ≡ false
MeansPiece texts p (Some t) = (is_token p ≡ true) × Means texts t p

-- a piece was read that is a token
pub record Takes (old new : Cursor) (texts : Table) (t : Token) : Type 0 where
  pub placed : IsPlaced new
  pub same : new.chars.now ≡ old.chars.now
  pub which : Piece
  pub piece : PieceAt old.chars.now old.at new.at which
  pub is : is_token which ≡ true
  pub means : Means texts t which

-- a piece was read that is no token
pub record Skips (old new : Cursor) (lines : Bool) : Type 0 where
  pub placed : IsPlaced new
  pub same : new.chars.now ≡ old.chars.now
  pub which : Piece
  pub piece : PieceAt old.chars.now old.at new.at which
  pub is : is_token which ≡ false
  pub holds : lines ≡ has_line which

abbrev pub Goes : Cursor → Cursor → Table → Step → Type 0
Goes old new texts (steps.Token t) = Takes old new texts t
Goes old new texts (steps.Skip lines) = Skips old new lines

-- no piece begins at the cursor
pub record StopsHere (old : Cursor) (byte line : ℕ) : Type 0 where
  pub nothing : NoPieceAt old.chars.now old.at
  pub at_byte : byte ≡ byte_at old.chars.now old.at
  pub at_line : line ≡ line_at old.chars.now old.at

abbrev pub StepFault : Cursor → LexFault → Type 0
StepFault old (faults.NotUtf8 byte) = ⊥
StepFault old (faults.NotAToken byte line) = StopsHere old byte line
StepFault old faults.OutOfMemory = Unit {0}

-- the tokens of a text from a place on
pub record Lexes (cs : List ℕ) (from : ℕ) (texts : Table) (toks : List Tok) : Type 0 where
  pub placed : List Placed
  pub reads : AreTokens cs from placed
  pub same : AreToks texts toks placed

abbrev pub ReadFault : List ℕ → ℕ → LexFault → Type 0
ReadFault cs from (faults.NotUtf8 byte) = ⊥
ReadFault cs from (faults.NotAToken byte line) = StopsAt cs from byte line
ReadFault cs from faults.OutOfMemory = Unit {0}

-- the characters of the bytes
pub record AreChars (bytes cs : List ℕ) : Type 0 where
  pub utf8 : IsUtf8 bytes
  pub encoded : encode_utf8_all cs ≡ bytes

abbrev pub CharsFault : List ℕ → LexFault → Type 0
CharsFault bytes (faults.NotUtf8 byte) = IsNoText bytes byte
CharsFault bytes (faults.NotAToken byte line) = ⊥
CharsFault bytes faults.OutOfMemory = Unit {0}
