-- Tokens by content, and what a script's bytes give.
use Rattle.std.specs.Prelude.{◌≡◌, ℕ, ◌==◌, List, [], ◌∷◌, Some, pos, slice_get, if◌then◌else◌}
use Rattle.std.specs.Str.{IsUtf8, IsValidUpTo, chars}
use Rattle.wjs_base.specs.Text.{Table, Denotes}
use Rattle.wjs_tree.specs.declared.tokens.Token.{Token}
use Rattle.wjs_tree.specs.declared.tokens.Token.TheVariants as tokens
use Rattle.wjs_tree.specs.declared.tokens.Tok.{Tok}
use Rattle.wjs_lexer.specs.declared.lexing.LexFault.{LexFault}
use Rattle.wjs_lexer.specs.declared.lexing.LexFault.TheVariants as faults
use Rattle.wjs_lexer.specs.Places.{passes}
use Rattle.wjs_lexer.specs.Pieces.{Piece, word, key, sign, number, text}
use Rattle.wjs_lexer.specs.Readings.{Placed, AreTokens, StopsAt}

-- the token is this piece: its key, its sign, its number, or the number that its units have in the
-- table
abbrev pub Means : Table → Token → Piece → Type 0
Means texts (tokens.Word id) (word units) = Denotes texts id units
Means texts (tokens.Key k) (key l) = k ≡ l
Means texts (tokens.Sign s) (sign r) = s ≡ r
Means texts (tokens.Number whole) (number v) = whole.number ≡ Some (pos v)
Means texts (tokens.Text id) (text units) = Denotes texts id units
Means texts t p = ⊥

-- the token and its place
pub record IsTok (texts : Table) (tok : Tok) (placed : Placed) : Type 0 where
  pub token : Means texts tok.token placed.piece
  pub byte : tok.byte ≡ placed.byte
  pub line : tok.line ≡ placed.line
  pub after_line : tok.after_line ≡ placed.after_line

-- tokens, one by one
abbrev pub AreToks : Table → List Tok → List Placed → Type 0
AreToks texts [] [] = Unit {0}
AreToks texts (t ∷ ts) (p ∷ ps) = IsTok texts t p × AreToks texts ts ps
AreToks texts [] (p ∷ ps) = ⊥
AreToks texts (t ∷ ts) [] = ⊥

-- where the pieces begin: behind one leading U+FEFF
abbrev pub start : List ℕ → ℕ
start cs = if passes (λ c. c == 0xFEFF) (slice_get cs 0) then 1 else 0

-- the bytes are UTF-8, and these are the tokens of their characters
pub record HasTokens (bytes : List ℕ) (texts : Table) (toks : List Tok) : Type 0 where
  pub utf8 : IsUtf8 bytes
  pub placed : List Placed
  pub reads : AreTokens (chars bytes) (start (chars bytes)) placed
  pub same : AreToks texts toks placed

-- the bytes are no UTF-8, and the longest front that is one has this length
pub record IsNoText (bytes : List ℕ) (byte : ℕ) : Type 0 where
  pub none : IsUtf8 bytes → ⊥
  pub longest : IsValidUpTo bytes byte

-- the bytes are UTF-8, and their pieces go up to this byte, on this line, where none begins
pub record HasNoToken (bytes : List ℕ) (byte line : ℕ) : Type 0 where
  pub utf8 : IsUtf8 bytes
  pub stops : StopsAt (chars bytes) (start (chars bytes)) byte line

-- when each fault comes; want of memory may come at any time
abbrev pub HasFault : List ℕ → LexFault → Type 0
HasFault bytes (faults.NotUtf8 byte) = IsNoText bytes byte
HasFault bytes (faults.NotAToken byte line) = HasNoToken bytes byte line
HasFault bytes faults.OutOfMemory = Unit {0}
