-- What holds of the readings of any script.
use Rattle.std.specs.Prelude.{◌≡◌, ℕ, List}
use Rattle.wjs_base.specs.Text.{Table}
use Rattle.wjs_tree.specs.declared.tokens.Tok.{Tok}
use Rattle.wjs_lexer.specs.Lexing.{HasTokens, HasNoToken}

-- two readings of a script have the same tokens at the same places
abbrev pub OneReading : Type 0
OneReading = (bytes : List ℕ) (t u : Table) (ts us : List Tok) (h : HasTokens bytes t ts) (k : HasTokens bytes u us) → k.placed ≡ h.placed

-- a script has one first place where no piece begins
abbrev pub OneFault : Type 0
OneFault = (bytes : List ℕ) (b c l m : ℕ) → HasNoToken bytes b l → HasNoToken bytes c m → (c ≡ b) × (m ≡ l)

-- a script that has tokens has no such place
abbrev pub TokensOrFault : Type 0
TokensOrFault = (bytes : List ℕ) (t : Table) (ts : List Tok) (b l : ℕ) → HasTokens bytes t ts → HasNoToken bytes b l → ⊥
