-- Places of a text: how many characters stand before it, how many bytes, and on which line it is.
use Rattle.std.specs.Prelude.{◌≡◌, ℕ, zero, suc, ◌+◌, ◌<◌, ◌≤◌, Bool, true, false, not, ◌&&◌, ◌==◌, List, Option, Some, None, slice_get, if◌then◌else◌}
use Rattle.std.specs.Char.{len_utf8}
use Rattle.wjs_lexer.specs.Characters.{is_line_end}

-- a character is there, and passes
abbrev pub passes : (ℕ → Bool) → Option ℕ → Bool
passes p None = false
passes p (Some c) = p c

-- each character from i up to n is there and passes
abbrev pub AllPass : (ℕ → Bool) → List ℕ → ℕ → ℕ → Type 0
AllPass p cs i n = (k : ℕ) → i ≤ k → k < n → passes p (slice_get cs k) ≡ true

-- how many bytes a character takes in UTF-8
abbrev pub bytes_of : Option ℕ → ℕ
bytes_of None = 0
bytes_of (Some c) = len_utf8 c

-- how many bytes stand before a place
unfoldable pub byte_at : List ℕ → ℕ → ℕ
byte_at cs zero = 0
byte_at cs (suc i) = byte_at cs i + bytes_of (slice_get cs i)

-- how many lines end with a character: a CR before a LF ends none, since the LF does
abbrev pub line_step : Option ℕ → Option ℕ → ℕ
line_step None next = 0
line_step (Some c) next = if is_line_end c && not ((c == 13) && passes (λ x. x == 10) next) then 1 else 0

-- the line of a place: one more than the lines that end before it
unfoldable pub line_at : List ℕ → ℕ → ℕ
line_at cs zero = 1
line_at cs (suc i) = line_at cs i + line_step (slice_get cs i) (slice_get cs (i + 1))
