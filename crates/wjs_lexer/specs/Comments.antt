-- Comments (ECMA-262, 3rd edition, section 7.4).
use Rattle.std.specs.Prelude.{◌≡◌, ℕ, ◌+◌, ◌<◌, ◌≤◌, Bool, false, not, List, Some, slice_get, slice_range}
use Rattle.std.specs.List.{list_any}
use Rattle.wjs_lexer.specs.Characters.{is_line_end}
use Rattle.wjs_lexer.specs.Places.{passes, AllPass}

-- `//` up to, and without, the next line terminator or the end
pub record LineComment (cs : List ℕ) (i n : ℕ) : Type 0 where
  pub first : slice_get cs i ≡ Some 47
  pub second : slice_get cs (i + 1) ≡ Some 47
  pub some : i + 2 ≤ n
  pub inside : AllPass (λ c. not (is_line_end c)) cs (i + 2) n
  pub next : passes (λ c. not (is_line_end c)) (slice_get cs n) ≡ false

-- `*/` stands here
abbrev pub Closes : List ℕ → ℕ → Type 0
Closes cs k = (slice_get cs k ≡ Some 42) × (slice_get cs (k + 1) ≡ Some 47)

-- `/*` up to and with the first `*/` behind it; lines: whether it holds a line terminator
pub record BlockComment (cs : List ℕ) (i n : ℕ) (lines : Bool) : Type 0 where
  pub first : slice_get cs i ≡ Some 47
  pub second : slice_get cs (i + 1) ≡ Some 42
  pub close : ℕ
  pub some : i + 2 ≤ close
  pub before : (k : ℕ) → i + 2 ≤ k → k < close → Closes cs k → ⊥
  pub closes : Closes cs close
  pub end : n ≡ close + 2
  pub holds : lines ≡ list_any is_line_end (slice_range cs i n)
