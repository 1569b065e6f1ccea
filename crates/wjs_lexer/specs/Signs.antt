-- Signs, which the standard calls punctuators (ECMA-262, 3rd edition, section 7.7).
use Rattle.std.specs.Prelude.{◌≡◌, ℕ, ◌+◌, Bool, false, ◌||◌, ◌==◌, List, [], ◌∷◌, Some, slice_get}
use Rattle.wjs_tree.specs.declared.signs.Sign.{Sign}
use Rattle.wjs_tree.specs.declared.signs.Sign.TheVariants as signs
use Rattle.wjs_tree.specs.Signs.{spelling}
use Rattle.wjs_lexer.specs.Characters.{is_decimal}
use Rattle.wjs_lexer.specs.Places.{passes}

-- the characters of a spelling stand from i up to n
abbrev pub Spells : List ℕ → List ℕ → ℕ → ℕ → Type 0
Spells cs [] i n = n ≡ i
Spells cs (c ∷ t) i n = (slice_get cs i ≡ Some c) × Spells cs t (i + 1) n

-- what may not stand behind a sign: behind `.` a digit, behind `/` another `/` or `*`, so that a
-- number such as `.5` and a comment without end are no signs
abbrev pub is_bound_to : Sign → ℕ → Bool
is_bound_to signs.Dot c = is_decimal c
is_bound_to signs.Divide c = (c == 47) || (c == 42)
is_bound_to s c = false

pub record IsSign (cs : List ℕ) (i n : ℕ) (s : Sign) : Type 0 where
  pub spelled : Spells cs (spelling s) i n
  pub next : passes (is_bound_to s) (slice_get cs n) ≡ false
