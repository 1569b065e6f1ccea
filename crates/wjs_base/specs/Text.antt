-- Texts, and the table that numbers them: a text is known by its place in a list of different texts.
use Rattle.std.specs.Prelude.{◌≡◌, ℕ, ◌^◌, ◌<◌, ◌≤◌, ◌⊎◌, List, [], ◌∷◌, ◌++◌, Option, None, Some, length, slice_get, All}
use Rattle.wjs_base.specs.declared.ids.TextId.{TextId}

-- a text is a list of code units (ECMA-262, 3rd edition, section 8.4)
abbrev pub Units : Type 0
Units = List ℕ

abbrev pub Table : Type 0
Table = List Units

-- the longest text, in units
abbrev pub longest : ℕ
longest = 16777216

-- a list of units that is a text: each has 16 bits, and they are not too many
pub record IsText (units : Units) : Type 0 where
  pub sixteen_bits : All (λ unit. unit < 2 ^ 16) units
  pub short : length units ≤ longest

-- the number is in the table
abbrev pub Has : Table → TextId → Type 0
Has texts id = id.0 < length texts

-- the number stands for these units
abbrev pub Denotes : Table → TextId → Units → Type 0
Denotes texts id units = slice_get texts id.0 ≡ Some units

-- the number of these units; none exactly where no text of the table has them
abbrev pub Finds : Table → Units → Option TextId → Type 0
Finds texts units (Some id) = Denotes texts id units
Finds texts units None = (id : TextId) → ¬ (Denotes texts id units)

-- the table holds texts, each of them once: equal content has equal number
pub record IsTable (texts : Table) : Type 0 where
  pub are_texts : All IsText texts
  pub one_number : (a b : TextId) (units : Units) → Denotes texts a units → Denotes texts b units → a ≡ b

-- the table grew: each text that was there has its number still
abbrev pub Grows : Table → Table → Type 0
Grows old new = (more : Table) × (new ≡ old ++ more)

-- the units have the number in the new table, which is the old one, or has them as one text more
pub record Interns (old new : Table) (units : Units) (id : TextId) : Type 0 where
  pub denotes : Denotes new id units
  pub table : (new ≡ old) ⊎ (new ≡ old ++ units ∷ [])
