-- Where tokens stop being the front of a program (ECMA-262, 3rd edition, sections 7.9 and 11 to 14).
use Rattle.std.specs.Prelude.{◌≡◌, ◌+◌, ◌<◌, List, length}
use Rattle.wjs_tree.specs.declared.tokens.Tok.{Tok}
use Rattle.wjs_forms.specs.Spells.{Spells, Begins}
use Rattle.wjs_offend.specs.declared.answer.Offence.{Offence}
use Rattle.wjs_offend.specs.declared.answer.Offence.TheVariants as offences

-- At the first place the tokens before begin those of some program, and with the token there those of none; at the end they
-- begin those of some, and are those of none.
abbrev pub IsOffence : List Tok → Offence → Type 0
IsOffence toks (offences.At k) = (k < length toks) × Begins toks k × (Begins toks (k + 1) → ⊥)
IsOffence toks offences.End = Begins toks (length toks) × (Spells toks → ⊥)
IsOffence toks offences.NoToken = Spells toks

-- tokens have one offence at most
abbrev pub OneOffence : Type 0
OneOffence = (toks : List Tok) (a b : Offence) → IsOffence toks a → IsOffence toks b → a ≡ b

-- and at least one
abbrev pub SomeOffence : Type 0
SomeOffence = (toks : List Tok) → (o : Offence) × IsOffence toks o
