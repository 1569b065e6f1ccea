-- The line on which the tokens of a script can't go on.
use Rattle.std.specs.Prelude.{◌≡◌, ℕ, ◌-◌, List, length, Option, Some, None, slice_get}
use Rattle.std.specs.Option.{option_map}
use Rattle.wjs_tree.specs.declared.tokens.Tok.{Tok}
use Rattle.wjs_offend.specs.declared.answer.Offence.{Offence}
use Rattle.wjs_offend.specs.declared.answer.Offence.TheVariants as offences
use Rattle.wjs_offend.specs.Offences.{IsOffence}

-- the line on which the token at this place begins
abbrev pub line_at : List Tok → ℕ → Option ℕ
line_at toks place = option_map (λ (tok : Tok). tok.line) (slice_get toks place)

-- the line of an offence: that of the token at fault, or of the last one where the end is; none where no token is at fault
abbrev pub line_of : List Tok → Offence → Option ℕ
line_of toks (offences.At place) = line_at toks place
line_of toks offences.End = line_at toks (length toks - 1)
line_of toks offences.NoToken = None

-- the tokens stop being the front of a program on this line
pub record StopsOn (toks : List Tok) (line : ℕ) : Type 0 where
  pub offence : Offence
  pub is : IsOffence toks offence
  pub on : line_of toks offence ≡ Some line
