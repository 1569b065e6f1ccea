-- Pieces of a text, by their places.
use Rattle.std.specs.Prelude.{ℕ, Bool, true, nat_lt, List, map as each, take, Option, None, Some}
use Rattle.wjs_by_content.specs.Values.{Text, Value, String}
use Rattle.wjs_meaning.specs.NativesOfTexts.{part_of}
use Rattle.wjs_strings.specs.declared.pieces.Piece.{Piece}

-- the texts of pieces
abbrev pub texts_of : Text → List Piece → List Value
texts_of t pieces = each (λ (p : Piece). String (part_of t p.start p.end)) pieces

-- no more than a limit
abbrev pub up_to : Option ℕ → List Value → List Value
up_to None vs = vs
up_to (Some n) vs = take n vs

-- whether more than so many are allowed
abbrev pub has_room : Option ℕ → ℕ → Bool
has_room None count = true
has_room (Some n) count = nat_lt count n
