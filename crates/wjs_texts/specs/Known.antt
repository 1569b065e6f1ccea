-- The texts that the machine itself uses.
use Rattle.std.specs.Prelude.{◌≡◌, ℕ, List, [], ◌∷◌, map, Option, Some, slice_get, codes}
use Rattle.wjs_base.specs.declared.ids.TextId.{TextId}
use Rattle.wjs_base.specs.Text.{Units, Table, Denotes}
use Rattle.wjs_texts.specs.declared.known.Known.{Known}
use Rattle.wjs_texts.specs.declared.known.Known.TheVariants as known

abbrev pub text_of : Known → Units
text_of known.Length = codes "length"
text_of known.Prototype = codes "prototype"
text_of known.Constructor = codes "constructor"
text_of known.Arguments = codes "arguments"
text_of known.Callee = codes "callee"
text_of known.Name = codes "name"
text_of known.Message = codes "message"
text_of known.ToString = codes "toString"
text_of known.ValueOf = codes "valueOf"

-- each of them
abbrev pub known_texts : Table
known_texts = map text_of
    (known.Length ∷ known.Prototype ∷ known.Constructor ∷ known.Arguments ∷ known.Callee ∷ known.Name ∷ known.Message ∷ known.ToString ∷ known.ValueOf ∷ [])

-- a number that is kept at the place of one of them is that of this text
abbrev pub AreKept : Table → List (Option TextId) → Type 0
AreKept texts kept = (place : ℕ) (id : TextId) (units : Units) → slice_get kept place ≡ Some (Some id) → slice_get known_texts place ≡ Some units → Denotes texts id units
