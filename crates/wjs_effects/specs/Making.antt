-- Values that are there, or texts that are still to be made (ECMA-262, 3rd edition, section 11.6.1).
use Rattle.std.specs.Prelude.{◌≤◌, ◌++◌, length, [], Option, None, Some}
use Rattle.wjs_base.specs.declared.values.Value.{Value as Numbered}
use Rattle.wjs_base.specs.Text.{Table, Grows, longest}
use Rattle.wjs_by_content.specs.Conversions.{primitive_text}
use Rattle.wjs_by_content.specs.Tables.{value_in}
use Rattle.wjs_by_content.specs.Values.{Text, Value, String}
use Rattle.wjs_model.specs.declared.config.Config.{Config}
use Rattle.wjs_model.specs.Soundness.{HasValue}
use Rattle.wjs_effects.specs.declared.effect.Pieces.{Pieces}
use Rattle.wjs_effects.specs.declared.effect.Made.{Made}
use Rattle.wjs_effects.specs.declared.effect.Made.TheVariants.{There, Joined}

-- the text of a primitive, and of one that may be missing
abbrev pub spelled : Table → Numbered → Text
spelled t v = primitive_text (value_in t v)

abbrev pub spelled_if : Table → Option Numbered → Text
spelled_if t None = []
spelled_if t (Some v) = spelled t v

-- the texts of pieces, one behind the other
abbrev pub joined : Table → Pieces → Text
joined t p = ((spelled t p.first ++ spelled t p.second) ++ spelled_if t p.third) ++ spelled_if t p.fourth

abbrev pub made_in : Table → Made → Value
made_in t (There v) = value_in t v
made_in t (Joined p) = String (joined t p)

-- ---- what they name is there

abbrev pub HasIf : {S : Type 0} → Config S → Option Numbered → Type 0
HasIf c None = Unit {0}
HasIf c (Some v) = HasValue c v

abbrev pub HasValues : {S : Type 0} → Config S → Pieces → Type 0
HasValues c p = HasValue c p.first × (HasValue c p.second × (HasIf c p.third × HasIf c p.fourth))

-- and is not too long
abbrev pub IsShort : {S : Type 0} → Config S → Pieces → Type 0
IsShort c p = (t : Table) → Grows c.heap.texts t → length (joined t p) ≤ longest

abbrev pub HasPieces : {S : Type 0} → Config S → Pieces → Type 0
HasPieces c p = HasValues c p × IsShort c p

abbrev pub HasMade : {S : Type 0} → Config S → Made → Type 0
HasMade c (There v) = HasValue c v
HasMade c (Joined p) = HasPieces c p
