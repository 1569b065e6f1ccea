-- How logs are spelled: each line ends with LF, and one space stands between its parts.
use Rattle.std.specs.Prelude.{ℕ, ◌/◌, ◌%◌, Bool, false, if◌then◌else◌, List, [], ◌∷◌, ◌++◌, map as each, Option, None, Some, ℤ, codes, decimal}
use Rattle.std.specs.Fmt.{digits, signed_decimal}
use Rattle.std.specs.List.{flat_map}
use Rattle.wjs_base.specs.declared.ids.ObjId.{ObjId}
use Rattle.wjs_base.specs.declared.ids.WorldId.{WorldId}
use Rattle.wjs_base.specs.declared.values.Name.{Name}
use Rattle.wjs_base.specs.declared.values.Name.TheVariants.{Index, Text as Named}
use Rattle.wjs_base.specs.declared.values.Value.{Value}
use Rattle.wjs_base.specs.declared.values.Value.TheVariants.{Undefined, Null, Bool as Truth, Number, Text, Object}
use Rattle.wjs_base.specs.declared.values.Content.{Content}
use Rattle.wjs_base.specs.declared.values.Content.TheVariants.{Absent, Present}
use Rattle.wjs_base.specs.Text.{Units}
use Rattle.wjs_store.specs.declared.store.Verdict.{Verdict}
use Rattle.wjs_store.specs.declared.store.Verdict.TheVariants.{Moved, Disagrees, NoParent}
use Rattle.wjs_audit.specs.declared.deed.Deed.{Deed}
use Rattle.wjs_audit.specs.declared.deed.Deed.TheVariants.{Read, Write, List as ListOf, Sprout, Commit}

-- an owner and a serial, with a point between them
abbrev pub pair_text : ℕ → ℕ → List ℕ
pair_text owner serial = decimal owner ++ 46 ∷ decimal serial

abbrev pub world_text : WorldId → List ℕ
world_text w = pair_text w.owner w.serial

abbrev pub object_text : ObjId → List ℕ
object_text o = pair_text o.owner o.serial

-- `#` with an index, or `$` with a text's number
abbrev pub name_text : Name → List ℕ
name_text (Index index) = 35 ∷ decimal index
name_text (Named id) = 36 ∷ decimal id.0

-- `n` for NaN
abbrev pub number_text : Option ℤ → List ℕ
number_text None = codes "n"
number_text (Some z) = signed_decimal z

-- a number behind `d`, a text's number behind `$`, an object behind `@`
abbrev pub value_text : Value → List ℕ
value_text Undefined = codes "u"
value_text Null = codes "l"
value_text (Truth truth) = if truth then codes "t" else codes "f"
value_text (Number x) = 100 ∷ number_text x.number
value_text (Text id) = 36 ∷ decimal id.0
value_text (Object o) = 64 ∷ object_text o

-- `-` where it is absent
abbrev pub content_text : Content → List ℕ
content_text Absent = codes "-"
content_text (Present v) = value_text v

abbrev pub kind_text : Bool → List ℕ
kind_text strict = if strict then codes "s" else codes "p"

abbrev pub verdict_parts : Verdict → List (List ℕ)
verdict_parts Moved = codes "moved" ∷ []
verdict_parts (Disagrees s) = codes "differs" ∷ object_text s.object ∷ name_text s.name ∷ []
verdict_parts NoParent = codes "none" ∷ []

abbrev pub deed_parts : Deed → List (List ℕ)
deed_parts (Read w s c) = codes "read" ∷ world_text w ∷ object_text s.object ∷ name_text s.name ∷ content_text c ∷ []
deed_parts (Write w s c) = codes "write" ∷ world_text w ∷ object_text s.object ∷ name_text s.name ∷ content_text c ∷ []
deed_parts (ListOf w o names) = codes "list" ∷ world_text w ∷ object_text o ∷ each name_text names
deed_parts (Sprout w owner strict child) = codes "sprout" ∷ world_text w ∷ decimal owner ∷ kind_text strict ∷ world_text child ∷ []
deed_parts (Commit w v) = codes "commit" ∷ world_text w ∷ verdict_parts v

-- four small hexadecimal digits
abbrev pub unit_text : ℕ → List ℕ
unit_text unit = digits 16 false (unit / 4096) ++ (digits 16 false (unit / 256 % 16) ++ (digits 16 false (unit / 16 % 16) ++ digits 16 false (unit % 16)))

abbrev pub hex : Units → List ℕ
hex units = flat_map unit_text units

-- no part where there are no units
abbrev pub hex_parts : Units → List (List ℕ)
hex_parts [] = []
hex_parts (unit ∷ units) = hex (unit ∷ units) ∷ []

-- a line: a number names a text, or something was done
pub data Line : Type 0 where
  text : ℕ → Units → Line
  done : Deed → Line

abbrev pub line_parts : Line → List (List ℕ)
line_parts (text number units) = codes "text" ∷ decimal number ∷ hex_parts units
line_parts (done d) = deed_parts d

-- the parts that follow, a space in front of each
abbrev pub spaced : List (List ℕ) → List ℕ
spaced parts = flat_map (λ part. 32 ∷ part) parts

-- the parts, a space between each two
abbrev pub joined : List (List ℕ) → List ℕ
joined [] = []
joined (part ∷ parts) = part ++ spaced parts

abbrev pub line_text : Line → List ℕ
line_text line = joined (line_parts line) ++ 10 ∷ []

abbrev pub log_text : List Line → List ℕ
log_text lines = flat_map line_text lines
