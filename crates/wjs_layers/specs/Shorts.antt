-- What contents and rows in few bytes stand for.
use Rattle.std.specs.Prelude.{ℕ, Bool, true, false, Option, None, Some}
use Rattle.std.specs.Option.{option_map}
use Rattle.std.specs.FinMap as map
use Rattle.std.specs.FinMap.{FinMap}
use Rattle.wjs_base.specs.declared.number.Whole.{Whole}
use Rattle.wjs_base.specs.declared.values.Value.TheVariants as values
use Rattle.wjs_base.specs.declared.values.Content.{Content}
use Rattle.wjs_base.specs.declared.values.Content.TheVariants.{Absent, Present}
use Rattle.wjs_base.specs.declared.values.Slot.{Slot}
use Rattle.wjs_base.specs.Order.{slot_cmp}
use Rattle.wjs_layers.specs.declared.maps.Row.{Row}
use Rattle.wjs_layers.specs.declared.compact.Kind.{Kind}
use Rattle.wjs_layers.specs.declared.compact.Kind.TheVariants as kinds
use Rattle.wjs_layers.specs.declared.compact.Mark.{Mark}
use Rattle.wjs_layers.specs.declared.compact.Mark.TheVariants as marks
use Rattle.wjs_layers.specs.declared.compact.ShortContent.{ShortContent}
use Rattle.wjs_layers.specs.Kinds.{number_in}

abbrev pub nan : Whole
nan = record { number = None; in_range = tt }

-- what is kept by its kind, where it is this number if it is one
abbrev pub content_by : Kind → ℕ → ℕ → Whole → Content
content_by kinds.Absent n owner whole = Absent
content_by kinds.Undefined n owner whole = Present values.Undefined
content_by kinds.Null n owner whole = Present values.Null
content_by kinds.False n owner whole = Present (values.Bool false)
content_by kinds.True n owner whole = Present (values.Bool true)
content_by kinds.Nan n owner whole = Present (values.Number whole)
content_by kinds.Number n owner whole = Present (values.Number whole)
content_by kinds.Negative n owner whole = Present (values.Number whole)
content_by kinds.Text n owner whole = Present (values.Text (record { 0 = n }))
content_by kinds.Object n owner whole = Present (values.Object (record { owner = owner; serial = n }))

abbrev pub whole_in : ShortContent → Whole
whole_in s = record { number = number_in s.kind s.number; in_range = s.in_range }

abbrev pub content_in : ShortContent → Content
content_in s = content_by s.kind s.number s.owner (whole_in s)

-- the row of a slot that is present in the first world
abbrev pub row_first : ShortContent → Row
row_first s = record { read = None; now = content_in s; written = false }

abbrev pub at_first : Slot → ShortContent → Row
at_first slot = row_first

-- ---- the rows of a child world

-- the row of a slot that was read, and not written
abbrev pub row_read : Content → Row
row_read now = record { read = Some now; now = now; written = false }

-- the row of a slot that was written, with the read that is recorded, if one is
abbrev pub row_written : Option Content → Content → Row
row_written read now = record { read = read; now = now; written = true }

abbrev pub is_write : Mark → Bool
is_write marks.Read = false
is_write marks.Written = true
is_write marks.Filled = true
is_write marks.Changed = true

-- the recorded read by the mark: it is what the slot holds, there is none, the slot was absent, or it is what is kept apart
abbrev pub read_by : Mark → Content → Option Content → Option Content
read_by marks.Read now apart = Some now
read_by marks.Written now apart = None
read_by marks.Filled now apart = Some Absent
read_by marks.Changed now apart = apart

-- what is kept apart of a slot
abbrev pub apart_of : FinMap slot_cmp ShortContent → Slot → Option Content
apart_of before slot = option_map content_in (map.get before slot)

-- the row of a slot, by what is kept of it
abbrev pub row_in : FinMap slot_cmp ShortContent → Slot → ShortContent → Row
row_in before slot s = record { read = read_by s.mark (content_in s) (apart_of before slot); now = content_in s; written = is_write s.mark }
