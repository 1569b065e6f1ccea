-- Where the units of texts stand: in buffers, so that a text and a longer one that begins with it can share theirs.
use Rattle.std.specs.Prelude.{◌≡◌, ◌+◌, ◌<◌, ◌≤◌, [], length, slice_index_or, slice_range}
use Rattle.wjs_texts.specs.declared.buffers.Span.{Span}
use Rattle.wjs_base.specs.Text.{Units, Table}

-- the buffer in which a text stands
abbrev pub buffer_of : Table → Span → Units
buffer_of buffers span = slice_index_or buffers span.buffer []

-- the units of a text
abbrev pub units_in : Table → Span → Units
units_in buffers span = slice_range (buffer_of buffers span) span.start (span.start + span.len)

-- the buffer is there, and the units are in it
pub record IsWithin (buffers : Table) (span : Span) : Type 0 where
  pub buffer : span.buffer < length buffers
  pub units : span.start + span.len ≤ length (buffer_of buffers span)

-- nothing stands behind the text
pub record IsLast (buffers : Table) (span : Span) : Type 0 where
  pub buffer : span.buffer < length buffers
  pub end : span.start + span.len ≡ length (buffer_of buffers span)

-- each text stands in the new buffers as in the old ones
pub record Stands (old new : Table) : Type 0 where
  pub within : (span : Span) → IsWithin old span → IsWithin new span
  pub units : (span : Span) → IsWithin old span → units_in new span ≡ units_in old span
