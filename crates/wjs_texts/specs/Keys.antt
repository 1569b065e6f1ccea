-- How a text is found: its key is its turn and its hash at this turn.
use Rattle.std.specs.Prelude.{◌≡◌, ℕ, ◌<◌, ◌==◌, ◌&&◌, Bool, List, map, Option, None, Some, slice_get, IsSome}
use Rattle.std.specs.Map.{lookup}
use Rattle.wjs_base.specs.declared.ids.TextId.{TextId}
use Rattle.wjs_texts.specs.declared.buffers.Span.{Span}
use Rattle.wjs_texts.specs.declared.keys.Key.{Key}
use Rattle.wjs_texts.specs.declared.keys.Sought.{Sought}
use Rattle.wjs_texts.specs.declared.keys.Sought.TheVariants.{There, Free, Full}
use Rattle.wjs_texts.specs.Hash.{hash_of}
use Rattle.wjs_texts.specs.Spans.{IsWithin, units_in}
use Rattle.wjs_base.specs.Text.{Units, Table, Denotes, IsTable}

-- each key with where its text stands, in the order of the texts' numbers
abbrev pub Entries : Type 0
Entries = List (Key × Span)

-- the key that a text has if it has this turn
abbrev pub key_of : Units → ℕ → Key
key_of units turn = record { hash = hash_of turn units; turn = turn }

abbrev pub same_key : Key → Key → Bool
same_key a b = (a.hash == b.hash) && (a.turn == b.turn)

-- where the text of a key stands
abbrev pub at_key : Entries → Key → Option Span
at_key entries key = lookup (same_key key) entries

-- the table of the texts
abbrev pub texts_in : Table → Entries → Table
texts_in buffers entries = map (λ entry. units_in buffers entry.1) entries

-- more turns than there can be
abbrev pub past_turns : ℕ
past_turns = 4294967295

-- an entry is right: its text stands in the buffers and has the hash, and the keys of the turns before its own are taken
pub record IsEntry (buffers : Table) (entries : Entries) (entry : Key × Span) : Type 0 where
  pub within : IsWithin buffers entry.1
  pub hash : entry.0.hash ≡ hash_of entry.0.turn (units_in buffers entry.1)
  pub few : entry.0.turn < past_turns
  pub turns : (turn : ℕ) → turn < entry.0.turn → IsSome (at_key entries (key_of (units_in buffers entry.1) turn))

-- the texts are found by their keys
pub record AreFound (buffers : Table) (entries : Entries) : Type 0 where
  pub entry : (place : ℕ) (entry : Key × Span) → slice_get entries place ≡ Some entry → IsEntry buffers entries entry
  pub table : IsTable (texts_in buffers entries)

-- no text has the units
abbrev pub HasNone : Table → Entries → Units → Type 0
HasNone buffers entries units = (id : TextId) → ¬ (Denotes (texts_in buffers entries) id units)

-- the key is that of the units, which no text has yet
pub record IsFree (buffers : Table) (entries : Entries) (units : Units) (key : Key) : Type 0 where
  pub none : HasNone buffers entries units
  pub hash : key.hash ≡ hash_of key.turn units
  pub few : key.turn < past_turns
  pub absent : at_key entries key ≡ None
  pub turns : (turn : ℕ) → turn < key.turn → IsSome (at_key entries (key_of units turn))

-- what was sought: the number of the text that has the units, or the key that is free for it
abbrev pub IsSought : Table → Entries → Units → Sought → Type 0
IsSought buffers entries units (There id) = Denotes (texts_in buffers entries) id units
IsSought buffers entries units (Free key) = IsFree buffers entries units key
IsSought buffers entries units Full = HasNone buffers entries units
