-- What a log tells by content.
use Rattle.std.specs.Prelude.{◌≡◌, ℕ, List, map as each, Some}
use Rattle.wjs_base.specs.Text.{Table}
use Rattle.wjs_store.specs.Meaning.{Meaning}
use Rattle.wjs_audit.specs.declared.deed.Entry.{Entry}
use Rattle.wjs_audit.specs.Deeds.{told_of}
use Rattle.wjs_audit.specs.Logs.{Spells}
use Rattle.wjs_audit.specs.Recorded.{Recorded, telling}
use Rattle.wjs_audit.specs.Right.{AreRight}
use Rattle.wjs_by_content.specs.Plans.{Told}
use Rattle.wjs_by_content.specs.Worlds.{told_in}
use Rattle.wjs_heap.specs.Heap.{KnowsTold}
use Rattle.wjs_logs.specs.Judging.{IsRight}

-- the bytes are a log of these actions with these answers by content: texts stand in place of their numbers, the names of a listing in the order of contents, and of a refused commit it isn't said which slot differed
pub record Tells (bytes : List ℕ) (told : List Told) : Type 0 where
  pub entries : List Entry
  pub texts : Table
  -- they are a log of the entries, with the table's texts under their numbers, each where it is first needed
  pub spells : Spells bytes entries texts
  -- the answers are the full-copy machine's from the fresh state on
  pub right : AreRight entries
  -- the table knows the names and values: an index doesn't stand as a text
  pub knows : KnowsTold texts (Some (told_of entries))
  pub is : each (told_in texts) (told_of entries) ≡ told

-- bytes tell one list
abbrev pub OneTelling : Type 0
OneTelling = (bytes : List ℕ) (a b : List Told) → Tells bytes a → Tells bytes b → a ≡ b

-- an audit of bytes that tell something says yes
abbrev pub TellsRight : Type 0
TellsRight = (bytes : List ℕ) (told : List Told) → Tells bytes told → IsRight bytes

-- what a logged store means, by what the inner one does
abbrev pub logged : {S : Type 0} → (S → Meaning) → Recorded S → Meaning
logged meaning r = telling (meaning r.inner) r.log r.spent
