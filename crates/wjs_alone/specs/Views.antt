-- Views by content.
use Rattle.std.specs.Prelude.{◌≡◌, true, Some}
use Rattle.std.specs.FinMap as map
use Rattle.wjs_base.specs.declared.values.Slot.{Slot}
use Rattle.wjs_base.specs.declared.values.Value.{Value}
use Rattle.wjs_base.specs.Text.{Table}
use Rattle.wjs_store.specs.Meaning.{View}
use Rattle.wjs_by_content.specs.Names.{slot_cmp}
use Rattle.wjs_by_content.specs.Rename.{renamed}
use Rattle.wjs_by_content.specs.Tables.{slot_in, value_in, knows_slot, knows_value}
use Rattle.wjs_alone.specs.Alone.{Copy}

-- what a view holds, by a table
abbrev pub held_in : Table → View → Copy
held_in t v = renamed {S = slot_cmp} (slot_in t) (value_in t) v

-- the table knows its slots and values
abbrev pub KnowsView : Table → View → Type 0
KnowsView t v = (s : Slot) (x : Value) → map.get v s ≡ Some x → (knows_slot t s ≡ true) × (knows_value t x ≡ true)
