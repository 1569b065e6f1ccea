-- Visits by content, and when what they name is there.
use Rattle.std.specs.Prelude.{List, map as each}
use Rattle.wjs_base.specs.Text.{Table}
use Rattle.wjs_arena.specs.Entries.{Objects}
use Rattle.wjs_by_content.specs.Names.{Slot, slot}
use Rattle.wjs_by_content.specs.Tables.{name_in}
use Rattle.wjs_props.specs.declared.visits.Visit.{Visit}
use Rattle.wjs_heap.specs.Heap.{HasSlot}

abbrev pub visit_in : Table → Visit → Slot
visit_in texts v = slot v.object (name_in texts v.name)

-- the slots that are visited
abbrev pub visits_in : Table → List Visit → List Slot
visits_in texts visits = each (visit_in texts) visits

-- the object of a visit is there, and so is the name
abbrev pub HasVisit : Table → Objects → Visit → Type 0
HasVisit texts arena v = HasSlot texts arena (record { object = v.object; name = v.name })
