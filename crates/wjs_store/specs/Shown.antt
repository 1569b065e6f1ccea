-- What the types of the calls stand for in the machine.
use Rattle.std.specs.Prelude.{◌≡◌, List, [], ◌∷◌, map as each, Option, None, Some}
use Rattle.std.specs.Option.{option_map}
use Rattle.std.specs.FinMap as map
use Rattle.wjs_base.specs.declared.ids.ObjId.{ObjId}
use Rattle.wjs_base.specs.declared.ids.WorldId.{WorldId}
use Rattle.wjs_base.specs.declared.values.Name.{Name}
use Rattle.wjs_base.specs.declared.values.Slot.{Slot}
use Rattle.wjs_base.specs.declared.values.Value.{Value}
use Rattle.wjs_base.specs.declared.values.Content.{Content}
use Rattle.wjs_base.specs.declared.values.Content.TheVariants.{Absent, Present}
use Rattle.wjs_store.specs.declared.store.Verdict.{Verdict}
use Rattle.wjs_store.specs.declared.store.Verdict.TheVariants.{Moved, Disagrees, NoParent}
use Rattle.wjs_store.specs.declared.store.Counts.{Counts as Numbers}
use Rattle.wjs_store.specs.Naming.{plain}
use Rattle.wjs_store.specs.State as machine
use Rattle.wjs_store.specs.State.{World, State, find_world, moved, differs, no_parent}

-- what a slot holds: none where it is absent
abbrev pub content_of : Content → Option Value
content_of Absent = None
content_of (Present v) = Some v

abbrev pub shown_content : Option Value → Content
shown_content None = Absent
shown_content (Some v) = Present v

-- the slots of an object with these names
abbrev pub slots_of : ObjId → List Name → List Slot
slots_of o = each (λ name. record { object = o; name = name })

abbrev pub verdict_of : Verdict → machine.Verdict Slot
verdict_of Moved = moved
verdict_of (Disagrees s) = differs s
verdict_of NoParent = no_parent

abbrev pub shown_verdict : machine.Verdict Slot → Verdict
shown_verdict moved = Moved
shown_verdict (differs s) = Disagrees s
shown_verdict no_parent = NoParent

-- the number of the oldest world
abbrev pub first_of : State plain → Option WorldId
first_of [] = None
first_of (x ∷ []) = Some x.id
first_of (x ∷ y ∷ older) = first_of (y ∷ older)

-- the sizes of a world's marks
abbrev pub counts_of : World plain → Numbers
counts_of x = record { reads = map.len x.first; writes = map.len x.written; closed = map.len x.closed }

abbrev pub Counts : State plain → WorldId → Numbers → Type 0
Counts F w c = option_map counts_of (find_world F w) ≡ Some c
