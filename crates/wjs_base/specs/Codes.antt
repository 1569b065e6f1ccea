-- How objects, worlds and slots are told apart where they are keys.
use Rattle.std.specs.Coded.{Coded}
use Rattle.wjs_base.specs.contracts.values.Slot as slot
use Rattle.wjs_base.specs.contracts.ids.ObjId as object
use Rattle.wjs_base.specs.contracts.ids.WorldId as world
use Rattle.wjs_base.specs.declared.values.Slot.{Slot}
use Rattle.wjs_base.specs.declared.ids.ObjId.{ObjId}
use Rattle.wjs_base.specs.declared.ids.WorldId.{WorldId}

abbrev pub coded_object : Coded ObjId
coded_object = (object.the_row).coded

abbrev pub coded_world : Coded WorldId
coded_world = (world.the_row).coded

abbrev pub coded_slot : Coded Slot
coded_slot = (slot.the_row).coded
