-- The least of all objects.
use Rattle.wjs_base.specs.declared.ids.ObjId.{ObjId}

abbrev pub first_object : ObjId
first_object = record { owner = 0; serial = 0 }
