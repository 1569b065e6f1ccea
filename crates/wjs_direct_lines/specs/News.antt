-- What `new` makes its object on (ECMA-262, 3rd edition, section 13.2.2).
use Rattle.wjs_base.specs.declared.ids.ObjId.{ObjId}
use Rattle.wjs_by_content.specs.Values.{Value, Object}
use Rattle.wjs_meaning.specs.Builtins.{object_prototype}

-- by what is found under `prototype`
abbrev pub prototype_in : Value → ObjId
prototype_in (Object o) = o
prototype_in v = object_prototype
