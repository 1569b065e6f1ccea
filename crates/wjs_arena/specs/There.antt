-- That an object is there is a fact with one proof.
use Rattle.std.specs.Prelude.{Option, None, Some}
use Rattle.std.proofs.Props.{props}
use Rattle.wjs_base.specs.declared.ids.ObjId.{ObjId}
use Rattle.wjs_arena.specs.Entries.{Objects, IsThere}

pub there_prop : (arena : Objects) (id : Option ObjId) → IsProp (IsThere arena id)
there_prop arena None = hlevel props
there_prop arena (Some id) = hlevel props
