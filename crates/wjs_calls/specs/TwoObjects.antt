-- Two objects that are made at once, of which the first may name the second.
use Rattle.std.specs.Prelude.{◌≡◌, ℕ, ◌+◌, List, IsTrue}
use Rattle.wjs_base.specs.declared.ids.ObjId.{ObjId}
use Rattle.wjs_base.specs.Text.{Table}
use Rattle.wjs_arena.specs.declared.object.Object.{Object}
use Rattle.wjs_arena.specs.Entries.{Objects, Keeps, has, next_number, scope_of}
use Rattle.wjs_heap.specs.Heap.{HasNamed}
use Rattle.wjs_model.specs.declared.loaded.LoadedProgram.{LoadedProgram as Program}
use Rattle.wjs_model.specs.Standing.{FunctionStands}

-- the number of the second
abbrev pub second_number : Objects → ℕ → ObjId
second_number arena owner = record (next_number arena owner) { serial = (next_number arena owner).serial + 1 }

-- what the object names is there once the second is
abbrev pub NamesSecond : Table → Objects → ℕ → Object → Type 0
NamesSecond texts old owner x = (new : Objects) → ((o : ObjId) → IsTrue (has old o) → IsTrue (has new o)) → IsTrue (has new (second_number old owner)) → HasNamed texts new x

-- the second stands once the first leads outwards
abbrev pub StandsSecond : List Program → Objects → ℕ → Object → Object → Type 0
StandsSecond units old owner first second = (new : Objects) → Keeps old new → scope_of new (next_number old owner) ≡ first.scope → FunctionStands units new second.code second.scope
