-- Scopes of functions' own names, by content.
use Rattle.std.proofs.Common.{◌≡◌, ℕ, ◌+◌, List, [], ◌∷◌, sym, ap, ◌∙◌, subst, IsTrue}
use Rattle.wjs_base.specs.declared.ids.ObjId.{ObjId}
use Rattle.wjs_base.specs.declared.values.Name.{Name}
use Rattle.wjs_base.specs.Spelling.{IsName}
use Rattle.wjs_base.specs.Text.{Table}
use Rattle.wjs_arena.specs.declared.object.Object.{Object}
use Rattle.wjs_arena.specs.Entries.{Objects, has}
use Rattle.wjs_by_content.specs.Tables.{name_in, object_in}
use Rattle.wjs_by_content.specs.Values.{Text, Object as ObjectValue}
use Rattle.wjs_heap.specs.Heap.{HasNamed}
use Rattle.wjs_meaning.specs.Functions.{name_scope}
use Rattle.wjs_meaning.specs.NewObjects.{scope_object}
use Rattle.wjs_model.specs.Apart.{IsNear, NamesNear}
use Rattle.wjs_calls.specs.Making.{scope_of_name}

-- the number after another
abbrev pub number_behind : ObjId → ObjId
number_behind o = record o { serial = o.serial + 1 }

pub scope_is : (t : Table) (x : Object) (outer o f : ObjId) (name : Name) (text : Text) → x ≡ scope_of_name outer name f → name_in t name ≡ text → f ≡ number_behind o → object_in t x ≡ name_scope text outer o
scope_is t x outer o f name text e en ef =
    ap (object_in t) e ∙ (λ i. record (scope_object outer) { fixed = (en i, ObjectValue (ef i)) ∷ [] })

pub scope_named : (texts : Table) (arena : Objects) (x : Object) (outer f : ObjId) (name : Name) → x ≡ scope_of_name outer name f → IsName texts name → IsTrue (has arena f) → HasNamed texts arena x
scope_named texts arena x outer f name e hn hf = subst (λ (y : Object). HasNamed texts arena y) (sym e) (record { primitive = tt; fixed = ((hn, hf), tt); flags = tt })

-- and near
pub scope_near : (apart : List ℕ) (x : Object) (outer f : ObjId) (name : Name) → x ≡ scope_of_name outer name f → IsNear apart outer → IsNear apart f → NamesNear apart x
scope_near apart x outer f name e ho hf = subst (λ (y : Object). NamesNear apart y) (sym e) (record { prototype = tt; scope = ho; primitive = tt; fixed = (hf, tt) })

pub behind : (o : ObjId) (serial : ℕ) → serial ≡ o.serial + 1 → (let f : ObjId = record { owner = o.owner; serial = serial } in f ≡ number_behind o)
behind o serial e = λ i. record { owner = o.owner; serial = e i }
