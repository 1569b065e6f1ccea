-- New objects: plain ones, arrays, scopes, wrappers.
use Rattle.std.specs.Prelude.{ℕ, ◌+◌, true, List, [], ◌∷◌, ◌++◌, length, None, Some}
use Rattle.wjs_base.specs.declared.ids.ObjId.{ObjId}
use Rattle.wjs_arena.specs.declared.class.Class.TheVariants as class
use Rattle.wjs_by_content.specs.Values.{Value, Undefined, Null, Object, whole}
use Rattle.wjs_by_content.specs.Names.{Slot, slot, length_name, index_name}
use Rattle.wjs_by_content.specs.Objects.{Internals, object_of, hidden_kept_flags}
use Rattle.wjs_meaning.specs.declared.trouble.Trouble.TheVariants.{NotAnObject}
use Rattle.wjs_meaning.specs.Builtins.{object_prototype, array_prototype, wrapper_of}
use Rattle.wjs_meaning.specs.Deeds.{Env, Act, Do, Create, write_all}
use Rattle.wjs_meaning.specs.Errors.{throw}

abbrev pub plain_object : Internals
plain_object = object_of class.Plain (Some object_prototype)

-- an Array, whose `length` is hidden and kept (ECMA-262, 3rd edition, section 15.4.5.2)
abbrev pub array_object : Internals
array_object = record (object_of class.Array (Some array_prototype)) { flags = (length_name, hidden_kept_flags) ∷ [] }

-- the variables of a call or of a `catch`, which nothing deletes (10.1.6)
abbrev pub scope_object : ObjId → Internals
scope_object scope = record (object_of class.Scope None) { scope = Some scope; all_kept = true }

-- values at indices from i on
abbrev pub elements_from : ObjId → ℕ → List Value → List (Slot × Value)
elements_from o i [] = []
elements_from o i (v ∷ vs) = (slot o (index_name i), v) ∷ elements_from o (i + 1) vs

-- an Array with these elements: they are written ascending, and then `length`
abbrev pub make_array : List Value → Env → (ObjId → Act) → Act
make_array vs env go = Do (Create env.owner array_object) (λ o. write_all env.world (elements_from o 0 vs ++ (slot o length_name, whole (length vs)) ∷ []) (go o))

-- ToObject: a primitive gets a wrapper (9.9)
abbrev pub to_object : Value → Env → (ObjId → Act) → Act
to_object (Object o) env go = go o
to_object Undefined env go = throw NotAnObject env
to_object Null env go = throw NotAnObject env
to_object v env go = Do (Create env.owner (wrapper_of v)) go
