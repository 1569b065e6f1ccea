-- The deeds that make a function, in parts.
use Rattle.std.specs.Prelude.{ℕ, true, [], ◌∷◌, length, Option, None, Some}
use Rattle.wjs_base.specs.declared.ids.ObjId.{ObjId}
use Rattle.wjs_base.specs.declared.values.Name.{Name}
use Rattle.wjs_base.specs.declared.values.Value.TheVariants as values
use Rattle.wjs_arena.specs.declared.class.Class.TheVariants as class
use Rattle.wjs_arena.specs.declared.object.Code.TheVariants as code
use Rattle.wjs_arena.specs.declared.object.Object.{Object as NumberedObject}
use Rattle.wjs_by_content.specs.Values.{Text, Object}
use Rattle.wjs_by_content.specs.Names.{slot, prototype_name, constructor_name}
use Rattle.wjs_by_content.specs.Objects.{next_number}
use Rattle.wjs_meaning.specs.Trees.{name_of, formals_of}
use Rattle.wjs_meaning.specs.Deeds.{Env, Act, Do, Create, Look, Write, write_all, node_here}
use Rattle.wjs_meaning.specs.Functions.{prototype_object, function_object, name_scope, make_function_in}

-- a function's `prototype` object, and the two writes that join them
abbrev pub prototype_given : ObjId → Env → Act → Act
prototype_given f env a = Do (Create env.owner prototype_object) (λ p. write_all env.world ((slot p constructor_name, Object f) ∷ (slot f prototype_name, Object p) ∷ []) a)

-- a function is written to an object under its name
abbrev pub declared_as : Option Text → ObjId → ObjId → Env → Act → Act
declared_as None holder f env a = a
declared_as (Some name) holder f env a = Do (Write env.world (slot holder name) (Some (Object f))) (λ done. a)

-- one of the functions that a body declares
abbrev pub declare_one : ℕ → ObjId → Env → Act → Act
declare_one k holder env a = make_function_in k env.scope env (λ f. declared_as (name_of (node_here env k)) holder f env a)

-- the scope of a function's own name, which is the function of this number
abbrev pub scope_of_name : ObjId → Name → ObjId → NumberedObject
scope_of_name outer name f = record { class = class.Scope; prototype = None; scope = Some outer; code = code.None; primitive = values.Undefined; world = None; fixed = (name, values.Object f) ∷ []; flags = []; all_kept = true }

-- a function with a name of its own is made inside the scope of this name
abbrev pub named_made : ℕ → Text → Env → (ObjId → Act) → Act
named_made body name env go = Do Look (λ arena.
    Do (Create env.owner (name_scope name env.scope (next_number arena env.owner))) (λ s.
    Do (Create env.owner (function_object env.tree body (length (formals_of (node_here env body))) s)) go))
