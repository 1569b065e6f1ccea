-- The scope of a call is filled, before the body runs (ECMA-262, 3rd edition, section 10.2.3).
use Rattle.std.specs.Prelude.{ℕ, List, ◌∷◌, ◌++◌, map as each, None, Some}
use Rattle.wjs_base.specs.declared.ids.ObjId.{ObjId}
use Rattle.wjs_by_content.specs.Values.{Text, Value, Undefined, Object}
use Rattle.wjs_by_content.specs.Names.{Slot, slot, arguments_name}
use Rattle.wjs_meaning.specs.Deeds.{Env, Act, Do, Create, Read, Write, write_all}
use Rattle.wjs_meaning.specs.Functions.{arguments_object, arguments_slots, formal_slots, declare_functions, declare_variables}
use Rattle.wjs_meaning.specs.Declarations.{Declared}

-- the variables of a scope, as undefined
abbrev pub undefined_slots : ObjId → List Text → List (Slot × Value)
undefined_slots s names = each (λ name. (slot s name, Undefined)) names

-- the variables of a scope: `arguments`, the formals, and others as undefined
abbrev pub variables_of : ObjId → ObjId → List Text → List Value → List Text → List (Slot × Value)
variables_of s a formals args others = (slot s arguments_name, Object a) ∷ formal_slots s formals args ++ undefined_slots s others

-- what is written to a scope: `arguments`, the formals, the functions, and the other variables
abbrev pub scope_filled : List Text → List ℕ → List Text → ObjId → ObjId → List Value → Env → Act → Act
scope_filled formals functions others f a args env act =
    write_all env.world (arguments_slots a f args ++ (slot env.scope arguments_name, Object a) ∷ formal_slots env.scope formals args) (
    declare_functions functions env.scope env (
    write_all env.world (undefined_slots env.scope others) act))

-- the same but for what is written to the Arguments object
abbrev pub variables_filled : List Text → List ℕ → List Text → ObjId → List Value → Env → Act → Act
variables_filled formals functions others a args env act =
    write_all env.world ((slot env.scope arguments_name, Object a) ∷ formal_slots env.scope formals args) (
    declare_functions functions env.scope env (
    write_all env.world (undefined_slots env.scope others) act))

-- an Arguments object is made, and the scope is filled
abbrev pub arguments_written : List Text → List ℕ → List Text → ObjId → List Value → Env → Act → Act
arguments_written formals functions others f args env act = Do (Create env.owner (arguments_object args)) (λ a. scope_filled formals functions others f a args env act)

-- a variable's slot of the global object is read, and where it is absent undefined is written
abbrev pub variable_declared : Text → Env → Act → Act
variable_declared name env act = Do (Read env.world (slot env.global name)) (λ found. elim found [
  | Some v ↦ act
  | None ↦ Do (Write env.world (slot env.global name) (Some Undefined)) (λ done. act)
])

-- what a program declares, on the global object
abbrev pub program_filled : Declared → Env → Act → Act
program_filled declared env act = declare_functions declared.functions env.global env (declare_variables declared.vars env act)
