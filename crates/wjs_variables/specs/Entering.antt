-- A function's body is entered: its scope is made and filled, whatever comes next in it.
use Rattle.std.specs.Prelude.{ℕ, List, ◌++◌, ◌∷◌}
use Rattle.wjs_base.specs.declared.ids.ObjId.{ObjId}
use Rattle.wjs_by_content.specs.Names.{slot, arguments_name}
use Rattle.wjs_by_content.specs.Values.{Value, Object}
use Rattle.wjs_meaning.specs.Declarations.{Declared, declared_by}
use Rattle.wjs_meaning.specs.Deeds.{Env, Act, Do, Create, write_all, tree_here}
use Rattle.wjs_meaning.specs.Functions.{arguments_object, arguments_slots, formal_slots, declare_functions, function_names, variable_slots}
use Rattle.wjs_meaning.specs.NewObjects.{scope_object}

-- as the meaning has it, with other deeds in the place of the body's
abbrev pub declared_then : Declared → ObjId → ObjId → List Value → Env → Act → Act
declared_then declared f a args env act =
    write_all env.world (arguments_slots a f args ++ (slot env.scope arguments_name, Object a) ∷ formal_slots env.scope declared.formals args) (
    declare_functions declared.functions env.scope env (
    write_all env.world (variable_slots env.scope (arguments_name ∷ declared.formals ++ function_names env declared.functions) declared.vars) act))

abbrev pub entered_then : ℕ → ObjId → ObjId → List Value → Env → (Env → Act) → Act
entered_then body scope f args env go =
    Do (Create env.owner (scope_object scope)) (λ s.
    Do (Create env.owner (arguments_object args)) (λ a.
    declared_then (declared_by (tree_here env) body) f a args (record env { scope = s }) (go (record env { scope = s }))))
