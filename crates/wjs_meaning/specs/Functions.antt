-- Functions that scripts make, their bodies, and the bodies of programs (ECMA-262, 3rd edition, sections 10.1.3, 10.1.8, 10.2, 13 and 14).
use Rattle.std.specs.Prelude.{ℕ, ◌+◌, not, List, [], ◌∷◌, ◌++◌, length, map as each, filter, filter_map, Option, None, Some}
use Rattle.wjs_base.specs.declared.ids.ObjId.{ObjId}
use Rattle.wjs_arena.specs.declared.class.Class.TheVariants as class
use Rattle.wjs_arena.specs.declared.object.Code.{Code}
use Rattle.wjs_arena.specs.declared.object.Code.TheVariants as code
use Rattle.wjs_arena.specs.declared.object.Flags.{Flags}
use Rattle.wjs_by_content.specs.Values.{Text, Value, Undefined, Object, whole}
use Rattle.wjs_by_content.specs.Names.{Slot, slot, length_name, prototype_name, constructor_name, arguments_name, callee_name, index_name}
use Rattle.wjs_by_content.specs.Objects.{Internals, object_of, object_at, next_number, hidden_flags, kept_flags}
use Rattle.wjs_meaning.specs.declared.trouble.Trouble.TheVariants.{NotAFunction}
use Rattle.wjs_meaning.specs.Builtins.{object_prototype, function_prototype}
use Rattle.wjs_meaning.specs.Trees.{name_of, formals_of, elements_of, has_text}
use Rattle.wjs_meaning.specs.Declarations.{Declared, declared_by}
use Rattle.wjs_meaning.specs.Deeds.{Env, Act, Ret, Eval, Do, Read, Write, Look, Create, AtStmt, Completion, Normal, Returns, give, write_all, then_normal, tree_here, node_here}
use Rattle.wjs_meaning.specs.Errors.{throw}
use Rattle.wjs_meaning.specs.NewObjects.{plain_object, scope_object, elements_from}

-- ---- making functions (13.2)

-- a Function object with its code, scope and fixed `length`; its `prototype` is kept
abbrev pub function_object : ℕ → ℕ → ℕ → ObjId → Internals
function_object tree body formals scope = record (object_of class.Function (Some function_prototype)) {
  scope = Some scope;
  code = code.Script tree (record { 0 = body });
  fixed = (length_name, whole formals) ∷ [];
  flags = (prototype_name, kept_flags) ∷ [];
}

-- the object that its `prototype` is at first
abbrev pub prototype_object : Internals
prototype_object = record plain_object { flags = (constructor_name, hidden_flags) ∷ [] }

-- the Function object, its `prototype` object, and the two writes that join them
abbrev pub make_function_in : ℕ → ObjId → Env → (ObjId → Act) → Act
make_function_in body scope env go =
    Do (Create env.owner (function_object env.tree body (length (formals_of (node_here env body))) scope)) (λ f.
    Do (Create env.owner prototype_object) (λ p.
    write_all env.world ((slot p constructor_name, Object f) ∷ (slot f prototype_name, Object p) ∷ []) (go f)))

-- the scope of a named function expression: the name is fixed, and is the function that is made next
abbrev pub name_scope : Text → ObjId → ObjId → Internals
name_scope name scope o = record (scope_object scope) { fixed = (name, Object (record o { serial = o.serial + 1 })) ∷ [] }

-- a function expression, which may have a name of its own (13)
abbrev pub make_function : ℕ → Option Text → Env → (ObjId → Act) → Act
make_function body None env go = make_function_in body env.scope env go
make_function body (Some name) env go = Do Look (λ arena.
    Do (Create env.owner (name_scope name env.scope (next_number arena env.owner))) (λ s.
    make_function_in body s env go))

-- the functions that a body declares, made in order and written to an object (10.1.3)
abbrev pub declare_functions : List ℕ → ObjId → Env → Act → Act
declare_functions [] holder env a = a
declare_functions (k ∷ ks) holder env a = make_function_in k env.scope env (λ f.
    elim (name_of (node_here env k)) [
      | None ↦ declare_functions ks holder env a
      | Some name ↦ Do (Write env.world (slot holder name) (Some (Object f))) (λ done. declare_functions ks holder env a)
    ])

-- ---- bodies of functions (10.2.3)

-- the indices of an Arguments object are hidden, as its `callee` and `length` are
abbrev pub hidden_indices : ℕ → List Value → List (Text × Flags)
hidden_indices i [] = []
hidden_indices i (v ∷ vs) = (index_name i, hidden_flags) ∷ hidden_indices (i + 1) vs

-- an Arguments object (10.1.8)
abbrev pub arguments_object : List Value → Internals
arguments_object args = record (object_of class.Arguments (Some object_prototype)) { flags = (callee_name, hidden_flags) ∷ (length_name, hidden_flags) ∷ hidden_indices 0 args }

-- what is written to it
abbrev pub arguments_slots : ObjId → ObjId → List Value → List (Slot × Value)
arguments_slots a f args = (slot a callee_name, Object f) ∷ (slot a length_name, whole (length args)) ∷ elements_from a 0 args

-- the formals with their arguments; a missing one is undefined
abbrev pub formal_slots : ObjId → List Text → List Value → List (Slot × Value)
formal_slots s [] args = []
formal_slots s (name ∷ names) [] = (slot s name, Undefined) ∷ formal_slots s names []
formal_slots s (name ∷ names) (v ∷ vs) = (slot s name, v) ∷ formal_slots s names vs

-- the names of the functions that a body declares
abbrev pub function_names : Env → List ℕ → List Text
function_names env ks = filter_map (λ k. name_of (node_here env k)) ks

-- the declared variables that are none of these names, as undefined
abbrev pub variable_slots : ObjId → List Text → List Text → List (Slot × Value)
variable_slots s others names = each (λ name. (slot s name, Undefined)) (filter (λ name. not (has_text others name)) names)

-- after an element of a function's body: a return gives its value
abbrev pub body_next : Act → Completion → Act
body_next rest Normal = rest
body_next rest (Returns v) = give v
body_next rest c = Ret c

-- the elements in order
abbrev pub body_from : List ℕ → Env → Act
body_from [] env = give Undefined
body_from (s ∷ ss) env = Eval (AtStmt s) env (body_next (body_from ss env))

-- the body runs, once its scope is filled
abbrev pub body_run : ℕ → Env → Act
body_run body env = body_from (elements_of (node_here env body)) env

-- `arguments`, the formals, the FunctionDecls and the other variables are written to the new scope, in this order
abbrev pub body_declare : ℕ → Declared → ObjId → ObjId → List Value → Env → Act
body_declare body declared f a args env =
    write_all env.world (arguments_slots a f args ++ (slot env.scope arguments_name, Object a) ∷ formal_slots env.scope declared.formals args) (
    declare_functions declared.functions env.scope env (
    write_all env.world (variable_slots env.scope (arguments_name ∷ declared.formals ++ function_names env declared.functions) declared.vars) (
    body_run body env)))

-- a Scope object inside the function's scope, and an Arguments object
abbrev pub body_scopes : ℕ → ObjId → ObjId → List Value → Env → Act
body_scopes body scope f args env =
    Do (Create env.owner (scope_object scope)) (λ s.
    Do (Create env.owner (arguments_object args)) (λ a.
    body_declare body (declared_by (tree_here env) body) f a args (record env { scope = s })))

-- by the code and the scope of the function; it goes on in the function's tree
abbrev pub body_code : Code → Option ObjId → ObjId → List Value → Env → Act
body_code (code.Script tree body) (Some scope) f args env = body_scopes body.0 scope f args (record env { tree = tree })
body_code code scope f args env = throw NotAFunction env

-- the body of a function with its arguments
abbrev pub body_of : ObjId → List Value → Env → Act
body_of f args env = Do Look (λ arena. body_code (object_at arena f).code (object_at arena f).scope f args env)

-- ---- bodies of programs (10.2.1, 14)

-- each declared variable's slot is read, and where it is absent undefined is written
abbrev pub declare_variables : List Text → Env → Act → Act
declare_variables [] env a = a
declare_variables (name ∷ names) env a = Do (Read env.world (slot env.global name)) (λ found. elim found [
  | Some v ↦ declare_variables names env a
  | None ↦ Do (Write env.world (slot env.global name) (Some Undefined)) (λ done. declare_variables names env a)
])

-- the elements in order
abbrev pub program_from : List ℕ → Env → Act
program_from [] env = Ret Normal
program_from (s ∷ ss) env = Eval (AtStmt s) env (then_normal (program_from ss env))

-- what the program declares on the global object, and then its elements
abbrev pub program_declare : ℕ → Declared → Env → Act
program_declare body declared env =
    declare_functions declared.functions env.global env (
    declare_variables declared.vars env (
    program_from (elements_of (node_here env body)) env))

-- the program of the tree at hand
abbrev pub program_of : Env → Act
program_of env = program_declare (tree_here env).body (declared_by (tree_here env) (tree_here env).body) env
