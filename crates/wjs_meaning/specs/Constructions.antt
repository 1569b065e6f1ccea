-- `new` (ECMA-262, 3rd edition, sections 11.2.2 and 13.2.2).
use Rattle.std.specs.Prelude.{Bool, true, false, List, Option, None, Some, is_some}
use Rattle.wjs_base.specs.declared.ids.ObjId.{ObjId}
use Rattle.wjs_arena.specs.declared.class.Class.TheVariants as class
use Rattle.wjs_arena.specs.declared.object.Code.{Code}
use Rattle.wjs_arena.specs.declared.object.Code.TheVariants as code
use Rattle.wjs_arena.specs.declared.native.Native.{Native}
use Rattle.wjs_by_content.specs.Values.{Value, Undefined, Object}
use Rattle.wjs_by_content.specs.Names.{prototype_name}
use Rattle.wjs_by_content.specs.Objects.{Arena, object_of, object_at, function_of}
use Rattle.wjs_meaning.specs.declared.trouble.Trouble.TheVariants.{NotAConstructor}
use Rattle.wjs_meaning.specs.Builtins.{object_prototype}
use Rattle.wjs_meaning.specs.Deeds.{Env, Act, Ret, Eval, Sub, Do, Look, Create, AtNative, give, then_value}
use Rattle.wjs_meaning.specs.Properties.{get_value}
use Rattle.wjs_meaning.specs.Errors.{throw}
use Rattle.wjs_meaning.specs.Calls.{call}
use Rattle.wjs_meaning.specs.Table.{row_of}

-- `new` takes the natives that have a prototype object
abbrev pub is_constructor : Native → Bool
is_constructor k = is_some (row_of k).prototype

-- a result that is an object replaces the new one
abbrev pub new_result : ObjId → Value → Act
new_result o (Object r) = give (Object r)
new_result o v = give (Object o)

-- a new object on a prototype, and the call
abbrev pub new_on : ObjId → ObjId → List Value → Env → Act
new_on prototype f vs env = Do (Create env.owner (object_of class.Plain (Some prototype))) (λ o. Sub (call f (Object o) vs env) (then_value (new_result o)))

-- after [[Get]] of `prototype`
abbrev pub new_prototype : ObjId → List Value → Env → Value → Act
new_prototype f vs env (Object prototype) = new_on prototype f vs env
new_prototype f vs env v = new_on object_prototype f vs env

-- by the code of the callee
abbrev pub new_code : Code → ObjId → List Value → Env → Act
new_code code.None f vs env = throw NotAConstructor env
new_code (code.Script tree body) f vs env = get_value f prototype_name env (new_prototype f vs env)
new_code (code.Native k) f vs env = elim (is_constructor k) [ true ↦ Eval (AtNative k true vs) (record env { this = Undefined }) Ret | false ↦ throw NotAConstructor env ]

-- what must be a function
abbrev pub new_found : Option ObjId → Arena → List Value → Env → Act
new_found None arena vs env = throw NotAConstructor env
new_found (Some f) arena vs env = new_code (object_at arena f).code f vs env

-- [[Construct]] of a value, after the arguments
abbrev pub construct : Value → Env → List Value → Act
construct f env vs = Do Look (λ arena. new_found (function_of arena f) arena vs env)
