-- Calls of functions (ECMA-262, 3rd edition, sections 10.2.3 and 13.2.1).
use Rattle.std.specs.Prelude.{if◌then◌else◌, false, List, Option, None, Some}
use Rattle.wjs_base.specs.declared.ids.ObjId.{ObjId}
use Rattle.wjs_arena.specs.declared.object.Code.{Code}
use Rattle.wjs_arena.specs.declared.object.Code.TheVariants as code
use Rattle.wjs_by_content.specs.Values.{Value, Object}
use Rattle.wjs_by_content.specs.Objects.{object_at}
use Rattle.wjs_meaning.specs.declared.trouble.Trouble.TheVariants.{NotAFunction}
use Rattle.wjs_by_content.specs.Conversions.{is_nullish}
use Rattle.wjs_meaning.specs.Deeds.{Env, Act, Ret, Eval, Do, Look, AtBody, AtNative}
use Rattle.wjs_meaning.specs.Errors.{throw}
use Rattle.wjs_meaning.specs.NewObjects.{to_object}

-- as `this`, undefined and null become the global object (10.2.3)
abbrev pub this_or_global : Value → Env → Value
this_or_global v env = if is_nullish v then Object env.global else v

-- by the code: of a script's function `this` becomes an object; of a native one a primitive stays itself
abbrev pub call_code : Code → ObjId → Value → List Value → Env → Act
call_code code.None f this args env = throw NotAFunction env
call_code (code.Script tree body) f this args env = to_object (this_or_global this env) env (λ o. Eval (AtBody f args) (record env { this = Object o }) Ret)
call_code (code.Native k) f this args env = Eval (AtNative k false args) (record env { this = this_or_global this env }) Ret

-- [[Call]] of an object
abbrev pub call : ObjId → Value → List Value → Env → Act
call f this args env = Do Look (λ arena. call_code (object_at arena f).code f this args env)

-- a call of what must be a function (11.2.3)
abbrev pub call_found : Option ObjId → Value → List Value → Env → Act
call_found None this vs env = throw NotAFunction env
call_found (Some f) this vs env = call f this vs env
