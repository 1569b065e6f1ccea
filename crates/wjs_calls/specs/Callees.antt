-- What a call does by the kind of its callee.
use Rattle.std.specs.Prelude.{false, List}
use Rattle.wjs_base.specs.declared.ids.ObjId.{ObjId}
use Rattle.wjs_arena.specs.declared.native.Native.{Native}
use Rattle.wjs_by_content.specs.Values.{Value, Object}
use Rattle.wjs_meaning.specs.Deeds.{Env, Act, Ret, Eval, AtBody, AtNative}
use Rattle.wjs_meaning.specs.NewObjects.{to_object}
use Rattle.wjs_meaning.specs.Calls.{this_or_global}

-- of a script's function `this` becomes an object
abbrev pub script_call : ObjId → Value → List Value → Env → Act
script_call f this args env = to_object (this_or_global this env) env (λ o. Eval (AtBody f args) (record env { this = Object o }) Ret)

-- of a native function a primitive stays itself
abbrev pub native_call : Native → Value → List Value → Env → Act
native_call k this args env = Eval (AtNative k false args) (record env { this = this_or_global this env }) Ret
