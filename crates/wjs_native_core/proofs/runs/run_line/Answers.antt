use Rattle.std.proofs.Common.{sym, subst}
use Rattle.std.specs.Prelude.{map}
use Rattle.wjs_arena.specs.declared.native.Native.{Native}
use Rattle.wjs_by_content.specs.Tables.{value_in}
use Rattle.wjs_meaning.specs.Natives.{native_line}
use Rattle.wjs_frames.specs.Handling.{GoesOn}
use Rattle.wjs_native_core.proofs.runs.run_line.Goals as goal

pub returns-in-World : goal.returns-in-World
returns-in-World g c = λ by_new.
    subst (λ (k : Native). GoesOn g.S.WorldStore.meaning c.args.frame c.args.config.now c.run_world.new.config c.run_world.result
    (λ t env. native_line k by_new (value_in t c.args.this) (map (value_in t) c.args.args.now) env)) (sym c.in-World.is)
    (c.run_world.ensures by_new c.args.args.now)

pub returns-in-Array : goal.returns-in-Array
returns-in-Array g c = λ by_new.
    subst (λ (k : Native). GoesOn g.S.WorldStore.meaning c.args.frame c.args.config.now c.run_array.new.config c.run_array.result
    (λ t env. native_line k by_new (value_in t c.args.this) (map (value_in t) c.args.args.now) env)) (sym c.in-Array.is)
    (c.run_array.ensures by_new c.args.this)

pub returns-in-Object : goal.returns-in-Object
returns-in-Object g c = λ by_new.
    subst (λ (k : Native). GoesOn g.S.WorldStore.meaning c.args.frame c.args.config.now c.run_object.new.config c.run_object.result
    (λ t env. native_line k by_new (value_in t c.args.this) (map (value_in t) c.args.args.now) env)) (sym c.in-Object.is)
    (c.run_object.ensures by_new)

pub returns-in-Function : goal.returns-in-Function
returns-in-Function g c = λ by_new.
    subst (λ (k : Native). GoesOn g.S.WorldStore.meaning c.args.frame c.args.config.now c.run_function.new.config c.run_function.result
    (λ t env. native_line k by_new (value_in t c.args.this) (map (value_in t) c.args.args.now) env)) (sym c.in-Function.is)
    (c.run_function.ensures by_new)

pub returns-in-Error : goal.returns-in-Error
returns-in-Error g c = λ by_new.
    subst (λ (k : Native). GoesOn g.S.WorldStore.meaning c.args.frame c.args.config.now c.run_error.new.config c.run_error.result
    (λ t env. native_line k by_new (value_in t c.args.this) (map (value_in t) c.args.args.now) env)) (sym c.in-Error.is)
    (c.run_error.ensures by_new)
