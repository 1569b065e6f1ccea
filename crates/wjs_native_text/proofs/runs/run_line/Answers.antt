use Rattle.std.proofs.Common.{sym, subst}
use Rattle.std.specs.Prelude.{map}
use Rattle.wjs_arena.specs.declared.native.Native.{Native}
use Rattle.wjs_by_content.specs.Tables.{value_in}
use Rattle.wjs_meaning.specs.Natives.{native_line}
use Rattle.wjs_frames.specs.Handling.{GoesOn}
use Rattle.wjs_native_text.proofs.runs.run_line.Goals as goal

pub returns-in-Global : goal.returns-in-Global
returns-in-Global g c =
    subst (λ (k : Native). GoesOn g.S.WorldStore.meaning c.args.frame c.args.config.now c.run_global.new.config c.run_global.result
    (λ t env. native_line k c.args.by_new (value_in t c.args.this) (map (value_in t) c.args.args.now) env)) (sym c.in-Global.is)
    (c.run_global.ensures c.args.by_new)

pub returns-in-Math : goal.returns-in-Math
returns-in-Math g c =
    subst (λ (k : Native). GoesOn g.S.WorldStore.meaning c.args.frame c.args.config.now c.run_math.new.config c.run_math.result
    (λ t env. native_line k c.args.by_new (value_in t c.args.this) (map (value_in t) c.args.args.now) env)) (sym c.in-Math.is)
    (c.run_math.ensures c.args.by_new c.args.this)
