use Rattle.std.proofs.Common.{false, sym, subst}
use Rattle.std.specs.Prelude.{map}
use Rattle.wjs_base.specs.declared.values.Value.TheVariants as values
use Rattle.wjs_arena.specs.declared.native.Native.{Native}
use Rattle.wjs_arena.specs.declared.native.Native.TheVariants as native
use Rattle.wjs_by_content.specs.Tables.{value_in}
use Rattle.wjs_meaning.specs.Natives.{native_line}
use Rattle.wjs_native_text.specs.AtOnce.{LineGives}
use Rattle.wjs_native_text.proofs.Telling.{told_now}
use Rattle.wjs_native_text.proofs.at_once.line_at_once.Goals as goal

pub returns-in-Some-clause-does : goal.returns-in-Some-clause-does
returns-in-Some-clause-does g c =
    let m = g.S.WorldStore.meaning in
    let old = c.args.config.now in
    let this = c.args.this in
    let args = c.args.args.now in
    let v = values.Bool c.in-Some.truth in
    subst (λ (k : Native). LineGives m k this args v old old) (sym c.in-Global.is)
    (told_now m (λ t env. native_line (native.Global c.in-Global.native) false (value_in t this) (map (value_in t) args) env) v old (λ t more env. c.in-Some.ensures t this env))

pub returns-in-Some-number_given-clause-does : goal.returns-in-Some-number_given-clause-does
returns-in-Some-number_given-clause-does g c =
    let m = g.S.WorldStore.meaning in
    let old = c.args.config.now in
    let this = c.args.this in
    let args = c.args.args.now in
    let v = values.Number c.in-Some-number_given.number in
    subst (λ (k : Native). LineGives m k this args v old old) (sym c.in-Math.is)
    (told_now m (λ t env. native_line (native.Math c.in-Math.native) false (value_in t this) (map (value_in t) args) env) v old (λ t more env. c.in-Some-number_given.ensures t this env))
