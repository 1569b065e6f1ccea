use Rattle.std.proofs.Common.{false, [], ◌∷◌, ap, ◌∙◌}
use Rattle.std.specs.Prelude.{map}
use Rattle.wjs_arena.specs.declared.native.Native.TheVariants as native
use Rattle.wjs_arena.specs.declared.native.StringNative.TheVariants as string
use Rattle.wjs_by_content.specs.Tables.{value_in}
use Rattle.wjs_by_content.specs.Values.{String}
use Rattle.wjs_meaning.specs.Natives.{native_line}
use Rattle.wjs_meaning.specs.NativesOfTexts as line
use Rattle.wjs_heap_steps.proofs.Composing.{if_ok}
use Rattle.wjs_native_text.proofs.Telling.{told_by}
use Rattle.wjs_native_text.proofs.at_once.char_text.Goals as goal

pub returns-in-None-clause-does : goal.returns-in-None-clause-does
returns-in-None-clause-does g c =
    if_ok _ _ c.text_value.result
    (λ v does. told_by g.S.WorldStore.meaning (λ t env. native_line (native.String string.CharAt) false (value_in t c.args.this) (map (value_in t) c.args.args.now) env) (λ t. String []) v c.args.config.now c.text_value.new.config
    (λ t more env. ap line.char_at (c.unit_of.ensures t more ∙ c.in-None.is)) does)
    c.text_value.ensures.does

pub returns-in-Some-clause-does : goal.returns-in-Some-clause-does
returns-in-Some-clause-does g c =
    if_ok _ _ c.text_value-in-Some.result
    (λ v does. told_by g.S.WorldStore.meaning (λ t env. native_line (native.String string.CharAt) false (value_in t c.args.this) (map (value_in t) c.args.args.now) env) (λ t. String (c.in-Some.unit ∷ [])) v c.args.config.now c.text_value-in-Some.new.config
    (λ t more env. ap line.char_at (c.unit_of.ensures t more ∙ c.in-Some.is)) does)
    c.text_value-in-Some.ensures.does
