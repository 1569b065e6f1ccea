use Rattle.std.proofs.Common.{false, sym, ap, ◌∙◌}
use Rattle.std.specs.Prelude.{map}
use Rattle.wjs_arena.specs.declared.native.Native.TheVariants as native
use Rattle.wjs_arena.specs.declared.native.StringNative.TheVariants as string
use Rattle.wjs_by_content.specs.Tables.{value_in}
use Rattle.wjs_by_content.specs.Values.{String}
use Rattle.wjs_meaning.specs.Deeds.{give}
use Rattle.wjs_meaning.specs.Natives.{native_line}
use Rattle.wjs_heap_steps.proofs.Composing.{if_ok}
use Rattle.wjs_native_text.proofs.Telling.{told_by}
use Rattle.wjs_native_text.proofs.at_once.slice_text.Goals as goal

pub returns-clause-does : goal.returns-clause-does
returns-clause-does g c =
    let units = c.as_slice.result.now in
    if_ok _ _ c.text_value.result
    (λ v does. told_by g.S.WorldStore.meaning (λ t env. native_line (native.String string.Slice) false (value_in t c.args.this) (map (value_in t) c.args.args.now) env) (λ t. String units) v c.args.config.now c.text_value.new.config
    (λ t more env. c.in_ok-units.ensures.units t more env ∙ ap (λ u. give (String u)) (sym c.as_slice.ensures.value)) does)
    c.text_value.ensures.does
