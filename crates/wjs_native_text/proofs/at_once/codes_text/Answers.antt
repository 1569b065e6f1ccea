use Rattle.std.proofs.Common.{◌≤◌, false, length, sym, ap, ◌∙◌, rules}
use Rattle.std.specs.Prelude.{map}
use Rattle.wjs_base.specs.Text.{longest}
use Rattle.wjs_arena.specs.declared.native.Native.TheVariants as native
use Rattle.wjs_arena.specs.declared.native.StringNative.TheVariants as string
use Rattle.wjs_by_content.specs.Tables.{value_in}
use Rattle.wjs_by_content.specs.Values.{String}
use Rattle.wjs_meaning.specs.Errors.{give_text}
use Rattle.wjs_meaning.specs.Natives.{native_line}
use Rattle.wjs_native_text.proofs.Joining.{short_given}
use Rattle.wjs_native_text.proofs.Telling.{told_by}
use Rattle.wjs_native_text.proofs.at_once.codes_text.Goals as goal

pub returns-clause-does : goal.returns-clause-does
returns-clause-does g c =
    let units = c.as_slice.result.now in
    let short : length units ≤ longest = search rules in
    told_by g.S.WorldStore.meaning (λ t env. native_line (native.String string.FromCharCode) false (value_in t c.args.this) (map (value_in t) c.args.args.now) env) (λ t. String units) c.in_ok-text.text c.args.config.now c.text_value.new.config
    (λ t more env. ap (λ u. give_text u env) (c.in_ok-units.ensures t ∙ sym c.as_slice.ensures.value) ∙ short_given units env short)
    c.in_ok-text.ensures.does
