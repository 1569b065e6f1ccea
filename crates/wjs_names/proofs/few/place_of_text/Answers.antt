use Rattle.std.proofs.Common.{◌≡◌, ◌∙◌, ap, sym, Ok, ◌+◌, arith}
use Rattle.wjs_base.specs.declared.values.Name.TheVariants.{Text}
use Rattle.wjs_base.specs.Order.{name_cmp, name_total}
use Rattle.wjs_names.proofs.Basics.{equal_is}
use Rattle.wjs_names.proofs.Seeks.{seek_at}
use Rattle.wjs_names.proofs.few.place_of_text.Goals as goal

pub returns-then-has : goal.returns-then-has
returns-then-has g c =
    let z : 0 + c.loop-place.place ≡ c.loop-place.place = omega arith in
    sym (seek_at name_total (Text c.args.text) 0 c.args.few.now c.loop-place.place c.index-few-place.result c.requires c.loop-place-test.true
    (ap (λ e. name_cmp (Text c.args.text) e.0) (sym c.index-few-place.is) ∙ equal_is (name_cmp (Text c.args.text) c.index-few-place.result.0) (sym c.has.ensures ∙ c.if-has.true))
    ∙ ap Ok z)
