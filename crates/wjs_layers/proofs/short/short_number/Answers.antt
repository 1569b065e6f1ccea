use Rattle.std.proofs.Common.{sym, ap, ◌∙◌, subst, Some}
use Rattle.wjs_base.specs.Same.{whole_same}
use Rattle.wjs_base.specs.Range.{InRange}
use Rattle.wjs_base.specs.declared.values.Value.TheVariants as values
use Rattle.wjs_base.specs.declared.values.Content.TheVariants.{Present}
use Rattle.wjs_layers.specs.Shorts.{nan}
use Rattle.wjs_layers.proofs.Packing.{number_in_range, passed}
use Rattle.wjs_layers.proofs.short.short_number.Goals as goal

pub returns-in-None-clause-content : goal.returns-in-None-clause-content
returns-in-None-clause-content c = c.bare.ensures.content ∙ ap (λ w. Present (values.Number w)) (whole_same nan c.args.whole (sym c.in-None.is ∙ c.get.ensures))

pub sized-requires : goal.sized-requires
sized-requires c =
    let within = number_in_range c.args.whole c.in-Some.n (sym c.get.ensures ∙ c.in-Some.is) in
    subst InRange (sym (passed c.in-Some.n within)) within

pub returns-in-Some-clause-content : goal.returns-in-Some-clause-content
returns-in-Some-clause-content c =
    let number = sym c.get.ensures ∙ c.in-Some.is in
    c.sized.ensures.content c.args.whole (number ∙ ap Some (sym (passed c.in-Some.n (number_in_range c.args.whole c.in-Some.n number))))
