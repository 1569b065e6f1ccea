use Rattle.std.proofs.Common.{sym, ap, ◌∙◌, subst, Some}
use Rattle.wjs_base.specs.Same.{whole_same}
use Rattle.wjs_base.specs.Range.{IsInRange}
use Rattle.wjs_layers.specs.Kinds.{number_in}
use Rattle.wjs_layers.specs.Shorts.{content_by}
use Rattle.wjs_layers.proofs.Packing.{passed}
use Rattle.wjs_layers.proofs.short.sized.Goals as goal

pub invariant_of-result : goal.invariant_of-result
invariant_of-result c =
    let number = ap (number_in c.side-kind.result) c.unsigned_abs.ensures.value ∙ c.side-kind.ensures.number ∙ ap Some (passed c.args.n c.requires) in
    record { in_range = subst IsInRange (sym number) c.requires }

pub returns-clause-content : goal.returns-clause-content
returns-clause-content c = λ whole e.
    let number = ap (number_in c.side-kind.result) c.unsigned_abs.ensures.value ∙ c.side-kind.ensures.number ∙ ap Some (passed c.args.n c.requires) in
    ap (content_by c.side-kind.result c.unsigned_abs.result 0) (whole_same _ whole (number ∙ sym e))
    ∙ ap (λ n. content_by c.side-kind.result n 0 whole) c.unsigned_abs.ensures.value
    ∙ c.side-kind.ensures.content whole
