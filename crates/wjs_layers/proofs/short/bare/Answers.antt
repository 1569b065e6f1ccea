use Rattle.std.proofs.Common.{ap, sym, subst}
use Rattle.wjs_base.specs.Same.{whole_same}
use Rattle.wjs_base.specs.Range.{IsInRange}
use Rattle.wjs_layers.specs.Shorts.{nan, content_by}
use Rattle.wjs_layers.proofs.short.bare.Goals as goal

pub invariant_of-result : goal.invariant_of-result
invariant_of-result c = record { in_range = subst IsInRange (sym c.requires) tt }

pub returns-clause-content : goal.returns-clause-content
returns-clause-content c = ap (content_by c.args.kind c.args.number c.args.owner) (whole_same _ nan c.requires)
