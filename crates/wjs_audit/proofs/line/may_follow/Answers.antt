use Rattle.std.proofs.Common.{◌-◌, refl, sym, ◌∙◌, arith}
use Rattle.std.proofs.lemmas.Bool.{false≢true}
use Rattle.wjs_audit.proofs.Listings.{ascends_more, ascends_last}
use Rattle.wjs_audit.proofs.line.may_follow.Goals as goal

pub returns-in-Less : goal.returns-in-Less
returns-in-Less c = (
  λ t. ascends_more c.args.names.now (c.len-count.result - 1) c.at.result c.args.name c.requires (omega (arith, c.len-count.ensures, c.if-count-eq0.false)) c.at.ensures (sym c.cmp.ensures ∙ c.in-Less.is),
  λ h. refl,
)

pub returns-in_default : goal.returns-in_default
returns-in_default c = (
  λ t. absurd (false≢true t),
  λ h. absurd (c.in_default.not-Less (c.cmp.ensures ∙ ascends_last c.args.names.now (c.len-count.result - 1) c.at.result c.args.name c.at.ensures h)),
)
