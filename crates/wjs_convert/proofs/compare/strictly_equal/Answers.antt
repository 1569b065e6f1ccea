use Rattle.std.proofs.Common.{not, ap, sym, ◌∙◌}
use Rattle.wjs_convert.proofs.Comparisons.{strict_by_number}
use Rattle.wjs_convert.proofs.compare.strictly_equal.Goals as goal

pub returns-then-not-is_nan : goal.returns-then-not-is_nan
returns-then-not-is_nan c = λ texts k l. c.same_value.ensures ∙ strict_by_number texts c.args.a c.args.b k l (ap not (sym (c.is_nan.ensures texts) ∙ c.if-not-is_nan.true))
