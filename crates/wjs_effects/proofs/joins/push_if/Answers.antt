use Rattle.std.proofs.Common.{◌++◌, Option, sym, ap, ◌∙◌, subst, append-nil}
use Rattle.std.proofs.lemmas.Result.{on_ok_weaker}
use Rattle.wjs_base.specs.declared.values.Value.{Value}
use Rattle.wjs_effects.specs.Making.{spelled_if, HasIf}
use Rattle.wjs_effects.proofs.joins.push_if.Goals as goal

pub returns-in-Some : goal.returns-in-Some
returns-in-Some g c = on_ok_weaker c.push_text.result (λ is t more. is t more ∙ ap (λ (o : Option Value). c.args.units.now.items ++ spelled_if t o) (sym c.in-Some.is)) c.push_text.ensures

pub push_text-requires-clause-value : goal.push_text-requires-clause-value
push_text-requires-clause-value g c = subst (λ (o : Option Value). HasIf c.args.config.now o) c.in-Some.is c.requires.piece

pub returns-in-None : goal.returns-in-None
returns-in-None g c = λ t more. sym (ap (λ (o : Option Value). c.args.units.now.items ++ spelled_if t o) c.in-None.is ∙ append-nil c.args.units.now.items)
