use Rattle.std.proofs.Common.{ap}
use Rattle.wjs_tree.specs.declared.operators.PrefixOperator.{PrefixOperator}
use Rattle.wjs_meaning.specs.Expressions as line
use Rattle.wjs_effects.proofs.stores.prefix_of.Goals as goal

pub returns-in-Increment : goal.returns-in-Increment
returns-in-Increment c = λ env. ap (λ (o : PrefixOperator). line.prefix_of o c.args.part.0 env) c.in-Increment.is

pub returns-in-Decrement : goal.returns-in-Decrement
returns-in-Decrement c = λ env. ap (λ (o : PrefixOperator). line.prefix_of o c.args.part.0 env) c.in-Decrement.is
