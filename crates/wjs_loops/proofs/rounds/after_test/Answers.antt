use Rattle.std.proofs.Common.{Bool, true, false, ap, ◌∙◌}
use Rattle.wjs_meaning.specs.Deeds.{Normal, Ret, Eval, AtStmt}
use Rattle.wjs_meaning.specs.Loops.{loop_body}
use Rattle.wjs_meaning.specs.Reading.{number}
use Rattle.wjs_loops.proofs.rounds.after_test.Goals as goal

pub returns-then-to_boolean-clause-is : goal.returns-then-to_boolean-clause-is
returns-then-to_boolean-clause-is g c = λ t grows here env. ap (λ (b : Bool). elim b [ true ↦ Eval (AtStmt c.args.s.0) env (loop_body here (number c.args.u) env) | false ↦ Ret Normal ]) (c.to_boolean.ensures t grows ∙ c.if-to_boolean.true)

pub returns-else-to_boolean-clause-is : goal.returns-else-to_boolean-clause-is
returns-else-to_boolean-clause-is g c = λ t grows here env. ap (λ (b : Bool). elim b [ true ↦ Eval (AtStmt c.args.s.0) env (loop_body here (number c.args.u) env) | false ↦ Ret Normal ]) (c.to_boolean.ensures t grows ∙ c.if-to_boolean.false)

pub returns-then-to_boolean-clause-found : goal.returns-then-to_boolean-clause-found
returns-then-to_boolean-clause-found g c = (c.requires.update, c.requires.body)
