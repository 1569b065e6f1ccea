use Rattle.std.proofs.Common.{sym, subst}
use Rattle.wjs_frames.specs.Handling.{GoesOn}
use Rattle.wjs_loops.specs.declared.rounds.Position.{Position}
use Rattle.wjs_loops.specs.Rounds.{position_in, HasPosition}
use Rattle.wjs_loops.proofs.rounds.go_on_at.Goals as goal

pub returns-in-Again : goal.returns-in-Again
returns-in-Again g c = subst (λ (p : Position). GoesOn g.S.WorldStore.meaning c.args.frame c.args.config.now c.again_entered.new.config c.again_entered.result (λ t env. position_in t c.args.frame.node.0 env p)) (sym c.in-Again.is) c.again_entered.ensures

pub returns-in-Test : goal.returns-in-Test
returns-in-Test g c = subst (λ (p : Position). GoesOn g.S.WorldStore.meaning c.args.frame c.args.config.now c.expr_iteration.new.config c.expr_iteration.result (λ t env. position_in t c.args.frame.node.0 env p)) (sym c.in-Test.is) c.expr_iteration.ensures

pub returns-in-Body : goal.returns-in-Body
returns-in-Body g c = subst (λ (p : Position). GoesOn g.S.WorldStore.meaning c.args.frame c.args.config.now c.enter_statement.new.config c.enter_statement.result (λ t env. position_in t c.args.frame.node.0 env p)) (sym c.in-Body.is) c.enter_statement.ensures

pub returns-in-Within : goal.returns-in-Within
returns-in-Within g c = subst (λ (p : Position). GoesOn g.S.WorldStore.meaning c.args.frame c.args.config.now c.within_entered.new.config c.within_entered.result (λ t env. position_in t c.args.frame.node.0 env p)) (sym c.in-Within.is) c.within_entered.ensures

pub returns-in-Update : goal.returns-in-Update
returns-in-Update g c = subst (λ (p : Position). GoesOn g.S.WorldStore.meaning c.args.frame c.args.config.now c.update_entered.new.config c.update_entered.result (λ t env. position_in t c.args.frame.node.0 env p)) (sym c.in-Update.is) c.update_entered.ensures

pub returns-in-Ended : goal.returns-in-Ended
returns-in-Ended g c = subst (λ (p : Position). GoesOn g.S.WorldStore.meaning c.args.frame c.args.config.now c.finish.new.config c.finish.result (λ t env. position_in t c.args.frame.node.0 env p)) (sym c.in-Ended.is) c.finish.ensures

pub expr_iteration-requires-clause-point : goal.expr_iteration-requires-clause-point
expr_iteration-requires-clause-point g c = (subst (λ (p : Position). HasPosition c.args.config.now c.args.frame p) c.in-Test.is c.requires.at).1

pub expr_iteration-requires-clause-part : goal.expr_iteration-requires-clause-part
expr_iteration-requires-clause-part g c = (subst (λ (p : Position). HasPosition c.args.config.now c.args.frame p) c.in-Test.is c.requires.at).0

pub enter_statement-requires-clause-point : goal.enter_statement-requires-clause-point
enter_statement-requires-clause-point g c = (subst (λ (p : Position). HasPosition c.args.config.now c.args.frame p) c.in-Body.is c.requires.at).0

pub enter_statement-requires-clause-part : goal.enter_statement-requires-clause-part
enter_statement-requires-clause-part g c = (subst (λ (p : Position). HasPosition c.args.config.now c.args.frame p) c.in-Body.is c.requires.at).1

pub within_entered-requires-clause-update : goal.within_entered-requires-clause-update
within_entered-requires-clause-update g c = (subst (λ (p : Position). HasPosition c.args.config.now c.args.frame p) c.in-Within.is c.requires.at).0

pub within_entered-requires-clause-body : goal.within_entered-requires-clause-body
within_entered-requires-clause-body g c = (subst (λ (p : Position). HasPosition c.args.config.now c.args.frame p) c.in-Within.is c.requires.at).1

pub update_entered-requires-clause-update : goal.update_entered-requires-clause-update
update_entered-requires-clause-update g c = subst (λ (p : Position). HasPosition c.args.config.now c.args.frame p) c.in-Update.is c.requires.at

pub finish-requires-clause-completion : goal.finish-requires-clause-completion
finish-requires-clause-completion g c = subst (λ (p : Position). HasPosition c.args.config.now c.args.frame p) c.in-Ended.is c.requires.at
