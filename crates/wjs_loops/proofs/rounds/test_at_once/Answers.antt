use Rattle.wjs_base.specs.Text.{Table}
use Rattle.wjs_by_content.specs.Tables.{value_in}
use Rattle.wjs_meaning.specs.Deeds.{Completion, Gives, Sub, then_value}
use Rattle.wjs_meaning.specs.Expressions.{expr_at}
use Rattle.wjs_meaning.specs.Loops.{loop_test}
use Rattle.wjs_meaning.specs.Reading.{number}
use Rattle.wjs_frames.specs.Parts.{env_in}
use Rattle.wjs_frames.proofs.Parting.{stands_later, stands_if_later}
use Rattle.wjs_effects.proofs.Proceeding.{proceeds_by}
use Rattle.wjs_loops.specs.Rounds.{position_in}
use Rattle.wjs_loops.proofs.rounds.test_at_once.Goals as goal

pub after_test-requires-clause-update : goal.after_test-requires-clause-update
after_test-requires-clause-update g c = stands_if_later g.S.WorldStore.meaning c.args.config.now c.args.frame.now c.quick_entered.new.config c.args.u c.quick_entered.ensures.later c.requires.update

pub after_test-requires-clause-body : goal.after_test-requires-clause-body
after_test-requires-clause-body g c = stands_later g.S.WorldStore.meaning c.args.config.now c.args.frame.now c.quick_entered.new.config c.args.s c.quick_entered.ensures.later c.requires.body

pub returns-in-Some-clause-proceeds : goal.returns-in-Some-clause-proceeds
returns-in-Some-clause-proceeds g c =
    let m = g.S.WorldStore.meaning in
    let f = c.args.frame.now in
    let old = c.args.config.now in
    let mid = c.quick_entered.new.config in
    let answer : Table → Completion = λ t. Gives (value_in t c.in-Some.value) in
    proceeds_by m f (λ t go. Sub (expr_at c.args.e.0 (env_in m old t f)) go) answer (λ t env. then_value (loop_test f.node.0 (number c.args.u) c.args.s.0 env)) (λ t env. position_in t f.node.0 env c.after_test.result) old mid
    c.in-Some.ensures.does c.quick_entered.ensures.later (λ t grows. c.after_test.ensures.is t grows f.node.0 (env_in m mid t f))
