use Rattle.wjs_base.specs.Text.{Table}
use Rattle.wjs_by_content.specs.Tables.{value_in}
use Rattle.wjs_meaning.specs.Deeds.{Completion, Gives, Eval, AtExpr, then_value}
use Rattle.wjs_meaning.specs.Expressions as line
use Rattle.wjs_frames.specs.Parts.{env_in}
use Rattle.wjs_frames.proofs.Handling.{runs_later, goes_on_after}
use Rattle.wjs_frames.proofs.Parting.{stands_later}
use Rattle.wjs_operators.proofs.binary.hold_left.Goals as goal

-- the right value was had at once
pub returns-in-Some : goal.returns-in-Some
returns-in-Some g c =
    let m = g.S.WorldStore.meaning in
    let old = c.args.config.now in
    let answer : Table → Completion = λ t. Gives (value_in t c.in-Some.second) in
    goes_on_after m c.args.frame old c.quick.new.config c.operate.new.config c.operate.result (λ t go. Eval (AtExpr c.args.right.0) (env_in m old t c.args.frame) go) answer
    (λ t env. then_value (line.binary_right c.args.operator (value_in t c.args.value) env)) c.in-Some.ensures.does c.quick.ensures.later c.operate.ensures

pub operate-requires-clause-runs : goal.operate-requires-clause-runs
operate-requires-clause-runs g c = runs_later _ _ _ _ c.requires.runs c.quick.ensures.later

pub operate-requires-clause-left : goal.operate-requires-clause-left
operate-requires-clause-left g c = c.quick.ensures.later.values c.args.value c.requires.value

-- the right operand is entered
pub enter_right-requires-clause-runs : goal.enter_right-requires-clause-runs
enter_right-requires-clause-runs g c = runs_later _ _ _ _ c.requires.runs c.quick.ensures.later

pub enter_right-requires-clause-right : goal.enter_right-requires-clause-right
enter_right-requires-clause-right g c =
    stands_later g.S.WorldStore.meaning c.args.config.now c.args.frame c.quick.new.config c.args.right c.quick.ensures.later c.requires.right

pub enter_right-requires-clause-value : goal.enter_right-requires-clause-value
enter_right-requires-clause-value g c = c.quick.ensures.later.values c.args.value c.requires.value

pub returns-in-None : goal.returns-in-None
returns-in-None g c = let h = rw c.in-None.ensures.same at c.enter_right.ensures in h
