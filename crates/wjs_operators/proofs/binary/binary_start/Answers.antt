use Rattle.std.proofs.Common.{inl, inr, refl}
use Rattle.wjs_base.specs.Text.{Table}
use Rattle.wjs_tree.specs.declared.node.Node.TheVariants as nodes
use Rattle.wjs_by_content.specs.Tables.{value_in}
use Rattle.wjs_meaning.specs.Deeds.{Completion, Gives, Eval, AtExpr, then_value}
use Rattle.wjs_meaning.specs.Expressions as line
use Rattle.wjs_frames.specs.Parts.{env_in}
use Rattle.wjs_frames.proofs.Handling.{runs_later, goes_on_after}
use Rattle.wjs_frames.proofs.Parting.{stands_here, stands_later}
use Rattle.wjs_operators.proofs.binary.binary_start.Goals as goal

-- the left value was had at once
pub returns-in-Some : goal.returns-in-Some
returns-in-Some g c =
    let m = g.S.WorldStore.meaning in
    let old = c.args.config.now in
    let answer : Table → Completion = λ t. Gives (value_in t c.in-Some.value) in
    goes_on_after m c.args.frame old c.quick.new.config c.binary_left.new.config c.binary_left.result (λ t go. Eval (AtExpr c.args.left.0) (env_in m old t c.args.frame) go) answer
    (λ t env. then_value (line.binary_left c.args.operator c.args.right.0 env)) c.in-Some.ensures.does c.quick.ensures.later c.binary_left.ensures

pub binary_left-requires-clause-runs : goal.binary_left-requires-clause-runs
binary_left-requires-clause-runs g c = runs_later _ _ _ _ c.requires.runs c.quick.ensures.later

pub binary_left-requires-clause-right : goal.binary_left-requires-clause-right
binary_left-requires-clause-right g c =
    let m = g.S.WorldStore.meaning in
    stands_later m c.args.config.now c.args.frame c.quick.new.config c.args.right c.quick.ensures.later
    (stands_here m c.args.config.now c.args.frame (nodes.Binary c.args.left c.args.operator c.args.right) c.args.right c.requires.runs.there c.requires.node (inr (inl refl)))

-- it is entered
pub enter-requires-clause-runs : goal.enter-requires-clause-runs
enter-requires-clause-runs g c = runs_later _ _ _ _ c.requires.runs c.quick.ensures.later

pub enter-requires-clause-part : goal.enter-requires-clause-part
enter-requires-clause-part g c =
    let m = g.S.WorldStore.meaning in
    stands_later m c.args.config.now c.args.frame c.quick.new.config c.args.left c.quick.ensures.later
    (stands_here m c.args.config.now c.args.frame (nodes.Binary c.args.left c.args.operator c.args.right) c.args.left c.requires.runs.there c.requires.node (inl refl))

pub enter-requires-clause-point : goal.enter-requires-clause-point
enter-requires-clause-point g c =
    let m = g.S.WorldStore.meaning in
    stands_later m c.args.config.now c.args.frame c.quick.new.config c.args.right c.quick.ensures.later
    (stands_here m c.args.config.now c.args.frame (nodes.Binary c.args.left c.args.operator c.args.right) c.args.right c.requires.runs.there c.requires.node (inr (inl refl)))

pub returns-in-None : goal.returns-in-None
returns-in-None g c = let h = rw c.in-None.ensures.same at c.enter.ensures in h
