use Rattle.std.proofs.Common.{inl, refl}
use Rattle.wjs_base.specs.Text.{Table}
use Rattle.wjs_tree.specs.declared.node.Node.TheVariants as nodes
use Rattle.wjs_by_content.specs.Tables.{value_in}
use Rattle.wjs_meaning.specs.Deeds.{Completion, Gives, Eval, AtExpr, then_value}
use Rattle.wjs_meaning.specs.Expressions as line
use Rattle.wjs_meaning.specs.Reading.{spelt_in}
use Rattle.wjs_model.specs.Waiting.{taken}
use Rattle.wjs_frames.specs.Parts.{env_in}
use Rattle.wjs_frames.proofs.Handling.{runs_later, goes_on_after}
use Rattle.wjs_frames.proofs.Parting.{stands_here, stands_later}
use Rattle.wjs_frames.proofs.Places.{node_known}
use Rattle.wjs_heap_steps.proofs.Staying.{spelt_stays}
use Rattle.wjs_step_common.proofs.Following.{follows_as}
use Rattle.wjs_members.proofs.members.dot_start.Goals as goal

-- the base was had at once
pub returns-in-Some : goal.returns-in-Some
returns-in-Some g c =
    let m = g.S.WorldStore.meaning in
    let old = c.args.config.now in
    let answer : Table → Completion = λ t. Gives (value_in t c.in-Some.value) in
    goes_on_after m c.args.frame old c.quick.new.config c.dot_named.new.config c.dot_named.result (λ t go. Eval (AtExpr c.args.base.0) (env_in m old t c.args.frame) go) answer
    (λ t env. then_value (line.dot_base (spelt_in t c.args.name) env (taken c.args.purpose env))) c.in-Some.ensures.does c.quick.ensures.later c.dot_named.ensures

pub dot_named-requires-clause-runs : goal.dot_named-requires-clause-runs
dot_named-requires-clause-runs g c = runs_later _ _ _ _ c.requires.runs c.quick.ensures.later

pub dot_named-requires-clause-name : goal.dot_named-requires-clause-name
dot_named-requires-clause-name g c =
    let now = c.args.config.now in
    spelt_stays now.heap.texts c.quick.new.config.heap.texts c.quick.ensures.later.texts c.args.name
    (node_known now.heap.texts now.units.items c.args.frame.tree c.args.frame.node (nodes.Dot c.args.base c.args.name) c.requires.runs.running.base.units c.requires.node)

-- it is entered
pub enter-requires-clause-runs : goal.enter-requires-clause-runs
enter-requires-clause-runs g c = runs_later _ _ _ _ c.requires.runs c.quick.ensures.later

pub enter-requires-clause-part : goal.enter-requires-clause-part
enter-requires-clause-part g c =
    let m = g.S.WorldStore.meaning in
    stands_later m c.args.config.now c.args.frame c.quick.new.config c.args.base c.quick.ensures.later
    (stands_here m c.args.config.now c.args.frame (nodes.Dot c.args.base c.args.name) c.args.base c.requires.runs.there c.requires.node (inl refl))

pub returns-in-None : goal.returns-in-None
returns-in-None g c =
    let h = rw c.in-None.ensures.same at c.enter.ensures in
    follows_as _ _ _ _ _ _ (λ grows. rw c.requires.node refl) h
