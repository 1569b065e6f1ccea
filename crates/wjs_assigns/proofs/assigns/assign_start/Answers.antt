use Rattle.std.proofs.Common.{inl, inr, refl}
use Rattle.wjs_base.specs.Text.{Table}
use Rattle.wjs_tree.specs.declared.node.Node.TheVariants as nodes
use Rattle.wjs_tree.specs.Operators.{compound}
use Rattle.wjs_meaning.specs.Deeds.{Completion, Refers, Eval, AtTarget, then_reference}
use Rattle.wjs_meaning.specs.Expressions as line
use Rattle.wjs_model.specs.Contents.{reference_in}
use Rattle.wjs_frames.specs.Parts.{env_in}
use Rattle.wjs_frames.proofs.Handling.{runs_later, goes_on_after}
use Rattle.wjs_frames.proofs.Parting.{stands_here, stands_later}
use Rattle.wjs_assigns.proofs.assigns.assign_start.Goals as goal

-- the reference was had at once
pub assign_reference-requires-clause-runs : goal.assign_reference-requires-clause-runs
assign_reference-requires-clause-runs g c = runs_later _ _ _ _ c.requires.runs c.reference_at_once.ensures.later

pub assign_reference-requires-clause-right : goal.assign_reference-requires-clause-right
assign_reference-requires-clause-right g c =
    let m = g.S.WorldStore.meaning in
    stands_later m c.args.config.now c.args.frame c.reference_at_once.new.config c.args.right c.reference_at_once.ensures.later
    (stands_here m c.args.config.now c.args.frame (nodes.Assign c.args.target c.args.sign c.args.right) c.args.right c.requires.runs.there c.requires.node (inr (inl refl)))

pub returns-in-Some : goal.returns-in-Some
returns-in-Some g c =
    let m = g.S.WorldStore.meaning in
    let old = c.args.config.now in
    let answer : Table → Completion = λ t. Refers (reference_in t c.in-Some.reference) in
    goes_on_after m c.args.frame old c.reference_at_once.new.config c.assign_reference.new.config c.assign_reference.result
    (λ t go. Eval (AtTarget c.args.target.0) (env_in m old t c.args.frame) go) answer
    (λ t env. then_reference (line.assign_reference (compound c.args.sign) c.args.right.0 env)) c.in-Some.ensures.does c.reference_at_once.ensures.later
    c.assign_reference.ensures

-- it is entered
pub enter-requires-clause-runs : goal.enter-requires-clause-runs
enter-requires-clause-runs g c = runs_later _ _ _ _ c.requires.runs c.reference_at_once.ensures.later

pub enter-requires-clause-part : goal.enter-requires-clause-part
enter-requires-clause-part g c =
    let m = g.S.WorldStore.meaning in
    stands_later m c.args.config.now c.args.frame c.reference_at_once.new.config c.args.target c.reference_at_once.ensures.later
    (stands_here m c.args.config.now c.args.frame (nodes.Assign c.args.target c.args.sign c.args.right) c.args.target c.requires.runs.there c.requires.node (inl refl))

pub enter-requires-clause-point : goal.enter-requires-clause-point
enter-requires-clause-point g c =
    let m = g.S.WorldStore.meaning in
    stands_later m c.args.config.now c.args.frame c.reference_at_once.new.config c.args.right c.reference_at_once.ensures.later
    (stands_here m c.args.config.now c.args.frame (nodes.Assign c.args.target c.args.sign c.args.right) c.args.right c.requires.runs.there c.requires.node (inr (inl refl)))

pub returns-in-None : goal.returns-in-None
returns-in-None g c = let h = rw c.in-None.ensures.same at c.enter.ensures in h
