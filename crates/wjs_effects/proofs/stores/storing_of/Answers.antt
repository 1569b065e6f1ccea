use Rattle.std.proofs.Common.{◌∙◌}
use Rattle.wjs_tree.specs.declared.node.Node.TheVariants as nodes
use Rattle.wjs_frames.specs.Parts.{env_in}
use Rattle.wjs_frames.proofs.OperandLines.{expr_is}
use Rattle.wjs_heap_steps.proofs.Peeking.{if_some}
use Rattle.wjs_effects.proofs.stores.storing_of.Goals as goal

pub returns-in-Some-Assign : goal.returns-in-Some-Assign
returns-in-Some-Assign g c =
    let s = c.in-Some-Assign in
    λ t. expr_is g.S.WorldStore.meaning c.args.config.now c.args.frame.now c.args.node (nodes.Assign s.target s.sign s.right) t (s.ensures ∙ s.field-0-is)

pub returns-in-Some-Postfix : goal.returns-in-Some-Postfix
returns-in-Some-Postfix g c =
    let s = c.in-Some-Postfix in
    λ t. expr_is g.S.WorldStore.meaning c.args.config.now c.args.frame.now c.args.node (nodes.Postfix s.target s.operator) t (s.ensures ∙ s.field-0-is)

pub returns-in-Some-Prefix : goal.returns-in-Some-Prefix
returns-in-Some-Prefix g c =
    let m = g.S.WorldStore.meaning in
    let now = c.args.config.now in
    let f = c.args.frame.now in
    let s = c.in-Some-Prefix in
    if_some _ _ c.prefix_of.result (λ form is. λ t. expr_is m now f c.args.node (nodes.Prefix s.operator s.part) t (s.ensures ∙ s.field-0-is) ∙ is (env_in m now t f)) c.prefix_of.ensures
