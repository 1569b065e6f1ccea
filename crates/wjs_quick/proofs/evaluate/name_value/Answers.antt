use Rattle.std.proofs.Common.{rules}
use Rattle.wjs_tree.specs.declared.node.Node.TheVariants as nodes
use Rattle.wjs_model.specs.declared.operand.Operand.TheVariants as operands
use Rattle.wjs_model.specs.Soundness.{HasOperand}
use Rattle.wjs_frames.specs.declared.part.Part.TheVariants as parts
use Rattle.wjs_frames.proofs.OperandLines.{name_is}
use Rattle.wjs_frames.proofs.Places.{node_known}
use Rattle.wjs_heap_steps.proofs.Peeking.{if_some}
use Rattle.wjs_quick.proofs.Coming.{comes_operand}
use Rattle.wjs_quick.proofs.evaluate.name_value.Goals as goal

pub peek_operand-requires : goal.peek_operand-requires
peek_operand-requires g c =
    let now = c.args.config.now in
    let known : HasOperand now (operands.Name c.place_at-place.result c.args.id) = node_known now.heap.texts now.units.items c.args.frame.now.tree c.args.node (nodes.Name c.args.id) c.requires.base.units c.requires.node in
    search (rules, known)

pub returns-clause-does : goal.returns-clause-does
returns-clause-does g c =
    let m = g.S.WorldStore.meaning in
    let now = c.args.config.now in
    let f = c.args.frame.now in
    let place = c.place_at-place.result in
    if_some _ _ c.peek_operand.result (λ v p left some. comes_operand m now f (parts.Expr c.args.node) (operands.Name place c.args.id) v left some
    (name_is m now f c.args.node c.args.id place c.requires.node c.requires.base c.place_at-place.ensures) p) c.peek_operand.ensures.peeks
