use Rattle.std.proofs.Common.{sym, ap, ◌∙◌, subst}
use Rattle.std.specs.Prelude.{slice_get}
use Rattle.wjs_base.specs.declared.ids.NodeId.{NodeId}
use Rattle.wjs_meaning.specs.Reading.{node_in}
use Rattle.wjs_frames.specs.Parts.{node_among, node_now}
use Rattle.wjs_step_common.specs.Lists.{statements_in}
use Rattle.wjs_effects.specs.declared.elements.Sequence.{Sequence}
use Rattle.wjs_effects.specs.Sequences.{elements_in, NextIs}
use Rattle.wjs_effects.proofs.Running.{statement_is}
use Rattle.wjs_effects.proofs.elements.element_of_sequence.Goals as goal

pub returns-in-Block : goal.returns-in-Block
returns-in-Block g c = λ t.
    let n = node_now g.S.WorldStore.meaning c.args.config.now c.args.frame.now in
    subst (λ (k : Sequence). NextIs (elements_in k (node_in t n)) c.args.at c.statement_of_block.result) (sym c.in-Block.is)
    (statement_is t n c.args.at c.statement_of_block.result (c.statement_of_block.ensures ∙ ap (λ (id : NodeId). slice_get (statements_in (node_among c.args.config.now.units.items c.args.frame.now.tree id)) c.args.at) c.node.ensures))

pub returns-in-Function : goal.returns-in-Function
returns-in-Function g c = λ t.
    let n = node_in t (node_now g.S.WorldStore.meaning c.args.config.now c.args.frame.now) in
    subst (λ (k : Sequence). NextIs (elements_in k n) c.args.at c.element_at.result) (sym c.in-Function.is) (c.element_at.ensures t)

pub returns-in-Program : goal.returns-in-Program
returns-in-Program g c = λ t.
    let n = node_in t (node_now g.S.WorldStore.meaning c.args.config.now c.args.frame.now) in
    subst (λ (k : Sequence). NextIs (elements_in k n) c.args.at c.program_element_at.result) (sym c.in-Program.is) (c.program_element_at.ensures t)
