use Rattle.std.proofs.Common.{ap, ◌∙◌}
use Rattle.wjs_base.specs.declared.ids.NodeId.{NodeId}
use Rattle.wjs_frames.specs.Parts.{node_among}
use Rattle.wjs_step_common.specs.Lists.{clauses_in}
use Rattle.wjs_blocks.proofs.switches.clauses_of.Goals as goal

pub returns : goal.returns
returns g c = c.clauses_at.ensures ∙ ap (λ (id : NodeId). clauses_in (node_among c.args.config.now.units.items c.args.frame.now.tree id)) c.node.ensures
