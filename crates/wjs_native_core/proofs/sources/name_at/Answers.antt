use Rattle.wjs_frames.proofs.Places.{node_known}
use Rattle.wjs_native_core.proofs.sources.name_at.Goals as goal

pub returns-in-Some-clause-found : goal.returns-in-Some-clause-found
returns-in-Some-clause-found g c = c.name_in_node.ensures.found c.args.config.now.heap.texts (node_known c.args.config.now.heap.texts c.args.config.now.units.items c.args.tree c.args.node c.in-Some.node.now c.requires.units c.in-Some.ensures)
