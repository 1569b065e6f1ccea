use Rattle.wjs_scope.proofs.Functions.{element_within}
use Rattle.wjs_scope.proofs.body.element_names.Goals as goal

pub node-requires : goal.node-requires
node-requires c = element_within c.args.nodes.now 200 c.args.id c.requires
