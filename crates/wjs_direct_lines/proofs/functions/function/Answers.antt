use Rattle.std.proofs.Common.{[]}
use Rattle.wjs_frames.proofs.Places.{node_known}
use Rattle.wjs_calls.proofs.StandingFunctions.{named_here}
use Rattle.wjs_tree.specs.declared.node.Node.TheVariants as nodes
use Rattle.wjs_stopping.specs.Waiting.{at_node}
use Rattle.wjs_direct_lines.proofs.Forming.{node_there}
use Rattle.wjs_direct_lines.proofs.FunctionMaking.{function_made}
use Rattle.wjs_direct_lines.proofs.functions.function.Goals as goal

pub make_function-requires-clause-name : goal.make_function-requires-clause-name
make_function-requires-clause-name g c =
    let old = c.args.config.now in
    let is = c.requires.is in
    (node_known old.heap.texts old.units.items c.args.frame.now.tree c.args.node (nodes.Function c.args.name is.0 is.1.0) c.requires.base.units is.1.1).0

pub make_function-requires-clause-stands : goal.make_function-requires-clause-stands
make_function-requires-clause-stands g c =
    let m = g.S.WorldStore.meaning in
    let old = c.args.config.now in
    let f = c.args.frame.now in
    let is = c.requires.is in
    named_here m old (at_node f c.args.node []) c.args.name is.0 is.1.0 (node_there m old f c.args.node [] c.requires.there c.requires.node tt) is.1.1

pub returns-clause-does : goal.returns-clause-does
returns-clause-does g c =
    let s = c.args.stops.now in
    function_made g.S.WorldStore.meaning c.args.config.now c.make_function.new.config c.args.frame.now c.args.node c.args.name c.in_ok-function.function s.waits s.top c.requires.is c.in_ok-function.ensures.does
