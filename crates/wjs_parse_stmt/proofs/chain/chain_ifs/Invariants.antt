use Rattle.std.proofs.Common.{◌<◌, length}
use Rattle.wjs_tree.specs.Shows.{Keeps}
use Rattle.wjs_parse_stmt.specs.Chains.{BranchesBelow}
use Rattle.wjs_parse_stmt.proofs.Chaining.{Building}
use Rattle.wjs_parse_stmt.proofs.Weaving.{Weaving}
use Rattle.wjs_parse_stmt.proofs.chain.chain_ifs.Given as goal

abbrev pub invariant-loop-head : goal.invariant-loop-head
invariant-loop-head l =
    Building l.fn.nodes l.fn.heads.items l.fn.last l.nodes l.left.items l.node × Keeps l.fn.nodes l.nodes × BranchesBelow (length l.nodes) l.left.items × (l.node.0 < length l.nodes)
    × Weaving l.fn.nodes l.fn.heads.items l.fn.last l.nodes l.left.items l.node

abbrev pub decreases-loop-head : goal.decreases-loop-head
decreases-loop-head l = length l.left.items
