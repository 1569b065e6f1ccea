-- The handlers of `try`.
use Rattle.std.specs.Prelude.{Option, None}
use Rattle.wjs_tree.specs.declared.node.Handler.{Handler}
use Rattle.wjs_tree.specs.declared.node.Node.{Node}
use Rattle.wjs_tree.specs.declared.node.Node.TheVariants.{Try}

-- the handler of a `try`, where it has one
abbrev pub catch_in : Node → Option Handler
catch_in (Try b handler last) = handler
catch_in node = None
