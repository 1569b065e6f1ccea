use Rattle.std.proofs.Common.{length, arith}
use Rattle.wjs_parse_expr.proofs.Entries.{below_more}
use Rattle.wjs_parse.proofs.list.declaration_of.Goals as goal

pub returns-in_ok-copied-in-Function-Some-default-default-2-clause-below : goal.returns-in_ok-copied-in-Function-Some-default-default-2-clause-below
returns-in_ok-copied-in-Function-Some-default-default-2-clause-below c =
    let t = c.requires.there in
    let b = rw c.in-Function-Some-default-default.is at c.node.ensures.below in
    rw c.in_ok-copied-in-Function-Some-default-default-2.ensures (below_more c.args.function.0 (length c.args.nodes.now) _ (omega arith) b)
