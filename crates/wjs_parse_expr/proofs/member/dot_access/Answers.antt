use Rattle.wjs_parse_expr.proofs.Suffixes.{dot_grows}
use Rattle.wjs_parse_expr.proofs.member.dot_access.Goals as goal

pub returns-clause-answer : goal.returns-clause-answer
returns-clause-answer c functions =
    let k = c.in_ok-node.ensures in
    dot_grows c.args.toks.now c.args.calls c.args.room functions c.args.left c.in-Some.name c.in_ok-node.node c.args.nodes.now c.add.new.self c.requires.sign c.in-Some.ensures c.requires.below k.keeps k.has k.ok
