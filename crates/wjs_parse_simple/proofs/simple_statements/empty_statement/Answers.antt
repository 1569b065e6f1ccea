use Rattle.std.proofs.Common.{◌+◌, ◌<◌, length, arith}
use Rattle.wjs_tree.specs.declared.tokens.Token.TheVariants as tokens
use Rattle.wjs_parse_expr.proofs.Readings.{token_within}
use Rattle.wjs_parse_simple.specs.declared.kind.Kind.TheVariants as kinds
use Rattle.wjs_parse_simple.proofs.Forms.{told}
use Rattle.wjs_tree.specs.declared.signs.Sign.TheVariants as signs
use Rattle.wjs_parse_simple.proofs.Simple.{empty_found}
use Rattle.wjs_parse_simple.proofs.Making.{empty_made}
use Rattle.wjs_parse_simple.proofs.simple_statements.empty_statement.Goals as goal

pub returns-clause-ends : goal.returns-clause-ends
returns-clause-ends c =
    let h : c.args.at < length c.args.toks.now = token_within c.args.toks.now c.args.at (tokens.Sign signs.Semicolon) (told c.args.toks.now c.args.at kinds.Empty c.requires.kind) in
    let k = c.in_ok-node.ensures.ok in
    let n = c.in_ok-node.ensures.longer in
    (omega arith, omega arith, omega arith)

pub returns-clause-answer : goal.returns-clause-answer
returns-clause-answer c = empty_found c.args.toks.now c.args.room c.args.at c.add.new.self c.in_ok-node.node c.requires.below c.requires.kind c.in_ok-node.ensures.has

pub returns-clause-own : goal.returns-clause-own
returns-clause-own c =
    λ functions.
    empty_made functions c.args.nodes.now c.add.new.self c.args.at (c.args.at + 1) c.in_ok-node.node (omega arith) (record { has = c.in_ok-node.ensures.has; is = c.in_ok-node.ensures.ok; keeps = c.in_ok-node.ensures.keeps })
