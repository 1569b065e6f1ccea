use Rattle.std.proofs.Common.{◌+◌, ◌<◌, length, arith}
use Rattle.wjs_tree.specs.declared.tokens.Token.TheVariants as tokens
use Rattle.wjs_tree.specs.declared.keys.Key.TheVariants as keys
use Rattle.wjs_tree.specs.Ends.{Complete}
use Rattle.wjs_parse_expr.proofs.Readings.{token_within}
use Rattle.wjs_parse_simple.specs.declared.kind.Kind.TheVariants as kinds
use Rattle.wjs_parse_simple.proofs.Bounds.{ends_within}
use Rattle.wjs_parse_simple.proofs.Forms.{told}
use Rattle.wjs_parse_simple.specs.Answers.{behind_label}
use Rattle.wjs_parse_simple.proofs.Simple.{continue_found, continue_none, label_within}
use Rattle.wjs_parse_simple.proofs.Making.{continue_made}
use Rattle.wjs_parse_simple.proofs.simple_statements.continue_statement.Goals as goal

pub returns-in_default-clause-answer : goal.returns-in_default-clause-answer
returns-in_default-clause-answer c =
    let d = rw c.behind_label-place.ensures at c.in_default.ensures in
    continue_none c.args.toks.now c.args.room c.args.at c.label_at-label.result c.label_at-label.ensures c.requires.kind d

pub returns-clause-ends : goal.returns-clause-ends
returns-clause-ends c =
    let h : c.args.at < length c.args.toks.now = token_within c.args.toks.now c.args.at (tokens.Key keys.Continue) (told c.args.toks.now c.args.at kinds.Continue c.requires.kind) in
    let d = rw c.behind_label-place.ensures at c.in-Some.ensures in
    let b = label_within c.args.toks.now (c.args.at + 1) c.label_at-label.result (omega arith) c.label_at-label.ensures in
    let w = ends_within c.args.toks.now Complete c.in-Some.ended.end (behind_label c.label_at-label.result (c.args.at + 1)) c.in-Some.ended.next b.1 d in
    let x = w.0 in
    let y = w.1 in
    let z = b.0 in
    let k = c.in_ok-node.ensures.ok in
    let n = c.in_ok-node.ensures.longer in
    (omega arith, omega arith, omega arith)

pub returns-clause-answer : goal.returns-clause-answer
returns-clause-answer c =
    let d = rw c.behind_label-place.ensures at c.in-Some.ensures in
    continue_found c.args.toks.now c.args.room c.args.at c.label_at-label.result c.label_at-label.ensures c.add.new.self c.in-Some.ended c.in_ok-node.node c.requires.below c.requires.kind d c.in_ok-node.ensures.has

pub returns-clause-own : goal.returns-clause-own
returns-clause-own c =
    let e = returns-clause-ends c in
    let e0 = e.0 in
    λ functions. continue_made functions c.args.nodes.now c.add.new.self c.args.at c.in-Some.ended.next c.in_ok-node.node c.label_at-label.result c.in-Some.ended.end (omega arith) (record { has = c.in_ok-node.ensures.has; is = c.in_ok-node.ensures.ok; keeps = c.in_ok-node.ensures.keeps })
