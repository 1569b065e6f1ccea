use Rattle.std.proofs.Common.{◌+◌, ◌<◌, length, arith, rules, sym, ◌∙◌}
use Rattle.wjs_tree.specs.declared.tokens.Token.TheVariants as tokens
use Rattle.wjs_tree.specs.declared.keys.Key.TheVariants as keys
use Rattle.wjs_tree.specs.Ends.{Complete}
use Rattle.wjs_parse_expr.proofs.Readings.{token_within}
use Rattle.wjs_parse_simple.specs.declared.kind.Kind.TheVariants as kinds
use Rattle.wjs_parse_simple.proofs.Bounds.{ends_within}
use Rattle.wjs_parse_simple.proofs.Forms.{told}
use Rattle.wjs_parse_simple.proofs.Simple.{bare_return, return_found, return_none}
use Rattle.wjs_parse_simple.proofs.Making.{bare_return_made, return_made}
use Rattle.wjs_parse_expr.proofs.Places.{behind_key}
use Rattle.wjs_parse_simple.proofs.simple_statements.return_statement.Goals as goal

pub overflow_add-at-2 : goal.overflow_add-at-2
overflow_add-at-2 c =
    let h : c.args.at < length c.args.toks.now = token_within c.args.toks.now c.args.at (tokens.Key keys.Return) (told c.args.toks.now c.args.at kinds.Return c.requires.kind) in search rules

pub overflow_add-at-3 : goal.overflow_add-at-3
overflow_add-at-3 c =
    let h : c.args.at < length c.args.toks.now = token_within c.args.toks.now c.args.at (tokens.Key keys.Return) (told c.args.toks.now c.args.at kinds.Return c.requires.kind) in search rules

pub returns-in-Some-clause-ends : goal.returns-in-Some-clause-ends
returns-in-Some-clause-ends c =
    let h : c.args.at < length c.args.toks.now = token_within c.args.toks.now c.args.at (tokens.Key keys.Return) (told c.args.toks.now c.args.at kinds.Return c.requires.kind) in
    let w = ends_within c.args.toks.now Complete c.in-Some.ended.end (c.args.at + 1) c.in-Some.ended.next (omega arith) c.in-Some.ensures in
    let x = w.0 in
    let y = w.1 in
    let k = c.in_ok-node.ensures.ok in
    let n = c.in_ok-node.ensures.longer in
    (omega arith, omega arith, omega arith)

pub returns-in-Some-clause-answer : goal.returns-in-Some-clause-answer
returns-in-Some-clause-answer c = bare_return c.args.toks.now c.args.room c.args.at c.add.new.self c.in-Some.ended c.in_ok-node.node c.requires.below c.requires.kind c.in-Some.ensures c.in_ok-node.ensures.has

pub returns-then-not-is_joined-clause-answer : goal.returns-then-not-is_joined-clause-answer
returns-then-not-is_joined-clause-answer c =
    return_none c.args.toks.now c.args.room c.args.at c.requires.kind c.in_default.ensures (λ u end m j v. absurd (let a = sym c.is_joined.ensures ∙ c.if-not-is_joined.true in cc))

pub returns-in_default-2-clause-answer : goal.returns-in_default-2-clause-answer
returns-in_default-2-clause-answer c =
    let f = rw c.in_default-2.is at c.in_ok-value.ensures.answer in
    return_none c.args.toks.now c.args.room c.args.at c.requires.kind c.in_default.ensures (λ u end m j v. f u end m v)

pub returns-clause-ends : goal.returns-clause-ends
returns-clause-ends c =
    let e = rw c.in-Some-2.is at c.in_ok-value.ensures.ends in
    let x = e.0 in
    let y = e.1 in
    let k = c.in_ok-node-2.ensures.ok in
    let n = c.in_ok-node-2.ensures.longer in
    (omega arith, omega arith, omega arith)

pub returns-clause-answer : goal.returns-clause-answer
returns-clause-answer c =
    let f = rw c.in-Some-2.is at c.in_ok-value.ensures.answer in
    return_found c.args.toks.now c.args.room c.args.at c.expression_and_end.new.nodes c.add-2.new.self c.in-Some-2.value c.in_ok-node-2.node c.requires.below c.requires.kind c.in_default.ensures (sym c.is_joined.ensures ∙ c.if-not-is_joined.false) f c.in_ok-node-2.ensures.keeps c.in_ok-node-2.ensures.has

pub returns-in-Some-clause-own : goal.returns-in-Some-clause-own
returns-in-Some-clause-own c =
    let e = returns-in-Some-clause-ends c in
    let e0 = e.0 in
    bare_return_made c.args.functions.now c.args.nodes.now c.add.new.self c.args.at c.in-Some.ended.next c.in_ok-node.node c.in-Some.ended.end (omega arith) (record { has = c.in_ok-node.ensures.has; is = c.in_ok-node.ensures.ok; keeps = c.in_ok-node.ensures.keeps })

pub returns-clause-own : goal.returns-clause-own
returns-clause-own c =
    let f = rw c.in-Some-2.is at c.in_ok-value.ensures.own in
    return_made c.args.toks.now c.args.functions.now c.args.at c.args.room c.args.nodes.now c.requires.held c.expression_and_end.new.nodes c.add-2.new.self c.args.at (c.args.at + 1) c.in-Some-2.value.next c.in-Some-2.value.next c.in_ok-node-2.node (omega arith) (omega arith) c.in-Some-2.value.node c.in-Some-2.value.end f (record { has = c.in_ok-node-2.ensures.has; is = c.in_ok-node-2.ensures.ok; keeps = c.in_ok-node-2.ensures.keeps })

pub expression_and_end-requires-clause-may_begin : goal.expression_and_end-requires-clause-may_begin
expression_and_end-requires-clause-may_begin c = behind_key c.args.toks.now c.args.at keys.Return (told c.args.toks.now c.args.at kinds.Return c.requires.kind)
