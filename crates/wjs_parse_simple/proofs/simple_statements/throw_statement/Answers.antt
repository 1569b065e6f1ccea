use Rattle.std.proofs.Common.{◌+◌, ◌<◌, length, arith, rules, sym, ◌∙◌}
use Rattle.wjs_tree.specs.declared.tokens.Token.TheVariants as tokens
use Rattle.wjs_tree.specs.declared.keys.Key.TheVariants as keys
use Rattle.wjs_parse_expr.proofs.Readings.{token_within}
use Rattle.wjs_parse_simple.specs.declared.kind.Kind.TheVariants as kinds
use Rattle.wjs_parse_simple.proofs.Forms.{told}
use Rattle.wjs_parse_simple.proofs.Simple.{throw_found, throw_none, throw_apart}
use Rattle.wjs_parse_simple.proofs.Making.{throw_made}
use Rattle.wjs_parse_expr.proofs.Places.{behind_key}
use Rattle.wjs_parse_simple.proofs.simple_statements.throw_statement.Goals as goal

pub returns-then-not-is_joined-clause-answer : goal.returns-then-not-is_joined-clause-answer
returns-then-not-is_joined-clause-answer c = throw_apart c.args.toks.now c.args.room c.args.at c.requires.kind (sym c.is_joined.ensures ∙ c.if-not-is_joined.true)

pub overflow_add-at-2 : goal.overflow_add-at-2
overflow_add-at-2 c =
    let h : c.args.at < length c.args.toks.now = token_within c.args.toks.now c.args.at (tokens.Key keys.Throw) (told c.args.toks.now c.args.at kinds.Throw c.requires.kind) in search rules

pub returns-in_default-clause-answer : goal.returns-in_default-clause-answer
returns-in_default-clause-answer c =
    let f = rw c.in_default.is at c.in_ok-value.ensures.answer in
    throw_none c.args.toks.now c.args.room c.args.at c.requires.kind f

pub returns-clause-ends : goal.returns-clause-ends
returns-clause-ends c =
    let e = rw c.in-Some.is at c.in_ok-value.ensures.ends in
    let x = e.0 in
    let y = e.1 in
    let k = c.in_ok-node.ensures.ok in
    let n = c.in_ok-node.ensures.longer in
    (omega arith, omega arith, omega arith)

pub returns-clause-answer : goal.returns-clause-answer
returns-clause-answer c =
    let f = rw c.in-Some.is at c.in_ok-value.ensures.answer in
    throw_found c.args.toks.now c.args.room c.args.at c.expression_and_end.new.nodes c.add.new.self c.in-Some.value c.in_ok-node.node c.requires.below c.requires.kind (sym c.is_joined.ensures ∙ c.if-not-is_joined.false) f c.in_ok-node.ensures.keeps c.in_ok-node.ensures.has

pub returns-clause-own : goal.returns-clause-own
returns-clause-own c =
    let f = rw c.in-Some.is at c.in_ok-value.ensures.own in
    throw_made c.args.toks.now c.args.functions.now c.args.at c.args.room c.args.nodes.now c.requires.held c.expression_and_end.new.nodes c.add.new.self c.args.at (c.args.at + 1) c.in-Some.value.next c.in-Some.value.next c.in_ok-node.node (omega arith) (omega arith) c.in-Some.value.node c.in-Some.value.end f (record { has = c.in_ok-node.ensures.has; is = c.in_ok-node.ensures.ok; keeps = c.in_ok-node.ensures.keeps })

pub expression_and_end-requires-clause-may_begin : goal.expression_and_end-requires-clause-may_begin
expression_and_end-requires-clause-may_begin c = behind_key c.args.toks.now c.args.at keys.Throw (told c.args.toks.now c.args.at kinds.Throw c.requires.kind)
