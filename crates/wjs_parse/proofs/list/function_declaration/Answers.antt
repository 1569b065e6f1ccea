use Rattle.std.proofs.Common.{sym, ◌∙◌, arith}
use Rattle.wjs_parse_expr.proofs.Entries.{entry_ends}
use Rattle.wjs_parse.proofs.Declarations.{declared_nowhere, declared_high, declared_unnamed, declared_found}
use Rattle.wjs_parse.proofs.Making.{declaration_made}
use Rattle.wjs_parse.proofs.list.function_declaration.Goals as goal

pub height-requires : goal.height-requires
height-requires c = (entry_ends c.args.toks.now c.args.functions.now c.args.at c.args.room c.args.nodes.now c.in-Some.function c.in-Some.next c.requires.held (sym c.at.ensures ∙ c.in-Some.is)).2

pub returns-in_default-clause-answer : goal.returns-in_default-clause-answer
returns-in_default-clause-answer c = declared_nowhere c.args.toks.now c.args.functions.now c.args.room c.args.at c.args.nodes.now c.requires.held c.requires.key c.requires.may_begin (sym c.at.ensures ∙ c.in_default.is)

pub returns-then-height-room-clause-answer : goal.returns-then-height-room-clause-answer
returns-then-height-room-clause-answer c =
    declared_high c.args.toks.now c.args.functions.now c.args.room c.args.at c.args.nodes.now c.requires.held c.requires.key c.in-Some.function c.in-Some.next (sym c.at.ensures ∙ c.in-Some.is) c.height.result c.height.ensures.expr (omega arith)

pub declaration_of-requires : goal.declaration_of-requires
declaration_of-requires c = record { there = (entry_ends c.args.toks.now c.args.functions.now c.args.at c.args.room c.args.nodes.now c.in-Some.function c.in-Some.next c.requires.held (sym c.at.ensures ∙ c.in-Some.is)).2 }

pub returns-in_default-2-clause-answer : goal.returns-in_default-2-clause-answer
returns-in_default-2-clause-answer c =
    let g = rw c.in_default-2.is at c.in_ok-made.ensures.answer in
    declared_unnamed c.args.toks.now c.args.functions.now c.args.room c.args.at c.args.nodes.now c.requires.held c.requires.key c.in-Some.function c.in-Some.next (sym c.at.ensures ∙ c.in-Some.is) g

pub add-requires : goal.add-requires
add-requires c = rw c.in-Some-2.is at c.in_ok-made.ensures.below

pub returns-clause-ends : goal.returns-clause-ends
returns-clause-ends c =
    let e = entry_ends c.args.toks.now c.args.functions.now c.args.at c.args.room c.args.nodes.now c.in-Some.function c.in-Some.next c.requires.held (sym c.at.ensures ∙ c.in-Some.is) in
    let k = c.in_ok-node.ensures.ok in
    let n = c.in_ok-node.ensures.longer in
    (e.0, e.1, omega arith)

pub returns-clause-answer : goal.returns-clause-answer
returns-clause-answer c =
    let d = rw c.in-Some-2.is at c.in_ok-made.ensures.answer in
    declared_found c.args.toks.now c.args.functions.now c.args.room c.args.at c.args.nodes.now c.requires.held c.requires.key c.in-Some.function c.in-Some.next (sym c.at.ensures ∙ c.in-Some.is) c.height.result c.height.ensures.expr (omega arith) c.in-Some-2.made d c.add.new.self c.in_ok-node.node c.in_ok-node.ensures.keeps c.in_ok-node.ensures.has

pub returns-clause-own : goal.returns-clause-own
returns-clause-own c =
    let d = rw c.in-Some-2.is at c.in_ok-made.ensures.answer in
    let e = entry_ends c.args.toks.now c.args.functions.now c.args.at c.args.room c.args.nodes.now c.in-Some.function c.in-Some.next c.requires.held (sym c.at.ensures ∙ c.in-Some.is) in
    let e0 = e.0 in
    declaration_made c.args.toks.now c.args.functions.now c.args.at c.args.room c.args.nodes.now c.requires.held c.in-Some.function c.in-Some.next (sym c.at.ensures ∙ c.in-Some.is) (omega arith) c.in-Some-2.made d c.add.new.self c.in_ok-node.node (record { has = c.in_ok-node.ensures.has; is = c.in_ok-node.ensures.ok; keeps = c.in_ok-node.ensures.keeps })
