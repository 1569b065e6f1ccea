use Rattle.std.proofs.Common.{◌+◌, arith}
use Rattle.wjs_parse_simple.proofs.Bounds.{ends_within}
use Rattle.wjs_parse_simple.specs.Readings.{ending_of}
use Rattle.wjs_parse_simple.proofs.Declarations.{var_found, var_none, var_open}
use Rattle.wjs_parse_simple.proofs.Making.{var_made}
use Rattle.wjs_parse_simple.proofs.simple_statements.variable_statement.Goals as goal

pub returns-in_default-clause-answer : goal.returns-in_default-clause-answer
returns-in_default-clause-answer c =
    let f = rw c.in_default.is at c.in_ok-found.ensures.answer in
    var_none c.args.toks.now c.args.room c.args.at c.requires.kind f

pub returns-in_default-end_at-clause-answer : goal.returns-in_default-end_at-clause-answer
returns-in_default-end_at-clause-answer c =
    let f = rw c.in-Some.is at c.in_ok-found.ensures.answer in
    var_open c.args.toks.now c.args.room c.args.at c.requires.kind c.variable_declarations.new.nodes c.in-Some.found f c.in_default-end_at.ensures

pub returns-clause-ends : goal.returns-clause-ends
returns-clause-ends c =
    let e = rw c.in-Some.is at c.in_ok-found.ensures.ends in
    let x = e.0 in
    let y = e.1 in
    let w = ends_within c.args.toks.now (ending_of c.in-Some.found.stop) c.in-Some-end_at.ended.end c.in-Some.found.next c.in-Some-end_at.ended.next e.1 c.in-Some-end_at.ensures in
    let z = w.0 in
    let v = w.1 in
    let k = c.in_ok-node.ensures.ok in
    let n = c.in_ok-node.ensures.longer in
    (omega arith, omega arith, omega arith)

pub returns-clause-answer : goal.returns-clause-answer
returns-clause-answer c =
    let f = rw c.in-Some.is at c.in_ok-found.ensures.answer in
    var_found c.args.toks.now c.args.room c.args.at c.requires.kind c.variable_declarations.new.nodes c.in-Some.found f c.add.new.self c.in-Some-end_at.ended c.in_ok-node.node c.requires.below c.in-Some-end_at.ensures c.in_ok-node.ensures.keeps c.in_ok-node.ensures.has

pub returns-clause-own : goal.returns-clause-own
returns-clause-own c =
    let f = rw c.in-Some.is at c.in_ok-found.ensures.own in
    let e = rw c.in-Some.is at c.in_ok-found.ensures.ends in
    let w = ends_within c.args.toks.now (ending_of c.in-Some.found.stop) c.in-Some-end_at.ended.end c.in-Some.found.next c.in-Some-end_at.ended.next e.1 c.in-Some-end_at.ensures in
    let z = w.0 in
    var_made c.args.toks.now c.args.functions.now c.args.at c.args.room c.args.nodes.now c.requires.held c.variable_declarations.new.nodes c.add.new.self c.args.at (c.args.at + 1) c.in-Some.found.next c.in-Some-end_at.ended.next c.in_ok-node.node (omega arith) (omega arith) c.in-Some.found.list c.in-Some-end_at.ended.end f (record { has = c.in_ok-node.ensures.has; is = c.in_ok-node.ensures.ok; keeps = c.in_ok-node.ensures.keeps })
