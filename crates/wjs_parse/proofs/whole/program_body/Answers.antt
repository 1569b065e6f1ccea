use Rattle.std.proofs.Common.{false, arith}
use Rattle.wjs_parse_expr.proofs.Places.{first}
use Rattle.wjs_parse.proofs.Functions.{elements_there, jumps_of}
use Rattle.wjs_parse.proofs.Programs.{program_none, program_longer, program_astray, program_found}
use Rattle.wjs_parse.proofs.whole.program_body.Goals as goal

pub returns-in_default-clause-answer : goal.returns-in_default-clause-answer
returns-in_default-clause-answer c = program_none c.args.toks.now (rw c.in_default.is at c.in_ok-found.ensures.answer)

pub returns-then-found-toks-clause-answer : goal.returns-then-found-toks-clause-answer
returns-then-found-toks-clause-answer c =
    let f = rw c.in-Some.is at c.in_ok-found.ensures.answer in
    program_longer c.args.toks.now c.source_elements.new.nodes c.in-Some.found f c.if-found-toks.true

pub jumps_are_right-requires : goal.jumps_are_right-requires
jumps_are_right-requires c =
    let f = rw c.in-Some.is at c.in_ok-found.ensures.answer in
    elements_there c.args.toks.now 200 0 c.source_elements.new.nodes c.in-Some.found _ f (omega arith) c.as_slice.ensures

pub returns-then-not-jumps_are_right-clause-answer : goal.returns-then-not-jumps_are_right-clause-answer
returns-then-not-jumps_are_right-clause-answer c =
    let f = rw c.in-Some.is at c.in_ok-found.ensures.answer in
    let j = jumps_of c.args.toks.now 200 0 c.source_elements.new.nodes c.in-Some.found _ false c.jumps_are_right.result f c.as_slice.ensures c.jumps_are_right.ensures in
    program_astray c.args.toks.now c.source_elements.new.nodes c.in-Some.found f (λ h. absurd (let a = j.1 h in let b = c.if-not-jumps_are_right.true in cc))

pub returns-clause-answer : goal.returns-clause-answer
returns-clause-answer c =
    let f = rw c.in-Some.is at c.in_ok-found.ensures.answer in
    let o = rw c.in-Some.is at c.in_ok-found.ensures.own in
    let j = jumps_of c.args.toks.now 200 0 c.source_elements.new.nodes c.in-Some.found _ false c.jumps_are_right.result f c.as_slice.ensures c.jumps_are_right.ensures in
    program_found c.args.toks.now c.source_elements.new.nodes c.in-Some.found f c.if-found-toks.false (j.0 (let b = c.if-not-jumps_are_right.false in cc)) c.in_ok-functions.functions c.functions.new.nodes o c.add.new.self c.in_ok-node.node
    (record { has = c.in_ok-node.ensures.has; is = c.in_ok-node.ensures.ok; keeps = c.in_ok-node.ensures.keeps })

pub source_elements-requires-clause-may_begin : goal.source_elements-requires-clause-may_begin
source_elements-requires-clause-may_begin c = first c.args.toks.now
