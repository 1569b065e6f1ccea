use Rattle.wjs_parse.proofs.Declarations.{plain_found, plain_none}
use Rattle.wjs_parse.proofs.Making.{plain_made}
use Rattle.wjs_parse.proofs.list.source_element.Goals as goal

pub returns-in_default-clause-answer : goal.returns-in_default-clause-answer
returns-in_default-clause-answer c =
    let g = rw c.in_default.is at c.in_ok-found.ensures.answer in
    plain_none c.args.toks.now c.args.room c.args.at (λ h. absurd (let a = c.has_key.ensures.1 h in let b = c.if-has_key.false in cc)) g

pub returns-clause-answer : goal.returns-clause-answer
returns-clause-answer c =
    let f = rw c.in-Some.is at c.in_ok-found.ensures.answer in
    plain_found c.args.toks.now c.args.room c.args.at (λ h. absurd (let a = c.has_key.ensures.1 h in let b = c.if-has_key.false in cc)) c.statement.new.nodes c.in-Some.found f

pub returns-clause-ends : goal.returns-clause-ends
returns-clause-ends c = rw c.in-Some.is at c.in_ok-found.ensures.ends

pub returns-clause-own : goal.returns-clause-own
returns-clause-own c =
    plain_made c.args.functions.now c.args.nodes.now c.statement.new.nodes c.args.at c.in-Some.found.next c.in-Some.found.node (rw c.in-Some.is at c.in_ok-found.ensures.own)
