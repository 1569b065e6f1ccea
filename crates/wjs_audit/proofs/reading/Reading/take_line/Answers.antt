use Rattle.wjs_audit.proofs.Taking.{no_first}
use Rattle.wjs_audit.proofs.reading.Reading.take_line.Goals as goal

pub returns : goal.returns
returns c =
    let none = rw c.if-branch.false at c.in_ok-add_line.ensures in
    no_first c.args.self.now.known c.args.rest.now c.in-Some.line.now c.in-Some.behind.now c.in-Some.ensures.some.0 c.in-Some.ensures.some.1 none
