use Rattle.std.proofs.Common.{sym, subst, arith}
use Rattle.wjs_options.specs.Lines.{HasNoLineFeed}
use Rattle.wjs_options.proofs.LineLemmas.{none_at_all, none_before}
use Rattle.wjs_options.proofs.line.first_line.Goals as goal

pub returns-in-Some : goal.returns-in-Some
returns-in-Some c =
    let found = c.in-Some.ensures.byte (omega arith) (λ w o h. h) in
    rw c.in-Some.first-is (subst HasNoLineFeed (sym found.0) (none_before c.args.text.now))

pub returns-in-None : goal.returns-in-None
returns-in-None c =
    none_at_all c.args.text.now (c.in-None.ensures.byte (omega arith) (λ w o h. h))
