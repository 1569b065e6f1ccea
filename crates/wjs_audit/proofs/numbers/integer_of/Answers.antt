use Rattle.std.proofs.Common.{drop, ap, sym, ◌∙◌}
use Rattle.std.specs.Prelude.{decimal}
use Rattle.std.proofs.lemmas.List.{take_rest}
use Rattle.wjs_audit.proofs.Integers.{minus_none, zero_none}
use Rattle.wjs_audit.proofs.numbers.integer_of.Goals as goal

pub returns-in_err-size-2 : goal.returns-in_err-size-2
returns-in_err-size-2 c = rw c.from_residual-in_err-size-2.ensures (minus_none c.args.part.now c.if-part-ne-MINUS.false (λ n some small e. c.in_err-size-2.ensures n small (take_rest c.args.part.now 1 ∙ e)))

pub returns-then-size-eq0 : goal.returns-then-size-eq0
returns-then-size-eq0 c =
    minus_none c.args.part.now c.if-part-ne-MINUS.false (λ n some small e. zero_none (drop 1 c.args.part.now) n (sym (take_rest c.args.part.now 1) ∙ c.in_ok-size-2.ensures.1 ∙ ap decimal c.if-size-eq0.true) some small e)
