use Rattle.std.proofs.Common.{◌-◌, ◌≤◌, sym, ◌∙◌, arith}
use Rattle.wjs_overlay.proofs.Covering.{below_last, slice_none}
use Rattle.wjs_overlay.proofs.bounds.greater.Goals as goal

pub returns-in-None-clause-all : goal.returns-in-None-clause-all
returns-in-None-clause-all c = λ k b s. slice_none c.args.bounds.now k b (sym (c.in-None.ensures ∙ c.last.ensures.value)) s

pub returns-in-Some-clause-all : goal.returns-in-Some-clause-all
returns-in-Some-clause-all c = λ k b s.
    let l : b.serial ≤ c.in-Some.last.serial = below_last c.args.bounds.now c.requires c.in-Some.last (sym (c.in-Some.ensures ∙ c.last.ensures.value)) k b s in
    omega (arith, c.max.ensures)
