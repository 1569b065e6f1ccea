use Rattle.std.proofs.Common.{sym, ap, ◌∙◌, subst}
use Rattle.wjs_overlay.specs.Covers.{covers, IsRising}
use Rattle.wjs_overlay.proofs.bounds.reach_child.Goals as goal

pub covers-requires : goal.covers-requires
covers-requires c = subst IsRising (sym c.as_slice.ensures.value) c.requires.rising

pub returns-then-covers-clause-reached : goal.returns-then-covers-clause-reached
returns-then-covers-clause-reached c = ap (λ xs. covers xs c.args.place c.args.serial) (sym c.as_slice.ensures.value) ∙ sym c.covers.ensures ∙ c.if-covers.true
