use Rattle.std.proofs.Common.{◌-◌, ◌∙◌, ap, sym, arith}
use Rattle.wjs_slots.proofs.Counts.{some_counted, one_less, none_less}
use Rattle.wjs_slots.proofs.table.Table.remove.Goals as goal

pub overflow_sub-self : goal.overflow_sub-self
overflow_sub-self g c = omega (arith, c.self.invariant, some_counted c.self.inside.parts c.args.slot (sym c.in_ok-found.ensures.found ∙ c.if-found.true))

pub invariant_of-self-then-found : goal.invariant_of-self-then-found
invariant_of-self-then-found g c =
    ap (λ n. n - 1) c.self.invariant
    ∙ one_less c.self.inside.parts c.args.slot c.remove.new.self c.in_ok-found.ensures.removed (sym c.in_ok-found.ensures.found ∙ c.if-found.true)

pub invariant_of-self-else-found : goal.invariant_of-self-else-found
invariant_of-self-else-found g c =
    c.self.invariant
    ∙ none_less c.self.inside.parts c.args.slot c.remove.new.self c.in_ok-found.ensures.removed (sym c.in_ok-found.ensures.found ∙ c.if-found.false)
