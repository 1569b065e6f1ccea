use Rattle.std.proofs.Common.{◌+◌, ◌∙◌, ap, sym}
use Rattle.wjs_slots.proofs.Counts.{one_more, none_more}
use Rattle.wjs_slots.proofs.walked.Walked.set.Goals as goal

pub invariant_of-self-then-added : goal.invariant_of-self-then-added
invariant_of-self-then-added g c =
    ap (λ n. n + 1) c.self.invariant
    ∙ one_more c.self.inside.parts c.args.slot c.args.value c.set.new.self c.in_ok-added.ensures.ok (sym c.if-added.true ∙ c.in_ok-added.ensures.added)

pub invariant_of-self-else-added : goal.invariant_of-self-else-added
invariant_of-self-else-added g c =
    c.self.invariant
    ∙ none_more c.self.inside.parts c.args.slot c.args.value c.set.new.self c.in_ok-added.ensures.ok (sym c.if-added.false ∙ c.in_ok-added.ensures.added)
