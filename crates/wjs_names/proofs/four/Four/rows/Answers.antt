use Rattle.std.proofs.Common.{[], ◌∷◌}
use Rattle.wjs_names.proofs.four.Four.rows.Goals as goal

pub returns : goal.returns
returns g c = λ i.
    (c.short.ensures i, c.args.self.now.values.first)
    ∷ (c.short-2.ensures i, c.args.self.now.values.second)
    ∷ (c.short-3.ensures i, c.args.self.now.values.third)
    ∷ (c.short-4.ensures i, c.args.self.now.values.fourth)
    ∷ []
