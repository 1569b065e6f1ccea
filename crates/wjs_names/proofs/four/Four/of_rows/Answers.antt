use Rattle.std.proofs.Common.{[], ◌∷◌}
use Rattle.wjs_names.proofs.four.Four.of_rows.Goals as goal

pub returns : goal.returns
returns g c = λ i.
    (c.in_ok-first_name.ensures i, c.args.first.1)
    ∷ (c.in_ok-second_name.ensures i, c.args.second.1)
    ∷ (c.in_ok-third_name.ensures i, c.args.third.1)
    ∷ (c.in_ok-fourth_name.ensures i, c.args.fourth.1)
    ∷ []
