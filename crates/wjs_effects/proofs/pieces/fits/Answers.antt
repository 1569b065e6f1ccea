use Rattle.std.proofs.Common.{leb-true}
use Rattle.wjs_effects.specs.Making.{spelled, spelled_if}
use Rattle.wjs_effects.proofs.Joining.{all_short}
use Rattle.wjs_effects.proofs.pieces.fits.Goals as goal

pub returns : goal.returns
returns g c = λ e t more.
    let p = c.args.pieces in
    all_short (spelled t p.first) (spelled t p.second) (spelled_if t p.third) (spelled_if t p.fourth) c.most_units.result c.most_units-2.result c.most_if.result c.most_if-2.result (c.most_units.ensures.most t more) (c.most_units-2.ensures.most t more) (c.most_if.ensures.most t more) (c.most_if-2.ensures.most t more) (leb-true _ _ e)

pub most_units-requires-clause-value : goal.most_units-requires-clause-value
most_units-requires-clause-value g c = c.requires.values.0

pub most_units-requires-2-clause-value : goal.most_units-requires-2-clause-value
most_units-requires-2-clause-value g c = c.requires.values.1.0

pub most_if-requires-clause-piece : goal.most_if-requires-clause-piece
most_if-requires-clause-piece g c = c.requires.values.1.1.0

pub most_if-requires-2-clause-piece : goal.most_if-requires-2-clause-piece
most_if-requires-2-clause-piece g c = c.requires.values.1.1.1
