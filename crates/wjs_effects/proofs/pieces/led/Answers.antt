use Rattle.wjs_effects.specs.Making.{spelled}
use Rattle.wjs_effects.proofs.Joining.{before_three}
use Rattle.wjs_effects.proofs.pieces.led.Goals as goal

pub returns-in-None-clause-text : goal.returns-in-None-clause-text
returns-in-None-clause-text g c = λ t.
    let p = c.args.pieces in
    before_three t (spelled t c.args.first) (spelled t p.first) (spelled t p.second) p.third p.fourth c.in-None.is

pub returns-in-None-clause-found : goal.returns-in-None-clause-found
returns-in-None-clause-found g c =
    let v = c.requires.values in
    (c.requires.first, (v.0, (v.1.0, v.1.1.0)))
