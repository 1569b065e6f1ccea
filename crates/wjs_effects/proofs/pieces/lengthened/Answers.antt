use Rattle.std.proofs.Common.{◌++◌, Option, subst}
use Rattle.wjs_base.specs.declared.values.Value.{Value}
use Rattle.wjs_effects.specs.Making.{spelled, HasIf}
use Rattle.wjs_effects.proofs.Joining.{behind_two, behind_three}
use Rattle.wjs_effects.proofs.pieces.lengthened.Goals as goal

pub returns-in-None-clause-text : goal.returns-in-None-clause-text
returns-in-None-clause-text g c = λ t.
    let p = c.args.pieces in
    behind_two t (spelled t p.first ++ spelled t p.second) (spelled t c.args.last) p.third p.fourth c.in-None.is c.requires.three

pub returns-in-None-clause-found : goal.returns-in-None-clause-found
returns-in-None-clause-found g c = (c.requires.values.0, (c.requires.values.1.0, (c.requires.last, tt)))

pub returns-in-Some-clause-text : goal.returns-in-Some-clause-text
returns-in-Some-clause-text g c = λ t.
    let p = c.args.pieces in
    behind_three t (spelled t p.first ++ spelled t p.second) (spelled t c.args.last) p.third p.fourth c.in-Some.third c.in-Some.is c.requires.three

pub returns-in-Some-clause-found : goal.returns-in-Some-clause-found
returns-in-Some-clause-found g c =
    let third = subst (λ (o : Option Value). HasIf c.args.config.now o) c.in-Some.is c.requires.values.1.1.0 in
    (c.requires.values.0, (c.requires.values.1.0, (third, c.requires.last)))
