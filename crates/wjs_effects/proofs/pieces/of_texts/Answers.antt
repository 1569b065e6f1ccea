use Rattle.std.proofs.Common.{None, ◌∙◌}
use Rattle.wjs_by_content.specs.Tables.{value_in}
use Rattle.wjs_effects.specs.declared.effect.Pieces.{Pieces}
use Rattle.wjs_effects.specs.Making.{spelled, joined}
use Rattle.wjs_effects.proofs.Joining.{join_gives, two_joined}
use Rattle.wjs_effects.proofs.pieces.of_texts.Goals as goal

pub returns-clause-ends : goal.returns-clause-ends
returns-clause-ends g c = λ t more env.
    let l = c.args.left in
    let r = c.args.right in
    let p : Pieces = record { first = l; second = r; third = None; fourth = None } in
    join_gives (value_in t l) (value_in t r) env (joined t p) (c.are_primitives.ensures.first c.if-not-are_primitives.false t) (c.are_primitives.ensures.second c.if-not-are_primitives.false t) (c.has_text.ensures t ∙ c.if-not-has_text.false) (two_joined (spelled t l) (spelled t r)) (c.fits.ensures c.if-not-fits.false t more)

pub returns-clause-found : goal.returns-clause-found
returns-clause-found g c = ((c.requires.left, (c.requires.right, (tt, tt))), c.fits.ensures c.if-not-fits.false)

pub fits-requires-clause-values : goal.fits-requires-clause-values
fits-requires-clause-values g c = (c.requires.left, (c.requires.right, (tt, tt)))
