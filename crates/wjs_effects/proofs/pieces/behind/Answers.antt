use Rattle.std.proofs.Common.{refl, ◌∙◌}
use Rattle.wjs_by_content.specs.Tables.{value_in}
use Rattle.wjs_by_content.specs.Values.{String}
use Rattle.wjs_effects.specs.Making.{joined}
use Rattle.wjs_effects.proofs.Joining.{join_gives}
use Rattle.wjs_effects.proofs.pieces.behind.Goals as goal

pub returns-clause-ends : goal.returns-clause-ends
returns-clause-ends g c = λ t more env.
    join_gives (String (joined t c.args.pieces)) (value_in t c.args.right) env (joined t c.in_ok-more.more) refl (c.is_object.ensures t ∙ c.if-is_object.false) refl (c.in_ok-more.ensures.text t) (c.fits.ensures c.if-not-fits.false t more)

pub returns-clause-found : goal.returns-clause-found
returns-clause-found g c = (c.in_ok-more.ensures.found, c.fits.ensures c.if-not-fits.false)

pub longer-requires-clause-values : goal.longer-requires-clause-values
longer-requires-clause-values g c = c.requires.pieces.0
