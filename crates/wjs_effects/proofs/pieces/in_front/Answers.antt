use Rattle.std.proofs.Common.{◌≡◌, ◌||◌, Bool, true, false, refl, ◌∙◌}
use Rattle.wjs_by_content.specs.Conversions.{is_text}
use Rattle.wjs_by_content.specs.Tables.{value_in}
use Rattle.wjs_by_content.specs.Values.{String}
use Rattle.wjs_effects.specs.Making.{joined}
use Rattle.wjs_effects.proofs.Joining.{join_gives}
use Rattle.wjs_effects.proofs.pieces.in_front.Goals as goal

or_true : (b : Bool) → (b || true) ≡ true
or_true true = refl
or_true false = refl

pub returns-clause-ends : goal.returns-clause-ends
returns-clause-ends g c = λ t more env.
    join_gives (value_in t c.args.left) (String (joined t c.args.pieces)) env (joined t c.in_ok-more.more) (c.is_object.ensures t ∙ c.if-is_object.false) refl (or_true (is_text (value_in t c.args.left))) (c.in_ok-more.ensures.text t) (c.fits.ensures c.if-not-fits.false t more)

pub returns-clause-found : goal.returns-clause-found
returns-clause-found g c = (c.in_ok-more.ensures.found, c.fits.ensures c.if-not-fits.false)

pub led-requires-clause-values : goal.led-requires-clause-values
led-requires-clause-values g c = c.requires.pieces.0
