use Rattle.std.proofs.Common.{ap, ◌∙◌, false}
use Rattle.wjs_store.specs.Fixed.{fixed, begun}
use Rattle.wjs_overlay.proofs.overlay.Overlay.new.Goals as goal

pub returns : goal.returns
returns c = c.in_ok-store.ensures ∙ ap (λ w. fixed (begun w) false) c.first_world.ensures
