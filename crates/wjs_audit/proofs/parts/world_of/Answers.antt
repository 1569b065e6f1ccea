use Rattle.wjs_audit.proofs.parts.world_of.Goals as goal

pub returns-in_err-owner : goal.returns-in_err-owner
returns-in_err-owner c = rw c.from_residual.ensures (λ w fits e. c.in_err-owner.ensures (w.owner, w.serial) fits e)
