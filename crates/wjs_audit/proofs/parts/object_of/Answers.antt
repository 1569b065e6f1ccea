use Rattle.wjs_audit.proofs.parts.object_of.Goals as goal

pub returns-in_err-owner : goal.returns-in_err-owner
returns-in_err-owner c = rw c.from_residual.ensures (λ o fits e. c.in_err-owner.ensures (o.owner, o.serial) fits e)
