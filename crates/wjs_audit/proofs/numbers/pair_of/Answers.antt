use Rattle.wjs_audit.proofs.Integers.{no_pair, pair_halves}
use Rattle.wjs_audit.proofs.numbers.pair_of.Goals as goal

pub returns-in_err-owner : goal.returns-in_err-owner
returns-in_err-owner c = rw c.from_residual.ensures (λ p fits e. no_pair c.args.part.now p c.in_err-owner.ensures.none e)

pub returns-in_err-owner-2 : goal.returns-in_err-owner-2
returns-in_err-owner-2 c = rw c.from_residual-in_err-owner-2.ensures (λ p fits e.
    c.in_err-owner-2.ensures p.0 fits.0 (pair_halves c.args.part.now c.in_ok-owner.owner.now c.in_ok-owner.serial.now c.in_ok-owner.ensures.some.0 c.in_ok-owner.ensures.some.1 p fits e).0)

pub returns-in_err-serial : goal.returns-in_err-serial
returns-in_err-serial c = rw c.from_residual-in_err-serial.ensures (λ p fits e.
    c.in_err-serial.ensures p.1 fits.1 (pair_halves c.args.part.now c.in_ok-owner.owner.now c.in_ok-owner.serial.now c.in_ok-owner.ensures.some.0 c.in_ok-owner.ensures.some.1 p fits e).1)
