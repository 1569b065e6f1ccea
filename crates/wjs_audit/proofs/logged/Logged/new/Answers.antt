use Rattle.std.proofs.Common.{sym, subst}
use Rattle.wjs_audit.specs.Kept.{IsKept}
use Rattle.wjs_audit.proofs.Keeping.{kept_fresh}
use Rattle.wjs_audit.proofs.logged.Logged.new.Goals as goal

pub invariant_of-result : goal.invariant_of-result
invariant_of-result g c e =
    let m = g.S.WorldStore.meaning in
    subst (IsKept (m c.args.inner)) (sym c.new.ensures) (kept_fresh (m c.args.inner) c.requires)
