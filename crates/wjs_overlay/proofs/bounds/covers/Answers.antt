use Rattle.std.proofs.Common.{sym}
use Rattle.wjs_overlay.proofs.bounds.covers.Goals as goal

pub returns-in-None : goal.returns-in-None
returns-in-None c = sym (c.in-None.ensures c.args.serial)

pub returns-in-Some : goal.returns-in-Some
returns-in-Some c = sym (c.in-Some.ensures c.args.serial)
