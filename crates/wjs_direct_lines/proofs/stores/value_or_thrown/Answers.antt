use Rattle.std.proofs.Common.{refl}
use Rattle.wjs_direct_lines.proofs.stores.value_or_thrown.Goals as goal

pub returns-in-Gives : goal.returns-in-Gives
returns-in-Gives c = c.in-Gives.is

pub returns-in-Throws : goal.returns-in-Throws
returns-in-Throws c = (c.in-Throws.error, (refl, c.in-Throws.is))
