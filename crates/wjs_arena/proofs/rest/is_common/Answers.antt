use Rattle.std.proofs.Common.{refl}
use Rattle.wjs_arena.proofs.rest.is_common.Goals as goal

pub returns : goal.returns
returns c = λ t. let h = c.if-not-is_bare.ensures refl in (h.0, h.1, h.2, c.is_empty.ensures t)
