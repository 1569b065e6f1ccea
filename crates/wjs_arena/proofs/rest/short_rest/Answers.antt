use Rattle.std.proofs.Common.{refl}
use Rattle.wjs_arena.proofs.Packing.{plain_is, hidden_is}
use Rattle.wjs_arena.proofs.rest.short_rest.Goals as goal

pub returns-then-is_empty : goal.returns-then-is_empty
returns-then-is_empty c = let h = c.if-not-is_common.ensures refl in plain_is c.args.object.now h.0 h.1 h.2 h.3 (c.is_empty.ensures c.if-is_empty.true)

pub returns-in-Some : goal.returns-in-Some
returns-in-Some c = let h = c.if-not-is_common.ensures refl in hidden_is c.args.object.now c.in-Some.hidden h.0 h.1 h.2 h.3 c.in-Some.ensures
