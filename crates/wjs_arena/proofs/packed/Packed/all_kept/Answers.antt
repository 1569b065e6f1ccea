use Rattle.std.proofs.Common.{ap}
use Rattle.wjs_arena.specs.Entries.{Entry}
use Rattle.wjs_arena.proofs.packed.Packed.all_kept.Goals as goal

pub returns : goal.returns
returns c = ap (λ (e : Entry). e.object.all_kept) c.self.view_is
