use Rattle.std.proofs.Common.{ap, ◌∙◌, ltb}
use Rattle.wjs_arena.specs.Entries.{has}
use Rattle.wjs_arena.proofs.Owners.{same_test}
use Rattle.wjs_arena.proofs.rows.Rows.has.Goals as goal

pub returns : goal.returns
returns c =
    ap (λ n. ltb c.args.id.serial n) c.list.ensures.count
    ∙ same_test c.args.id.serial _ (has c.args.self.now c.args.id) (c.list.ensures.serials c.args.id)
