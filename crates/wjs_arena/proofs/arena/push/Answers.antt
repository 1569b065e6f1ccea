use Rattle.std.proofs.Common.{◌≡◌, subst}
use Rattle.std.specs.Prelude.{OnOk}
use Rattle.std.specs.FinMap as map
use Rattle.wjs_arena.specs.Entries.{Entry, next_number}
use Rattle.wjs_arena.proofs.arena.push.Goals as goal

pub returns-in-Ok-clause-ok : goal.returns-in-Ok-clause-ok
returns-in-Ok-clause-ok c =
    let m = c.args.rows.now in
    subst (λ (e : Entry). OnOk c.push.result (c.push.new.self ≡ map.insert m (next_number m c.args.owner) e)) c.in-Ok.ensures c.push.ensures.ok
