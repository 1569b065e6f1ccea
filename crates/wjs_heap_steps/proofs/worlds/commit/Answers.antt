use Rattle.wjs_store.specs.Shown.{verdict_of}
use Rattle.wjs_by_content.specs.Rename.{shape}
use Rattle.wjs_heap_steps.proofs.Running.{does_ran}
use Rattle.wjs_heap_steps.proofs.Steps.{ran_commit}
use Rattle.wjs_heap_steps.proofs.Nearing.{commit_left}
use Rattle.wjs_heap_steps.proofs.Later.{later_committed}
use Rattle.wjs_heap_steps.proofs.worlds.commit.Goals as goal

pub returns-clause-does : goal.returns-clause-does
returns-clause-does g c =
    let m = g.S.WorldStore.meaning in
    let old = c.args.config.now in
    does_ran m _ _ old _ (ran_commit m c.args.world (shape (verdict_of c.in_ok-verdict.verdict)) old c.commit.new.heap c.in_ok-verdict.ensures)

pub returns-clause-later : goal.returns-clause-later
returns-clause-later g c =
    let m = g.S.WorldStore.meaning in
    let old = c.args.config.now in
    let heap = c.commit.new.heap in
    later_committed m c.args.world _ old heap c.requires.base c.in_ok-verdict.ensures (commit_left m old heap (g.met.S.WorldStore.sound heap.store) c.requires.base c.args.world _ c.in_ok-verdict.ensures)
