use Rattle.std.proofs.Common.{sym}
use Rattle.wjs_base.specs.Text.{Table}
use Rattle.wjs_heap.specs.Means.{nothing}
use Rattle.wjs_props.specs.Several.{writes, rows_in}
use Rattle.wjs_model.specs.Apart.{IsNear}
use Rattle.wjs_heap_steps.proofs.Later.{later_plan}
use Rattle.wjs_heap_steps.proofs.NearPlans.{Any}
use Rattle.wjs_heap_steps.proofs.Nearing.{plan_left}
use Rattle.wjs_heap_steps.proofs.Running.{does_ran}
use Rattle.wjs_heap_steps.proofs.Steps.{ran_actions}
use Rattle.wjs_heap_steps.proofs.WritingRows.{does_rows, rows_here, rows_reach}
use Rattle.wjs_heap_steps.proofs.slots.write_rows.Goals as goal

pub write_rows-requires-clause-rows : goal.write_rows-requires-clause-rows
write_rows-requires-clause-rows g c = rows_here c.args.config.now c.args.rows.now c.requires.rows

pub returns-clause-does : goal.returns-clause-does
returns-clause-does g c =
    let m = g.S.WorldStore.meaning in
    let old = c.args.config.now in
    let rows = λ (t : Table). rows_in t c.args.object c.args.rows.now in
    rw (sym c.world.ensures) (does_rows m c.world.result rows old _ (does_ran m _ _ old _ (ran_actions m c.world.result (λ t. writes (rows t)) (λ t. nothing) old c.write_rows.new.heap c.in_ok-write_rows.ensures)))

pub returns-clause-later : goal.returns-clause-later
returns-clause-later g c =
    let m = g.S.WorldStore.meaning in
    let old = c.args.config.now in
    let heap = c.write_rows.new.heap in
    let near = IsNear old.apart.items in
    let left = (plan_left m old heap (g.met.S.WorldStore.sound heap.store) c.requires.base (Any near) c.world.result (λ t. writes (rows_in t c.args.object c.args.rows.now)) (λ t. nothing)
    (rows_reach old heap.texts c.args.object c.requires.object.1 c.args.rows.now c.requires.rows) c.in_ok-write_rows.ensures).1 in
    later_plan m c.world.result (λ t. writes (rows_in t c.args.object c.args.rows.now)) (λ t. nothing) old heap c.requires.base c.in_ok-write_rows.ensures left
