use Rattle.std.proofs.Common.{rules, ◌<◌, length, get_or, sym}
use Rattle.wjs_store.proofs.Parents.{slice_get_at}
use Rattle.wjs_layers.proofs.Looks.{below_at, above_at}
use Rattle.wjs_overlay.proofs.CommitLaws.{no_above, parent_there, faulty, passes, checked_within, moved_within}
use Rattle.wjs_overlay.proofs.calls.commit_slots.Goals as goal

pub offset_bounds-layers-world : goal.offset_bounds-layers-world
offset_bounds-layers-world g c = let l : c.args.world.place < length c.args.layers.now = (below_at c.args.layers.now c.args.world c.requires.sparse c.requires.there) in search rules

pub bounds-layers-world : goal.bounds-layers-world
bounds-layers-world g c = (below_at c.args.layers.now c.args.world c.requires.sparse c.requires.there)

pub fault-requires : goal.fault-requires
fault-requires g c = record { sparse = c.requires.sparse; there = c.requires.there; parent = (above_at c.args.layers.now c.requires.sparse c.args.world c.requires.there (get_or c.args.layers.now c.args.world.place c.index-layers-world.result) (slice_get_at c.args.layers.now c.args.world.place c.index-layers-world.result (below_at c.args.layers.now c.args.world c.requires.sparse c.requires.there)) c.in-Some.above (sym c.in-Some.ensures)).0; up = parent_there c.args.layers.now c.requires.sparse c.args.world c.requires.there (get_or c.args.layers.now c.args.world.place c.index-layers-world.result) (slice_get_at c.args.layers.now c.args.world.place c.index-layers-world.result (below_at c.args.layers.now c.args.world c.requires.sparse c.requires.there)) c.in-Some.above (sym c.in-Some.ensures) }

pub returns-in-None-clause-verdict : goal.returns-in-None-clause-verdict
returns-in-None-clause-verdict g c = (no_above c.args.layers.now c.requires.sparse c.args.world c.requires.there (get_or c.args.layers.now c.args.world.place c.index-layers-world.result) (slice_get_at c.args.layers.now c.args.world.place c.index-layers-world.result (below_at c.args.layers.now c.args.world c.requires.sparse c.requires.there)) (sym c.in-None.ensures)).0

pub returns-in-None-clause-after : goal.returns-in-None-clause-after
returns-in-None-clause-after g c = (no_above c.args.layers.now c.requires.sparse c.args.world c.requires.there (get_or c.args.layers.now c.args.world.place c.index-layers-world.result) (slice_get_at c.args.layers.now c.args.world.place c.index-layers-world.result (below_at c.args.layers.now c.args.world c.requires.sparse c.requires.there)) (sym c.in-None.ensures)).1

pub returns-in-Some-fault-clause-verdict : goal.returns-in-Some-fault-clause-verdict
returns-in-Some-fault-clause-verdict g c = (faulty c.args.layers.now c.requires.sparse c.args.world c.requires.there (get_or c.args.layers.now c.args.world.place c.index-layers-world.result) (slice_get_at c.args.layers.now c.args.world.place c.index-layers-world.result (below_at c.args.layers.now c.args.world c.requires.sparse c.requires.there)) c.in-Some.above (sym c.in-Some.ensures) c.in-Some-fault.slot (λ x y fx fy. c.in-Some-fault.ensures.fault x y fx fy)).0

pub returns-in-Some-fault-clause-after : goal.returns-in-Some-fault-clause-after
returns-in-Some-fault-clause-after g c = (faulty c.args.layers.now c.requires.sparse c.args.world c.requires.there (get_or c.args.layers.now c.args.world.place c.index-layers-world.result) (slice_get_at c.args.layers.now c.args.world.place c.index-layers-world.result (below_at c.args.layers.now c.args.world c.requires.sparse c.requires.there)) c.in-Some.above (sym c.in-Some.ensures) c.in-Some-fault.slot (λ x y fx fy. c.in-Some-fault.ensures.fault x y fx fy)).1

pub returns-in_ok-settle-in-None-fault-clause-verdict : goal.returns-in_ok-settle-in-None-fault-clause-verdict
returns-in_ok-settle-in-None-fault-clause-verdict g c = passes c.args.layers.now c.requires.sparse c.args.world c.requires.there (get_or c.args.layers.now c.args.world.place c.index-layers-world.result) (slice_get_at c.args.layers.now c.args.world.place c.index-layers-world.result (below_at c.args.layers.now c.args.world c.requires.sparse c.requires.there)) c.in-Some.above (sym c.in-Some.ensures) (λ x y fx fy. c.in-None-fault.ensures.fault x y fx fy)

pub returns-in-Some-fault-clause-steps : goal.returns-in-Some-fault-clause-steps
returns-in-Some-fault-clause-steps g c = checked_within c.args.layers.now c.requires.sparse c.args.world c.requires.there (get_or c.args.layers.now c.args.world.place c.index-layers-world.result) (slice_get_at c.args.layers.now c.args.world.place c.index-layers-world.result (below_at c.args.layers.now c.args.world c.requires.sparse c.requires.there)) c.in-Some.above (sym c.in-Some.ensures) c.args.steps.now c.fault.new.steps (λ x fx. c.fault.ensures.steps x fx)

pub returns-in_err-settle-in-None-fault-clause-steps : goal.returns-in_err-settle-in-None-fault-clause-steps
returns-in_err-settle-in-None-fault-clause-steps g c = moved_within c.args.layers.now c.requires.sparse c.args.world c.requires.there (get_or c.args.layers.now c.args.world.place c.index-layers-world.result) (slice_get_at c.args.layers.now c.args.world.place c.index-layers-world.result (below_at c.args.layers.now c.args.world c.requires.sparse c.requires.there)) c.in-Some.above (sym c.in-Some.ensures) c.args.steps.now c.fault.new.steps c.settle.new.steps (λ x fx. c.fault.ensures.steps x fx) (λ x fx. c.settle.ensures.steps x fx)

pub returns-in_ok-settle-in-None-fault-clause-steps : goal.returns-in_ok-settle-in-None-fault-clause-steps
returns-in_ok-settle-in-None-fault-clause-steps g c = moved_within c.args.layers.now c.requires.sparse c.args.world c.requires.there (get_or c.args.layers.now c.args.world.place c.index-layers-world.result) (slice_get_at c.args.layers.now c.args.world.place c.index-layers-world.result (below_at c.args.layers.now c.args.world c.requires.sparse c.requires.there)) c.in-Some.above (sym c.in-Some.ensures) c.args.steps.now c.fault.new.steps c.settle.new.steps (λ x fx. c.fault.ensures.steps x fx) (λ x fx. c.settle.ensures.steps x fx)
