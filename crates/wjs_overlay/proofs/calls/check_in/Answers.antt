use Rattle.std.proofs.Common.{rules, ◌<◌, length, sym}
use Rattle.wjs_layers.proofs.Places.{slice_read}
use Rattle.wjs_layers.proofs.Looks.{below_at, above_at}
use Rattle.wjs_overlay.proofs.CommitLaws.{parent_there, check_alone, check_under}
use Rattle.wjs_overlay.proofs.calls.check_in.Goals as goal

pub offset_bounds-layers-world : goal.offset_bounds-layers-world
offset_bounds-layers-world g c = let l : c.args.world.place < length c.args.layers.now = (below_at c.args.layers.now c.args.world c.requires.sparse c.requires.there) in search rules

pub bounds-layers-world : goal.bounds-layers-world
bounds-layers-world g c = (below_at c.args.layers.now c.args.world c.requires.sparse c.requires.there)

pub fault-requires : goal.fault-requires
fault-requires g c = record { sparse = c.requires.sparse; there = c.requires.there; parent = (above_at c.args.layers.now c.requires.sparse c.args.world c.requires.there c.index-layers-world.result (slice_read c.args.layers.now c.args.world.place c.index-layers-world.result c.index-layers-world.is (below_at c.args.layers.now c.args.world c.requires.sparse c.requires.there)) c.in-Some.above (sym c.in-Some.ensures)).0; up = parent_there c.args.layers.now c.requires.sparse c.args.world c.requires.there c.index-layers-world.result (slice_read c.args.layers.now c.args.world.place c.index-layers-world.result c.index-layers-world.is (below_at c.args.layers.now c.args.world c.requires.sparse c.requires.there)) c.in-Some.above (sym c.in-Some.ensures) }

pub returns-in-None : goal.returns-in-None
returns-in-None g c = check_alone c.args.layers.now c.requires.sparse c.args.world c.requires.there c.index-layers-world.result (slice_read c.args.layers.now c.args.world.place c.index-layers-world.result c.index-layers-world.is (below_at c.args.layers.now c.args.world c.requires.sparse c.requires.there)) (sym c.in-None.ensures)

pub returns : goal.returns
returns g c = check_under c.args.layers.now c.requires.sparse c.args.world c.requires.there c.index-layers-world.result (slice_read c.args.layers.now c.args.world.place c.index-layers-world.result c.index-layers-world.is (below_at c.args.layers.now c.args.world c.requires.sparse c.requires.there)) c.in-Some.above (sym c.in-Some.ensures) c.fault.result (λ x y fx fy. c.fault.ensures.fault x y fx fy)
