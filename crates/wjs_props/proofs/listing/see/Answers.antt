use Rattle.std.proofs.Common.{ap}
use Rattle.std.specs.FinMap as map
use Rattle.wjs_arena.specs.Chains.{object_in}
use Rattle.wjs_arena.proofs.Fields.{fixed_found}
use Rattle.wjs_props.specs.Listing.{names_under}
use Rattle.wjs_props.proofs.Walking.{seen_then}
use Rattle.wjs_props.proofs.listing.see.Goals as goal

pub returns : goal.returns
returns c =
    let r = map.get c.args.arena.now c.args.object in
    seen_then c.add_fixed.result c.args.seen.now c.add_names.new.set c.add_fixed.new.set c.args.order.now (names_under c.fixed_of.result.now) (names_under (object_in r).fixed) (ap names_under (fixed_found r c.fixed_of.result.now c.requires c.fixed_of.ensures.fixed)) c.in_ok-add_names.ensures c.add_fixed.ensures
