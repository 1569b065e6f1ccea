use Rattle.wjs_arena.specs.Chains.{flags}
use Rattle.wjs_props.specs.Listing.{is_in}
use Rattle.wjs_props.proofs.Visiting.{visited_further}
use Rattle.wjs_props.proofs.listing.visit_names.Goals as goal

pub names-preserved : goal.names-preserved
names-preserved c = visited_further c.args.object (λ n. (flags c.args.arena.now c.args.object n).hidden) (is_in c.args.seen.now) c.args.visits.now c.names.visits c.visit_name.new.visits c.args.order.now c.names.place c.at.result c.at.ensures c.names.invariant c.in_ok-visit_name.ensures
