use Rattle.std.proofs.Common.{◌≡◌, ◌++◌, ◌-◌, drop, length}
use Rattle.wjs_arena.specs.Chains.{flags}
use Rattle.wjs_props.specs.Listing.{is_in, visits_of}
use Rattle.wjs_props.proofs.listing.visit_names.Given as goal

abbrev pub invariant-names : goal.invariant-names
invariant-names l = l.visits ++ visits_of l.object (λ n. (flags l.arena l.object n).hidden) (is_in l.seen) (drop l.place l.order) ≡ l.fn.visits ++ visits_of l.object (λ n. (flags l.arena l.object n).hidden) (is_in l.seen) l.order

abbrev pub decreases-names : goal.decreases-names
decreases-names l = length l.order - l.place
