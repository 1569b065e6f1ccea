use Rattle.std.proofs.Common.{◌≡◌, ◌-◌, ◌||◌, drop, length}
use Rattle.wjs_base.specs.declared.values.Name.{Name}
use Rattle.wjs_props.specs.Listing.{is_in, is_among}
use Rattle.wjs_props.proofs.seen.add_names.Given as goal

abbrev pub invariant-names : goal.invariant-names
invariant-names l = (n : Name) → (is_among (drop l.place l.names) n || is_in l.set n) ≡ (is_among l.names n || is_in l.fn.set n)

abbrev pub decreases-names : goal.decreases-names
decreases-names l = length l.names - l.place
