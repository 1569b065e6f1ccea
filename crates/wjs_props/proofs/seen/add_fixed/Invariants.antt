use Rattle.std.proofs.Common.{◌≡◌, ◌||◌, drop}
use Rattle.wjs_base.specs.declared.values.Name.{Name}
use Rattle.wjs_props.specs.Listing.{is_in, is_among, names_under}
use Rattle.wjs_props.proofs.seen.add_fixed.Given as goal

abbrev pub invariant-loop-entry : goal.invariant-loop-entry
invariant-loop-entry l = (n : Name) → (is_among (names_under (drop l.entry-index l.fixed)) n || is_in l.set n) ≡ (is_among (names_under l.fixed) n || is_in l.fn.set n)
