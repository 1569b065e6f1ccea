use Rattle.std.proofs.Common.{◌-◌, ◌<◌, ◌≤◌, length}
use Rattle.wjs_parse.proofs.Naming.{Naming}
use Rattle.wjs_parse.proofs.formals.formal_parameters.Given as goal

abbrev pub invariant-loop-more : goal.invariant-loop-more
invariant-loop-more l = Naming l.toks l.at l.list.items l.place × (l.at < l.place) × (l.place ≤ length l.toks)

abbrev pub decreases-loop-more : goal.decreases-loop-more
decreases-loop-more l = length l.toks - l.place
