use Rattle.std.proofs.Common.{◌≡◌, length}
use Rattle.std.specs.Prelude.{All}
use Rattle.wjs_tries.specs.Hiding.{no_owner}
use Rattle.wjs_tries.proofs.keeping.none_apart.Given as goal

abbrev pub invariant-loop-place : goal.invariant-loop-place
invariant-loop-place l = (length l.list.items ≡ l._place) × All (λ u. u ≡ no_owner) l.list.items
