use Rattle.std.proofs.Common.{◌≡◌, ◌∷◌, ◌≤◌}
use Rattle.wjs_by_content.specs.Objects.{hidden_flags}
use Rattle.wjs_arena.specs.Hidden.{hidden_from}
use Rattle.wjs_variables.proofs.arguments.long_flags.Given as goal

abbrev pub invariant-loop-index : goal.invariant-loop-index
invariant-loop-index l = record {
  is : l.flags.items ≡ (l.fn.callee, hidden_flags) ∷ (l.fn.length, hidden_flags) ∷ hidden_from 0 l.index;
  small : l.index ≤ 4294967295;
}
