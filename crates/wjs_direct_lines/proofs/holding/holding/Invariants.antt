use Rattle.std.proofs.Common.{◌≡◌, take}
use Rattle.wjs_stopping.specs.Waiting.{at_node}
use Rattle.wjs_direct_lines.specs.Deeds.{call_held}
use Rattle.wjs_direct_lines.proofs.holding.holding.Given as goal

-- the values so far are held
abbrev pub invariant-loop-value : goal.invariant-loop-value
invariant-loop-value g l = record {
  same : l.config ≡ l.fn.config;
  held : l.inner ≡ at_node l.fn.frame l.fn.node (call_held l.fn.callee l.fn.this (take l.value-index l.fn.values));
}
