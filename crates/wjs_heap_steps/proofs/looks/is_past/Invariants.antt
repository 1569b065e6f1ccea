use Rattle.std.specs.Prelude.{IfSome}
use Rattle.wjs_arena.specs.Entries.{depth_of}
use Rattle.wjs_model.specs.Soundness.{HasObject}
use Rattle.wjs_heap_steps.proofs.Looking.{Passing}
use Rattle.wjs_heap_steps.proofs.looks.is_past.Given as goal

abbrev pub invariant-up : goal.invariant-up
invariant-up g l = record {
  passing : Passing l.config.heap.arena l.fn.prototype l.fn.object l.at;
  found : IfSome l.at (HasObject l.config);
}

abbrev pub decreases-up : goal.decreases-up
decreases-up g l = depth_of l.config.heap.arena l.at
