use Rattle.std.proofs.Common.{◌≡◌, length}
use Rattle.wjs_base.specs.Text.{Table}
use Rattle.wjs_model.specs.Contents.{holding_in}
use Rattle.wjs_model.specs.Soundness.{IsThere}
use Rattle.wjs_frames.specs.Following.{Later}
use Rattle.wjs_frames.specs.Parts.{env_in}
use Rattle.wjs_loops.specs.ForIns.{Passes}
use Rattle.wjs_loops.proofs.visits.next_present.Given as goal

-- each visit so far was absent
abbrev pub invariant-loop-slot : goal.invariant-loop-slot
invariant-loop-slot g l =
    let meaning = g.S.WorldStore.meaning in
    record {
      later : Later meaning l.fn.config l.config;
      same : l.frame ≡ record l.fn.frame { held = l.frame.held };
      there : IsThere meaning l.config l.frame;
      passes : Passes meaning (λ (t : Table). (holding_in t l.fn.frame.held).visits) (λ (t : Table). (holding_in t l.frame.held).visits) (λ (t : Table). env_in meaning l.fn.config t l.fn.frame) l.fn.config l.config;
    }

abbrev pub decreases-loop-slot : goal.decreases-loop-slot
decreases-loop-slot g l = length l.frame.held
