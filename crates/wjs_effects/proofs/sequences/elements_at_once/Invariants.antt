use Rattle.wjs_frames.specs.Following.{Later}
use Rattle.wjs_effects.specs.Proceeding.{Proceeds}
use Rattle.wjs_effects.specs.declared.sequences.Reached.TheVariants as reached
use Rattle.wjs_effects.specs.Sequences.{sequence_left, HasReached}
use Rattle.wjs_effects.proofs.sequences.elements_at_once.Given as goal

-- what was left at first is left of where the body is
abbrev pub invariant-loop-turn : goal.invariant-loop-turn
invariant-loop-turn g l =
    let meaning = g.S.WorldStore.meaning in
    record {
      proceeds : Proceeds meaning (sequence_left meaning l.fn.config l.frame l.kind (reached.Next l.fn.from)) (sequence_left meaning l.config l.frame l.kind l.at) l.fn.config l.config;
      later : Later meaning l.fn.config l.config;
      found : HasReached l.config l.at;
    }
