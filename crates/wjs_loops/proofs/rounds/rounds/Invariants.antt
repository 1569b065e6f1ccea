use Rattle.wjs_frames.specs.Following.{Later}
use Rattle.wjs_effects.specs.Proceeding.{Proceeds}
use Rattle.wjs_loops.specs.Rounds.{position_left, HasPosition}
use Rattle.wjs_loops.proofs.rounds.rounds.Given as goal

-- what was left at first is left of at the position reached
abbrev pub invariant-loop-turn : goal.invariant-loop-turn
invariant-loop-turn g l =
    let meaning = g.S.WorldStore.meaning in
    record {
      proceeds : Proceeds meaning (position_left meaning l.fn.config l.frame l.fn.from) (position_left meaning l.config l.frame l.at) l.fn.config l.config;
      later : Later meaning l.fn.config l.config;
      found : HasPosition l.config l.frame l.at;
    }
