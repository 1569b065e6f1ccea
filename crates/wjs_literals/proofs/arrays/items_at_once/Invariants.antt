use Rattle.wjs_frames.specs.Following.{Later}
use Rattle.wjs_effects.specs.Proceeding.{Proceeds}
use Rattle.wjs_literals.specs.Parts.{items_left}
use Rattle.wjs_literals.proofs.arrays.items_at_once.Given as goal

-- what was left at first is left of where the literal is
abbrev pub invariant-loop-turn : goal.invariant-loop-turn
invariant-loop-turn g l =
    let meaning = g.S.WorldStore.meaning in
    record {
      proceeds : Proceeds meaning (items_left meaning l.fn.config l.frame l.array l.fn.from) (items_left meaning l.config l.frame l.array l.at) l.fn.config l.config;
      later : Later meaning l.fn.config l.config;
    }
