use Rattle.std.proofs.Common.{ℕ, Option, subst}
use Rattle.std.specs.Prelude.{unwrap_or}
use Rattle.wjs_literals.specs.Arguments.{ArgumentsHeld}
use Rattle.wjs_literals.proofs.CallLines.{held_same, held_on}
use Rattle.wjs_literals.proofs.arguments.arguments_at_once.Goals as goal

pub loop-turn-init : goal.loop-turn-init
loop-turn-init g c = held_same g.S.WorldStore.meaning c.args.config.now c.args.frame.now c.args.from c.requires.runs

pub argument_at_once-requires : goal.argument_at_once-requires
argument_at_once-requires g c = record { runs = c.loop-turn.invariant.runs }

pub loop-turn-preserved : goal.loop-turn-preserved
loop-turn-preserved g c =
    let m = g.S.WorldStore.meaning in
    let l = c.loop-turn in
    let new = c.argument_at_once.new in
    let H : Option ℕ → Type 0 = λ o. ArgumentsHeld m l.config l.frame l.at new.config new.frame (unwrap_or o l.at) in
    held_on m c.args.config.now l.config new.config c.args.frame.now l.frame new.frame c.args.from l.at c.in-Some.number l.invariant (subst H c.in-Some.is c.in_ok-next.ensures)

-- nothing more is had at once
pub returns-in-None : goal.returns-in-None
returns-in-None g c =
    let m = g.S.WorldStore.meaning in
    let l = c.loop-turn in
    let new = c.argument_at_once.new in
    let H : Option ℕ → Type 0 = λ o. ArgumentsHeld m l.config l.frame l.at new.config new.frame (unwrap_or o l.at) in
    held_on m c.args.config.now l.config new.config c.args.frame.now l.frame new.frame c.args.from l.at l.at l.invariant (subst H c.in-None.is c.in_ok-next.ensures)

pub returns : goal.returns
returns g c = c.loop-turn.invariant
