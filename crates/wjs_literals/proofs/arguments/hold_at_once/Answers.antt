use Rattle.std.proofs.Common.{sym, subst}
use Rattle.wjs_literals.specs.Arguments.{ArgumentsHeld}
use Rattle.wjs_literals.proofs.CallLines.{held_same, argument_held}
use Rattle.wjs_literals.proofs.arguments.hold_at_once.Goals as goal

pub returns-in_ok-hold-in-Some : goal.returns-in_ok-hold-in-Some
returns-in_ok-hold-in-Some g c =
    argument_held g.S.WorldStore.meaning c.args.config.now c.quick.new.config c.args.frame.now c.args.at c.args.node c.in-Some.value c.requires.runs c.requires.argument
    c.quick.ensures.only c.quick.ensures.later c.in-Some.ensures.found c.in-Some.ensures.does c.hold.new.frame c.in_ok-next.next c.in_ok-hold-in-Some.ensures c.in_ok-next.ensures

pub returns-in-None : goal.returns-in-None
returns-in-None g c =
    let m = g.S.WorldStore.meaning in
    let old = c.args.config.now in
    let f = c.args.frame.now in
    subst (λ x. ArgumentsHeld m old f c.args.at x f c.args.at) (sym c.in-None.ensures.same) (held_same m old f c.args.at c.requires.runs)
