use Rattle.std.proofs.Common.{◌≡◌, ◌+◌, ◌*◌, ◌^◌, ◌<◌, take, ap, sym, subst, ◌∙◌, arith}
use Rattle.std.proofs.lemmas.List.Elements.{All-push}
use Rattle.wjs_audit.specs.Parts.{AreUnits}
use Rattle.wjs_audit.specs.Spelling.{hex}
use Rattle.wjs_audit.proofs.Hexes.{no_fourth, no_unit, unit_more}
use Rattle.wjs_audit.proofs.hex.units_of.Goals as goal

pub returns-then-part-ne0 : goal.returns-then-part-ne0
returns-then-part-ne0 c = λ all are e. no_fourth c.args.part.now all c.if-part-ne0.true are e

pub returns-in_default : goal.returns-in_default
returns-in_default c = λ all are e.
    no_unit c.args.part.now (4 * c.loop-place.place) c.loop-place.units.items all (omega (arith, c.loop-place-test.true)) c.loop-place.invariant.0 c.loop-place.invariant.1 c.in_default.ensures are e

pub loop-place-preserved : goal.loop-place-preserved
loop-place-preserved c =
    let part = c.args.part.now in
    let at = 4 * c.loop-place.place in
    let so_far = c.loop-place.units.items in
    let more = c.in_ok-push.ensures.items in
    let next : 4 * (c.loop-place.place + 1) ≡ at + 4 = omega arith in (
      ap (λ n. take n part) next ∙ unit_more part at so_far c.in-Some.unit (omega (arith, c.loop-place-test.true)) c.loop-place.invariant.0 c.in-Some.ensures.1 ∙ ap hex (sym more),
      subst AreUnits (sym more) (All-push (λ unit. unit < 2 ^ 16) so_far c.in-Some.unit c.loop-place.invariant.1 c.in-Some.ensures.0),
    )
