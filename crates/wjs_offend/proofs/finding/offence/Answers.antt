use Rattle.std.proofs.Common.{◌≡◌, length, Bool, true, false, Some, slice_get, refl, sym, ap, subst, arith}
use Rattle.std.proofs.lemmas.Option.{slice_get_read}
use Rattle.wjs_forms.specs.declared.class.Class.TheVariants as classes
use Rattle.wjs_forms.specs.States.{state, step}
use Rattle.wjs_offend.specs.Taking.{Answers}
use Rattle.wjs_offend.proofs.Offending.{at_token, at_end, no_token, reach_more, answered, ended_at}
use Rattle.wjs_offend.proofs.finding.offence.Goals as goal

pub loop-place-init : goal.loop-place-init
loop-place-init c = (omega arith, ap Some (sym c.new-machine.ensures))

pub returns-then-not-branch : goal.returns-then-not-branch
returns-then-not-branch c =
    let here : slice_get c.args.toks.now c.loop-place.place ≡ Some c.index-toks-place.result = slice_get_read c.args.toks.now (length c.args.toks.now) c.loop-place.place c.index-toks-place.result refl c.loop-place-test.true c.index-toks-place.is in
    at_token c.spelled_is_taken.ensures c.taken_is_spelled.ensures c.goes_on.ensures c.args.toks.now c.loop-place.place c.index-toks-place.result (state c.loop-place.machine.control c.loop-place.machine.forms) here c.loop-place.invariant.1
    (answered c.index-toks-place.result (state c.loop-place.machine.control c.loop-place.machine.forms) (state c.take.new.self.control c.take.new.self.forms) c.class_of.result c.in_ok-take.field-0 false c.class_of.ensures c.if-not-branch.true c.in_ok-take.ensures)

pub loop-place-preserved : goal.loop-place-preserved
loop-place-preserved c =
    let here : slice_get c.args.toks.now c.loop-place.place ≡ Some c.index-toks-place.result = slice_get_read c.args.toks.now (length c.args.toks.now) c.loop-place.place c.index-toks-place.result refl c.loop-place-test.true c.index-toks-place.is in
    let new = state c.take.new.self.control c.take.new.self.forms in (
      (let lt = c.loop-place-test.true in omega arith),
      reach_more c.args.toks.now c.loop-place.place c.index-toks-place.result (state c.loop-place.machine.control c.loop-place.machine.forms) (Some new) here c.loop-place.invariant.1
          (answered c.index-toks-place.result (state c.loop-place.machine.control c.loop-place.machine.forms) new c.class_of.result c.in_ok-take.field-0 true c.class_of.ensures c.if-not-branch.false c.in_ok-take.ensures),
    )

pub returns-then-branch : goal.returns-then-branch
returns-then-branch c =
    let old = state c.loop-place.machine.control c.loop-place.machine.forms in
    let new = state c.take-2.new.self.control c.take-2.new.self.forms in
    no_token c.spelled_is_taken.ensures c.taken_is_spelled.ensures c.goes_on.ensures c.args.toks.now old new (ended_at c.args.toks.now c.loop-place.place old c.loop-place.invariant.0 c.loop-place-test.false c.loop-place.invariant.1)
    (subst (λ (b : Bool). Answers (step classes.End true c.loop-place.machine.forms c.loop-place.machine.control) b new) c.if-branch.true c.in_ok-take-2.ensures)

pub returns : goal.returns
returns c =
    let old = state c.loop-place.machine.control c.loop-place.machine.forms in
    let new = state c.take-2.new.self.control c.take-2.new.self.forms in
    at_end c.spelled_is_taken.ensures c.taken_is_spelled.ensures c.goes_on.ensures c.args.toks.now old (ended_at c.args.toks.now c.loop-place.place old c.loop-place.invariant.0 c.loop-place-test.false c.loop-place.invariant.1)
    (subst (λ (b : Bool). Answers (step classes.End true c.loop-place.machine.forms c.loop-place.machine.control) b new) c.if-branch.false c.in_ok-take-2.ensures)
