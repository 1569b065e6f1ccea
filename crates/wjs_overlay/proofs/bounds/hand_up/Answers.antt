use Rattle.std.proofs.Common.{◌≡◌, true, false, nat_le, sym, ap, ◌∙◌, subst}
use Rattle.std.proofs.lemmas.Bool.{false≢true}
use Rattle.std.proofs.lemmas.Result.{on_ok_weaker}
use Rattle.wjs_base.proofs.Numbers.{le_of}
use Rattle.wjs_overlay.specs.Covers.{covers, IsRising}
use Rattle.wjs_overlay.proofs.Covering.{covers_lesser}
use Rattle.wjs_overlay.proofs.bounds.hand_up.Goals as goal

pub last_to-requires : goal.last_to-requires
last_to-requires c = subst IsRising (sym c.as_slice.ensures.value) c.requires

pub returns-in-None-clause-reached : goal.returns-in-None-clause-reached
returns-in-None-clause-reached c = λ l serial h. absurd (false≢true (sym (c.in-None.ensures serial) ∙ ap (λ xs. covers xs c.args.from serial) c.as_slice.ensures.value ∙ h))

pub returns-in-Some-clause-reached : goal.returns-in-Some-clause-reached
returns-in-Some-clause-reached c = on_ok_weaker c.reach.result (λ r l serial h.
    let e : nat_le serial c.in-Some.bound.serial ≡ true = sym (c.in-Some.ensures serial) ∙ ap (λ xs. covers xs c.args.from serial) c.as_slice.ensures.value ∙ h in
    covers_lesser c.reach.new.bounds.items c.args.to c.in-Some.bound.serial serial (le_of serial c.in-Some.bound.serial e) (r l)) c.reach.ensures.reached
