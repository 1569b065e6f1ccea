use Rattle.wjs_base.specs.Text.{Table}
use Rattle.wjs_meaning.specs.Deeds.{Completion, Refers, Eval, AtTarget, then_reference}
use Rattle.wjs_meaning.specs.Expressions as line
use Rattle.wjs_model.specs.Contents.{reference_in}
use Rattle.wjs_model.specs.Waiting.{fix_in}
use Rattle.wjs_frames.specs.Parts.{env_in}
use Rattle.wjs_frames.proofs.Handling.{runs_later, goes_on_after}
use Rattle.wjs_frames.proofs.Parting.{stands_later}
use Rattle.wjs_assigns.proofs.updates.update_start.Goals as goal

-- the reference was had at once
pub update_reference-requires-clause-runs : goal.update_reference-requires-clause-runs
update_reference-requires-clause-runs g c = runs_later _ _ _ _ c.requires.runs c.reference_at_once.ensures.later

pub returns-in-Some : goal.returns-in-Some
returns-in-Some g c =
    let m = g.S.WorldStore.meaning in
    let old = c.args.config.now in
    let answer : Table → Completion = λ t. Refers (reference_in t c.in-Some.reference) in
    goes_on_after m c.args.frame old c.reference_at_once.new.config c.update_reference.new.config c.update_reference.result
    (λ t go. Eval (AtTarget c.args.target.0) (env_in m old t c.args.frame) go) answer
    (λ t env. then_reference (line.update_reference (fix_in c.args.fix) c.args.operator env)) c.in-Some.ensures.does c.reference_at_once.ensures.later
    c.update_reference.ensures

-- it is entered
pub enter-requires-clause-runs : goal.enter-requires-clause-runs
enter-requires-clause-runs g c = runs_later _ _ _ _ c.requires.runs c.reference_at_once.ensures.later

pub enter-requires-clause-part : goal.enter-requires-clause-part
enter-requires-clause-part g c =
    stands_later g.S.WorldStore.meaning c.args.config.now c.args.frame c.reference_at_once.new.config c.args.target c.reference_at_once.ensures.later c.requires.target

pub returns-in-None : goal.returns-in-None
returns-in-None g c = let h = rw c.in-None.ensures.same at c.enter.ensures in h
