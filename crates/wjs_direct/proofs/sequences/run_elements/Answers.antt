use Rattle.std.proofs.Common.{subst}
use Rattle.wjs_frames.proofs.Handling.{runs_later, running_later}
use Rattle.wjs_effects.specs.Proceeding.{Proceeds}
use Rattle.wjs_effects.specs.declared.sequences.Reached.{Reached}
use Rattle.wjs_effects.specs.declared.sequences.Reached.TheVariants as reached
use Rattle.wjs_effects.specs.Sequences.{sequence_left, HasReached}
use Rattle.wjs_effects.proofs.StandingElements.{sequence_later}
use Rattle.wjs_direct.proofs.sequences.run_elements.Goals as goal

pub run_next-requires-clause-runs : goal.run_next-requires-clause-runs
run_next-requires-clause-runs g c = runs_later _ _ _ _ c.requires.runs c.in_ok-reached.ensures.later

pub run_next-requires-clause-stands : goal.run_next-requires-clause-stands
run_next-requires-clause-stands g c = sequence_later g.S.WorldStore.meaning c.args.config.now c.args.frame c.args.kind c.elements_at_once.new.config c.in_ok-reached.ensures.later c.requires.stands

pub finish-requires-clause-running : goal.finish-requires-clause-running
finish-requires-clause-running g c = running_later _ _ _ c.requires.runs.running c.in_ok-reached.ensures.later

pub finish-requires-clause-completion : goal.finish-requires-clause-completion
finish-requires-clause-completion g c = subst (λ (p : Reached). HasReached c.elements_at_once.new.config p) c.in-Ended.is c.in_ok-reached.ensures.found

pub returns-in-Next : goal.returns-in-Next
returns-in-Next g c =
    let m = g.S.WorldStore.meaning in
    let f = c.args.frame in
    let k = c.args.kind in
    let old = c.args.config.now in
    let mid = c.elements_at_once.new.config in
    let P : Reached → Type 0 = λ p. Proceeds m (sequence_left m old f k (reached.Next c.args.from)) (sequence_left m mid f k p) old mid in
    (subst P c.in-Next.is c.in_ok-reached.ensures.proceeds).by c.run_next.new.config c.run_next.result c.run_next.ensures

pub returns-in-Ended : goal.returns-in-Ended
returns-in-Ended g c =
    let m = g.S.WorldStore.meaning in
    let f = c.args.frame in
    let k = c.args.kind in
    let old = c.args.config.now in
    let mid = c.elements_at_once.new.config in
    let P : Reached → Type 0 = λ p. Proceeds m (sequence_left m old f k (reached.Next c.args.from)) (sequence_left m mid f k p) old mid in
    (subst P c.in-Ended.is c.in_ok-reached.ensures.proceeds).by c.finish.new.config c.finish.result c.finish.ensures
