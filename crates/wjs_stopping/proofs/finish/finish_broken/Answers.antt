use Rattle.std.proofs.Common.{List, sym, subst}
use Rattle.std.specs.Prelude.{Err}
use Rattle.wjs_model.specs.declared.frame.Activation.{Activation as Frame}
use Rattle.wjs_frames.specs.Handling.{IsRunning}
use Rattle.wjs_stopping.specs.declared.ends.Broken.{Broken}
use Rattle.wjs_stopping.specs.Evaluating.{HasBroken, HasStops, InMemory}
use Rattle.wjs_stopping.proofs.finish.finish_broken.Goals as goal

-- the frame that ended is kept, and the others are the same
pub settle-requires-clause-running : goal.settle-requires-clause-running
settle-requires-clause-running g c =
    let m = g.S.WorldStore.meaning in
    let old = c.args.config.now in
    subst (λ (fs : List Frame). IsRunning m (record old { frames = fs })) (sym c.spare.ensures)
    (subst (λ (end : Broken). InMemory {A = Unit {0}} (Err end) (IsRunning m old)) c.in-Stopped.is c.requires.running)

pub settle-requires-clause-stops : goal.settle-requires-clause-stops
settle-requires-clause-stops g c =
    let m = g.S.WorldStore.meaning in
    let old = c.args.config.now in
    subst (λ (fs : List Frame). HasStops m (record old { frames = fs }) c.args.stops.waits c.args.stops.top) (sym c.spare.ensures)
    (subst (λ (end : Broken). HasBroken m old end c.args.stops.waits c.args.stops.top) c.in-Stopped.is c.requires.outcome)
