use Rattle.wjs_model.specs.Begun.{with_phase}
use Rattle.wjs_stopping.proofs.Evaluating.{settled}
use Rattle.wjs_stopping.proofs.stops.settle_at.Goals as goal

pub returns : goal.returns
returns g c = settled g.S.WorldStore.meaning c.args.config.now c.put_on.new.config c.args.waits (with_phase (c.args.top, c.args.phase)) c.push_at.new.self c.requires.running.state c.requires.running.base c.requires.waits c.requires.top c.in_ok-put_on.ensures c.in_ok-push_at.ensures.ok
