use Rattle.wjs_step_common.proofs.Following.{env_later}
use Rattle.wjs_frames.specs.Parts.{env_in}
use Rattle.wjs_meaning.specs.Operators.{instance_prototype}
use Rattle.wjs_frames.proofs.Handling.{runs_later}
use Rattle.wjs_operators.proofs.relations.instance_object.Goals as goal

pub returns : goal.returns
returns g c =
    let t = c.instance_prototype.new.config.heap.texts in
    let h = rw (env_later g.S.WorldStore.meaning _ _ t c.args.frame c.in_ok-prototype.ensures.later) at c.instance_prototype.ensures in
    c.in_ok-prototype.ensures.does.by (instance_prototype c.args.object (env_in g.S.WorldStore.meaning c.args.config.now t c.args.frame)) _ _ h

pub instance_prototype-requires-clause-runs : goal.instance_prototype-requires-clause-runs
instance_prototype-requires-clause-runs g c = runs_later _ _ _ _ c.requires.runs c.in_ok-prototype.ensures.later
