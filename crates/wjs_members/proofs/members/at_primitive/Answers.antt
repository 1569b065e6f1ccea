use Rattle.wjs_meaning.specs.Expressions.{at_name}
use Rattle.wjs_step_common.proofs.Following.{env_later}
use Rattle.wjs_by_content.specs.Tables.{value_in}
use Rattle.wjs_frames.specs.Parts.{env_in}
use Rattle.wjs_model.specs.Waiting.{taken}
use Rattle.wjs_frames.proofs.Handling.{runs_later}
use Rattle.wjs_members.proofs.members.at_primitive.Goals as goal

pub returns : goal.returns
returns g c =
    let t = c.take.new.config.heap.texts in
    let h = rw (env_later g.S.WorldStore.meaning _ _ t c.args.frame c.in_ok-name.ensures.later) at c.take.ensures in
    c.in_ok-name.ensures.does.by (at_name (value_in t c.args.base) (taken c.args.purpose (env_in g.S.WorldStore.meaning c.args.config.now t c.args.frame))) _ _ h

pub take-requires-clause-runs : goal.take-requires-clause-runs
take-requires-clause-runs g c = runs_later _ _ _ _ c.requires.runs c.in_ok-name.ensures.later
