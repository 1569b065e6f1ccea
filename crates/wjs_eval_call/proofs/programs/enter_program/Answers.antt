use Rattle.wjs_meaning.specs.Deeds.{AtProgram}
use Rattle.wjs_frames.specs.Parts.{env_in}
use Rattle.wjs_calls.proofs.Entered.{entered}
use Rattle.wjs_eval_call.proofs.programs.enter_program.Goals as goal

pub returns : goal.returns
returns g c =
    let m = g.S.WorldStore.meaning in
    let old = c.args.config.now in
    let new = c.due_later.new.config in
    entered m AtProgram (env_in m old new.heap.texts c.args.frame) old new c.due_later.result c.due_later.ensures
