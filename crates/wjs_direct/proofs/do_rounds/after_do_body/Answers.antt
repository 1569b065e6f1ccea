use Rattle.std.proofs.Common.{sym}
use Rattle.wjs_meaning.specs.Loops.{do_body}
use Rattle.wjs_model.specs.Contents.{completion_in}
use Rattle.wjs_frames.specs.Parts.{env_in}
use Rattle.wjs_step_common.proofs.Following.{follows_as}
use Rattle.wjs_direct.proofs.Looping.{asks_test}
use Rattle.wjs_direct.proofs.do_rounds.after_do_body.Goals as goal

pub returns : goal.returns
returns g c =
    let m = g.S.WorldStore.meaning in
    let old = c.args.config.now in
    let new = c.test_and_rounds.new.config in
    let t = new.heap.texts in
    let f = c.args.frame in
    let env = env_in m old t f in
    let asks = asks_test f.node.0 c.args.test.0 env in
    follows_as m asks (do_body f.node.0 c.args.test.0 env (completion_in t c.args.end)) old new c.test_and_rounds.result
    (λ more. sym (c.requires.followed t more asks)) c.test_and_rounds.ensures
