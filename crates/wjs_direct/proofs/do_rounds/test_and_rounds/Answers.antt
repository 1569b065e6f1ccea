use Rattle.wjs_meaning.specs.Deeds.{AtExpr, then_value}
use Rattle.wjs_meaning.specs.Loops.{do_test}
use Rattle.wjs_model.specs.Contents.{completion_in}
use Rattle.wjs_frames.specs.Parts.{env_in}
use Rattle.wjs_stopping.proofs.Evaluating.{form_is_line}
use Rattle.wjs_direct.proofs.do_rounds.test_and_rounds.Goals as goal

pub returns : goal.returns
returns g c =
    let m = g.S.WorldStore.meaning in
    let old = c.args.config.now in
    let f = c.args.frame in
    let k = c.tested-done.new.stops in
    form_is_line m completion_in (AtExpr c.args.test.0) (λ t. env_in m old t f) (λ t. then_value (do_test f.node.0 (env_in m old t f))) c.tested-done.result k.waits k.top old c.tested-done.new.config c.finish_end.new.config c.finish_end.result
    c.tested-done.ensures.does c.finish_end.ensures.memory c.finish_end.ensures.follows
