use Rattle.wjs_meaning.specs.Reading.{node_in}
use Rattle.wjs_meaning.specs.Trees.{elements_of}
use Rattle.wjs_frames.specs.Parts.{env_in, node_now}
use Rattle.wjs_step_common.proofs.Following.{follows_as}
use Rattle.wjs_effects.specs.declared.elements.Sequence.TheVariants as kinds
use Rattle.wjs_effects.proofs.Running.{elements_end}
use Rattle.wjs_direct.proofs.entries.go_on.Goals as goal

pub returns-in-None : goal.returns-in-None
returns-in-None g c =
    let m = g.S.WorldStore.meaning in
    let old = c.args.config.now in
    let f = c.args.frame in
    let t = c.finish.new.config.heap.texts in
    follows_as m _ _ _ _ c.finish.result (λ grows.
    elements_end kinds.Function t (elements_of (node_in t (node_now m old f))) (env_in m old t f) c.args.from (c.in-None.ensures t))
    c.finish.ensures
