use Rattle.wjs_by_content.specs.Tables.{value_in}
use Rattle.wjs_frames.specs.Parts.{env_in}
use Rattle.wjs_meaning.specs.Operators.{instance_function}
use Rattle.wjs_operators.proofs.relations.instance_values.Goals as goal

pub returns-in-Some : goal.returns-in-Some
returns-in-Some g c =
    let t = c.instance_function.new.config.heap.texts in
    c.in-Some.ensures.does.by (λ f. instance_function (value_in t c.args.left) f (env_in g.S.WorldStore.meaning c.args.config.now t c.args.frame)) _ _ c.instance_function.ensures

pub returns-in-None : goal.returns-in-None
returns-in-None g c =
    let t = c.throw.new.config.heap.texts in
    c.in-None.ensures.does.by (λ f. instance_function (value_in t c.args.left) f (env_in g.S.WorldStore.meaning c.args.config.now t c.args.frame)) _ _ c.throw.ensures
