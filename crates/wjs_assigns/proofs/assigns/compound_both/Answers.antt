use Rattle.wjs_frames.proofs.Shorter.{follows_shorter, shorten_ended}
use Rattle.wjs_by_content.specs.Tables.{value_in}
use Rattle.wjs_frames.specs.Parts.{env_in}
use Rattle.wjs_by_content.specs.Values.{Number}
use Rattle.wjs_meaning.specs.Deeds.{Gives, then_value}
use Rattle.wjs_meaning.specs.Operators.{operate}
use Rattle.wjs_meaning.specs.Expressions.{assign_value}
use Rattle.wjs_model.specs.Contents.{reference_in}
use Rattle.wjs_assigns.proofs.assigns.compound_both.Goals as goal

pub returns-in-Some : goal.returns-in-Some
returns-in-Some g c =
    let t = c.store_and_give.new.config.heap.texts in
    let env = env_in g.S.WorldStore.meaning c.args.config.now t c.args.frame in
    follows_shorter g.S.WorldStore.meaning _ _ _ _ _ (shorten_ended (operate c.args.operator (value_in t c.args.old) (value_in t c.args.value) env) (Gives (Number c.in-Some.number.number)) (then_value (assign_value (reference_in t c.args.reference) env)) (c.in-Some.ensures t env)) c.store_and_give.ensures
