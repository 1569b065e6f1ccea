use Rattle.std.proofs.Common.{sym, ap, ◌∙◌}
use Rattle.wjs_step_common.proofs.Following.{follows_as}
use Rattle.wjs_by_content.specs.Tables.{value_in}
use Rattle.wjs_meaning.specs.Deeds.{Gives, then_number}
use Rattle.wjs_meaning.specs.NativesOfObjects.{whole_of}
use Rattle.wjs_meaning.specs.Operators.{arithmetic_second}
use Rattle.wjs_model.specs.Contents.{value_held}
use Rattle.wjs_frames.specs.Parts.{env_in}
use Rattle.wjs_operators.proofs.Operators.{number_passes}
use Rattle.wjs_operators.proofs.operands.calculate_both.Goals as goal

pub returns-in-Number : goal.returns-in-Number
returns-in-Number g c =
    let t = c.calculated.new.config.heap.texts in
    let env = env_in g.S.WorldStore.meaning c.args.config.now t c.args.frame in
    follows_as _ _ _ _ _ _ (λ grows.
    ap (λ x. arithmetic_second c.args.operator x env c.in-Number.number.number) (c.held_number-left.ensures t)
    ∙ sym (ap (λ v. then_number (arithmetic_second c.args.operator (whole_of (value_in t (value_held c.args.frame.held))) env) (Gives (value_in t v))) c.in-Number.is)) c.calculated.ensures

pub returns-in_default : goal.returns-in_default
returns-in_default g c =
    let t = c.finish.new.config.heap.texts in
    let env = env_in g.S.WorldStore.meaning c.args.config.now t c.args.frame in
    follows_as _ _ _ _ _ _ (λ grows. number_passes (arithmetic_second c.args.operator (whole_of (value_in t (value_held c.args.frame.held))) env) t c.args.value c.in_default.not-Number) c.finish.ensures
