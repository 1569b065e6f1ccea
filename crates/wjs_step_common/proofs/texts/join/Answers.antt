use Rattle.std.proofs.Common.{◌++◌, sym, ap}
use Rattle.wjs_base.specs.declared.values.Value.{Value}
use Rattle.wjs_by_content.specs.Conversions.{primitive_text}
use Rattle.wjs_by_content.specs.Tables.{value_in}
use Rattle.wjs_meaning.specs.Errors.{give_text}
use Rattle.wjs_frames.specs.Parts.{env_in}
use Rattle.wjs_step_common.proofs.Following.{follows_as}
use Rattle.wjs_step_common.proofs.texts.join.Goals as goal

pub returns-in-Text : goal.returns-in-Text
returns-in-Text g c =
    let m = g.S.WorldStore.meaning in
    let t = c.join_behind.new.config.heap.texts in
    let env = env_in m c.args.config.now t c.args.frame in
    let text = primitive_text (value_in t c.args.right) in
    follows_as m _ _ _ _ c.join_behind.result (λ grows. ap (λ (v : Value). give_text (primitive_text (value_in t v) ++ text) env) (sym c.in-Text.is)) c.join_behind.ensures
