use Rattle.std.proofs.Common.{sym, ap, ◌∙◌}
use Rattle.std.specs.Prelude.{map}
use Rattle.wjs_by_content.specs.Tables.{value_in}
use Rattle.wjs_by_content.specs.Values.{String}
use Rattle.wjs_meaning.specs.NativesOfObjects.{text_of}
use Rattle.wjs_meaning.specs.NativesOfTexts as line
use Rattle.wjs_frames.specs.Parts.{env_in}
use Rattle.wjs_step_common.proofs.Following.{follows_as}
use Rattle.wjs_native_text.proofs.Receiving.{no_units}
use Rattle.wjs_native_text.proofs.strings.new_string.Goals as goal

pub returns-in_default : goal.returns-in_default
returns-in_default g c =
    let m = g.S.WorldStore.meaning in
    let old = c.args.config.now in
    let new = c.new_empty.new.config in
    let t = new.heap.texts in
    let vs = map (value_in t) c.args.args.now in
    let env = env_in m old t c.args.frame in
    follows_as m _ _ old new c.new_empty.result (λ grows. ap (λ s. line.wrapped c.args.by_new (String s) env) (sym (ap text_of (c.value_at.ensures.means t) ∙ no_units t c.value_at.result c.in_default.not-Text))) c.new_empty.ensures
