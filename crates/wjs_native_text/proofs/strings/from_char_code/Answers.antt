use Rattle.std.proofs.Common.{sym, ap, ◌∙◌}
use Rattle.std.specs.Prelude.{map}
use Rattle.wjs_by_content.specs.Tables.{value_in}
use Rattle.wjs_frames.specs.Parts.{env_in}
use Rattle.wjs_step_common.proofs.Following.{follows_as}
use Rattle.wjs_meaning.specs.Errors.{give_text}
use Rattle.wjs_native_text.proofs.strings.from_char_code.Goals as goal

pub returns : goal.returns
returns g c =
    let m = g.S.WorldStore.meaning in
    let old = c.args.config.now in
    let new = c.give_text.new.config in
    let t = new.heap.texts in
    let vs = map (value_in t) c.args.args.now in
    let env = env_in m old t c.args.frame in
    follows_as m _ _ old new c.give_text.result (λ grows. ap (λ u. give_text u env) (c.as_slice.ensures.value ∙ sym (c.in_ok-units.ensures t))) c.give_text.ensures
