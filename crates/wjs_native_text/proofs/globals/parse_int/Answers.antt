use Rattle.std.proofs.Common.{sym, ap, ◌∙◌}
use Rattle.std.specs.Prelude.{map}
use Rattle.wjs_by_content.specs.Tables.{value_in}
use Rattle.wjs_meaning.specs.NativesOfObjects.{whole_at}
use Rattle.wjs_frames.specs.Parts.{env_in}
use Rattle.wjs_step_common.proofs.Following.{follows_as}
use Rattle.wjs_num.specs.Bits.{int32}
use Rattle.wjs_num.specs.Numerals.{integer_of_text}
use Rattle.wjs_meaning.specs.Errors.{give_result}
use Rattle.wjs_native_text.proofs.globals.parse_int.Goals as goal

pub returns : goal.returns
returns g c =
    let m = g.S.WorldStore.meaning in
    let old = c.args.config.now in
    let new = c.give_result.new.config in
    let t = new.heap.texts in
    let vs = map (value_in t) c.args.args.now in
    let env = env_in m old t c.args.frame in
    follows_as m _ _ old new c.give_result.result
    (λ grows. ap (λ x. give_result x env) (c.integer_of-outcome.ensures ∙ ap (λ w. integer_of_text c.text_at.result.now (int32 w)) (sym (c.whole_at.ensures t)) ∙ ap (λ u. integer_of_text u (int32 (whole_at vs 1))) (sym (c.text_at.ensures.text t grows))))
    c.give_result.ensures
