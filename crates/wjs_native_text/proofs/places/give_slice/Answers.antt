use Rattle.std.proofs.Common.{length, sym, ap, ◌∙◌, arith}
use Rattle.wjs_by_content.specs.Values.{String}
use Rattle.wjs_meaning.specs.Deeds.{give}
use Rattle.wjs_frames.specs.Parts.{env_in}
use Rattle.wjs_step_common.proofs.Following.{follows_as}
use Rattle.wjs_native_text.proofs.places.give_slice.Goals as goal

pub give_short-requires-clause-short : goal.give_short-requires-clause-short
give_short-requires-clause-short g c = omega (arith, ap length c.as_slice.ensures.value, c.in_ok-units.ensures.short)

pub returns : goal.returns
returns g c =
    let m = g.S.WorldStore.meaning in
    let old = c.args.config.now in
    let new = c.give_short.new.config in
    let t = new.heap.texts in
    follows_as m _ _ old new c.give_short.result
    (λ grows. ap (λ u. give (String u)) c.as_slice.ensures.value ∙ sym (c.in_ok-units.ensures.units t grows (env_in m old t c.args.frame))) c.give_short.ensures
