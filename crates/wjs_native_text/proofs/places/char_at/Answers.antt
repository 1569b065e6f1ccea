use Rattle.std.proofs.Common.{sym, ap}
use Rattle.wjs_meaning.specs.NativesOfTexts as line
use Rattle.wjs_step_common.proofs.Following.{follows_as}
use Rattle.wjs_native_text.proofs.places.char_at.Goals as goal

pub returns : goal.returns
returns g c =
    let m = g.S.WorldStore.meaning in
    let old = c.args.config.now in
    let new = c.give_unit.new.config in
    let t = new.heap.texts in
    follows_as m _ _ old new c.give_unit.result (λ grows. ap line.char_at (sym (c.unit_of-unit.ensures t grows))) c.give_unit.ensures
