use Rattle.std.proofs.Common.{◌+◌, ◌≤◌, ◌<◌, length, ap, arith}
use Rattle.wjs_base.specs.Text.{longest}
use Rattle.wjs_base.proofs.TextLaws.{Grows-refl}
use Rattle.wjs_by_content.specs.Tables.{text_in}
use Rattle.wjs_by_content.specs.Values.{Text}
use Rattle.wjs_frames.specs.Parts.{env_in}
use Rattle.wjs_step_common.proofs.Extending.{long_end, short_end}
use Rattle.wjs_step_common.proofs.Following.{follows_as}
use Rattle.wjs_step_common.proofs.ends.give_extended.Goals as goal

pub returns-then-count-room : goal.returns-then-count-room
returns-then-count-room g c =
    let m = g.S.WorldStore.meaning in
    let old = c.args.config.now in
    let t = c.throw.new.config.heap.texts in
    let l : longest < length c.units_of.result.now + length c.args.back.now = omega arith in
    follows_as m _ _ _ _ c.throw.result (λ grows. long_end (text_in t c.args.front) c.units_of.result.now c.args.back.now (env_in m old t c.args.frame) (c.units_of.ensures.text t grows) l) c.throw.ensures

pub returns-else-count-room : goal.returns-else-count-room
returns-else-count-room g c =
    let m = g.S.WorldStore.meaning in
    let old = c.args.config.now in
    let t = c.extend_short.new.config.heap.texts in
    let s = c.units_of.ensures.short in
    let l : length c.units_of.result.now + length c.args.back.now ≤ longest = omega (arith, s) in
    follows_as m _ _ _ _ c.extend_short.result (λ grows. short_end (text_in t c.args.front) c.units_of.result.now c.args.back.now (env_in m old t c.args.frame) (c.units_of.ensures.text t grows) l) c.extend_short.ensures

pub extend_short-requires-clause-short : goal.extend_short-requires-clause-short
extend_short-requires-clause-short g c =
    let texts = c.args.config.now.heap.texts in
    let n = ap (λ (u : Text). length u) (c.units_of.ensures.text texts (Grows-refl texts)) in
    let s = c.units_of.ensures.short in
    omega (arith, n, s)
