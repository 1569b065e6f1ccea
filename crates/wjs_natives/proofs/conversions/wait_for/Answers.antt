use Rattle.std.proofs.Common.{◌≡◌, get_or, ap, ◌∙◌}
use Rattle.std.proofs.lemmas.List.{get_or_read}
use Rattle.wjs_base.specs.declared.values.Value.TheVariants as values
use Rattle.wjs_by_content.specs.Tables.{value_in}
use Rattle.wjs_meaning.specs.Deeds.{Act, Completion, Sub}
use Rattle.wjs_model.specs.declared.frame.Activation.{Activation as Frame}
use Rattle.wjs_model.specs.declared.point.Point.TheVariants as points
use Rattle.wjs_model.specs.Rest.{begin_conversion}
use Rattle.wjs_frames.specs.Parts.{env_in, then_at}
use Rattle.wjs_frames.proofs.Handling.{runs_held}
use Rattle.wjs_step_common.proofs.Following.{follows_as}
use Rattle.wjs_natives.proofs.Waiting.{waits_as}
use Rattle.wjs_natives.proofs.conversions.wait_for.Goals as goal

pub returns : goal.returns
returns g c =
    let m = g.S.WorldStore.meaning in
    let old = c.args.config.now in
    let new = c.convert.new.config in
    let t = new.heap.texts in
    let f = c.args.frame in
    let vs = c.args.values.now in
    let at = c.args.at in
    let held : Frame = record f { held = c.in_ok-items_of.field-0 } in
    let env = env_in m old t f in
    let value : c.index-values-at.result ≡ get_or vs at values.Undefined = get_or_read vs at c.index-values-at.result c.requires.at c.index-values-at.is values.Undefined in
    let waits = waits_as t c.args.native c.args.by_new c.in_ok-number.number at c.in_ok-items_of.field-0 vs env c.in_ok-number.ensures c.in_ok-items_of.ensures.values in
    follows_as m _ _ old new c.convert.result
    (λ grows.
    ap (λ v. Sub (begin_conversion c.args.conversion (value_in t v) env) (then_at m old held (points.Native c.args.native c.args.by_new c.in_ok-number.number) t env)) value
    ∙ ap (λ (go : Completion → Act). Sub (begin_conversion c.args.conversion (value_in t (get_or vs at values.Undefined)) env) go) waits)
    (rw c.set_held.ensures at c.convert.ensures)

pub convert-requires-clause-runs : goal.convert-requires-clause-runs
convert-requires-clause-runs g c = rw c.set_held.ensures (runs_held _ _ _ _ c.requires.runs c.in_ok-items_of.ensures.found)
