use Rattle.std.proofs.Common.{List, ap, ◌∙◌}
use Rattle.std.specs.Prelude.{map}
use Rattle.wjs_by_content.specs.Values.{Value}
use Rattle.wjs_by_content.specs.Tables.{value_in}
use Rattle.wjs_meaning.specs.Expressions.{call_values}
use Rattle.wjs_model.specs.Contents.{values_held}
use Rattle.wjs_frames.specs.Parts.{env_in}
use Rattle.wjs_step_common.proofs.Following.{follows_as}
use Rattle.wjs_natives.proofs.Waiting.{earliest-map}
use Rattle.wjs_frames.proofs.Handling.{runs_held}
use Rattle.wjs_native_core.proofs.functions.call_with.Goals as goal

pub returns : goal.returns
returns g c =
    let m = g.S.WorldStore.meaning in
    let old = c.args.config.now in
    let new = c.call_value.new.config in
    let t = new.heap.texts in
    let items = c.in_ok-items_of.field-0 in
    follows_as m _ _ old new c.call_value.result
    (λ grows. ap (λ (vs : List Value). call_values (value_in t c.args.callee) (value_in t c.args.this) (env_in m old t c.args.frame) vs) (earliest-map (value_in t) (values_held items) ∙ ap (map (value_in t)) c.in_ok-items_of.ensures.values))
    (rw c.set_held.ensures at c.call_value.ensures)

pub call_value-requires-clause-runs : goal.call_value-requires-clause-runs
call_value-requires-clause-runs g c = rw c.set_held.ensures (runs_held _ _ _ _ c.requires.runs c.in_ok-items_of.ensures.found)
