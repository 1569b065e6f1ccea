use Rattle.std.proofs.Common.{sym, subst}
use Rattle.wjs_base.specs.declared.values.Value.{Value}
use Rattle.wjs_by_content.specs.Tables.{value_in}
use Rattle.wjs_frames.specs.Doing.{Does}
use Rattle.wjs_native_text.specs.Receivers.{primitive_then}
use Rattle.wjs_native_text.proofs.receivers.primitive_value.Goals as goal

pub returns-in-Object-clause-does : goal.returns-in-Object-clause-does
returns-in-Object-clause-does g c =
    let m = g.S.WorldStore.meaning in
    let old = c.args.config.now in
    subst (λ (v : Value). Does m (λ t go. primitive_then (value_in t v) go) (λ t. value_in t c.primitive_of.result) old old) (sym c.in-Object.is) c.primitive_of.ensures.does
