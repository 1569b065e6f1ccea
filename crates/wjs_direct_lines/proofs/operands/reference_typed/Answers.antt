use Rattle.std.proofs.Common.{subst, sym}
use Rattle.wjs_meaning.specs.Expressions.{typeof_reference}
use Rattle.wjs_model.specs.declared.frame.Reference.{Reference}
use Rattle.wjs_model.specs.Contents.{reference_in}
use Rattle.wjs_stopping.specs.Ends.{gives_in}
use Rattle.wjs_stopping.specs.Evaluating.{Evaluates}
use Rattle.wjs_direct_lines.specs.Deeds.{line_here}
use Rattle.wjs_direct_lines.proofs.Querying.{typed_by_value}
use Rattle.wjs_direct_lines.proofs.operands.reference_typed.Goals as goal

pub returns-in-Global-clause-does : goal.returns-in-Global-clause-does
returns-in-Global-clause-does g c =
    let m = g.S.WorldStore.meaning in
    let old = c.args.config.now in
    let k = c.global_typed.new in
    subst (λ (q : Reference). Evaluates m (line_here m old c.args.frame.now (λ t env. typeof_reference env (reference_in t q))) gives_in c.global_typed.result k.stops.waits k.stops.top old k.config) (sym c.in-Global.is) c.global_typed.ensures.does

pub found_typed-requires-clause-typed : goal.found_typed-requires-clause-typed
found_typed-requires-clause-typed g c = typed_by_value c.args.reference c.in_default.not-Global
