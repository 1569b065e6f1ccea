use Rattle.std.proofs.Common.{subst, sym}
use Rattle.wjs_model.specs.Contents.{reference_in}
use Rattle.wjs_stopping.specs.Ends.{gives_in}
use Rattle.wjs_stopping.specs.Evaluating.{Evaluates}
use Rattle.wjs_direct_lines.specs.declared.operands.Query.{Query}
use Rattle.wjs_direct_lines.specs.Deeds.{line_here}
use Rattle.wjs_direct_lines.specs.Operands.{after_reference}
use Rattle.wjs_direct_lines.proofs.operands.reference_told.Goals as goal

pub returns-in-Delete-clause-does : goal.returns-in-Delete-clause-does
returns-in-Delete-clause-does g c =
    let m = g.S.WorldStore.meaning in
    let old = c.args.config.now in
    let k = c.deleted.new in
    subst (λ (query : Query). Evaluates m (line_here m old c.args.frame.now (λ t env. after_reference query env (reference_in t c.args.reference))) gives_in c.deleted.result k.stops.waits k.stops.top old k.config) (sym c.in-Delete.is) c.deleted.ensures.does

pub returns-in-Typeof-clause-does : goal.returns-in-Typeof-clause-does
returns-in-Typeof-clause-does g c =
    let m = g.S.WorldStore.meaning in
    let old = c.args.config.now in
    let k = c.reference_typed.new in
    subst (λ (query : Query). Evaluates m (line_here m old c.args.frame.now (λ t env. after_reference query env (reference_in t c.args.reference))) gives_in c.reference_typed.result k.stops.waits k.stops.top old k.config) (sym c.in-Typeof.is) c.reference_typed.ensures.does
