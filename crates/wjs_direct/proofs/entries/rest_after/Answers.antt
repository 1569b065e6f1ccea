use Rattle.std.proofs.Common.{sym, subst}
use Rattle.wjs_model.specs.declared.frame.Completion.{Completion}
use Rattle.wjs_model.specs.Contents.{completion_in}
use Rattle.wjs_stopping.specs.Ends.{gives_in}
use Rattle.wjs_stopping.specs.Evaluating.{Evaluates}
use Rattle.wjs_direct_lines.specs.Deeds.{line_here}
use Rattle.wjs_direct_lines.proofs.Entering.{behind}
use Rattle.wjs_direct.proofs.entries.rest_after.Goals as goal

pub returns-in-Normal-clause-does : goal.returns-in-Normal-clause-does
returns-in-Normal-clause-does g c =
    let m = g.S.WorldStore.meaning in
    let old = c.args.config.now in
    let f = c.args.frame.now in
    let new = c.run_body.new in
    subst (λ (e : Completion). Evaluates m (line_here m old f (λ t env. behind m old f c.args.next t env (completion_in t e))) gives_in c.run_body.result new.stops.waits new.stops.top old new.config) (sym c.in-Normal.is)
    c.run_body.ensures.does
