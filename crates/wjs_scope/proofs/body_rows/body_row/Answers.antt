use Rattle.std.proofs.Common.{sym, subst}
use Rattle.std.proofs.lemmas.Result.{IfOk-weaker}
use Rattle.wjs_scope.specs.declared.declarations.Declarations.{Declarations}
use Rattle.wjs_scope.specs.Bodies.{node_at, Declares}
use Rattle.wjs_scope.proofs.Tabling.{of_body}
use Rattle.wjs_scope.proofs.body_rows.body_row.Goals as goal

pub returns : goal.returns
returns c =
    let ns = c.args.nodes.now in
    let i = c.args.body in
    let found = c.in_ok-declarations.ensures in
    let here = of_body ns c.args.arguments i c.requires.0 c.in_ok-declarations.declarations c.requires.1 found.formals found.functions found.vars found.others in
    IfOk-weaker c.new.result _ _ (λ d same. subst (λ (z : Declarations). Declares ns c.args.arguments (node_at ns i.0) z) (sym same) here) c.new.ensures
