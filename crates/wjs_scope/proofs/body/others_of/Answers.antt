use Rattle.std.proofs.Common.{◌∙◌, ap}
use Rattle.std.proofs.lemmas.Result.{IfOk-weaker}
use Rattle.wjs_scope.specs.Scopes.{none_of, function_names}
use Rattle.wjs_scope.proofs.OtherNames.{none_first}
use Rattle.wjs_scope.proofs.body.others_of.Goals as goal

pub returns-in_ok-taken-in_default : goal.returns-in_ok-taken-in_default
returns-in_ok-taken-in_default c =
    let vars = c.args.vars.now in
    IfOk-weaker c.absent.result _ _
    (λ others same. same ∙ ap (λ taken. none_of taken vars) c.in_ok-taken-in_default.ensures ∙ none_first c.args.arguments c.args.formals.now (function_names c.args.nodes.now c.args.elements.now) vars)
    c.absent.ensures
