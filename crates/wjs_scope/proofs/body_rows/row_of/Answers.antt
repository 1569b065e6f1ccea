use Rattle.std.proofs.Common.{sym, ◌∙◌}
use Rattle.std.proofs.lemmas.Result.{IfOk-weaker}
use Rattle.wjs_scope.proofs.Tabling.{of_other}
use Rattle.wjs_scope.proofs.body_rows.row_of.Goals as goal

pub body_row-requires : goal.body_row-requires
body_row-requires c = c.requires.stand c.args.id c.node.result.now c.node.ensures.there (sym c.is_body.ensures ∙ c.if-is_body.true)

pub returns-else-is_body : goal.returns-else-is_body
returns-else-is_body c =
    IfOk-weaker c.share.result _ _
    (λ d same. of_other c.args.nodes.now c.args.arguments c.args.id c.node.result.now c.is_body.result d c.args.none.now c.node.ensures.there c.is_body.ensures c.if-is_body.false c.requires.none same)
    c.share.ensures
