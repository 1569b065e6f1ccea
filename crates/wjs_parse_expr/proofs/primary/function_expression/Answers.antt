use Rattle.std.proofs.Common.{sym, ◌∙◌, arith}
use Rattle.wjs_parse_expr.proofs.Entries.{function_found, function_high, function_none, entry_ends}
use Rattle.wjs_parse_expr.proofs.primary.function_expression.Goals as goal

pub height-requires : goal.height-requires
height-requires c = (entry_ends c.args.toks.now c.args.functions.now c.args.at c.args.room c.args.nodes.now c.in-Some.node c.in-Some.next c.requires.held (sym c.at.ensures ∙ c.in-Some.is)).2

pub returns-then-height-room-clause-answer : goal.returns-then-height-room-clause-answer
returns-then-height-room-clause-answer c =
    function_high c.args.toks.now c.args.functions.now c.args.no_in c.args.at c.args.room c.args.nodes.now c.in-Some.node c.in-Some.next c.height.result c.requires.held c.requires.key (sym c.at.ensures ∙ c.in-Some.is) c.height.ensures.expr (omega arith)

pub returns-clause-ends : goal.returns-clause-ends
returns-clause-ends c = entry_ends c.args.toks.now c.args.functions.now c.args.at c.args.room c.args.nodes.now c.in-Some.node c.in-Some.next c.requires.held (sym c.at.ensures ∙ c.in-Some.is)

pub returns-clause-answer : goal.returns-clause-answer
returns-clause-answer c =
    function_found c.args.toks.now c.args.functions.now c.args.no_in c.args.at c.args.room c.args.nodes.now c.in-Some.node c.in-Some.next c.height.result c.requires.held c.requires.key (sym c.at.ensures ∙ c.in-Some.is) c.height.ensures.expr (omega arith)

pub returns-in_default-clause-answer : goal.returns-in_default-clause-answer
returns-in_default-clause-answer c = function_none c.args.toks.now c.args.functions.now c.args.no_in c.args.at c.args.room c.args.nodes.now c.requires.held c.requires.may_begin c.requires.key (sym c.at.ensures ∙ c.in_default.is)
