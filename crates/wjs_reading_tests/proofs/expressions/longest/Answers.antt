use Rattle.wjs_parse_expr.proofs.Places.{first}
use Rattle.wjs_reading_tests.proofs.Tables.{holds_without}
use Rattle.wjs_reading_tests.proofs.expressions.longest.Goals as goal

pub expression-requires-clause-held : goal.expression-requires-clause-held
expression-requires-clause-held c = holds_without c.args.toks.now c.new-functions.result _ (c.has_no_function.ensures.none c.if-not-has_no_function.false) c.new-functions.ensures

pub expression-requires-clause-may_begin : goal.expression-requires-clause-may_begin
expression-requires-clause-may_begin c = first c.args.toks.now
