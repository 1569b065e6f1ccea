use Rattle.std.proofs.Common.{◌+◌, arith}
use Rattle.wjs_tree.specs.declared.tokens.Token.TheVariants as tokens
use Rattle.wjs_tree.specs.declared.signs.Sign.TheVariants as signs
use Rattle.wjs_tree.proofs.Kept.{keeps_self}
use Rattle.wjs_parse_expr.proofs.Entries.{held}
use Rattle.wjs_parse_expr.proofs.Places.{behind}
use Rattle.wjs_parse.proofs.Functions.{function_headless, function_bodiless, function_found}
use Rattle.wjs_parse.proofs.Making.{function_made}
use Rattle.wjs_parse.proofs.function.function_at.Goals as goal

pub returns-in_default-clause-answer : goal.returns-in_default-clause-answer
returns-in_default-clause-answer c =
    let g = rw c.in_default.is at c.in_ok-head.ensures.answer in
    function_headless c.args.toks.now c.args.at g

pub function_body-requires : goal.function_body-requires
function_body-requires c =
    let e = rw c.in-Some.is at c.in_ok-head.ensures.ends in
    let f = rw c.in-Some.is at c.in_ok-head.ensures.answer in
    let g = f.form.ends in
    record { held = held c.args.toks.now c.args.functions.now (c.args.at + 1) c.in-Some.head.next 200 200 c.args.nodes.now c.args.nodes.now c.requires.held (keeps_self _) (omega arith) (omega arith); may_begin = behind c.args.toks.now (f.form.close + 1) c.in-Some.head.next (tokens.Sign signs.OpenBrace) (omega arith) f.form.brace (λ e. cc) }

pub returns-in_default-2-clause-answer : goal.returns-in_default-2-clause-answer
returns-in_default-2-clause-answer c =
    let f = rw c.in-Some.is at c.in_ok-head.ensures.answer in
    let g = rw c.in_default-2.is at c.in_ok-body.ensures.answer in
    function_bodiless c.args.toks.now c.args.at c.in-Some.head f g

pub add-requires : goal.add-requires
add-requires c = (rw c.in-Some-2.is at c.in_ok-body.ensures.ends).2

pub returns-clause-ends : goal.returns-clause-ends
returns-clause-ends c =
    let d = rw c.in-Some.is at c.in_ok-head.ensures.ends in
    let e = rw c.in-Some-2.is at c.in_ok-body.ensures.ends in
    let x = e.0 in
    let k = c.in_ok-node.ensures.ok in
    let n = c.in_ok-node.ensures.longer in
    (omega arith, e.1, omega arith)

pub returns-clause-answer : goal.returns-clause-answer
returns-clause-answer c =
    let f = rw c.in-Some.is at c.in_ok-head.ensures.answer in
    let g = rw c.in-Some-2.is at c.in_ok-body.ensures.answer in
    function_found c.args.toks.now c.args.at c.in-Some.head f c.function_body.new.nodes c.in-Some-2.body g c.add.new.self c.in_ok-node.node c.in_ok-node.ensures.keeps c.in_ok-node.ensures.has

pub returns-clause-own : goal.returns-clause-own
returns-clause-own c =
    let d = rw c.in-Some.is at c.in_ok-head.ensures.ends in
    let f = rw c.in-Some-2.is at c.in_ok-body.ensures.own in
    function_made c.args.toks.now c.args.functions.now (c.args.at + 1) 200 c.args.nodes.now c.requires.held c.function_body.new.nodes c.add.new.self (c.args.at + 1) c.in-Some.head.next c.in-Some-2.body.next c.in-Some-2.body.next c.in-Some.head.name c.in-Some.head.formals c.in-Some-2.body.list c.in_ok-node.node (omega arith) (omega arith) f (record { has = c.in_ok-node.ensures.has; is = c.in_ok-node.ensures.ok; keeps = c.in_ok-node.ensures.keeps })
