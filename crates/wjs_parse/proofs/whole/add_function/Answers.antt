use Rattle.std.proofs.Common.{◌+◌, arith}
use Rattle.std.proofs.lemmas.Result.{on_ok_weaker}
use Rattle.wjs_parse_expr.proofs.Entries.{held}
use Rattle.wjs_parse.proofs.Table.{holds_before, keyless, holds_more, behind_more, behind_less, no_entry}
use Rattle.wjs_parse.proofs.whole.add_function.Goals as goal

pub returns-then-not-function_may_begin-clause-held : goal.returns-then-not-function_may_begin-clause-held
returns-then-not-function_may_begin-clause-held c =
    holds_before c.args.toks.now c.args.functions.now c.args.place 200 c.args.nodes.now
    (λ m. keyless c.args.toks.now c.args.place (λ h. absurd (let a = c.function_may_begin.ensures.1 (h, m) in let b = c.if-not-function_may_begin.true in cc))) c.requires.held

pub returns-then-not-function_may_begin-clause-behind : goal.returns-then-not-function_may_begin-clause-behind
returns-then-not-function_may_begin-clause-behind c = behind_less c.args.functions.now c.args.place c.requires.behind

pub returns-in_default-clause-held : goal.returns-in_default-clause-held
returns-in_default-clause-held c =
    let none = rw c.in_default.is at c.in_ok-found.ensures.answer in
    holds_before c.args.toks.now c.args.functions.now c.args.place 200 c.function_at.new.nodes (λ m. none)
    (held c.args.toks.now c.args.functions.now (c.args.place + 1) (c.args.place + 1) 200 200 c.args.nodes.now c.function_at.new.nodes c.requires.held c.in_ok-found.ensures.keeps (omega arith) (omega arith))

pub returns-in_default-clause-behind : goal.returns-in_default-clause-behind
returns-in_default-clause-behind c = behind_less c.args.functions.now c.args.place c.requires.behind

pub add-requires : goal.add-requires
add-requires c = no_entry c.args.functions.now c.args.place c.requires.behind

pub returns-clause-held : goal.returns-clause-held
returns-clause-held c =
    let f = rw c.in-Some.is at c.in_ok-found.ensures.answer in
    let o = rw c.in-Some.is at c.in_ok-found.ensures.own in
    on_ok_weaker c.add.result (λ put. holds_more c.args.toks.now c.args.functions.now c.add.new.self c.args.place c.args.nodes.now c.function_at.new.nodes c.in-Some.found c.requires.held c.requires.behind put f o) c.add.ensures.ok

pub returns-clause-behind : goal.returns-clause-behind
returns-clause-behind c =
    on_ok_weaker c.add.result (λ put. behind_more c.args.functions.now c.add.new.self c.args.place c.in-Some.found.node c.in-Some.found.next c.requires.behind put) c.add.ensures.ok
