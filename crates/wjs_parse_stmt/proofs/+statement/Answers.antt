use Rattle.std.proofs.Common.{◌+◌, ◌-◌, ◌<◌, length, true, refl, sym, ◌∙◌, arith, rules}
use Rattle.wjs_tree.specs.declared.tokens.Token.TheVariants as tokens
use Rattle.wjs_tree.specs.declared.signs.Sign.TheVariants as signs
use Rattle.wjs_tree.specs.declared.keys.Key.TheVariants as keys
use Rattle.wjs_tree.specs.Ends.{Complete}
use Rattle.wjs_tree.proofs.Kept.{keeps_self, keeps_both}
use Rattle.wjs_parse_expr.specs.Answers.{from}
use Rattle.wjs_parse_expr.proofs.Readings.{token_within, not_true, not_false}
use Rattle.wjs_parse_expr.proofs.Entries.{held, below_last}
use Rattle.wjs_parse_expr.proofs.Places.{behind, behind_sign, behind_key}
use Rattle.wjs_parse_simple.specs.declared.kind.Kind.TheVariants as kinds
use Rattle.wjs_parse_simple.proofs.Bounds.{ends_within}
use Rattle.wjs_parse_simple.proofs.Forms.{told}
use Rattle.wjs_parse_simple.proofs.Simple.{nothing_none, some_room}
use Rattle.wjs_parse_stmt.proofs.Blocks.{list_start, list_none, list_more, list_end, block_found, block_none, block_open, braced_found, braced_none}
use Rattle.wjs_parse_stmt.proofs.Nested.{while_no_test, while_no_body, while_found, do_no_body, do_no_while, do_no_test, do_no_end, do_found, label_none, label_found, within_no_world, within_no_block, within_found}
use Rattle.wjs_parse_stmt.proofs.Looping.{rest_unopened, rest_no_test, rest_no_update, rest_no_body, rest_found, for_unopened, each_unnamed, each_no_object, each_no_body, each_found, variables_none, variables_no_rest, variables_found, unstarted_none, unstarted_found, first_none, first_found, started_none, started_found, in_no_target, in_no_object, in_no_body, in_found, no_var_there, option_more}
use Rattle.wjs_parse_stmt.proofs.Chaining.{branches_more, branches_last}
use Rattle.wjs_parse_simple.proofs.Declaring.{declarators_more}
use Rattle.wjs_parse_stmt.proofs.Branching.{branch_found, branch_no_test, branch_no_body, if_none, if_found, if_open, link_start, link_none, link_found, link_more}
use Rattle.wjs_parse_stmt.proofs.Arms.{head_ahead, arm_found, arm_headless, arm_bodiless, arms_start, arms_none, arms_more, arms_end, clauses_last, switch_no_test, switch_open, switch_none, switch_found}
use Rattle.wjs_parse_stmt.proofs.Trying.{handler_found, handler_no_block, handler_unnamed, handler_unopened, handler_unclosed, try_no_block, try_bare, try_no_last, finally_found, try_no_handler, catch_found, both_no_last, both_found}
use Rattle.wjs_parse_simple.proofs.Making.{expr_found}
use Rattle.wjs_parse_stmt.proofs.Making.{block_wide, while_made, do_made, label_made, within_made, block_made, braced_made, rest_made, for_made, for_var_in_made, for_in_made, no_init, init_expr, init_var, branch_made, if_made, arm_made, switch_made, finally_made, catch_made, both_made}
use Rattle.wjs_parse_stmt.proofs.Listing.{stmts_none, stmts_more, stmts_same, clauses_none, clauses_more, clauses_same}
use Rattle.wjs_parse_stmt.proofs.Weaving.{heads_none, heads_more, chain_begun}
use Rattle.wjs_parse_stmt.proofs.+statement.Goals as goal

pub iteration::while_statement-parenthesized_expression-requires : goal.iteration::while_statement-parenthesized_expression-requires
iteration::while_statement-parenthesized_expression-requires t c =
    record { held = held c.args.toks.now c.args.functions.now c.args.at (c.args.at + 1) c.args.room (c.args.room - 1) c.args.nodes.now c.args.nodes.now c.requires.held (keeps_self _) (omega arith) (omega arith) }

pub iteration::while_statement-statement-requires : goal.iteration::while_statement-statement-requires
iteration::while_statement-statement-requires t c =
    let e = rw c.in-Some.is at c.in_ok-test.ensures.ends in
    let x = e.0 in
    (search rules, held c.args.toks.now c.args.functions.now c.args.at c.in-Some.test.next c.args.room (c.args.room - 1) c.args.nodes.now c.parenthesized_expression.new.nodes c.requires.held (c.in_ok-test.ensures.keeps) (omega arith) (omega arith))

pub iteration::while_statement-returns-in_default-clause-answer : goal.iteration::while_statement-returns-in_default-clause-answer
iteration::while_statement-returns-in_default-clause-answer t c =
    let g = rw c.in_default.is at c.in_ok-test.ensures.answer in
    while_no_test c.args.toks.now c.args.room c.args.at c.requires.kind g

pub iteration::while_statement-returns-in_default-2-clause-answer : goal.iteration::while_statement-returns-in_default-2-clause-answer
iteration::while_statement-returns-in_default-2-clause-answer t c =
    let f = rw c.in-Some.is at c.in_ok-test.ensures.answer in
    let g = rw c.in_default-2.is at c.in_ok-body.ensures.answer in
    while_no_body c.args.toks.now c.args.room c.args.at c.requires.kind c.parenthesized_expression.new.nodes c.in-Some.test f g

pub iteration::while_statement-returns-clause-ends : goal.iteration::while_statement-returns-clause-ends
iteration::while_statement-returns-clause-ends t c =
    let e1 = rw c.in-Some.is at c.in_ok-test.ensures.ends in
    let x1 = e1.0 in
    let y1 = e1.1 in
    let z1 = e1.2 in
    let e2 = rw c.in-Some-2.is at c.in_ok-body.ensures.ends in
    let x2 = e2.0 in
    let y2 = e2.1 in
    let z2 = e2.2 in
    let k = c.in_ok-node.ensures.ok in
    let n = c.in_ok-node.ensures.longer in
    (omega arith, omega arith, omega arith)

pub iteration::while_statement-returns-clause-answer : goal.iteration::while_statement-returns-clause-answer
iteration::while_statement-returns-clause-answer t c =
    let f = rw c.in-Some.is at c.in_ok-test.ensures.answer in
    let g = rw c.in-Some-2.is at c.in_ok-body.ensures.answer in
    while_found c.args.toks.now c.args.room c.args.at c.requires.kind c.parenthesized_expression.new.nodes c.in-Some.test f c.statement.new.nodes c.add.new.self c.in-Some-2.body c.in_ok-node.node c.requires.below c.in_ok-body.ensures.keeps g c.in_ok-node.ensures.keeps c.in_ok-node.ensures.has

pub iteration::do_while_statement-statement-requires : goal.iteration::do_while_statement-statement-requires
iteration::do_while_statement-statement-requires t c =
    (search rules, held c.args.toks.now c.args.functions.now c.args.at (c.args.at + 1) c.args.room (c.args.room - 1) c.args.nodes.now c.args.nodes.now c.requires.held (keeps_self _) (omega arith) (omega arith))

pub iteration::do_while_statement-returns-in_default-clause-answer : goal.iteration::do_while_statement-returns-in_default-clause-answer
iteration::do_while_statement-returns-in_default-clause-answer t c =
    let g = rw c.in_default.is at c.in_ok-body.ensures.answer in
    do_no_body c.args.toks.now c.args.room c.args.at c.requires.kind g

pub iteration::do_while_statement-returns-then-not-has_key-clause-answer : goal.iteration::do_while_statement-returns-then-not-has_key-clause-answer
iteration::do_while_statement-returns-then-not-has_key-clause-answer t c =
    let f = rw c.in-Some.is at c.in_ok-body.ensures.answer in
    do_no_while c.args.toks.now c.args.room c.args.at c.requires.kind c.statement.new.nodes c.in-Some.body f (λ h. absurd (let a = c.has_key.ensures.1 h in let b = c.if-not-has_key.true in cc))

pub iteration::do_while_statement-parenthesized_expression-requires : goal.iteration::do_while_statement-parenthesized_expression-requires
iteration::do_while_statement-parenthesized_expression-requires t c =
    let e = rw c.in-Some.is at c.in_ok-body.ensures.ends in
    let x = e.0 in
    record { held = held c.args.toks.now c.args.functions.now c.args.at (c.in-Some.body.next + 1) c.args.room (c.args.room - 1) c.args.nodes.now c.statement.new.nodes c.requires.held (c.in_ok-body.ensures.keeps) (omega arith) (omega arith) }

pub iteration::do_while_statement-returns-in_default-2-clause-answer : goal.iteration::do_while_statement-returns-in_default-2-clause-answer
iteration::do_while_statement-returns-in_default-2-clause-answer t c =
    let f = rw c.in-Some.is at c.in_ok-body.ensures.answer in
    let g = rw c.in_default-2.is at c.in_ok-test.ensures.answer in
    do_no_test c.args.toks.now c.args.room c.args.at c.requires.kind c.statement.new.nodes c.in-Some.body f g

pub iteration::do_while_statement-returns-in_default-end_at-clause-answer : goal.iteration::do_while_statement-returns-in_default-end_at-clause-answer
iteration::do_while_statement-returns-in_default-end_at-clause-answer t c =
    let f = rw c.in-Some.is at c.in_ok-body.ensures.answer in
    let g = rw c.in-Some-2.is at c.in_ok-test.ensures.answer in
    do_no_end c.args.toks.now c.args.room c.args.at c.requires.kind c.statement.new.nodes c.in-Some.body f c.parenthesized_expression.new.nodes c.in-Some-2.test g c.in_default-end_at.ensures

pub iteration::do_while_statement-returns-clause-ends : goal.iteration::do_while_statement-returns-clause-ends
iteration::do_while_statement-returns-clause-ends t c =
    let e1 = rw c.in-Some.is at c.in_ok-body.ensures.ends in
    let x1 = e1.0 in
    let y1 = e1.1 in
    let z1 = e1.2 in
    let e2 = rw c.in-Some-2.is at c.in_ok-test.ensures.ends in
    let x2 = e2.0 in
    let y2 = e2.1 in
    let z2 = e2.2 in
    let w = ends_within c.args.toks.now Complete c.in-Some-end_at.ended.end c.in-Some-2.test.next c.in-Some-end_at.ended.next e2.1 c.in-Some-end_at.ensures in
    let w0 = w.0 in
    let w1 = w.1 in
    let k = c.in_ok-node.ensures.ok in
    let n = c.in_ok-node.ensures.longer in
    (omega arith, omega arith, omega arith)

pub iteration::do_while_statement-returns-clause-answer : goal.iteration::do_while_statement-returns-clause-answer
iteration::do_while_statement-returns-clause-answer t c =
    let f = rw c.in-Some.is at c.in_ok-body.ensures.answer in
    let g = rw c.in-Some-2.is at c.in_ok-test.ensures.answer in
    do_found c.args.toks.now c.args.room c.args.at c.requires.kind c.statement.new.nodes c.in-Some.body f c.parenthesized_expression.new.nodes c.in-Some-2.test g c.add.new.self c.in-Some-end_at.ended c.in_ok-node.node c.requires.below c.in_ok-test.ensures.keeps (c.has_key.ensures.0 c.if-not-has_key.false) c.in-Some-end_at.ensures c.in_ok-node.ensures.keeps c.in_ok-node.ensures.has

pub stmt::labelled_statement-statement-requires : goal.stmt::labelled_statement-statement-requires
stmt::labelled_statement-statement-requires t c =
    (search rules, held c.args.toks.now c.args.functions.now c.args.at (c.args.at + 2) c.args.room (c.args.room - 1) c.args.nodes.now c.args.nodes.now c.requires.held (keeps_self _) (omega arith) (omega arith))

pub stmt::labelled_statement-returns-in_default-clause-answer : goal.stmt::labelled_statement-returns-in_default-clause-answer
stmt::labelled_statement-returns-in_default-clause-answer t c =
    let g = rw c.in_default.is at c.in_ok-body.ensures.answer in
    label_none c.args.toks.now c.args.room c.args.at c.args.text c.requires.kind g

pub stmt::labelled_statement-returns-clause-ends : goal.stmt::labelled_statement-returns-clause-ends
stmt::labelled_statement-returns-clause-ends t c =
    let e1 = rw c.in-Some.is at c.in_ok-body.ensures.ends in
    let x1 = e1.0 in
    let y1 = e1.1 in
    let z1 = e1.2 in
    let k = c.in_ok-node.ensures.ok in
    let n = c.in_ok-node.ensures.longer in
    (omega arith, omega arith, omega arith)

pub stmt::labelled_statement-returns-clause-answer : goal.stmt::labelled_statement-returns-clause-answer
stmt::labelled_statement-returns-clause-answer t c =
    let f = rw c.in-Some.is at c.in_ok-body.ensures.answer in
    label_found c.args.toks.now c.args.room c.args.at c.args.text c.requires.kind c.statement.new.nodes c.add.new.self c.in-Some.body c.in_ok-node.node c.requires.below f c.in_ok-node.ensures.keeps c.in_ok-node.ensures.has

pub stmt::within_statement-expression_up_to-requires-clause-may_begin : goal.stmt::within_statement-expression_up_to-requires-clause-may_begin
stmt::within_statement-expression_up_to-requires-clause-may_begin t c = behind_key c.args.toks.now c.args.at keys.In (told c.args.toks.now c.args.at kinds.Within c.requires.kind)

pub stmt::within_statement-returns-in_default-clause-answer : goal.stmt::within_statement-returns-in_default-clause-answer
stmt::within_statement-returns-in_default-clause-answer t c =
    let g = rw c.in_default.is at c.in_ok-world.ensures.answer in
    within_no_world c.args.toks.now c.args.room c.args.at c.requires.kind g

pub stmt::within_statement-block-requires : goal.stmt::within_statement-block-requires
stmt::within_statement-block-requires t c =
    let e = rw c.in-Some.is at c.in_ok-world.ensures.ends in
    let x = e.0 in
    (search rules, held c.args.toks.now c.args.functions.now c.args.at c.in-Some.world.next c.args.room (c.args.room - 1) c.args.nodes.now c.expression_up_to.new.nodes c.requires.held (c.in_ok-world.ensures.keeps) (omega arith) (omega arith))

pub stmt::within_statement-returns-in_default-2-clause-answer : goal.stmt::within_statement-returns-in_default-2-clause-answer
stmt::within_statement-returns-in_default-2-clause-answer t c =
    let f = rw c.in-Some.is at c.in_ok-world.ensures.answer in
    let g = rw c.in_default-2.is at c.in_ok-body.ensures.answer in
    within_no_block c.args.toks.now c.args.room c.args.at c.requires.kind c.expression_up_to.new.nodes c.in-Some.world f g

pub stmt::within_statement-returns-clause-ends : goal.stmt::within_statement-returns-clause-ends
stmt::within_statement-returns-clause-ends t c =
    let e1 = rw c.in-Some.is at c.in_ok-world.ensures.ends in
    let x1 = e1.0 in
    let y1 = e1.1 in
    let z1 = e1.2 in
    let e2 = rw c.in-Some-2.is at c.in_ok-body.ensures.ends in
    let x2 = e2.0 in
    let y2 = e2.1 in
    let z2 = e2.2 in
    let k = c.in_ok-node.ensures.ok in
    let n = c.in_ok-node.ensures.longer in
    (omega arith, omega arith, omega arith)

pub stmt::within_statement-returns-clause-answer : goal.stmt::within_statement-returns-clause-answer
stmt::within_statement-returns-clause-answer t c =
    let f = rw c.in-Some.is at c.in_ok-world.ensures.answer in
    let g = rw c.in-Some-2.is at c.in_ok-body.ensures.answer in
    within_found c.args.toks.now c.args.room c.args.at c.requires.kind c.expression_up_to.new.nodes c.in-Some.world f c.block.new.nodes c.add.new.self c.in-Some-2.body c.in_ok-node.node c.requires.below c.in_ok-body.ensures.keeps g c.in_ok-node.ensures.keeps c.in_ok-node.ensures.has

pub stmt::block_statement-returns-in_default-clause-answer : goal.stmt::block_statement-returns-in_default-clause-answer
stmt::block_statement-returns-in_default-clause-answer t c =
    let g = rw c.in_default.is at c.in_ok-found.ensures.answer in
    braced_none c.args.toks.now c.args.room c.args.at c.requires.kind g

pub stmt::block_statement-returns-clause-answer : goal.stmt::block_statement-returns-clause-answer
stmt::block_statement-returns-clause-answer t c =
    let f = rw c.in-Some.is at c.in_ok-found.ensures.answer in
    braced_found c.args.toks.now c.args.room c.args.at c.block.new.nodes c.in-Some.found c.requires.kind f

pub lists::block-statements-requires : goal.lists::block-statements-requires
lists::block-statements-requires t c =
    (search rules, held c.args.toks.now c.args.functions.now c.args.at (c.args.at + 1) c.args.room (c.args.room - 1) c.args.nodes.now c.args.nodes.now c.requires.held (keeps_self _) (omega arith) (omega arith))

pub lists::block-returns-in_default-clause-answer : goal.lists::block-returns-in_default-clause-answer
lists::block-returns-in_default-clause-answer t c =
    let g = rw c.in_default.is at c.in_ok-found.ensures.answer in
    block_none c.args.toks.now c.args.room c.args.at g

pub lists::block-returns-then-not-has_sign-2-clause-answer : goal.lists::block-returns-then-not-has_sign-2-clause-answer
lists::block-returns-then-not-has_sign-2-clause-answer t c =
    let f = rw c.in-Some.is at c.in_ok-found.ensures.answer in
    block_open c.args.toks.now c.args.room c.args.at c.statements.new.nodes c.in-Some.found f (λ h. absurd (let a = c.has_sign-2.ensures.1 h in let b = c.if-not-has_sign-2.true in cc))

pub lists::block-returns-clause-ends : goal.lists::block-returns-clause-ends
lists::block-returns-clause-ends t c =
    let e1 = rw c.in-Some.is at c.in_ok-found.ensures.ends in
    let x1 = e1.0 in
    let w = token_within c.args.toks.now c.in-Some.found.next (tokens.Sign signs.CloseBrace) (c.has_sign-2.ensures.0 c.if-not-has_sign-2.false) in
    let k = c.in_ok-node.ensures.ok in
    let n = c.in_ok-node.ensures.longer in
    (omega arith, omega arith, omega arith)

pub lists::block-returns-clause-answer : goal.lists::block-returns-clause-answer
lists::block-returns-clause-answer t c =
    let f = rw c.in-Some.is at c.in_ok-found.ensures.answer in
    block_found c.args.toks.now c.args.room c.args.at c.statements.new.nodes c.add.new.self c.in-Some.found c.in_ok-node.node (omega arith) (c.has_sign.ensures.0 c.if-not-has_sign.false) f (c.has_sign-2.ensures.0 c.if-not-has_sign-2.false) c.in_ok-node.ensures.keeps c.in_ok-node.ensures.has

pub lists::statements-loop-alloc-init : goal.lists::statements-loop-alloc-init
lists::statements-loop-alloc-init t c =
    (list_start c.args.toks.now c.args.room c.args.at c.args.nodes.now c.new-list.result.items c.new-list.ensures.items, keeps_self _, omega arith, rw c.new-list.ensures.items tt, stmts_none c.args.functions.now c.args.nodes.now c.args.at c.new-list.result.items c.new-list.ensures.items)

pub lists::statements-statement-requires : goal.lists::statements-statement-requires
lists::statements-statement-requires t c =
    let i = c.loop-alloc.invariant.2 in (search rules, held c.args.toks.now c.args.functions.now c.args.at c.loop-alloc.place c.args.room (c.args.room) c.args.nodes.now c.loop-alloc.nodes c.requires.held (c.loop-alloc.invariant.1) (omega arith) (omega arith))

pub lists::statements-returns-in_default-clause-answer : goal.lists::statements-returns-in_default-clause-answer
lists::statements-returns-in_default-clause-answer t c =
    let g = rw c.in_default.is at c.in_ok-item.ensures.answer in
    list_none c.args.toks.now c.args.room c.args.at c.loop-alloc.nodes c.loop-alloc.list.items c.loop-alloc.place c.loop-alloc.invariant.0 (sym c.is_closed.ensures ∙ c.loop-alloc-test.true) g

pub lists::statements-loop-alloc-preserved : goal.lists::statements-loop-alloc-preserved
lists::statements-loop-alloc-preserved t c =
    let f = rw c.in-Some.is at c.in_ok-item.ensures.answer in
    let e1 = rw c.in-Some.is at c.in_ok-item.ensures.ends in
    let x1 = e1.0 in
    let y1 = e1.1 in
    let z1 = e1.2 in
    let i = c.loop-alloc.invariant.2 in
    (list_more c.args.toks.now c.args.room c.args.at c.loop-alloc.nodes c.loop-alloc.list.items c.loop-alloc.place c.loop-alloc.invariant.0 (sym c.is_closed.ensures ∙ c.loop-alloc-test.true) c.statement.new.nodes c.in-Some.item c.push_last.new.list.items c.in_ok-item.ensures.keeps f c.in_ok-push_last.ensures.ok, keeps_both _ _ _ c.loop-alloc.invariant.1 c.in_ok-item.ensures.keeps, omega arith, rw c.in_ok-push_last.ensures.ok (below_last (length c.loop-alloc.nodes) (length c.statement.new.nodes) c.loop-alloc.list.items c.in-Some.item.node c.in_ok-item.ensures.keeps.longer e1.2 c.loop-alloc.invariant.3), stmts_more c.args.toks.now c.args.functions.now c.args.at c.args.room c.args.nodes.now c.requires.held c.loop-alloc.nodes c.statement.new.nodes c.args.at c.loop-alloc.place c.in-Some.item.next c.loop-alloc.list.items c.push_last.new.list.items c.in-Some.item.node c.loop-alloc.invariant.4 (rw c.in-Some.is at c.in_ok-item.ensures.own) c.in_ok-push_last.ensures.ok)

pub lists::statements-loop-alloc-smaller : goal.lists::statements-loop-alloc-smaller
lists::statements-loop-alloc-smaller t c =
    let e1 = rw c.in-Some.is at c.in_ok-item.ensures.ends in
    let x1 = e1.0 in
    let y1 = e1.1 in
    let z1 = e1.2 in
    omega arith

pub lists::statements-returns-clause-answer : goal.lists::statements-returns-clause-answer
lists::statements-returns-clause-answer t c =
    list_end c.args.toks.now c.args.room c.args.at c.loop-alloc.nodes c.loop-alloc.list.items c.loop-alloc.place _ c.loop-alloc.invariant.0 (sym c.is_closed.ensures ∙ c.loop-alloc-test.false) c.from_vec.ensures refl

pub lists::statements-returns-clause-ends : goal.lists::statements-returns-clause-ends
lists::statements-returns-clause-ends t c =
    (c.loop-alloc.invariant.2, rw c.from_vec.ensures c.loop-alloc.invariant.3)

pub iteration::for_rest-returns-then-not-has_sign-clause-answer : goal.iteration::for_rest-returns-then-not-has_sign-clause-answer
iteration::for_rest-returns-then-not-has_sign-clause-answer t c =
    rest_unopened c.args.toks.now c.args.room c.args.at (λ h. absurd (let a = c.has_sign.ensures.1 h in let b = c.if-not-has_sign.true in cc))

pub iteration::for_rest-optional_expression-requires : goal.iteration::for_rest-optional_expression-requires
iteration::for_rest-optional_expression-requires t c =
    record { held = held c.args.toks.now c.args.functions.now c.args.at (c.args.at + 1) c.args.room (c.args.room) c.args.nodes.now c.args.nodes.now c.requires.held (keeps_self _) (omega arith) (omega arith); may_begin = behind_sign c.args.toks.now c.args.at signs.Semicolon (c.has_sign.ensures.0 c.if-not-has_sign.false) (λ e. cc); ends = refl; begins = refl }

pub iteration::for_rest-returns-in_default-clause-answer : goal.iteration::for_rest-returns-in_default-clause-answer
iteration::for_rest-returns-in_default-clause-answer t c =
    let g = rw c.in_default.is at c.in_ok-test.ensures.answer in
    rest_no_test c.args.toks.now c.args.room c.args.at g

pub iteration::for_rest-optional_expression-requires-2-clause-held : goal.iteration::for_rest-optional_expression-requires-2-clause-held
iteration::for_rest-optional_expression-requires-2-clause-held t c =
    let e1 = rw c.in-Some.is at c.in_ok-test.ensures.ends in
    let x1 = e1.0 in
    let y1 = e1.1 in
    let z1 = e1.2 in
    held c.args.toks.now c.args.functions.now c.args.at (c.in-Some.test.next + 1) c.args.room (c.args.room) c.args.nodes.now c.optional_expression.new.nodes c.requires.held (c.in_ok-test.ensures.keeps) (omega arith) (omega arith)

pub iteration::for_rest-optional_expression-requires-2-clause-may_begin : goal.iteration::for_rest-optional_expression-requires-2-clause-may_begin
iteration::for_rest-optional_expression-requires-2-clause-may_begin t c =
    let f = rw c.in-Some.is at c.in_ok-test.ensures.answer in
    behind_sign c.args.toks.now c.in-Some.test.next signs.Semicolon f.form.closes (λ e. cc)

pub iteration::for_rest-returns-in_default-2-clause-answer : goal.iteration::for_rest-returns-in_default-2-clause-answer
iteration::for_rest-returns-in_default-2-clause-answer t c =
    let f = rw c.in-Some.is at c.in_ok-test.ensures.answer in
    let g = rw c.in_default-2.is at c.in_ok-update.ensures.answer in
    rest_no_update c.args.toks.now c.args.room c.args.at c.optional_expression.new.nodes c.in-Some.test f g

pub iteration::for_rest-statement-requires : goal.iteration::for_rest-statement-requires
iteration::for_rest-statement-requires t c =
    let e1 = rw c.in-Some.is at c.in_ok-test.ensures.ends in
    let x1 = e1.0 in
    let y1 = e1.1 in
    let z1 = e1.2 in
    let e2 = rw c.in-Some-2.is at c.in_ok-update.ensures.ends in
    let x2 = e2.0 in
    let y2 = e2.1 in
    let z2 = e2.2 in
    (search rules, held c.args.toks.now c.args.functions.now c.args.at (c.in-Some-2.update.next + 1) c.args.room (c.args.room) c.args.nodes.now c.optional_expression-2.new.nodes c.requires.held (keeps_both _ _ _ c.in_ok-test.ensures.keeps c.in_ok-update.ensures.keeps) (omega arith) (omega arith))

pub iteration::for_rest-returns-in_default-3-clause-answer : goal.iteration::for_rest-returns-in_default-3-clause-answer
iteration::for_rest-returns-in_default-3-clause-answer t c =
    let f = rw c.in-Some.is at c.in_ok-test.ensures.answer in
    let g = rw c.in-Some-2.is at c.in_ok-update.ensures.answer in
    let h = rw c.in_default-3.is at c.in_ok-body.ensures.answer in
    rest_no_body c.args.toks.now c.args.room c.args.at c.optional_expression.new.nodes c.in-Some.test f c.optional_expression-2.new.nodes c.in-Some-2.update g h

pub iteration::for_rest-returns-clause-ends : goal.iteration::for_rest-returns-clause-ends
iteration::for_rest-returns-clause-ends t c =
    let e1 = rw c.in-Some.is at c.in_ok-test.ensures.ends in
    let x1 = e1.0 in
    let y1 = e1.1 in
    let z1 = e1.2 in
    let e2 = rw c.in-Some-2.is at c.in_ok-update.ensures.ends in
    let x2 = e2.0 in
    let y2 = e2.1 in
    let z2 = e2.2 in
    let e3 = rw c.in-Some-3.is at c.in_ok-body.ensures.ends in
    let x3 = e3.0 in
    let y3 = e3.1 in
    let z3 = e3.2 in
    let l2 = c.in_ok-update.ensures.keeps.longer in
    let l3 = c.in_ok-body.ensures.keeps.longer in
    (omega arith, omega arith, option_more _ _ _ (omega arith) e1.2, option_more _ _ _ (omega arith) e2.2, e3.2)

pub iteration::for_rest-returns-clause-answer : goal.iteration::for_rest-returns-clause-answer
iteration::for_rest-returns-clause-answer t c =
    let f = rw c.in-Some.is at c.in_ok-test.ensures.answer in
    let g = rw c.in-Some-2.is at c.in_ok-update.ensures.answer in
    let h = rw c.in-Some-3.is at c.in_ok-body.ensures.answer in
    rest_found c.args.toks.now c.args.room c.args.at c.optional_expression.new.nodes c.in-Some.test f c.optional_expression-2.new.nodes c.in-Some-2.update g c.statement.new.nodes c.in-Some-3.body c.in_ok-update.ensures.keeps c.in_ok-body.ensures.keeps (c.has_sign.ensures.0 c.if-not-has_sign.false) h

pub iteration::for_statement-returns-then-not-has_sign-clause-answer : goal.iteration::for_statement-returns-then-not-has_sign-clause-answer
iteration::for_statement-returns-then-not-has_sign-clause-answer t c =
    for_unopened c.args.toks.now c.args.room c.args.at c.requires.kind (λ h. absurd (let a = c.has_sign.ensures.1 h in let b = c.if-not-has_sign.true in cc))

pub iteration::for_var_in-returns-in_default-clause-answer : goal.iteration::for_var_in-returns-in_default-clause-answer
iteration::for_var_in-returns-in_default-clause-answer t c =
    each_unnamed c.args.toks.now c.args.room c.args.at c.requires.kind c.requires.var c.requires.inside c.in_default.ensures

pub iteration::for_var_in-expression_up_to-requires : goal.iteration::for_var_in-expression_up_to-requires
iteration::for_var_in-expression_up_to-requires t c =
    record { held = held c.args.toks.now c.args.functions.now c.args.at (c.args.at + 5) c.args.room (c.args.room - 1) c.args.nodes.now c.args.nodes.now c.requires.held (keeps_self _) (omega arith) (omega arith); may_begin = behind c.args.toks.now (c.args.at + 4) (c.args.at + 5) (tokens.Key keys.In) (omega arith) c.requires.inside (λ e. cc); ends = refl }

pub iteration::for_var_in-returns-in_default-2-clause-answer : goal.iteration::for_var_in-returns-in_default-2-clause-answer
iteration::for_var_in-returns-in_default-2-clause-answer t c =
    let g = rw c.in_default-2.is at c.in_ok-object.ensures.answer in
    each_no_object c.args.toks.now c.args.room c.args.at c.requires.kind c.requires.var c.requires.inside g

pub iteration::for_var_in-statement-requires : goal.iteration::for_var_in-statement-requires
iteration::for_var_in-statement-requires t c =
    let e1 = rw c.in-Some-2.is at c.in_ok-object.ensures.ends in
    let x1 = e1.0 in
    let y1 = e1.1 in
    let z1 = e1.2 in
    (search rules, held c.args.toks.now c.args.functions.now c.args.at (c.in-Some-2.object.next + 1) c.args.room (c.args.room - 1) c.args.nodes.now c.expression_up_to.new.nodes c.requires.held (c.in_ok-object.ensures.keeps) (omega arith) (omega arith))

pub iteration::for_var_in-returns-in_default-3-clause-answer : goal.iteration::for_var_in-returns-in_default-3-clause-answer
iteration::for_var_in-returns-in_default-3-clause-answer t c =
    let f = rw c.in-Some-2.is at c.in_ok-object.ensures.answer in
    let g = rw c.in_default-3.is at c.in_ok-body.ensures.answer in
    each_no_body c.args.toks.now c.args.room c.args.at c.requires.kind c.requires.var c.requires.inside c.expression_up_to.new.nodes c.in-Some-2.object f g

pub iteration::for_var_in-returns-clause-ends : goal.iteration::for_var_in-returns-clause-ends
iteration::for_var_in-returns-clause-ends t c =
    let e1 = rw c.in-Some-2.is at c.in_ok-object.ensures.ends in
    let x1 = e1.0 in
    let y1 = e1.1 in
    let z1 = e1.2 in
    let e2 = rw c.in-Some-3.is at c.in_ok-body.ensures.ends in
    let x2 = e2.0 in
    let y2 = e2.1 in
    let z2 = e2.2 in
    let k = c.in_ok-node.ensures.ok in
    let n = c.in_ok-node.ensures.longer in
    (omega arith, omega arith, omega arith)

pub iteration::for_var_in-returns-clause-answer : goal.iteration::for_var_in-returns-clause-answer
iteration::for_var_in-returns-clause-answer t c =
    let f = rw c.in-Some-2.is at c.in_ok-object.ensures.answer in
    let g = rw c.in-Some-3.is at c.in_ok-body.ensures.answer in
    each_found c.args.toks.now c.args.room c.args.at c.requires.kind c.requires.var c.requires.inside c.expression_up_to.new.nodes c.in-Some-2.object f c.statement.new.nodes c.add.new.self c.in-Some.name c.in-Some-3.body c.in_ok-node.node c.requires.below c.requires.opens c.in-Some.ensures c.in_ok-body.ensures.keeps g c.in_ok-node.ensures.keeps c.in_ok-node.ensures.has

pub iteration::for_with_variables-variable_declarations-requires : goal.iteration::for_with_variables-variable_declarations-requires
iteration::for_with_variables-variable_declarations-requires t c =
    record { held = held c.args.toks.now c.args.functions.now c.args.at (c.args.at + 3) c.args.room (c.args.room - 1) c.args.nodes.now c.args.nodes.now c.requires.held (keeps_self _) (omega arith) (omega arith) }

pub iteration::for_with_variables-returns-in_default-clause-answer : goal.iteration::for_with_variables-returns-in_default-clause-answer
iteration::for_with_variables-returns-in_default-clause-answer t c =
    let g = rw c.in_default.is at c.in_ok-first.ensures.answer in
    variables_none c.args.toks.now c.args.room c.args.at c.requires.kind c.requires.var c.requires.outside g

pub iteration::for_with_variables-for_rest-requires : goal.iteration::for_with_variables-for_rest-requires
iteration::for_with_variables-for_rest-requires t c =
    let e1 = rw c.in-Some.is at c.in_ok-first.ensures.ends in
    let x1 = e1.0 in
    let y1 = e1.1 in
    let z1 = e1.2 in
    (search rules, held c.args.toks.now c.args.functions.now c.args.at c.in-Some.first.next c.args.room (c.args.room - 1) c.args.nodes.now c.variable_declarations.new.nodes c.requires.held (c.in_ok-first.ensures.keeps) (omega arith) (omega arith))

pub iteration::for_with_variables-returns-in_default-2-clause-answer : goal.iteration::for_with_variables-returns-in_default-2-clause-answer
iteration::for_with_variables-returns-in_default-2-clause-answer t c =
    let f = rw c.in-Some.is at c.in_ok-first.ensures.answer in
    let g = rw c.in_default-2.is at c.in_ok-rest.ensures.answer in
    variables_no_rest c.args.toks.now c.args.room c.args.at c.requires.kind c.requires.var c.requires.outside c.variable_declarations.new.nodes c.in-Some.first f g

pub iteration::for_with_variables-returns-clause-ends : goal.iteration::for_with_variables-returns-clause-ends
iteration::for_with_variables-returns-clause-ends t c =
    let e1 = rw c.in-Some.is at c.in_ok-first.ensures.ends in
    let x1 = e1.0 in
    let y1 = e1.1 in
    let z1 = e1.2 in
    let e2 = rw c.in-Some-2.is at c.in_ok-rest.ensures.ends in
    let x2 = e2.0 in
    let y2 = e2.1 in
    let z2 = e2.2 in
    let k = c.in_ok-node.ensures.ok in
    let n = c.in_ok-node.ensures.longer in
    (omega arith, omega arith, omega arith)

pub iteration::for_with_variables-returns-clause-answer : goal.iteration::for_with_variables-returns-clause-answer
iteration::for_with_variables-returns-clause-answer t c =
    let f = rw c.in-Some.is at c.in_ok-first.ensures.answer in
    let g = rw c.in-Some-2.is at c.in_ok-rest.ensures.answer in
    variables_found c.args.toks.now c.args.room c.args.at c.requires.kind c.requires.var c.requires.outside c.variable_declarations.new.nodes c.in-Some.first f c.for_rest.new.nodes c.add.new.self c.in-Some-2.rest c.in_ok-node.node c.requires.below c.requires.opens c.in_ok-rest.ensures.keeps g c.in_ok-node.ensures.keeps c.in_ok-node.ensures.has

pub iteration::for_without_first-for_rest-requires : goal.iteration::for_without_first-for_rest-requires
iteration::for_without_first-for_rest-requires t c =
    (search rules, held c.args.toks.now c.args.functions.now c.args.at (c.args.at + 2) c.args.room (c.args.room - 1) c.args.nodes.now c.args.nodes.now c.requires.held (keeps_self _) (omega arith) (omega arith))

pub iteration::for_without_first-returns-in_default-clause-answer : goal.iteration::for_without_first-returns-in_default-clause-answer
iteration::for_without_first-returns-in_default-clause-answer t c =
    let g = rw c.in_default.is at c.in_ok-rest.ensures.answer in
    unstarted_none c.args.toks.now c.args.room c.args.at c.requires.kind (no_var_there c.args.toks.now c.args.at c.requires.semicolon) c.requires.semicolon g

pub iteration::for_without_first-returns-clause-ends : goal.iteration::for_without_first-returns-clause-ends
iteration::for_without_first-returns-clause-ends t c =
    let e2 = rw c.in-Some.is at c.in_ok-rest.ensures.ends in
    let x2 = e2.0 in
    let y2 = e2.1 in
    let z2 = e2.2 in
    let k = c.in_ok-node.ensures.ok in
    let n = c.in_ok-node.ensures.longer in
    (omega arith, omega arith, omega arith)

pub iteration::for_without_first-returns-clause-answer : goal.iteration::for_without_first-returns-clause-answer
iteration::for_without_first-returns-clause-answer t c =
    let g = rw c.in-Some.is at c.in_ok-rest.ensures.answer in
    unstarted_found c.args.toks.now c.args.room c.args.at c.requires.kind (no_var_there c.args.toks.now c.args.at c.requires.semicolon) c.requires.semicolon c.for_rest.new.nodes c.add.new.self c.in-Some.rest c.in_ok-node.node c.requires.below c.requires.opens g c.in_ok-node.ensures.keeps c.in_ok-node.ensures.has

pub iteration::for_without_var-comma_expression-requires : goal.iteration::for_without_var-comma_expression-requires
iteration::for_without_var-comma_expression-requires t c =
    record { held = held c.args.toks.now c.args.functions.now c.args.at (c.args.at + 2) c.args.room (c.args.room - 1) c.args.nodes.now c.args.nodes.now c.requires.held (keeps_self _) (omega arith) (omega arith); may_begin = behind c.args.toks.now (c.args.at + 1) (c.args.at + 2) (tokens.Sign signs.OpenParen) (omega arith) c.requires.opens (λ e. cc) }

pub iteration::for_without_var-returns-in_default-clause-answer : goal.iteration::for_without_var-returns-in_default-clause-answer
iteration::for_without_var-returns-in_default-clause-answer t c =
    let g = rw c.in_default.is at c.in_ok-first.ensures.answer in
    first_none c.args.toks.now c.args.room c.args.at c.requires.kind c.requires.no_var (λ h. absurd (let a = c.has_sign.ensures.1 h in let b = c.if-has_sign.false in cc)) g

pub iteration::for_with_expression-for_rest-requires : goal.iteration::for_with_expression-for_rest-requires
iteration::for_with_expression-for_rest-requires t c =
    let w = c.requires.there.0 in
    (search rules, held c.args.toks.now c.args.functions.now c.args.at c.args.first.next c.args.room (c.args.room - 1) c.args.nodes.now c.args.nodes.now c.requires.held (keeps_self _) (omega arith) (omega arith))

pub iteration::for_with_expression-returns-in_default-clause-answer : goal.iteration::for_with_expression-returns-in_default-clause-answer
iteration::for_with_expression-returns-in_default-clause-answer t c =
    let g = rw c.in_default.is at c.in_ok-rest.ensures.answer in
    started_none c.args.toks.now c.args.room c.args.at c.requires.kind c.requires.no_var c.args.nodes.now c.args.first c.requires.found c.requires.outside g

pub iteration::for_with_expression-returns-clause-ends : goal.iteration::for_with_expression-returns-clause-ends
iteration::for_with_expression-returns-clause-ends t c =
    let w = c.requires.there.0 in
    let v = c.requires.there.2 in
    let e2 = rw c.in-Some.is at c.in_ok-rest.ensures.ends in
    let x2 = e2.0 in
    let y2 = e2.1 in
    let z2 = e2.2 in
    let k = c.in_ok-node.ensures.ok in
    let n = c.in_ok-node.ensures.longer in
    (omega arith, omega arith, omega arith)

pub iteration::for_with_expression-returns-clause-answer : goal.iteration::for_with_expression-returns-clause-answer
iteration::for_with_expression-returns-clause-answer t c =
    let g = rw c.in-Some.is at c.in_ok-rest.ensures.answer in
    started_found c.args.toks.now c.args.room c.args.at c.requires.kind c.requires.no_var c.args.nodes.now c.args.first c.requires.found c.requires.outside c.for_rest.new.nodes c.add.new.self c.in-Some.rest c.in_ok-node.node c.requires.below c.requires.opens c.in_ok-rest.ensures.keeps g c.in_ok-node.ensures.keeps c.in_ok-node.ensures.has

pub iteration::for_in-returns-then-not-first-clause-answer : goal.iteration::for_in-returns-then-not-first-clause-answer
iteration::for_in-returns-then-not-first-clause-answer t c =
    in_no_target c.args.toks.now c.args.room c.args.at c.requires.kind c.requires.no_var c.args.nodes.now c.args.first c.requires.found c.requires.inside (not_true _ c.if-not-first.true)

pub iteration::for_in-expression_up_to-requires : goal.iteration::for_in-expression_up_to-requires
iteration::for_in-expression_up_to-requires t c =
    let w = c.requires.there.0 in
    record { held = held c.args.toks.now c.args.functions.now c.args.at (c.args.first.next + 1) c.args.room (c.args.room - 1) c.args.nodes.now c.args.nodes.now c.requires.held (keeps_self _) (omega arith) (omega arith); may_begin = behind_key c.args.toks.now c.args.first.next keys.In c.requires.inside; ends = refl }

pub iteration::for_in-returns-in_default-clause-answer : goal.iteration::for_in-returns-in_default-clause-answer
iteration::for_in-returns-in_default-clause-answer t c =
    let g = rw c.in_default.is at c.in_ok-object.ensures.answer in
    in_no_object c.args.toks.now c.args.room c.args.at c.requires.kind c.requires.no_var c.args.nodes.now c.args.first c.requires.found c.requires.inside g

pub iteration::for_in-statement-requires : goal.iteration::for_in-statement-requires
iteration::for_in-statement-requires t c =
    let w = c.requires.there.0 in
    let e1 = rw c.in-Some.is at c.in_ok-object.ensures.ends in
    let x1 = e1.0 in
    let y1 = e1.1 in
    let z1 = e1.2 in
    (search rules, held c.args.toks.now c.args.functions.now c.args.at (c.in-Some.object.next + 1) c.args.room (c.args.room - 1) c.args.nodes.now c.expression_up_to.new.nodes c.requires.held (c.in_ok-object.ensures.keeps) (omega arith) (omega arith))

pub iteration::for_in-returns-in_default-2-clause-answer : goal.iteration::for_in-returns-in_default-2-clause-answer
iteration::for_in-returns-in_default-2-clause-answer t c =
    let f = rw c.in-Some.is at c.in_ok-object.ensures.answer in
    let g = rw c.in_default-2.is at c.in_ok-body.ensures.answer in
    in_no_body c.args.toks.now c.args.room c.args.at c.requires.kind c.requires.no_var c.args.nodes.now c.args.first c.requires.found c.expression_up_to.new.nodes c.in-Some.object f c.requires.inside g

pub iteration::for_in-returns-clause-ends : goal.iteration::for_in-returns-clause-ends
iteration::for_in-returns-clause-ends t c =
    let w = c.requires.there.0 in
    let e1 = rw c.in-Some.is at c.in_ok-object.ensures.ends in
    let x1 = e1.0 in
    let y1 = e1.1 in
    let z1 = e1.2 in
    let e2 = rw c.in-Some-2.is at c.in_ok-body.ensures.ends in
    let x2 = e2.0 in
    let y2 = e2.1 in
    let z2 = e2.2 in
    let k = c.in_ok-node.ensures.ok in
    let n = c.in_ok-node.ensures.longer in
    (omega arith, omega arith, omega arith)

pub iteration::for_in-returns-clause-answer : goal.iteration::for_in-returns-clause-answer
iteration::for_in-returns-clause-answer t c =
    let f = rw c.in-Some.is at c.in_ok-object.ensures.answer in
    let g = rw c.in-Some-2.is at c.in_ok-body.ensures.answer in
    in_found c.args.toks.now c.args.room c.args.at c.requires.kind c.requires.no_var c.args.nodes.now c.args.first c.requires.found c.expression_up_to.new.nodes c.in-Some.object f c.requires.inside (not_false _ c.if-not-first.false) c.statement.new.nodes c.add.new.self c.in-Some-2.body c.in_ok-node.node c.requires.below c.requires.opens c.in_ok-object.ensures.keeps c.in_ok-body.ensures.keeps g c.in_ok-node.ensures.keeps c.in_ok-node.ensures.has

pub branch::branch-parenthesized_expression-requires : goal.branch::branch-parenthesized_expression-requires
branch::branch-parenthesized_expression-requires t c =
    record { held = held c.args.toks.now c.args.functions.now c.args.at (c.args.at + 1) c.args.room (c.args.room) c.args.nodes.now c.args.nodes.now c.requires.held (keeps_self _) (omega arith) (omega arith) }

pub branch::branch-returns-in_default-clause-answer : goal.branch::branch-returns-in_default-clause-answer
branch::branch-returns-in_default-clause-answer t c =
    let g = rw c.in_default.is at c.in_ok-test.ensures.answer in
    branch_no_test c.args.toks.now c.args.room c.args.at g

pub branch::branch-statement-requires : goal.branch::branch-statement-requires
branch::branch-statement-requires t c =
    let e1 = rw c.in-Some.is at c.in_ok-test.ensures.ends in
    let x1 = e1.0 in
    let y1 = e1.1 in
    let z1 = e1.2 in
    (search rules, held c.args.toks.now c.args.functions.now c.args.at c.in-Some.test.next c.args.room (c.args.room) c.args.nodes.now c.parenthesized_expression.new.nodes c.requires.held (c.in_ok-test.ensures.keeps) (omega arith) (omega arith))

pub branch::branch-returns-in_default-2-clause-answer : goal.branch::branch-returns-in_default-2-clause-answer
branch::branch-returns-in_default-2-clause-answer t c =
    let f = rw c.in-Some.is at c.in_ok-test.ensures.answer in
    let g = rw c.in_default-2.is at c.in_ok-body.ensures.answer in
    branch_no_body c.args.toks.now c.args.room c.args.at c.parenthesized_expression.new.nodes c.in-Some.test f g

pub branch::branch-returns-clause-ends : goal.branch::branch-returns-clause-ends
branch::branch-returns-clause-ends t c =
    let e1 = rw c.in-Some.is at c.in_ok-test.ensures.ends in
    let x1 = e1.0 in
    let y1 = e1.1 in
    let z1 = e1.2 in
    let e2 = rw c.in-Some-2.is at c.in_ok-body.ensures.ends in
    let x2 = e2.0 in
    let y2 = e2.1 in
    let z2 = e2.2 in
    let l2 = c.in_ok-body.ensures.keeps.longer in
    (omega arith, omega arith, omega arith, omega arith)

pub branch::branch-returns-clause-answer : goal.branch::branch-returns-clause-answer
branch::branch-returns-clause-answer t c =
    let f = rw c.in-Some.is at c.in_ok-test.ensures.answer in
    let g = rw c.in-Some-2.is at c.in_ok-body.ensures.answer in
    branch_found c.args.toks.now c.args.room c.args.at c.parenthesized_expression.new.nodes c.statement.new.nodes c.in-Some.test c.in-Some-2.body f c.in_ok-body.ensures.keeps g

pub branch::if_statement-loop-nodes-init : goal.branch::if_statement-loop-nodes-init
branch::if_statement-loop-nodes-init t c =
    (link_start c.args.toks.now c.args.room c.args.at c.args.nodes.now c.new-heads.result.items c.new-heads.ensures.items, keeps_self _, omega arith, rw c.new-heads.ensures.items tt, heads_none c.args.functions.now c.args.nodes.now c.args.at c.new-heads.result.items c.new-heads.ensures.items)

pub branch::if_statement-branch-alloc-requires : goal.branch::if_statement-branch-alloc-requires
branch::if_statement-branch-alloc-requires t c =
    let i = c.loop-nodes.invariant.2 in
    (search rules, (held c.args.toks.now c.args.functions.now c.args.at c.loop-nodes.place c.args.room (c.args.room - 1) c.args.nodes.now c.loop-nodes.nodes c.requires.held (c.loop-nodes.invariant.1) (omega arith) (omega arith), (c.has_key.ensures.0 c.loop-nodes-test.true)))

pub branch::if_statement-returns-in_default-clause-answer : goal.branch::if_statement-returns-in_default-clause-answer
branch::if_statement-returns-in_default-clause-answer t c =
    let g = rw c.in_default.is at c.in_ok-head.ensures.answer in
    link_none c.args.toks.now c.args.room c.args.at c.loop-nodes.nodes c.loop-nodes.heads.items c.loop-nodes.place c.loop-nodes.invariant.0 (if_none c.args.toks.now c.args.room c.loop-nodes.place (c.has_key.ensures.0 c.loop-nodes-test.true) g)

pub branch::if_statement-chain_ifs-requires : goal.branch::if_statement-chain_ifs-requires
branch::if_statement-chain_ifs-requires t c =
    let e1 = rw c.in-Some.is at c.in_ok-head.ensures.ends in
    let x1 = e1.0 in
    let y1 = e1.1 in
    let z1 = e1.2 in
    let y1b = e1.3 in
    let k = c.in_ok-last.ensures.ok in
    let n = c.in_ok-last.ensures.longer in
    let l1 = c.in_ok-head.ensures.keeps.longer in
    record { below = branches_more _ _ _ (omega arith) c.loop-nodes.invariant.3; there = omega arith }

pub branch::if_statement-returns-then-not-has_key-clause-answer : goal.branch::if_statement-returns-then-not-has_key-clause-answer
branch::if_statement-returns-then-not-has_key-clause-answer t c =
    let f = rw c.in-Some.is at c.in_ok-head.ensures.answer in
    link_found c.args.toks.now c.args.room c.args.at c.loop-nodes.nodes c.loop-nodes.heads.items c.loop-nodes.place c.loop-nodes.invariant.0 c.add.new.self c.chain_ifs.new.nodes (record { node = c.in_ok-last.last; next = c.in-Some.head.next; is_open = true }) c.in_ok-node.node (keeps_both _ _ _ c.in_ok-head.ensures.keeps c.in_ok-last.ensures.keeps) (if_found c.args.toks.now c.args.room c.loop-nodes.place (c.has_key.ensures.0 c.loop-nodes-test.true) c.branch-alloc.new.nodes c.in-Some.head f c.add.new.self c.in_ok-last.last c.requires.below (λ h. absurd (let a = c.has_key-in-loop-nodes.ensures.1 h in let b = c.if-not-has_key.true in cc)) c.in_ok-last.ensures.keeps c.in_ok-last.ensures.has) c.in_ok-node.ensures.answer

pub branch::if_statement-returns-then-not-has_key-clause-ends : goal.branch::if_statement-returns-then-not-has_key-clause-ends
branch::if_statement-returns-then-not-has_key-clause-ends t c =
    let e1 = rw c.in-Some.is at c.in_ok-head.ensures.ends in
    let x1 = e1.0 in
    let y1 = e1.1 in
    let z1 = e1.2 in
    let i = c.loop-nodes.invariant.2 in
    (omega arith, omega arith, c.in_ok-node.ensures.ends)

pub branch::if_statement-returns-then-head-clause-answer : goal.branch::if_statement-returns-then-head-clause-answer
branch::if_statement-returns-then-head-clause-answer t c =
    let f = rw c.in-Some.is at c.in_ok-head.ensures.answer in
    link_none c.args.toks.now c.args.room c.args.at c.loop-nodes.nodes c.loop-nodes.heads.items c.loop-nodes.place c.loop-nodes.invariant.0 (if_open c.args.toks.now c.args.room c.loop-nodes.place (c.has_key.ensures.0 c.loop-nodes-test.true) c.branch-alloc.new.nodes c.in-Some.head f (c.has_key-in-loop-nodes.ensures.0 c.if-not-has_key.false) c.if-head.true)

pub branch::if_statement-loop-nodes-preserved : goal.branch::if_statement-loop-nodes-preserved
branch::if_statement-loop-nodes-preserved t c =
    let f = rw c.in-Some.is at c.in_ok-head.ensures.answer in
    let e1 = rw c.in-Some.is at c.in_ok-head.ensures.ends in
    let x1 = e1.0 in
    let y1 = e1.1 in
    let z1 = e1.2 in
    let y1b = e1.3 in
    let i = c.loop-nodes.invariant.2 in
    (link_more c.args.toks.now c.args.room c.args.at c.loop-nodes.nodes c.loop-nodes.heads.items c.loop-nodes.place c.loop-nodes.invariant.0 c.branch-alloc.new.nodes c.in-Some.head c.push_last.new.list.items c.requires.below (c.has_key.ensures.0 c.loop-nodes-test.true) f c.in_ok-head.ensures.keeps (c.has_key-in-loop-nodes.ensures.0 c.if-not-has_key.false) c.if-head.false c.in_ok-push_last.ensures.ok, keeps_both _ _ _ c.loop-nodes.invariant.1 c.in_ok-head.ensures.keeps, omega arith, rw c.in_ok-push_last.ensures.ok (branches_last (length c.loop-nodes.nodes) (length c.branch-alloc.new.nodes) c.loop-nodes.heads.items c.in-Some.head c.in_ok-head.ensures.keeps.longer e1.2 e1.3 c.loop-nodes.invariant.3), heads_more c.args.toks.now c.args.functions.now c.args.at c.args.room c.args.nodes.now c.requires.held c.loop-nodes.nodes c.branch-alloc.new.nodes c.args.at c.loop-nodes.place (c.in-Some.head.next + 1) c.loop-nodes.heads.items c.push_last.new.list.items c.in-Some.head c.loop-nodes.invariant.4 (omega arith) (rw c.in-Some.is at c.in_ok-head.ensures.own) c.in_ok-push_last.ensures.ok)

pub branch::if_statement-loop-nodes-smaller : goal.branch::if_statement-loop-nodes-smaller
branch::if_statement-loop-nodes-smaller t c =
    let e1 = rw c.in-Some.is at c.in_ok-head.ensures.ends in
    let x1 = e1.0 in
    let y1 = e1.1 in
    let z1 = e1.2 in
    let w = token_within c.args.toks.now c.in-Some.head.next (tokens.Key keys.Else) (c.has_key-in-loop-nodes.ensures.0 c.if-not-has_key.false) in
    omega arith

pub branch::if_statement-overflow_add-place : goal.branch::if_statement-overflow_add-place
branch::if_statement-overflow_add-place t c =
    let h : c.in-Some.head.next < length c.args.toks.now = token_within c.args.toks.now c.in-Some.head.next (tokens.Key keys.Else) (c.has_key-in-loop-nodes.ensures.0 c.if-not-has_key.false) in search rules

pub branch::if_statement-statement_by_kind-requires : goal.branch::if_statement-statement_by_kind-requires
branch::if_statement-statement_by_kind-requires t c =
    let i = c.loop-nodes.invariant.2 in
    (search rules, (held c.args.toks.now c.args.functions.now c.args.at c.loop-nodes.place c.args.room (c.args.room) c.args.nodes.now c.loop-nodes.nodes c.requires.held (c.loop-nodes.invariant.1) (omega arith) (omega arith), (c.requires.below, (λ h. absurd (let a = c.has_key.ensures.1 h in let b = c.loop-nodes-test.false in cc)))))

pub branch::if_statement-returns-in_default-2-clause-answer : goal.branch::if_statement-returns-in_default-2-clause-answer
branch::if_statement-returns-in_default-2-clause-answer t c =
    let g = rw c.in_default-2.is at c.in_ok-last-2.ensures.answer in
    link_none c.args.toks.now c.args.room c.args.at c.loop-nodes.nodes c.loop-nodes.heads.items c.loop-nodes.place c.loop-nodes.invariant.0 g

pub branch::if_statement-chain_ifs-requires-2-clause-below : goal.branch::if_statement-chain_ifs-requires-2-clause-below
branch::if_statement-chain_ifs-requires-2-clause-below t c =
    let e1 = rw c.in-Some-2.is at c.in_ok-last-2.ensures.ends in
    let x1 = e1.0 in
    let y1 = e1.1 in
    let z1 = e1.2 in
    let l1 = c.in_ok-last-2.ensures.keeps.longer in
    branches_more _ _ _ (omega arith) c.loop-nodes.invariant.3

pub branch::if_statement-returns-clause-answer : goal.branch::if_statement-returns-clause-answer
branch::if_statement-returns-clause-answer t c =
    let g = rw c.in-Some-2.is at c.in_ok-last-2.ensures.answer in
    link_found c.args.toks.now c.args.room c.args.at c.loop-nodes.nodes c.loop-nodes.heads.items c.loop-nodes.place c.loop-nodes.invariant.0 c.statement_by_kind.new.nodes c.chain_ifs-2.new.nodes c.in-Some-2.last c.in_ok-node-2.node c.in_ok-last-2.ensures.keeps g c.in_ok-node-2.ensures.answer

pub branch::if_statement-returns-clause-ends : goal.branch::if_statement-returns-clause-ends
branch::if_statement-returns-clause-ends t c =
    let e1 = rw c.in-Some-2.is at c.in_ok-last-2.ensures.ends in
    let x1 = e1.0 in
    let y1 = e1.1 in
    let z1 = e1.2 in
    let i = c.loop-nodes.invariant.2 in
    (omega arith, omega arith, c.in_ok-node-2.ensures.ends)

pub branch::case_clause-returns-in_default-clause-answer : goal.branch::case_clause-returns-in_default-clause-answer
branch::case_clause-returns-in_default-clause-answer t c =
    let g = rw c.in_default.is at c.in_ok-head.ensures.answer in
    arm_headless c.args.toks.now c.args.room c.args.at g

pub branch::case_clause-statements-requires : goal.branch::case_clause-statements-requires
branch::case_clause-statements-requires t c =
    let e1 = rw c.in-Some.is at c.in_ok-head.ensures.ends in
    let x1 = e1.0 in
    let y1 = e1.1 in
    let z1 = e1.2 in
    (search rules, held c.args.toks.now c.args.functions.now c.args.at c.in-Some.head.next c.args.room (c.args.room) c.args.nodes.now c.case_head.new.nodes c.requires.held (c.in_ok-head.ensures.keeps) (omega arith) (omega arith))

pub branch::case_clause-returns-in_default-2-clause-answer : goal.branch::case_clause-returns-in_default-2-clause-answer
branch::case_clause-returns-in_default-2-clause-answer t c =
    let f = rw c.in-Some.is at c.in_ok-head.ensures.answer in
    let g = rw c.in_default-2.is at c.in_ok-body.ensures.answer in
    arm_bodiless c.args.toks.now c.args.room c.args.at c.case_head.new.nodes c.in-Some.head f g

pub branch::case_clause-returns-clause-answer : goal.branch::case_clause-returns-clause-answer
branch::case_clause-returns-clause-answer t c =
    let f = rw c.in-Some.is at c.in_ok-head.ensures.answer in
    let g = rw c.in-Some-2.is at c.in_ok-body.ensures.answer in
    arm_found c.args.toks.now c.args.room c.args.at c.case_head.new.nodes c.statements.new.nodes c.in-Some.head c.in-Some-2.body _ f c.in_ok-body.ensures.keeps g refl refl refl

pub branch::case_clauses-loop-alloc-init : goal.branch::case_clauses-loop-alloc-init
branch::case_clauses-loop-alloc-init t c =
    (arms_start c.args.toks.now c.args.room c.args.at c.args.nodes.now c.new-list.result.items c.new-list.ensures.items, keeps_self _, omega arith, rw c.new-list.ensures.items tt, clauses_none c.args.functions.now c.args.nodes.now c.args.at c.new-list.result.items c.new-list.ensures.items)

pub branch::case_clauses-case_clause-requires : goal.branch::case_clauses-case_clause-requires
branch::case_clauses-case_clause-requires t c =
    let i = c.loop-alloc.invariant.2 in
    (search rules, held c.args.toks.now c.args.functions.now c.args.at c.loop-alloc.place c.args.room (c.args.room) c.args.nodes.now c.loop-alloc.nodes c.requires.held (c.loop-alloc.invariant.1) (omega arith) (omega arith))

pub branch::case_clauses-returns-in_default-clause-answer : goal.branch::case_clauses-returns-in_default-clause-answer
branch::case_clauses-returns-in_default-clause-answer t c =
    let g = rw c.in_default.is at c.in_ok-item.ensures.answer in
    arms_none c.args.toks.now c.args.room c.args.at c.loop-alloc.nodes c.loop-alloc.list.items c.loop-alloc.place c.loop-alloc.invariant.0 (λ h. absurd (let a = c.has_sign.ensures.1 h in let b = c.loop-alloc-test.true in cc)) g

pub branch::case_clauses-loop-alloc-preserved : goal.branch::case_clauses-loop-alloc-preserved
branch::case_clauses-loop-alloc-preserved t c =
    let f = rw c.in-Some.is at c.in_ok-item.ensures.answer in
    let e1 = rw c.in-Some.is at c.in_ok-item.ensures.ends in
    let x1 = e1.0 in
    let y1 = e1.1 in
    let z1 = e1.2 in
    let i = c.loop-alloc.invariant.2 in
    (arms_more c.args.toks.now c.args.room c.args.at c.loop-alloc.nodes c.loop-alloc.list.items c.loop-alloc.place c.loop-alloc.invariant.0 (λ h. absurd (let a = c.has_sign.ensures.1 h in let b = c.loop-alloc-test.true in cc)) c.case_clause.new.nodes c.in-Some.item c.push_last.new.list.items c.in_ok-item.ensures.keeps f c.in_ok-push_last.ensures.ok, keeps_both _ _ _ c.loop-alloc.invariant.1 c.in_ok-item.ensures.keeps, omega arith, rw c.in_ok-push_last.ensures.ok (clauses_last (length c.loop-alloc.nodes) (length c.case_clause.new.nodes) c.loop-alloc.list.items c.in-Some.item.clause c.in_ok-item.ensures.keeps.longer e1.1 e1.2 c.loop-alloc.invariant.3), clauses_more c.args.toks.now c.args.functions.now c.args.at c.args.room c.args.nodes.now c.requires.held c.loop-alloc.nodes c.case_clause.new.nodes c.args.at c.loop-alloc.place c.in-Some.item.next c.loop-alloc.list.items c.push_last.new.list.items c.in-Some.item.clause c.loop-alloc.invariant.4 (rw c.in-Some.is at c.in_ok-item.ensures.own) c.in_ok-push_last.ensures.ok)

pub branch::case_clauses-returns-clause-answer : goal.branch::case_clauses-returns-clause-answer
branch::case_clauses-returns-clause-answer t c =
    arms_end c.args.toks.now c.args.room c.args.at c.loop-alloc.nodes c.loop-alloc.list.items c.loop-alloc.place _ c.loop-alloc.invariant.0 (c.has_sign.ensures.0 c.loop-alloc-test.false) c.from_vec.ensures refl

pub branch::case_clauses-returns-clause-ends : goal.branch::case_clauses-returns-clause-ends
branch::case_clauses-returns-clause-ends t c =
    (c.loop-alloc.invariant.2, token_within c.args.toks.now c.loop-alloc.place (tokens.Sign signs.CloseBrace) (c.has_sign.ensures.0 c.loop-alloc-test.false), rw c.from_vec.ensures c.loop-alloc.invariant.3)

pub branch::switch_statement-parenthesized_expression-requires : goal.branch::switch_statement-parenthesized_expression-requires
branch::switch_statement-parenthesized_expression-requires t c =
    record { held = held c.args.toks.now c.args.functions.now c.args.at (c.args.at + 1) c.args.room (c.args.room - 1) c.args.nodes.now c.args.nodes.now c.requires.held (keeps_self _) (omega arith) (omega arith) }

pub branch::switch_statement-returns-in_default-clause-answer : goal.branch::switch_statement-returns-in_default-clause-answer
branch::switch_statement-returns-in_default-clause-answer t c =
    let g = rw c.in_default.is at c.in_ok-test.ensures.answer in
    switch_no_test c.args.toks.now c.args.room c.args.at c.requires.kind g

pub branch::switch_statement-returns-then-not-has_sign-clause-answer : goal.branch::switch_statement-returns-then-not-has_sign-clause-answer
branch::switch_statement-returns-then-not-has_sign-clause-answer t c =
    let f = rw c.in-Some.is at c.in_ok-test.ensures.answer in
    switch_open c.args.toks.now c.args.room c.args.at c.requires.kind c.parenthesized_expression.new.nodes c.in-Some.test f (λ h. absurd (let a = c.has_sign.ensures.1 h in let b = c.if-not-has_sign.true in cc))

pub branch::switch_statement-case_clauses-requires : goal.branch::switch_statement-case_clauses-requires
branch::switch_statement-case_clauses-requires t c =
    let e1 = rw c.in-Some.is at c.in_ok-test.ensures.ends in
    let x1 = e1.0 in
    let y1 = e1.1 in
    let z1 = e1.2 in
    (search rules, held c.args.toks.now c.args.functions.now c.args.at (c.in-Some.test.next + 1) c.args.room (c.args.room - 1) c.args.nodes.now c.parenthesized_expression.new.nodes c.requires.held (c.in_ok-test.ensures.keeps) (omega arith) (omega arith))

pub branch::switch_statement-returns-in_default-2-clause-answer : goal.branch::switch_statement-returns-in_default-2-clause-answer
branch::switch_statement-returns-in_default-2-clause-answer t c =
    let f = rw c.in-Some.is at c.in_ok-test.ensures.answer in
    let g = rw c.in_default-2.is at c.in_ok-found.ensures.answer in
    switch_none c.args.toks.now c.args.room c.args.at c.requires.kind c.parenthesized_expression.new.nodes c.in-Some.test f g

pub branch::switch_statement-returns-clause-ends : goal.branch::switch_statement-returns-clause-ends
branch::switch_statement-returns-clause-ends t c =
    let e1 = rw c.in-Some.is at c.in_ok-test.ensures.ends in
    let x1 = e1.0 in
    let y1 = e1.1 in
    let z1 = e1.2 in
    let e2 = rw c.in-Some-2.is at c.in_ok-found.ensures.ends in
    let x2 = e2.0 in
    let y2 = e2.1 in
    let z2 = e2.2 in
    let k = c.in_ok-node.ensures.ok in
    let n = c.in_ok-node.ensures.longer in
    (omega arith, omega arith, omega arith)

pub branch::switch_statement-returns-clause-answer : goal.branch::switch_statement-returns-clause-answer
branch::switch_statement-returns-clause-answer t c =
    let f = rw c.in-Some.is at c.in_ok-test.ensures.answer in
    let g = rw c.in-Some-2.is at c.in_ok-found.ensures.answer in
    switch_found c.args.toks.now c.args.room c.args.at c.requires.kind c.parenthesized_expression.new.nodes c.in-Some.test f c.case_clauses.new.nodes c.add.new.self c.in-Some-2.found c.in_ok-node.node c.requires.below (c.has_sign.ensures.0 c.if-not-has_sign.false) c.in_ok-found.ensures.keeps g c.in_ok-node.ensures.keeps c.in_ok-node.ensures.has

pub branch::try_statement-block-requires : goal.branch::try_statement-block-requires
branch::try_statement-block-requires t c =
    (search rules, held c.args.toks.now c.args.functions.now c.args.at (c.args.at + 1) c.args.room (c.args.room - 1) c.args.nodes.now c.args.nodes.now c.requires.held (keeps_self _) (omega arith) (omega arith))

pub branch::try_statement-returns-in_default-clause-answer : goal.branch::try_statement-returns-in_default-clause-answer
branch::try_statement-returns-in_default-clause-answer t c =
    let g = rw c.in_default.is at c.in_ok-body.ensures.answer in
    try_no_block c.args.toks.now c.args.room c.args.at c.requires.kind g

pub branch::try_statement-try_with_catch-requires : goal.branch::try_statement-try_with_catch-requires
branch::try_statement-try_with_catch-requires t c =
    let f = rw c.in-Some.is at c.in_ok-body.ensures.answer in
    let e1 = rw c.in-Some.is at c.in_ok-body.ensures.ends in
    let x1 = e1.0 in
    let y1 = e1.1 in
    let z1 = e1.2 in
    (search rules, (held c.args.toks.now c.args.functions.now c.args.at c.args.at c.args.room (c.args.room) c.args.nodes.now c.block.new.nodes c.requires.held (c.in_ok-body.ensures.keeps) (omega arith) (omega arith), (c.requires.below, (c.requires.kind, (f, ((omega arith, e1.1, e1.2), (c.has_key.ensures.0 c.if-has_key.true)))))))

pub branch::try_statement-returns-then-not-has_key-clause-answer : goal.branch::try_statement-returns-then-not-has_key-clause-answer
branch::try_statement-returns-then-not-has_key-clause-answer t c =
    let f = rw c.in-Some.is at c.in_ok-body.ensures.answer in
    try_bare c.args.toks.now c.args.room c.args.at c.requires.kind c.block.new.nodes c.in-Some.body f (λ h. absurd (let a = c.has_key.ensures.1 h in let b = c.if-has_key.false in cc)) (λ h. absurd (let a = c.has_key-2.ensures.1 h in let b = c.if-not-has_key.true in cc))

pub branch::try_statement-block-requires-2 : goal.branch::try_statement-block-requires-2
branch::try_statement-block-requires-2 t c =
    let e1 = rw c.in-Some.is at c.in_ok-body.ensures.ends in
    let x1 = e1.0 in
    let y1 = e1.1 in
    let z1 = e1.2 in
    (search rules, held c.args.toks.now c.args.functions.now c.args.at (c.in-Some.body.next + 1) c.args.room (c.args.room - 1) c.args.nodes.now c.block.new.nodes c.requires.held (c.in_ok-body.ensures.keeps) (omega arith) (omega arith))

pub branch::try_statement-returns-in_default-2-clause-answer : goal.branch::try_statement-returns-in_default-2-clause-answer
branch::try_statement-returns-in_default-2-clause-answer t c =
    let f = rw c.in-Some.is at c.in_ok-body.ensures.answer in
    let g = rw c.in_default-2.is at c.in_ok-last.ensures.answer in
    try_no_last c.args.toks.now c.args.room c.args.at c.requires.kind c.block.new.nodes c.in-Some.body f (λ h. absurd (let a = c.has_key.ensures.1 h in let b = c.if-has_key.false in cc)) g

pub branch::try_statement-returns-clause-ends : goal.branch::try_statement-returns-clause-ends
branch::try_statement-returns-clause-ends t c =
    let e1 = rw c.in-Some.is at c.in_ok-body.ensures.ends in
    let x1 = e1.0 in
    let y1 = e1.1 in
    let z1 = e1.2 in
    let e2 = rw c.in-Some-2.is at c.in_ok-last.ensures.ends in
    let x2 = e2.0 in
    let y2 = e2.1 in
    let z2 = e2.2 in
    let k = c.in_ok-node.ensures.ok in
    let n = c.in_ok-node.ensures.longer in
    (omega arith, omega arith, omega arith)

pub branch::try_statement-returns-clause-answer : goal.branch::try_statement-returns-clause-answer
branch::try_statement-returns-clause-answer t c =
    let f = rw c.in-Some.is at c.in_ok-body.ensures.answer in
    let g = rw c.in-Some-2.is at c.in_ok-last.ensures.answer in
    finally_found c.args.toks.now c.args.room c.args.at c.requires.kind c.block.new.nodes c.in-Some.body f c.block-2.new.nodes c.add.new.self c.in-Some-2.last c.in_ok-node.node c.requires.below (λ h. absurd (let a = c.has_key.ensures.1 h in let b = c.if-has_key.false in cc)) (c.has_key-2.ensures.0 c.if-not-has_key.false) c.in_ok-last.ensures.keeps g c.in_ok-node.ensures.keeps c.in_ok-node.ensures.has

pub branch::try_with_catch-catch_clause-requires : goal.branch::try_with_catch-catch_clause-requires
branch::try_with_catch-catch_clause-requires t c =
    let w = c.requires.there.0 in
    (search rules, (held c.args.toks.now c.args.functions.now c.args.at c.args.body.next c.args.room (c.args.room - 1) c.args.nodes.now c.args.nodes.now c.requires.held (keeps_self _) (omega arith) (omega arith), c.requires.key))

pub branch::try_with_catch-returns-in_default-clause-answer : goal.branch::try_with_catch-returns-in_default-clause-answer
branch::try_with_catch-returns-in_default-clause-answer t c =
    let g = rw c.in_default.is at c.in_ok-found.ensures.answer in
    try_no_handler c.args.toks.now c.args.room c.args.at c.requires.kind c.args.nodes.now c.args.body c.requires.found c.requires.key g

pub branch::try_with_catch-returns-then-not-has_key-clause-ends : goal.branch::try_with_catch-returns-then-not-has_key-clause-ends
branch::try_with_catch-returns-then-not-has_key-clause-ends t c =
    let w = c.requires.there.0 in
    let e1 = rw c.in-Some.is at c.in_ok-found.ensures.ends in
    let x1 = e1.0 in
    let y1 = e1.1 in
    let z1 = e1.2 in
    let k = c.in_ok-node.ensures.ok in
    let n = c.in_ok-node.ensures.longer in
    (omega arith, omega arith, omega arith)

pub branch::try_with_catch-returns-then-not-has_key-clause-answer : goal.branch::try_with_catch-returns-then-not-has_key-clause-answer
branch::try_with_catch-returns-then-not-has_key-clause-answer t c =
    let f = rw c.in-Some.is at c.in_ok-found.ensures.answer in
    catch_found c.args.toks.now c.args.room c.args.at c.requires.kind c.args.nodes.now c.args.body c.requires.found c.catch_clause.new.nodes c.in-Some.found c.in_ok-found.ensures.keeps c.requires.key f c.add.new.self c.in_ok-node.node c.requires.below (λ h. absurd (let a = c.has_key.ensures.1 h in let b = c.if-not-has_key.true in cc)) c.in_ok-node.ensures.keeps c.in_ok-node.ensures.has

pub branch::try_with_catch-block-requires : goal.branch::try_with_catch-block-requires
branch::try_with_catch-block-requires t c =
    let w = c.requires.there.0 in
    let e1 = rw c.in-Some.is at c.in_ok-found.ensures.ends in
    let x1 = e1.0 in
    let y1 = e1.1 in
    let z1 = e1.2 in
    (search rules, held c.args.toks.now c.args.functions.now c.args.at (c.in-Some.found.next + 1) c.args.room (c.args.room - 1) c.args.nodes.now c.catch_clause.new.nodes c.requires.held (c.in_ok-found.ensures.keeps) (omega arith) (omega arith))

pub branch::try_with_catch-returns-in_default-2-clause-answer : goal.branch::try_with_catch-returns-in_default-2-clause-answer
branch::try_with_catch-returns-in_default-2-clause-answer t c =
    let f = rw c.in-Some.is at c.in_ok-found.ensures.answer in
    let g = rw c.in_default-2.is at c.in_ok-last.ensures.answer in
    both_no_last c.args.toks.now c.args.room c.args.at c.requires.kind c.args.nodes.now c.args.body c.requires.found c.catch_clause.new.nodes c.in-Some.found c.in_ok-found.ensures.keeps c.requires.key f (c.has_key.ensures.0 c.if-not-has_key.false) g

pub branch::try_with_catch-returns-clause-ends : goal.branch::try_with_catch-returns-clause-ends
branch::try_with_catch-returns-clause-ends t c =
    let w = c.requires.there.0 in
    let e1 = rw c.in-Some.is at c.in_ok-found.ensures.ends in
    let x1 = e1.0 in
    let y1 = e1.1 in
    let z1 = e1.2 in
    let e2 = rw c.in-Some-2.is at c.in_ok-last.ensures.ends in
    let x2 = e2.0 in
    let y2 = e2.1 in
    let z2 = e2.2 in
    let k = c.in_ok-node-2.ensures.ok in
    let n = c.in_ok-node-2.ensures.longer in
    (omega arith, omega arith, omega arith)

pub branch::try_with_catch-returns-clause-answer : goal.branch::try_with_catch-returns-clause-answer
branch::try_with_catch-returns-clause-answer t c =
    let f = rw c.in-Some.is at c.in_ok-found.ensures.answer in
    let g = rw c.in-Some-2.is at c.in_ok-last.ensures.answer in
    both_found c.args.toks.now c.args.room c.args.at c.requires.kind c.args.nodes.now c.args.body c.requires.found c.catch_clause.new.nodes c.in-Some.found c.in_ok-found.ensures.keeps c.requires.key f c.block.new.nodes c.add-2.new.self c.in-Some-2.last c.in_ok-node-2.node c.requires.below (c.has_key.ensures.0 c.if-not-has_key.false) c.in_ok-last.ensures.keeps g c.in_ok-node-2.ensures.keeps c.in_ok-node-2.ensures.has

pub branch::catch_clause-returns-then-not-has_sign-clause-answer : goal.branch::catch_clause-returns-then-not-has_sign-clause-answer
branch::catch_clause-returns-then-not-has_sign-clause-answer t c =
    handler_unopened c.args.toks.now c.args.room c.args.at (λ h. absurd (let a = c.has_sign.ensures.1 h in let b = c.if-not-has_sign.true in cc))

pub branch::catch_clause-returns-in_default-clause-answer : goal.branch::catch_clause-returns-in_default-clause-answer
branch::catch_clause-returns-in_default-clause-answer t c =
    handler_unnamed c.args.toks.now c.args.room c.args.at c.in_default.ensures

pub branch::catch_clause-returns-then-not-has_sign-2-clause-answer : goal.branch::catch_clause-returns-then-not-has_sign-2-clause-answer
branch::catch_clause-returns-then-not-has_sign-2-clause-answer t c =
    handler_unclosed c.args.toks.now c.args.room c.args.at (λ h. absurd (let a = c.has_sign-2.ensures.1 h in let b = c.if-not-has_sign-2.true in cc))

pub branch::catch_clause-block-requires : goal.branch::catch_clause-block-requires
branch::catch_clause-block-requires t c =
    (search rules, held c.args.toks.now c.args.functions.now c.args.at (c.args.at + 4) c.args.room (c.args.room) c.args.nodes.now c.args.nodes.now c.requires.held (keeps_self _) (omega arith) (omega arith))

pub branch::catch_clause-returns-in_default-2-clause-answer : goal.branch::catch_clause-returns-in_default-2-clause-answer
branch::catch_clause-returns-in_default-2-clause-answer t c =
    let g = rw c.in_default-2.is at c.in_ok-found.ensures.answer in
    handler_no_block c.args.toks.now c.args.room c.args.at g

pub branch::catch_clause-returns-clause-ends : goal.branch::catch_clause-returns-clause-ends
branch::catch_clause-returns-clause-ends t c =
    let e1 = rw c.in-Some-2.is at c.in_ok-found.ensures.ends in
    let x1 = e1.0 in
    let y1 = e1.1 in
    let z1 = e1.2 in
    (omega arith, omega arith, omega arith)

pub branch::catch_clause-returns-clause-answer : goal.branch::catch_clause-returns-clause-answer
branch::catch_clause-returns-clause-answer t c =
    let g = rw c.in-Some-2.is at c.in_ok-found.ensures.answer in
    handler_found c.args.toks.now c.args.room c.args.at c.block.new.nodes c.in-Some.name c.in-Some-2.found c.requires.key (c.has_sign.ensures.0 c.if-not-has_sign.false) c.in-Some.ensures (c.has_sign-2.ensures.0 c.if-not-has_sign-2.false) g

pub stmt::statement-returns-then-room-eq0-clause-answer : goal.stmt::statement-returns-then-room-eq0-clause-answer
stmt::statement-returns-then-room-eq0-clause-answer t c =
    λ u m r s. some_room u c.args.toks.now c.args.at m (rw c.if-room-eq0.true at r)

pub stmt::statement_by_kind-returns-in-Nothing-clause-answer : goal.stmt::statement_by_kind-returns-in-Nothing-clause-answer
stmt::statement_by_kind-returns-in-Nothing-clause-answer t c =
    nothing_none c.args.toks.now c.args.room c.args.at (sym c.kind_at.ensures ∙ c.in-Nothing.is)

pub stmt::statement_by_kind-returns-in-If-clause-answer : goal.stmt::statement_by_kind-returns-in-If-clause-answer
stmt::statement_by_kind-returns-in-If-clause-answer t c =
    absurd (c.requires.no_if (told c.args.toks.now c.args.at kinds.If (sym c.kind_at.ensures ∙ c.in-If.is)))

pub iteration::for_without_var-for_with_expression-requires : goal.iteration::for_without_var-for_with_expression-requires
iteration::for_without_var-for_with_expression-requires t c =
    let f = rw c.in-Some.is at c.in_ok-first.ensures.answer in
    let e = rw c.in-Some.is at c.in_ok-first.ensures.ends in
    let q = first_found (from c.args.toks.now c.args.functions.now c.args.nodes.now (c.args.at + 2)) c.args.toks.now (c.args.room - 1) (c.args.at + 2) c.comma_expression.new.nodes c.in-Some.first f in
    (search rules, (held c.args.toks.now c.args.functions.now c.args.at c.args.at c.args.room (c.args.room) c.args.nodes.now c.comma_expression.new.nodes c.requires.held c.in_ok-first.ensures.keeps (omega arith) (omega arith), (c.requires.below, (c.requires.kind, (c.requires.opens, (q, (e, (c.requires.no_var, ((λ h. absurd (let a = c.has_key.ensures.1 h in let b = c.if-not-has_key.true in cc)), (λ h. absurd (let a = c.has_sign.ensures.1 h in let b = c.if-has_sign.false in cc)))))))))))

pub iteration::for_without_var-for_in-requires : goal.iteration::for_without_var-for_in-requires
iteration::for_without_var-for_in-requires t c =
    let f = rw c.in-Some.is at c.in_ok-first.ensures.answer in
    let e = rw c.in-Some.is at c.in_ok-first.ensures.ends in
    let q = first_found (from c.args.toks.now c.args.functions.now c.args.nodes.now (c.args.at + 2)) c.args.toks.now (c.args.room - 1) (c.args.at + 2) c.comma_expression.new.nodes c.in-Some.first f in
    (search rules, (held c.args.toks.now c.args.functions.now c.args.at c.args.at c.args.room (c.args.room) c.args.nodes.now c.comma_expression.new.nodes c.requires.held c.in_ok-first.ensures.keeps (omega arith) (omega arith), (c.requires.below, (c.requires.kind, (c.requires.opens, (q, (e, (c.requires.no_var, (c.has_key.ensures.0 c.if-not-has_key.false)))))))))

pub iteration::for_with_variables-add-requires : goal.iteration::for_with_variables-add-requires
iteration::for_with_variables-add-requires t c =
    let e1 = rw c.in-Some.is at c.in_ok-first.ensures.ends in
    let e2 = rw c.in-Some-2.is at c.in_ok-rest.ensures.ends in
    (declarators_more _ _ _ c.in_ok-rest.ensures.keeps.longer e1.2, e2.2, e2.3, e2.4)

pub branch::case_clause-returns-clause-ends : goal.branch::case_clause-returns-clause-ends
branch::case_clause-returns-clause-ends t c =
    let e1 = rw c.in-Some.is at c.in_ok-head.ensures.ends in
    let e2 = rw c.in-Some-2.is at c.in_ok-body.ensures.ends in
    let f = rw c.in-Some.is at c.in_ok-head.ensures.answer in
    let w = head_ahead c.args.toks.now c.args.room c.args.at c.case_head.new.nodes c.in-Some.head f in
    let x = e2.0 in
    (omega arith, option_more _ _ _ c.in_ok-body.ensures.keeps.longer e1.2, e2.1)

pub iteration::while_statement-returns-clause-own : goal.iteration::while_statement-returns-clause-own
iteration::while_statement-returns-clause-own t c =
    let f = rw c.in-Some.is at c.in_ok-test.ensures.own in
    let g = rw c.in-Some-2.is at c.in_ok-body.ensures.own in
    while_made c.args.toks.now c.args.functions.now c.args.at c.args.room c.args.nodes.now c.requires.held c.parenthesized_expression.new.nodes c.statement.new.nodes c.add.new.self c.args.at (c.args.at + 1) c.in-Some.test.next c.in-Some.test.next c.in-Some-2.body.next c.in-Some-2.body.next c.in_ok-node.node (omega arith) (omega arith) (omega arith) c.in-Some.test.node c.in-Some-2.body.node f g (record { has = c.in_ok-node.ensures.has; is = c.in_ok-node.ensures.ok; keeps = c.in_ok-node.ensures.keeps })

pub iteration::do_while_statement-returns-clause-own : goal.iteration::do_while_statement-returns-clause-own
iteration::do_while_statement-returns-clause-own t c =
    let f = rw c.in-Some.is at c.in_ok-body.ensures.own in
    let g = rw c.in-Some-2.is at c.in_ok-test.ensures.own in
    let e2 = rw c.in-Some-2.is at c.in_ok-test.ensures.ends in
    let w = ends_within c.args.toks.now Complete c.in-Some-end_at.ended.end c.in-Some-2.test.next c.in-Some-end_at.ended.next e2.1 c.in-Some-end_at.ensures in
    let w0 = w.0 in
    do_made c.args.toks.now c.args.functions.now c.args.at c.args.room c.args.nodes.now c.requires.held c.statement.new.nodes c.parenthesized_expression.new.nodes c.add.new.self c.args.at (c.args.at + 1) c.in-Some.body.next (c.in-Some.body.next + 1) c.in-Some-2.test.next c.in-Some-end_at.ended.next c.in_ok-node.node (omega arith) (omega arith) (omega arith) c.in-Some.body.node c.in-Some-2.test.node c.in-Some-end_at.ended.end f g (record { has = c.in_ok-node.ensures.has; is = c.in_ok-node.ensures.ok; keeps = c.in_ok-node.ensures.keeps })

pub stmt::labelled_statement-returns-clause-own : goal.stmt::labelled_statement-returns-clause-own
stmt::labelled_statement-returns-clause-own t c =
    let f = rw c.in-Some.is at c.in_ok-body.ensures.own in
    label_made c.args.toks.now c.args.functions.now c.args.at c.args.room c.args.nodes.now c.requires.held c.statement.new.nodes c.add.new.self c.args.at (c.args.at + 2) c.in-Some.body.next c.in-Some.body.next c.in_ok-node.node (omega arith) (omega arith) c.args.text c.in-Some.body.node f (record { has = c.in_ok-node.ensures.has; is = c.in_ok-node.ensures.ok; keeps = c.in_ok-node.ensures.keeps })

pub stmt::within_statement-returns-clause-own : goal.stmt::within_statement-returns-clause-own
stmt::within_statement-returns-clause-own t c =
    let f = rw c.in-Some.is at c.in_ok-world.ensures.own in
    let g = rw c.in-Some-2.is at c.in_ok-body.ensures.own in
    within_made c.args.toks.now c.args.functions.now c.args.at c.args.room c.args.nodes.now c.requires.held c.expression_up_to.new.nodes c.block.new.nodes c.add.new.self c.args.at (c.args.at + 1) c.in-Some.world.next c.in-Some.world.next c.in-Some-2.body.next c.in-Some-2.body.next c.in_ok-node.node (omega arith) (omega arith) (omega arith) c.in-Some.world.node c.in-Some-2.body.node f g (record { has = c.in_ok-node.ensures.has; is = c.in_ok-node.ensures.ok; keeps = c.in_ok-node.ensures.keeps })

pub stmt::block_statement-returns-clause-own : goal.stmt::block_statement-returns-clause-own
stmt::block_statement-returns-clause-own t c =
    let f = rw c.in-Some.is at c.in_ok-found.ensures.own in
    braced_made c.args.functions.now c.args.nodes.now c.block.new.nodes c.args.at c.in-Some.found.next c.in-Some.found.node f

pub lists::block-returns-clause-own : goal.lists::block-returns-clause-own
lists::block-returns-clause-own t c =
    let f = rw c.in-Some.is at c.in_ok-found.ensures.own in
    block_made c.args.toks.now c.args.functions.now c.args.at c.args.room c.args.nodes.now c.requires.held c.statements.new.nodes c.add.new.self c.args.at (c.args.at + 1) c.in-Some.found.next (c.in-Some.found.next + 1) c.in_ok-node.node (omega arith) (omega arith) c.in-Some.found.list f (record { has = c.in_ok-node.ensures.has; is = c.in_ok-node.ensures.ok; keeps = c.in_ok-node.ensures.keeps })

pub lists::statements-returns-clause-own : goal.lists::statements-returns-clause-own
lists::statements-returns-clause-own t c =
    stmts_same c.args.functions.now c.args.nodes.now c.loop-alloc.nodes c.args.at c.loop-alloc.place c.loop-alloc.place c.loop-alloc.list.items _ c.loop-alloc.invariant.4 c.from_vec.ensures refl

pub branch::case_clauses-returns-clause-own : goal.branch::case_clauses-returns-clause-own
branch::case_clauses-returns-clause-own t c =
    clauses_same c.args.functions.now c.args.nodes.now c.loop-alloc.nodes c.args.at c.loop-alloc.place c.loop-alloc.place c.loop-alloc.list.items _ c.loop-alloc.invariant.4 c.from_vec.ensures refl

pub iteration::for_rest-returns-clause-own : goal.iteration::for_rest-returns-clause-own
iteration::for_rest-returns-clause-own t c =
    let f = rw c.in-Some.is at c.in_ok-test.ensures.own in
    let g = rw c.in-Some-2.is at c.in_ok-update.ensures.own in
    let e = rw c.in-Some-3.is at c.in_ok-body.ensures.own in
    rest_made c.args.toks.now c.args.functions.now c.args.at c.args.room c.args.nodes.now c.requires.held c.optional_expression.new.nodes c.optional_expression-2.new.nodes c.statement.new.nodes c.args.at (c.args.at + 1) c.in-Some.test.next (c.in-Some.test.next + 1) c.in-Some-2.update.next (c.in-Some-2.update.next + 1) _ (omega arith) (omega arith) (omega arith) f g e

pub iteration::for_var_in-returns-clause-own : goal.iteration::for_var_in-returns-clause-own
iteration::for_var_in-returns-clause-own t c =
    let f = rw c.in-Some-2.is at c.in_ok-object.ensures.own in
    let g = rw c.in-Some-3.is at c.in_ok-body.ensures.own in
    for_var_in_made c.args.toks.now c.args.functions.now c.args.at c.args.room c.args.nodes.now c.requires.held c.expression_up_to.new.nodes c.statement.new.nodes c.add.new.self c.args.at (c.args.at + 5) c.in-Some-2.object.next (c.in-Some-2.object.next + 1) c.in-Some-3.body.next c.in-Some-3.body.next c.in_ok-node.node (omega arith) (omega arith) (omega arith) c.in-Some.name c.in-Some-2.object.node c.in-Some-3.body.node f g (record { has = c.in_ok-node.ensures.has; is = c.in_ok-node.ensures.ok; keeps = c.in_ok-node.ensures.keeps })

pub iteration::for_with_variables-returns-clause-own : goal.iteration::for_with_variables-returns-clause-own
iteration::for_with_variables-returns-clause-own t c =
    let f = rw c.in-Some.is at c.in_ok-first.ensures.own in
    let g = rw c.in-Some-2.is at c.in_ok-rest.ensures.own in
    for_made c.args.toks.now c.args.functions.now c.args.at c.args.room c.args.nodes.now c.requires.held c.variable_declarations.new.nodes c.for_rest.new.nodes c.add.new.self c.args.at (c.args.at + 3) c.in-Some.first.next c.in-Some.first.next c.in-Some-2.rest.next c.in-Some-2.rest.next c.in_ok-node.node (omega arith) (omega arith) (omega arith) _ c.in-Some-2.rest (init_var c.args.functions.now c.args.nodes.now c.variable_declarations.new.nodes (c.args.at + 3) c.in-Some.first.next c.in-Some.first.list f) refl g (record { has = c.in_ok-node.ensures.has; is = c.in_ok-node.ensures.ok; keeps = c.in_ok-node.ensures.keeps })

pub iteration::for_without_first-returns-clause-own : goal.iteration::for_without_first-returns-clause-own
iteration::for_without_first-returns-clause-own t c =
    let g = rw c.in-Some.is at c.in_ok-rest.ensures.own in
    for_made c.args.toks.now c.args.functions.now c.args.at c.args.room c.args.nodes.now c.requires.held c.args.nodes.now c.for_rest.new.nodes c.add.new.self c.args.at (c.args.at + 2) (c.args.at + 2) (c.args.at + 2) c.in-Some.rest.next c.in-Some.rest.next c.in_ok-node.node (omega arith) (omega arith) (omega arith) _ c.in-Some.rest (no_init c.args.functions.now c.args.nodes.now (c.args.at + 2) (c.args.at + 2) (omega arith)) refl g (record { has = c.in_ok-node.ensures.has; is = c.in_ok-node.ensures.ok; keeps = c.in_ok-node.ensures.keeps })

pub iteration::for_with_expression-returns-clause-own : goal.iteration::for_with_expression-returns-clause-own
iteration::for_with_expression-returns-clause-own t c =
    let g = rw c.in-Some.is at c.in_ok-rest.ensures.own in
    λ start h f. for_made c.args.toks.now c.args.functions.now c.args.at c.args.room start h c.args.nodes.now c.for_rest.new.nodes c.add.new.self c.args.at (c.args.at + 2) c.args.first.next c.args.first.next c.in-Some.rest.next c.in-Some.rest.next c.in_ok-node.node (omega arith) (omega arith) (omega arith) _ c.in-Some.rest (init_expr c.args.functions.now start c.args.nodes.now (c.args.at + 2) c.args.first.next c.args.first.node f) refl g (record { has = c.in_ok-node.ensures.has; is = c.in_ok-node.ensures.ok; keeps = c.in_ok-node.ensures.keeps })

pub iteration::for_in-returns-clause-own : goal.iteration::for_in-returns-clause-own
iteration::for_in-returns-clause-own t c =
    let g = rw c.in-Some.is at c.in_ok-object.ensures.own in
    let e = rw c.in-Some-2.is at c.in_ok-body.ensures.own in
    λ start h f. for_in_made c.args.toks.now c.args.functions.now c.args.at c.args.room start h c.args.nodes.now c.expression_up_to.new.nodes c.statement.new.nodes c.add.new.self c.args.at (c.args.at + 2) c.args.first.next (c.args.first.next + 1) c.in-Some.object.next (c.in-Some.object.next + 1) c.in-Some-2.body.next c.in-Some-2.body.next c.in_ok-node.node (omega arith) (omega arith) (omega arith) (omega arith) c.args.first.node c.in-Some.object.node c.in-Some-2.body.node f g e (record { has = c.in_ok-node.ensures.has; is = c.in_ok-node.ensures.ok; keeps = c.in_ok-node.ensures.keeps })

pub iteration::for_without_var-returns-then-not-has_key-clause-own : goal.iteration::for_without_var-returns-then-not-has_key-clause-own
iteration::for_without_var-returns-then-not-has_key-clause-own t c =
    let f = rw c.in-Some.is at c.in_ok-first.ensures.answer in
    let e = rw c.in-Some.is at c.in_ok-first.ensures.ends in
    let e0 = e.0 in
    c.for_with_expression.ensures.own c.args.nodes.now c.requires.held (expr_found c.args.toks.now c.args.functions.now c.args.nodes.now c.comma_expression.new.nodes (c.args.at + 2) 0 true (c.args.room - 1) c.in-Some.first f c.in_ok-first.ensures.keeps (omega arith))

pub iteration::for_without_var-returns-clause-own : goal.iteration::for_without_var-returns-clause-own
iteration::for_without_var-returns-clause-own t c =
    let f = rw c.in-Some.is at c.in_ok-first.ensures.answer in
    let e = rw c.in-Some.is at c.in_ok-first.ensures.ends in
    let e0 = e.0 in
    c.for_in.ensures.own c.args.nodes.now c.requires.held (expr_found c.args.toks.now c.args.functions.now c.args.nodes.now c.comma_expression.new.nodes (c.args.at + 2) 0 true (c.args.room - 1) c.in-Some.first f c.in_ok-first.ensures.keeps (omega arith))

pub branch::branch-returns-clause-own : goal.branch::branch-returns-clause-own
branch::branch-returns-clause-own t c =
    let f = rw c.in-Some.is at c.in_ok-test.ensures.own in
    let g = rw c.in-Some-2.is at c.in_ok-body.ensures.own in
    branch_made c.args.toks.now c.args.functions.now c.args.at c.args.room c.args.nodes.now c.requires.held c.parenthesized_expression.new.nodes c.statement.new.nodes c.args.at (c.args.at + 1) c.in-Some.test.next c.in-Some.test.next _ (omega arith) (omega arith) f g

pub branch::if_statement-returns-then-not-has_key-clause-own : goal.branch::if_statement-returns-then-not-has_key-clause-own
branch::if_statement-returns-then-not-has_key-clause-own t c =
    let g = rw c.in-Some.is at c.in_ok-head.ensures.own in
    let i = c.loop-nodes.invariant.2 in
    let hh = held c.args.toks.now c.args.functions.now c.args.at c.loop-nodes.place c.args.room c.args.room c.args.nodes.now c.loop-nodes.nodes c.requires.held c.loop-nodes.invariant.1 (omega arith) (omega arith) in
    let u = if_made c.args.toks.now c.args.functions.now c.loop-nodes.place c.args.room c.loop-nodes.nodes hh c.branch-alloc.new.nodes c.add.new.self c.loop-nodes.place c.in-Some.head.next c.in-Some.head c.in_ok-last.last (omega arith) g (record { has = c.in_ok-last.ensures.has; is = c.in_ok-last.ensures.ok; keeps = c.in_ok-last.ensures.keeps }) in
    c.in_ok-node.ensures.own.made c.args.toks.now c.args.functions.now c.args.at c.args.room c.args.nodes.now c.args.at c.in-Some.head.next c.requires.held (chain_begun c.args.toks.now c.args.functions.now c.args.at c.args.room c.args.nodes.now c.requires.held c.loop-nodes.nodes c.add.new.self c.args.at c.loop-nodes.place c.in-Some.head.next c.loop-nodes.heads.items c.in_ok-last.last c.loop-nodes.invariant.4 u)

pub branch::if_statement-returns-clause-own : goal.branch::if_statement-returns-clause-own
branch::if_statement-returns-clause-own t c =
    let g = rw c.in-Some-2.is at c.in_ok-last-2.ensures.own in
    c.in_ok-node-2.ensures.own.made c.args.toks.now c.args.functions.now c.args.at c.args.room c.args.nodes.now c.args.at c.in-Some-2.last.next c.requires.held (chain_begun c.args.toks.now c.args.functions.now c.args.at c.args.room c.args.nodes.now c.requires.held c.loop-nodes.nodes c.statement_by_kind.new.nodes c.args.at c.loop-nodes.place c.in-Some-2.last.next c.loop-nodes.heads.items c.in-Some-2.last.node c.loop-nodes.invariant.4 g)

pub branch::case_clause-returns-clause-own : goal.branch::case_clause-returns-clause-own
branch::case_clause-returns-clause-own t c =
    let f = rw c.in-Some.is at c.in_ok-head.ensures.own in
    let g = rw c.in-Some-2.is at c.in_ok-body.ensures.own in
    arm_made c.args.toks.now c.args.functions.now c.args.at c.args.room c.args.nodes.now c.requires.held c.case_head.new.nodes c.statements.new.nodes c.args.at c.args.at c.in-Some.head.next c.in-Some.head.next c.in-Some-2.body.next _ (omega arith) (omega arith) f g

pub branch::switch_statement-returns-clause-own : goal.branch::switch_statement-returns-clause-own
branch::switch_statement-returns-clause-own t c =
    let f = rw c.in-Some.is at c.in_ok-test.ensures.own in
    let g = rw c.in-Some-2.is at c.in_ok-found.ensures.own in
    switch_made c.args.toks.now c.args.functions.now c.args.at c.args.room c.args.nodes.now c.requires.held c.parenthesized_expression.new.nodes c.case_clauses.new.nodes c.add.new.self c.args.at (c.args.at + 1) c.in-Some.test.next (c.in-Some.test.next + 1) c.in-Some-2.found.next (c.in-Some-2.found.next + 1) c.in_ok-node.node (omega arith) (omega arith) (omega arith) c.in-Some.test.node c.in-Some-2.found.list f g (record { has = c.in_ok-node.ensures.has; is = c.in_ok-node.ensures.ok; keeps = c.in_ok-node.ensures.keeps })

pub branch::try_statement-returns-clause-own : goal.branch::try_statement-returns-clause-own
branch::try_statement-returns-clause-own t c =
    let f = rw c.in-Some.is at c.in_ok-body.ensures.own in
    let g = rw c.in-Some-2.is at c.in_ok-last.ensures.own in
    finally_made c.args.toks.now c.args.functions.now c.args.at c.args.room c.args.nodes.now c.requires.held c.block.new.nodes c.block-2.new.nodes c.add.new.self c.args.at (c.args.at + 1) c.in-Some.body.next (c.in-Some.body.next + 1) c.in-Some-2.last.next c.in-Some-2.last.next c.in_ok-node.node (omega arith) (omega arith) (omega arith) c.in-Some.body.node c.in-Some-2.last.node f g (record { has = c.in_ok-node.ensures.has; is = c.in_ok-node.ensures.ok; keeps = c.in_ok-node.ensures.keeps })

pub branch::try_statement-returns-then-has_key-clause-own : goal.branch::try_statement-returns-then-has_key-clause-own
branch::try_statement-returns-then-has_key-clause-own t c =
    let f = rw c.in-Some.is at c.in_ok-body.ensures.own in
    c.try_with_catch.ensures.own c.args.nodes.now c.requires.held f

pub branch::try_with_catch-returns-then-not-has_key-clause-own : goal.branch::try_with_catch-returns-then-not-has_key-clause-own
branch::try_with_catch-returns-then-not-has_key-clause-own t c =
    let f = rw c.in-Some.is at c.in_ok-found.ensures.own in
    λ start h b. catch_made c.args.toks.now c.args.functions.now c.args.at c.args.room start h c.args.nodes.now c.catch_clause.new.nodes c.add.new.self c.args.at (c.args.at + 1) c.args.body.next c.args.body.next c.in-Some.found.next c.in-Some.found.next c.in_ok-node.node (omega arith) (omega arith) (omega arith) c.in-Some.found.handler.name c.args.body.node c.in-Some.found.handler.block b f (record { has = c.in_ok-node.ensures.has; is = c.in_ok-node.ensures.ok; keeps = c.in_ok-node.ensures.keeps })

pub branch::try_with_catch-returns-clause-own : goal.branch::try_with_catch-returns-clause-own
branch::try_with_catch-returns-clause-own t c =
    let f = rw c.in-Some.is at c.in_ok-found.ensures.own in
    let g = rw c.in-Some-2.is at c.in_ok-last.ensures.own in
    λ start h b. both_made c.args.toks.now c.args.functions.now c.args.at c.args.room start h c.args.nodes.now c.catch_clause.new.nodes c.block.new.nodes c.add-2.new.self c.args.at (c.args.at + 1) c.args.body.next c.args.body.next c.in-Some.found.next (c.in-Some.found.next + 1) c.in-Some-2.last.next c.in-Some-2.last.next c.in_ok-node-2.node (omega arith) (omega arith) (omega arith) (omega arith) c.in-Some.found.handler.name c.args.body.node c.in-Some.found.handler.block c.in-Some-2.last.node b f g (record { has = c.in_ok-node-2.ensures.has; is = c.in_ok-node-2.ensures.ok; keeps = c.in_ok-node-2.ensures.keeps })

pub branch::catch_clause-returns-clause-own : goal.branch::catch_clause-returns-clause-own
branch::catch_clause-returns-clause-own t c =
    let g = rw c.in-Some-2.is at c.in_ok-found.ensures.own in
    block_wide c.args.functions.now c.args.nodes.now c.block.new.nodes (c.args.at + 4) c.args.at c.in-Some-2.found.next c.in-Some-2.found.next c.in-Some-2.found.node (omega arith) (omega arith) g

pub stmt::statement_by_kind-returns-in-Empty-clause-own : goal.stmt::statement_by_kind-returns-in-Empty-clause-own
stmt::statement_by_kind-returns-in-Empty-clause-own t c = c.empty_statement.ensures.own c.args.functions.now

pub stmt::statement_by_kind-returns-in-Continue-clause-own : goal.stmt::statement_by_kind-returns-in-Continue-clause-own
stmt::statement_by_kind-returns-in-Continue-clause-own t c = c.continue_statement.ensures.own c.args.functions.now

pub stmt::statement_by_kind-returns-in-Break-clause-own : goal.stmt::statement_by_kind-returns-in-Break-clause-own
stmt::statement_by_kind-returns-in-Break-clause-own t c = c.break_statement.ensures.own c.args.functions.now
