use Rattle.std.proofs.Common.{◌≡◌, ℕ, ◌+◌, ◌-◌, ◌<◌, ◌≤◌, false, Some, None, length, rules, refl, sym, ◌∙◌, subst, arith}
use Rattle.wjs_tree.specs.declared.tokens.Token.TheVariants as tokens
use Rattle.wjs_tree.specs.declared.signs.Sign.TheVariants as signs
use Rattle.wjs_tree.specs.declared.keys.Key.TheVariants as keys
use Rattle.wjs_tree.specs.declared.node.Node.TheVariants as nodes
use Rattle.wjs_tree.specs.Operators.{prefix_token, update_token}
use Rattle.wjs_tree.specs.Ends.{HasSign}
use Rattle.wjs_tree.proofs.Kept.{keeps_both, keeps_self}
use Rattle.wjs_parse_expr.specs.Steps.{BinaryStep, CommaStep}
use Rattle.wjs_parse_expr.specs.Answers.{from, Finds}
use Rattle.wjs_parse_expr.proofs.Readings.{token_within, not_false, not_true}
use Rattle.wjs_parse_expr.proofs.Owning.{begun, own_both}
use Rattle.wjs_parse_expr.proofs.Growth.{at_begin, at_step, at_end, nothing}
use Rattle.wjs_parse_expr.proofs.Loops.{binary_loop, comma_loop}
use Rattle.wjs_parse_expr.proofs.Operations.{operation_grows, after_comma_grows, assigned_grows, choice_grows}
use Rattle.wjs_parse_expr.proofs.Suffixes.{at_grows, call_grows, no_index}
use Rattle.wjs_parse_expr.proofs.BinaryChain.{no_operand}
use Rattle.wjs_parse_expr.proofs.OneStep.{no_reading}
use Rattle.wjs_parse_expr.proofs.Assignments.{RightStep, right_step, with_choice, with_assignment, no_target}
use Rattle.wjs_parse_expr.proofs.Unaries.{either_postfix, PostfixStep, postfix_step, no_postfix, with_postfix, prefix_no_room, prefix_none, prefix_found, plain_operand, target_operand}
use Rattle.wjs_parse_expr.proofs.Heads.{chain_begin, chain_step, chain_end, chain_bare, chain_none, chain_found, chain_nothing, created_none, created_no_room, created_bare, created_with, plain_head, plain_none}
use Rattle.wjs_parse_expr.proofs.Targets.{target_begin, target_step, target_end, no_target_bare, no_target_none, last_ends}
use Rattle.wjs_parse_expr.proofs.Gathering.{start, ends, no_item, no_sign, one_more_item, empty, items_start, items_close, items_hole, items_last, items_neither, items_more}
use Rattle.wjs_parse_expr.proofs.Properties.{properties_start, properties_close, properties_last, properties_neither, properties_more}
use Rattle.wjs_parse_expr.proofs.Primaries.{parens_found, parens_nothing, parens_bare, array_found, object_found}
use Rattle.wjs_parse_expr.proofs.Places.{behind, behind_sign, behind_key, behind_binary, behind_assign, behind_prefix}
use Rattle.wjs_parse_expr.proofs.Entries.{held, below_last, items_last_below, properties_last_below}
use Rattle.wjs_parse_expr.proofs.+expression.Goals as goal

pub expr::binary_expression-levels-init : goal.expr::binary_expression-levels-init
expr::binary_expression-levels-init t c =
    let f = rw c.in-Some.is at c.in_ok-left.ensures.answer in
    let lo : 3 ≤ 12 = omega arith in
    let hi : 12 ≤ 12 = omega arith in
    (at_begin (from c.args.toks.now c.args.functions.now c.args.nodes.now c.args.at) c.args.toks.now c.args.no_in c.args.room c.args.at 13 12 (BinaryStep c.args.toks.now 12 c.args.no_in c.args.room) (binary_loop c.args.toks.now c.args.no_in c.args.room c.args.at 12 lo hi) c.unary_expression.new.nodes c.in-Some.left f, c.in_ok-left.ensures.keeps, rw c.in-Some.is at c.in_ok-left.ensures.ends, omega arith, omega arith)

pub expr::binary_expression-levels-preserved-in-Some-2 : goal.expr::binary_expression-levels-preserved-in-Some-2
expr::binary_expression-levels-preserved-in-Some-2 t c =
    let f = rw c.in-Some-2.is at c.in_ok-longer.ensures.answer in
    let e = rw c.in-Some-2.is at c.in_ok-longer.ensures.ends in
    let b = c.levels.invariant.2 in
    let low = c.levels.invariant.3 in
    let lo : 3 ≤ c.levels.reached = omega arith in
    let hi : c.levels.reached ≤ 12 = c.levels.invariant.4 in
    (at_step (from c.args.toks.now c.args.functions.now c.args.nodes.now c.args.at) c.args.toks.now c.args.no_in c.args.room c.args.at (c.levels.reached + 1) c.levels.reached (BinaryStep c.args.toks.now c.levels.reached c.args.no_in c.args.room) (binary_loop c.args.toks.now c.args.no_in c.args.room c.args.at c.levels.reached lo hi) c.levels.nodes c.binary_operation.new.nodes c.levels.left c.in-Some-2.longer (begun c.args.toks.now c.args.functions.now c.args.nodes.now c.levels.nodes c.args.at c.levels.left.next c.args.at c.args.room c.requires.held c.levels.invariant.1 (let x = b.0 in omega arith)) c.levels.invariant.0 f, keeps_both _ _ _ c.levels.invariant.1 c.in_ok-longer.ensures.keeps, ((let x = e.0 in let y = b.0 in omega arith), e.1, e.2), low, hi)

pub expr::binary_expression-returns-in_default-clause-answer : goal.expr::binary_expression-returns-in_default-clause-answer
expr::binary_expression-returns-in_default-clause-answer t c =
    let f = rw c.in_default.is at c.in_ok-left.ensures.answer in
    record { none = no_operand c.args.toks.now c.args.no_in c.args.room c.args.at (13 - c.args.level) c.args.level c.requires.low (let hi = c.requires.high in omega arith) f.none }

pub expr::binary_expression-returns-then-reached-level-clause-answer : goal.expr::binary_expression-returns-then-reached-level-clause-answer
expr::binary_expression-returns-then-reached-level-clause-answer t c =
    let f = rw c.in_default-2.is at c.in_ok-longer.ensures.answer in
    let low = c.levels.invariant.3 in
    let lo : 3 ≤ c.levels.reached = (let l = c.requires.low in omega arith) in
    let hi : c.levels.reached ≤ 12 = c.levels.invariant.4 in
    subst (λ (n : ℕ). Finds (from c.args.toks.now c.args.functions.now c.args.nodes.now c.args.at) c.args.toks.now n c.args.no_in c.args.room c.args.at c.binary_operation.new.nodes c.levels.left) c.if-reached-level.true
    (at_end (from c.args.toks.now c.args.functions.now c.args.nodes.now c.args.at) c.args.toks.now c.args.no_in c.args.room c.args.at (c.levels.reached + 1) c.levels.reached (BinaryStep c.args.toks.now c.levels.reached c.args.no_in c.args.room) (binary_loop c.args.toks.now c.args.no_in c.args.room c.args.at c.levels.reached lo hi) c.levels.nodes c.binary_operation.new.nodes c.levels.left c.in_ok-longer.ensures.keeps c.levels.invariant.0 f)

pub expr::binary_expression-levels-preserved : goal.expr::binary_expression-levels-preserved
expr::binary_expression-levels-preserved t c =
    let f = rw c.in_default-2.is at c.in_ok-longer.ensures.answer in
    let b = c.levels.invariant.2 in
    let low = c.levels.invariant.3 in
    let above = c.if-reached-level.false in
    let lo : 3 ≤ c.levels.reached = (let l = c.requires.low in omega arith) in
    let hi : c.levels.reached ≤ 12 = c.levels.invariant.4 in
    let less : 3 ≤ c.levels.reached - 1 = (let l = c.requires.low in omega arith) in
    let most : c.levels.reached - 1 ≤ 12 = omega arith in
    let same : c.levels.reached ≡ c.levels.reached - 1 + 1 = omega arith in
    let found = at_end (from c.args.toks.now c.args.functions.now c.args.nodes.now c.args.at) c.args.toks.now c.args.no_in c.args.room c.args.at (c.levels.reached + 1) c.levels.reached (BinaryStep c.args.toks.now c.levels.reached c.args.no_in c.args.room) (binary_loop c.args.toks.now c.args.no_in c.args.room c.args.at c.levels.reached lo hi) c.levels.nodes c.binary_operation.new.nodes c.levels.left c.in_ok-longer.ensures.keeps c.levels.invariant.0 f in
    (at_begin (from c.args.toks.now c.args.functions.now c.args.nodes.now c.args.at) c.args.toks.now c.args.no_in c.args.room c.args.at (c.levels.reached - 1 + 1) (c.levels.reached - 1) (BinaryStep c.args.toks.now (c.levels.reached - 1) c.args.no_in c.args.room) (binary_loop c.args.toks.now c.args.no_in c.args.room c.args.at (c.levels.reached - 1) less most) c.binary_operation.new.nodes c.levels.left (subst (λ (n : ℕ). Finds (from c.args.toks.now c.args.functions.now c.args.nodes.now c.args.at) c.args.toks.now n c.args.no_in c.args.room c.args.at c.binary_operation.new.nodes c.levels.left) same found), keeps_both _ _ _ c.levels.invariant.1 c.in_ok-longer.ensures.keeps, (b.0, b.1, (let n = b.2 in let k = c.in_ok-longer.ensures.keeps.longer in omega arith)), omega arith, most)

pub expr::binary_operation-returns-clause-answer : goal.expr::binary_operation-returns-clause-answer
expr::binary_operation-returns-clause-answer t c =
    let f = rw c.in-Some-2.is at c.in_ok-right.ensures.answer in
    let w = c.in-Some.ensures in
    operation_grows c.args.toks.now c.args.level c.args.no_in c.args.room c.args.functions.now c.args.left c.in-Some-2.right c.in-Some.op c.in_ok-node.node c.args.nodes.now c.binary_expression.new.nodes c.add.new.self w.0 w.1 (omega (arith, c.level.ensures)) (omega arith) c.in_ok-right.ensures.keeps c.in_ok-node.ensures.keeps f c.in_ok-node.ensures.has c.in_ok-node.ensures.ok

pub expr::comma_expression-loop-longer-init : goal.expr::comma_expression-loop-longer-init
expr::comma_expression-loop-longer-init t c =
    let f = rw c.in-Some.is at c.in_ok-left.ensures.answer in
    (at_begin (from c.args.toks.now c.args.functions.now c.args.nodes.now c.args.at) c.args.toks.now c.args.no_in c.args.room c.args.at 1 0 (CommaStep c.args.toks.now c.args.no_in c.args.room) (comma_loop c.args.toks.now c.args.no_in c.args.room c.args.at) c.assignment_expression.new.nodes c.in-Some.left f, c.in_ok-left.ensures.keeps, rw c.in-Some.is at c.in_ok-left.ensures.ends)

pub expr::comma_expression-loop-longer-preserved : goal.expr::comma_expression-loop-longer-preserved
expr::comma_expression-loop-longer-preserved t c =
    let f = rw c.in-Some-2.is at c.in_ok-longer.ensures.answer in
    let e = rw c.in-Some-2.is at c.in_ok-longer.ensures.ends in
    let b = c.loop-longer.invariant.2 in
    (at_step (from c.args.toks.now c.args.functions.now c.args.nodes.now c.args.at) c.args.toks.now c.args.no_in c.args.room c.args.at 1 0 (CommaStep c.args.toks.now c.args.no_in c.args.room) (comma_loop c.args.toks.now c.args.no_in c.args.room c.args.at) c.loop-longer.nodes c.after_comma.new.nodes c.loop-longer.left c.in-Some-2.longer (begun c.args.toks.now c.args.functions.now c.args.nodes.now c.loop-longer.nodes c.args.at c.loop-longer.left.next c.args.at c.args.room c.requires.held c.loop-longer.invariant.1 (let x = b.0 in omega arith)) c.loop-longer.invariant.0 f, keeps_both _ _ _ c.loop-longer.invariant.1 c.in_ok-longer.ensures.keeps, ((let x = e.0 in let y = b.0 in omega arith), e.1, e.2))

pub expr::comma_expression-loop-longer-smaller : goal.expr::comma_expression-loop-longer-smaller
expr::comma_expression-loop-longer-smaller t c = let e = rw c.in-Some-2.is at c.in_ok-longer.ensures.ends in let x = e.0 in let y = e.1 in omega arith

pub expr::comma_expression-returns-clause-answer : goal.expr::comma_expression-returns-clause-answer
expr::comma_expression-returns-clause-answer t c =
    let f = rw c.in_default-2.is at c.in_ok-longer.ensures.answer in
    at_end (from c.args.toks.now c.args.functions.now c.args.nodes.now c.args.at) c.args.toks.now c.args.no_in c.args.room c.args.at 1 0 (CommaStep c.args.toks.now c.args.no_in c.args.room) (comma_loop c.args.toks.now c.args.no_in c.args.room c.args.at) c.loop-longer.nodes c.after_comma.new.nodes c.loop-longer.left c.in_ok-longer.ensures.keeps c.loop-longer.invariant.0 f

pub expr::comma_expression-returns-in_default-clause-answer : goal.expr::comma_expression-returns-in_default-clause-answer
expr::comma_expression-returns-in_default-clause-answer t c =
    let f = rw c.in_default.is at c.in_ok-left.ensures.answer in
    record { none = nothing (from c.args.toks.now c.args.functions.now c.args.nodes.now c.args.at) c.args.toks.now c.args.no_in c.args.room c.args.at 1 0 (CommaStep c.args.toks.now c.args.no_in c.args.room) (comma_loop c.args.toks.now c.args.no_in c.args.room c.args.at) f.none }

pub expr::after_comma-returns-clause-answer : goal.expr::after_comma-returns-clause-answer
expr::after_comma-returns-clause-answer t c =
    let f = rw c.in-Some.is at c.in_ok-right.ensures.answer in
    let s : HasSign c.args.toks.now c.args.left.next signs.Comma = c.has_sign.ensures.0 c.if-not-has_sign.false in
    after_comma_grows c.args.toks.now c.args.no_in c.args.room c.args.functions.now c.args.left c.in-Some.right c.in_ok-node.node c.args.nodes.now c.assignment_expression.new.nodes c.add.new.self s (omega arith) c.in_ok-right.ensures.keeps c.in_ok-node.ensures.keeps f c.in_ok-node.ensures.has c.in_ok-node.ensures.ok

pub expr::assignment_to_target-returns-clause-answer : goal.expr::assignment_to_target-returns-clause-answer
expr::assignment_to_target-returns-clause-answer t c =
    let f = rw c.in-Some-2.is at c.in_ok-value.ensures.answer in
    assigned_grows c.args.toks.now c.args.no_in c.args.room c.args.functions.now c.args.left c.in-Some-2.value c.in-Some.op c.in_ok-node.node c.args.nodes.now c.assignment_expression.new.nodes c.add.new.self c.in-Some.ensures (omega arith) c.in_ok-value.ensures.keeps c.in_ok-node.ensures.keeps f c.in_ok-node.ensures.has c.in_ok-node.ensures.ok

pub expr::conditional_expression-returns-clause-answer : goal.expr::conditional_expression-returns-clause-answer
expr::conditional_expression-returns-clause-answer t c =
    let f = rw c.in-Some.is at c.in_ok-yes.ensures.answer in
    let g = rw c.in-Some-2.is at c.in_ok-no.ensures.answer in
    let s : HasSign c.args.toks.now c.in-Some.yes.next signs.Colon = c.has_sign.ensures.0 c.if-not-has_sign.false in
    choice_grows c.args.toks.now c.args.no_in c.args.room c.args.left.next c.args.room c.args.functions.now c.args.left c.in-Some.yes c.in-Some-2.no c.in_ok-node.node c.args.nodes.now c.assignment_expression.new.nodes c.assignment_expression-2.new.nodes c.add.new.self c.requires.held c.requires.sign s (omega arith) c.in_ok-yes.ensures.keeps c.in_ok-no.ensures.keeps c.in_ok-node.ensures.keeps f g c.in_ok-node.ensures.has c.in_ok-node.ensures.ok

pub member::index_access-returns-clause-answer : goal.member::index_access-returns-clause-answer
member::index_access-returns-clause-answer t c =
    let f = rw c.in-Some.is at c.in_ok-place.ensures.answer in
    let s : HasSign c.args.toks.now c.in-Some.place.next signs.CloseBracket = c.has_sign.ensures.0 c.if-not-has_sign.false in
    at_grows c.args.toks.now c.args.calls c.args.room c.args.functions.now c.args.left c.in-Some.place c.in_ok-node.node c.args.nodes.now c.comma_expression.new.nodes c.add_at.new.nodes c.requires.sign s c.requires.below c.in_ok-place.ensures.keeps c.in_ok-node.ensures.keeps f c.in_ok-node.ensures.has c.in_ok-node.ensures.ok

pub member::call_expression-returns-clause-answer : goal.member::call_expression-returns-clause-answer
member::call_expression-returns-clause-answer t c =
    let f = rw c.in-Some.is at c.in_ok-items.ensures.answer in
    call_grows c.args.toks.now c.args.calls c.args.room c.args.functions.now c.args.left c.in-Some.items c.in_ok-node.node c.args.nodes.now c.arguments.new.nodes c.add_call.new.nodes c.if-not-calls.false c.requires.sign c.requires.below c.in_ok-items.ensures.keeps c.in_ok-node.ensures.keeps f c.in_ok-node.ensures.has c.in_ok-node.ensures.ok

pub expr::assignment_expression-returns-in_default-clause-answer : goal.expr::assignment_expression-returns-in_default-clause-answer
expr::assignment_expression-returns-in_default-clause-answer t c =
    let f = rw c.in_default.is at c.in_ok-left.ensures.answer in
    no_reading (from c.args.toks.now c.args.functions.now c.args.nodes.now c.args.at) c.args.toks.now c.args.no_in c.args.room c.args.at 3 1 (RightStep c.args.toks.now c.args.no_in c.args.room) (right_step c.args.toks.now c.args.no_in c.args.room c.args.at) f

pub expr::assignment_expression-returns-in-Some-longer-clause-answer : goal.expr::assignment_expression-returns-in-Some-longer-clause-answer
expr::assignment_expression-returns-in-Some-longer-clause-answer t c =
    let f = rw c.in-Some.is at c.in_ok-left.ensures.answer in
    let e = rw c.in-Some.is at c.in_ok-left.ensures.ends in
    let g = rw c.in-Some-longer.is at c.in_ok-longer.ensures.answer in
    with_choice (from c.args.toks.now c.args.functions.now c.args.nodes.now c.args.at) c.args.toks.now c.args.no_in c.args.room c.args.at c.binary_expression.new.nodes c.conditional_expression.new.nodes c.in-Some.left (begun c.args.toks.now c.args.functions.now c.args.nodes.now c.binary_expression.new.nodes c.args.at c.in-Some.left.next c.args.at c.args.room c.requires.held c.in_ok-left.ensures.keeps (let x = e.0 in omega arith)) f c.in_ok-longer.ensures.keeps (c.has_sign.ensures.0 c.if-has_sign.true) (Some c.in-Some-longer.part) g c.in-Some-longer.part refl

pub expr::assignment_expression-returns-in-None-clause-answer : goal.expr::assignment_expression-returns-in-None-clause-answer
expr::assignment_expression-returns-in-None-clause-answer t c =
    let f = rw c.in-Some.is at c.in_ok-left.ensures.answer in
    let e = rw c.in-Some.is at c.in_ok-left.ensures.ends in
    let g = rw c.in-None.is at c.in_ok-longer.ensures.answer in
    with_choice (from c.args.toks.now c.args.functions.now c.args.nodes.now c.args.at) c.args.toks.now c.args.no_in c.args.room c.args.at c.binary_expression.new.nodes c.conditional_expression.new.nodes c.in-Some.left (begun c.args.toks.now c.args.functions.now c.args.nodes.now c.binary_expression.new.nodes c.args.at c.in-Some.left.next c.args.at c.args.room c.requires.held c.in_ok-left.ensures.keeps (let x = e.0 in omega arith)) f c.in_ok-longer.ensures.keeps (c.has_sign.ensures.0 c.if-has_sign.true) None g c.in-Some.left refl

pub expr::assignment_expression-returns-in-Some-longer-2-clause-answer : goal.expr::assignment_expression-returns-in-Some-longer-2-clause-answer
expr::assignment_expression-returns-in-Some-longer-2-clause-answer t c =
    let f = rw c.in-Some.is at c.in_ok-left.ensures.answer in
    let e = rw c.in-Some.is at c.in_ok-left.ensures.ends in
    let g = rw c.in-Some-longer-2.is at c.in_ok-longer-2.ensures.answer in
    with_assignment (from c.args.toks.now c.args.functions.now c.args.nodes.now c.args.at) c.args.toks.now c.args.no_in c.args.room c.args.at c.binary_expression.new.nodes c.assignment_to_target.new.nodes c.in-Some.left (begun c.args.toks.now c.args.functions.now c.args.nodes.now c.binary_expression.new.nodes c.args.at c.in-Some.left.next c.args.at c.args.room c.requires.held c.in_ok-left.ensures.keeps (let x = e.0 in omega arith)) f c.in_ok-longer-2.ensures.keeps (λ h. absurd (let a = c.has_sign.ensures.1 h in let b = c.if-has_sign.false in cc)) (not_false _ c.if-not-left.false) (Some c.in-Some-longer-2.part) g c.in-Some-longer-2.part refl

pub expr::assignment_expression-returns-in-None-longer-clause-answer : goal.expr::assignment_expression-returns-in-None-longer-clause-answer
expr::assignment_expression-returns-in-None-longer-clause-answer t c =
    let f = rw c.in-Some.is at c.in_ok-left.ensures.answer in
    let e = rw c.in-Some.is at c.in_ok-left.ensures.ends in
    let g = rw c.in-None-longer.is at c.in_ok-longer-2.ensures.answer in
    with_assignment (from c.args.toks.now c.args.functions.now c.args.nodes.now c.args.at) c.args.toks.now c.args.no_in c.args.room c.args.at c.binary_expression.new.nodes c.assignment_to_target.new.nodes c.in-Some.left (begun c.args.toks.now c.args.functions.now c.args.nodes.now c.binary_expression.new.nodes c.args.at c.in-Some.left.next c.args.at c.args.room c.requires.held c.in_ok-left.ensures.keeps (let x = e.0 in omega arith)) f c.in_ok-longer-2.ensures.keeps (λ h. absurd (let a = c.has_sign.ensures.1 h in let b = c.if-has_sign.false in cc)) (not_false _ c.if-not-left.false) None g c.in-Some.left refl

pub expr::assignment_expression-returns-then-not-left-clause-answer : goal.expr::assignment_expression-returns-then-not-left-clause-answer
expr::assignment_expression-returns-then-not-left-clause-answer t c =
    let f = rw c.in-Some.is at c.in_ok-left.ensures.answer in
    no_target (from c.args.toks.now c.args.functions.now c.args.nodes.now c.args.at) c.args.toks.now c.args.no_in c.args.room c.args.at c.binary_expression.new.nodes c.binary_expression.new.nodes c.in-Some.left f (keeps_self _) (λ h. absurd (let a = c.has_sign.ensures.1 h in let b = c.if-has_sign.false in cc)) (not_true _ c.if-not-left.true)

pub expr::unary_expression-returns-in-None-clause-answer : goal.expr::unary_expression-returns-in-None-clause-answer
expr::unary_expression-returns-in-None-clause-answer t c = either_postfix (from c.args.toks.now c.args.functions.now c.args.nodes.now c.args.at) c.args.toks.now c.args.no_in c.args.room c.args.at c.postfix_expression.new.nodes c.in-None.ensures c.postfix_expression.result c.postfix_expression.ensures.answer

pub expr::prefix_expression-returns-then-room-eq0-clause-answer : goal.expr::prefix_expression-returns-then-room-eq0-clause-answer
expr::prefix_expression-returns-then-room-eq0-clause-answer t c = prefix_no_room c.args.toks.now c.args.no_in c.args.room c.args.at c.args.op c.requires.operator c.if-room-eq0.true

pub expr::prefix_expression-overflow_add-at : goal.expr::prefix_expression-overflow_add-at
expr::prefix_expression-overflow_add-at t c =
    let h : c.args.at < length c.args.toks.now = token_within c.args.toks.now c.args.at (prefix_token c.args.op) c.requires.operator in search rules

pub expr::prefix_expression-returns-in_default-clause-answer : goal.expr::prefix_expression-returns-in_default-clause-answer
expr::prefix_expression-returns-in_default-clause-answer t c =
    let f = rw c.in_default.is at c.in_ok-inner.ensures.answer in
    prefix_none c.args.toks.now c.args.no_in c.args.room c.args.at c.args.op c.requires.operator f

pub expr::prefix_expression-returns-clause-answer : goal.expr::prefix_expression-returns-clause-answer
expr::prefix_expression-returns-clause-answer t c =
    let f = rw c.in-Some.is at c.in_ok-inner.ensures.answer in
    prefix_found c.args.functions.now c.args.nodes.now c.args.at c.args.room c.args.toks.now c.args.no_in c.args.room c.args.at c.args.op c.prefix_operand.new.nodes c.add.new.self c.in-Some.inner c.in_ok-node.node c.requires.held c.requires.operator (omega arith) f c.in_ok-inner.ensures.keeps c.in_ok-node.ensures.keeps c.in_ok-node.ensures.has c.in_ok-node.ensures.ok

pub expr::prefix_operand-returns-then-is_update-clause-answer : goal.expr::prefix_operand-returns-then-is_update-clause-answer
expr::prefix_operand-returns-then-is_update-clause-answer t c = target_operand (from c.args.toks.now c.args.functions.now c.args.nodes.now c.args.at) c.args.toks.now c.args.no_in c.args.room c.args.at c.args.op c.target.new.nodes (sym c.is_update.ensures ∙ c.if-is_update.true) c.target.result c.target.ensures.answer

pub expr::prefix_operand-returns-else-is_update-clause-answer : goal.expr::prefix_operand-returns-else-is_update-clause-answer
expr::prefix_operand-returns-else-is_update-clause-answer t c = plain_operand (from c.args.toks.now c.args.functions.now c.args.nodes.now c.args.at) c.args.toks.now c.args.no_in c.args.room c.args.at c.args.op c.unary_expression.new.nodes (sym c.is_update.ensures ∙ c.if-is_update.false) c.unary_expression.result c.unary_expression.ensures.answer

pub expr::postfix_expression-returns-in_default-clause-answer : goal.expr::postfix_expression-returns-in_default-clause-answer
expr::postfix_expression-returns-in_default-clause-answer t c =
    let f = rw c.in_default.is at c.in_ok-head.ensures.answer in
    no_reading (from c.args.toks.now c.args.functions.now c.args.nodes.now c.args.at) c.args.toks.now c.args.no_in c.args.room c.args.at 15 14 (PostfixStep c.args.toks.now) (postfix_step c.args.toks.now c.args.no_in c.args.room c.args.at) (chain_nothing c.args.toks.now c.args.no_in c.args.room c.args.at f)

pub expr::postfix_expression-returns-then-not-left-clause-answer : goal.expr::postfix_expression-returns-then-not-left-clause-answer
expr::postfix_expression-returns-then-not-left-clause-answer t c =
    let f = rw c.in-Some.is at c.in_ok-head.ensures.answer in
    no_postfix (from c.args.toks.now c.args.functions.now c.args.nodes.now c.args.at) c.args.toks.now c.args.no_in c.args.room c.args.at c.member_chain.new.nodes c.in-Some.head.part (chain_found (from c.args.toks.now c.args.functions.now c.args.nodes.now c.args.at) c.args.toks.now c.args.no_in c.args.room c.args.at c.member_chain.new.nodes c.in-Some.head f) (λ is op s j. absurd (let a = not_true _ c.if-not-left.true in cc))

pub expr::postfix_expression-returns-in_default-update_at-clause-answer : goal.expr::postfix_expression-returns-in_default-update_at-clause-answer
expr::postfix_expression-returns-in_default-update_at-clause-answer t c =
    let f = rw c.in-Some.is at c.in_ok-head.ensures.answer in
    no_postfix (from c.args.toks.now c.args.functions.now c.args.nodes.now c.args.at) c.args.toks.now c.args.no_in c.args.room c.args.at c.member_chain.new.nodes c.in-Some.head.part (chain_found (from c.args.toks.now c.args.functions.now c.args.nodes.now c.args.at) c.args.toks.now c.args.no_in c.args.room c.args.at c.member_chain.new.nodes c.in-Some.head f) (λ is op s j. c.in_default-update_at.ensures op s j)

pub expr::postfix_expression-returns-clause-answer : goal.expr::postfix_expression-returns-clause-answer
expr::postfix_expression-returns-clause-answer t c =
    let f = rw c.in-Some.is at c.in_ok-head.ensures.answer in
    let e = rw c.in-Some.is at c.in_ok-head.ensures.ends in
    let w = c.in-Some-update_at.ensures in
    with_postfix (from c.args.toks.now c.args.functions.now c.args.nodes.now c.args.at) c.args.toks.now c.args.no_in c.args.room c.args.at c.member_chain.new.nodes c.add_postfix.new.nodes c.in-Some.head.part c.in-Some-update_at.op c.in_ok-node.node (begun c.args.toks.now c.args.functions.now c.args.nodes.now c.member_chain.new.nodes c.args.at c.in-Some.head.part.next c.args.at c.args.room c.requires.held c.in_ok-head.ensures.keeps (let x = e.0 in omega arith)) (chain_found (from c.args.toks.now c.args.functions.now c.args.nodes.now c.args.at) c.args.toks.now c.args.no_in c.args.room c.args.at c.member_chain.new.nodes c.in-Some.head f) c.in_ok-node.ensures.keeps w.0 (not_false _ c.if-not-left.false) w.1 c.in_ok-node.ensures.has c.in_ok-node.ensures.ok

pub expr::postfix_expression-overflow_add-result : goal.expr::postfix_expression-overflow_add-result
expr::postfix_expression-overflow_add-result t c =
    let w = c.in-Some-update_at.ensures in
    let h : c.in-Some.head.part.next < length c.args.toks.now = token_within c.args.toks.now c.in-Some.head.part.next (update_token c.in-Some-update_at.op) w.0 in search rules

pub member::member_chain-loop-longer-init : goal.member::member_chain-loop-longer-init
member::member_chain-loop-longer-init t c =
    let f = rw c.in-Some.is at c.in_ok-head.ensures.answer in
    (chain_begin (from c.args.toks.now c.args.functions.now c.args.nodes.now c.args.at) c.args.toks.now c.args.calls c.args.no_in c.args.room c.args.at c.chain_head.new.nodes c.in-Some.head f c.if-head.false, c.in_ok-head.ensures.keeps, rw c.in-Some.is at c.in_ok-head.ensures.ends)

pub member::member_chain-loop-longer-preserved : goal.member::member_chain-loop-longer-preserved
member::member_chain-loop-longer-preserved t c =
    let f = rw c.in-Some-2.is at c.in_ok-longer.ensures.answer in
    let e = rw c.in-Some-2.is at c.in_ok-longer.ensures.ends in
    let b = c.loop-longer.invariant.2 in
    (chain_step (from c.args.toks.now c.args.functions.now c.args.nodes.now c.args.at) c.args.toks.now c.args.calls c.args.no_in c.args.room c.args.at c.loop-longer.nodes c.chain_suffix.new.nodes c.loop-longer.left c.in-Some-2.longer (begun c.args.toks.now c.args.functions.now c.args.nodes.now c.loop-longer.nodes c.args.at c.loop-longer.left.next c.args.at c.args.room c.requires.held c.loop-longer.invariant.1 (let x = b.0 in omega arith)) c.loop-longer.invariant.0 f, keeps_both _ _ _ c.loop-longer.invariant.1 c.in_ok-longer.ensures.keeps, ((let x = e.0 in let y = b.0 in omega arith), e.1, e.2))

pub member::member_chain-loop-longer-smaller : goal.member::member_chain-loop-longer-smaller
member::member_chain-loop-longer-smaller t c = let e = rw c.in-Some-2.is at c.in_ok-longer.ensures.ends in let x = e.0 in let y = e.1 in omega arith

pub member::member_chain-returns-clause-answer : goal.member::member_chain-returns-clause-answer
member::member_chain-returns-clause-answer t c =
    let f = rw c.in_default-2.is at c.in_ok-longer.ensures.answer in
    chain_end (from c.args.toks.now c.args.functions.now c.args.nodes.now c.args.at) c.args.toks.now c.args.calls c.args.no_in c.args.room c.args.at c.loop-longer.nodes c.chain_suffix.new.nodes c.loop-longer.left c.in_ok-longer.ensures.keeps c.loop-longer.invariant.0 f

pub member::member_chain-returns-in_default-clause-answer : goal.member::member_chain-returns-in_default-clause-answer
member::member_chain-returns-in_default-clause-answer t c =
    let f = rw c.in_default.is at c.in_ok-head.ensures.answer in
    chain_none (from c.args.toks.now c.args.functions.now c.args.nodes.now c.args.at) c.args.toks.now c.args.calls c.args.no_in c.args.room c.args.at f

pub member::member_chain-returns-then-head-clause-answer : goal.member::member_chain-returns-then-head-clause-answer
member::member_chain-returns-then-head-clause-answer t c =
    let f = rw c.in-Some.is at c.in_ok-head.ensures.answer in
    chain_bare (from c.args.toks.now c.args.functions.now c.args.nodes.now c.args.at) c.args.toks.now c.args.calls c.args.no_in c.args.room c.args.at c.chain_head.new.nodes c.in-Some.head f c.if-head.true

pub member::target-loop-longer-init : goal.member::target-loop-longer-init
member::target-loop-longer-init t c =
    let f = rw c.in-Some.is at c.in_ok-head.ensures.answer in
    let e = rw c.in-Some.is at c.in_ok-head.ensures.ends in
    (target_begin (from c.args.toks.now c.args.functions.now c.args.nodes.now c.args.at) c.args.toks.now c.args.no_in c.args.room c.args.at c.chain_head.new.nodes c.in-Some.head f c.if-head.false c.in-Some.head.part.is_target refl c.if_target-last.result c.if_target-last.ensures, c.in_ok-head.ensures.keeps, e, last_ends c.args.toks.now c.args.at c.chain_head.new.nodes c.chain_head.new.nodes c.in-Some.head.part None c.if_target-last.result (omega arith) e tt c.if_target-last.ensures)

pub member::target-loop-longer-preserved : goal.member::target-loop-longer-preserved
member::target-loop-longer-preserved t c =
    let f = rw c.in-Some-2.is at c.in_ok-longer.ensures.answer in
    let e = rw c.in-Some-2.is at c.in_ok-longer.ensures.ends in
    let b = c.loop-longer.invariant.2 in
    (target_step (from c.args.toks.now c.args.functions.now c.args.nodes.now c.args.at) c.args.toks.now c.args.no_in c.args.room c.args.at c.loop-longer.nodes c.chain_suffix.new.nodes c.loop-longer.left c.in-Some-2.longer c.loop-longer.last c.if_target-last-in-Some-2.result (begun c.args.toks.now c.args.functions.now c.args.nodes.now c.loop-longer.nodes c.args.at c.loop-longer.left.next c.args.at c.args.room c.requires.held c.loop-longer.invariant.1 (let x = b.0 in omega arith)) c.in_ok-longer.ensures.keeps c.loop-longer.invariant.0 f c.if_target-last-in-Some-2.ensures, keeps_both _ _ _ c.loop-longer.invariant.1 c.in_ok-longer.ensures.keeps, ((let x = e.0 in let y = b.0 in omega arith), e.1, e.2), last_ends c.args.toks.now c.args.at c.loop-longer.nodes c.chain_suffix.new.nodes c.in-Some-2.longer c.loop-longer.last c.if_target-last-in-Some-2.result c.in_ok-longer.ensures.keeps.longer ((let x = e.0 in let y = b.0 in omega arith), e.1, e.2) c.loop-longer.invariant.3 c.if_target-last-in-Some-2.ensures)

pub member::target-loop-longer-smaller : goal.member::target-loop-longer-smaller
member::target-loop-longer-smaller t c = let e = rw c.in-Some-2.is at c.in_ok-longer.ensures.ends in let x = e.0 in let y = e.1 in omega arith

pub member::target-returns-clause-answer : goal.member::target-returns-clause-answer
member::target-returns-clause-answer t c =
    let f = rw c.in_default-2.is at c.in_ok-longer.ensures.answer in
    target_end (from c.args.toks.now c.args.functions.now c.args.nodes.now c.args.at) c.args.toks.now c.args.no_in c.args.room c.args.at c.loop-longer.nodes c.chain_suffix.new.nodes c.loop-longer.left c.in_ok-longer.ensures.keeps f c.loop-longer.last c.loop-longer.invariant.0

pub member::target-returns-in_default-clause-answer : goal.member::target-returns-in_default-clause-answer
member::target-returns-in_default-clause-answer t c =
    let f = rw c.in_default.is at c.in_ok-head.ensures.answer in
    no_target_none c.args.toks.now c.args.no_in c.args.room c.args.at f

pub member::target-returns-then-head-clause-answer : goal.member::target-returns-then-head-clause-answer
member::target-returns-then-head-clause-answer t c =
    let f = rw c.in-Some.is at c.in_ok-head.ensures.answer in
    no_target_bare (from c.args.toks.now c.args.functions.now c.args.nodes.now c.args.at) c.args.toks.now c.args.no_in c.args.room c.args.at c.chain_head.new.nodes c.in-Some.head f c.if-head.true

pub member::chain_head-returns-clause-answer : goal.member::chain_head-returns-clause-answer
member::chain_head-returns-clause-answer t c =
    let f = rw c.in-Some.is at c.in_ok-part.ensures.answer in
    plain_head (from c.args.toks.now c.args.functions.now c.args.nodes.now c.args.at) c.args.toks.now c.args.no_in c.args.room c.args.at c.primary_expression.new.nodes c.in-Some.part (λ h. absurd (let a = c.has_key.ensures.1 h in let b = c.if-has_key.false in cc)) f

pub member::chain_head-returns-in_default-clause-answer : goal.member::chain_head-returns-in_default-clause-answer
member::chain_head-returns-in_default-clause-answer t c =
    let f = rw c.in_default.is at c.in_ok-part.ensures.answer in
    plain_none c.args.toks.now c.args.no_in c.args.room c.args.at (λ h. absurd (let a = c.has_key.ensures.1 h in let b = c.if-has_key.false in cc)) f

pub member::new_expression-overflow_add-at : goal.member::new_expression-overflow_add-at
member::new_expression-overflow_add-at t c =
    let h : c.args.at < length c.args.toks.now = token_within c.args.toks.now c.args.at (tokens.Key keys.New) c.requires.key in search rules

pub member::new_expression-returns-clause-answer : goal.member::new_expression-returns-clause-answer
member::new_expression-returns-clause-answer t c =
    let f = rw c.in-Some.is at c.in_ok-callee.ensures.answer in
    let g = rw c.in-Some-2.is at c.in_ok-items.ensures.answer in
    created_with c.args.functions.now c.args.nodes.now c.args.toks.now c.args.no_in c.args.room c.args.at c.args.at c.args.room c.requires.held c.new_callee.new.nodes c.new_arguments.new.nodes c.add_new_with.new.nodes c.in-Some.callee c.in-Some-2.items c.in_ok-node-2.node c.requires.key (omega arith) f c.in_ok-callee.ensures.keeps c.in_ok-items.ensures.keeps c.in_ok-node-2.ensures.keeps g c.in_ok-node-2.ensures.has c.in_ok-node-2.ensures.ok

pub member::new_expression-returns-in_default-2-clause-answer : goal.member::new_expression-returns-in_default-2-clause-answer
member::new_expression-returns-in_default-2-clause-answer t c =
    let f = rw c.in-Some.is at c.in_ok-callee.ensures.answer in
    let g = rw c.in_default-2.is at c.in_ok-items.ensures.answer in
    created_bare c.args.functions.now c.args.nodes.now c.args.toks.now c.args.no_in c.args.room c.args.at c.args.at c.args.room c.requires.held c.new_callee.new.nodes c.new_arguments.new.nodes c.add_new_bare.new.nodes c.in-Some.callee c.in_ok-node.node c.requires.key (omega arith) f c.in_ok-callee.ensures.keeps c.in_ok-items.ensures.keeps c.in_ok-node.ensures.keeps g c.in_ok-node.ensures.has c.in_ok-node.ensures.ok

pub member::new_expression-returns-in_default-clause-answer : goal.member::new_expression-returns-in_default-clause-answer
member::new_expression-returns-in_default-clause-answer t c =
    let f = rw c.in_default.is at c.in_ok-callee.ensures.answer in
    created_none c.args.functions.now c.args.nodes.now c.args.toks.now c.args.no_in c.args.room c.args.at c.requires.key f

pub member::new_expression-returns-then-room-eq0-clause-answer : goal.member::new_expression-returns-then-room-eq0-clause-answer
member::new_expression-returns-then-room-eq0-clause-answer t c = created_no_room c.args.functions.now c.args.nodes.now c.args.toks.now c.args.no_in c.args.room c.args.at c.requires.key c.if-room-eq0.true

pub expr::after_comma-assignment_expression-requires : goal.expr::after_comma-assignment_expression-requires
expr::after_comma-assignment_expression-requires t c = (search rules, (held c.args.toks.now c.args.functions.now c.args.left.next (c.args.left.next + 1) c.args.room (c.args.room - 1) c.args.nodes.now c.args.nodes.now c.requires.held (keeps_self c.args.nodes.now) (omega arith) (omega arith), behind_sign c.args.toks.now c.args.left.next signs.Comma (c.has_sign.ensures.0 c.if-not-has_sign.false) (λ e. cc)))

pub expr::assignment_to_target-assignment_expression-requires : goal.expr::assignment_to_target-assignment_expression-requires
expr::assignment_to_target-assignment_expression-requires t c = (search rules, (held c.args.toks.now c.args.functions.now c.args.left.next (c.args.left.next + 1) c.args.room (c.args.room - 1) c.args.nodes.now c.args.nodes.now c.requires.held (keeps_self c.args.nodes.now) (omega arith) (omega arith), behind_assign c.args.toks.now c.args.left.next c.in-Some.op c.in-Some.ensures))

pub expr::conditional_expression-assignment_expression-requires : goal.expr::conditional_expression-assignment_expression-requires
expr::conditional_expression-assignment_expression-requires t c = (search rules, (held c.args.toks.now c.args.functions.now c.args.left.next (c.args.left.next + 1) c.args.room (c.args.room - 1) c.args.nodes.now c.args.nodes.now c.requires.held (keeps_self c.args.nodes.now) (omega arith) (omega arith), behind_sign c.args.toks.now c.args.left.next signs.Question c.requires.sign (λ e. cc)))

pub member::index_access-comma_expression-requires : goal.member::index_access-comma_expression-requires
member::index_access-comma_expression-requires t c = (search rules, (held c.args.toks.now c.args.functions.now c.args.left.next (c.args.left.next + 1) c.args.room (c.args.room - 1) c.args.nodes.now c.args.nodes.now c.requires.held (keeps_self c.args.nodes.now) (omega arith) (omega arith), behind_sign c.args.toks.now c.args.left.next signs.OpenBracket c.requires.sign (λ e. cc)))

pub expr::conditional_expression-assignment_expression-requires-2 : goal.expr::conditional_expression-assignment_expression-requires-2
expr::conditional_expression-assignment_expression-requires-2 t c =
    let e = rw c.in-Some.is at c.in_ok-yes.ensures.ends in
    (search rules, (held c.args.toks.now c.args.functions.now c.args.left.next (c.in-Some.yes.next + 1) c.args.room (c.args.room - 1) c.args.nodes.now c.assignment_expression.new.nodes c.requires.held c.in_ok-yes.ensures.keeps (let x = e.0 in omega arith) (omega arith), behind_sign c.args.toks.now c.in-Some.yes.next signs.Colon (c.has_sign.ensures.0 c.if-not-has_sign.false) (λ e. cc)))

pub expr::assignment_expression-assignment_to_target-requires : goal.expr::assignment_expression-assignment_to_target-requires
expr::assignment_expression-assignment_to_target-requires t c =
    let e = rw c.in-Some.is at c.in_ok-left.ensures.ends in
    (search rules, (held c.args.toks.now c.args.functions.now c.args.at (c.in-Some.left.next) c.args.room (c.args.room) c.args.nodes.now c.binary_expression.new.nodes c.requires.held c.in_ok-left.ensures.keeps (let x = e.0 in omega arith) (omega arith), e.2))

pub expr::assignment_expression-conditional_expression-requires : goal.expr::assignment_expression-conditional_expression-requires
expr::assignment_expression-conditional_expression-requires t c =
    let e = rw c.in-Some.is at c.in_ok-left.ensures.ends in
    (search rules, (held c.args.toks.now c.args.functions.now c.args.at (c.in-Some.left.next) c.args.room (c.args.room) c.args.nodes.now c.binary_expression.new.nodes c.requires.held c.in_ok-left.ensures.keeps (let x = e.0 in omega arith) (omega arith), (e.2, c.has_sign.ensures.0 c.if-has_sign.true)))

pub expr::binary_expression-binary_operation-requires : goal.expr::binary_expression-binary_operation-requires
expr::binary_expression-binary_operation-requires t c =
    let e = c.levels.invariant.2 in
    let low = c.levels.invariant.3 in
    let l = c.requires.low in
    (search rules, ((omega arith), (c.levels.invariant.4, (held c.args.toks.now c.args.functions.now c.args.at (c.levels.left.next) c.args.room (c.args.room) c.args.nodes.now c.levels.nodes c.requires.held c.levels.invariant.1 (let x = e.0 in omega arith) (omega arith), e.2))))

pub expr::binary_expression-returns-then-level-gt12-clause-answer : goal.expr::binary_expression-returns-then-level-gt12-clause-answer
expr::binary_expression-returns-then-level-gt12-clause-answer t c =
    let f = rw c.in-Some.is at c.in_ok-left.ensures.answer in
    let h = c.requires.high in
    let e : 13 ≡ c.args.level = omega arith in
    subst (λ z. Finds (from c.args.toks.now c.args.functions.now c.args.nodes.now c.args.at) c.args.toks.now z c.args.no_in c.args.room c.args.at c.unary_expression.new.nodes c.in-Some.left) e f

pub expr::comma_expression-after_comma-requires : goal.expr::comma_expression-after_comma-requires
expr::comma_expression-after_comma-requires t c =
    let e = c.loop-longer.invariant.2 in
    (search rules, (held c.args.toks.now c.args.functions.now c.args.at (c.loop-longer.left.next) c.args.room (c.args.room) c.args.nodes.now c.loop-longer.nodes c.requires.held c.loop-longer.invariant.1 (let x = e.0 in omega arith) (omega arith), e.2))

pub member::member_chain-chain_suffix-requires : goal.member::member_chain-chain_suffix-requires
member::member_chain-chain_suffix-requires t c =
    let e = c.loop-longer.invariant.2 in
    (search rules, (held c.args.toks.now c.args.functions.now c.args.at (c.loop-longer.left.next) c.args.room (c.args.room) c.args.nodes.now c.loop-longer.nodes c.requires.held c.loop-longer.invariant.1 (let x = e.0 in omega arith) (omega arith), e.2))

pub member::target-chain_suffix-requires : goal.member::target-chain_suffix-requires
member::target-chain_suffix-requires t c =
    let e = c.loop-longer.invariant.2 in
    (search rules, (held c.args.toks.now c.args.functions.now c.args.at (c.loop-longer.left.next) c.args.room (c.args.room) c.args.nodes.now c.loop-longer.nodes c.requires.held c.loop-longer.invariant.1 (let x = e.0 in omega arith) (omega arith), e.2))

pub expr::binary_operation-binary_expression-requires : goal.expr::binary_operation-binary_expression-requires
expr::binary_operation-binary_expression-requires t c =
    let a = c.requires.low in
    let b = c.requires.high in
    (search rules, ((omega arith), ((omega arith), (held c.args.toks.now c.args.functions.now c.args.left.next (c.args.left.next + 1) c.args.room (c.args.room - 1) c.args.nodes.now c.args.nodes.now c.requires.held (keeps_self c.args.nodes.now) (omega arith) (omega arith), behind_binary c.args.toks.now c.args.left.next c.in-Some.op c.in-Some.ensures.0))))

pub expr::prefix_expression-prefix_operand-requires : goal.expr::prefix_expression-prefix_operand-requires
expr::prefix_expression-prefix_operand-requires t c = (search rules, (held c.args.toks.now c.args.functions.now c.args.at (c.args.at + 1) c.args.room (c.args.room - 1) c.args.nodes.now c.args.nodes.now c.requires.held (keeps_self c.args.nodes.now) (omega arith) (omega arith), behind_prefix c.args.toks.now c.args.at c.args.op c.requires.operator))

pub member::new_expression-new_callee-requires : goal.member::new_expression-new_callee-requires
member::new_expression-new_callee-requires t c = (search rules, (held c.args.toks.now c.args.functions.now c.args.at (c.args.at + 1) c.args.room (c.args.room - 1) c.args.nodes.now c.args.nodes.now c.requires.held (keeps_self c.args.nodes.now) (omega arith) (omega arith), behind_key c.args.toks.now c.args.at keys.New c.requires.key))

pub primary::parenthesized_expression-comma_expression-requires : goal.primary::parenthesized_expression-comma_expression-requires
primary::parenthesized_expression-comma_expression-requires t c = (search rules, (held c.args.toks.now c.args.functions.now c.args.at (c.args.at + 1) c.args.room (c.args.room - 1) c.args.nodes.now c.args.nodes.now c.requires.held (keeps_self c.args.nodes.now) (omega arith) (omega arith), behind_sign c.args.toks.now c.args.at signs.OpenParen c.requires.sign (λ e. cc)))

pub primary::property-assignment_expression-requires : goal.primary::property-assignment_expression-requires
primary::property-assignment_expression-requires t c = (search rules, (held c.args.toks.now c.args.functions.now c.args.at (c.args.at + 2) c.args.room (c.args.room - 1) c.args.nodes.now c.args.nodes.now c.requires.held (keeps_self c.args.nodes.now) (omega arith) (omega arith), behind c.args.toks.now (c.args.at + 1) (c.args.at + 2) (tokens.Sign signs.Colon) (omega arith) (c.has_sign.ensures.0 c.if-not-has_sign.false) (λ e. cc)))

pub member::new_expression-new_arguments-requires : goal.member::new_expression-new_arguments-requires
member::new_expression-new_arguments-requires t c =
    let e = rw c.in-Some.is at c.in_ok-callee.ensures.ends in
    (search rules, ((omega arith), held c.args.toks.now c.args.functions.now c.args.at (c.in-Some.callee.part.next) c.args.room (c.args.room) c.args.nodes.now c.new_callee.new.nodes c.requires.held c.in_ok-callee.ensures.keeps (let x = e.0 in omega arith) (omega arith)))

pub member::new_arguments-arguments-requires : goal.member::new_arguments-arguments-requires
member::new_arguments-arguments-requires t c = (search rules, (c.requires.below, (held c.args.toks.now c.args.functions.now c.args.callee.part.next (c.args.callee.part.next + 1) c.args.room (c.args.room) c.args.nodes.now c.args.nodes.now c.requires.held (keeps_self c.args.nodes.now) (omega arith) (omega arith), behind_sign c.args.toks.now c.args.callee.part.next signs.OpenParen (c.has_sign.ensures.0 c.if-not-has_sign.false) (λ e. cc))))

pub member::call_expression-arguments-requires : goal.member::call_expression-arguments-requires
member::call_expression-arguments-requires t c = (search rules, (c.requires.below, (held c.args.toks.now c.args.functions.now c.args.left.next (c.args.left.next + 1) c.args.room (c.args.room) c.args.nodes.now c.args.nodes.now c.requires.held (keeps_self c.args.nodes.now) (omega arith) (omega arith), behind_sign c.args.toks.now c.args.left.next signs.OpenParen c.requires.sign (λ e. cc))))

pub primary::array_literal-array_elements-requires : goal.primary::array_literal-array_elements-requires
primary::array_literal-array_elements-requires t c = (search rules, (c.requires.below, (held c.args.toks.now c.args.functions.now c.args.at (c.args.at + 1) c.args.room (c.args.room) c.args.nodes.now c.args.nodes.now c.requires.held (keeps_self c.args.nodes.now) (omega arith) (omega arith), behind_sign c.args.toks.now c.args.at signs.OpenBracket c.requires.sign (λ e. cc))))

pub primary::object_literal-properties-requires : goal.primary::object_literal-properties-requires
primary::object_literal-properties-requires t c = (search rules, (c.requires.below, held c.args.toks.now c.args.functions.now c.args.at (c.args.at + 1) c.args.room (c.args.room) c.args.nodes.now c.args.nodes.now c.requires.held (keeps_self c.args.nodes.now) (omega arith) (omega arith)))

pub member::index_access-returns-in_default-clause-answer : goal.member::index_access-returns-in_default-clause-answer
member::index_access-returns-in_default-clause-answer t c =
    let f = rw c.in_default.is at c.in_ok-place.ensures.answer in
    no_index c.args.toks.now c.args.calls c.args.room c.args.left.next c.requires.sign f.none

pub member::index_access-returns-clause-ends : goal.member::index_access-returns-clause-ends
member::index_access-returns-clause-ends t c =
    let e = rw c.in-Some.is at c.in_ok-place.ensures.ends in
    let w = token_within c.args.toks.now c.in-Some.place.next (tokens.Sign signs.CloseBracket) (c.has_sign.ensures.0 c.if-not-has_sign.false) in
    let x = e.0 in
    let k = c.in_ok-node.ensures.ok in
    let n = c.in_ok-node.ensures.longer in
    ((omega arith), (omega arith), (omega arith))

pub primary::parenthesized_expression-returns-clause-ends : goal.primary::parenthesized_expression-returns-clause-ends
primary::parenthesized_expression-returns-clause-ends t c =
    let e = rw c.in-Some.is at c.in_ok-inner.ensures.ends in
    let w = token_within c.args.toks.now c.in-Some.inner.next (tokens.Sign signs.CloseParen) (c.has_sign.ensures.0 c.if-not-has_sign.false) in
    let x = e.0 in
    let k = c.in_ok-node.ensures.ok in
    let n = c.in_ok-node.ensures.longer in
    ((omega arith), (omega arith), (omega arith))

pub primary::parenthesized_expression-returns-clause-answer : goal.primary::parenthesized_expression-returns-clause-answer
primary::parenthesized_expression-returns-clause-answer t c =
    let f = rw c.in-Some.is at c.in_ok-inner.ensures.answer in
    parens_found c.args.functions.now c.args.nodes.now c.args.at c.args.room c.args.toks.now c.args.no_in c.args.room c.args.at c.comma_expression.new.nodes c.add_paren.new.nodes c.in-Some.inner c.in_ok-node.node c.requires.held c.requires.sign c.requires.below f (c.has_sign.ensures.0 c.if-not-has_sign.false) c.in_ok-inner.ensures.keeps c.in_ok-node.ensures.keeps c.in_ok-node.ensures.has c.in_ok-node.ensures.ok

pub primary::parenthesized_expression-returns-in_default-clause-answer : goal.primary::parenthesized_expression-returns-in_default-clause-answer
primary::parenthesized_expression-returns-in_default-clause-answer t c =
    let f = rw c.in_default.is at c.in_ok-inner.ensures.answer in
    parens_nothing c.args.toks.now c.args.no_in c.args.room c.args.at c.requires.sign f

pub primary::parenthesized_expression-returns-then-not-has_sign-clause-answer : goal.primary::parenthesized_expression-returns-then-not-has_sign-clause-answer
primary::parenthesized_expression-returns-then-not-has_sign-clause-answer t c =
    let f = rw c.in-Some.is at c.in_ok-inner.ensures.answer in
    parens_bare (from c.args.toks.now c.args.functions.now c.args.nodes.now (c.args.at + 1)) c.args.toks.now c.args.no_in c.args.room c.args.at c.comma_expression.new.nodes c.in-Some.inner c.requires.sign f (λ h. absurd (let a = c.has_sign.ensures.1 h in let b = c.if-not-has_sign.true in cc))

pub member::arguments-returns-then-has_sign-clause-answer : goal.member::arguments-returns-then-has_sign-clause-answer
member::arguments-returns-then-has_sign-clause-answer t c = empty (from c.args.toks.now c.args.functions.now c.args.nodes.now c.args.at) c.args.toks.now c.args.room c.args.at c.args.nodes.now _ c.requires.below (c.from_vec.ensures ∙ c.new-list.ensures.items) refl (c.has_sign.ensures.0 c.if-has_sign.true)

pub member::arguments-loop-list-init : goal.member::arguments-loop-list-init
member::arguments-loop-list-init t c = (start (from c.args.toks.now c.args.functions.now c.args.nodes.now c.args.at) (from c.args.toks.now c.args.functions.now c.args.nodes.now c.args.at) c.args.toks.now c.args.room c.args.at c.args.nodes.now c.new-list.result.items c.new-list.ensures.items c.requires.below (λ h. absurd (let a = c.has_sign.ensures.1 h in let b = c.if-has_sign.false in cc)), keeps_self _, (omega arith), rw c.new-list.ensures.items tt, c.requires.may_begin)

pub member::arguments-loop-list-preserved : goal.member::arguments-loop-list-preserved
member::arguments-loop-list-preserved t c =
    let f = rw c.in-Some.is at c.in_ok-item.ensures.answer in
    let e = rw c.in-Some.is at c.in_ok-item.ensures.ends in
    let x = e.0 in
    let b = c.loop-list.invariant.2 in
    (one_more_item (from c.args.toks.now c.args.functions.now c.args.nodes.now c.args.at) (from c.args.toks.now c.args.functions.now c.loop-list.nodes c.loop-list.place) c.args.toks.now c.args.room c.args.at c.loop-list.nodes c.loop-list.list.items c.loop-list.place c.assignment_expression.new.nodes c.in-Some.item c.push_last.new.list.items c.requires.below c.loop-list.invariant.0 c.in_ok-item.ensures.keeps f (λ us a d. own_both c.args.toks.now c.args.functions.now c.args.nodes.now c.args.at c.args.room c.requires.held c.loop-list.nodes c.assignment_expression.new.nodes c.args.at c.loop-list.place c.loop-list.place c.in-Some.item.next us _ c.loop-list.invariant.1 c.in_ok-item.ensures.keeps (omega arith) (omega arith) (omega arith) a d) (c.has_sign-in-loop-list-2.ensures.0 c.if-not-has_sign.false) c.in_ok-push_last.ensures.ok, keeps_both _ _ _ c.loop-list.invariant.1 c.in_ok-item.ensures.keeps, (omega arith), rw c.in_ok-push_last.ensures.ok (below_last (length c.loop-list.nodes) (length c.assignment_expression.new.nodes) c.loop-list.list.items c.in-Some.item.node c.in_ok-item.ensures.keeps.longer e.2 c.loop-list.invariant.3), behind_sign c.args.toks.now c.in-Some.item.next signs.Comma (c.has_sign-in-loop-list-2.ensures.0 c.if-not-has_sign.false) (λ e. cc))

pub member::arguments-assignment_expression-requires : goal.member::arguments-assignment_expression-requires
member::arguments-assignment_expression-requires t c =
    let b = c.loop-list.invariant.2 in
    (search rules, (held c.args.toks.now c.args.functions.now c.args.at (c.loop-list.place) c.args.room (c.args.room - 1) c.args.nodes.now c.loop-list.nodes c.requires.held c.loop-list.invariant.1 (omega arith) (omega arith), c.loop-list.invariant.4))

pub member::arguments-overflow_add-place : goal.member::arguments-overflow_add-place
member::arguments-overflow_add-place t c =
    let h : c.in-Some.item.next < length c.args.toks.now = token_within c.args.toks.now c.in-Some.item.next (tokens.Sign signs.Comma) (c.has_sign-in-loop-list-2.ensures.0 c.if-not-has_sign.false) in search rules

pub member::arguments-loop-list-smaller : goal.member::arguments-loop-list-smaller
member::arguments-loop-list-smaller t c =
    let e = rw c.in-Some.is at c.in_ok-item.ensures.ends in
    let x = e.0 in
    let y = e.1 in omega arith

pub member::arguments-returns-then-has_sign-2-clause-answer : goal.member::arguments-returns-then-has_sign-2-clause-answer
member::arguments-returns-then-has_sign-2-clause-answer t c =
    let f = rw c.in-Some.is at c.in_ok-item.ensures.answer in
    let e = rw c.in-Some.is at c.in_ok-item.ensures.ends in
    let x = e.0 in
    let b = c.loop-list.invariant.2 in
    ends (from c.args.toks.now c.args.functions.now c.args.nodes.now c.args.at) (from c.args.toks.now c.args.functions.now c.loop-list.nodes c.loop-list.place) c.args.toks.now c.args.room c.args.at c.loop-list.nodes c.loop-list.list.items c.loop-list.place c.assignment_expression.new.nodes c.in-Some.item _ c.requires.below c.loop-list.invariant.0 c.in_ok-item.ensures.keeps f (λ us a d. own_both c.args.toks.now c.args.functions.now c.args.nodes.now c.args.at c.args.room c.requires.held c.loop-list.nodes c.assignment_expression.new.nodes c.args.at c.loop-list.place c.loop-list.place c.in-Some.item.next us _ c.loop-list.invariant.1 c.in_ok-item.ensures.keeps (omega arith) (omega arith) (omega arith) a d) (c.has_sign-in-loop-list.ensures.0 c.if-has_sign-2.true) (c.from_vec-then-has_sign-2.ensures ∙ c.in_ok-push_last.ensures.ok) refl

pub member::arguments-returns-then-has_sign-2-clause-ends : goal.member::arguments-returns-then-has_sign-2-clause-ends
member::arguments-returns-then-has_sign-2-clause-ends t c =
    let e = rw c.in-Some.is at c.in_ok-item.ensures.ends in
    let x = e.0 in
    let b = c.loop-list.invariant.2 in
    let w = token_within c.args.toks.now c.in-Some.item.next (tokens.Sign signs.CloseParen) (c.has_sign-in-loop-list.ensures.0 c.if-has_sign-2.true) in
    ((omega arith), w, rw (c.from_vec-then-has_sign-2.ensures, c.in_ok-push_last.ensures.ok) (below_last (length c.loop-list.nodes) (length c.assignment_expression.new.nodes) c.loop-list.list.items c.in-Some.item.node c.in_ok-item.ensures.keeps.longer e.2 c.loop-list.invariant.3))

pub member::arguments-returns-in_default-clause-answer : goal.member::arguments-returns-in_default-clause-answer
member::arguments-returns-in_default-clause-answer t c =
    let f = rw c.in_default.is at c.in_ok-item.ensures.answer in
    no_item (from c.args.toks.now c.args.functions.now c.args.nodes.now c.args.at) (from c.args.toks.now c.args.functions.now c.loop-list.nodes c.loop-list.place) c.args.toks.now c.args.room c.args.at c.loop-list.nodes c.loop-list.list.items c.loop-list.place c.loop-list.invariant.0 f.none

pub member::arguments-returns-then-not-has_sign-clause-answer : goal.member::arguments-returns-then-not-has_sign-clause-answer
member::arguments-returns-then-not-has_sign-clause-answer t c =
    let f = rw c.in-Some.is at c.in_ok-item.ensures.answer in
    no_sign (from c.args.toks.now c.args.functions.now c.args.nodes.now c.args.at) (from c.args.toks.now c.args.functions.now c.loop-list.nodes c.loop-list.place) c.args.toks.now c.args.room c.args.at c.loop-list.nodes c.loop-list.list.items c.loop-list.place c.assignment_expression.new.nodes c.in-Some.item c.loop-list.invariant.0 f (λ h. absurd (let a = c.has_sign-in-loop-list.ensures.1 h in let b = c.if-has_sign-2.false in cc)) (λ h. absurd (let a = c.has_sign-in-loop-list-2.ensures.1 h in let b = c.if-not-has_sign.true in cc))

pub primary::array_literal-returns-clause-answer : goal.primary::array_literal-returns-clause-answer
primary::array_literal-returns-clause-answer t c =
    let f = rw c.in-Some.is at c.in_ok-found.ensures.answer in
    array_found c.args.functions.now c.args.nodes.now c.args.at c.args.room c.args.toks.now c.args.no_in c.args.room c.args.at c.array_elements.new.nodes c.add_array.new.nodes c.in-Some.found c.in_ok-node.node c.requires.held c.requires.sign f c.in_ok-found.ensures.keeps c.in_ok-node.ensures.keeps c.in_ok-node.ensures.has c.in_ok-node.ensures.ok

pub primary::object_literal-returns-clause-answer : goal.primary::object_literal-returns-clause-answer
primary::object_literal-returns-clause-answer t c =
    let f = rw c.in-Some.is at c.in_ok-found.ensures.answer in
    object_found c.args.functions.now c.args.nodes.now c.args.at c.args.room c.args.toks.now c.args.no_in c.args.room c.args.at c.properties.new.nodes c.add_object.new.nodes c.in-Some.found c.in_ok-node.node c.requires.held c.requires.sign f c.in_ok-found.ensures.keeps c.in_ok-node.ensures.keeps c.in_ok-node.ensures.has c.in_ok-node.ensures.ok

pub primary::array_elements-loop-alloc-init : goal.primary::array_elements-loop-alloc-init
primary::array_elements-loop-alloc-init t c = (items_start (from c.args.toks.now c.args.functions.now c.args.nodes.now c.args.at) (from c.args.toks.now c.args.functions.now c.args.nodes.now c.args.at) c.args.toks.now c.args.room c.args.at c.args.nodes.now c.new-list.result.items c.new-list.ensures.items, keeps_self _, (omega arith), rw c.new-list.ensures.items tt, c.requires.may_begin)

pub primary::array_elements-loop-alloc-preserved-then-has_sign : goal.primary::array_elements-loop-alloc-preserved-then-has_sign
primary::array_elements-loop-alloc-preserved-then-has_sign t c =
    let b = c.loop-alloc.invariant.2 in
    (items_hole (from c.args.toks.now c.args.functions.now c.args.nodes.now c.args.at) (from c.args.toks.now c.args.functions.now c.args.nodes.now c.args.at) c.args.toks.now c.args.room c.args.at c.loop-alloc.nodes c.loop-alloc.list.items c.loop-alloc.tail c.loop-alloc.place c.push_last.new.list.items c.loop-alloc.invariant.0 (c.has_sign-in-loop-alloc.ensures.0 c.if-has_sign.true) c.in_ok-push_last.ensures.ok, c.loop-alloc.invariant.1, (omega arith), rw c.in_ok-push_last.ensures.ok (items_last_below (length c.loop-alloc.nodes) (length c.loop-alloc.nodes) c.loop-alloc.list.items None (omega arith) tt c.loop-alloc.invariant.3), behind_sign c.args.toks.now c.loop-alloc.place signs.Comma (c.has_sign-in-loop-alloc.ensures.0 c.if-has_sign.true) (λ e. cc))

pub primary::array_elements-loop-alloc-smaller-then-has_sign : goal.primary::array_elements-loop-alloc-smaller-then-has_sign
primary::array_elements-loop-alloc-smaller-then-has_sign t c =
    let w = token_within c.args.toks.now c.loop-alloc.place (tokens.Sign signs.Comma) (c.has_sign-in-loop-alloc.ensures.0 c.if-has_sign.true) in omega arith

pub primary::array_elements-assignment_expression-requires : goal.primary::array_elements-assignment_expression-requires
primary::array_elements-assignment_expression-requires t c =
    let b = c.loop-alloc.invariant.2 in
    (search rules, (held c.args.toks.now c.args.functions.now c.args.at (c.loop-alloc.place) c.args.room (c.args.room - 1) c.args.nodes.now c.loop-alloc.nodes c.requires.held c.loop-alloc.invariant.1 (omega arith) (omega arith), c.loop-alloc.invariant.4))

pub primary::array_elements-loop-alloc-preserved : goal.primary::array_elements-loop-alloc-preserved
primary::array_elements-loop-alloc-preserved t c =
    let f = rw c.in-Some.is at c.in_ok-item.ensures.answer in
    let e = rw c.in-Some.is at c.in_ok-item.ensures.ends in
    let x = e.0 in
    let b = c.loop-alloc.invariant.2 in
    (items_more (from c.args.toks.now c.args.functions.now c.args.nodes.now c.args.at) (from c.args.toks.now c.args.functions.now c.loop-alloc.nodes c.loop-alloc.place) c.args.toks.now c.args.room c.args.at c.loop-alloc.place c.assignment_expression.new.nodes c.in-Some.item f (λ h. absurd (let a = c.has_sign.ensures.1 h in let b = c.loop-alloc-test.true in cc)) (λ h. absurd (let a = c.has_sign-in-loop-alloc.ensures.1 h in let b = c.if-has_sign.false in cc)) c.loop-alloc.nodes c.loop-alloc.list.items c.loop-alloc.tail c.push_last-else-has_sign.new.list.items c.loop-alloc.invariant.0 c.in_ok-item.ensures.keeps (λ us a d. own_both c.args.toks.now c.args.functions.now c.args.nodes.now c.args.at c.args.room c.requires.held c.loop-alloc.nodes c.assignment_expression.new.nodes c.args.at c.loop-alloc.place c.loop-alloc.place c.in-Some.item.next us _ c.loop-alloc.invariant.1 c.in_ok-item.ensures.keeps (omega arith) (omega arith) (omega arith) a d) (c.has_sign-else-has_sign-2.ensures.0 c.if-not-has_sign.false) c.in_ok-push_last-2.ensures.ok, keeps_both _ _ _ c.loop-alloc.invariant.1 c.in_ok-item.ensures.keeps, (omega arith), rw c.in_ok-push_last-2.ensures.ok (items_last_below (length c.loop-alloc.nodes) (length c.assignment_expression.new.nodes) c.loop-alloc.list.items (Some c.in-Some.item.node) c.in_ok-item.ensures.keeps.longer e.2 c.loop-alloc.invariant.3), behind_sign c.args.toks.now c.in-Some.item.next signs.Comma (c.has_sign-else-has_sign-2.ensures.0 c.if-not-has_sign.false) (λ e. cc))

pub primary::array_elements-returns-then-has_sign-2-clause-answer : goal.primary::array_elements-returns-then-has_sign-2-clause-answer
primary::array_elements-returns-then-has_sign-2-clause-answer t c =
    let f = rw c.in-Some.is at c.in_ok-item.ensures.answer in
    let e = rw c.in-Some.is at c.in_ok-item.ensures.ends in
    let x = e.0 in
    let b = c.loop-alloc.invariant.2 in
    items_last (from c.args.toks.now c.args.functions.now c.args.nodes.now c.args.at) (from c.args.toks.now c.args.functions.now c.loop-alloc.nodes c.loop-alloc.place) c.args.toks.now c.args.room c.args.at c.loop-alloc.place c.assignment_expression.new.nodes c.in-Some.item f (λ h. absurd (let a = c.has_sign.ensures.1 h in let b = c.loop-alloc-test.true in cc)) (λ h. absurd (let a = c.has_sign-in-loop-alloc.ensures.1 h in let b = c.if-has_sign.false in cc)) c.loop-alloc.nodes c.loop-alloc.list.items c.loop-alloc.tail _ c.requires.below c.loop-alloc.invariant.0 c.in_ok-item.ensures.keeps (λ us a d. own_both c.args.toks.now c.args.functions.now c.args.nodes.now c.args.at c.args.room c.requires.held c.loop-alloc.nodes c.assignment_expression.new.nodes c.args.at c.loop-alloc.place c.loop-alloc.place c.in-Some.item.next us _ c.loop-alloc.invariant.1 c.in_ok-item.ensures.keeps (omega arith) (omega arith) (omega arith) a d) (c.has_sign-else-has_sign.ensures.0 c.if-has_sign-2.true) (c.from_vec.ensures ∙ c.in_ok-push_last-2.ensures.ok) refl refl

pub primary::array_elements-returns-then-has_sign-2-clause-ends : goal.primary::array_elements-returns-then-has_sign-2-clause-ends
primary::array_elements-returns-then-has_sign-2-clause-ends t c =
    let e = rw c.in-Some.is at c.in_ok-item.ensures.ends in
    let x = e.0 in
    let b = c.loop-alloc.invariant.2 in
    let w = token_within c.args.toks.now c.in-Some.item.next (tokens.Sign signs.CloseBracket) (c.has_sign-else-has_sign.ensures.0 c.if-has_sign-2.true) in
    ((omega arith), w, rw (c.from_vec.ensures, c.in_ok-push_last-2.ensures.ok) (items_last_below (length c.loop-alloc.nodes) (length c.assignment_expression.new.nodes) c.loop-alloc.list.items (Some c.in-Some.item.node) c.in_ok-item.ensures.keeps.longer e.2 c.loop-alloc.invariant.3))

pub primary::array_elements-returns-then-not-has_sign-clause-answer : goal.primary::array_elements-returns-then-not-has_sign-clause-answer
primary::array_elements-returns-then-not-has_sign-clause-answer t c =
    let f = rw c.in-Some.is at c.in_ok-item.ensures.answer in
    items_neither (from c.args.toks.now c.args.functions.now c.args.nodes.now c.args.at) (from c.args.toks.now c.args.functions.now c.loop-alloc.nodes c.loop-alloc.place) c.args.toks.now c.args.room c.args.at c.loop-alloc.place c.assignment_expression.new.nodes c.in-Some.item f (λ h. absurd (let a = c.has_sign.ensures.1 h in let b = c.loop-alloc-test.true in cc)) (λ h. absurd (let a = c.has_sign-in-loop-alloc.ensures.1 h in let b = c.if-has_sign.false in cc)) c.loop-alloc.nodes c.loop-alloc.list.items c.loop-alloc.tail c.loop-alloc.invariant.0 (λ h. absurd (let a = c.has_sign-else-has_sign.ensures.1 h in let b = c.if-has_sign-2.false in cc)) (λ h. absurd (let a = c.has_sign-else-has_sign-2.ensures.1 h in let b = c.if-not-has_sign.true in cc))

pub primary::array_elements-returns-clause-answer : goal.primary::array_elements-returns-clause-answer
primary::array_elements-returns-clause-answer t c = items_close (from c.args.toks.now c.args.functions.now c.args.nodes.now c.args.at) (from c.args.toks.now c.args.functions.now c.args.nodes.now c.args.at) c.args.toks.now c.args.room c.args.at c.loop-alloc.nodes c.loop-alloc.list.items c.loop-alloc.tail c.loop-alloc.place _ c.requires.below c.loop-alloc.invariant.0 (c.has_sign.ensures.0 c.loop-alloc-test.false) c.from_vec-2.ensures refl refl

pub primary::array_elements-returns-clause-ends : goal.primary::array_elements-returns-clause-ends
primary::array_elements-returns-clause-ends t c =
    let w = token_within c.args.toks.now c.loop-alloc.place (tokens.Sign signs.CloseBracket) (c.has_sign.ensures.0 c.loop-alloc-test.false) in
    (c.loop-alloc.invariant.2, w, rw c.from_vec-2.ensures c.loop-alloc.invariant.3)

pub primary::properties-loop-alloc-init : goal.primary::properties-loop-alloc-init
primary::properties-loop-alloc-init t c = (properties_start (from c.args.toks.now c.args.functions.now c.args.nodes.now c.args.at) c.args.toks.now c.args.room c.args.at c.args.nodes.now c.new-list.result.items c.new-list.ensures.items, keeps_self _, (omega arith), rw c.new-list.ensures.items tt)

pub primary::properties-property-requires : goal.primary::properties-property-requires
primary::properties-property-requires t c =
    let b = c.loop-alloc.invariant.2 in
    (search rules, (c.requires.below, held c.args.toks.now c.args.functions.now c.args.at (c.loop-alloc.place) c.args.room (c.args.room) c.args.nodes.now c.loop-alloc.nodes c.requires.held c.loop-alloc.invariant.1 (omega arith) (omega arith)))

pub primary::properties-loop-alloc-preserved : goal.primary::properties-loop-alloc-preserved
primary::properties-loop-alloc-preserved t c =
    let f = rw c.in-Some.is at c.in_ok-key.ensures.answer in
    let e = rw c.in-Some.is at c.in_ok-key.ensures.ends in
    let x = e.0 in
    let b = c.loop-alloc.invariant.2 in
    (properties_more (from c.args.toks.now c.args.functions.now c.args.nodes.now c.args.at) c.args.toks.now c.args.room c.args.at (from c.args.toks.now c.args.functions.now c.loop-alloc.nodes (c.loop-alloc.place + 2)) c.loop-alloc.place c.property.new.nodes c.in-Some.key c.in-Some.value f (λ h. absurd (let a = c.has_sign.ensures.1 h in let b = c.loop-alloc-test.true in cc)) c.loop-alloc.nodes c.loop-alloc.list.items c.loop-alloc.behind c.push_last.new.list.items c.loop-alloc.invariant.0 c.in_ok-key.ensures.keeps (λ us a d. own_both c.args.toks.now c.args.functions.now c.args.nodes.now c.args.at c.args.room c.requires.held c.loop-alloc.nodes c.property.new.nodes c.args.at c.loop-alloc.place (c.loop-alloc.place + 2) c.in-Some.value.next us _ c.loop-alloc.invariant.1 c.in_ok-key.ensures.keeps (omega arith) (omega arith) (omega arith) a d) (c.has_sign-in-loop-alloc-2.ensures.0 c.if-not-has_sign.false) c.in_ok-push_last.ensures.ok, keeps_both _ _ _ c.loop-alloc.invariant.1 c.in_ok-key.ensures.keeps, (omega arith), rw c.in_ok-push_last.ensures.ok (properties_last_below (length c.loop-alloc.nodes) (length c.property.new.nodes) c.loop-alloc.list.items (record { key = c.in-Some.key; value = c.in-Some.value.node }) c.in_ok-key.ensures.keeps.longer e.2 c.loop-alloc.invariant.3))

pub primary::properties-loop-alloc-smaller : goal.primary::properties-loop-alloc-smaller
primary::properties-loop-alloc-smaller t c =
    let e = rw c.in-Some.is at c.in_ok-key.ensures.ends in
    let x = e.0 in
    let y = e.1 in omega arith

pub primary::properties-returns-then-has_sign-clause-answer : goal.primary::properties-returns-then-has_sign-clause-answer
primary::properties-returns-then-has_sign-clause-answer t c =
    let f = rw c.in-Some.is at c.in_ok-key.ensures.answer in
    let e = rw c.in-Some.is at c.in_ok-key.ensures.ends in
    let x = e.0 in
    let b = c.loop-alloc.invariant.2 in
    properties_last (from c.args.toks.now c.args.functions.now c.args.nodes.now c.args.at) c.args.toks.now c.args.room c.args.at (from c.args.toks.now c.args.functions.now c.loop-alloc.nodes (c.loop-alloc.place + 2)) c.loop-alloc.place c.property.new.nodes c.in-Some.key c.in-Some.value f (λ h. absurd (let a = c.has_sign.ensures.1 h in let b = c.loop-alloc-test.true in cc)) c.loop-alloc.nodes c.loop-alloc.list.items c.loop-alloc.behind _ c.requires.below c.loop-alloc.invariant.0 c.in_ok-key.ensures.keeps (λ us a d. own_both c.args.toks.now c.args.functions.now c.args.nodes.now c.args.at c.args.room c.requires.held c.loop-alloc.nodes c.property.new.nodes c.args.at c.loop-alloc.place (c.loop-alloc.place + 2) c.in-Some.value.next us _ c.loop-alloc.invariant.1 c.in_ok-key.ensures.keeps (omega arith) (omega arith) (omega arith) a d) (c.has_sign-in-loop-alloc.ensures.0 c.if-has_sign.true) (c.from_vec.ensures ∙ c.in_ok-push_last.ensures.ok) refl refl

pub primary::properties-returns-then-has_sign-clause-ends : goal.primary::properties-returns-then-has_sign-clause-ends
primary::properties-returns-then-has_sign-clause-ends t c =
    let e = rw c.in-Some.is at c.in_ok-key.ensures.ends in
    let x = e.0 in
    let b = c.loop-alloc.invariant.2 in
    let w = token_within c.args.toks.now c.in-Some.value.next (tokens.Sign signs.CloseBrace) (c.has_sign-in-loop-alloc.ensures.0 c.if-has_sign.true) in
    ((omega arith), w, rw (c.from_vec.ensures, c.in_ok-push_last.ensures.ok) (properties_last_below (length c.loop-alloc.nodes) (length c.property.new.nodes) c.loop-alloc.list.items (record { key = c.in-Some.key; value = c.in-Some.value.node }) c.in_ok-key.ensures.keeps.longer e.2 c.loop-alloc.invariant.3))

pub primary::properties-returns-then-not-has_sign-clause-answer : goal.primary::properties-returns-then-not-has_sign-clause-answer
primary::properties-returns-then-not-has_sign-clause-answer t c =
    let f = rw c.in-Some.is at c.in_ok-key.ensures.answer in
    properties_neither (from c.args.toks.now c.args.functions.now c.args.nodes.now c.args.at) c.args.toks.now c.args.room c.args.at (from c.args.toks.now c.args.functions.now c.loop-alloc.nodes (c.loop-alloc.place + 2)) c.loop-alloc.place c.property.new.nodes c.in-Some.key c.in-Some.value f (λ h. absurd (let a = c.has_sign.ensures.1 h in let b = c.loop-alloc-test.true in cc)) c.loop-alloc.nodes c.loop-alloc.list.items c.loop-alloc.behind c.loop-alloc.invariant.0 (λ h. absurd (let a = c.has_sign-in-loop-alloc.ensures.1 h in let b = c.if-has_sign.false in cc)) (λ h. absurd (let a = c.has_sign-in-loop-alloc-2.ensures.1 h in let b = c.if-not-has_sign.true in cc))

pub primary::properties-returns-clause-answer : goal.primary::properties-returns-clause-answer
primary::properties-returns-clause-answer t c = properties_close (from c.args.toks.now c.args.functions.now c.args.nodes.now c.args.at) c.args.toks.now c.args.room c.args.at c.loop-alloc.nodes c.loop-alloc.list.items c.loop-alloc.behind c.loop-alloc.place _ c.requires.below c.loop-alloc.invariant.0 (c.has_sign.ensures.0 c.loop-alloc-test.false) c.from_vec-2.ensures refl refl

pub primary::properties-returns-clause-ends : goal.primary::properties-returns-clause-ends
primary::properties-returns-clause-ends t c =
    let w = token_within c.args.toks.now c.loop-alloc.place (tokens.Sign signs.CloseBrace) (c.has_sign.ensures.0 c.loop-alloc-test.false) in
    (c.loop-alloc.invariant.2, w, rw c.from_vec-2.ensures c.loop-alloc.invariant.3)

pub member::chain_suffix-returns-in-Some-Sign-Dot-clause-answer : goal.member::chain_suffix-returns-in-Some-Sign-Dot-clause-answer
member::chain_suffix-returns-in-Some-Sign-Dot-clause-answer t c = c.dot_access.ensures.answer c.args.functions.now
