use Rattle.std.proofs.Common.{◌+◌, [], ◌∷◌, ◌++◌, length, arith, refl, ap, ◌∙◌}
use Rattle.wjs_tree.proofs.Kept.{keeps_both}
use Rattle.wjs_parse_expr.proofs.Entries.{held}
use Rattle.wjs_parse_simple.proofs.Declaring.{declaring_start, declaring_end, declaring_more, declaring_none, declaring_nothing, declarators_last}
use Rattle.wjs_parse_simple.proofs.Listing.{variables_none, variables_more, variables_same}
use Rattle.wjs_parse_simple.proofs.variables.variable_declarations.Goals as goal

pub returns-in_default-clause-answer : goal.returns-in_default-clause-answer
returns-in_default-clause-answer c =
    let f = rw c.in_default.is at c.in_ok-last.ensures.answer in
    declaring_nothing c.args.toks.now c.args.no_in c.args.room c.args.at f

pub loop-alloc-init : goal.loop-alloc-init
loop-alloc-init c =
    let f = rw c.in-Some.is at c.in_ok-last.ensures.answer in
    let e = rw c.in-Some.is at c.in_ok-last.ensures.ends in
    (declaring_start c.args.toks.now c.args.no_in c.args.room c.args.at c.variable_declaration.new.nodes c.new-list.result.items c.in-Some.last c.new-list.ensures.items f, c.in_ok-last.ensures.keeps, e.0, e.1, e.2, rw c.new-list.ensures.items tt, variables_more c.args.toks.now c.args.functions.now c.args.at c.args.room c.args.nodes.now c.requires.held c.args.nodes.now c.variable_declaration.new.nodes c.args.at c.args.at c.args.at c.in-Some.last.next c.new-list.result.items _ c.in-Some.last.declarator (variables_none c.args.functions.now c.args.nodes.now c.args.at c.new-list.result.items c.new-list.ensures.items) (omega arith) (rw c.in-Some.is at c.in_ok-last.ensures.own) refl)

pub variable_declaration-requires-in-loop-alloc : goal.variable_declaration-requires-in-loop-alloc
variable_declaration-requires-in-loop-alloc c =
    let i = c.loop-alloc.invariant.2 in
    record { held = held c.args.toks.now c.args.functions.now c.args.at (c.loop-alloc.last.next + 1) c.args.room (c.args.room) c.args.nodes.now c.loop-alloc.nodes c.requires.held (c.loop-alloc.invariant.1) (omega arith) (omega arith) }

pub returns-in_default-2-clause-answer : goal.returns-in_default-2-clause-answer
returns-in_default-2-clause-answer c =
    let f = rw c.in_default-2.is at c.in_ok-more.ensures.answer in
    declaring_none c.args.toks.now c.args.no_in c.args.room c.args.at c.loop-alloc.nodes c.loop-alloc.list.items c.loop-alloc.last c.loop-alloc.invariant.0 c.loop-alloc.nodes (c.has_sign.ensures.0 c.loop-alloc-test.true) f

pub loop-alloc-preserved : goal.loop-alloc-preserved
loop-alloc-preserved c =
    let f = rw c.in-Some-2.is at c.in_ok-more.ensures.answer in
    let e = rw c.in-Some-2.is at c.in_ok-more.ensures.ends in
    let l = c.in_ok-more.ensures.keeps.longer in
    let i = c.loop-alloc.invariant.2 in
    let x = e.0 in
    (declaring_more c.args.toks.now c.args.no_in c.args.room c.args.at c.loop-alloc.nodes c.loop-alloc.list.items c.loop-alloc.last c.loop-alloc.invariant.0 _ c.in-Some-2.more c.push_last.new.list.items (c.has_sign.ensures.0 c.loop-alloc-test.true) c.in_ok-more.ensures.keeps f c.in_ok-push_last.ensures.ok, keeps_both _ _ _ c.loop-alloc.invariant.1 c.in_ok-more.ensures.keeps, omega arith, e.1, e.2, rw c.in_ok-push_last.ensures.ok (declarators_last (length c.loop-alloc.nodes) _ c.loop-alloc.list.items c.loop-alloc.last.declarator l c.loop-alloc.invariant.4 c.loop-alloc.invariant.5), variables_more c.args.toks.now c.args.functions.now c.args.at c.args.room c.args.nodes.now c.requires.held c.loop-alloc.nodes _ c.args.at c.loop-alloc.last.next (c.loop-alloc.last.next + 1) c.in-Some-2.more.next (c.loop-alloc.list.items ++ c.loop-alloc.last.declarator ∷ []) _ c.in-Some-2.more.declarator c.loop-alloc.invariant.6 (omega arith) (rw c.in-Some-2.is at c.in_ok-more.ensures.own) (ap (λ z. z ++ c.in-Some-2.more.declarator ∷ []) c.in_ok-push_last.ensures.ok))

pub returns-clause-ends : goal.returns-clause-ends
returns-clause-ends c =
    (c.loop-alloc.invariant.2, c.loop-alloc.invariant.3, rw (c.from_vec.ensures, c.in_ok-push_last-2.ensures.ok) (declarators_last (length c.loop-alloc.nodes) (length c.loop-alloc.nodes) c.loop-alloc.list.items c.loop-alloc.last.declarator (omega arith) c.loop-alloc.invariant.4 c.loop-alloc.invariant.5))

pub returns-clause-answer : goal.returns-clause-answer
returns-clause-answer c =
    declaring_end c.args.toks.now c.args.no_in c.args.room c.args.at c.loop-alloc.nodes c.loop-alloc.list.items c.loop-alloc.last c.loop-alloc.invariant.0 _ (λ h. absurd (let a = c.has_sign.ensures.1 h in let b = c.loop-alloc-test.false in cc)) (c.from_vec.ensures ∙ c.in_ok-push_last-2.ensures.ok) refl refl

pub returns-clause-own : goal.returns-clause-own
returns-clause-own c =
    variables_same c.args.functions.now c.args.nodes.now c.loop-alloc.nodes c.args.at c.loop-alloc.last.next c.loop-alloc.last.next _ _ c.loop-alloc.invariant.6 (c.from_vec.ensures ∙ c.in_ok-push_last-2.ensures.ok) refl
