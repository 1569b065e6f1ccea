use Rattle.std.proofs.Common.{length, arith, refl, sym, ◌∙◌}
use Rattle.wjs_tree.proofs.Kept.{keeps_self, keeps_both}
use Rattle.wjs_parse_expr.proofs.Entries.{held, below_last}
use Rattle.wjs_parse.proofs.Lasts.{behind_element}
use Rattle.wjs_parse.proofs.Items.{list_start, list_none, list_more, list_end}
use Rattle.wjs_parse.proofs.Making.{elements_none, elements_more, elements_same}
use Rattle.wjs_parse.proofs.list.source_elements.Goals as goal

pub loop-alloc-init : goal.loop-alloc-init
loop-alloc-init c = (list_start c.args.toks.now c.args.room c.args.at c.args.nodes.now c.new-list.result.items c.new-list.ensures.items, keeps_self _, omega arith, rw c.new-list.ensures.items tt, elements_none c.args.functions.now c.args.nodes.now c.args.at c.new-list.result.items c.new-list.ensures.items, c.requires.may_begin)

pub source_element-requires : goal.source_element-requires
source_element-requires c =
    let i = c.loop-alloc.invariant.2 in
    record { held = held c.args.toks.now c.args.functions.now c.args.at c.loop-alloc.place c.args.room c.args.room c.args.nodes.now c.loop-alloc.nodes c.requires.held c.loop-alloc.invariant.1 (omega arith) (omega arith); may_begin = c.loop-alloc.invariant.5 }

pub returns-in_default-clause-answer : goal.returns-in_default-clause-answer
returns-in_default-clause-answer c =
    let g = rw c.in_default.is at c.in_ok-item.ensures.answer in
    list_none c.args.toks.now c.args.room c.args.at c.loop-alloc.nodes c.loop-alloc.list.items c.loop-alloc.place c.loop-alloc.invariant.0 (sym c.is_closed.ensures ∙ c.loop-alloc-test.true) g

pub loop-alloc-preserved : goal.loop-alloc-preserved
loop-alloc-preserved c =
    let f = rw c.in-Some.is at c.in_ok-item.ensures.answer in
    let e1 = rw c.in-Some.is at c.in_ok-item.ensures.ends in
    let x1 = e1.0 in
    let y1 = e1.1 in
    let z1 = e1.2 in
    let i = c.loop-alloc.invariant.2 in (
      list_more c.args.toks.now c.args.room c.args.at c.loop-alloc.nodes c.loop-alloc.list.items c.loop-alloc.place c.loop-alloc.invariant.0 (sym c.is_closed.ensures ∙ c.loop-alloc-test.true) c.source_element.new.nodes c.in-Some.item c.push_last.new.list.items c.in_ok-item.ensures.keeps f c.in_ok-push_last.ensures.ok,
      keeps_both _ _ _ c.loop-alloc.invariant.1 c.in_ok-item.ensures.keeps,
      omega arith,
      rw c.in_ok-push_last.ensures.ok (below_last (length c.loop-alloc.nodes) (length c.source_element.new.nodes) c.loop-alloc.list.items c.in-Some.item.node c.in_ok-item.ensures.keeps.longer e1.2 c.loop-alloc.invariant.3),
      elements_more c.args.toks.now c.args.functions.now c.args.at c.args.room c.args.nodes.now c.requires.held c.loop-alloc.nodes c.source_element.new.nodes c.args.at c.loop-alloc.place c.in-Some.item.next c.loop-alloc.list.items c.push_last.new.list.items c.in-Some.item.node c.loop-alloc.invariant.4 (rw c.in-Some.is at c.in_ok-item.ensures.own) c.in_ok-push_last.ensures.ok,
      behind_element c.args.toks.now f.tree c.loop-alloc.place c.in-Some.item.next f.reading.stands,
    )

pub loop-alloc-smaller : goal.loop-alloc-smaller
loop-alloc-smaller c =
    let e1 = rw c.in-Some.is at c.in_ok-item.ensures.ends in
    let x1 = e1.0 in
    let y1 = e1.1 in
    omega arith

pub returns-clause-answer : goal.returns-clause-answer
returns-clause-answer c = list_end c.args.toks.now c.args.room c.args.at c.loop-alloc.nodes c.loop-alloc.list.items c.loop-alloc.place _ c.loop-alloc.invariant.0 (sym c.is_closed.ensures ∙ c.loop-alloc-test.false) c.from_vec.ensures refl

pub returns-clause-ends : goal.returns-clause-ends
returns-clause-ends c = (c.loop-alloc.invariant.2, rw c.from_vec.ensures c.loop-alloc.invariant.3)

pub returns-clause-own : goal.returns-clause-own
returns-clause-own c =
    elements_same c.args.functions.now c.args.nodes.now c.loop-alloc.nodes c.args.at c.loop-alloc.place c.loop-alloc.place c.loop-alloc.list.items _ c.loop-alloc.invariant.4 c.from_vec.ensures refl
