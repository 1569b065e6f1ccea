use Rattle.std.proofs.Common.{arith, ap, sym, ◌∙◌, ◌||◌}
use Rattle.wjs_full.specs.Rows.{worlds_in}
use Rattle.wjs_store.specs.State.{is_below}
use Rattle.std.proofs.Common.{take, ◌-◌}
use Rattle.wjs_full.proofs.Tables.{below_past, below_touched, below_root, below_parent, below_none}
use Rattle.wjs_full.proofs.table.is_below.Goals as goal

pub returns-then-is_touched : goal.returns-then-is_touched
returns-then-is_touched c = sym (c.loop-left.invariant.rest ∙ below_touched c.args.table.now c.loop-left.left c.index-table-left.result c.index-table-left.result c.index-table-left.is (omega arith) c.loop-left.invariant.bound c.args.world c.args.slot c.loop-left.at (sym c.eq.ensures ∙ c.if-eq.true) (sym c.is_touched.ensures ∙ c.if-is_touched.true))

pub returns-in-None : goal.returns-in-None
returns-in-None c = sym (c.loop-left.invariant.rest ∙ below_root c.args.table.now c.loop-left.left c.index-table-left.result c.index-table-left.result c.index-table-left.is (omega arith) c.loop-left.invariant.bound c.args.world c.args.slot c.loop-left.at (sym c.eq.ensures ∙ c.if-eq.true) (sym c.is_touched.ensures ∙ c.if-is_touched.false) c.in-None.is)

pub returns-then-eq-2 : goal.returns-then-eq-2
returns-then-eq-2 c = sym (c.loop-left.invariant.rest ∙ below_parent c.args.table.now c.loop-left.left c.index-table-left.result c.index-table-left.result c.index-table-left.is (omega arith) c.loop-left.invariant.bound c.args.world c.args.slot c.loop-left.at c.in-Some.parent (sym c.eq.ensures ∙ c.if-eq.true) (sym c.is_touched.ensures ∙ c.if-is_touched.false) c.in-Some.is ∙ ap (λ b. b || is_below c.args.world c.args.slot (worlds_in (take (c.loop-left.left - 1) c.args.table.now)) c.in-Some.parent) (sym c.eq-in-Some.ensures ∙ c.if-eq-2.true))

pub loop-left-preserved-in-Some : goal.loop-left-preserved-in-Some
loop-left-preserved-in-Some c = record {
  bound = omega arith;
  rest = c.loop-left.invariant.rest ∙ below_parent c.args.table.now c.loop-left.left c.index-table-left.result c.index-table-left.result c.index-table-left.is (omega arith) c.loop-left.invariant.bound c.args.world c.args.slot c.loop-left.at c.in-Some.parent (sym c.eq.ensures ∙ c.if-eq.true) (sym c.is_touched.ensures ∙ c.if-is_touched.false) c.in-Some.is ∙ ap (λ b. b || is_below c.args.world c.args.slot (worlds_in (take (c.loop-left.left - 1) c.args.table.now)) c.in-Some.parent) (sym c.eq-in-Some.ensures ∙ c.if-eq-2.false);
}

pub loop-left-preserved : goal.loop-left-preserved
loop-left-preserved c = record {
  bound = omega arith;
  rest = c.loop-left.invariant.rest ∙ below_past c.args.table.now c.loop-left.left c.index-table-left.result c.index-table-left.result c.index-table-left.is (omega arith) c.loop-left.invariant.bound c.args.world c.args.slot c.loop-left.at (sym c.eq.ensures ∙ c.if-eq.false);
}

pub returns : goal.returns
returns c = sym (c.loop-left.invariant.rest ∙ below_none c.args.world c.args.slot c.loop-left.at c.args.table.now c.loop-left.left (omega arith))
