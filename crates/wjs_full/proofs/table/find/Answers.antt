use Rattle.std.proofs.Common.{arith, sym, ◌∙◌, refl}
use Rattle.wjs_full.proofs.Tables.{find_here, find_past, find_none}
use Rattle.wjs_full.proofs.table.find.Goals as goal

pub returns-then-eq-clause-found : goal.returns-then-eq-clause-found
returns-then-eq-clause-found c = c.loop-left.invariant.rest ∙ find_here c.args.table.now c.loop-left.left c.index-table-left.result _ refl (omega arith) c.loop-left.invariant.bound c.args.world (sym c.eq.ensures ∙ c.if-eq.true)

pub loop-left-preserved : goal.loop-left-preserved
loop-left-preserved c = record {
  bound = omega arith;
  rest = c.loop-left.invariant.rest ∙ find_past c.args.table.now c.loop-left.left c.index-table-left.result _ refl (omega arith) c.loop-left.invariant.bound c.args.world (sym c.eq.ensures ∙ c.if-eq.false);
}

pub returns-clause-found : goal.returns-clause-found
returns-clause-found c = c.loop-left.invariant.rest ∙ find_none c.args.table.now c.args.world c.loop-left.left (omega arith)
