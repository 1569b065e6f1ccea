use Rattle.std.proofs.Common.{◌≤◌, length, sym, ap, ◌∙◌, arith}
use Rattle.std.specs.Prelude.{not}
use Rattle.wjs_store.proofs.AllAnswered.{left_all, left_less, left_none}
use Rattle.wjs_store.proofs.store.WorldStore.write_rows.Goals as goal

pub returns-then-is_spent : goal.returns-then-is_spent
returns-then-is_spent g c = sym c.is_spent.ensures ∙ c.if-is_spent.true

pub loop-row-init : goal.loop-row-init
loop-row-init g c =
    let meaning = g.Self.WorldStore.meaning in
    record {
      there = c.requires;
      works = ap not (sym c.is_spent.ensures ∙ c.if-is_spent.false);
      left = left_all c.args.world c.args.object c.args.rows.now (meaning c.args.self.now);
    }

pub write-requires : goal.write-requires
write-requires g c = c.loop-row.invariant.there

pub loop-row-preserved : goal.loop-row-preserved
loop-row-preserved g c =
    let meaning = g.Self.WorldStore.meaning in
    let does = c.in_ok-write.ensures.0 in
    record {
      there = does.still_there c.args.world c.loop-row.invariant.there;
      works = c.loop-row.invariant.works;
      left = left_less c.args.world c.args.object c.args.rows.now c.loop-row.row-index c.row-item.result (meaning c.args.self.now) (meaning c.loop-row.self) (meaning c.write.new.self) (omega arith) c.row-item.is c.loop-row.invariant.left does;
    }

pub returns : goal.returns
returns g c =
    let meaning = g.Self.WorldStore.meaning in
    let past : length c.args.rows.now ≤ c.loop-row.row-index = omega (arith, c.loop-row-test.false) in
    (left_none c.args.world c.args.object c.args.rows.now c.loop-row.row-index (meaning c.args.self.now) (meaning c.loop-row.self) past c.loop-row.invariant.left, c.loop-row.invariant.works)
