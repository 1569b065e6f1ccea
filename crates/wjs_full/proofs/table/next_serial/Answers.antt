use Rattle.std.proofs.Common.{arith, sym}
use Rattle.std.proofs.lemmas.Bool.Decides.{nat_tests}
use Rattle.wjs_full.proofs.Tables.{count_more, count_none}
use Rattle.wjs_full.proofs.table.next_serial.Goals as goal
use Rattle.wjs_full.proofs.table.next_serial.Goals.{then-row-owner, else-row-owner}

pub loop-row-init : goal.loop-row-init
loop-row-init c = record { bound = omega arith; count = sym (count_none c.args.owner) }

pub loop-row-preserved : goal.loop-row-preserved
loop-row-preserved c =
    elim c.if-row-owner.branch [
      | then-row-owner w ↦ record { bound = omega arith; count = grind (arith, nat_tests, count_more c.args.owner c.args.table.now c.loop-row.row-index c.row-item.result c.row-item.result c.row-item.is c.loop-row-test.true) }
      | else-row-owner w ↦ record { bound = omega arith; count = grind (arith, nat_tests, count_more c.args.owner c.args.table.now c.loop-row.row-index c.row-item.result c.row-item.result c.row-item.is c.loop-row-test.true) }
    ]
