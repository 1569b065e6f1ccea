use Rattle.std.specs.String.{string_bytes}
use Rattle.wjs_audit.proofs.Pushes.{units_more}
use Rattle.wjs_audit.proofs.spelling.push_units.Goals as goal

pub loop-unit-preserved : goal.loop-unit-preserved
loop-unit-preserved c = units_more (string_bytes c.args.out.now) (string_bytes c.loop-unit.out) (string_bytes c.push_unit.new.out) c.args.units.now c.loop-unit.unit-index c.loop-unit.invariant c.in_ok-push_unit.ensures c.loop-unit-test.true
