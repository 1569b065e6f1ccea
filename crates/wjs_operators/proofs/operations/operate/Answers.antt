use Rattle.wjs_step_common.proofs.Following.{follows_as}
use Rattle.wjs_operators.proofs.Operators.{calculates_is}
use Rattle.wjs_operators.proofs.operations.operate.Goals as goal

pub returns-in_default : goal.returns-in_default
returns-in_default g c = follows_as _ _ _ _ _ _ (λ grows. calculates_is c.args.operator _ _ _ (record {
  add = c.in_default.not-Add;
  less = c.in_default.not-Less;
  greater = c.in_default.not-Greater;
  less_equal = c.in_default.not-LessEqual;
  greater_equal = c.in_default.not-GreaterEqual;
  instance_of = c.in_default.not-Instanceof;
  among = c.in_default.not-In;
  equal = c.in_default.not-Equal;
  not_equal = c.in_default.not-NotEqual;
  strict_equal = c.in_default.not-StrictEqual;
  strict_not_equal = c.in_default.not-StrictNotEqual;
})) c.calculate.ensures
