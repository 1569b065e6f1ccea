use Rattle.std.proofs.Common.{eq-eqb}
use Rattle.wjs_machine_tests.proofs.owners.is_of_owner.Goals as goal

pub returns : goal.returns
returns g c = eq-eqb _ _ (c.requires.sound.base.worlds_own c.args.world c.requires.world)
