use Rattle.std.proofs.Common.{◌≡◌, suc, ◌-◌, arith}
use Rattle.wjs_frames.proofs.Taking.{stops, takes_if_due}
use Rattle.wjs_frames.proofs.take.take_due.Goals as goal

pub returns-then-config-eq0 : goal.returns-then-config-eq0
returns-then-config-eq0 g c = stops g.S.WorldStore.meaning c.args.config.now c.requires.running c.requires.sound.base c.if-config-eq0.true c.requires.due

pub returns : goal.returns
returns g c =
    let old = c.args.config.now in
    let left_is : old.left ≡ suc (old.left - 1) = omega (arith, c.if-config-eq0.false) in
    takes_if_due g.S.WorldStore.meaning old c.pop.result c.pop.new.self (old.left - 1) c.requires.running c.requires.sound.base c.pop.ensures c.requires.due left_is
