use Rattle.std.proofs.Common.{subst}
use Rattle.std.specs.Prelude.{option_map}
use Rattle.wjs_model.specs.Begun.{with_phase}
use Rattle.wjs_model.specs.Frames.{Pops}
use Rattle.wjs_frames.proofs.Taking.{ends_empty, takes_not_due}
use Rattle.wjs_frames.proofs.take.take_now.Goals as goal

pub returns-in-None : goal.returns-in-None
returns-in-None g c =
    let none = subst (λ r. Pops c.args.config.now.frames (option_map with_phase r) c.pop.new.self) c.in-None.is c.pop.ensures in
    ends_empty g.S.WorldStore.meaning c.args.config.now c.pop.new.self c.requires.running c.requires.sound.base none.0 none.1

pub returns-in-Some : goal.returns-in-Some
returns-in-Some g c =
    let old = c.args.config.now in
    let eo = subst (λ r. Pops old.frames (option_map with_phase r) c.pop.new.self) c.in-Some.is c.pop.ensures in
    takes_not_due g.S.WorldStore.meaning old c.in-Some.top c.pop.new.self c.requires.running c.requires.sound.base eo c.requires.due
