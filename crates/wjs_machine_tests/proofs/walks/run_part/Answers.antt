use Rattle.std.proofs.Common.{Vec, Global, ap, ◌∙◌}
use Rattle.wjs_model.specs.declared.loaded.LoadedProgram.{LoadedProgram as Program}
use Rattle.wjs_model.specs.Texts.{KnowsUnit, PlacesUnit}
use Rattle.wjs_machine_tests.proofs.Loaded.{pushed, all_one, part_there}
use Rattle.wjs_machine_tests.proofs.walks.run_part.Goals as goal

pub start_parts-requires-clause-parts : goal.start_parts-requires-clause-parts
start_parts-requires-clause-parts g c = all_one (KnowsUnit c.args.texts) c.push.new.self.items c.args.part (pushed c.new-parts.result.items c.push.new.self.items c.args.part c.new-parts.ensures.items c.in_ok-push.ensures.items) c.requires.part

pub start_parts-requires-clause-part_places : goal.start_parts-requires-clause-part_places
start_parts-requires-clause-part_places g c = all_one (PlacesUnit c.args.texts) c.push.new.self.items c.args.part (pushed c.new-parts.result.items c.push.new.self.items c.args.part c.new-parts.ensures.items c.in_ok-push.ensures.items) c.requires.part_places

pub enter_below-requires-clause-base : goal.enter_below-requires-clause-base
enter_below-requires-clause-base g c = c.in_ok-walk_on.ensures.sound.base

pub enter_below-requires-clause-part : goal.enter_below-requires-clause-part
enter_below-requires-clause-part g c =
    part_there c.args.library c.walk_on.new.config.units.items c.push.new.self.items c.args.part c.number_behind-number.result c.number_behind-number.ensures (ap (λ (us : Vec Program Global). us.items) c.in_ok-walk_on.ensures.units ∙ c.in_ok-config.ensures.starts.units) (pushed c.new-parts.result.items c.push.new.self.items c.args.part c.new-parts.ensures.items c.in_ok-push.ensures.items)
