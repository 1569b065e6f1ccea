use Rattle.std.proofs.Common.{sym, ap, ◌∙◌}
use Rattle.wjs_model.specs.Units.{place_in, place_or_global}
use Rattle.wjs_model.proofs.NamePlaces.{name_placed}
use Rattle.wjs_model.proofs.loaded.LoadedProgram.place.Goals as goal

pub returns : goal.returns
returns c = λ lt t. name_placed t c.args.self.now c.args.node c.args.at lt ∙ sym (ap place_in (c.place_or_global.ensures ∙ ap place_or_global c.get.ensures))
