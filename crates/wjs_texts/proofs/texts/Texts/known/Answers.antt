use Rattle.std.proofs.Common.{Some}
use Rattle.wjs_texts.proofs.Letters.{found_spells_none}
use Rattle.wjs_texts.proofs.texts.Texts.known.Goals as goal

pub returns-in-Some-clause-no_index : goal.returns-in-Some-clause-no_index
returns-in-Some-clause-no_index c = found_spells_none c.args.self.now c.args.known (Some c.in-Some.id) c.in-Some.ensures

pub returns-in-None-clause-no_index : goal.returns-in-None-clause-no_index
returns-in-None-clause-no_index c = found_spells_none c.args.self.now c.args.known c.find_known.result c.find_known.ensures.finds
