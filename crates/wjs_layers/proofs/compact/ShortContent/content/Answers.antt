use Rattle.std.proofs.Common.{refl}
use Rattle.wjs_layers.specs.declared.compact.Kind.TheVariants as kinds
use Rattle.wjs_layers.proofs.Packing.{number_shown}
use Rattle.wjs_layers.proofs.compact.ShortContent.content.Goals as goal

pub returns-in-Nan : goal.returns-in-Nan
returns-in-Nan c = number_shown c.args.self.now kinds.Nan _ c.in-Nan.is refl

pub returns-in-Number : goal.returns-in-Number
returns-in-Number c = number_shown c.args.self.now kinds.Number c.above.result c.in-Number.is c.above.ensures

pub returns-in-Negative : goal.returns-in-Negative
returns-in-Negative c = number_shown c.args.self.now kinds.Negative c.below.result c.in-Negative.is c.below.ensures
