use Rattle.std.proofs.Common.{sym, arith}
use Rattle.wjs_base.specs.Order.{name_total, name_exact}
use Rattle.wjs_names.proofs.Seeks.{found_at}
use Rattle.wjs_names.proofs.few.get.Goals as goal

pub offset_bounds-few-place : goal.offset_bounds-few-place
offset_bounds-few-place g c = let f = found_at name_total name_exact c.args.name c.in-Some.place c.args.few.now c.in-Some.ensures in let b = f.below in omega arith

pub bounds-few-place : goal.bounds-few-place
bounds-few-place g c = (found_at name_total name_exact c.args.name c.in-Some.place c.args.few.now c.in-Some.ensures).below

pub returns-in-Some : goal.returns-in-Some
returns-in-Some g c = sym ((found_at name_total name_exact c.args.name c.in-Some.place c.args.few.now c.in-Some.ensures).value c.index-few-place.result)
