use Rattle.std.proofs.Common.{◌<◌, ◌∙◌, rules, length, set, sym, ap, is_some}
use Rattle.wjs_base.specs.declared.values.Name.{Name}
use Rattle.wjs_base.specs.Order.{name_total, name_exact}
use Rattle.wjs_names.proofs.Seeks.{found_at, missed_at}
use Rattle.wjs_names.proofs.few.replace.Goals as goal

pub offset_bounds-few-place : goal.offset_bounds-few-place
offset_bounds-few-place g c = let b : c.in-Some.place < length c.args.few.now = (found_at name_total name_exact c.args.name c.in-Some.place c.args.few.now c.in-Some.ensures).below in search rules

-- the same where it is written
pub offset_bounds-few-place-in-Some : goal.offset_bounds-few-place-in-Some
offset_bounds-few-place-in-Some g c = let b : c.in-Some.place < length c.args.few.now = (found_at name_total name_exact c.args.name c.in-Some.place c.args.few.now c.in-Some.ensures).below in search rules

pub bounds-few-place-in-Some : goal.bounds-few-place-in-Some
bounds-few-place-in-Some g c = (found_at name_total name_exact c.args.name c.in-Some.place c.args.few.now c.in-Some.ensures).below

pub bounds-few-place : goal.bounds-few-place
bounds-few-place g c = (found_at name_total name_exact c.args.name c.in-Some.place c.args.few.now c.in-Some.ensures).below

pub returns-in-Some-clause-found : goal.returns-in-Some-clause-found
returns-in-Some-clause-found g c = sym (ap is_some ((found_at name_total name_exact c.args.name c.in-Some.place c.args.few.now c.in-Some.ensures).value (c.args.name, c.args.value)))

pub returns-in-Some-clause-replaced : goal.returns-in-Some-clause-replaced
returns-in-Some-clause-replaced g c =
    let f = found_at name_total name_exact c.args.name c.in-Some.place c.args.few.now c.in-Some.ensures in
    let row = c.index-few-place.result in
    ap (λ k. set c.args.few.now c.in-Some.place (k, c.args.value)) (ap (λ (e : Name × g.row.V.Denot). e.0) c.index-few-place.is ∙ f.key row) ∙ f.puts c.args.value

pub returns-then-goes_last-clause-found : goal.returns-then-goes_last-clause-found
returns-then-goes_last-clause-found g c = sym (ap is_some ((missed_at name_total name_exact c.args.name (length c.args.few.now) c.args.few.now (sym (c.goes_last.ensures c.if-goes_last.true))).none c.requires))
