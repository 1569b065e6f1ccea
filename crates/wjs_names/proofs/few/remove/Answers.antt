use Rattle.std.proofs.Common.{◌∙◌, ap, sym, is_some, arith}
use Rattle.wjs_base.specs.Order.{name_cmp, name_total, name_exact}
use Rattle.wjs_names.proofs.Seeks.{found_at, missed_at}
use Rattle.wjs_names.proofs.Lists.{nothing_without}
use Rattle.wjs_names.specs.Lists.{seek}
use Rattle.wjs_names.proofs.few.remove.Goals as goal

pub remove-requires : goal.remove-requires
remove-requires g c =
    let f = found_at name_total name_exact c.args.name c.in-Ok.place c.args.few.now.items (c.in-Ok.ensures ∙ ap (seek name_cmp c.args.name 0) c.deref.ensures.value) in
    let b = f.below in omega (arith, c.args.few.now.ok.0)

pub returns-in-Ok-clause-removed : goal.returns-in-Ok-clause-removed
returns-in-Ok-clause-removed g c =
    let f = found_at name_total name_exact c.args.name c.in-Ok.place c.args.few.now.items (c.in-Ok.ensures ∙ ap (seek name_cmp c.args.name 0) c.deref.ensures.value) in
    c.remove.ensures.items ∙ f.removes c.requires

pub returns-in-Ok-clause-found : goal.returns-in-Ok-clause-found
returns-in-Ok-clause-found g c =
    let f = found_at name_total name_exact c.args.name c.in-Ok.place c.args.few.now.items (c.in-Ok.ensures ∙ ap (seek name_cmp c.args.name 0) c.deref.ensures.value) in
    sym (ap is_some (f.value c.remove.result))

pub returns-in-Err-clause-removed : goal.returns-in-Err-clause-removed
returns-in-Err-clause-removed g c =
    let m = missed_at name_total name_exact c.args.name c.in-Err.field-0 c.args.few.now.items (c.in-Err.ensures ∙ ap (seek name_cmp c.args.name 0) c.deref.ensures.value) in
    sym (nothing_without name_cmp c.args.name c.args.few.now.items (m.none c.requires))

pub returns-in-Err-clause-found : goal.returns-in-Err-clause-found
returns-in-Err-clause-found g c =
    let m = missed_at name_total name_exact c.args.name c.in-Err.field-0 c.args.few.now.items (c.in-Err.ensures ∙ ap (seek name_cmp c.args.name 0) c.deref.ensures.value) in
    sym (ap is_some (m.none c.requires))
