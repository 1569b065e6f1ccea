use Rattle.std.proofs.Common.{◌≡◌, ◌∙◌, Err, length, ap, sym, not, is_some, arith}
use Rattle.std.proofs.lemmas.Result.{on_ok_weaker}
use Rattle.wjs_base.specs.Order.{name_cmp, name_total, name_exact}
use Rattle.wjs_names.specs.Lists.{seek}
use Rattle.wjs_names.proofs.Basics.{if_ok}
use Rattle.wjs_names.proofs.Seeks.{found_at, missed_at, put_last}
use Rattle.wjs_names.proofs.few.put_row.Goals as goal

pub returns-then-goes_last-clause-ok : goal.returns-then-goes_last-clause-ok
returns-then-goes_last-clause-ok g c =
    let es = c.args.few.now.items in
    let past : Err (length es) ≡ seek name_cmp c.args.row.0 0 es =
    ap (λ l. Err (length l)) (sym c.deref.ensures.value) ∙ sym (c.goes_last.ensures c.if-goes_last.true) ∙ ap (λ n. seek name_cmp n 0 c.deref.result.now) c.name-name.ensures ∙ ap (seek name_cmp c.args.row.0 0) c.deref.ensures.value in
    on_ok_weaker c.push.result (λ e. e ∙ put_last name_total name_exact c.args.row.0 c.args.row.1 es past) c.push.ensures.ok

pub returns-then-goes_last-clause-added : goal.returns-then-goes_last-clause-added
returns-then-goes_last-clause-added g c =
    let es = c.args.few.now.items in
    let past : Err (length es) ≡ seek name_cmp c.args.row.0 0 es =
    ap (λ l. Err (length l)) (sym c.deref.ensures.value) ∙ sym (c.goes_last.ensures c.if-goes_last.true) ∙ ap (λ n. seek name_cmp n 0 c.deref.result.now) c.name-name.ensures ∙ ap (seek name_cmp c.args.row.0 0) c.deref.ensures.value in
    if_ok c.push.result (λ added e. e ∙ sym (ap (λ o. not (is_some o)) ((missed_at name_total name_exact c.args.row.0 (length es) es past).none c.requires))) c.push.ensures.added

pub index_mut-requires : goal.index_mut-requires
index_mut-requires g c =
    let f = found_at name_total name_exact c.args.row.0 c.in-Ok.place c.args.few.now.items (c.in-Ok.ensures ∙ ap (λ n. seek name_cmp n 0 c.deref-2.result.now) c.name-name.ensures ∙ ap (seek name_cmp c.args.row.0 0) c.deref-2.ensures.value) in
    let b = f.below in omega (arith, c.args.few.now.ok.0)

pub insert-requires : goal.insert-requires
insert-requires g c =
    let m = missed_at name_total name_exact c.args.row.0 c.in-Err.place c.args.few.now.items (c.in-Err.ensures ∙ ap (λ n. seek name_cmp n 0 c.deref-2.result.now) c.name-name.ensures ∙ ap (seek name_cmp c.args.row.0 0) c.deref-2.ensures.value) in
    let b = m.upto in omega (arith, c.args.few.now.ok.0)

pub returns-in-Ok-clause-ok : goal.returns-in-Ok-clause-ok
returns-in-Ok-clause-ok g c =
    let f = found_at name_total name_exact c.args.row.0 c.in-Ok.place c.args.few.now.items (c.in-Ok.ensures ∙ ap (λ n. seek name_cmp n 0 c.deref-2.result.now) c.name-name.ensures ∙ ap (seek name_cmp c.args.row.0 0) c.deref-2.ensures.value) in
    f.puts c.args.row.1

pub returns-in-Ok-clause-added : goal.returns-in-Ok-clause-added
returns-in-Ok-clause-added g c =
    let f = found_at name_total name_exact c.args.row.0 c.in-Ok.place c.args.few.now.items (c.in-Ok.ensures ∙ ap (λ n. seek name_cmp n 0 c.deref-2.result.now) c.name-name.ensures ∙ ap (seek name_cmp c.args.row.0 0) c.deref-2.ensures.value) in
    sym (ap (λ o. not (is_some o)) (f.value (c.args.row.0, c.args.row.1)))

pub returns-in_ok-insert-in-Err-clause-ok : goal.returns-in_ok-insert-in-Err-clause-ok
returns-in_ok-insert-in-Err-clause-ok g c =
    let m = missed_at name_total name_exact c.args.row.0 c.in-Err.place c.args.few.now.items (c.in-Err.ensures ∙ ap (λ n. seek name_cmp n 0 c.deref-2.result.now) c.name-name.ensures ∙ ap (seek name_cmp c.args.row.0 0) c.deref-2.ensures.value) in
    c.in_ok-insert-in-Err.ensures.items ∙ m.puts c.args.row.1

pub returns-in_ok-insert-in-Err-clause-added : goal.returns-in_ok-insert-in-Err-clause-added
returns-in_ok-insert-in-Err-clause-added g c =
    let m = missed_at name_total name_exact c.args.row.0 c.in-Err.place c.args.few.now.items (c.in-Err.ensures ∙ ap (λ n. seek name_cmp n 0 c.deref-2.result.now) c.name-name.ensures ∙ ap (seek name_cmp c.args.row.0 0) c.deref-2.ensures.value) in
    sym (ap (λ o. not (is_some o)) (m.none c.requires))
