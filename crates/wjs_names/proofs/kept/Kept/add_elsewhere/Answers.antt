use Rattle.std.proofs.Common.{◌∙◌, not, is_some, ap, sym}
use Rattle.std.specs.FinMap as map
use Rattle.std.specs.FinMap.Entries.{put, find}
use Rattle.std.proofs.lemmas.Result.{on_ok_weaker}
use Rattle.wjs_base.specs.Order.{name_cmp, name_total}
use Rattle.wjs_names.specs.Kept.{rows_of}
use Rattle.wjs_names.proofs.Basics.{if_ok}
use Rattle.wjs_names.proofs.kept.Kept.add_elsewhere.Goals as goal

pub returns-in-Many-clause-ok : goal.returns-in-Many-clause-ok
returns-in-Many-clause-ok g c =
    let many = c.deref_mut.result.now in
    on_ok_weaker c.set-in-Many.result (λ e.
    ap map.entries e
    ∙ map.entries-insert name_total many c.args.name c.args.value
    ∙ ap (put name_cmp c.args.name c.args.value) (ap map.entries c.deref_mut.ensures.value ∙ ap rows_of (sym c.in-Many.is) ∙ c.make_room.ensures)) c.set-in-Many.ensures.ok

pub returns-in-Many-clause-added : goal.returns-in-Many-clause-added
returns-in-Many-clause-added g c =
    let many = c.deref_mut.result.now in
    if_ok c.set-in-Many.result (λ added e.
    e ∙ ap (λ o. not (is_some o)) (map.get-entries many c.args.name ∙ ap (find name_cmp c.args.name) (ap map.entries c.deref_mut.ensures.value ∙ ap rows_of (sym c.in-Many.is) ∙ c.make_room.ensures))) c.set-in-Many.ensures.added
