use Rattle.std.proofs.Common.{◌≡◌, ap, sym, ◌∙◌, subst, IfSome, get_or, Some}
use Rattle.std.proofs.lemmas.Result.{on_ok_weaker}
use Rattle.wjs_full.specs.declared.rows.Row.{Row}
use Rattle.wjs_store.specs.Naming.{plain}
use Rattle.wjs_full.specs.Rows.{world_in, worlds_in}
use Rattle.wjs_store.specs.State.{World, settle}
use Rattle.wjs_store.proofs.Parents.{slice_get_at}
use Rattle.wjs_full.proofs.Tables.{worlds_at_is}
use Rattle.wjs_full.proofs.table.settle_at.Goals as goal

pub returns-clause-after : goal.returns-clause-after
returns-clause-after c =
    let t = c.args.table.now.items in
    let d = c.index.result.now in
    on_ok_weaker c.settle.result (λ h.
    let g : worlds_in c.settle.new.table.items ≡ settle (world_in (get_or t c.args.place d)) d.id (worlds_in t) = subst (λ o. IfSome o (λ (row : Row). worlds_in c.settle.new.table.items ≡ settle (world_in row) d.id (worlds_in t))) (slice_get_at t c.args.place d c.requires.place) h in
    subst (λ o. IfSome o (λ (e : World plain × World plain). worlds_in c.settle.new.table.items ≡ settle e.0 e.1.id (worlds_in t))) (sym (worlds_at_is t c.args.place c.args.above d d c.requires.place c.requires.above ∙ ap (λ y. Some (world_in (get_or t c.args.place d), world_in y)) (sym c.index.ensures))) g) c.settle.ensures.after
