use Rattle.std.proofs.Common.{◌<◌, Some, length, refl, sym, ap, subst, ◌∙◌}
use Rattle.std.proofs.lemmas.Option.{slice_get-get_or}
use Rattle.wjs_arena.proofs.rows.Rows.at.Goals as goal

pub bounds-list-id : goal.bounds-list-id
bounds-list-id c = subst (λ n. c.args.id.serial < n) (sym c.list.ensures.count) ((c.list.ensures.serials c.args.id).0 c.requires)

pub returns : goal.returns
returns c =
    let short : c.args.id.serial < length c.list.result.now = subst (λ n. c.args.id.serial < n) (sym c.list.ensures.count) ((c.list.ensures.serials c.args.id).0 c.requires) in
    c.list.ensures.objects c.args.id refl
    ∙ slice_get-get_or c.list.result.now c.args.id.serial c.index-list-id.result short
    ∙ ap Some (sym c.index-list-id.is)
