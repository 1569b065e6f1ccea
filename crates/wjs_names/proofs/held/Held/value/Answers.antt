use Rattle.std.proofs.Common.{◌<◌, ◌∙◌, length, ap, sym, arith}
use Rattle.std.proofs.lemmas.Option.{slice_get-get_or}
use Rattle.wjs_base.specs.declared.values.Name.TheVariants.{Index}
use Rattle.wjs_names.specs.Dense.{dense_value, held_in}
use Rattle.wjs_names.proofs.held.Held.value.Goals as goal

pub index-requires : goal.index-requires
index-requires g c = let l : c.args.place < length c.self.inside.list.items = rw c.self.view_is c.requires in omega (arith, l, c.self.inside.list.ok.0)

pub returns : goal.returns
returns g c =
    let xs = c.self.inside.list.items in
    let l : c.args.place < length xs = rw c.self.view_is c.requires in
    c.as_ref.ensures.value
    ∙ c.index.ensures
    ∙ sym (ap held_in (slice_get-get_or xs c.args.place c.index.result.now l))
    ∙ ap (λ ds. dense_value ds (Index c.args.place)) c.self.view_is
