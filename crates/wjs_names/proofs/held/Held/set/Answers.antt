use Rattle.std.proofs.Common.{◌<◌, ◌∙◌, length, is_some, ap, sym, subst, arith}
use Rattle.std.proofs.lemmas.Option.{slice_get-get_or}
use Rattle.wjs_base.specs.declared.values.Name.TheVariants.{Index}
use Rattle.wjs_names.specs.Dense.{dense_value, held_in}
use Rattle.wjs_names.specs.Starts.{IsOpen, IsStarts}
use Rattle.wjs_names.proofs.Basics.{not_back_again}
use Rattle.wjs_names.proofs.Starting.{starts_set}
use Rattle.wjs_names.proofs.held.Held.set.Goals as goal

pub ready_for_row-requires : goal.ready_for_row-requires
ready_for_row-requires g c = rw c.as_slice.ensures.value c.self.invariant

pub invariant_of-self-2 : goal.invariant_of-self-2
invariant_of-self-2 g c =
    let xs = c.self.inside.list.items in
    let l : c.args.place < length xs = rw c.self.view_is c.requires in
    starts_set xs c.args.place c.args.value c.ready_for_row.new.starts.entries l (subst (λ ds. IsOpen ds c.args.place c.ready_for_row.new.starts.entries) c.as_slice.ensures.value c.in_ok-ready_for_row.ensures.ok)

pub index-requires : goal.index-requires
index-requires g c = let l : c.args.place < length c.self.inside.list.items = rw c.self.view_is c.requires in omega (arith, l, c.self.inside.list.ok.0)

pub index_mut-requires : goal.index_mut-requires
index_mut-requires g c = let l : c.args.place < length c.self.inside.list.items = rw c.self.view_is c.requires in omega (arith, l, c.self.inside.list.ok.0)

-- refused, and all is as it was
pub invariant_of-self : goal.invariant_of-self
invariant_of-self g c = subst (IsStarts c.self.inside.list.items) (sym c.in_err-ready_for_row.ensures.err) c.self.invariant

pub returns-clause-added : goal.returns-clause-added
returns-clause-added g c =
    let xs = c.self.inside.list.items in
    let l : c.args.place < length xs = rw c.self.view_is c.requires in
    not_back_again _ c.is_none-added.result
    (ap (λ ds. is_some (dense_value ds (Index c.args.place))) (sym c.self.view_is)
    ∙ ap (λ o. is_some (held_in o)) (slice_get-get_or xs c.args.place c.index.result.now l)
    ∙ ap is_some (sym c.index.ensures)
    ∙ c.is_none-added.ensures)
