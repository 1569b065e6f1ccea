use Rattle.std.proofs.Common.{◌<◌, ◌≤◌, ◌∙◌, None, is_some, length, length-set, set, ap, sym, subst, arith}
use Rattle.std.proofs.lemmas.Option.{slice_get-get_or}
use Rattle.wjs_base.specs.declared.values.Name.TheVariants.{Index}
use Rattle.wjs_names.specs.Dense.{dense_value, held_in}
use Rattle.wjs_names.specs.Starts.{IsPassed, IsStarts}
use Rattle.wjs_names.proofs.Starting.{starts_taken}
use Rattle.wjs_names.proofs.held.Held.take.Goals as goal

pub ready_for_hole-requires-clause-starts : goal.ready_for_hole-requires-clause-starts
ready_for_hole-requires-clause-starts g c = rw c.as_slice.ensures.value c.self.invariant

pub ready_for_hole-requires-clause-within : goal.ready_for_hole-requires-clause-within
ready_for_hole-requires-clause-within g c = rw (c.as_slice.ensures.value, c.self.view_is) c.requires

pub remove-requires : goal.remove-requires
remove-requires g c = c.in_ok-ready_for_hole.ensures.ok.starts_are.ordered

pub invariant_of-self-2 : goal.invariant_of-self-2
invariant_of-self-2 g c =
    let xs = c.self.inside.list.items in
    let l : c.args.place < length xs = rw c.self.view_is c.requires in
    let passed : IsPassed xs c.args.place c.ready_for_hole.new.starts.entries = subst (λ ds. IsPassed ds c.args.place c.ready_for_hole.new.starts.entries) c.as_slice.ensures.value c.in_ok-ready_for_hole.ensures.ok in
    let fewer : length c.trim.new.dense.items ≤ length xs = omega (arith, c.trim.ensures.len, length-set xs c.args.place None) in
    starts_taken xs c.trim.new.dense.items c.args.place c.ready_for_hole.new.starts.entries c.remove.new.tree.entries l passed c.remove.ensures.removed fewer c.trim.ensures.values

pub index-requires : goal.index-requires
index-requires g c = let l : c.args.place < length c.self.inside.list.items = rw c.self.view_is c.requires in omega (arith, l, c.self.inside.list.ok.0)

pub index_mut-requires : goal.index_mut-requires
index_mut-requires g c = let l : c.args.place < length c.self.inside.list.items = rw c.self.view_is c.requires in omega (arith, l, c.self.inside.list.ok.0)

-- refused, and all is as it was
pub invariant_of-self : goal.invariant_of-self
invariant_of-self g c = subst (IsStarts c.self.inside.list.items) (sym c.in_err-ready_for_hole.ensures.err) c.self.invariant

pub returns-clause-values : goal.returns-clause-values
returns-clause-values g c = λ name. c.trim.ensures.values name ∙ ap (λ ds. dense_value (set ds c.args.place None) name) c.self.view_is

pub returns-clause-found : goal.returns-clause-found
returns-clause-found g c =
    let xs = c.self.inside.list.items in
    let l : c.args.place < length xs = rw c.self.view_is c.requires in
    c.is_some-found.ensures
    ∙ ap is_some c.index.ensures
    ∙ sym (ap (λ o. is_some (held_in o)) (slice_get-get_or xs c.args.place c.index.result.now l))
    ∙ ap (λ ds. is_some (dense_value ds (Index c.args.place))) c.self.view_is

pub returns-clause-len : goal.returns-clause-len
returns-clause-len g c =
    let xs = c.self.inside.list.items in
    omega (arith, c.trim.ensures.len, length-set xs c.args.place None, ap length c.self.view_is)
