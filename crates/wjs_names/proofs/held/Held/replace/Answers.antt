use Rattle.std.proofs.Common.{◌≡◌, ◌<◌, ◌∙◌, true, length, not, is_some, ap, sym, arith}
use Rattle.std.proofs.lemmas.Option.{slice_get-get_or}
use Rattle.wjs_base.specs.declared.values.Name.TheVariants.{Index}
use Rattle.wjs_names.specs.Dense.{dense_value, held_in}
use Rattle.wjs_names.specs.Starts.{stands}
use Rattle.wjs_names.proofs.Starting.{starts_replaced}
use Rattle.wjs_names.proofs.held.Held.replace.Goals as goal

pub index-requires : goal.index-requires
index-requires g c = let l : c.args.place < length c.self.inside.list.items = rw c.self.view_is c.requires in omega (arith, l, c.self.inside.list.ok.0)

pub index_mut-requires : goal.index_mut-requires
index_mut-requires g c = let l : c.args.place < length c.self.inside.list.items = rw c.self.view_is c.requires in omega (arith, l, c.self.inside.list.ok.0)

pub invariant_of-self : goal.invariant_of-self
invariant_of-self g c =
    let xs = c.self.inside.list.items in
    let l : c.args.place < length xs = rw c.self.view_is c.requires in
    let there : stands xs c.args.place ≡ true = ap (λ o. is_some (held_in o)) (slice_get-get_or xs c.args.place c.index.result.now l) ∙ ap is_some (sym c.index.ensures) ∙ c.is_none.ensures ∙ ap not c.if-is_none.false in
    starts_replaced xs c.args.place c.args.value c.self.inside.starts.entries l there c.self.invariant

pub returns-then-is_none-clause-found : goal.returns-then-is_none-clause-found
returns-then-is_none-clause-found g c =
    let xs = c.self.inside.list.items in
    let l : c.args.place < length xs = rw c.self.view_is c.requires in
    sym (ap (λ ds. is_some (dense_value ds (Index c.args.place))) (sym c.self.view_is)
    ∙ ap (λ o. is_some (held_in o)) (slice_get-get_or xs c.args.place c.index.result.now l)
    ∙ ap is_some (sym c.index.ensures)
    ∙ c.is_none.ensures
    ∙ ap not c.if-is_none.true)

pub returns-clause-found : goal.returns-clause-found
returns-clause-found g c =
    let xs = c.self.inside.list.items in
    let l : c.args.place < length xs = rw c.self.view_is c.requires in
    sym (ap (λ ds. is_some (dense_value ds (Index c.args.place))) (sym c.self.view_is)
    ∙ ap (λ o. is_some (held_in o)) (slice_get-get_or xs c.args.place c.index.result.now l)
    ∙ ap is_some (sym c.index.ensures)
    ∙ c.is_none.ensures
    ∙ ap not c.if-is_none.false)
