use Rattle.std.proofs.Common.{◌∙◌, ap, sym}
use Rattle.std.specs.Option.{option_map}
use Rattle.std.proofs.lemmas.Option.{slice_get-get_or, slice_get_past}
use Rattle.wjs_base.specs.declared.values.Name.TheVariants.{Index}
use Rattle.wjs_names.specs.Dense.{held_in}
use Rattle.wjs_names.proofs.held.row_at.Goals as goal

pub returns-then-place-list : goal.returns-then-place-list
returns-then-place-list g c = sym (ap (λ o. option_map (λ v. (Index c.args.place, v)) (held_in o)) (slice_get_past c.args.list.now c.args.place c.if-place-list.true))

pub returns-in-None : goal.returns-in-None
returns-in-None g c = sym (ap (λ o. option_map (λ v. (Index c.args.place, v)) (held_in o)) (slice_get-get_or c.args.list.now c.args.place _ c.if-place-list.false) ∙ ap (option_map (λ v. (Index c.args.place, v))) c.in-None.is)

pub returns-in-Some : goal.returns-in-Some
returns-in-Some g c = sym (ap (λ o. option_map (λ v. (Index c.args.place, v)) (held_in o)) (slice_get-get_or c.args.list.now c.args.place _ c.if-place-list.false) ∙ ap (option_map (λ v. (Index c.args.place, v))) c.in-Some.is)
