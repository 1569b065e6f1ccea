use Rattle.std.proofs.Common.{◌≡◌, ◌∙◌, ◌+◌, Some, ap, sym, Ok, slice_get, arith}
use Rattle.std.specs.Option.{option_map}
use Rattle.std.specs.Ordering.{is_eq}
use Rattle.std.proofs.lemmas.Option.{slice_get_within, get_or_from_slice_get, same_Some}
use Rattle.wjs_base.specs.Order.{name_cmp, name_total}
use Rattle.wjs_base.proofs.Options.{no_none}
use Rattle.wjs_names.proofs.Basics.{equal_is}
use Rattle.wjs_names.proofs.Seeks.{got_at, seek_at}
use Rattle.wjs_names.proofs.few.is_at.Goals as goal

pub returns-in-None-clause-other : goal.returns-in-None-clause-other
returns-in-None-clause-other g c = λ f row s. no_none row (ap (option_map (λ x. x.now)) (sym c.in-None.is) ∙ got_at c.args.few.now c.args.place c.get.result c.get.ensures.lookup ∙ s)

pub returns-in-Some-clause-here : goal.returns-in-Some-clause-here
returns-in-Some-clause-here g c = λ t.
    let es = c.args.few.now in
    let row = c.in-Some.row.now in
    let s : slice_get es c.args.place ≡ Some row = sym (ap (option_map (λ x. x.now)) (sym c.in-Some.is) ∙ got_at es c.args.place c.get.result c.get.ensures.lookup) in
    let z : 0 + c.args.place ≡ c.args.place = omega arith in
    sym (seek_at name_total c.args.name 0 es c.args.place row c.requires (slice_get_within es c.args.place row s)
    (ap (λ e. name_cmp c.args.name e.0) (get_or_from_slice_get es c.args.place row row s) ∙ equal_is (name_cmp c.args.name row.0) (sym c.is_named.ensures ∙ t))
    ∙ ap Ok z)

pub returns-in-Some-clause-other : goal.returns-in-Some-clause-other
returns-in-Some-clause-other g c = λ f row s.
    let es = c.args.few.now in
    let same : c.in-Some.row.now ≡ row = same_Some c.in-Some.row.now row (ap (option_map (λ x. x.now)) (sym c.in-Some.is) ∙ got_at es c.args.place c.get.result c.get.ensures.lookup ∙ s) in
    ap (λ e. is_eq (name_cmp c.args.name e.0)) (sym same) ∙ sym c.is_named.ensures ∙ f
