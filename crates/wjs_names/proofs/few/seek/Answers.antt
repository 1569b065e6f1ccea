use Rattle.std.proofs.Common.{◌∙◌, ap, sym, slice_get}
use Rattle.std.proofs.lemmas.Option.{slice_get_within, get_or_from_slice_get}
use Rattle.wjs_base.specs.Order.{name_cmp}
use Rattle.wjs_base.proofs.Options.{by_option}
use Rattle.wjs_base.proofs.Lists.{get_past}
use Rattle.wjs_names.proofs.Basics.{less_left}
use Rattle.wjs_names.proofs.Seeks.{seek_drop, seek_end}
use Rattle.wjs_names.proofs.few.seek.Goals as goal

pub returns-then-is_at : goal.returns-then-is_at
returns-then-is_at g c = c.is_at.ensures.here c.if-is_at.true

pub returns-else-is_at : goal.returns-else-is_at
returns-else-is_at g c =
    let n = c.first_from-place.result in
    let es = c.args.few.now in
    sym (c.first_from-place.ensures.before ∙ by_option (slice_get es n)
    (λ none. seek_end name_cmp c.args.name n es c.first_from-place.ensures.within (get_past es n none))
    (λ row s. seek_drop name_cmp c.args.name n es n row (slice_get_within es n row s)
    (ap (λ e. name_cmp c.args.name e.0) (get_or_from_slice_get es n row row s)
    ∙ less_left (name_cmp c.args.name row.0) (c.first_from-place.ensures.after row s) (c.is_at.ensures.other c.if-is_at.false row s))))
