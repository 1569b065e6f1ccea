use Rattle.std.proofs.Common.{◌∙◌, ap}
use Rattle.wjs_names.proofs.Starting.{first_row, first_nowhere, first_behind, value_row, none_of_row}
use Rattle.wjs_names.proofs.held.Held.first_from.Goals as goal

pub returns-in-Some : goal.returns-in-Some
returns-in-Some g c =
    let xs = c.self.inside.list.items in
    let e = c.in-Some.ensures ∙ ap (λ ds. value_row c.args.start ds) c.as_slice.ensures.value in
    rw (← c.self.view_is) (first_row xs c.self.inside.starts.entries c.self.invariant c.args.start c.in-Some.row e)

pub returns-in-None-next_after : goal.returns-in-None-next_after
returns-in-None-next_after g c =
    let xs = c.self.inside.list.items in
    let e = c.in-None.ensures ∙ ap (λ ds. value_row c.args.start ds) c.as_slice.ensures.value in
    rw (← c.self.view_is) (first_nowhere xs c.self.inside.starts.entries c.self.invariant c.args.start (none_of_row xs c.args.start e) c.in-None-next_after.ensures)

pub returns-in-Some-next_after : goal.returns-in-Some-next_after
returns-in-Some-next_after g c =
    let xs = c.self.inside.list.items in
    let e = c.in-None.ensures ∙ ap (λ ds. value_row c.args.start ds) c.as_slice.ensures.value in
    let d = c.row_at-in-Some-next_after.ensures ∙ ap (λ ds. value_row c.in-Some-next_after.place ds) c.as_slice-in-Some-next_after.ensures.value in
    rw (d, ← c.self.view_is) (first_behind xs c.self.inside.starts.entries c.self.invariant c.args.start (none_of_row xs c.args.start e) (c.in-Some-next_after.place, c.in-Some-next_after.field-0-1) c.in-Some-next_after.ensures)
