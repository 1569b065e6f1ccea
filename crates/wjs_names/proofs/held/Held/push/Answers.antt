use Rattle.std.proofs.Common.{◌≡◌, length, sym, subst, arith}
use Rattle.wjs_names.specs.Starts.{IsOpen, IsStarts}
use Rattle.wjs_names.proofs.Basics.{by_result}
use Rattle.wjs_names.proofs.Starting.{starts_push, starts_open}
use Rattle.wjs_names.proofs.held.Held.push.Goals as goal

pub ready_for_row-requires : goal.ready_for_row-requires
ready_for_row-requires g c = rw c.as_slice.ensures.value c.self.invariant

-- refused, and all is as it was
pub invariant_of-self : goal.invariant_of-self
invariant_of-self g c = subst (IsStarts c.self.inside.list.items) (sym c.in_err-ready_for_row.ensures.err) c.self.invariant

pub invariant_of-self-2 : goal.invariant_of-self-2
invariant_of-self-2 g c =
    let xs = c.self.inside.list.items in
    let more = c.append.new.list.items in
    let place = c.len-place.result in
    let starts = c.ready_for_row.new.starts.entries in
    let at_end : place ≡ length xs = omega (arith, c.len-place.ensures, c.self.inside.list.ok.0) in
    let open_here : IsOpen xs place starts = subst (λ ds. IsOpen ds place starts) c.as_slice.ensures.value c.in_ok-ready_for_row.ensures.ok in
    by_result {P = IsStarts more starts} c.append.result
    (λ e. subst (λ ds. IsStarts ds starts) (sym e) (starts_push xs place c.args.value starts at_end open_here))
    (λ e. subst (λ ds. IsStarts ds starts) (sym e) (starts_open xs place starts at_end open_here))
    c.append.ensures.ok c.append.ensures.err
