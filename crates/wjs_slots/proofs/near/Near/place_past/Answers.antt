use Rattle.std.proofs.Common.{◌≡◌, ◌∙◌, nat_le, sym, ap, arith, length}
use Rattle.std.specs.Ordering.{is_lt}
use Rattle.wjs_slots.proofs.Nexts.{past_placed, past_before, past_all}
use Rattle.wjs_slots.proofs.Values.{placed_is}
use Rattle.wjs_slots.proofs.near.Near.place_past.Goals as goal

pub overflow_add-result : goal.overflow_add-result
overflow_add-result g c =
    let s = c.args.self.now in
    let l = (placed_is s.owner s.first (length s.objects.items) c.args.object c.in-Some.place (sym c.in-Some.ensures)).below in
    omega (arith, l)

pub returns-in-Some : goal.returns-in-Some
returns-in-Some g c = λ i l.
    let s = c.args.self.now in
    past_placed s.owner s.first (length s.objects.items) c.args.object c.in-Some.place i (sym c.in-Some.ensures)

pub returns-then-is_lt : goal.returns-then-is_lt
returns-then-is_lt g c = λ i l.
    let s = c.args.self.now in
    past_before s.owner s.first (length s.objects.items) c.args.object i (sym (ap is_lt c.cmp.ensures) ∙ sym c.is_lt.ensures ∙ c.if-is_lt.true)

pub returns-else-is_lt : goal.returns-else-is_lt
returns-else-is_lt g c = λ i l.
    let s = c.args.self.now in
    let count : c.len.result ≡ length s.objects.items = omega (arith, c.len.ensures, s.objects.ok.0) in
    past_all s.owner s.first (length s.objects.items) c.args.object i l (sym c.in-None.ensures) (sym (ap is_lt c.cmp.ensures) ∙ sym c.is_lt.ensures ∙ c.if-is_lt.false)
    ∙ ap (λ n. nat_le n i) (sym count)
