use Rattle.std.proofs.Common.{Some, ap, sym, subst, arith}
use Rattle.wjs_base.specs.Order.{slot_cmp}
use Rattle.wjs_slots.specs.Least.{IsLeast, is_past}
use Rattle.wjs_slots.specs.Near.{near_value}
use Rattle.std.proofs.lemmas.Option.{slice_get_within}
use Rattle.wjs_slots.proofs.Nexts.{past_none, past_some}
use Rattle.wjs_slots.proofs.near.Near.next_past.Goals as goal

pub overflow_add-next : goal.overflow_add-next
overflow_add-next g c = let w = c.in-Some.ensures.2 in let l = slice_get_within c.args.self.now.objects.items c.in-Some.place w.0 w.1 in omega (arith, l, c.requires)

pub returns-in-None : goal.returns-in-None
returns-in-None g c = let s = c.args.self.now in past_none s.owner s.first s.objects.items c.args.object c.place_past.result c.place_past.ensures c.in-None.ensures

pub returns-in-Some : goal.returns-in-Some
returns-in-Some g c =
    let s = c.args.self.now in
    subst (IsLeast slot_cmp (near_value s.owner s.first s.objects.items) (is_past c.args.object)) (ap Some (sym c.row_at.ensures))
    (past_some s.owner s.first s.objects.items c.args.object c.place_past.result c.place_past.ensures c.in-Some.place c.in-Some.row c.in-Some.ensures)
