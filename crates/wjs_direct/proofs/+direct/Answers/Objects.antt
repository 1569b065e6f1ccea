-- What holds of the functions of `objects`.
use Rattle.std.proofs.Common.{◌≡◌, rules, [], ◌∷◌, subst, sym, ℕ}
use Rattle.std.specs.Prelude.{Err}
use Rattle.wjs_base.specs.declared.values.Value.{Value}
use Rattle.wjs_base.specs.declared.values.Value.TheVariants as values
use Rattle.wjs_model.specs.Soundness.{Base, HasObject, IsThere, StandsHere}
use Rattle.wjs_model.specs.declared.frame.Held.TheVariants as holds
use Rattle.wjs_model.specs.declared.point.Point.TheVariants as points
use Rattle.wjs_model.specs.declared.point.ExprPoint.TheVariants as expr
use Rattle.wjs_frames.proofs.Parting.{stands_later}
use Rattle.wjs_heap_steps.proofs.Later.{later_same, later_twice}
use Rattle.wjs_stopping.specs.Evaluating.{Leaves}
use Rattle.wjs_direct_lines.specs.Deeds.{line_here}
use Rattle.wjs_direct_lines.proofs.Parts.{broke_found, broke_later, later_then}
use Rattle.wjs_direct.specs.Literals.{pairs_left}
use Rattle.wjs_direct.proofs.ObjectLiterals.{key_there, object_made, properties_done, property_broke, property_given, value_stands}
use Rattle.wjs_direct.proofs.+direct.Goals as goal

pub object-run_properties-requires : goal.objects::object-run_properties-requires
object-run_properties-requires g t c =
    let m = g.S.WorldStore.meaning in
    let old = c.args.config.now in
    let f = c.args.frame.now in
    let mid = c.create_plain.new.config in
    let l = c.in_ok-object.ensures.later in
    let base : Base m mid = l.base in
    let there : IsThere m mid f = l.frames f c.requires.there in
    let node : StandsHere mid f c.args.node = stands_later m old f mid c.args.node l c.requires.node in
    let empty : c.args.stops.now.waits ≡ [] = c.requires.empty in
    let object : HasObject mid c.in_ok-object.object = c.in_ok-object.ensures.found in
    search (rules, base, there, node, empty, object)

pub object-returns-clause-later : goal.objects::object-returns-clause-later
object-returns-clause-later g t c =
    later_then g.S.WorldStore.meaning c.args.config.now c.create_plain.new.config c.run_properties.new.config c.run_properties.result c.in_ok-object.ensures.later c.run_properties.ensures.later

pub object-returns-clause-does : goal.objects::object-returns-clause-does
object-returns-clause-does g t c =
    let k = c.run_properties.new.stops in
    object_made g.S.WorldStore.meaning c.args.config.now c.create_plain.new.config c.run_properties.new.config c.args.frame.now c.args.node c.in_ok-object.object c.run_properties.result k.waits k.top
    c.requires.is c.in_ok-object.ensures.does c.in_ok-object.ensures.later c.run_properties.ensures.does

-- one after the other

pub run_properties-loop-next-init : goal.objects::run_properties-loop-next-init
run_properties-loop-next-init g t c = record {
  left = record { by = λ go later r h. h };
  later = later_same g.S.WorldStore.meaning c.args.config.now c.requires.base;
  empty = c.requires.empty;
}

pub run_properties-value-requires : goal.objects::run_properties-value-requires
run_properties-value-requires g t c =
    let m = g.S.WorldStore.meaning in
    let old = c.args.config.now in
    let f = c.args.frame.now in
    let mid = c.loop-next.config in
    let l = c.loop-next.invariant.later in
    let base : Base m mid = l.base in
    let there : IsThere m mid f = l.frames f c.requires.there in
    let node : StandsHere mid f c.in-Some.next.value =
    value_stands m mid f c.args.node c.loop-next.at c.in-Some.next there (stands_later m old f mid c.args.node l c.requires.node) (sym c.in-Some.ensures) in
    let empty : c.loop-next.stops.waits ≡ [] = c.loop-next.invariant.empty in
    search (rules, base, there, node, empty)

pub run_properties-write_property-requires : goal.objects::run_properties-write_property-requires
run_properties-write_property-requires g t c =
    let m = g.S.WorldStore.meaning in
    let f = c.args.frame.now in
    let mid = c.loop-next.config in
    let had = c.value.new.config in
    let inv = c.loop-next.invariant in
    let l = c.in-Ok.ensures.later in
    record {
      base = l.base;
      there = l.frames f (inv.later.frames f c.requires.there);
      object = l.objects c.args.object (inv.later.objects c.args.object c.requires.object);
      key = key_there m mid had f c.args.node c.loop-next.at c.in-Some.next l (sym c.in-Some.ensures);
      value = c.in-Ok.ensures.found.0;
    }

pub run_properties-loop-next-preserved : goal.objects::run_properties-loop-next-preserved
run_properties-loop-next-preserved g t c =
    let m = g.S.WorldStore.meaning in
    let old = c.args.config.now in
    let mid = c.loop-next.config in
    let had = c.value.new.config in
    let new = c.write_property.new.config in
    let f = c.args.frame.now in
    let o = c.args.object in
    let inv = c.loop-next.invariant in
    let s = c.value.new.stops in
    let wrote = c.in_ok-write_property-in-Ok.ensures in
    let left : ℕ → Type 0 = λ k. Leaves m (line_here m old f (pairs_left old f c.args.node o 0)) (line_here m old f (pairs_left old f c.args.node o k)) old new in
    record {
      left = subst left (sym c.in_ok-at.ensures)
          (property_given m old f c.args.node o mid inv.later c.loop-next.at inv.left c.in-Some.next (sym c.in-Some.ensures) c.in-Ok.given s.waits s.top had new c.in-Ok.ensures.does wrote.does);
      later = later_twice m old mid new inv.later (later_twice m mid had new c.in-Ok.ensures.later wrote.later);
      empty = c.in-Ok.ensures.found.1;
    }

-- the value of one broke off

pub run_properties-returns-in-Err-clause-later : goal.objects::run_properties-returns-in-Err-clause-later
run_properties-returns-in-Err-clause-later g t c =
    let m = g.S.WorldStore.meaning in
    let s = c.value.new.stops in
    let k = c.waits_holding.new.stops in
    later_then m {A = Value} c.args.config.now c.loop-next.config c.waits_holding.new.config (Err c.waits_holding.result) c.loop-next.invariant.later
    (broke_later m Value Value c.loop-next.config c.value.new.config c.waits_holding.new.config c.args.frame.now c.args.node (holds.Value (values.Object c.args.object) ∷ []) (points.Expr (expr.PairValue c.loop-next.at)) c.in-Err.end s.waits s.top c.waits_holding.result k.waits k.top
    c.waits_holding.ensures.same c.waits_holding.ensures.waits c.in-Err.ensures.later)

pub run_properties-returns-in-Err-clause-found : goal.objects::run_properties-returns-in-Err-clause-found
run_properties-returns-in-Err-clause-found g t c =
    let m = g.S.WorldStore.meaning in
    let f = c.args.frame.now in
    let mid = c.loop-next.config in
    let l = c.loop-next.invariant.later in
    let s = c.value.new.stops in
    let k = c.waits_holding.new.stops in
    broke_found m Value Value mid c.value.new.config c.waits_holding.new.config f c.args.node (holds.Value (values.Object c.args.object) ∷ []) (points.Expr (expr.PairValue c.loop-next.at)) c.in-Err.end s.waits s.top c.waits_holding.result k.waits k.top
    c.waits_holding.ensures.same c.waits_holding.ensures.waits c.in-Err.ensures.later (l.frames f c.requires.there) (stands_later m c.args.config.now f mid c.args.node l c.requires.node) (l.objects c.args.object c.requires.object, tt) tt c.in-Err.ensures.found

pub run_properties-returns-in-Err-clause-does : goal.objects::run_properties-returns-in-Err-clause-does
run_properties-returns-in-Err-clause-does g t c =
    let inv = c.loop-next.invariant in
    let s = c.value.new.stops in
    let k = c.waits_holding.new.stops in
    property_broke g.S.WorldStore.meaning c.args.config.now c.args.frame.now c.args.node c.args.object c.loop-next.config inv.later c.loop-next.at inv.left c.in-Some.next (sym c.in-Some.ensures)
    c.in-Err.end s.waits s.top c.waits_holding.result k.waits k.top c.value.new.config c.waits_holding.new.config c.waits_holding.ensures.same c.in-Err.ensures.later c.in-Err.ensures.does c.waits_holding.ensures.waits

-- none is left

pub run_properties-returns-clause-found : goal.objects::run_properties-returns-clause-found
run_properties-returns-clause-found g t c = (c.loop-next.invariant.later.objects c.args.object c.requires.object, c.loop-next.invariant.empty)

pub run_properties-returns-clause-does : goal.objects::run_properties-returns-clause-does
run_properties-returns-clause-does g t c =
    let inv = c.loop-next.invariant in
    properties_done g.S.WorldStore.meaning c.args.config.now c.args.frame.now c.args.node c.args.object c.loop-next.config inv.later c.loop-next.at inv.left c.in_default.ensures
