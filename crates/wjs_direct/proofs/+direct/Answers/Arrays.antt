-- What holds of the functions of `arrays`.
use Rattle.std.proofs.Common.{◌≡◌, ◌+◌, rules, [], ◌∷◌, Some, length, refl, ap, ◌∙◌, subst, sym, ℕ}
use Rattle.std.specs.Prelude.{Ok, Err, slice_get}
use Rattle.wjs_base.specs.declared.values.Value.{Value}
use Rattle.wjs_base.specs.declared.values.Value.TheVariants as values
use Rattle.wjs_model.specs.Soundness.{Base, HasValue, IsThere, StandsHere, HasObject}
use Rattle.wjs_model.specs.declared.frame.Held.TheVariants as holds
use Rattle.wjs_model.specs.declared.point.Point.TheVariants as points
use Rattle.wjs_model.specs.declared.point.ExprPoint.TheVariants as expr
use Rattle.wjs_frames.specs.Parts.{node_among}
use Rattle.wjs_frames.proofs.Parting.{stands_later}
use Rattle.wjs_heap_steps.proofs.Later.{later_same, later_twice}
use Rattle.wjs_literals.specs.Parts.{items_in}
use Rattle.wjs_stopping.specs.Evaluating.{Leaves}
use Rattle.wjs_direct_lines.specs.Deeds.{line_here}
use Rattle.wjs_direct_lines.proofs.Parts.{broke_found, broke_later, later_then}
use Rattle.wjs_direct.specs.Literals.{items_left}
use Rattle.wjs_direct.proofs.ArrayLiterals.{array_made, item_broke, item_given, item_there, items_done, items_passed, last_broke, last_given, last_skipped, length_given}
use Rattle.wjs_direct.proofs.+direct.Goals as goal

pub array-run_items-requires : goal.arrays::array-run_items-requires
array-run_items-requires g t c =
    let m = g.S.WorldStore.meaning in
    let old = c.args.config.now in
    let f = c.args.frame.now in
    let mid = c.create_array.new.config in
    let l = c.in_ok-array.ensures.later in
    let base : Base m mid = l.base in
    let there : IsThere m mid f = l.frames f c.requires.there in
    let node : StandsHere mid f c.args.node = stands_later m old f mid c.args.node l c.requires.node in
    let empty : c.args.stops.now.waits ≡ [] = c.requires.empty in
    let array : HasObject mid c.in_ok-array.array = c.in_ok-array.ensures.found in
    search (rules, base, there, node, empty, array)

pub array-returns-clause-later : goal.arrays::array-returns-clause-later
array-returns-clause-later g t c =
    later_then g.S.WorldStore.meaning c.args.config.now c.create_array.new.config c.run_items.new.config c.run_items.result c.in_ok-array.ensures.later c.run_items.ensures.later

pub array-returns-clause-does : goal.arrays::array-returns-clause-does
array-returns-clause-does g t c =
    let k = c.run_items.new.stops in
    array_made g.S.WorldStore.meaning c.args.config.now c.create_array.new.config c.run_items.new.config c.args.frame.now c.args.node c.in_ok-array.array c.run_items.result k.waits k.top
    c.requires.is c.in_ok-array.ensures.does c.in_ok-array.ensures.later c.run_items.ensures.does

-- one after the other

pub run_items-loop-turn-init : goal.arrays::run_items-loop-turn-init
run_items-loop-turn-init g t c = record {
  left = record { by = λ go later r h. h };
  later = later_same g.S.WorldStore.meaning c.args.config.now c.requires.base;
  empty = c.requires.empty;
}

pub run_items-value-requires : goal.arrays::run_items-value-requires
run_items-value-requires g t c =
    let m = g.S.WorldStore.meaning in
    let old = c.args.config.now in
    let f = c.args.frame.now in
    let mid = c.loop-turn.config in
    let l = c.loop-turn.invariant.later in
    let base : Base m mid = l.base in
    let there : IsThere m mid f = l.frames f c.requires.there in
    let node : StandsHere mid f c.in-Item.item =
    item_there m mid f c.args.node c.in-Item.at c.in-Item.item there (stands_later m old f mid c.args.node l c.requires.node) c.in-Item.ensures.0 in
    let empty : c.loop-turn.stops.waits ≡ [] = c.loop-turn.invariant.empty in
    search (rules, base, there, node, empty)

pub run_items-write-requires : goal.arrays::run_items-write-requires
run_items-write-requires g t c =
    let m = g.S.WorldStore.meaning in
    let f = c.args.frame.now in
    let had = c.value.new.config in
    let inv = c.loop-turn.invariant in
    let l = c.in-Ok.ensures.later in
    let base : Base m had = l.base in
    let there : IsThere m had f = l.frames f (inv.later.frames f c.requires.there) in
    let object : HasObject had c.args.array = l.objects c.args.array (inv.later.objects c.args.array c.requires.array) in
    let value : HasValue had c.in-Ok.given = c.in-Ok.ensures.found.0 in
    search (rules, base, there, object, value)

pub run_items-loop-turn-preserved : goal.arrays::run_items-loop-turn-preserved
run_items-loop-turn-preserved g t c =
    let m = g.S.WorldStore.meaning in
    let old = c.args.config.now in
    let mid = c.loop-turn.config in
    let had = c.value.new.config in
    let new = c.write.new.config in
    let f = c.args.frame.now in
    let o = c.args.array in
    let inv = c.loop-turn.invariant in
    let s = c.value.new.stops in
    let i = c.in_ok-number-in-Item.number in
    let wrote = c.in_ok-write-in-Ok.ensures in
    let later = later_twice m mid had new c.in-Ok.ensures.later wrote.later in
    let left : ℕ → Type 0 = λ k. Leaves m (line_here m old f (items_left old f c.args.node o 0)) (line_here m old f (items_left old f c.args.node o k)) old new in
    record {
      left = subst left (sym c.in_ok-next-in-Item.ensures)
          (items_passed m old f c.args.node o mid inv.later c.loop-turn.from inv.left new (i + 1) later
          (item_given m mid f c.args.node o c.loop-turn.from c.in-Item.at i c.in-Item.item c.in_ok-number-in-Item.ensures c.in-Item.ensures.0 c.in-Item.ensures.1 c.in-Ok.given s.waits s.top had new c.in-Ok.ensures.does wrote.does));
      later = later_twice m old mid new inv.later later;
      empty = c.in-Ok.ensures.found.1;
    }

-- the value of one broke off

pub run_items-returns-in-Err-clause-later : goal.arrays::run_items-returns-in-Err-clause-later
run_items-returns-in-Err-clause-later g t c =
    let m = g.S.WorldStore.meaning in
    let s = c.value.new.stops in
    let k = c.waits_holding.new.stops in
    later_then m {A = Value} c.args.config.now c.loop-turn.config c.waits_holding.new.config (Err c.waits_holding.result) c.loop-turn.invariant.later
    (broke_later m Value Value c.loop-turn.config c.value.new.config c.waits_holding.new.config c.args.frame.now c.args.node (holds.Value (values.Object c.args.array) ∷ []) (points.Expr (expr.ArrayItem c.in_ok-number-in-Item.number)) c.in-Err.end s.waits s.top c.waits_holding.result k.waits k.top
    c.waits_holding.ensures.same c.waits_holding.ensures.waits c.in-Err.ensures.later)

pub run_items-returns-in-Err-clause-found : goal.arrays::run_items-returns-in-Err-clause-found
run_items-returns-in-Err-clause-found g t c =
    let m = g.S.WorldStore.meaning in
    let f = c.args.frame.now in
    let mid = c.loop-turn.config in
    let l = c.loop-turn.invariant.later in
    let s = c.value.new.stops in
    let k = c.waits_holding.new.stops in
    broke_found m Value Value mid c.value.new.config c.waits_holding.new.config f c.args.node (holds.Value (values.Object c.args.array) ∷ []) (points.Expr (expr.ArrayItem c.in_ok-number-in-Item.number)) c.in-Err.end s.waits s.top c.waits_holding.result k.waits k.top
    c.waits_holding.ensures.same c.waits_holding.ensures.waits c.in-Err.ensures.later (l.frames f c.requires.there) (stands_later m c.args.config.now f mid c.args.node l c.requires.node) (l.objects c.args.array c.requires.array, tt) tt c.in-Err.ensures.found

pub run_items-returns-in-Err-clause-does : goal.arrays::run_items-returns-in-Err-clause-does
run_items-returns-in-Err-clause-does g t c =
    let m = g.S.WorldStore.meaning in
    let f = c.args.frame.now in
    let o = c.args.array in
    let mid = c.loop-turn.config in
    let inv = c.loop-turn.invariant in
    let s = c.value.new.stops in
    let k = c.waits_holding.new.stops in
    items_done m c.args.config.now f c.args.node o mid inv.later c.loop-turn.from inv.left c.waits_holding.new.config (Err c.waits_holding.result) k.waits k.top
    (item_broke m mid f c.args.node o c.loop-turn.from c.in-Item.at c.in_ok-number-in-Item.number c.in-Item.item c.in_ok-number-in-Item.ensures c.in-Item.ensures.0 c.in-Item.ensures.1
    c.in-Err.end s.waits s.top c.waits_holding.result k.waits k.top c.value.new.config c.waits_holding.new.config c.waits_holding.ensures.same c.in-Err.ensures.later c.in-Err.ensures.does c.waits_holding.ensures.waits)

-- the last of all

pub run_items-last_item-requires : goal.arrays::run_items-last_item-requires
run_items-last_item-requires g t c =
    let m = g.S.WorldStore.meaning in
    let f = c.args.frame.now in
    let mid = c.loop-turn.config in
    let l = c.loop-turn.invariant.later in
    let base : Base m mid = l.base in
    let there : IsThere m mid f = l.frames f c.requires.there in
    let node : StandsHere mid f c.args.node = stands_later m c.args.config.now f mid c.args.node l c.requires.node in
    let empty : c.loop-turn.stops.waits ≡ [] = c.loop-turn.invariant.empty in
    let array : HasObject mid c.args.array = l.objects c.args.array c.requires.array in
    let item : slice_get (items_in (node_among mid.units.items f.tree c.args.node)) c.in-Last.at ≡ Some (Some c.in-Last.item) = c.in-Last.ensures.0 in
    let last : length (items_in (node_among mid.units.items f.tree c.args.node)) ≡ c.in-Last.at + 1 = c.in-Last.ensures.1 in
    search (rules, base, there, node, empty, array, item, last)

pub run_items-returns-in-Last-clause-later : goal.arrays::run_items-returns-in-Last-clause-later
run_items-returns-in-Last-clause-later g t c =
    later_then g.S.WorldStore.meaning c.args.config.now c.loop-turn.config c.last_item.new.config c.last_item.result c.loop-turn.invariant.later c.last_item.ensures.later

pub run_items-returns-in-Last-clause-does : goal.arrays::run_items-returns-in-Last-clause-does
run_items-returns-in-Last-clause-does g t c =
    let m = g.S.WorldStore.meaning in
    let f = c.args.frame.now in
    let o = c.args.array in
    let mid = c.loop-turn.config in
    let inv = c.loop-turn.invariant in
    let k = c.last_item.new.stops in
    items_done m c.args.config.now f c.args.node o mid inv.later c.loop-turn.from inv.left c.last_item.new.config c.last_item.result k.waits k.top
    (last_skipped m mid f c.args.node o c.loop-turn.from c.in-Last.at c.in-Last.at c.in-Last.item refl c.in-Last.ensures.0 c.in-Last.ensures.2 c.last_item.result k.waits k.top c.last_item.new.config c.last_item.ensures.does)

-- none is left

pub run_items-write_length-requires : goal.arrays::run_items-write_length-requires
run_items-write_length-requires g t c =
    let l = c.loop-turn.invariant.later in
    record { base = l.base; there = l.frames c.args.frame.now c.requires.there; array = l.objects c.args.array c.requires.array }

pub run_items-returns-in-End-clause-later : goal.arrays::run_items-returns-in-End-clause-later
run_items-returns-in-End-clause-later g t c =
    later_twice g.S.WorldStore.meaning c.args.config.now c.loop-turn.config c.write_length.new.config c.loop-turn.invariant.later c.in_ok-write_length-in-End.ensures.later

pub run_items-returns-in-End-clause-found : goal.arrays::run_items-returns-in-End-clause-found
run_items-returns-in-End-clause-found g t c =
    (c.in_ok-write_length-in-End.ensures.later.objects c.args.array (c.loop-turn.invariant.later.objects c.args.array c.requires.array), c.loop-turn.invariant.empty)

pub run_items-returns-in-End-clause-does : goal.arrays::run_items-returns-in-End-clause-does
run_items-returns-in-End-clause-does g t c =
    let m = g.S.WorldStore.meaning in
    let f = c.args.frame.now in
    let o = c.args.array in
    let mid = c.loop-turn.config in
    let inv = c.loop-turn.invariant in
    let k = c.loop-turn.stops in
    let new = c.write_length.new.config in
    items_done m c.args.config.now f c.args.node o mid inv.later c.loop-turn.from inv.left new (Ok (values.Object o)) k.waits k.top
    (length_given m mid f c.args.node o c.loop-turn.from c.in-End.length k.waits k.top new c.in-End.ensures c.in_ok-write_length-in-End.ensures.does)

-- the last item

pub last_item-value-requires : goal.arrays::last_item-value-requires
last_item-value-requires g t c =
    let m = g.S.WorldStore.meaning in
    let old = c.args.config.now in
    let f = c.args.frame.now in
    let node : StandsHere old f c.args.item = item_there m old f c.args.node c.args.at c.args.item c.requires.there c.requires.node c.requires.item in
    search (rules, node)

pub last_item-write_last-requires : goal.arrays::last_item-write_last-requires
last_item-write_last-requires g t c =
    let l = c.in-Ok.ensures.later in
    record { base = l.base; there = l.frames c.args.frame.now c.requires.there; array = l.objects c.args.array c.requires.array; value = c.in-Ok.ensures.found.0 }

pub last_item-returns-in_ok-write_last-in-Ok-clause-later : goal.arrays::last_item-returns-in_ok-write_last-in-Ok-clause-later
last_item-returns-in_ok-write_last-in-Ok-clause-later g t c =
    later_twice g.S.WorldStore.meaning c.args.config.now c.value.new.config c.write_last.new.config c.in-Ok.ensures.later c.in_ok-write_last-in-Ok.ensures.later

pub last_item-returns-in_ok-write_last-in-Ok-clause-found : goal.arrays::last_item-returns-in_ok-write_last-in-Ok-clause-found
last_item-returns-in_ok-write_last-in-Ok-clause-found g t c =
    (c.in_ok-write_last-in-Ok.ensures.later.objects c.args.array (c.in-Ok.ensures.later.objects c.args.array c.requires.array), c.in-Ok.ensures.found.1)

pub last_item-returns-in_ok-write_last-in-Ok-clause-does : goal.arrays::last_item-returns-in_ok-write_last-in-Ok-clause-does
last_item-returns-in_ok-write_last-in-Ok-clause-does g t c =
    let m = g.S.WorldStore.meaning in
    let old = c.args.config.now in
    let f = c.args.frame.now in
    let s = c.value.new.stops in
    let i = c.in_ok-number.number in
    let n = node_among old.units.items f.tree c.args.node in
    last_given m old f c.args.node c.args.array c.args.at i c.args.item c.in-Ok.given s.waits s.top s.waits s.top c.value.new.config c.write_last.new.config c.in_ok-number.ensures c.requires.item
    (c.requires.last ∙ ap (λ (k : ℕ). k + 1) (sym c.in_ok-number.ensures)) c.in-Ok.ensures.does c.in_ok-write_last-in-Ok.ensures.does

pub last_item-returns-in-Err-clause-later : goal.arrays::last_item-returns-in-Err-clause-later
last_item-returns-in-Err-clause-later g t c =
    let s = c.value.new.stops in
    let k = c.waits_holding.new.stops in
    broke_later g.S.WorldStore.meaning Value Value c.args.config.now c.value.new.config c.waits_holding.new.config c.args.frame.now c.args.node (holds.Value (values.Object c.args.array) ∷ []) (points.Expr (expr.ArrayItem c.in_ok-number.number)) c.in-Err.end s.waits s.top c.waits_holding.result k.waits k.top
    c.waits_holding.ensures.same c.waits_holding.ensures.waits c.in-Err.ensures.later

pub last_item-returns-in-Err-clause-found : goal.arrays::last_item-returns-in-Err-clause-found
last_item-returns-in-Err-clause-found g t c =
    let s = c.value.new.stops in
    let k = c.waits_holding.new.stops in
    broke_found g.S.WorldStore.meaning Value Value c.args.config.now c.value.new.config c.waits_holding.new.config c.args.frame.now c.args.node (holds.Value (values.Object c.args.array) ∷ []) (points.Expr (expr.ArrayItem c.in_ok-number.number)) c.in-Err.end s.waits s.top c.waits_holding.result k.waits k.top
    c.waits_holding.ensures.same c.waits_holding.ensures.waits c.in-Err.ensures.later c.requires.there c.requires.node (c.requires.array, tt) tt c.in-Err.ensures.found

pub last_item-returns-in-Err-clause-does : goal.arrays::last_item-returns-in-Err-clause-does
last_item-returns-in-Err-clause-does g t c =
    let s = c.value.new.stops in
    let k = c.waits_holding.new.stops in
    last_broke g.S.WorldStore.meaning c.args.config.now c.args.frame.now c.args.node c.args.array c.args.at c.in_ok-number.number c.args.item c.in-Err.end s.waits s.top c.waits_holding.result k.waits k.top c.value.new.config c.waits_holding.new.config
    c.in_ok-number.ensures c.requires.item c.waits_holding.ensures.same c.in-Err.ensures.later c.in-Err.ensures.does c.waits_holding.ensures.waits
