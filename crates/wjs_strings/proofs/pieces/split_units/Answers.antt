use Rattle.std.proofs.Common.{◌+◌, List, sym, subst}
use Rattle.wjs_strings.specs.declared.pieces.Piece.{Piece}
use Rattle.wjs_strings.proofs.Units.{Unitwise, unitwise_more, unitwise_all, unitwise_full}
use Rattle.wjs_strings.proofs.pieces.split_units.Goals as goal
use Rattle.wjs_strings.proofs.pieces.split_units.Goals.{then-units-test+else-has_room, else-units-test}

pub units-preserved : goal.units-preserved
units-preserved c =
    let t = c.args.text.now in
    subst (λ (l : List Piece). Unitwise t c.args.limit l (c.units.start + 1)) (sym c.in_ok-add_piece.ensures)
    (unitwise_more t c.args.limit c.units.pieces.items c.units.start c.units.invariant c.units-test.true (sym c.if-has_room.ensures))

pub returns : goal.returns
returns c = elim c.units-test.branch [
  | then-units-test+else-has_room w ↦ unitwise_full c.args.text.now c.args.limit c.units.pieces.items c.units.start c.units.invariant (sym w.if-has_room.ensures)
  | else-units-test w ↦ unitwise_all c.args.text.now c.args.limit c.units.pieces.items c.units.start c.units.invariant w.units-test.false
]
