use Rattle.std.proofs.Common.{◌≡◌, ◌+◌, ◌≤◌, true, [], length, sym, subst, rules, List}
use Rattle.wjs_strings.specs.declared.pieces.Piece.{Piece}
use Rattle.wjs_strings.specs.Pieces.{texts_of, up_to, has_room}
use Rattle.wjs_meaning.specs.NativesOfTexts.{parts_from}
use Rattle.wjs_strings.proofs.Parting.{Parted, parted_last, parted_more, parts_fall}
use Rattle.wjs_strings.proofs.pieces.split_between.Goals as goal

pub returns-in_default : goal.returns-in_default
returns-in_default c =
    let s = c.args.separator.now in
    let t = c.args.text.now in
    let room : has_room c.args.limit (length c.pieces.pieces.items) ≡ true = search rules in
    subst (λ (l : List Piece). texts_of t l ≡ up_to c.args.limit (parts_from s 0 [] t)) (sym c.in_ok-add_piece.ensures)
    (parted_last s t c.args.limit c.pieces.pieces.items c.pieces.start c.pieces.invariant room c.in_default.ensures)

pub overflow_add-start : goal.overflow_add-start
overflow_add-start c =
    let fall = parts_fall c.args.separator.now c.args.text.now c.pieces.start c.in-Some.end c.requires c.pieces.invariant.inside c.in-Some.ensures in
    let below : c.in-Some.end + length c.args.separator.now ≤ length c.args.text.now = fall.0 in
    search rules

pub pieces-smaller : goal.pieces-smaller
pieces-smaller c = (parts_fall c.args.separator.now c.args.text.now c.pieces.start c.in-Some.end c.requires c.pieces.invariant.inside c.in-Some.ensures).1

pub pieces-preserved : goal.pieces-preserved
pieces-preserved c =
    let s = c.args.separator.now in
    let t = c.args.text.now in
    let room : has_room c.args.limit (length c.pieces.pieces.items) ≡ true = search rules in
    subst (λ (l : List Piece). Parted s t c.args.limit l (c.in-Some.end + length s)) (sym c.in_ok-add_piece-2.ensures)
    (parted_more s t c.args.limit c.pieces.pieces.items c.pieces.start c.in-Some.end c.requires c.pieces.invariant room c.in-Some.ensures)
