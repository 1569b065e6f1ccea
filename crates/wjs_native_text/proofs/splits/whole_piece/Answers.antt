use Rattle.std.proofs.Common.{◌≡◌, List, [], ◌∷◌, ◌++◌, length, ap, ◌∙◌}
use Rattle.wjs_by_content.specs.Values.{String}
use Rattle.wjs_native_text.proofs.Limits.{one_room, no_room, whole_part}
use Rattle.wjs_strings.specs.declared.pieces.Piece.{Piece}
use Rattle.wjs_strings.specs.Pieces.{texts_of}
use Rattle.wjs_native_text.proofs.splits.whole_piece.Goals as goal

pub returns-then-not-allows_one : goal.returns-then-not-allows_one
returns-then-not-allows_one c = ap (texts_of c.args.text.now) c.new-pieces.ensures.items ∙ no_room c.args.limit (String c.args.text.now) c.if-not-allows_one.ensures

pub returns : goal.returns
returns c =
    let piece : Piece = record { start = 0; end = length c.args.text.now } in
    let now : c.push.new.self.items ≡ piece ∷ [] = c.in_ok-push.ensures.items ∙ ap (λ (l : List Piece). l ++ piece ∷ []) c.new-pieces.ensures.items in
    ap (texts_of c.args.text.now) now ∙ ap (λ v. v ∷ []) (whole_part c.args.text.now) ∙ one_room c.args.limit (String c.args.text.now) c.if-not-allows_one.ensures
