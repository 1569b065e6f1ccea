use Rattle.std.proofs.Common.{◌≡◌, List, ℕ, Option, Some, subst, sym}
use Rattle.wjs_lexer.specs.declared.cursor.Cursor.{Cursor}
use Rattle.wjs_lexer.specs.declared.pieces.Scanned.{Scanned}
use Rattle.wjs_lexer.specs.Cursors.{piece_of, ReadsPiece, Found}
use Rattle.wjs_lexer.specs.Steps.{Fitting}
use Rattle.wjs_lexer.proofs.Sizes.{fitting_piece}
use Rattle.wjs_lexer.proofs.lexing.take_piece.Goals as goal

found : (old new : Cursor) (units : List ℕ) (o : Option Scanned) (p : Scanned) → o ≡ Some p → ReadsPiece old new units o → Found old new (piece_of p units)
found old new units o p e h = subst (λ (x : Option Scanned). ReadsPiece old new units x) e h

pub token_of-requires : goal.token_of-requires
token_of-requires c =
    let f = found c.args.cursor.now c.piece.new.self c.piece.new.units.items c.in-Ok-Some.field-0 c.in-Ok-Some.scanned c.in-Ok-Some.field-0-is c.in-Ok-Some.ensures in
    subst (λ (us : List ℕ). Fitting (piece_of c.in-Ok-Some.scanned us)) (sym c.deref.ensures.value)
    (fitting_piece (piece_of c.in-Ok-Some.scanned c.piece.new.units.items) c.args.cursor.now.chars.now c.args.cursor.now.at c.piece.new.self.at c.requires.short f.piece.stands)
