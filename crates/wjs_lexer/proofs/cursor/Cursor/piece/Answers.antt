use Rattle.std.proofs.Common.{sym}
use Rattle.wjs_lexer.proofs.SpacesFound.{space_found, line_end_found}
use Rattle.wjs_lexer.proofs.cursor.Cursor.piece.Goals as goal

pub returns-in-Space : goal.returns-in-Space
returns-in-Space c = let a = c.advance.ensures in record {
  placed = a.placed;
  same = a.same;
  piece = space_found c.args.self.now.chars.now c.args.self.now.at c.advance.new.self.at c.in-Some.ch (sym c.in-Some.ensures) (sym c.in-Space.ensures) a.at;
}

pub returns-in-LineEnd : goal.returns-in-LineEnd
returns-in-LineEnd c = let a = c.advance-in-LineEnd.ensures in record {
  placed = a.placed;
  same = a.same;
  piece = line_end_found c.args.self.now.chars.now c.args.self.now.at c.advance-in-LineEnd.new.self.at c.in-Some.ch (sym c.in-Some.ensures) (sym c.in-LineEnd.ensures) a.at;
}

pub returns-in-Digit : goal.returns-in-Digit
returns-in-Digit c = c.number.ensures c.args.units.now.items

pub returns-in-Slash : goal.returns-in-Slash
returns-in-Slash c = c.slash.ensures c.args.units.now.items

pub returns-in-Mark : goal.returns-in-Mark
returns-in-Mark c = c.mark.ensures c.args.units.now.items
