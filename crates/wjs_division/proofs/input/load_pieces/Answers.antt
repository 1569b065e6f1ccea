use Rattle.std.proofs.lemmas.List.Elements.{All-get_or}
use Rattle.wjs_division.specs.Pieces.{IsInside, piece_of}
use Rattle.wjs_base.proofs.TextLaws.{Grows-trans}
use Rattle.wjs_division.proofs.Programs.{front_there, loaded_none, loaded_more, loaded_all, table_at_end, no_input}
use Rattle.wjs_division.proofs.input.load_pieces.Goals as goal

pub loop-piece-init : goal.loop-piece-init
loop-piece-init c = loaded_none c.args.bytes.now c.args.texts.now _ c.new-units.ensures.items

pub load_piece-requires-clause-inside : goal.load_piece-requires-clause-inside
load_piece-requires-clause-inside c = All-get_or (IsInside c.args.bytes.now) c.args.pieces.now c.loop-piece.piece-index (piece_of 0 0) c.loop-piece-test.true c.requires.inside

pub load_piece-requires-clause-front : goal.load_piece-requires-clause-front
load_piece-requires-clause-front c = front_there c.args.bytes.now c.args.pieces.now c.loop-piece.piece-index (piece_of 0 0) c.requires.utf8 c.requires.parts c.loop-piece-test.true

pub loop-piece-preserved : goal.loop-piece-preserved
loop-piece-preserved c =
    let loaded = c.in-Ok in
    loaded_more c.args.bytes.now c.args.pieces.now c.loop-piece.piece-index (piece_of 0 0) c.args.texts.now c.loop-piece.texts c.load_piece.new.texts c.loop-piece.units.items c.push.new.self.items loaded.unit
    c.requires.parts c.loop-piece-test.true c.loop-piece.invariant loaded.ensures.grows loaded.ensures.table loaded.ensures.ok loaded.ensures.known loaded.ensures.places c.in-Ok-push.ensures.items

pub returns-in-Err-clause-err : goal.returns-in-Err-clause-err
returns-in-Err-clause-err c =
    no_input c.args.bytes.now c.args.pieces.now c.loop-piece.piece-index (piece_of 0 0) c.args.texts.now c.loop-piece.texts c.loop-piece.units.items c.in-Err.fault
    c.requires.utf8 c.requires.parts c.requires.few c.loop-piece-test.true c.loop-piece.invariant c.in-Err.ensures.err

pub returns-in-Err-clause-grows : goal.returns-in-Err-clause-grows
returns-in-Err-clause-grows c = Grows-trans c.args.texts.now c.loop-piece.texts c.load_piece.new.texts c.loop-piece.invariant.grows c.in-Err.ensures.grows

pub returns-in-Err-push-clause-grows : goal.returns-in-Err-push-clause-grows
returns-in-Err-push-clause-grows c = Grows-trans c.args.texts.now c.loop-piece.texts c.load_piece.new.texts c.loop-piece.invariant.grows c.in-Ok.ensures.grows

pub returns-clause-programs : goal.returns-clause-programs
returns-clause-programs c = loaded_all c.args.bytes.now c.args.pieces.now c.loop-piece.piece-index c.args.texts.now c.loop-piece.texts c.loop-piece.units.items c.requires.parts c.loop-piece-test.false c.loop-piece.invariant

pub returns-clause-table : goal.returns-clause-table
returns-clause-table c = table_at_end c.args.bytes.now c.args.pieces.now c.loop-piece.piece-index c.args.texts.now c.loop-piece.texts c.loop-piece.units.items c.requires.parts c.loop-piece-test.false c.loop-piece.invariant
