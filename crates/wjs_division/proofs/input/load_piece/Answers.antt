use Rattle.std.proofs.Common.{subst}
use Rattle.wjs_load.specs.declared.tokens.LoadFault.{LoadFault}
use Rattle.wjs_load.specs.Loading.{IsRefused}
use Rattle.wjs_division.specs.Pieces.{piece_in}
use Rattle.wjs_division.proofs.Refused.{part_within, front_short}
use Rattle.wjs_division.proofs.input.load_piece.Goals as goal

pub load-requires : goal.load-requires
load-requires c = part_within c.args.bytes.now c.args.piece c.requires.short

pub refusal_below-requires-clause-short : goal.refusal_below-requires-clause-short
refusal_below-requires-clause-short c = front_short c.args.bytes.now c.args.piece c.requires.short

pub returns-in-Err-Refused-clause-err : goal.returns-in-Err-Refused-clause-err
returns-in-Err-Refused-clause-err c =
    let P : LoadFault → Type 0 = λ fault. IsRefused (piece_in c.args.bytes.now c.args.piece).bytes fault in
    c.refusal_below.ensures (piece_in c.args.bytes.now c.args.piece).bytes (subst P c.in-Err-Refused.field-0-is c.in-Err-Refused.ensures.err)
