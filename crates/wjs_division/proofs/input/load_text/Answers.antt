use Rattle.wjs_base.proofs.TextLaws.{Grows-refl}
use Rattle.wjs_division.proofs.Whole.{same_pieces, same_inside, few_pieces, too_many, is_input, some_units, few_units}
use Rattle.wjs_division.proofs.input.load_text.Goals as goal

pub returns-then-are_too_many-clause-err : goal.returns-then-are_too_many-clause-err
returns-then-are_too_many-clause-err c = too_many c.args.bytes.now c.in-Ok.pieces.items c.as_slice.result.now c.requires.utf8 c.in-Ok.ensures.parts c.as_slice.ensures.value (c.are_too_many.ensures.more c.if-are_too_many.true)

pub load_pieces-requires-clause-parts : goal.load_pieces-requires-clause-parts
load_pieces-requires-clause-parts c = same_pieces c.args.bytes.now c.in-Ok.pieces.items c.as_slice-else-are_too_many.result.now c.in-Ok.ensures.parts c.as_slice-else-are_too_many.ensures.value

pub load_pieces-requires-clause-inside : goal.load_pieces-requires-clause-inside
load_pieces-requires-clause-inside c = same_inside c.args.bytes.now c.in-Ok.pieces.items c.as_slice-else-are_too_many.result.now c.in-Ok.ensures.inside c.as_slice-else-are_too_many.ensures.value

pub load_pieces-requires-clause-few : goal.load_pieces-requires-clause-few
load_pieces-requires-clause-few c = few_pieces c.in-Ok.pieces.items c.as_slice.result.now c.as_slice-else-are_too_many.result.now c.as_slice.ensures.value c.as_slice-else-are_too_many.ensures.value (c.are_too_many.ensures.few c.if-are_too_many.false)

pub returns-clause-ok : goal.returns-clause-ok
returns-clause-ok c =
    is_input c.args.bytes.now c.in-Ok.pieces.items c.as_slice-else-are_too_many.result.now c.load_pieces.new.texts c.load_pieces.result c.requires.utf8
    c.in-Ok.ensures.parts c.as_slice-else-are_too_many.ensures.value (few_pieces c.in-Ok.pieces.items c.as_slice.result.now c.as_slice-else-are_too_many.result.now c.as_slice.ensures.value c.as_slice-else-are_too_many.ensures.value (c.are_too_many.ensures.few c.if-are_too_many.false)) c.load_pieces.ensures.programs

pub returns-in_default-clause-grows : goal.returns-in_default-clause-grows
returns-in_default-clause-grows c = Grows-refl c.args.texts.now

pub returns-then-are_too_many-clause-grows : goal.returns-then-are_too_many-clause-grows
returns-then-are_too_many-clause-grows c = Grows-refl c.args.texts.now

pub returns-clause-some : goal.returns-clause-some
returns-clause-some c = some_units c.args.bytes.now c.load_pieces.new.texts c.load_pieces.result c.load_pieces.ensures.programs

pub returns-clause-few : goal.returns-clause-few
returns-clause-few c =
    few_units c.args.bytes.now c.in-Ok.pieces.items c.as_slice-else-are_too_many.result.now c.load_pieces.new.texts c.load_pieces.result c.in-Ok.ensures.parts c.as_slice-else-are_too_many.ensures.value
    (few_pieces c.in-Ok.pieces.items c.as_slice.result.now c.as_slice-else-are_too_many.result.now c.as_slice.ensures.value c.as_slice-else-are_too_many.ensures.value (c.are_too_many.ensures.few c.if-are_too_many.false)) c.load_pieces.ensures.programs
