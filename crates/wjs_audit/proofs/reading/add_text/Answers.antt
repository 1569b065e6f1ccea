use Rattle.std.proofs.Common.{◌≡◌, ◌^◌, ◌<◌, ◌∷◌, [], length, ap, sym, subst, ◌∙◌, arith}
use Rattle.std.specs.Prelude.{decimal}
use Rattle.std.proofs.lemmas.Bool.{both_ways, eq-eqb, eqb-true, eqb-false}
use Rattle.std.proofs.lemmas.List.{nil_from_length}
use Rattle.std.proofs.lemmas.List.Elements.{All-nil}
use Rattle.wjs_audit.specs.Parts.{AreUnits}
use Rattle.wjs_audit.specs.Spelling.{hex, hex_parts}
use Rattle.wjs_audit.proofs.Hexes.{hex_parts_is, one_part, some_hex, some_units}
use Rattle.wjs_audit.proofs.Pieces.{at_end, no_rest}
use Rattle.wjs_audit.proofs.Spellings.{tail_is}
use Rattle.wjs_audit.proofs.Taking.{text_added}
use Rattle.wjs_audit.proofs.reading.add_text.Goals as goal
use Rattle.wjs_audit.proofs.reading.add_text.Goals.{then-not-is_empty-via-then-not-is_empty, then-not-is_empty-via-else-not-is_empty+then-is_empty}

pub returns-in_default-next_part : goal.returns-in_default-next_part
returns-in_default-next_part c =
    let number = c.in-Some-serial_of.ensures in
    text_added c.args.known.now c.add.new.self c.args.tail.now c.in-Some-serial_of.number [] number.0 (All-nil (λ unit. unit < 2 ^ 16)) (λ parts is e.
    let t = c.in-Some.ensures.parts parts is e in
    let none = nil_from_length t.0 (c.in_default-next_part.ensures.parts t.0 t.1 t.3) in
    t.2 ∙ (λ i. number.1 i ∷ none i)) c.add.result c.add.ensures

pub returns-then-not-is_empty : goal.returns-then-not-is_empty
returns-then-not-is_empty c = λ parts is e n units may same.
    let part = c.in-Some-next_part.part.now in
    let t = c.in-Some.ensures.parts parts is e in
    let u = c.in-Some-next_part.ensures.parts t.0 t.1 t.3 in
    let later = tail_is (decimal n) c.in-Some.number.now (hex_parts units) t.0 (sym same ∙ t.2) ∙ u.2 in
    let one = one_part units part u.0 later in
    absurd (elim c.then-not-is_empty.branch [
      | then-not-is_empty-via-then-not-is_empty w ↦ both_ways c.is_empty.result w.if-not-is_empty.true (c.is_empty.ensures ∙ eq-eqb (length c.in-Some-next_part.rest.now) 0 (no_rest c.in-Some-next_part.rest.now u.0 u.3 one.1))
      | then-not-is_empty-via-else-not-is_empty+then-is_empty w ↦ let some = some_hex part units may.1.sixteen_bits one.2 one.0 in let none = eqb-true (length part) 0 (sym w.is_empty-else-not-is_empty.ensures ∙ w.if-is_empty.true) in omega (arith, some, none)
    ])

pub returns-then-not-branch : goal.returns-then-not-branch
returns-then-not-branch c = λ parts is e n units may same.
    let part = c.in-Some-next_part.part.now in
    let t = c.in-Some.ensures.parts parts is e in
    let u = c.in-Some-next_part.ensures.parts t.0 t.1 t.3 in
    let later = tail_is (decimal n) c.in-Some.number.now (hex_parts units) t.0 (sym same ∙ t.2) ∙ u.2 in
    let one = one_part units part u.0 later in
    (rw c.if-not-branch.true at c.in_ok-units_of.ensures) units may.1.sixteen_bits one.0

pub returns : goal.returns
returns c =
    let number = c.in-Some-serial_of.ensures in
    let part = c.in-Some-next_part.part.now in
    let units = c.as_slice.result.now in
    let same = c.as_slice.ensures.value in
    let read = rw c.if-not-branch.false at c.in_ok-units_of.ensures in
    let are = subst AreUnits (sym same) read.0 in
    let spelled : part ≡ hex units = read.1 ∙ ap hex (sym same) in
    let none = eqb-false (length part) 0 (sym c.is_empty-else-not-is_empty.ensures ∙ c.if-is_empty.false) in
    let some = some_units part units (omega (arith, none)) spelled in
    text_added c.args.known.now c.add-2.new.self c.args.tail.now c.in-Some-serial_of.number units number.0 are (λ parts is e.
    let t = c.in-Some.ensures.parts parts is e in
    let u = c.in-Some-next_part.ensures.parts t.0 t.1 t.3 in
    let end = at_end c.in-Some-next_part.rest.now u.0 c.is_empty.result c.is_empty.ensures c.if-not-is_empty.false u.3 in
    let later = u.2 ∙ (λ i. spelled i ∷ end i) ∙ sym (hex_parts_is units some) in
    t.2 ∙ (λ i. number.1 i ∷ later i)) c.add-2.result c.add-2.ensures
