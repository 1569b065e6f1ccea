use Rattle.std.proofs.Common.{refl}
use Rattle.std.proofs.lemmas.Bool.{both_ways}
use Rattle.wjs_audit.specs.declared.reading.Reading.{Reading}
use Rattle.wjs_audit.proofs.Taking.{is_cut, text_line, deed_taken, no_deed_line}
use Rattle.wjs_audit.proofs.reading.Reading.add_line.Goals as goal

pub returns-then-is_word : goal.returns-then-is_word
returns-then-is_word c =
    let new : Reading = record { log = c.args.self.now.log; known = c.add_text.new.known; units = c.add_text.new.units } in
    text_line c.args.line.now c.first_part.result.0.now c.first_part.result.1.now c.first_part.ensures.parts c.args.self.now new c.args.number (c.is_word.ensures.0 c.if-is_word.true) refl c.add_text.result c.add_text.ensures

pub returns-in_default : goal.returns-in_default
returns-in_default c =
    let said = rw c.in_default.is at c.in_ok-deed.ensures in
    no_deed_line c.args.line.now c.first_part.result.0.now c.first_part.result.1.now c.first_part.ensures.parts c.args.self.now.known (λ is. both_ways c.is_word.result c.if-is_word.false (c.is_word.ensures.1 is)) said

pub push-requires : goal.push-requires
push-requires c =
    let said = rw c.in-Some.is at c.in_ok-deed.ensures in
    let cut = is_cut c.args.line.now c.first_part.result.0.now c.first_part.result.1.now c.first_part.ensures.parts in
    (said cut.0 cut.2 cut.3).0.2

pub returns : goal.returns
returns c =
    let said = rw c.in-Some.is at c.in_ok-deed.ensures in
    let new : Reading = record { log = c.push.new.self; known = c.args.self.now.known; units = c.args.self.now.units } in
    deed_taken c.args.line.now c.first_part.result.0.now c.first_part.result.1.now c.first_part.ensures.parts c.args.self.now new c.args.number c.in-Some.deed refl c.in_ok-push.ensures.ok said
