use Rattle.std.proofs.Common.{length, sym, ◌∙◌, arith}
use Rattle.std.proofs.lemmas.Bool.{eqb-true, eqb-false}
use Rattle.std.proofs.lemmas.List.{take_rest}
use Rattle.wjs_audit.proofs.Pieces.{next_cut, no_next}
use Rattle.wjs_audit.proofs.cuts.next_part.Goals as goal

pub returns-then-is_empty-clause-parts : goal.returns-then-is_empty-clause-parts
returns-then-is_empty-clause-parts c = λ parts are e. no_next c.args.tail.now parts e (eqb-true (length c.args.tail.now) 0 (sym c.is_empty.ensures ∙ c.if-is_empty.true))

pub returns-clause-parts : goal.returns-clause-parts
returns-clause-parts c = λ parts are e.
    let some = eqb-false (length c.args.tail.now) 0 (sym c.is_empty.ensures ∙ c.if-is_empty.false) in
    next_cut c.args.tail.now parts c.first_part.result.0.now c.first_part.result.1.now are e (omega (arith, some)) (λ part more lacks same. c.first_part.ensures.parts part more lacks (take_rest c.args.tail.now 1 ∙ same))
