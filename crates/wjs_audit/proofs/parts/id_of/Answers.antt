use Rattle.std.proofs.Common.{ap, sym, ◌∙◌}
use Rattle.std.proofs.lemmas.Bool.{both_ways}
use Rattle.std.proofs.lemmas.Fmt.{decimal_injective}
use Rattle.wjs_audit.specs.Reading.{numbers}
use Rattle.wjs_audit.proofs.parts.id_of.Goals as goal

pub returns-then-not-has : goal.returns-then-not-has
returns-then-not-has c = λ id may e.
    let same = decimal_injective c.in_ok-number.number id.0 c.in_ok-number.ensures.0 may.0 (sym c.in_ok-number.ensures.1 ∙ e) in
    both_ways c.has.result c.if-not-has.true (c.has.ensures ∙ ap (numbers c.args.known.now) same ∙ may.1)
