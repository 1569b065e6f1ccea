use Rattle.wjs_base.proofs.TextLaws.{Grows-trans}
use Rattle.wjs_start.proofs.known.place_of.Goals as goal

pub returns-clause-is : goal.returns-clause-is
returns-clause-is c = λ t g.
    let v = c.in_ok-value.ensures.is t (Grows-trans c.value_of.new.texts c.name_number.new.texts t c.in_ok-name.ensures.grows g) in
    let n = c.in_ok-name.ensures.is t g in
    record {
      there = record { name = n.there; value = v.there };
      is = λ i. record { at = record { object = c.args.property.object; name = n.spells i }; value = v.is i; kept = c.args.property.kept };
    }
