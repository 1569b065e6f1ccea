use Rattle.std.proofs.Common.{◌∙◌}
use Rattle.wjs_base.proofs.TextLaws.{Grows-IsName, Grows-refl, IsNameOf-IsName}
use Rattle.wjs_heap_steps.proofs.Spelling.{named_in}
use Rattle.wjs_start.proofs.names.name_number.Goals as goal

pub returns-clause-is : goal.returns-clause-is
returns-clause-is c = λ t g.
    let texts = c.text_number.new.texts in
    let id = c.in_ok-id.id in
    let there = (c.in_ok-id.ensures.is texts (Grows-refl texts)).there in
    record {
      there = Grows-IsName texts t c.name_of.result g (IsNameOf-IsName texts id c.name_of.result there c.name_of.ensures);
      spells = named_in texts t id c.name_of.result c.name_of.ensures g ∙ (c.in_ok-id.ensures.is t g).is;
    }
