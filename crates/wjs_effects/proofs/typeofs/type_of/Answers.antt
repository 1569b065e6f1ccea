use Rattle.std.proofs.Common.{ap}
use Rattle.wjs_by_content.specs.Tables.{value_in}
use Rattle.wjs_by_content.specs.Values.{Text, String}
use Rattle.wjs_meaning.specs.Expressions.{type_name}
use Rattle.wjs_frames.proofs.Shorter.{follows_look}
use Rattle.wjs_effects.proofs.typeofs.type_of.Goals as goal

pub returns-clause-does : goal.returns-clause-does
returns-clause-does g c = record {
  by = λ go later r h.
      let t = later.heap.texts in
      let by = λ (u : Text). go (String u) in
      follows_look g.S.WorldStore.meaning (λ arena. by (type_name arena (value_in t c.args.value))) _ _ _ _ (λ arena s. ap by (c.type_name-units.ensures.name t arena s))
      (c.in_ok-id.ensures.does.by by later r h);
}
