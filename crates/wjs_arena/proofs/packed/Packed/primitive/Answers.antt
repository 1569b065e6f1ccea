use Rattle.std.proofs.Common.{sym, ap, ◌∙◌}
use Rattle.wjs_arena.specs.Entries.{Entry}
use Rattle.wjs_arena.specs.Packed.{few_in}
use Rattle.wjs_arena.proofs.packed.Packed.primitive.Goals as goal

pub returns-in-Plain : goal.returns-in-Plain
returns-in-Plain c = sym (ap (λ r. (few_in r).primitive) c.in-Plain.is) ∙ ap (λ (e : Entry). e.object.primitive) c.self.view_is

pub returns-in-Hidden : goal.returns-in-Hidden
returns-in-Hidden c = sym (ap (λ r. (few_in r).primitive) c.in-Hidden.is) ∙ ap (λ (e : Entry). e.object.primitive) c.self.view_is

pub returns-in-Listed : goal.returns-in-Listed
returns-in-Listed c = sym (ap (λ r. (few_in r).primitive) c.in-Listed.is) ∙ ap (λ (e : Entry). e.object.primitive) c.self.view_is
