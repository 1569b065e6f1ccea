use Rattle.std.proofs.Common.{sym, ap, ◌∙◌}
use Rattle.wjs_arena.specs.Entries.{Entry}
use Rattle.wjs_arena.specs.declared.rare.Rare.{Rare}
use Rattle.wjs_arena.specs.Packed.{few_in, world_in}
use Rattle.wjs_arena.proofs.packed.Packed.world.Goals as goal

pub returns-in-Plain : goal.returns-in-Plain
returns-in-Plain c = sym (ap (λ r. (few_in r).world) c.in-Plain.is) ∙ ap (λ (e : Entry). e.object.world) c.self.view_is

pub returns-in-Hidden : goal.returns-in-Hidden
returns-in-Hidden c = sym (ap (λ r. (few_in r).world) c.in-Hidden.is) ∙ ap (λ (e : Entry). e.object.world) c.self.view_is

pub returns-in-Listed : goal.returns-in-Listed
returns-in-Listed c = sym (ap (λ r. (few_in r).world) c.in-Listed.is) ∙ ap (λ (e : Entry). e.object.world) c.self.view_is

pub returns-in-Rare : goal.returns-in-Rare
returns-in-Rare c = c.world_in.ensures ∙ ap (λ (r : Rare). world_in r.beside) c.deref.ensures ∙ sym (ap (λ r. (few_in r).world) c.in-Rare.is) ∙ ap (λ (e : Entry). e.object.world) c.self.view_is
