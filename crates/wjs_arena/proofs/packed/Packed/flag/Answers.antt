use Rattle.std.proofs.Common.{sym, ap, ◌∙◌}
use Rattle.wjs_arena.specs.AtName.{at_name}
use Rattle.wjs_arena.specs.Entries.{Entry}
use Rattle.wjs_arena.specs.Packed.{few_in}
use Rattle.wjs_arena.proofs.packed.Packed.flag.Goals as goal

pub returns-in-Plain : goal.returns-in-Plain
returns-in-Plain c = sym (ap (λ r. at_name (few_in r).flags c.args.name) c.in-Plain.is) ∙ ap (λ (e : Entry). at_name e.object.flags c.args.name) c.self.view_is

pub returns-in-Hidden : goal.returns-in-Hidden
returns-in-Hidden c = c.get.ensures ∙ sym (ap (λ r. at_name (few_in r).flags c.args.name) c.in-Hidden.is) ∙ ap (λ (e : Entry). at_name e.object.flags c.args.name) c.self.view_is

pub returns-in-Listed : goal.returns-in-Listed
returns-in-Listed c =
    c.get-in-Listed.ensures
    ∙ ap (λ l. at_name l c.args.name) c.deref.ensures
    ∙ sym (ap (λ r. at_name (few_in r).flags c.args.name) c.in-Listed.is)
    ∙ ap (λ (e : Entry). at_name e.object.flags c.args.name) c.self.view_is
