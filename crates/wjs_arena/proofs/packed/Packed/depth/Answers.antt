use Rattle.std.proofs.Common.{sym, ap, ◌∙◌}
use Rattle.wjs_arena.specs.Entries.{Entry}
use Rattle.wjs_arena.specs.Links.{depth_in}
use Rattle.wjs_arena.specs.Packed.{wide_in}
use Rattle.wjs_arena.specs.declared.rare.Wide.{Wide}
use Rattle.wjs_arena.proofs.packed.Packed.depth.Goals as goal

pub returns-in-None : goal.returns-in-None
returns-in-None c = sym (ap (λ l. depth_in l c.self.inside.depth (wide_in c.self.inside.rest).depth) c.in-None.is) ∙ ap (λ (e : Entry). e.depth) c.self.view_is

pub returns-in-Short : goal.returns-in-Short
returns-in-Short c = sym (ap (λ l. depth_in l c.self.inside.depth (wide_in c.self.inside.rest).depth) c.in-Short.is) ∙ ap (λ (e : Entry). e.depth) c.self.view_is

pub returns-in-Wide : goal.returns-in-Wide
returns-in-Wide c =
    ap (λ (w : Wide). w.depth) c.wide.ensures
    ∙ sym (ap (λ l. depth_in l c.self.inside.depth (wide_in c.self.inside.rest).depth) c.in-Wide.is)
    ∙ ap (λ (e : Entry). e.depth) c.self.view_is
