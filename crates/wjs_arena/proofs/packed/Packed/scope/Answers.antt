use Rattle.std.proofs.Common.{sym, ap, ◌∙◌}
use Rattle.wjs_arena.specs.Entries.{Entry}
use Rattle.wjs_arena.specs.Links.{link}
use Rattle.wjs_arena.specs.Packed.{wide_in}
use Rattle.wjs_arena.specs.declared.rare.Wide.{Wide}
use Rattle.wjs_arena.proofs.packed.Packed.scope.Goals as goal

pub returns-in-None : goal.returns-in-None
returns-in-None c =
    let p = c.self.inside in
    sym (ap (λ l. link l p.scope_owner p.scope_serial (wide_in p.rest).scope) c.in-None.is) ∙ ap (λ (e : Entry). e.object.scope) c.self.view_is

pub returns-in-Short : goal.returns-in-Short
returns-in-Short c =
    let p = c.self.inside in
    sym (ap (λ l. link l p.scope_owner p.scope_serial (wide_in p.rest).scope) c.in-Short.is) ∙ ap (λ (e : Entry). e.object.scope) c.self.view_is

pub returns-in-Wide : goal.returns-in-Wide
returns-in-Wide c =
    let p = c.self.inside in
    ap (λ (w : Wide). w.scope) c.wide.ensures
    ∙ sym (ap (λ l. link l p.scope_owner p.scope_serial (wide_in p.rest).scope) c.in-Wide.is)
    ∙ ap (λ (e : Entry). e.object.scope) c.self.view_is
