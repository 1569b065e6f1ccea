use Rattle.std.proofs.Common.{◌≡◌, sym, ap, ◌∙◌, ◌&&◌, ◌==◌, false, is_some}
use Rattle.wjs_store.specs.State.{has_world}
use Rattle.wjs_layers.specs.Sparse.{full_of}
use Rattle.wjs_overlay.specs.Store.{worlds_of}
use Rattle.wjs_layers.proofs.Places.{place_find}
use Rattle.wjs_overlay.proofs.StoreLaws.{spent_has}
use Rattle.std.proofs.lemmas.Bool.{eq-eqb, eqb-true}
use Rattle.wjs_base.proofs.Booleans.{by_bool}
use Rattle.wjs_overlay.proofs.overlay.OverlayWorldStore.has_world.Goals as goal

pub returns-then-world-eq0 : goal.returns-then-world-eq0
returns-then-world-eq0 c = sym (spent_has c.args.self.now.spent c.args.self.now.layers.items c.args.world c.if-self.true ∙ ap (λ b. b && (c.args.world.serial == 0)) (eq-eqb c.args.world.owner 0 c.if-world-eq0.true))

pub returns-else-world-eq0 : goal.returns-else-world-eq0
returns-else-world-eq0 c =
    let no : (c.args.world.owner == 0) ≡ false = by_bool (c.args.world.owner == 0) (λ e. absurd (c.if-world-eq0.false (eqb-true c.args.world.owner 0 e))) (λ e. e) in
    no ∙ sym (spent_has c.args.self.now.spent c.args.self.now.layers.items c.args.world c.if-self.true ∙ ap (λ b. b && (c.args.world.serial == 0)) no)

pub returns : goal.returns
returns c = c.is_some.ensures ∙ ap is_some (c.get.ensures ∙ (c.args.self.now.kept c.if-self.false).placed c.args.world) ∙ place_find (full_of c.args.self.now.layers.items) c.args.world ∙ ap (λ b. has_world (worlds_of b c.args.self.now.layers.items) c.args.world) (sym c.if-self.false)
