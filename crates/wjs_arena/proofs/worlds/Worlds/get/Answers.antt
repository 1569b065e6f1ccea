use Rattle.std.proofs.Common.{sym, ap, ◌∙◌}
use Rattle.std.specs.FinMap as map
use Rattle.wjs_arena.proofs.WorldsByOwner.{get_worlds, list_of, in_tree}
use Rattle.wjs_base.specs.Order.{world_cmp}
use Rattle.std.specs.Option.{option_copied}
use Rattle.wjs_arena.proofs.worlds.Worlds.get.Goals as goal

pub returns-in-Some : goal.returns-in-Some
returns-in-Some c =
    let found = sym c.get.ensures.value ∙ ap option_copied c.in-Some.is in
    c.copied.ensures
    ∙ c.get-in-Some.ensures.value
    ∙ sym (in_tree c.in-Some.tree.now c.args.world)
    ∙ sym (ap (λ r. map.find world_cmp c.args.world (list_of (λ tree. tree.entries) r)) found)
    ∙ sym (get_worlds (λ tree. tree.entries) c.self.inside.owners.entries c.args.world)
    ∙ ap (λ m. map.get m c.args.world) c.self.view_is

pub returns-in-None : goal.returns-in-None
returns-in-None c =
    let found = sym c.get.ensures.value ∙ ap option_copied c.in-None.is in
    sym (ap (λ r. map.find world_cmp c.args.world (list_of (λ tree. tree.entries) r)) found)
    ∙ sym (get_worlds (λ tree. tree.entries) c.self.inside.owners.entries c.args.world)
    ∙ ap (λ m. map.get m c.args.world) c.self.view_is
