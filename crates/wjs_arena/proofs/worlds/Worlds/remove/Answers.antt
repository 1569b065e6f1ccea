use Rattle.std.proofs.Common.{cond, None, sym, ap, ◌∙◌, subst, refl}
use Rattle.std.specs.Option.{option_copied_mut, IsSome}
use Rattle.std.specs.FinMap as map
use Rattle.std.specs.BTreeMap.{is_at}
use Rattle.wjs_base.specs.Order.{world_cmp}
use Rattle.wjs_arena.specs.Kept.{worlds_in}
use Rattle.wjs_arena.proofs.WorldsByOwner.{list_of, one_less, none_less, none_if, in_tree}
use Rattle.wjs_arena.proofs.worlds.Worlds.remove.Goals as goal

pub returns : goal.returns
returns c =
    let found = sym c.get_mut.ensures.value ∙ ap option_copied_mut c.in-Some.is in
    let now = c.take_from.new.tree in
    let m = c.self.inside.owners.entries in
    let after = (c.get_mut.follows.holds now).3 (subst IsSome (sym found) refl) in
    one_less (λ tree. tree.entries) m (c.get_mut.follows.lender now).entries c.args.world now (λ q. after.0 q)
    (λ q. in_tree now q ∙ c.take_from.ensures q ∙ ap (cond (is_at (world_cmp c.args.world) q) None) (sym (ap (λ r. map.find world_cmp q (list_of (λ tree. tree.entries) r)) found ∙ in_tree c.in-Some.tree.now q)))
    ∙ ap (λ z. map.remove z c.args.world) c.self.view_is

pub returns-in_default : goal.returns-in_default
returns-in_default c =
    let none = sym c.get_mut.ensures.value ∙ ap option_copied_mut (none_if c.get_mut.result c.in_default.not-Some) in
    ap (λ m. worlds_in (λ tree. tree.entries) m.entries) c.get_mut.follows.holds-at-none
    ∙ none_less (λ tree. tree.entries) c.self.inside.owners.entries c.args.world none
    ∙ ap (λ z. map.remove z c.args.world) c.self.view_is
