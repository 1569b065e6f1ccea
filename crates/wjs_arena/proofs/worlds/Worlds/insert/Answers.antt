use Rattle.std.proofs.Common.{cond, Some, sym, ap, ◌∙◌, subst, refl}
use Rattle.std.specs.Option.{option_copied_mut, IsSome}
use Rattle.std.specs.FinMap as map
use Rattle.std.specs.Ordering.{nat_cmp}
use Rattle.std.specs.BTreeMap.{get, is_at}
use Rattle.std.proofs.lemmas.Result.{on_ok_weaker, on_err_weaker}
use Rattle.wjs_base.specs.Order.{world_cmp}
use Rattle.wjs_arena.proofs.WorldsByOwner.{list_of, one_more, written_back, in_tree}
use Rattle.wjs_arena.proofs.worlds.Worlds.insert.Goals as goal

pub returns-in-Some-clause-ok : goal.returns-in-Some-clause-ok
returns-in-Some-clause-ok c =
    let found = sym c.get_mut.ensures.value ∙ ap option_copied_mut c.in-Some.is in
    let now = c.put_in.new.tree in
    let m = c.self.inside.owners.entries in
    let after = (c.get_mut.follows.holds now).3 (subst IsSome (sym found) refl) in
    on_ok_weaker c.put_in.result (λ h.
    one_more (λ tree. tree.entries) m (c.get_mut.follows.lender now).entries c.args.world now c.args.object (λ q. after.0 q)
    (λ q. in_tree now q ∙ h q ∙ ap (cond (is_at (world_cmp c.args.world) q) (Some c.args.object)) (sym (ap (λ r. map.find world_cmp q (list_of (λ tree. tree.entries) r)) found ∙ in_tree c.in-Some.tree.now q)))
    ∙ ap (λ z. map.insert z c.args.world c.args.object) c.self.view_is) c.put_in.ensures.ok

pub returns-in-Some-clause-err : goal.returns-in-Some-clause-err
returns-in-Some-clause-err c =
    let found = sym c.get_mut.ensures.value ∙ ap option_copied_mut c.in-Some.is in
    let now = c.put_in.new.tree in
    let m = c.self.inside.owners.entries in
    let after = (c.get_mut.follows.holds now).3 (subst IsSome (sym found) refl) in
    on_err_weaker c.put_in.result (λ h.
    written_back (λ tree. tree.entries) m (c.get_mut.follows.lender now).entries c.args.world.owner now (λ q. after.0 q)
    (h ∙ sym (ap (list_of (λ tree. tree.entries)) found))
    ∙ c.self.view_is) c.put_in.ensures.err

pub returns-in-None-clause-ok : goal.returns-in-None-clause-ok
returns-in-None-clause-ok c =
    let none = sym c.get_mut.ensures.value ∙ ap option_copied_mut c.in-None.is in
    let m = c.self.inside.owners.entries in
    on_ok_weaker c.put_first.result (λ h.
    one_more (λ tree. tree.entries) m c.put_first.new.owners.entries c.args.world h.0 c.args.object
    (λ q. h.2 q ∙ ap (λ z. cond (is_at (nat_cmp c.args.world.owner) q) (Some h.0) (get nat_cmp z q)) c.get_mut.follows.holds-at-none)
    (λ q. in_tree h.0 q ∙ h.1 q ∙ ap (cond (is_at (world_cmp c.args.world) q) (Some c.args.object)) (sym (ap (λ r. map.find world_cmp q (list_of (λ tree. tree.entries) r)) none)))
    ∙ ap (λ z. map.insert z c.args.world c.args.object) c.self.view_is) c.put_first.ensures.ok
