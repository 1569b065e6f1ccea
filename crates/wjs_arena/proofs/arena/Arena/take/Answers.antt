use Rattle.std.proofs.Common.{sym, subst, ap, ◌∙◌}
use Rattle.wjs_arena.specs.Entries.{Objects, IsArena, WorldsAreOwn, objects_of, others_of}
use Rattle.wjs_arena.proofs.TakenOut.{owned_is, others_are, kept_others, owned_kept}
use Rattle.wjs_arena.proofs.arena.Arena.take.Goals as goal

pub invariant_of-self : goal.invariant_of-self
invariant_of-self c =
    let back = sym c.self.view_is in
    let m = c.self.inside.rows in
    kept_others m c.self.inside.worlds c.args.owner c.self.invariant (subst WorldsAreOwn back c.requires.worlds) c.take-rows.new.self c.take-worlds.new.self
    (subst (λ (z : Objects). IsArena (others_of z c.args.owner)) back c.requires.others)
    (others_are m c.take-rows.new.self c.args.owner c.take-rows.ensures.left) c.take-worlds.ensures.left

pub invariant_of-result : goal.invariant_of-result
invariant_of-result c =
    let back = sym c.self.view_is in
    owned_kept c.self.inside.rows c.self.inside.worlds c.args.owner c.self.invariant (subst WorldsAreOwn back c.requires.worlds) c.take-rows.result.items c.take-worlds.result
    c.take-rows.ensures.taken c.take-worlds.ensures.taken

pub returns-clause-taken : goal.returns-clause-taken
returns-clause-taken c = owned_is c.self.inside.rows c.args.owner c.take-rows.result.items c.take-rows.ensures.taken ∙ ap (λ (z : Objects). objects_of z c.args.owner) c.self.view_is

pub returns-clause-left : goal.returns-clause-left
returns-clause-left c = others_are c.self.inside.rows c.take-rows.new.self c.args.owner c.take-rows.ensures.left ∙ ap (λ (z : Objects). others_of z c.args.owner) c.self.view_is
