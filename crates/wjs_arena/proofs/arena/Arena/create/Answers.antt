use Rattle.std.proofs.Common.{◌≡◌, ◌+◌, max, sym, ap, ◌∙◌, subst, Some, IfSome}
use Rattle.wjs_base.specs.declared.ids.ObjId.{ObjId}
use Rattle.wjs_arena.specs.Entries.{Objects, entry_over, depth_of, next_number, IsThere, Keeps, world_of}
use Rattle.wjs_arena.proofs.Made.{made, fresh_all}
use Rattle.wjs_arena.proofs.arena.Arena.create.Goals as goal

pub put-requires-clause-world : goal.put-requires-clause-world
put-requires-clause-world c = fresh_all c.self.inside.rows c.self.inside.worlds c.args.object.world c.self.invariant (subst (λ (m : Objects). IfSome c.args.object.world (λ w. (o : ObjId) → ¬ (world_of m o ≡ Some w))) (sym c.self.view_is) c.requires.world)

pub invariant_of-self-2 : goal.invariant_of-self-2
invariant_of-self-2 c =
    let back = sym c.self.view_is in
    let h = made c.self.inside.rows c.put.new.rows c.self.inside.worlds c.put.new.worlds c.args.owner c.next_number-id.result (record { object = c.args.object; depth = c.in-Some.depth }) c.self.invariant
    (c.next_number-id.ensures.number ∙ ap (λ (m : Objects). next_number m c.args.owner) back)
    (subst (λ (m : Objects). IsThere m c.args.object.prototype) back c.requires.prototype)
    (subst (λ (m : Objects). IsThere m c.args.object.scope) back c.requires.scope)
    (subst (λ (m : Objects). IfSome c.args.object.world (λ w. (o : ObjId) → ¬ (world_of m o ≡ Some w))) back c.requires.world)
    (subst (λ (m : Objects). c.in-Some.depth ≡ max (depth_of m c.args.object.prototype) (depth_of m c.args.object.scope) + 1) back c.in-Some.ensures)
    c.in_ok-put.ensures.rows c.in_ok-put.ensures.worlds c.in_ok-put.ensures.serials in
    h.kept

pub returns-clause-arena : goal.returns-clause-arena
returns-clause-arena c =
    let back = sym c.self.view_is in
    let h = made c.self.inside.rows c.put.new.rows c.self.inside.worlds c.put.new.worlds c.args.owner c.next_number-id.result (record { object = c.args.object; depth = c.in-Some.depth }) c.self.invariant
    (c.next_number-id.ensures.number ∙ ap (λ (m : Objects). next_number m c.args.owner) back)
    (subst (λ (m : Objects). IsThere m c.args.object.prototype) back c.requires.prototype)
    (subst (λ (m : Objects). IsThere m c.args.object.scope) back c.requires.scope)
    (subst (λ (m : Objects). IfSome c.args.object.world (λ w. (o : ObjId) → ¬ (world_of m o ≡ Some w))) back c.requires.world)
    (subst (λ (m : Objects). c.in-Some.depth ≡ max (depth_of m c.args.object.prototype) (depth_of m c.args.object.scope) + 1) back c.in-Some.ensures)
    c.in_ok-put.ensures.rows c.in_ok-put.ensures.worlds c.in_ok-put.ensures.serials in
    h.kept.arena

pub returns-clause-there : goal.returns-clause-there
returns-clause-there c =
    let back = sym c.self.view_is in
    let h = made c.self.inside.rows c.put.new.rows c.self.inside.worlds c.put.new.worlds c.args.owner c.next_number-id.result (record { object = c.args.object; depth = c.in-Some.depth }) c.self.invariant
    (c.next_number-id.ensures.number ∙ ap (λ (m : Objects). next_number m c.args.owner) back)
    (subst (λ (m : Objects). IsThere m c.args.object.prototype) back c.requires.prototype)
    (subst (λ (m : Objects). IsThere m c.args.object.scope) back c.requires.scope)
    (subst (λ (m : Objects). IfSome c.args.object.world (λ w. (o : ObjId) → ¬ (world_of m o ≡ Some w))) back c.requires.world)
    (subst (λ (m : Objects). c.in-Some.depth ≡ max (depth_of m c.args.object.prototype) (depth_of m c.args.object.scope) + 1) back c.in-Some.ensures)
    c.in_ok-put.ensures.rows c.in_ok-put.ensures.worlds c.in_ok-put.ensures.serials in
    h.there ∙ ap (λ (m : Objects). Some (entry_over m c.args.object)) c.self.view_is

pub returns-clause-keeps : goal.returns-clause-keeps
returns-clause-keeps c =
    let back = sym c.self.view_is in
    let h = made c.self.inside.rows c.put.new.rows c.self.inside.worlds c.put.new.worlds c.args.owner c.next_number-id.result (record { object = c.args.object; depth = c.in-Some.depth }) c.self.invariant
    (c.next_number-id.ensures.number ∙ ap (λ (m : Objects). next_number m c.args.owner) back)
    (subst (λ (m : Objects). IsThere m c.args.object.prototype) back c.requires.prototype)
    (subst (λ (m : Objects). IsThere m c.args.object.scope) back c.requires.scope)
    (subst (λ (m : Objects). IfSome c.args.object.world (λ w. (o : ObjId) → ¬ (world_of m o ≡ Some w))) back c.requires.world)
    (subst (λ (m : Objects). c.in-Some.depth ≡ max (depth_of m c.args.object.prototype) (depth_of m c.args.object.scope) + 1) back c.in-Some.ensures)
    c.in_ok-put.ensures.rows c.in_ok-put.ensures.worlds c.in_ok-put.ensures.serials in
    subst (λ (m : Objects). Keeps m c.put.new.rows) c.self.view_is h.keeps
