use Rattle.std.proofs.Common.{refl}
use Rattle.wjs_step_common.proofs.Following.{follows_as}
use Rattle.wjs_assigns.proofs.assigns.compound_nested.Goals as goal

pub nest-requires-clause-node : goal.nest-requires-clause-node
nest-requires-clause-node g c = rw c.node-node.ensures c.requires.runs.there.stands.node

pub returns : goal.returns
returns g c =
    follows_as _ _ _ _ _ _ (λ grows. rw (c.in_ok-push-2.ensures.ok, c.in_ok-push.ensures.ok, c.nothing_held-held.ensures) refl) c.nest.ensures

pub nest-requires-clause-held : goal.nest-requires-clause-held
nest-requires-clause-held g c = rw (c.in_ok-push-2.ensures.ok, c.in_ok-push.ensures.ok, c.nothing_held-held.ensures) (c.requires.value, (c.requires.old, tt))
