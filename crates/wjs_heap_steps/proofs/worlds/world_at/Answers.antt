use Rattle.wjs_by_content.specs.Objects.{object_at}
use Rattle.wjs_meaning.specs.Deeds.{Do, Look}
use Rattle.wjs_heap_steps.specs.Worlds.{found_then}
use Rattle.wjs_heap_steps.proofs.Composing.{does_then, if_ok}
use Rattle.wjs_heap_steps.proofs.worlds.world_at.Goals as goal

pub returns-in-Object-clause-does : goal.returns-in-Object-clause-does
returns-in-Object-clause-does g c =
    let m = g.S.WorldStore.meaning in
    let old = c.args.config.now in
    rw c.in-Object.is
    (if_ok _ _ c.world_there.result (λ found d. does_then m (λ t go. Do Look (λ arena. go (object_at arena c.in-Object.object).world)) (λ t. c.world_for.result) (λ t x go. found_then x go) (λ t. found) old old old c.world_for.ensures.does d) c.world_there.ensures.does)
