use Rattle.wjs_by_content.specs.Objects.{world_object}
use Rattle.wjs_heap_steps.proofs.Running.{does_ran}
use Rattle.wjs_heap_steps.proofs.Steps.{ran_look}
use Rattle.std.proofs.Common.{◌∙◌}
use Rattle.wjs_heap_steps.proofs.Seeing.{world_object_found}
use Rattle.wjs_heap_steps.proofs.Looking.{found_or, world_is}
use Rattle.wjs_heap_steps.proofs.looks.world_object.Goals as goal

pub returns-clause-does : goal.returns-clause-does
returns-clause-does g c =
    let m = g.S.WorldStore.meaning in
    let old = c.args.config.now in
    does_ran m _ _ old old (ran_look m (λ t arena. world_object arena c.args.world) (λ t. c.world_object.result) old (λ t more arena s. world_object_found _ t arena s c.requires.base.heap.arena c.args.world c.requires.world ∙ world_is t old.heap.arena c.args.world c.world_object.result c.requires.base.heap.arena c.world_object.ensures.found c.world_object.ensures.none))

pub returns-clause-is : goal.returns-clause-is
returns-clause-is g c = λ t arena s. world_object_found _ t arena s c.requires.base.heap.arena c.args.world c.requires.world ∙ world_is t c.args.config.now.heap.arena c.args.world c.world_object.result c.requires.base.heap.arena c.world_object.ensures.found c.world_object.ensures.none

pub returns-clause-found : goal.returns-clause-found
returns-clause-found g c = found_or g.S.WorldStore.meaning c.args.config.now c.args.world c.world_object.result c.requires.base c.requires.world c.world_object.ensures.found
