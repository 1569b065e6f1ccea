use Rattle.std.proofs.Common.{ap, ◌∙◌}
use Rattle.wjs_by_content.specs.Objects.{Internals, has_code, is_callable}
use Rattle.wjs_heap_steps.proofs.Running.{does_ran}
use Rattle.wjs_heap_steps.proofs.Steps.{ran_look}
use Rattle.wjs_heap_steps.proofs.Looking.{seen_is}
use Rattle.std.specs.FinMap as map
use Rattle.wjs_arena.proofs.Fields.{coded, coded_is}
use Rattle.wjs_heap_steps.proofs.looks.is_callable.Goals as goal

pub returns-clause-does : goal.returns-clause-does
returns-clause-does g c =
    let m = g.S.WorldStore.meaning in
    let old = c.args.config.now in
    does_ran m _ _ old old (ran_look m (λ t arena. is_callable arena c.args.object) (λ t. c.has_code.result) old (λ t more arena s. ap (λ (x : Internals). has_code x.code) (seen_is old.heap.arena c.args.object (coded (map.get c.args.config.now.heap.arena c.args.object) c.code.result) c.requires.0 (coded_is (map.get c.args.config.now.heap.arena c.args.object) c.code.result c.code.ensures.code) t arena s) ∙ c.has_code.ensures))

pub returns-clause-is : goal.returns-clause-is
returns-clause-is g c = λ t arena s. ap (λ (x : Internals). has_code x.code) (seen_is c.args.config.now.heap.arena c.args.object (coded (map.get c.args.config.now.heap.arena c.args.object) c.code.result) c.requires.0 (coded_is (map.get c.args.config.now.heap.arena c.args.object) c.code.result c.code.ensures.code) t arena s) ∙ c.has_code.ensures
