use Rattle.std.proofs.Common.{ap, ◌∙◌, sym}
use Rattle.std.specs.Option.{option_map}
use Rattle.wjs_by_content.specs.Objects.{fixed}
use Rattle.wjs_by_content.specs.Tables.{value_in, name_in}
use Rattle.wjs_heap.specs.Means.{parts}
use Rattle.wjs_heap_steps.proofs.Having.{value_both}
use Rattle.wjs_heap_steps.proofs.Running.{does_ran}
use Rattle.wjs_heap_steps.proofs.Steps.{ran_look}
use Rattle.wjs_props.proofs.ByContent.{fixed_in}
use Rattle.wjs_props.proofs.Getting.{fixed_there}
use Rattle.wjs_model.specs.Soundness.{HasValue}
use Rattle.wjs_heap_steps.proofs.Seeing.{fixed_found}
use Rattle.wjs_heap_steps.proofs.Looking.{found_so, fixed_is_near}
use Rattle.wjs_heap_steps.proofs.looks.fixed.Goals as goal

pub returns-clause-does : goal.returns-clause-does
returns-clause-does g c =
    let m = g.S.WorldStore.meaning in
    let old = c.args.config.now in
    does_ran m _ _ old old (ran_look m (λ t arena. fixed arena c.args.object (name_in t c.args.name)) (λ t. option_map (value_in t) c.fixed.result) old (λ t more arena s. fixed_found _ t arena s c.args.object (name_in t c.args.name) c.requires.object.0 ∙ fixed_in (parts m old.heap) c.requires.base.heap t more c.args.object c.args.name c.requires.name ∙ ap (option_map (value_in t)) (sym c.fixed.ensures.fixed)))

pub returns-clause-is : goal.returns-clause-is
returns-clause-is g c = λ t more arena s. fixed_found _ t arena s c.args.object (name_in t c.args.name) c.requires.object.0 ∙ fixed_in (parts g.S.WorldStore.meaning c.args.config.now.heap) c.requires.base.heap t more c.args.object c.args.name c.requires.name ∙ ap (option_map (value_in t)) (sym c.fixed.ensures.fixed)

pub returns-clause-found : goal.returns-clause-found
returns-clause-found g c = found_so c.fixed.result (HasValue c.args.config.now) (λ v e.
    let m = g.S.WorldStore.meaning in
    let now = c.args.config.now in
    value_both now v (fixed_there (parts m now.heap) c.requires.base.heap c.args.object c.args.name v (sym c.fixed.ensures.fixed ∙ e)) (fixed_is_near m now c.args.object c.args.name v c.requires.base c.requires.object (sym c.fixed.ensures.fixed ∙ e)))
