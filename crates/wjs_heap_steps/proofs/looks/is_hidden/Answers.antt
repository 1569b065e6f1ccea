use Rattle.std.proofs.Common.{ap, ◌∙◌, sym}
use Rattle.wjs_by_content.specs.Objects.{is_hidden}
use Rattle.wjs_by_content.specs.Tables.{name_in}
use Rattle.wjs_heap.specs.Means.{parts}
use Rattle.wjs_heap_steps.proofs.Running.{does_ran}
use Rattle.wjs_heap_steps.proofs.Seeing.{hidden_found}
use Rattle.wjs_heap_steps.proofs.Steps.{ran_look}
use Rattle.wjs_arena.specs.declared.object.Flags.{Flags}
use Rattle.wjs_props.proofs.ByContent.{flags_same}
use Rattle.wjs_heap_steps.proofs.looks.is_hidden.Goals as goal

pub returns-clause-does : goal.returns-clause-does
returns-clause-does g c =
    let m = g.S.WorldStore.meaning in
    let old = c.args.config.now in
    does_ran m _ _ old old (ran_look m (λ t arena. is_hidden arena c.args.object (name_in t c.args.name)) (λ t. c.flags.result.hidden) old (λ t more arena s. hidden_found _ t arena s c.args.object (name_in t c.args.name) c.requires.object.0 ∙ ap (λ (f : Flags). f.hidden) (flags_same (parts m old.heap) c.requires.base.heap t more c.args.object c.args.name c.requires.name ∙ sym c.flags.ensures)))

pub returns-clause-is : goal.returns-clause-is
returns-clause-is g c = λ t more arena s. hidden_found _ t arena s c.args.object (name_in t c.args.name) c.requires.object.0 ∙ ap (λ (f : Flags). f.hidden) (flags_same (parts g.S.WorldStore.meaning c.args.config.now.heap) c.requires.base.heap t more c.args.object c.args.name c.requires.name ∙ sym c.flags.ensures)
