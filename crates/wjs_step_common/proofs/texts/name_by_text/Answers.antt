use Rattle.std.proofs.Common.{◌++◌, List, sym, ap, ◌∙◌}
use Rattle.std.specs.Prelude.{ℕ}
use Rattle.wjs_base.specs.Text.{Table}
use Rattle.wjs_base.specs.declared.values.Value.{Value}
use Rattle.wjs_by_content.specs.Tables.{name_in, text_in, value_in}
use Rattle.wjs_by_content.specs.Conversions.{primitive_text}
use Rattle.wjs_step_common.proofs.Following.{does_same, does_told, does_as, later_same}
use Rattle.wjs_step_common.proofs.texts.name_by_text.Goals as goal

pub returns-in-Text-clause-does : goal.returns-in-Text-clause-does
returns-in-Text-clause-does g c = does_same g.S.WorldStore.meaning c.args.config.now (λ t. primitive_text (value_in t c.args.value)) (λ t. name_in t c.name_of.result) (λ t grows. ap (λ (v : Value). primitive_text (value_in t v)) c.in-Text.is ∙ sym (c.name_of.ensures.name t grows))

pub returns-in-Text-clause-later : goal.returns-in-Text-clause-later
returns-in-Text-clause-later g c = later_same g.S.WorldStore.meaning c.args.config.now c.requires.base

pub returns-clause-does : goal.returns-clause-does
returns-clause-does g c =
    let m = g.S.WorldStore.meaning in
    let old = c.args.config.now in
    let mid = c.intern.new.config in
    let text = λ (t : Table). primitive_text (value_in t c.args.value) in
    does_as m old mid (λ t. c.as_slice.result.now) text (λ t. name_in t c.name_of-2.result)
    (does_told m old mid (λ t go. go c.as_slice.result.now) (λ t. text_in t c.in_ok-id.id) (λ t. name_in t c.name_of-2.result) c.in_ok-id.ensures.does (λ t grows. c.name_of-2.ensures.name t grows))
    (λ t grows. c.as_slice.ensures.value ∙ c.in_ok-push_text.ensures t grows ∙ ap (λ (us : List ℕ). us ++ text t) c.new-units.ensures.items)
