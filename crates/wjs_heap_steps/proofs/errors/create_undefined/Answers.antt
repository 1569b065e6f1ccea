use Rattle.std.proofs.Common.{sym, ap, ◌∙◌}
use Rattle.wjs_by_content.specs.Tables.{text_in, name_in}
use Rattle.wjs_meaning.specs.declared.trouble.Trouble.TheVariants as troubles
use Rattle.wjs_meaning.specs.Errors.{message_of, error_of}
use Rattle.wjs_heap_steps.proofs.Composing.{if_ok}
use Rattle.wjs_heap_steps.proofs.Making.{made_after, take_short}
use Rattle.std.proofs.lemmas.Result.{on_ok_weaker}
use Rattle.wjs_heap_steps.proofs.Later.{later_twice}
use Rattle.wjs_heap_steps.proofs.errors.create_undefined.Goals as goal

pub create_with-requires-clause-short : goal.create_with-requires-clause-short
create_with-requires-clause-short g c = take_short c.as_slice.result.now _ (c.as_slice.ensures.value ∙ c.in_ok-message.ensures)

pub returns-clause-does : goal.returns-clause-does
returns-clause-does g c =
    let name = c.args.name in
    if_ok _ _ c.create_with.result
    (λ o k. made_after g.S.WorldStore.meaning (λ t. name_in t name) (λ t. text_in t c.in_ok-id.id) (λ t. error_of troubles.NotDefined (name_in t name)) o c.args.config.now c.text_of.new.config c.create_with.new.config c.in_ok-id.ensures.does c.in_ok-id.ensures.later
    (k (λ t. name_in t name) (λ t more. c.as_slice.ensures.value ∙ c.in_ok-message.ensures ∙ ap (message_of troubles.NotDefined) (sym (c.units_of.ensures.text t more) ∙ c.in_ok-id.ensures.text t more))))
    c.create_with.ensures.does

pub returns-clause-later : goal.returns-clause-later
returns-clause-later g c = on_ok_weaker c.create_with.result (later_twice g.S.WorldStore.meaning c.args.config.now c.text_of.new.config c.create_with.new.config c.in_ok-id.ensures.later) c.create_with.ensures.later
