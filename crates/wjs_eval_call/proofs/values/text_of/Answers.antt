use Rattle.std.proofs.Common.{refl, sym, ap, ◌∙◌}
use Rattle.wjs_base.proofs.TextLaws.{Denotes-Has, Grows-trans}
use Rattle.wjs_by_content.specs.Conversions.{primitive_text}
use Rattle.wjs_by_content.specs.Tables.{value_in}
use Rattle.wjs_heap.specs.Means.{nothing}
use Rattle.wjs_heap_steps.proofs.Running.{does_ran}
use Rattle.wjs_heap_steps.proofs.Steps.{ran_nothing}
use Rattle.wjs_heap_steps.proofs.Later.{later_texts}
use Rattle.wjs_heap_steps.proofs.Spelling.{denotes_in}
use Rattle.wjs_step_common.proofs.Knowing.{knows, value_stays}
use Rattle.wjs_eval_call.proofs.values.text_of.Goals as goal

pub to_text-requires : goal.to_text-requires
to_text-requires g c = knows g.S.WorldStore.meaning c.args.config.now c.args.value c.requires.base c.requires.value

pub returns-clause-does : goal.returns-clause-does
returns-clause-does g c =
    let m = g.S.WorldStore.meaning in
    let old = c.args.config.now in
    does_ran m _ _ old _ (ran_nothing m (λ t. nothing) (λ t. nothing) old (record old.heap { texts = c.to_text.new.texts }) c.to_text.ensures.grows refl refl (λ t more. refl))

pub returns-clause-later : goal.returns-clause-later
returns-clause-later g c = later_texts g.S.WorldStore.meaning c.args.config.now c.to_text.new.texts c.requires.base c.in_ok-id.ensures.table c.to_text.ensures.grows

pub returns-clause-found : goal.returns-clause-found
returns-clause-found g c = Denotes-Has c.to_text.new.texts c.in_ok-id.id (primitive_text (value_in c.args.config.now.heap.texts c.args.value)) c.in_ok-id.ensures.ok.denotes

pub returns-clause-text : goal.returns-clause-text
returns-clause-text g c =
    let m = g.S.WorldStore.meaning in
    let old = c.args.config.now in
    let texts = c.to_text.new.texts in
    λ t more. denotes_in texts t c.in_ok-id.id (primitive_text (value_in old.heap.texts c.args.value)) c.in_ok-id.ensures.ok.denotes more
    ∙ ap primitive_text (sym (value_stays m old t c.args.value c.requires.base c.requires.value (Grows-trans old.heap.texts texts t c.to_text.ensures.grows more)))
