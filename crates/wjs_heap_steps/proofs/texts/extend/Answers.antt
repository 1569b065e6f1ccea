use Rattle.std.proofs.Common.{◌++◌, List, refl, sym, ap, ◌∙◌}
use Rattle.std.specs.Prelude.{ℕ}
use Rattle.wjs_base.proofs.TextLaws.{Denotes-Has, Has-Denotes, Grows-trans}
use Rattle.wjs_by_content.specs.Tables.{text_in}
use Rattle.wjs_heap_steps.proofs.Running.{does_ran}
use Rattle.wjs_heap_steps.proofs.Steps.{ran_nothing}
use Rattle.wjs_heap_steps.proofs.Later.{later_texts}
use Rattle.wjs_heap_steps.proofs.Spelling.{denotes_in}
use Rattle.wjs_heap_steps.proofs.texts.extend.Goals as goal

pub returns-clause-does : goal.returns-clause-does
returns-clause-does g c =
    let m = g.S.WorldStore.meaning in
    let old = c.args.config.now in
    let texts = c.extend.new.self in
    let front = Has-Denotes old.heap.texts c.args.front c.requires.front in
    let units = text_in old.heap.texts c.args.front in
    does_ran m _ _ old _ (ran_nothing m (λ t. text_in t c.args.front ++ c.args.back.now) (λ t. text_in t c.in_ok-extend.field-0) old (record old.heap { texts = texts }) c.extend.ensures.grows refl refl
    (λ t more. ap (λ (us : List ℕ). us ++ c.args.back.now) (denotes_in old.heap.texts t c.args.front units front (Grows-trans old.heap.texts texts t c.extend.ensures.grows more))
    ∙ sym (denotes_in texts t c.in_ok-extend.field-0 (units ++ c.args.back.now) (c.in_ok-extend.ensures.ok units front).denotes more)))

pub returns-clause-later : goal.returns-clause-later
returns-clause-later g c = later_texts g.S.WorldStore.meaning c.args.config.now c.extend.new.self c.requires.base c.extend.ensures.table c.extend.ensures.grows

pub returns-clause-found : goal.returns-clause-found
returns-clause-found g c =
    let old = c.args.config.now.heap.texts in
    Denotes-Has c.extend.new.self c.in_ok-extend.field-0 _ (c.in_ok-extend.ensures.ok (text_in old c.args.front) (Has-Denotes old c.args.front c.requires.front)).denotes

pub returns-clause-text : goal.returns-clause-text
returns-clause-text g c =
    let old = c.args.config.now.heap.texts in
    let texts = c.extend.new.self in
    let front = Has-Denotes old c.args.front c.requires.front in
    let units = text_in old c.args.front in
    λ t more. denotes_in texts t c.in_ok-extend.field-0 (units ++ c.args.back.now) (c.in_ok-extend.ensures.ok units front).denotes more
    ∙ ap (λ (us : List ℕ). us ++ c.args.back.now) (sym (denotes_in old t c.args.front units front (Grows-trans old texts t c.extend.ensures.grows more)))
