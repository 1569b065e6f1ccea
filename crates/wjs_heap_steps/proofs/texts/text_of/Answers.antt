use Rattle.std.proofs.Common.{refl, sym}
use Rattle.wjs_base.proofs.TextLaws.{Denotes-Has, Grows-trans}
use Rattle.wjs_by_content.specs.Tables.{text_in, name_in}
use Rattle.wjs_heap_steps.proofs.Running.{does_ran}
use Rattle.wjs_heap_steps.proofs.Steps.{ran_nothing}
use Rattle.wjs_heap_steps.proofs.Later.{later_texts}
use Rattle.wjs_heap_steps.proofs.Spelling.{name_spelled, spelled_in, spells_itself}
use Rattle.wjs_heap_steps.proofs.texts.text_of.Goals as goal

pub text_of-requires : goal.text_of-requires
text_of-requires g c = name_spelled c.args.config.now.heap.texts c.args.name c.requires.name

pub returns-clause-does : goal.returns-clause-does
returns-clause-does g c =
    let m = g.S.WorldStore.meaning in
    let old = c.args.config.now in
    let texts = c.text_of.new.self in
    does_ran m _ _ old _ (ran_nothing m (λ t. name_in t c.args.name) (λ t. text_in t c.in_ok-id.id) old (record old.heap { texts = texts }) c.text_of.ensures.grows refl refl
    (λ t more. sym (spelled_in old.heap.texts texts t c.args.name c.in_ok-id.id c.requires.base.heap.table c.requires.name c.in_ok-id.ensures.ok c.text_of.ensures.grows more (Grows-trans old.heap.texts texts t c.text_of.ensures.grows more))))

pub returns-clause-later : goal.returns-clause-later
returns-clause-later g c = later_texts g.S.WorldStore.meaning c.args.config.now c.text_of.new.self c.requires.base c.text_of.ensures.table c.text_of.ensures.grows

pub returns-clause-found : goal.returns-clause-found
returns-clause-found g c = let old = c.args.config.now.heap.texts in Denotes-Has c.text_of.new.self c.in_ok-id.id _ (c.in_ok-id.ensures.ok (name_in old c.args.name) (spells_itself old c.args.name c.requires.name)).denotes

pub returns-clause-text : goal.returns-clause-text
returns-clause-text g c =
    let old = c.args.config.now.heap.texts in
    let texts = c.text_of.new.self in
    λ t more. spelled_in old texts t c.args.name c.in_ok-id.id c.requires.base.heap.table c.requires.name c.in_ok-id.ensures.ok c.text_of.ensures.grows more (Grows-trans old texts t c.text_of.ensures.grows more)
