use Rattle.std.proofs.Common.{refl, sym}
use Rattle.wjs_base.proofs.TextLaws.{Denotes-Has}
use Rattle.wjs_by_content.specs.Tables.{text_in}
use Rattle.wjs_heap_steps.proofs.Running.{does_ran}
use Rattle.wjs_heap_steps.proofs.Steps.{ran_nothing}
use Rattle.wjs_heap_steps.proofs.Later.{later_texts}
use Rattle.wjs_heap_steps.proofs.Spelling.{denotes_in}
use Rattle.wjs_heap_steps.proofs.texts.intern.Goals as goal

pub returns-clause-does : goal.returns-clause-does
returns-clause-does g c =
    let m = g.S.WorldStore.meaning in
    let old = c.args.config.now in
    let texts = c.intern.new.self in
    does_ran m _ _ old _ (ran_nothing m (λ t. c.args.units.now) (λ t. text_in t c.in_ok-intern.field-0) old (record old.heap { texts = texts }) c.intern.ensures.grows refl refl (λ t more. sym (denotes_in texts t c.in_ok-intern.field-0 c.args.units.now c.in_ok-intern.ensures.ok.denotes more)))

pub returns-clause-later : goal.returns-clause-later
returns-clause-later g c = later_texts g.S.WorldStore.meaning c.args.config.now c.intern.new.self c.requires.base c.intern.ensures.table c.intern.ensures.grows

pub returns-clause-found : goal.returns-clause-found
returns-clause-found g c = Denotes-Has c.intern.new.self c.in_ok-intern.field-0 c.args.units.now c.in_ok-intern.ensures.ok.denotes

pub returns-clause-text : goal.returns-clause-text
returns-clause-text g c = λ t more. denotes_in c.intern.new.self t c.in_ok-intern.field-0 c.args.units.now c.in_ok-intern.ensures.ok.denotes more
