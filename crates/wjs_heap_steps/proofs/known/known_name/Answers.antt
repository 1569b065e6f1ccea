use Rattle.std.proofs.Common.{refl, sym}
use Rattle.wjs_base.proofs.TextLaws.{Denotes-Has, Grows-refl}
use Rattle.wjs_by_content.specs.Tables.{text_in}
use Rattle.wjs_texts.specs.Known.{text_of}
use Rattle.wjs_heap_steps.proofs.Running.{does_ran}
use Rattle.wjs_heap_steps.proofs.Steps.{ran_nothing}
use Rattle.wjs_heap_steps.proofs.Later.{later_same}
use Rattle.wjs_heap_steps.proofs.Spelling.{denotes_in}
use Rattle.wjs_heap_steps.proofs.known.known_name.Goals as goal

pub returns-in-Some-clause-does : goal.returns-in-Some-clause-does
returns-in-Some-clause-does g c =
    let m = g.S.WorldStore.meaning in
    let old = c.args.config.now in
    rw c.find.ensures.same (does_ran m _ _ old _ (ran_nothing m (λ t. text_of c.args.known) (λ t. text_in t c.in-Some.id) old old.heap (Grows-refl old.heap.texts) refl refl (λ t more. sym (denotes_in old.heap.texts t c.in-Some.id _ c.in-Some.ensures.finds more))))

pub returns-in-Some-clause-later : goal.returns-in-Some-clause-later
returns-in-Some-clause-later g c = rw c.find.ensures.same (later_same g.S.WorldStore.meaning c.args.config.now c.requires.base)

pub returns-in-Some-clause-found : goal.returns-in-Some-clause-found
returns-in-Some-clause-found g c = rw c.find.ensures.same (Denotes-Has c.args.config.now.heap.texts c.in-Some.id _ c.in-Some.ensures.finds, c.in-Some.ensures.no_index)

pub returns-in-Some-clause-text : goal.returns-in-Some-clause-text
returns-in-Some-clause-text g c = rw c.find.ensures.same (λ t more. denotes_in c.args.config.now.heap.texts t c.in-Some.id _ c.in-Some.ensures.finds more)

pub returns-in-None-clause-does : goal.returns-in-None-clause-does
returns-in-None-clause-does g c = rw c.find.ensures.same at c.new_name.ensures.does

pub returns-in-None-clause-later : goal.returns-in-None-clause-later
returns-in-None-clause-later g c = rw c.find.ensures.same at c.new_name.ensures.later

pub new_name-requires : goal.new_name-requires
new_name-requires g c = rw c.find.ensures.same (record { base = c.requires.base })
