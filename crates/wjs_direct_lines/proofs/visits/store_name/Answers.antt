use Rattle.wjs_by_content.specs.Tables.{name_in}
use Rattle.wjs_heap_steps.proofs.Later.{later_twice}
use Rattle.wjs_direct_lines.proofs.Naming.{text_stored}
use Rattle.wjs_direct_lines.proofs.visits.store_name.Goals as goal

pub store_and_end-requires-clause-base : goal.store_and_end-requires-clause-base
store_and_end-requires-clause-base g c = c.in_ok-id.ensures.later.base

pub store_and_end-requires-clause-there : goal.store_and_end-requires-clause-there
store_and_end-requires-clause-there g c = c.in_ok-id.ensures.later.frames c.args.frame.now c.requires.there

pub store_and_end-requires-clause-reference : goal.store_and_end-requires-clause-reference
store_and_end-requires-clause-reference g c = c.in_ok-id.ensures.later.references c.args.reference c.requires.reference

pub returns-clause-does : goal.returns-clause-does
returns-clause-does g c =
    let f = c.args.frame.now in
    text_stored g.S.WorldStore.meaning f c.args.config.now c.text_of.new.config c.store_and_end.new.config (λ t. name_in t c.args.slot.name) c.in_ok-id.id c.args.reference c.in_ok-end.end
    c.in_ok-id.ensures.later c.in_ok-id.ensures.does c.in_ok-end.ensures.does

pub returns-clause-later : goal.returns-clause-later
returns-clause-later g c = later_twice g.S.WorldStore.meaning c.args.config.now c.text_of.new.config c.store_and_end.new.config c.in_ok-id.ensures.later c.in_ok-end.ensures.later
