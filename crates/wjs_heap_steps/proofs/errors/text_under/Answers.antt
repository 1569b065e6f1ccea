use Rattle.wjs_by_content.specs.Tables.{text_in, name_in}
use Rattle.wjs_texts.specs.Known.{text_of}
use Rattle.wjs_heap_steps.proofs.Composing.{quiet_then}
use Rattle.wjs_heap_steps.proofs.Later.{later_twice}
use Rattle.wjs_heap_steps.proofs.errors.text_under.Goals as goal

pub returns-clause-does : goal.returns-clause-does
returns-clause-does g c = quiet_then g.S.WorldStore.meaning (λ t. c.args.units.now) (λ t. text_in t c.in_ok-text.text) (λ t. text_of c.args.known) (λ t. name_in t c.in_ok-name.name) c.args.config.now c.intern.new.config c.known_name.new.config c.in_ok-text.ensures.does c.in_ok-name.ensures.does

pub returns-clause-later : goal.returns-clause-later
returns-clause-later g c = later_twice g.S.WorldStore.meaning c.args.config.now c.intern.new.config c.known_name.new.config c.in_ok-text.ensures.later c.in_ok-name.ensures.later
