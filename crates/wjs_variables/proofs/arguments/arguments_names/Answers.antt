use Rattle.wjs_heap.specs.Means.{nothing}
use Rattle.wjs_heap_steps.proofs.Later.{later_twice}
use Rattle.wjs_variables.proofs.arguments.arguments_names.Goals as goal

pub returns-clause-does : goal.returns-clause-does
returns-clause-does g c = record { by = λ go later r h. c.in_ok-callee.ensures.does.by (λ x. go nothing) later r (c.in_ok-length.ensures.does.by (λ x. go nothing) later r h) }

pub returns-clause-later : goal.returns-clause-later
returns-clause-later g c = later_twice g.S.WorldStore.meaning c.args.config.now c.known_name.new.config c.known_name-2.new.config c.in_ok-callee.ensures.later c.in_ok-length.ensures.later
