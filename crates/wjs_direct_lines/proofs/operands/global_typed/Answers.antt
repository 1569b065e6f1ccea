use Rattle.wjs_direct_lines.proofs.Parts.{later_then}
use Rattle.wjs_direct_lines.proofs.Querying.{global_goes}
use Rattle.wjs_direct_lines.proofs.operands.global_typed.Goals as goal

pub value_typed-requires-clause-base : goal.value_typed-requires-clause-base
value_typed-requires-clause-base g c = c.in_ok-value.ensures.later.base

pub value_typed-requires-clause-value : goal.value_typed-requires-clause-value
value_typed-requires-clause-value g c = c.in_ok-value.ensures.found

pub returns-clause-later : goal.returns-clause-later
returns-clause-later g c = later_then g.S.WorldStore.meaning c.args.config.now c.get_value.new.config c.value_typed.new.config c.value_typed.result c.in_ok-value.ensures.later c.value_typed.ensures.later

pub returns-clause-does : goal.returns-clause-does
returns-clause-does g c =
    let k = c.value_typed.new in
    global_goes g.S.WorldStore.meaning c.args.config.now c.get_value.new.config k.config c.args.frame.now c.args.name c.in_ok-value.value c.value_typed.result k.stops.waits k.stops.top c.in_ok-value.ensures.does c.value_typed.ensures.does
