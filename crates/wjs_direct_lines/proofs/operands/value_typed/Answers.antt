use Rattle.wjs_direct_lines.proofs.Querying.{type_told}
use Rattle.wjs_direct_lines.proofs.operands.value_typed.Goals as goal

pub returns-clause-does : goal.returns-clause-does
returns-clause-does g c =
    let s = c.args.stops.now in
    type_told g.S.WorldStore.meaning c.args.config.now c.type_of.new.config s.waits s.top c.args.value c.in_ok-name.name c.in_ok-name.ensures.does
