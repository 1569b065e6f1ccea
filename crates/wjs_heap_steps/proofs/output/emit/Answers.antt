use Rattle.wjs_heap_steps.proofs.Later.{later_out}
use Rattle.wjs_heap_steps.proofs.Running.{does_ran}
use Rattle.wjs_heap_steps.proofs.Steps.{ran_output}
use Rattle.wjs_heap_steps.proofs.output.emit.Goals as goal

pub returns-clause-does : goal.returns-clause-does
returns-clause-does g c =
    let m = g.S.WorldStore.meaning in
    let old = c.args.config.now in
    let longer = record old { pending = c.extend_from_slice.new.self } in
    does_ran m _ _ old (record old { pending = longer.pending }) (ran_output m c.args.bytes.now old longer c.in_ok-extend_from_slice.ensures.items)

pub returns-clause-later : goal.returns-clause-later
returns-clause-later g c = later_out g.S.WorldStore.meaning c.args.config.now c.extend_from_slice.new.self c.requires.base
