use Rattle.wjs_calls.proofs.Rows.{ok_later}
use Rattle.wjs_variables.proofs.GlobalVariables.{on_unit, on_both, variable_there, variable_written}
use Rattle.wjs_variables.proofs.declarations.declare_variable.Goals as goal

pub write-requires-clause-there : goal.write-requires-clause-there
write-requires-clause-there g c = c.in_ok-found.ensures.later.frames c.args.frame.now c.requires.there

pub returns-in-Present-clause-does : goal.returns-in-Present-clause-does
returns-in-Present-clause-does g c =
    variable_there g.S.WorldStore.meaning c.args.frame.now c.args.id c.name_of-name.result c.args.config.now c.read_content.new.config c.in_ok-found.found c.name_of-name.ensures.name c.in_ok-found.ensures.does c.in_ok-found.ensures.later _ c.in-Present.is

pub returns-in-Absent-clause-later : goal.returns-in-Absent-clause-later
returns-in-Absent-clause-later g c = ok_later g.S.WorldStore.meaning c.args.config.now c.read_content.new.config c.write.new.config c.write.result c.in_ok-found.ensures.later c.write.ensures.later

pub returns-in-Absent-clause-does : goal.returns-in-Absent-clause-does
returns-in-Absent-clause-does g c =
    let m = g.S.WorldStore.meaning in
    on_both c.write.result (λ later does. variable_written m c.args.frame.now c.args.id c.name_of-name.result c.args.config.now c.read_content.new.config c.in_ok-found.found c.name_of-name.ensures.name c.in_ok-found.ensures.does c.in_ok-found.ensures.later c.write.new.config c.in-Absent.is does later) c.write.ensures.later (on_unit _ c.write.result c.write.ensures.does)
