use Rattle.std.proofs.Common.{[], None, refl}
use Rattle.wjs_model.specs.Contents.{completion_in}
use Rattle.wjs_direct_lines.specs.References.{read_here}
use Rattle.wjs_direct_lines.proofs.Assigning.{value_does, value_found}
use Rattle.wjs_direct_lines.proofs.Parts.{did, in_all}
use Rattle.wjs_direct_lines.proofs.references.value_read.Goals as goal

pub returns-clause-later : goal.returns-clause-later
returns-clause-later g c = in_all c.value_or_thrown.result c.in_ok-end.ensures.later

pub returns-clause-found : goal.returns-clause-found
returns-clause-found g c =
    value_found g.S.WorldStore.meaning c.in_ok-end.end c.value_or_thrown.result [] None c.reference_completion.new.config c.value_or_thrown.ensures c.in_ok-end.ensures.found refl

pub returns-clause-does : goal.returns-clause-does
returns-clause-does g c =
    let m = g.S.WorldStore.meaning in
    let old = c.args.config.now in
    let new = c.reference_completion.new.config in
    let deeds = read_here m old c.args.frame.now c.args.reference in
    value_does m deeds c.in_ok-end.end c.value_or_thrown.result [] None old new c.value_or_thrown.ensures
    (did m completion_in deeds c.in_ok-end.end [] None old new c.in_ok-end.ensures.does)
