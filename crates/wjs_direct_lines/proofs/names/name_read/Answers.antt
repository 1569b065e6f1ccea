use Rattle.std.proofs.Common.{◌-◌}
use Rattle.wjs_meaning.specs.Deeds.{AtExpr}
use Rattle.wjs_model.specs.declared.operand.Operand.TheVariants as operands
use Rattle.wjs_quick.proofs.Coming.{later_left}
use Rattle.wjs_heap_steps.proofs.Later.{later_twice}
use Rattle.wjs_direct_lines.specs.Deeds.{goal_here}
use Rattle.wjs_direct_lines.proofs.Assigning.{value_does, value_found}
use Rattle.wjs_direct_lines.proofs.NameReading.{name_did}
use Rattle.wjs_direct_lines.proofs.Parts.{in_all}
use Rattle.wjs_direct_lines.proofs.names.name_read.Goals as goal

pub name_completion-requires-clause-base : goal.name_completion-requires-clause-base
name_completion-requires-clause-base g c = (later_left g.S.WorldStore.meaning c.args.config.now (c.args.config.now.left - 1) c.requires.base).base

pub name_completion-requires-clause-there : goal.name_completion-requires-clause-there
name_completion-requires-clause-there g c = (later_left g.S.WorldStore.meaning c.args.config.now (c.args.config.now.left - 1) c.requires.base).frames c.args.frame.now c.requires.there

pub name_completion-requires-clause-text : goal.name_completion-requires-clause-text
name_completion-requires-clause-text g c = c.requires.operand.has

pub returns-clause-later : goal.returns-clause-later
returns-clause-later g c =
    let m = g.S.WorldStore.meaning in
    let old = c.args.config.now in
    in_all c.value_or_thrown.result (later_twice m old (record old { left = old.left - 1 }) c.name_completion.new.config (later_left m old (old.left - 1) c.requires.base) c.in_ok-end.ensures.later)

pub returns-clause-found : goal.returns-clause-found
returns-clause-found g c =
    let s = c.args.stops.now in
    value_found g.S.WorldStore.meaning c.in_ok-end.end c.value_or_thrown.result s.waits s.top c.name_completion.new.config c.value_or_thrown.ensures c.in_ok-end.ensures.found c.requires.empty

pub returns-clause-does : goal.returns-clause-does
returns-clause-does g c =
    let m = g.S.WorldStore.meaning in
    let old = c.args.config.now in
    let new = c.name_completion.new.config in
    let f = c.args.frame.now in
    let s = c.args.stops.now in
    value_does m (goal_here m old f (AtExpr c.args.node.0)) c.in_ok-end.end c.value_or_thrown.result s.waits s.top old new c.value_or_thrown.ensures
    (name_did m old new f c.args.node (operands.Name c.args.place c.args.name) c.in_ok-end.end c.requires.left c.requires.operand c.in_ok-end.ensures.does)
