use Rattle.std.proofs.Common.{◌≡◌, ◌-◌, suc, sym, ◌∙◌, arith, drop}
use Rattle.wjs_meaning.specs.Deeds.{AtStmt, node_here}
use Rattle.wjs_meaning.specs.Loops.{loop_body}
use Rattle.wjs_meaning.specs.Reading.{number}
use Rattle.wjs_meaning.specs.Statements.{block_from}
use Rattle.wjs_model.specs.Lists.{block_items}
use Rattle.wjs_frames.proofs.Parting.{stands_later, stands_if_later}
use Rattle.wjs_heap_steps.proofs.Later.{later_same}
use Rattle.wjs_quick.proofs.Coming.{later_left}
use Rattle.wjs_loops.proofs.BlockLines.{block_entry, proceeds_entered}
use Rattle.wjs_loops.proofs.within.block_entered.Goals as goal

pub returns-in-Some-clause-proceeds : goal.returns-in-Some-clause-proceeds
returns-in-Some-clause-proceeds g c =
    let m = g.S.WorldStore.meaning in
    let f = c.args.frame.now in
    let s = c.args.s in
    let old = c.args.config.now in
    let left_is : old.left ≡ suc (old.left - 1) = omega (arith, c.if-config-eq0.false) in
    proceeds_entered m f (AtStmt s.0) (λ t env. block_from (drop 0 (block_items (node_here env s.0))) env) (λ t env. loop_body f.node.0 (number c.args.u) env) old (old.left - 1) left_is
    (λ t. block_entry m old f s t 0 _ (sym c.statement_of_block.ensures ∙ c.in-Some.is))

pub returns-in-Some-clause-later : goal.returns-in-Some-clause-later
returns-in-Some-clause-later g c = let old = c.args.config.now in later_left g.S.WorldStore.meaning old (old.left - 1) c.requires.base

pub returns-in-Some-clause-found : goal.returns-in-Some-clause-found
returns-in-Some-clause-found g c =
    let m = g.S.WorldStore.meaning in
    let f = c.args.frame.now in
    let old = c.args.config.now in
    let new = record old { left = old.left - 1 } in
    let l = later_left m old (old.left - 1) c.requires.base in
    (stands_if_later m old f new c.args.u l c.requires.update, stands_later m old f new c.args.s l c.requires.body)

pub returns-then-config-eq0-clause-later : goal.returns-then-config-eq0-clause-later
returns-then-config-eq0-clause-later g c = later_same g.S.WorldStore.meaning c.args.config.now c.requires.base

pub returns-in-None-clause-later : goal.returns-in-None-clause-later
returns-in-None-clause-later g c = later_same g.S.WorldStore.meaning c.args.config.now c.requires.base
