use Rattle.std.proofs.Common.{sym, ap, ◌∙◌}
use Rattle.wjs_meaning.specs.Deeds.{Act, Sub, Normal}
use Rattle.wjs_meaning.specs.Loops.{loop_body}
use Rattle.wjs_meaning.specs.Reading.{number}
use Rattle.wjs_frames.specs.Parts.{env_in}
use Rattle.wjs_heap_steps.proofs.Later.{later_same}
use Rattle.wjs_loops.specs.declared.rounds.Position.TheVariants as positions
use Rattle.wjs_loops.specs.Rounds.{position_left}
use Rattle.wjs_loops.proofs.BlockLines.{block_past, proceeds_ended}
use Rattle.wjs_loops.proofs.within.next_within.Goals as goal

pub statement_within-requires-clause-statement : goal.statement_within-requires-clause-statement
statement_within-requires-clause-statement g c = sym c.statement_of_block.ensures ∙ c.in-Some.is

-- past the last statement
pub returns-in-None-clause-proceeds : goal.returns-in-None-clause-proceeds
returns-in-None-clause-proceeds g c =
    let m = g.S.WorldStore.meaning in
    let f = c.args.frame.now in
    let old = c.args.config.now in
    proceeds_ended m (position_left m old f (positions.Within c.args.u c.args.s c.args.at)) (position_left m old f c.position_after.result) (λ t. Normal) (λ t. loop_body f.node.0 (number c.args.u) (env_in m old t f)) old
    (λ t grows. ap (λ (a : Act). Sub a (loop_body f.node.0 (number c.args.u) (env_in m old t f))) (sym (block_past m old f c.args.s t c.args.at (sym c.statement_of_block.ensures ∙ c.in-None.is))))
    (λ t grows. c.position_after.ensures.is t grows)

pub returns-in-None-clause-later : goal.returns-in-None-clause-later
returns-in-None-clause-later g c = later_same g.S.WorldStore.meaning c.args.config.now c.requires.base
