use Rattle.std.proofs.Common.{sym, ap, ◌∙◌}
use Rattle.wjs_meaning.specs.Deeds.{Act, Sub}
use Rattle.wjs_meaning.specs.Loops.{loop_body}
use Rattle.wjs_meaning.specs.Reading.{number}
use Rattle.wjs_frames.specs.Parts.{env_in}
use Rattle.wjs_loops.proofs.BlockLines.{block_entry}
use Rattle.wjs_loops.proofs.rounds.without_test.Goals as goal

pub returns-in-Some-clause-is : goal.returns-in-Some-clause-is
returns-in-Some-clause-is g c = λ t.
    let m = g.S.WorldStore.meaning in
    let f = c.args.frame.now in
    let now = c.args.config.now in
    ap (λ (a : Act). Sub a (loop_body f.node.0 (number c.args.u) (env_in m now t f))) (block_entry m now f c.args.s t 0 _ (sym c.statement_of_block.ensures ∙ c.in-Some.is))

pub returns-in-Some-clause-found : goal.returns-in-Some-clause-found
returns-in-Some-clause-found g c = (c.requires.update, c.requires.body)
