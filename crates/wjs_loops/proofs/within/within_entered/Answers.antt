use Rattle.std.proofs.Common.{sym, ap, ◌∙◌}
use Rattle.wjs_meaning.specs.Deeds.{Act, Sub}
use Rattle.wjs_meaning.specs.Loops.{loop_body}
use Rattle.wjs_meaning.specs.Reading.{number}
use Rattle.wjs_frames.specs.Parts.{env_in}
use Rattle.wjs_step_common.proofs.Following.{follows_as}
use Rattle.wjs_effects.proofs.Nested.{inner_stands}
use Rattle.wjs_loops.proofs.BlockLines.{block_next, block_past}
use Rattle.wjs_loops.proofs.within.within_entered.Goals as goal

pub returns-in_ok-next-in-Some : goal.returns-in_ok-next-in-Some
returns-in_ok-next-in-Some g c =
    let m = g.S.WorldStore.meaning in
    let f = c.args.frame in
    let old = c.args.config.now in
    let t = c.enter_in_block.new.config.heap.texts in
    follows_as m _ _ _ _ c.enter_in_block.result (λ grows.
    ap (λ (a : Act). Sub a (loop_body f.node.0 (number c.args.u) (env_in m old t f)))
    (block_next m old f c.args.s t c.args.at c.in_ok-next-in-Some.next c.in-Some.statement c.in_ok-next-in-Some.ensures (sym c.statement_of_block.ensures ∙ c.in-Some.is)))
    c.enter_in_block.ensures

pub returns-in-None : goal.returns-in-None
returns-in-None g c =
    let m = g.S.WorldStore.meaning in
    let f = c.args.frame in
    let old = c.args.config.now in
    let t = c.go_on_with.new.config.heap.texts in
    follows_as m _ _ _ _ c.go_on_with.result (λ grows.
    ap (λ (a : Act). Sub a (loop_body f.node.0 (number c.args.u) (env_in m old t f)))
    (block_past m old f c.args.s t c.args.at (sym c.statement_of_block.ensures ∙ c.in-None.is)))
    c.go_on_with.ensures

pub enter_in_block-requires-clause-statement : goal.enter_in_block-requires-clause-statement
enter_in_block-requires-clause-statement g c =
    inner_stands g.S.WorldStore.meaning c.args.config.now c.args.frame c.args.s c.args.at c.in-Some.statement c.requires.runs.there c.requires.body
    (sym c.statement_of_block.ensures ∙ c.in-Some.is)
