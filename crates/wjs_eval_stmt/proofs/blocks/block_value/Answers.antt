use Rattle.std.proofs.Common.{sym, drop, subst}
use Rattle.std.specs.Prelude.{OnOk}
use Rattle.wjs_meaning.specs.Deeds.{then_normal}
use Rattle.wjs_meaning.specs.Reading.{node_in}
use Rattle.wjs_meaning.specs.Statements.{block_from}
use Rattle.wjs_model.specs.Lists.{block_items}
use Rattle.wjs_model.specs.declared.frame.Completion.{Completion}
use Rattle.wjs_model.specs.Contents.{completion_in}
use Rattle.wjs_model.specs.Soundness.{HasCompletion}
use Rattle.wjs_frames.specs.Following.{Follows}
use Rattle.wjs_frames.specs.Parts.{env_in, node_now}
use Rattle.wjs_frames.proofs.Shorter.{follows_shorter}
use Rattle.wjs_effects.proofs.Only.{dropped_there, dropped_shortens}
use Rattle.wjs_eval_stmt.proofs.blocks.block_value.Goals as goal

pub block_statement-requires-clause-completion : goal.block_statement-requires-clause-completion
block_statement-requires-clause-completion g c =
    let old = c.args.config.now in
    subst (λ (e : Completion). HasCompletion old e) (sym c.dropped.ensures) (dropped_there old c.args.completion c.requires.completion)

pub returns : goal.returns
returns g c =
    let m = g.S.WorldStore.meaning in
    let old = c.args.config.now in
    let new = c.block_statement.new.config in
    let r = c.block_statement.result in
    let t = new.heap.texts in
    let f = c.args.frame in
    let node = node_in t (node_now m old f) in
    let env = env_in m old t f in
    let go = then_normal (block_from (drop c.args.at (block_items node)) env) in
    follows_shorter m _ _ old new r (dropped_shortens t c.args.completion go)
    (subst (λ (e : Completion). OnOk r (Follows m (go (completion_in t e)) old new)) c.dropped.ensures c.block_statement.ensures)
