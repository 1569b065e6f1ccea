use Rattle.std.proofs.Common.{sym, ap, drop, subst}
use Rattle.wjs_meaning.specs.Deeds.{Act, Sub, node_here}
use Rattle.wjs_meaning.specs.Loops.{loop_body}
use Rattle.wjs_meaning.specs.Reading.{number}
use Rattle.wjs_meaning.specs.Statements.{block_from}
use Rattle.wjs_model.specs.declared.frame.Completion.{Completion}
use Rattle.wjs_model.specs.Contents.{completion_in}
use Rattle.wjs_model.specs.Lists.{block_items}
use Rattle.wjs_frames.specs.Parts.{env_in}
use Rattle.wjs_effects.specs.Proceeding.{Proceeds}
use Rattle.wjs_effects.proofs.Proceeding.{proceeds_same}
use Rattle.wjs_loops.specs.declared.rounds.Position.TheVariants as positions
use Rattle.wjs_loops.specs.Rounds.{position_left, within_after}
use Rattle.wjs_effects.proofs.Passing.{other_passes}
use Rattle.wjs_loops.proofs.BlockLines.{proceeds_ended}
use Rattle.wjs_loops.proofs.within.after_statement.Goals as goal

pub returns-in-Normal-clause-proceeds : goal.returns-in-Normal-clause-proceeds
returns-in-Normal-clause-proceeds g c =
    let m = g.S.WorldStore.meaning in
    let f = c.args.frame.now in
    let now = c.args.config.now in
    let left = position_left m now f (positions.Within c.args.u c.args.s c.args.next) in
    subst (λ (e : Completion). Proceeds m (λ t. within_after m now f c.args.u c.args.s c.args.next t (completion_in t e)) left now now) (sym c.in-Normal.is) (proceeds_same m left now)

-- the block ends with the statement's end
pub returns-in_default-clause-proceeds : goal.returns-in_default-clause-proceeds
returns-in_default-clause-proceeds g c =
    let m = g.S.WorldStore.meaning in
    let f = c.args.frame.now in
    let now = c.args.config.now in
    let u = c.args.u in
    let s = c.args.s in
    let e = c.args.completion in
    proceeds_ended m (λ t. within_after m now f u s c.args.next t (completion_in t e)) (position_left m now f c.position_after.result) (λ t. completion_in t e) (λ t. loop_body f.node.0 (number u) (env_in m now t f)) now
    (λ t grows. let env = env_in m now t f in ap (λ (a : Act). Sub a (loop_body f.node.0 (number u) env)) (other_passes (block_from (drop c.args.next (block_items (node_here env s.0))) env) t e c.in_default.not-Normal))
    (λ t grows. c.position_after.ensures.is t grows)

pub returns-in-Normal-clause-found : goal.returns-in-Normal-clause-found
returns-in-Normal-clause-found g c = (c.requires.update, c.requires.body)
