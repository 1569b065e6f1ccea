use Rattle.std.proofs.Common.{◌≡◌, ℕ, List, ap, subst, drop}
use Rattle.wjs_tree.specs.declared.node.Clause.{Clause}
use Rattle.wjs_meaning.specs.Statements.{switch_from}
use Rattle.wjs_frames.specs.Parts.{env_in, node_now}
use Rattle.wjs_step_common.specs.Lists.{statements_of_clauses}
use Rattle.wjs_step_common.proofs.Following.{follows_as}
use Rattle.wjs_blocks.proofs.Switching.{statements_behind}
use Rattle.wjs_blocks.proofs.switches.clauses_from.Goals as goal

pub returns : goal.returns
returns g c =
    let meaning = g.S.WorldStore.meaning in
    let f = c.args.frame in
    let t = c.statements_from.new.config.heap.texts in
    let node = node_now meaning c.args.config.now f in
    let env = env_in meaning c.args.config.now t f in
    let P : List Clause → Type 0 = λ cs. drop c.in_ok-at.at (statements_of_clauses cs) ≡ statements_of_clauses (drop c.args.clause cs) in
    let behind = subst P c.clauses_of.ensures c.in_ok-at.ensures in
    follows_as meaning _ _ _ _ c.statements_from.result (λ grows. ap (λ (l : List ℕ). switch_from l env) (statements_behind t node c.args.clause c.in_ok-at.at behind)) c.statements_from.ensures
