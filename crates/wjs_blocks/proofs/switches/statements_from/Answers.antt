use Rattle.std.proofs.Common.{List, ap, sym, ◌∙◌}
use Rattle.std.specs.Prelude.{slice_get}
use Rattle.wjs_tree.specs.declared.node.Clause.{Clause}
use Rattle.wjs_frames.specs.Parts.{env_in, node_now}
use Rattle.wjs_step_common.specs.Lists.{statements_of_clauses}
use Rattle.wjs_step_common.proofs.Following.{follows_as}
use Rattle.wjs_blocks.proofs.Switching.{statement_at, statement_end}
use Rattle.wjs_blocks.proofs.Standing.{clause_statement_stands}
use Rattle.wjs_blocks.proofs.switches.statements_from.Goals as goal

pub returns-in_ok-next-in-Some : goal.returns-in_ok-next-in-Some
returns-in_ok-next-in-Some g c =
    let meaning = g.S.WorldStore.meaning in
    let f = c.args.frame in
    let t = c.enter_at_once.new.config.heap.texts in
    let listed = sym (ap (λ (cs : List Clause). slice_get (statements_of_clauses cs) c.args.at) c.clauses_of.ensures) ∙ sym c.statement_at.ensures ∙ c.in-Some.is in
    follows_as meaning _ _ _ _ c.enter_at_once.result (λ grows.
    statement_at t (node_now meaning c.args.config.now f) (env_in meaning c.args.config.now t f) c.args.at c.in_ok-next-in-Some.next c.in-Some.statement
    c.in_ok-next-in-Some.ensures listed) c.enter_at_once.ensures

pub returns-in-None : goal.returns-in-None
returns-in-None g c =
    let meaning = g.S.WorldStore.meaning in
    let f = c.args.frame in
    let t = c.finish.new.config.heap.texts in
    let listed = sym (ap (λ (cs : List Clause). slice_get (statements_of_clauses cs) c.args.at) c.clauses_of.ensures) ∙ sym c.statement_at.ensures ∙ c.in-None.is in
    follows_as meaning _ _ _ _ c.finish.result (λ grows.
    statement_end t (node_now meaning c.args.config.now f) (env_in meaning c.args.config.now t f) c.args.at listed) c.finish.ensures

pub enter_at_once-requires-clause-part : goal.enter_at_once-requires-clause-part
enter_at_once-requires-clause-part g c =
    let listed = sym (ap (λ (cs : List Clause). slice_get (statements_of_clauses cs) c.args.at) c.clauses_of.ensures) ∙ sym c.statement_at.ensures ∙ c.in-Some.is in
    clause_statement_stands g.S.WorldStore.meaning c.args.config.now c.args.frame c.requires.runs.there c.args.at c.in-Some.statement listed
