use Rattle.std.proofs.Common.{sym, ap, subst, ◌∙◌}
use Rattle.wjs_meaning.specs.Reading.{node_in}
use Rattle.wjs_model.specs.Contents.{holding_in}
use Rattle.wjs_frames.specs.Parts.{env_in, node_now}
use Rattle.wjs_step_common.proofs.Following.{follows_as}
use Rattle.wjs_eval_stmt.specs.declared.beginnings.Beginning.{Beginning}
use Rattle.wjs_eval_stmt.specs.Beginnings.{CanBegin, goes}
use Rattle.wjs_eval_stmt.proofs.Entries.{begins_same, begin_stands}
use Rattle.wjs_eval_stmt.proofs.begins.statement.Goals as goal

pub returns-in-Enters : goal.returns-in-Enters
returns-in-Enters g c =
    let m = g.S.WorldStore.meaning in
    let old = c.args.config.now in
    let f = c.args.frame in
    let n = node_now m old f in
    let t = c.begin_part.new.config.heap.texts in
    let env = env_in m old t f in
    let held = holding_in t f.held in
    follows_as m _ _ _ _ c.begin_part.result (λ grows.
    ap (λ (b : Beginning). goes t f.node.0 (node_in t n) held env b) (sym c.in-Enters.is ∙ c.beginning_of.ensures) ∙ begins_same t f.node.0 n held env)
    c.begin_part.ensures

pub returns-in-Ends : goal.returns-in-Ends
returns-in-Ends g c =
    let m = g.S.WorldStore.meaning in
    let old = c.args.config.now in
    let f = c.args.frame in
    let n = node_now m old f in
    let t = c.finish.new.config.heap.texts in
    let env = env_in m old t f in
    let held = holding_in t f.held in
    follows_as m _ _ _ _ c.finish.result (λ grows.
    ap (λ (b : Beginning). goes t f.node.0 (node_in t n) held env b) (sym c.in-Ends.is ∙ c.beginning_of.ensures) ∙ begins_same t f.node.0 n held env)
    c.finish.ensures

pub returns-in-Block : goal.returns-in-Block
returns-in-Block g c =
    let m = g.S.WorldStore.meaning in
    let old = c.args.config.now in
    let f = c.args.frame in
    let n = node_now m old f in
    let t = c.block_from.new.config.heap.texts in
    let env = env_in m old t f in
    let held = holding_in t f.held in
    follows_as m _ _ _ _ c.block_from.result (λ grows.
    ap (λ (b : Beginning). goes t f.node.0 (node_in t n) held env b) (sym c.in-Block.is ∙ c.beginning_of.ensures) ∙ begins_same t f.node.0 n held env)
    c.block_from.ensures

pub returns-in-Variables : goal.returns-in-Variables
returns-in-Variables g c =
    let m = g.S.WorldStore.meaning in
    let old = c.args.config.now in
    let f = c.args.frame in
    let n = node_now m old f in
    let t = c.variables_from.new.config.heap.texts in
    let env = env_in m old t f in
    let held = holding_in t f.held in
    follows_as m _ _ _ _ c.variables_from.result (λ grows.
    ap (λ (b : Beginning). goes t f.node.0 (node_in t n) held env b) (sym c.in-Variables.is ∙ c.beginning_of.ensures) ∙ begins_same t f.node.0 n held env)
    c.variables_from.ensures

pub returns-in-Loop : goal.returns-in-Loop
returns-in-Loop g c =
    let m = g.S.WorldStore.meaning in
    let old = c.args.config.now in
    let f = c.args.frame in
    let n = node_now m old f in
    let t = c.for_from.new.config.heap.texts in
    let env = env_in m old t f in
    let held = holding_in t f.held in
    follows_as m _ _ _ _ c.for_from.result (λ grows.
    ap (λ (b : Beginning). goes t f.node.0 (node_in t n) held env b) (sym c.in-Loop.is ∙ c.beginning_of.ensures) ∙ begins_same t f.node.0 n held env)
    c.for_from.ensures

pub returns-in-Declares : goal.returns-in-Declares
returns-in-Declares g c =
    let m = g.S.WorldStore.meaning in
    let old = c.args.config.now in
    let f = c.args.frame in
    let n = node_now m old f in
    let t = c.for_variables.new.config.heap.texts in
    let env = env_in m old t f in
    let held = holding_in t f.held in
    follows_as m _ _ _ _ c.for_variables.result (λ grows.
    ap (λ (b : Beginning). goes t f.node.0 (node_in t n) held env b) (sym c.in-Declares.is ∙ c.beginning_of.ensures) ∙ begins_same t f.node.0 n held env)
    c.for_variables.ensures

pub begin_part-requires-clause-point : goal.begin_part-requires-clause-point
begin_part-requires-clause-point g c =
    let m = g.S.WorldStore.meaning in
    let old = c.args.config.now in
    let f = c.args.frame in
    let can = subst (λ (b : Beginning). CanBegin old f b) (sym c.beginning_of.ensures ∙ c.in-Enters.is) (begin_stands m old f c.requires.runs.running.base c.requires.runs.there) in
    can.0

pub begin_part-requires-clause-part : goal.begin_part-requires-clause-part
begin_part-requires-clause-part g c =
    let m = g.S.WorldStore.meaning in
    let old = c.args.config.now in
    let f = c.args.frame in
    let can = subst (λ (b : Beginning). CanBegin old f b) (sym c.beginning_of.ensures ∙ c.in-Enters.is) (begin_stands m old f c.requires.runs.running.base c.requires.runs.there) in
    can.1

pub finish-requires-clause-completion : goal.finish-requires-clause-completion
finish-requires-clause-completion g c =
    let m = g.S.WorldStore.meaning in
    let old = c.args.config.now in
    let f = c.args.frame in
    let can = subst (λ (b : Beginning). CanBegin old f b) (sym c.beginning_of.ensures ∙ c.in-Ends.is) (begin_stands m old f c.requires.runs.running.base c.requires.runs.there) in
    can

pub for_from-requires-clause-test : goal.for_from-requires-clause-test
for_from-requires-clause-test g c =
    let m = g.S.WorldStore.meaning in
    let old = c.args.config.now in
    let f = c.args.frame in
    let can = subst (λ (b : Beginning). CanBegin old f b) (sym c.beginning_of.ensures ∙ c.in-Loop.is) (begin_stands m old f c.requires.runs.running.base c.requires.runs.there) in
    can.0

pub for_from-requires-clause-update : goal.for_from-requires-clause-update
for_from-requires-clause-update g c =
    let m = g.S.WorldStore.meaning in
    let old = c.args.config.now in
    let f = c.args.frame in
    let can = subst (λ (b : Beginning). CanBegin old f b) (sym c.beginning_of.ensures ∙ c.in-Loop.is) (begin_stands m old f c.requires.runs.running.base c.requires.runs.there) in
    can.1.0

pub for_from-requires-clause-body : goal.for_from-requires-clause-body
for_from-requires-clause-body g c =
    let m = g.S.WorldStore.meaning in
    let old = c.args.config.now in
    let f = c.args.frame in
    let can = subst (λ (b : Beginning). CanBegin old f b) (sym c.beginning_of.ensures ∙ c.in-Loop.is) (begin_stands m old f c.requires.runs.running.base c.requires.runs.there) in
    can.1.1
