use Rattle.std.proofs.Common.{◌<◌, List, Option, sym, ap, ◌∙◌, arith}
use Rattle.std.specs.Prelude.{map}
use Rattle.wjs_tree.specs.declared.node.Declarator.{Declarator}
use Rattle.wjs_base.specs.declared.ids.NodeId.{NodeId}
use Rattle.wjs_scope.specs.Places.{declarator_names, placed_names}
use Rattle.wjs_by_content.specs.Tables.{value_in}
use Rattle.wjs_base.specs.Text.{Table}
use Rattle.wjs_meaning.specs.Deeds.{Env, Normal, Act, Ret, Eval, AtExpr, AtStmt, then_value, then_normal}
use Rattle.wjs_meaning.specs.Programs.{entry}
use Rattle.wjs_meaning.specs.Reading.{number, numbers, variable_in}
use Rattle.wjs_meaning.specs.Statements as line
use Rattle.wjs_meaning.specs.Trees as trees
use Rattle.wjs_model.specs.declared.frame.Completion.TheVariants as completions
use Rattle.wjs_frames.specs.Parts.{env_in}
use Rattle.wjs_frames.proofs.Places.{node_known}
use Rattle.wjs_heap_steps.proofs.Peeking.{if_some}
use Rattle.wjs_effects.specs.declared.effect.Effect.TheVariants as effects
use Rattle.wjs_effects.specs.Effects.{carried}
use Rattle.wjs_effects.proofs.Leaving.{shorten_as, leaves_all, leaves_value, leaves_entered, leaves_by, leaves_last, leaves_through, leaves_as, leaves_ended}
use Rattle.wjs_effects.proofs.Lines.{stmt_is, label_there, block_is, handed_on, if_yes, if_no}
use Rattle.wjs_effects.proofs.statements.+forms.Goals as goal

pub effect_at-returns-clause-leaves : goal.effect_at-returns-clause-leaves
effect_at-returns-clause-leaves g t c =
    let some : 0 < c.args.steps.now = omega (arith, c.if-steps-eq0.false) in
    if_some _ _ c.form.result (λ x d. leaves_entered g.S.WorldStore.meaning c.args.config.now c.args.frame.now (AtStmt c.args.node.0) (carried x) c.args.steps.now c.form.new.steps some d) c.form.ensures.leaves

-- ---- by form

pub form-returns-in-Some-Expr-clause-leaves : goal.form-returns-in-Some-Expr-clause-leaves
form-returns-in-Some-Expr-clause-leaves g t c =
    let m = g.S.WorldStore.meaning in
    let now = c.args.config.now in
    let f = c.args.frame.now in
    let s = c.in-Some-Expr in
    let act : Table → Env → Act = λ t env. Eval (AtExpr s.e.0) env (then_value line.expr_done) in
    leaves_as m now f act (λ t env. entry (AtStmt c.args.node.0) env) (carried (effects.Evaluates s.e)) c.args.steps.now c.args.steps.now
    (λ t more. stmt_is m now f c.args.node _ t (s.ensures ∙ s.field-0-is)) (leaves_all m now f act c.args.steps.now)

pub form-returns-in-Some-If-clause-leaves : goal.form-returns-in-Some-If-clause-leaves
form-returns-in-Some-If-clause-leaves g t c =
    let m = g.S.WorldStore.meaning in
    let now = c.args.config.now in
    let f = c.args.frame.now in
    let s = c.in-Some-If in
    if_some _ _ c.condition.result (λ x d. leaves_as m now f (λ t env. Eval (AtExpr s.test.0) env (then_value (line.if_test s.yes.0 (number s.no) env))) (λ t env. entry (AtStmt c.args.node.0) env) (carried x) c.args.steps.now c.condition.new.steps
    (λ t more. stmt_is m now f c.args.node _ t (s.ensures ∙ s.field-0-is)) d) c.condition.ensures.leaves

pub form-returns-in-Some-Block-clause-leaves : goal.form-returns-in-Some-Block-clause-leaves
form-returns-in-Some-Block-clause-leaves g t c =
    let m = g.S.WorldStore.meaning in
    let now = c.args.config.now in
    let f = c.args.frame.now in
    let s = c.in-Some-Block in
    if_some _ _ c.block.result (λ x d. leaves_as m now f (λ t env. line.block_from (numbers c.as_slice.result.now) env) (λ t env. entry (AtStmt c.args.node.0) env) (carried x) c.args.steps.now c.block.new.steps
    (λ t more. stmt_is m now f c.args.node _ t (s.ensures ∙ s.field-0-is) ∙ ap (λ (l : List NodeId). line.block_from (numbers l) (env_in m now t f)) (sym c.as_slice.ensures)) d) c.block.ensures.leaves

pub form-returns-in-Some-Var-clause-leaves : goal.form-returns-in-Some-Var-clause-leaves
form-returns-in-Some-Var-clause-leaves g t c =
    let m = g.S.WorldStore.meaning in
    let now = c.args.config.now in
    let f = c.args.frame.now in
    let s = c.in-Some-Var in
    if_some _ _ c.variable.result (λ x d. leaves_as m now f (λ t env. line.vars_from c.args.node.0 0 (map (variable_in t) c.as_slice-in-Some-Var.result.now) env) (λ t env. entry (AtStmt c.args.node.0) env) (carried x) c.args.steps.now c.args.steps.now
    (λ t more. stmt_is m now f c.args.node _ t (s.ensures ∙ s.field-0-is) ∙ ap (λ (l : List Declarator). line.vars_from c.args.node.0 0 (map (variable_in t) l) (env_in m now t f)) (sym c.as_slice-in-Some-Var.ensures)) (d c.args.steps.now)) c.variable.ensures.leaves

pub form-variable-requires-clause-named : goal.form-variable-requires-clause-named
form-variable-requires-clause-named g t c = ap placed_names (c.in-Some-Var.ensures ∙ c.in-Some-Var.field-0-is) ∙ ap declarator_names (sym c.as_slice-in-Some-Var.ensures)

pub form-variable-requires-clause-texts : goal.form-variable-requires-clause-texts
form-variable-requires-clause-texts g t c =
    let now = c.args.config.now in
    let s = c.in-Some-Var in
    rw c.as_slice-in-Some-Var.ensures (node_known now.heap.texts now.units.items c.args.frame.now.tree c.args.node _ c.requires.base.units (s.ensures ∙ s.field-0-is))

pub form-returns-in-Some-Return-clause-leaves : goal.form-returns-in-Some-Return-clause-leaves
form-returns-in-Some-Return-clause-leaves g t c =
    let m = g.S.WorldStore.meaning in
    let now = c.args.config.now in
    let f = c.args.frame.now in
    let s = c.in-Some-Return in
    leaves_as m now f (λ t env. line.stmt_of c.args.node.0 (trees.Return (number s.value)) env) (λ t env. entry (AtStmt c.args.node.0) env) (carried c.result_of.result) c.args.steps.now c.args.steps.now
    (λ t more. stmt_is m now f c.args.node _ t (s.ensures ∙ s.field-0-is)) (c.result_of.ensures.leaves c.args.steps.now)

pub form-returns-in-Some-Break-clause-leaves : goal.form-returns-in-Some-Break-clause-leaves
form-returns-in-Some-Break-clause-leaves g t c =
    let m = g.S.WorldStore.meaning in
    let now = c.args.config.now in
    let f = c.args.frame.now in
    let s = c.in-Some-Break in
    leaves_ended m now f (λ t env. entry (AtStmt c.args.node.0) env) (completions.Breaks s.label) c.args.steps.now (λ t more. shorten_as _ _ (stmt_is m now f c.args.node _ t (s.ensures ∙ s.field-0-is)))

pub form-returns-in-Some-Break-clause-found : goal.form-returns-in-Some-Break-clause-found
form-returns-in-Some-Break-clause-found g t c =
    let now = c.args.config.now in
    let s = c.in-Some-Break in
    label_there now s.label (node_known now.heap.texts now.units.items c.args.frame.now.tree c.args.node _ c.requires.base.units (s.ensures ∙ s.field-0-is))

pub form-returns-in-Some-Continue-clause-leaves : goal.form-returns-in-Some-Continue-clause-leaves
form-returns-in-Some-Continue-clause-leaves g t c =
    let m = g.S.WorldStore.meaning in
    let now = c.args.config.now in
    let f = c.args.frame.now in
    let s = c.in-Some-Continue in
    leaves_ended m now f (λ t env. entry (AtStmt c.args.node.0) env) (completions.Continues s.label) c.args.steps.now (λ t more. shorten_as _ _ (stmt_is m now f c.args.node _ t (s.ensures ∙ s.field-0-is)))

pub form-returns-in-Some-Continue-clause-found : goal.form-returns-in-Some-Continue-clause-found
form-returns-in-Some-Continue-clause-found g t c =
    let now = c.args.config.now in
    let s = c.in-Some-Continue in
    label_there now s.label (node_known now.heap.texts now.units.items c.args.frame.now.tree c.args.node _ c.requires.base.units (s.ensures ∙ s.field-0-is))

pub form-returns-in-Some-Empty-clause-leaves : goal.form-returns-in-Some-Empty-clause-leaves
form-returns-in-Some-Empty-clause-leaves g t c =
    let m = g.S.WorldStore.meaning in
    let now = c.args.config.now in
    let f = c.args.frame.now in
    let s = c.in-Some-Empty in
    leaves_ended m now f (λ t env. entry (AtStmt c.args.node.0) env) completions.Normal c.args.steps.now (λ t more. shorten_as _ _ (stmt_is m now f c.args.node _ t (s.ensures ∙ s.field-0-is)))

-- ---- blocks and `if`

pub block-returns-clause-leaves : goal.block-returns-clause-leaves
block-returns-clause-leaves g t c =
    let m = g.S.WorldStore.meaning in
    let now = c.args.config.now in
    let f = c.args.frame.now in
    let s = c.in_ok-statement.statement in
    let before = c.args.steps.now in
    let after = c.effect_at.new.steps in
    if_some _ _ c.effect_at.result (λ x d. leaves_as m now f (λ t env. Eval (AtStmt s.0) env (then_normal (Ret Normal))) (λ t env. line.block_from (numbers c.args.statements.now) env) (carried x) before after
    (λ t more. block_is c.args.statements.now s (env_in m now t f) c.in_ok-statement.ensures.first c.in_ok-statement.ensures.one)
    (leaves_through m now f (AtStmt s.0) (then_normal (Ret Normal)) x before after handed_on d)) c.effect_at.ensures.leaves

pub condition-returns-clause-leaves : goal.condition-returns-clause-leaves
condition-returns-clause-leaves g t c =
    let m = g.S.WorldStore.meaning in
    let now = c.args.config.now in
    let f = c.args.frame.now in
    let truth = c.in_ok-truth.truth in
    let before = c.args.steps.now in
    let mid = c.value_at.new.steps in
    if_some _ _ c.chosen.result (λ x d. leaves_by m now f (AtExpr c.args.test.0) (λ t env. then_value (line.if_test c.args.yes.0 (number c.args.no) env)) (completions.Gives truth) (carried x) before mid c.chosen.new.steps (leaves_value m now f (AtExpr c.args.test.0) truth before mid c.in_ok-truth.ensures.does) d) c.chosen.ensures.leaves

pub chosen-returns-then-to_boolean-clause-leaves : goal.chosen-returns-then-to_boolean-clause-leaves
chosen-returns-then-to_boolean-clause-leaves g t c =
    let m = g.S.WorldStore.meaning in
    let now = c.args.config.now in
    let f = c.args.frame.now in
    let before = c.args.steps.now in
    let after = c.effect_at.new.steps in
    if_some _ _ c.effect_at.result (λ x d. leaves_as m now f (λ t env. Eval (AtStmt c.args.yes.0) env Ret) (λ t env. line.if_test c.args.yes.0 (number c.args.no) env (value_in t c.args.truth)) (carried x) before after
    (λ t more. if_yes c.args.yes.0 (number c.args.no) (env_in m now t f) (value_in t c.args.truth) (c.to_boolean.ensures t more ∙ c.if-to_boolean.true))
    (leaves_last m now f (AtStmt c.args.yes.0) (carried x) before after d)) c.effect_at.ensures.leaves

pub chosen-returns-else-to_boolean-clause-leaves : goal.chosen-returns-else-to_boolean-clause-leaves
chosen-returns-else-to_boolean-clause-leaves g t c =
    let m = g.S.WorldStore.meaning in
    let now = c.args.config.now in
    let f = c.args.frame.now in
    if_some _ _ c.otherwise.result (λ x d. leaves_as m now f (λ t env. line.else_of (number c.args.no) env) (λ t env. line.if_test c.args.yes.0 (number c.args.no) env (value_in t c.args.truth)) (carried x) c.args.steps.now c.otherwise.new.steps
    (λ t more. if_no c.args.yes.0 (number c.args.no) (env_in m now t f) (value_in t c.args.truth) (c.to_boolean.ensures t more ∙ c.if-to_boolean.false)) d) c.otherwise.ensures.leaves

pub otherwise-returns-in-Some-clause-leaves : goal.otherwise-returns-in-Some-clause-leaves
otherwise-returns-in-Some-clause-leaves g t c =
    let m = g.S.WorldStore.meaning in
    let now = c.args.config.now in
    let f = c.args.frame.now in
    let s = c.in-Some.s in
    let before = c.args.steps.now in
    let after = c.effect_at.new.steps in
    if_some _ _ c.effect_at.result (λ x d. leaves_as m now f (λ t env. Eval (AtStmt s.0) env Ret) (λ t env. line.else_of (number c.args.no) env) (carried x) before after
    (λ t more. ap (λ (o : Option NodeId). line.else_of (number o) (env_in m now t f)) c.in-Some.is) (leaves_last m now f (AtStmt s.0) (carried x) before after d)) c.effect_at.ensures.leaves

pub otherwise-returns-in-None-clause-leaves : goal.otherwise-returns-in-None-clause-leaves
otherwise-returns-in-None-clause-leaves g t c =
    let m = g.S.WorldStore.meaning in
    let now = c.args.config.now in
    let f = c.args.frame.now in
    leaves_ended m now f (λ t env. line.else_of (number c.args.no) env) completions.Normal c.args.steps.now (λ t more. shorten_as _ _ (ap (λ (o : Option NodeId). line.else_of (number o) (env_in m now t f)) c.in-None.is))
