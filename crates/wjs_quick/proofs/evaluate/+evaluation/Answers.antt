use Rattle.std.proofs.Common.{◌<◌, refl, sym, ◌∙◌, arith, rules}
use Rattle.wjs_base.specs.declared.values.Value.TheVariants as values
use Rattle.wjs_tree.specs.declared.node.Node.TheVariants as nodes
use Rattle.wjs_by_content.specs.Tables.{value_in}
use Rattle.wjs_meaning.specs.Deeds.{Ret, Eval, AtExpr, then_value}
use Rattle.wjs_meaning.specs.Expressions as line
use Rattle.wjs_meaning.specs.Programs.{entry}
use Rattle.wjs_meaning.specs.Reading.{spelt_in}
use Rattle.wjs_model.specs.Texts.{KnowsSpelt}
use Rattle.wjs_frames.specs.Parts.{env_in}
use Rattle.wjs_frames.proofs.OperandLines.{expr_is}
use Rattle.wjs_frames.proofs.Places.{node_known}
use Rattle.wjs_heap_steps.proofs.Peeking.{if_some}
use Rattle.wjs_quick.specs.Operating.{after_prefix}
use Rattle.wjs_quick.proofs.Coming.{ends_as, comes_entered, comes_literal, comes_then, comes_last, comes_as, comes_ended}
use Rattle.wjs_quick.proofs.Operations.{prefix_is, left_is_held, and_goes_on, and_ends, or_goes_on, or_ends}
use Rattle.wjs_quick.proofs.evaluate.+evaluation.Goals as goal

-- ---- a step, and what follows it

pub value_with-returns-in-Number-clause-does : goal.value_with-returns-in-Number-clause-does
value_with-returns-in-Number-clause-does g t c =
    let some : 0 < c.args.steps.now = omega (arith, c.if-steps-eq0.false) in
    comes_literal g.S.WorldStore.meaning c.args.config.now c.args.frame.now c.args.node (nodes.Number c.in-Number.number) (values.Number c.in-Number.number) c.args.steps.now some (c.requires.node ∙ c.in-Number.is) (λ t. refl)

pub value_with-returns-in-Name-clause-does : goal.value_with-returns-in-Name-clause-does
value_with-returns-in-Name-clause-does g t c =
    let some : 0 < c.args.steps.now = omega (arith, c.if-steps-eq0.false) in
    if_some _ _ c.name_value.result (λ v d. d c.args.steps.now some) c.name_value.ensures.does

pub value_with-returns-in-Text-clause-does : goal.value_with-returns-in-Text-clause-does
value_with-returns-in-Text-clause-does g t c =
    let some : 0 < c.args.steps.now = omega (arith, c.if-steps-eq0.false) in
    comes_literal g.S.WorldStore.meaning c.args.config.now c.args.frame.now c.args.node (nodes.Text c.in-Text.id) (values.Text c.in-Text.id) c.args.steps.now some (c.requires.node ∙ c.in-Text.is) (λ t. refl)

pub value_with-returns-in-Text-clause-found : goal.value_with-returns-in-Text-clause-found
value_with-returns-in-Text-clause-found g t c =
    let now = c.args.config.now in
    node_known now.heap.texts now.units.items c.args.frame.now.tree c.args.node (nodes.Text c.in-Text.id) c.requires.base.units (c.requires.node ∙ c.in-Text.is)

pub value_with-returns-in-Bool-clause-does : goal.value_with-returns-in-Bool-clause-does
value_with-returns-in-Bool-clause-does g t c =
    let some : 0 < c.args.steps.now = omega (arith, c.if-steps-eq0.false) in
    comes_literal g.S.WorldStore.meaning c.args.config.now c.args.frame.now c.args.node (nodes.Bool c.in-Bool.truth) (values.Bool c.in-Bool.truth) c.args.steps.now some (c.requires.node ∙ c.in-Bool.is) (λ t. refl)

pub value_with-returns-in-Null-clause-does : goal.value_with-returns-in-Null-clause-does
value_with-returns-in-Null-clause-does g t c =
    let some : 0 < c.args.steps.now = omega (arith, c.if-steps-eq0.false) in
    comes_literal g.S.WorldStore.meaning c.args.config.now c.args.frame.now c.args.node nodes.Null values.Null c.args.steps.now some (c.requires.node ∙ c.in-Null.is) (λ t. refl)

pub value_with-returns-in-This-clause-does : goal.value_with-returns-in-This-clause-does
value_with-returns-in-This-clause-does g t c =
    let some : 0 < c.args.steps.now = omega (arith, c.if-steps-eq0.false) in
    rw c.this.ensures (comes_literal g.S.WorldStore.meaning c.args.config.now c.args.frame.now c.args.node nodes.This c.args.frame.now.this c.args.steps.now some (c.requires.node ∙ c.in-This.is) (λ t. refl))

pub value_with-returns-in-This-clause-found : goal.value_with-returns-in-This-clause-found
value_with-returns-in-This-clause-found g t c = rw c.this.ensures c.requires.there.this

pub value_with-returns-in_default-clause-does : goal.value_with-returns-in_default-clause-does
value_with-returns-in_default-clause-does g t c =
    let some : 0 < c.args.steps.now = omega (arith, c.if-steps-eq0.false) in
    if_some _ _ c.form_with.result (λ v d. comes_entered g.S.WorldStore.meaning c.args.config.now c.args.frame.now (AtExpr c.args.node.0) v c.args.steps.now c.form_with.new.steps some d) c.form_with.ensures.does

-- ---- by form

pub form_with-returns-in-Paren-clause-does : goal.form_with-returns-in-Paren-clause-does
form_with-returns-in-Paren-clause-does g t c =
    let m = g.S.WorldStore.meaning in
    let now = c.args.config.now in
    let f = c.args.frame.now in
    if_some _ _ c.value_of.result (λ v d. comes_as m now f (λ t env. Eval (AtExpr c.in-Paren.part.0) env Ret) (λ t env. entry (AtExpr c.args.node.0) env) v c.args.steps.now c.value_of.new.steps
    (λ t more. expr_is m now f c.args.node (nodes.Paren c.in-Paren.part) t (c.requires.node ∙ c.in-Paren.is)) (comes_last m now f (AtExpr c.in-Paren.part.0) v c.args.steps.now c.value_of.new.steps d)) c.value_of.ensures.does

pub form_with-returns-in-Binary-clause-does : goal.form_with-returns-in-Binary-clause-does
form_with-returns-in-Binary-clause-does g t c =
    let m = g.S.WorldStore.meaning in
    let now = c.args.config.now in
    let f = c.args.frame.now in
    let s = c.in-Binary in
    if_some _ _ c.binary.result (λ v d. comes_as m now f (λ t env. Eval (AtExpr s.left.0) env (then_value (line.binary_left s.operator s.right.0 env))) (λ t env. entry (AtExpr c.args.node.0) env) v c.args.steps.now c.binary.new.steps
    (λ t more. expr_is m now f c.args.node (nodes.Binary s.left s.operator s.right) t (c.requires.node ∙ s.is)) d) c.binary.ensures.does

pub form_with-returns-in-Dot-clause-does : goal.form_with-returns-in-Dot-clause-does
form_with-returns-in-Dot-clause-does g t c =
    let m = g.S.WorldStore.meaning in
    let now = c.args.config.now in
    let f = c.args.frame.now in
    let s = c.in-Dot in
    if_some _ _ c.dot.result (λ v d. comes_as m now f (λ t env. Eval (AtExpr s.base.0) env (then_value (line.dot_base (spelt_in t s.name) env (line.give_value_of env)))) (λ t env. entry (AtExpr c.args.node.0) env) v c.args.steps.now c.dot.new.steps
    (λ t more. expr_is m now f c.args.node (nodes.Dot s.base s.name) t (c.requires.node ∙ s.is)) d) c.dot.ensures.does

pub form_with-dot-requires : goal.form_with-dot-requires
form_with-dot-requires g t c =
    let now = c.args.config.now in
    let known : KnowsSpelt now.heap.texts c.in-Dot.name = node_known now.heap.texts now.units.items c.args.frame.now.tree c.args.node (nodes.Dot c.in-Dot.base c.in-Dot.name) c.requires.base.units (c.requires.node ∙ c.in-Dot.is) in
    search (rules, known)

pub form_with-returns-in-At-clause-does : goal.form_with-returns-in-At-clause-does
form_with-returns-in-At-clause-does g t c =
    let m = g.S.WorldStore.meaning in
    let now = c.args.config.now in
    let f = c.args.frame.now in
    let s = c.in-At in
    if_some _ _ c.at.result (λ v d. comes_as m now f (λ t env. Eval (AtExpr s.base.0) env (then_value (line.at_base s.index.0 env (line.give_value_of env)))) (λ t env. entry (AtExpr c.args.node.0) env) v c.args.steps.now c.at.new.steps
    (λ t more. expr_is m now f c.args.node (nodes.At s.base s.index) t (c.requires.node ∙ s.is)) d) c.at.ensures.does

pub form_with-returns-in-Prefix-clause-does : goal.form_with-returns-in-Prefix-clause-does
form_with-returns-in-Prefix-clause-does g t c =
    let m = g.S.WorldStore.meaning in
    let now = c.args.config.now in
    let f = c.args.frame.now in
    let s = c.in-Prefix in
    if_some _ _ c.prefix.result (λ v d. comes_as m now f (λ t env. line.prefix_of s.operator s.part.0 env) (λ t env. entry (AtExpr c.args.node.0) env) v c.args.steps.now c.prefix.new.steps
    (λ t more. expr_is m now f c.args.node (nodes.Prefix s.operator s.part) t (c.requires.node ∙ s.is)) d) c.prefix.ensures.does

pub form_with-returns-in-Cond-clause-does : goal.form_with-returns-in-Cond-clause-does
form_with-returns-in-Cond-clause-does g t c =
    let m = g.S.WorldStore.meaning in
    let now = c.args.config.now in
    let f = c.args.frame.now in
    let s = c.in-Cond in
    if_some _ _ c.choice.result (λ v d. comes_as m now f (λ t env. Eval (AtExpr s.test.0) env (then_value (line.cond_test s.yes.0 s.no.0 env))) (λ t env. entry (AtExpr c.args.node.0) env) v c.args.steps.now c.choice.new.steps
    (λ t more. expr_is m now f c.args.node (nodes.Cond s.test s.yes s.no) t (c.requires.node ∙ s.is)) d) c.choice.ensures.does

pub form_with-returns-in-Comma-clause-does : goal.form_with-returns-in-Comma-clause-does
form_with-returns-in-Comma-clause-does g t c =
    let m = g.S.WorldStore.meaning in
    let now = c.args.config.now in
    let f = c.args.frame.now in
    let s = c.in-Comma in
    if_some _ _ c.comma.result (λ v d. comes_as m now f (λ t env. Eval (AtExpr s.first.0) env (then_value (line.comma_left s.second.0 env))) (λ t env. entry (AtExpr c.args.node.0) env) v c.args.steps.now c.comma.new.steps
    (λ t more. expr_is m now f c.args.node (nodes.Comma s.first s.second) t (c.requires.node ∙ s.is)) d) c.comma.ensures.does

-- ---- operators between two operands

pub binary-returns-clause-does : goal.binary-returns-clause-does
binary-returns-clause-does g t c =
    if_some _ _ c.after_left.result (λ v d. comes_then g.S.WorldStore.meaning c.args.config.now c.args.frame.now (AtExpr c.args.left.0) (λ t env. line.binary_left c.args.operator c.args.right.0 env) c.in_ok-first.first v c.args.steps.now c.value_of.new.steps c.after_left.new.steps c.in_ok-first.ensures.does d) c.after_left.ensures.does

pub after_left-returns-in-And-clause-does : goal.after_left-returns-in-And-clause-does
after_left-returns-in-And-clause-does g t c = rw c.in-And.is c.and_right.ensures.does

pub after_left-returns-in-Or-clause-does : goal.after_left-returns-in-Or-clause-does
after_left-returns-in-Or-clause-does g t c = rw c.in-Or.is c.or_right.ensures.does

pub after_left-returns-in_default-clause-does : goal.after_left-returns-in_default-clause-does
after_left-returns-in_default-clause-does g t c =
    let m = g.S.WorldStore.meaning in
    let now = c.args.config.now in
    let f = c.args.frame.now in
    if_some _ _ c.both.result (λ v d. comes_as m now f (λ t env. Eval (AtExpr c.args.right.0) env (then_value (line.binary_right c.args.operator (value_in t c.args.first) env))) (λ t env. line.binary_left c.args.operator c.args.right.0 env (value_in t c.args.first)) v c.args.steps.now c.both.new.steps
    (λ t more. left_is_held c.args.operator c.args.right.0 (env_in m now t f) (value_in t c.args.first) c.in_default.not-And c.in_default.not-Or) d) c.both.ensures.does

pub and_right-returns-then-to_boolean-clause-does : goal.and_right-returns-then-to_boolean-clause-does
and_right-returns-then-to_boolean-clause-does g t c =
    let m = g.S.WorldStore.meaning in
    let now = c.args.config.now in
    let f = c.args.frame.now in
    if_some _ _ c.value_of.result (λ v d. comes_as m now f (λ t env. Eval (AtExpr c.args.right.0) env Ret) (λ t env. line.and_left c.args.right.0 env (value_in t c.args.first)) v c.args.steps.now c.value_of.new.steps
    (λ t more. and_goes_on c.args.right.0 (env_in m now t f) (value_in t c.args.first) (c.to_boolean.ensures t more ∙ c.if-to_boolean.true)) (comes_last m now f (AtExpr c.args.right.0) v c.args.steps.now c.value_of.new.steps d)) c.value_of.ensures.does

pub and_right-returns-else-to_boolean-clause-does : goal.and_right-returns-else-to_boolean-clause-does
and_right-returns-else-to_boolean-clause-does g t c =
    comes_ended g.S.WorldStore.meaning c.args.config.now c.args.frame.now (λ t env. line.and_left c.args.right.0 env (value_in t c.args.first)) c.args.first c.args.steps.now
    (λ t more env. ends_as _ _ (and_ends c.args.right.0 env (value_in t c.args.first) (c.to_boolean.ensures t more ∙ c.if-to_boolean.false)))

pub or_right-returns-then-to_boolean-clause-does : goal.or_right-returns-then-to_boolean-clause-does
or_right-returns-then-to_boolean-clause-does g t c =
    comes_ended g.S.WorldStore.meaning c.args.config.now c.args.frame.now (λ t env. line.or_left c.args.right.0 env (value_in t c.args.first)) c.args.first c.args.steps.now
    (λ t more env. ends_as _ _ (or_ends c.args.right.0 env (value_in t c.args.first) (c.to_boolean.ensures t more ∙ c.if-to_boolean.true)))

pub or_right-returns-else-to_boolean-clause-does : goal.or_right-returns-else-to_boolean-clause-does
or_right-returns-else-to_boolean-clause-does g t c =
    let m = g.S.WorldStore.meaning in
    let now = c.args.config.now in
    let f = c.args.frame.now in
    if_some _ _ c.value_of.result (λ v d. comes_as m now f (λ t env. Eval (AtExpr c.args.right.0) env Ret) (λ t env. line.or_left c.args.right.0 env (value_in t c.args.first)) v c.args.steps.now c.value_of.new.steps
    (λ t more. or_goes_on c.args.right.0 (env_in m now t f) (value_in t c.args.first) (c.to_boolean.ensures t more ∙ c.if-to_boolean.false)) (comes_last m now f (AtExpr c.args.right.0) v c.args.steps.now c.value_of.new.steps d)) c.value_of.ensures.does

pub both-returns-clause-does : goal.both-returns-clause-does
both-returns-clause-does g t c =
    let m = g.S.WorldStore.meaning in
    let now = c.args.config.now in
    let f = c.args.frame.now in
    let steps = c.value_with.new.steps in
    if_some _ _ c.operated.result (λ v ends. comes_then m now f (AtExpr c.args.right.0) (λ t env. line.binary_right c.args.operator (value_in t c.args.first) env) c.in_ok-second.second v c.args.steps.now steps steps c.in_ok-second.ensures.does
    (comes_ended m now f (λ t env. line.binary_right c.args.operator (value_in t c.args.first) env (value_in t c.in_ok-second.second)) v steps ends)) c.operated.ensures.ends

-- ---- operators before an operand, conditions, commas

pub prefix-returns-clause-does : goal.prefix-returns-clause-does
prefix-returns-clause-does g t c =
    let m = g.S.WorldStore.meaning in
    let now = c.args.config.now in
    let f = c.args.frame.now in
    let steps = c.value_of.new.steps in
    if_some _ _ c.prefixed.result (λ v ends. comes_as m now f (λ t env. Eval (AtExpr c.args.part.0) env (then_value (after_prefix c.args.operator env))) (λ t env. line.prefix_of c.args.operator c.args.part.0 env) v c.args.steps.now steps
    (λ t more. prefix_is c.args.operator c.args.part.0 (env_in m now t f) (sym c.is_of_value.ensures ∙ c.if-not-is_of_value.false))
    (comes_then m now f (AtExpr c.args.part.0) (λ t env. after_prefix c.args.operator env) c.in_ok-operand.operand v c.args.steps.now steps steps c.in_ok-operand.ensures.does
    (comes_ended m now f (λ t env. after_prefix c.args.operator env (value_in t c.in_ok-operand.operand)) v steps ends))) c.prefixed.ensures.ends

pub choice-returns-clause-does : goal.choice-returns-clause-does
choice-returns-clause-does g t c =
    let m = g.S.WorldStore.meaning in
    let now = c.args.config.now in
    let f = c.args.frame.now in
    let mid = c.value_of.new.steps in
    let next = c.chosen-next.result in
    if_some _ _ c.value_of-2.result (λ v d. comes_then m now f (AtExpr c.args.test.0) (λ t env. line.cond_test c.args.yes.0 c.args.no.0 env) c.in_ok-truth.truth v c.args.steps.now mid c.value_of-2.new.steps c.in_ok-truth.ensures.does
    (comes_as m now f (λ t env. Eval (AtExpr next.0) env Ret) (λ t env. line.cond_test c.args.yes.0 c.args.no.0 env (value_in t c.in_ok-truth.truth)) v mid c.value_of-2.new.steps
    (λ t more. c.chosen-next.ensures t more (env_in m now t f)) (comes_last m now f (AtExpr next.0) v mid c.value_of-2.new.steps d))) c.value_of-2.ensures.does

pub comma-returns-clause-does : goal.comma-returns-clause-does
comma-returns-clause-does g t c =
    let m = g.S.WorldStore.meaning in
    let now = c.args.config.now in
    let f = c.args.frame.now in
    let mid = c.value_of.new.steps in
    if_some _ _ c.value_of-2.result (λ v d. comes_then m now f (AtExpr c.args.first.0) (λ t env. line.comma_left c.args.second.0 env) c.in_ok-value_of.field-0 v c.args.steps.now mid c.value_of-2.new.steps c.in_ok-value_of.ensures.does
    (comes_last m now f (AtExpr c.args.second.0) v mid c.value_of-2.new.steps d)) c.value_of-2.ensures.does

-- ---- members

pub dot-returns-clause-does : goal.dot-returns-clause-does
dot-returns-clause-does g t c =
    let mid = c.value_of.new.steps in
    if_some _ _ c.dotted.result (λ v d. comes_then g.S.WorldStore.meaning c.args.config.now c.args.frame.now (AtExpr c.args.base.0) (λ t env. line.dot_base (spelt_in t c.args.name) env (line.give_value_of env)) c.in_ok-object.object v c.args.steps.now mid mid c.in_ok-object.ensures.does (d mid)) c.dotted.ensures.does

pub at-returns-clause-does : goal.at-returns-clause-does
at-returns-clause-does g t c =
    let m = g.S.WorldStore.meaning in
    let now = c.args.config.now in
    let f = c.args.frame.now in
    let mid = c.value_of.new.steps in
    let last = c.value_of-2.new.steps in
    if_some _ _ c.indexed.result (λ v d. comes_then m now f (AtExpr c.args.base.0) (λ t env. line.at_base c.args.index.0 env (line.give_value_of env)) c.in_ok-object.object v c.args.steps.now mid last c.in_ok-object.ensures.does
    (comes_then m now f (AtExpr c.args.index.0) (λ t env. line.at_index (value_in t c.in_ok-object.object) env (line.give_value_of env)) c.in_ok-key.key v mid last last c.in_ok-key.ensures.does (d last))) c.indexed.ensures.does
