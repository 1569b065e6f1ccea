use Rattle.std.proofs.Common.{◌<◌, length, refl, ap, sym, ◌∙◌, arith}
use Rattle.wjs_base.specs.declared.values.Value.{Value}
use Rattle.wjs_tree.specs.declared.node.Clause.{Clause}
use Rattle.std.specs.Prelude.{List}
use Rattle.wjs_by_content.specs.Conversions.{strictly_equal}
use Rattle.wjs_by_content.specs.Tables.{value_in}
use Rattle.wjs_model.specs.Contents.{value_held}
use Rattle.wjs_frames.specs.Parts.{env_in, node_now}
use Rattle.wjs_step_common.specs.Lists.{clauses_in}
use Rattle.wjs_step_common.proofs.Following.{follows_as}
use Rattle.wjs_blocks.proofs.Switching.{case_met, case_other}
use Rattle.wjs_blocks.proofs.switches.case_compared.Goals as goal

pub returns-then-strictly_equal : goal.returns-then-strictly_equal
returns-then-strictly_equal g c =
    let meaning = g.S.WorldStore.meaning in
    let old = c.args.config.now in
    let f = c.args.frame in
    let t = c.clauses_from.new.config.heap.texts in
    let node = node_now meaning old f in
    let w = value_in t c.args.value in
    let lt : c.args.at < length (clauses_in node) = omega (arith, ap (λ (cs : List Clause). length cs) c.clauses_of.ensures) in
    follows_as meaning _ _ _ _ c.clauses_from.result (λ grows.
    case_met t node (env_in meaning old t f) (value_in t (value_held f.held)) w c.args.at lt
    (ap (λ (x : Value). strictly_equal (value_in t x) w) (sym c.held_value-sought.ensures.is) ∙ c.strictly_equal.ensures t grows ∙ c.if-strictly_equal.true))
    c.clauses_from.ensures

pub returns-else-strictly_equal : goal.returns-else-strictly_equal
returns-else-strictly_equal g c =
    let meaning = g.S.WorldStore.meaning in
    let old = c.args.config.now in
    let f = c.args.frame in
    let t = c.cases_from.new.config.heap.texts in
    let node = node_now meaning old f in
    let w = value_in t c.args.value in
    let lt : c.args.at < length (clauses_in node) = omega (arith, ap (λ (cs : List Clause). length cs) c.clauses_of.ensures) in
    follows_as meaning _ _ _ _ c.cases_from.result (λ grows.
    case_other t node (env_in meaning old t f) (value_in t (value_held f.held)) w c.args.at _ lt refl
    (ap (λ (x : Value). strictly_equal (value_in t x) w) (sym c.held_value-sought.ensures.is) ∙ c.strictly_equal.ensures t grows ∙ c.if-strictly_equal.false))
    c.cases_from.ensures
