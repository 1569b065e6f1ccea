use Rattle.std.proofs.Common.{◌≡◌, ℕ, List, Option, Some, None, ap, sym, subst, ◌∙◌}
use Rattle.std.specs.Prelude.{map, drop, slice_get, IfSome}
use Rattle.wjs_tree.specs.declared.node.Clause.{Clause}
use Rattle.wjs_by_content.specs.Tables.{value_in}
use Rattle.wjs_meaning.specs.Reading.{clause_in}
use Rattle.wjs_meaning.specs.Statements.{switch_from, switch_cases, statements_of}
use Rattle.wjs_model.specs.Contents.{value_held}
use Rattle.wjs_frames.specs.Parts.{env_in, node_now}
use Rattle.wjs_step_common.specs.Lists.{clauses_in}
use Rattle.wjs_blocks.specs.declared.clauses.Case.{Case}
use Rattle.wjs_blocks.specs.Switches.{case_goes}
use Rattle.wjs_step_common.proofs.Following.{follows_as}
use Rattle.wjs_blocks.proofs.Switching.{cases_same, case_enters, default_same}
use Rattle.wjs_blocks.proofs.Standing.{case_stands, test_of}
use Rattle.wjs_blocks.proofs.switches.cases_from.Goals as goal

pub returns-in_ok-at-in-Some : goal.returns-in_ok-at-in-Some
returns-in_ok-at-in-Some g c =
    let meaning = g.S.WorldStore.meaning in
    let old = c.args.config.now in
    let f = c.args.frame in
    let case = c.in-Some.case in
    let t = c.enter_quickly.new.config.heap.texts in
    let node = node_now meaning old f in
    let env = env_in meaning old t f in
    let v = value_in t (value_held f.held) in
    let P : Option Case → Type 0 = λ o. switch_cases v (map (clause_in t) c.clauses_of.result.now) (drop c.args.from (map (clause_in t) c.clauses_of.result.now)) env ≡ case_goes v (map (clause_in t) c.clauses_of.result.now) o env in
    let found = subst P c.in-Some.is (c.case_from.ensures.goes t v env) in
    follows_as meaning _ _ _ _ c.enter_quickly.result (λ grows.
    case_enters t node env v case c.in_ok-at-in-Some.at c.in_ok-at-in-Some.ensures
    ∙ sym (cases_same t node env c.clauses_of.result.now v c.args.from (Some case) c.clauses_of.ensures found)) c.enter_quickly.ensures

pub returns-in-None : goal.returns-in-None
returns-in-None g c =
    let meaning = g.S.WorldStore.meaning in
    let old = c.args.config.now in
    let f = c.args.frame in
    let t = c.clauses_from.new.config.heap.texts in
    let node = node_now meaning old f in
    let env = env_in meaning old t f in
    let v = value_in t (value_held f.held) in
    let P : Option Case → Type 0 = λ o. switch_cases v (map (clause_in t) c.clauses_of.result.now) (drop c.args.from (map (clause_in t) c.clauses_of.result.now)) env ≡ case_goes v (map (clause_in t) c.clauses_of.result.now) o env in
    let found = subst P c.in-None.is (c.case_from.ensures.goes t v env) in
    follows_as meaning _ _ _ _ c.clauses_from.result (λ grows.
    sym (ap (λ (l : List (Option ℕ × List ℕ)). switch_from (statements_of l) env) (default_same t node env c.clauses_of-in-None.result.now c.default_of-clause.result c.clauses_of-in-None.ensures (c.default_of-clause.ensures t)))
    ∙ sym (cases_same t node env c.clauses_of.result.now v c.args.from None c.clauses_of.ensures found)) c.clauses_from.ensures

pub enter_quickly-requires-clause-part : goal.enter_quickly-requires-clause-part
enter_quickly-requires-clause-part g c =
    let case = c.in-Some.case in
    let Q : List Clause → Type 0 = λ cs. test_of (slice_get cs case.at) ≡ Some case.test in
    let R : Option Case → Type 0 = λ o. IfSome o (λ (x : Case). test_of (slice_get c.clauses_of.result.now x.at) ≡ Some x.test) in
    let found : Q (clauses_in (node_now g.S.WorldStore.meaning c.args.config.now c.args.frame)) = subst Q c.clauses_of.ensures (subst R c.in-Some.is c.case_from.ensures.is) in
    case_stands g.S.WorldStore.meaning c.args.config.now c.args.frame c.requires.runs.there case.at case.test found
