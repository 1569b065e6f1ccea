-- What a `switch` does with its clauses.
use Rattle.std.proofs.Common.{◌≡◌, ℕ, zero, suc, ◌+◌, ◌-◌, ◌<◌, Bool, true, false, List, [], ◌∷◌, ◌++◌, Option, None, Some, refl, sym, ap, ◌∙◌, subst, length, drop, get_or, arith}
use Rattle.std.specs.Prelude.{map, slice_get}
use Rattle.wjs_base.specs.Text.{Table}
use Rattle.wjs_base.specs.declared.ids.NodeId.{NodeId}
use Rattle.wjs_tree.specs.declared.node.Clause.{Clause}
use Rattle.wjs_tree.specs.declared.node.Node.{Node as NumberedNode}
use Rattle.wjs_tree.specs.declared.node.Node.TheVariants as nodes
use Rattle.wjs_by_content.specs.Values.{Value}
use Rattle.wjs_meaning.specs.Deeds.{Env, Act, Ret, Eval, AtStmt, AtExpr, Normal, then_value}
use Rattle.wjs_meaning.specs.Reading.{node_in, clause_in, numbers}
use Rattle.wjs_meaning.specs.Statements.{statements_of, switch_from, switch_next, switch_cases, from_default}
use Rattle.wjs_by_content.specs.Conversions.{strictly_equal}
use Rattle.std.proofs.lemmas.Option.{slice_get-get_or}
use Rattle.wjs_model.specs.Lists.{clauses_of}
use Rattle.wjs_model.specs.Waiting.{after_case}
use Rattle.wjs_blocks.specs.declared.clauses.Case.{Case}
use Rattle.wjs_step_common.specs.Lists.{clauses_in, statements_of_clauses}
use Rattle.wjs_blocks.specs.Switches.{case_goes}
use Rattle.wjs_step_common.proofs.Parts.{each_at, each_past}

-- the clauses under a table
clauses_same : (t : Table) (node : NumberedNode) → clauses_of (node_in t node) ≡ map (clause_in t) (clauses_in node)
clauses_same t (nodes.Switch e clauses) = refl
clauses_same t _ = refl

numbers_append : (xs ys : List NodeId) → numbers (xs ++ ys) ≡ numbers xs ++ numbers ys
numbers_append [] ys = refl
numbers_append (x ∷ xs) ys = ap (λ (l : List ℕ). x.0 ∷ l) (numbers_append xs ys)

-- their statements
statements_same : (t : Table) (clauses : List Clause) → statements_of (map (clause_in t) clauses) ≡ numbers (statements_of_clauses clauses)
statements_same t [] = refl
statements_same t (c ∷ cs) = ap (λ (l : List ℕ). numbers c.body ++ l) (statements_same t cs) ∙ sym (numbers_append c.body (statements_of_clauses cs))

node_statements : (t : Table) (node : NumberedNode) → statements_of (clauses_of (node_in t node)) ≡ numbers (statements_of_clauses (clauses_in node))
node_statements t node = ap statements_of (clauses_same t node) ∙ statements_same t (clauses_in node)

drop_map : {X Y : Type 0} (f : X → Y) (xs : List X) (i : ℕ) → drop i (map f xs) ≡ map f (drop i xs)
drop_map f xs zero = refl
drop_map f [] (suc i) = refl
drop_map f (x ∷ xs) (suc i) = drop_map f xs i

-- the statements of the clauses from one of a number on are those behind the statements before it
pub statements_behind : (t : Table) (node : NumberedNode) (clause at : ℕ) → drop at (statements_of_clauses (clauses_in node)) ≡ statements_of_clauses (drop clause (clauses_in node)) → drop at (statements_of (clauses_of (node_in t node))) ≡ statements_of (drop clause (clauses_of (node_in t node)))
statements_behind t node clause at e =
    ap (drop at) (node_statements t node)
    ∙ drop_map (λ (id : NodeId). id.0) (statements_of_clauses (clauses_in node)) at
    ∙ ap numbers e
    ∙ sym (statements_same t (drop clause (clauses_in node)))
    ∙ ap statements_of (sym (drop_map (clause_in t) (clauses_in node) clause))
    ∙ ap (λ (l : List (Option ℕ × List ℕ)). statements_of (drop clause l)) (sym (clauses_same t node))

module _ (t : Table) (node : NumberedNode) (env : Env) where
  abbrev all : List (Option ℕ × List ℕ)
  all = clauses_of (node_in t node)

  -- the next statement is entered
  pub statement_at : (at next : ℕ) (s : NodeId) → next ≡ at + 1 → slice_get (statements_of_clauses (clauses_in node)) at ≡ Some s
      → Eval (AtStmt s.0) env (switch_next (switch_from (drop next (statements_of all)) env)) ≡ switch_from (drop at (statements_of all)) env
  statement_at at next s en es =
      let k : next ≡ suc at = omega (arith, en) in
      let listed : drop at (statements_of all) ≡ s.0 ∷ drop (suc at) (statements_of all) =
      ap (drop at) (node_statements t node) ∙ each_at (λ (id : NodeId). id.0) (statements_of_clauses (clauses_in node)) at s es ∙ ap (λ (l : List ℕ). s.0 ∷ drop (suc at) l) (sym (node_statements t node)) in
      ap (λ (i : ℕ). Eval (AtStmt s.0) env (switch_next (switch_from (drop i (statements_of all)) env))) k
      ∙ sym (ap (λ (l : List ℕ). switch_from l env) listed)

  -- there is none
  pub statement_end : (at : ℕ) → slice_get (statements_of_clauses (clauses_in node)) at ≡ None → Ret Normal ≡ switch_from (drop at (statements_of all)) env
  statement_end at es = sym (ap (λ (l : List ℕ). switch_from l env) (ap (drop at) (node_statements t node) ∙ each_past (λ (id : NodeId). id.0) (statements_of_clauses (clauses_in node)) at es))

  -- a case is entered
  pub case_enters : (v : Value) (c : Case) (at : ℕ) → at ≡ c.at → Eval (AtExpr c.test.0) env (then_value (after_case v all (drop at all) env)) ≡ case_goes v all (Some c) env
  case_enters v c at e = ap (λ (i : ℕ). Eval (AtExpr c.test.0) env (then_value (after_case v all (drop i all) env))) e

  -- the case that was found
  pub cases_same : (clauses : List Clause) (v : Value) (from : ℕ) (o : Option Case) → clauses ≡ clauses_in node → switch_cases v (map (clause_in t) clauses) (drop from (map (clause_in t) clauses)) env ≡ case_goes v (map (clause_in t) clauses) o env → switch_cases v all (drop from all) env ≡ case_goes v all o env
  cases_same clauses v from o ec e =
      let P : List (Option ℕ × List ℕ) → Type 0 = λ l. switch_cases v l (drop from l) env ≡ case_goes v l o env in
      subst P (ap (map (clause_in t)) ec ∙ sym (clauses_same t node)) e

  -- the `default`
  pub default_same : (clauses : List Clause) (at : ℕ) → clauses ≡ clauses_in node → from_default (map (clause_in t) clauses) ≡ drop at (map (clause_in t) clauses) → from_default all ≡ drop at all
  default_same clauses at ec e =
      let P : List (Option ℕ × List ℕ) → Type 0 = λ l. from_default l ≡ drop at l in
      subst P (ap (map (clause_in t)) ec ∙ sym (clauses_same t node)) e

  -- after the value of a case that is another
  rest_at : (at : ℕ) → at < length (clauses_in node) → (x : Option ℕ × List ℕ) × (drop at all ≡ x ∷ drop (suc at) all)
  rest_at at h =
      let c : Clause = get_or (clauses_in node) at (record { test = None; body = [] }) in
      (clause_in t c, ap (drop at) (clauses_same t node) ∙ each_at (clause_in t) (clauses_in node) at c (slice_get-get_or (clauses_in node) at (record { test = None; body = [] }) h) ∙ ap (λ (l : List (Option ℕ × List ℕ)). clause_in t c ∷ drop (suc at) l) (sym (clauses_same t node)))

  case_if : Value → Option ℕ × List ℕ → List (Option ℕ × List ℕ) → Bool → Act
  case_if v x xs b = elim b [ true ↦ switch_from (x.1 ++ statements_of xs) env | false ↦ switch_cases v all xs env ]

  pub case_other : (v w : Value) (at next : ℕ) → at < length (clauses_in node) → next ≡ at + 1 → strictly_equal v w ≡ false → switch_cases v all (drop next all) env ≡ after_case v all (drop at all) env w
  unfolding case_if
  case_other v w at next h en e =
      let r = rest_at at h in
      let k : next ≡ suc at = omega (arith, en) in
      ap (λ (i : ℕ). switch_cases v all (drop i all) env) k
      ∙ sym (ap (λ (l : List (Option ℕ × List ℕ)). after_case v all l env w) r.1 ∙ ap (λ (b : Bool). case_if v r.0 (drop (suc at) all) b) e)

  -- after the value of a case that is the `switch`'s
  pub case_met : (v w : Value) (at : ℕ) → at < length (clauses_in node) → strictly_equal v w ≡ true → switch_from (statements_of (drop at all)) env ≡ after_case v all (drop at all) env w
  unfolding case_if
  case_met v w at h e =
      let r = rest_at at h in
      ap (λ (l : List (Option ℕ × List ℕ)). switch_from (statements_of l) env) r.1
      ∙ sym (ap (λ (l : List (Option ℕ × List ℕ)). after_case v all l env w) r.1 ∙ ap (λ (b : Bool). case_if v r.0 (drop (suc at) all) b) e)
