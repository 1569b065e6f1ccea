-- The statement `switch`: its lines from one case or statement to the next, and where one stops.
use Rattle.std.proofs.Common.{◌≡◌, ℕ, zero, suc, ◌+◌, ◌<◌, true, false, List, [], ◌∷◌, Option, None, Some, Vec, Global, refl, sym, ap, ◌∙◌, subst, drop, length, arith}
use Rattle.std.specs.Prelude.{Result, Ok, map, slice_get}
use Rattle.std.specs.Option.{option_and_then}
use Rattle.wjs_base.specs.declared.ids.NodeId.{NodeId}
use Rattle.wjs_base.specs.declared.values.Value.{Value as Numbered}
use Rattle.wjs_base.specs.Text.{Table, Grows}
use Rattle.wjs_by_content.specs.Conversions.{strictly_equal}
use Rattle.wjs_by_content.specs.Tables.{value_in}
use Rattle.wjs_store.specs.Meaning.{Meaning}
use Rattle.wjs_tree.specs.declared.node.Clause.{Clause}
use Rattle.wjs_tree.specs.declared.node.Node.{Node}
use Rattle.wjs_tree.specs.declared.node.Node.TheVariants as nodes
use Rattle.wjs_meaning.specs.Deeds.{Act, AtExpr, AtStmt, Completion, Env, Eval, Ret, then_value}
use Rattle.wjs_meaning.specs.Reading.{clause_in, node_in}
use Rattle.wjs_meaning.specs.Statements.{from_default, statements_of, stmt_of, switch_cases, switch_from, switch_next, switch_value}
use Rattle.wjs_model.specs.declared.config.Config.{Config}
use Rattle.wjs_model.specs.declared.frame.Activation.{Activation as Frame}
use Rattle.wjs_model.specs.declared.frame.Completion.{Completion as Said}
use Rattle.wjs_model.specs.declared.frame.Completion.TheVariants as completions
use Rattle.wjs_model.specs.declared.frame.Held.TheVariants as holds
use Rattle.wjs_model.specs.declared.frame.Phase.{Phase}
use Rattle.wjs_model.specs.declared.loaded.LoadedProgram.{LoadedProgram as Program}
use Rattle.wjs_model.specs.declared.point.Point.TheVariants as points
use Rattle.wjs_model.specs.declared.point.StmtPoint.TheVariants as stmt
use Rattle.wjs_model.specs.Contents.{completion_in}
use Rattle.wjs_model.specs.Lists.{clauses_of}
use Rattle.wjs_model.specs.Soundness.{HasCompletion, IsThere, StandsHere}
use Rattle.wjs_model.specs.Waiting.{after_case}
use Rattle.wjs_frames.specs.Following.{Later}
use Rattle.wjs_frames.specs.Parts.{env_in, node_among, then_at}
use Rattle.wjs_step_common.specs.Lists.{clauses_in, statements_of_clauses}
use Rattle.wjs_effects.proofs.Leaving.{shorten_as}
use Rattle.wjs_blocks.specs.declared.clauses.Case.{Case}
use Rattle.wjs_blocks.proofs.Standing.{case_stands, clause_statement_stands}
use Rattle.wjs_blocks.proofs.Switching.{case_met, case_other, default_same, statement_at as statement_entered, statement_end}
use Rattle.wjs_stopping.specs.declared.ends.Broken.{Broken}
use Rattle.wjs_stopping.specs.Ends.{gives_in}
use Rattle.wjs_stopping.specs.Evaluating.{Evaluates, Leaves, outcome_in}
use Rattle.wjs_stopping.specs.Waiting.{at_node}
use Rattle.wjs_stopping.proofs.Evaluating.{in_memory, leaves_all}
use Rattle.wjs_direct_lines.specs.Deeds.{form_here, goal_here, line_here}
use Rattle.wjs_direct.specs.Switches.{BeginsAt, DefaultsAt, IsCase, NextCase, case_then, cases_left, clauses_left, default_left, sought_then, statement_then, statements_left, switch_end}
use Rattle.wjs_direct_lines.proofs.Forming.{form_goes_on, line_ended, node_there}
use Rattle.wjs_direct_lines.proofs.Nesting.{line_begins, line_same, part_left}
use Rattle.wjs_direct_lines.proofs.Parts.{line_form}

-- ---- how it ends by the end of a statement

pub end_is : (t : Table) (e : Said) (rest : Act) → (e ≡ completions.Normal → ⊥) → switch_next rest (completion_in t e) ≡ Ret (completion_in t (switch_end e))
end_is t (completions.Gives v) rest other = refl
end_is t (completions.Refers r) rest other = refl
end_is t completions.Normal rest other = absurd (other refl)
end_is t (completions.Breaks None) rest other = refl
end_is t (completions.Breaks (Some label)) rest other = refl
end_is t (completions.Continues label) rest other = refl
end_is t (completions.Returns v) rest other = refl
end_is t (completions.Throws v) rest other = refl

pub end_there : {S : Type 0} (c : Config S) (e : Said) → HasCompletion c e → HasCompletion c (switch_end e)
end_there c (completions.Gives v) h = h
end_there c (completions.Refers r) h = h
end_there c completions.Normal h = h
end_there c (completions.Breaks None) h = tt
end_there c (completions.Breaks (Some label)) h = h
end_there c (completions.Continues label) h = h
end_there c (completions.Returns v) h = h
end_there c (completions.Throws v) h = h

-- ---- what it begins with

pub switch_begins : (t : Table) (n : Node) (e : NodeId) (clauses : List Clause) (here : ℕ) (env : Env) → n ≡ nodes.Switch e clauses
    → stmt_of here (node_in t n) env ≡ Eval (AtExpr e.0) env (then_value (switch_value (clauses_of (node_in t n)) env))
switch_begins t n e clauses here env same =
    subst (λ (x : Node). stmt_of here (node_in t x) env ≡ Eval (AtExpr e.0) env (then_value (switch_value (clauses_of (node_in t x)) env))) (sym same) refl

-- ---- comparisons

-- a case is one of the clauses
inside : (cs : List Clause) (at : ℕ) (e : NodeId) → option_and_then (λ (x : Clause). x.test) (slice_get cs at) ≡ Some e → at < length cs
inside [] at e q = absurd (cc)
inside (c ∷ cs) zero e q = omega arith
inside (c ∷ cs) (suc at) e q = let h : at < length cs = inside cs at e q in omega (arith, h)

module _ {S : Type 0} (c : Config S) (f : Frame) (node : NodeId) where
  -- the statements from `default` on
  pub default_is : (clauses : List Clause) (clause at : ℕ) → clauses ≡ clauses_in (node_among c.units.items f.tree node)
      → ((t : Table) → from_default (map (clause_in t) clauses) ≡ drop clause (map (clause_in t) clauses)) → BeginsAt c f node clause at → DefaultsAt c f node at
  default_is clauses clause at same is begins = λ t env.
      ap (λ (l : List (Option ℕ × List ℕ)). switch_from (statements_of l) env) (default_same t (node_among c.units.items f.tree node) env clauses clause same (is t)) ∙ begins t env

  -- a case whose value is the `switch`'s
  met_is : (v w : Numbered) (at : ℕ) → at < length (clauses_in (node_among c.units.items f.tree node)) → ((t : Table) → Grows c.heap.texts t → strictly_equal (value_in t v) (value_in t w) ≡ true)
      → (t : Table) → Grows c.heap.texts t → (env : Env) → case_then c f node v at t env (gives_in t w) ≡ clauses_left c f node at t env
  met_is v w at within same = λ t grows env. sym (case_met t (node_among c.units.items f.tree node) env (value_in t v) (value_in t w) at within (same t grows))

  -- a case whose value is another
  passed_is : (v w : Numbered) (at : ℕ) → at < length (clauses_in (node_among c.units.items f.tree node)) → ((t : Table) → Grows c.heap.texts t → strictly_equal (value_in t v) (value_in t w) ≡ false)
      → (t : Table) → Grows c.heap.texts t → (env : Env) → case_then c f node v at t env (gives_in t w) ≡ cases_left c f node v (at + 1) t env
  passed_is v w at within other = λ t grows env. sym (case_other t (node_among c.units.items f.tree node) env (value_in t v) (value_in t w) at (at + 1) within refl (other t grows))

module _ {S : Type 0} (meaning : S → Meaning) where
  abbrev Deeds : Type 0
  Deeds = Table → (Completion → Act) → Act

  -- ---- deeds of which others are left

  pub left_does : (first rest : Deeds) (old mid new : Config S) (done : Result Said Broken) (w : List Frame) (p : Option (Frame × Phase)) → Leaves meaning first rest old mid
      → Evaluates meaning rest completion_in done w p mid new → Evaluates meaning first completion_in done w p old new
  left_does first rest old mid new done w p l d = in_memory done (leaves_all meaning first rest (outcome_in meaning new completion_in done w p) old mid new l) d

  module _ (f : Frame) (node : NodeId) where
    -- ---- its parts stand there

    pub case_there : (c : Config S) (at : ℕ) (e : NodeId) → IsThere meaning c f → StandsHere c f node → IsCase c f node at e → StandsHere c f e
    case_there c at e there stands is = case_stands meaning c (at_node f node []) (node_there meaning c f node [] there stands tt) at e is

    pub part_there : (c : Config S) (at : ℕ) (s : NodeId) → IsThere meaning c f → StandsHere c f node → slice_get (statements_of_clauses (clauses_in (node_among c.units.items f.tree node))) at ≡ Some s → StandsHere c f s
    part_there c at s there stands is = clause_statement_stands meaning c (at_node f node []) (node_there meaning c f node [] there stands tt) at s is

    -- where its value has come, the case of a number is one of the clauses
    case_inside : (old mid : Config S) (at : ℕ) (e : NodeId) → Later meaning old mid → IsCase old f node at e → at < length (clauses_in (node_among mid.units.items f.tree node))
    case_inside old mid at e l is =
        subst (λ (us : Vec Program Global). at < length (clauses_in (node_among us.items f.tree node))) (sym l.units)
        (inside (clauses_in (node_among old.units.items f.tree node)) at e is)

    -- ---- its value

    -- it has come, and the cases are next
    pub cases_come : (old mid new : Config S) (e : NodeId) (v : Numbered) (w : List Frame) (p : Option (Frame × Phase)) (done : Result Said Broken) (waits : List Frame) (top : Option (Frame × Phase)) → Later meaning old mid
        → Evaluates meaning (goal_here meaning old f (AtExpr e.0)) gives_in (Ok v) w p old mid → Evaluates meaning (line_here meaning mid f (cases_left mid f node v 0)) completion_in done waits top mid new
        → Evaluates meaning (form_here meaning old f (AtExpr e.0) (sought_then old f node)) completion_in done waits top old new
    cases_come old mid new e v w p done waits top l d m =
        form_goes_on meaning gives_in completion_in old mid new f (AtExpr e.0) (sought_then old f node) v done w p waits top l d
        (subst (λ (us : Vec Program Global). Evaluates meaning (line_here meaning mid f (λ t env. switch_cases (value_in t v) (clauses_of (node_in t (node_among us.items f.tree node))) (drop 0 (clauses_of (node_in t (node_among us.items f.tree node)))) env)) completion_in done waits top mid new) l.units m)

    -- where it is waited for
    pub value_waits : (old mid : Config S) → Later meaning old mid → (t : Table) (env : Env) → then_at meaning mid (at_node f node []) (points.Stmt stmt.SwitchValue) t env ≡ sought_then old f node t env
    value_waits old mid l t env = ap (λ (us : Vec Program Global). then_value (switch_value (clauses_of (node_in t (node_among us.items f.tree node))) env)) l.units

    -- ---- its cases

    -- the next one is found
    pub case_begins : (c : Config S) (from : ℕ) (v : Numbered) (x : Case) → NextCase c f node from (Some x)
        → Leaves meaning (line_here meaning c f (cases_left c f node v from)) (form_here meaning c f (AtExpr x.test.0) (case_then c f node v x.at)) c c
    case_begins c from v x goes =
        line_begins meaning c f (cases_left c f node v from) (AtExpr x.test.0) (case_then c f node v x.at) (λ t more. goes t (value_in t v) (env_in meaning c t f))

    -- there is none
    pub default_comes : (c : Config S) (from : ℕ) (v : Numbered) → NextCase c f node from None → Leaves meaning (line_here meaning c f (cases_left c f node v from)) (line_here meaning c f (default_left c f node)) c c
    default_comes c from v goes = line_same meaning c f (cases_left c f node v from) (default_left c f node) (λ t more. goes t (value_in t v) (env_in meaning c t f))

    -- its value has come
    case_valued : (old mid : Config S) (at : ℕ) (e : NodeId) (v w : Numbered) (rest : Table → Env → Act) → Later meaning old mid → Leaves meaning (goal_here meaning old f (AtExpr e.0)) (λ t go. go (gives_in t w)) old mid
        → ((t : Table) → Grows mid.heap.texts t → (env : Env) → case_then mid f node v at t env (gives_in t w) ≡ rest t env)
        → Leaves meaning (form_here meaning old f (AtExpr e.0) (case_then old f node v at)) (line_here meaning mid f rest) old mid
    case_valued old mid at e v w rest l d is =
        let from = form_here meaning old f (AtExpr e.0) (case_then old f node v at) in
        leaves_all meaning from (line_here meaning mid f (λ t env. case_then mid f node v at t env (gives_in t w))) (line_here meaning mid f rest) old mid mid
        (subst (λ (us : Vec Program Global). Leaves meaning from (line_here meaning mid f (λ t env. then_value (after_case (value_in t v) (clauses_of (node_in t (node_among us.items f.tree node))) (drop at (clauses_of (node_in t (node_among us.items f.tree node)))) env) (gives_in t w))) old mid) (sym l.units)
        (part_left meaning gives_in old mid f (AtExpr e.0) (case_then old f node v at) w l d))
        (line_same meaning mid f (λ t env. case_then mid f node v at t env (gives_in t w)) rest (λ t more. is t more (env_in meaning mid t f)))

    module _ (old mid : Config S) (from at : ℕ) (v w : Numbered) (x : Case) (same : at ≡ x.at) (goes : NextCase old f node from (Some x)) (is : IsCase old f node x.at x.test) (l : Later meaning old mid) (d : Leaves meaning (goal_here meaning old f (AtExpr x.test.0)) (λ t go. go (gives_in t w)) old mid) where
      -- behind the comparison of the first case from a number on
      case_leaves : (rest : Table → Env → Act) → ((t : Table) → Grows mid.heap.texts t → (env : Env) → case_then mid f node v x.at t env (gives_in t w) ≡ rest t env)
          → Leaves meaning (line_here meaning old f (cases_left old f node v from)) (line_here meaning mid f rest) old mid
      case_leaves rest comes =
          leaves_all meaning (line_here meaning old f (cases_left old f node v from)) (form_here meaning old f (AtExpr x.test.0) (case_then old f node v x.at)) (line_here meaning mid f rest) old old mid
          (case_begins old from v x goes) (case_valued old mid x.at x.test v w rest l d comes)

      -- its value is the `switch`'s: the statements from its clause on are left
      pub case_equal : ((t : Table) → Grows mid.heap.texts t → strictly_equal (value_in t v) (value_in t w) ≡ true)
          → Leaves meaning (line_here meaning old f (cases_left old f node v from)) (line_here meaning mid f (clauses_left mid f node at)) old mid
      case_equal equal =
          subst (λ (i : ℕ). Leaves meaning (line_here meaning old f (cases_left old f node v from)) (line_here meaning mid f (clauses_left mid f node i)) old mid) (sym same)
          (case_leaves (clauses_left mid f node x.at) (met_is mid f node v w x.at (case_inside old mid x.at x.test l is) equal))

      -- its value is another: the cases behind its clause are left
      pub case_unequal : (next : ℕ) → next ≡ at + 1 → ((t : Table) → Grows mid.heap.texts t → strictly_equal (value_in t v) (value_in t w) ≡ false)
          → Leaves meaning (line_here meaning old f (cases_left old f node v from)) (line_here meaning mid f (cases_left mid f node v next)) old mid
      case_unequal next en other =
          subst (λ (i : ℕ). Leaves meaning (line_here meaning old f (cases_left old f node v from)) (line_here meaning mid f (cases_left mid f node v i)) old mid) (sym (en ∙ ap (λ (i : ℕ). i + 1) same))
          (case_leaves (cases_left mid f node v (x.at + 1)) (passed_is mid f node v w x.at (case_inside old mid x.at x.test l is) other))

    -- where it is waited for
    pub case_waits : (old mid : Config S) (v : Numbered) (at i : ℕ) → i ≡ at → Later meaning old mid → (t : Table) (env : Env)
        → then_at meaning mid (at_node f node (holds.Value v ∷ [])) (points.Stmt (stmt.CaseValue i)) t env ≡ case_then old f node v at t env
    case_waits old mid v at i same l t env =
        ap (λ (k : ℕ). then_at meaning mid (at_node f node (holds.Value v ∷ [])) (points.Stmt (stmt.CaseValue k)) t env) same
        ∙ ap (λ (us : Vec Program Global). then_value (after_case (value_in t v) (clauses_of (node_in t (node_among us.items f.tree node))) (drop at (clauses_of (node_in t (node_among us.items f.tree node)))) env)) l.units

    -- ---- its statements

    -- those of the clauses from one of a number on begin here
    pub clauses_begin : (c : Config S) (clause at : ℕ) → BeginsAt c f node clause at → Leaves meaning (line_here meaning c f (clauses_left c f node clause)) (line_here meaning c f (statements_left c f node at)) c c
    clauses_begin c clause at is = line_same meaning c f (clauses_left c f node clause) (statements_left c f node at) (λ t more. is t (env_in meaning c t f))

    -- and those from `default` on here
    pub default_begins : (c : Config S) (at : ℕ) → DefaultsAt c f node at → Leaves meaning (line_here meaning c f (default_left c f node)) (line_here meaning c f (statements_left c f node at)) c c
    default_begins c at is = line_same meaning c f (default_left c f node) (statements_left c f node at) (λ t more. is t (env_in meaning c t f))

    module _ (c : Config S) (at next : ℕ) (s : NodeId) (en : next ≡ at + 1) (is : slice_get (statements_of_clauses (clauses_in (node_among c.units.items f.tree node))) at ≡ Some s) where
      part_goes : (t : Table) (env : Env) → statements_left c f node at t env ≡ Eval (AtStmt s.0) env (statement_then c f node next t env)
      part_goes t env = sym (statement_entered t (node_among c.units.items f.tree node) env at next s en is)

      pub part_form : (new : Config S) (done : Result Said Broken) (w : List Frame) (p : Option (Frame × Phase)) → Evaluates meaning (form_here meaning c f (AtStmt s.0) (statement_then c f node next)) completion_in done w p c new
          → Evaluates meaning (line_here meaning c f (statements_left c f node at)) completion_in done w p c new
      part_form new done w p d =
          line_form meaning completion_in c new f (statements_left c f node at) done w p (AtStmt s.0) (statement_then c f node next) (λ t more. part_goes t (env_in meaning c t f)) d

      -- one ended normally
      pub part_passed : (new : Config S) → Later meaning c new → Leaves meaning (goal_here meaning c f (AtStmt s.0)) (λ t go. go (completion_in t completions.Normal)) c new
          → Leaves meaning (line_here meaning c f (statements_left c f node at)) (line_here meaning new f (statements_left new f node next)) c new
      part_passed new l d =
          let form = form_here meaning c f (AtStmt s.0) (statement_then c f node next) in
          leaves_all meaning (line_here meaning c f (statements_left c f node at)) form (line_here meaning new f (statements_left new f node next)) c c new
          (line_begins meaning c f (statements_left c f node at) (AtStmt s.0) (statement_then c f node next) (λ t more. part_goes t (env_in meaning c t f)))
          (subst (λ (us : Vec Program Global). Leaves meaning form (line_here meaning new f (λ t env. switch_from (drop next (statements_of (clauses_of (node_in t (node_among us.items f.tree node))))) env)) c new) (sym l.units)
          (part_left meaning completion_in c new f (AtStmt s.0) (statement_then c f node next) completions.Normal l d))

    -- where one is waited for
    pub part_waits : (old mid : Config S) (v : Numbered) (next : ℕ) → Later meaning old mid → (t : Table) (env : Env)
        → then_at meaning mid (at_node f node (holds.Value v ∷ [])) (points.Stmt (stmt.ClauseStatement next)) t env ≡ statement_then old f node next t env
    part_waits old mid v next l t env = ap (λ (us : Vec Program Global). switch_next (switch_from (drop next (statements_of (clauses_of (node_in t (node_among us.items f.tree node))))) env)) l.units

    -- there is none
    pub parts_end : (c : Config S) (at : ℕ) (w : List Frame) (p : Option (Frame × Phase)) → slice_get (statements_of_clauses (clauses_in (node_among c.units.items f.tree node))) at ≡ None
        → Evaluates meaning (line_here meaning c f (statements_left c f node at)) completion_in (Ok completions.Normal) w p c c
    parts_end c at w p none =
        line_ended meaning completion_in c f (statements_left c f node at) completions.Normal w p
        (λ t more env. shorten_as _ _ (sym (statement_end t (node_among c.units.items f.tree node) env at none)))
