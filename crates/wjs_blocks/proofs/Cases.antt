-- The clauses of a `switch`, from one of a number on.
use Rattle.std.proofs.Common.{◌≡◌, ℕ, zero, suc, ◌+◌, ◌-◌, ◌<◌, ◌≤◌, List, [], ◌∷◌, ◌++◌, Option, None, Some, refl, sym, ap, ◌∙◌, length, drop, get_or, arith}
use Rattle.std.specs.Prelude.{map, slice_get}
use Rattle.std.proofs.lemmas.Option.{slice_get-get_or}
use Rattle.std.proofs.lemmas.List.{drop-drop}
use Rattle.wjs_base.specs.Text.{Table}
use Rattle.wjs_base.specs.declared.ids.NodeId.{NodeId}
use Rattle.wjs_tree.specs.declared.node.Clause.{Clause}
use Rattle.wjs_by_content.specs.Values.{Value}
use Rattle.wjs_meaning.specs.Deeds.{Env, Eval, AtExpr, then_value}
use Rattle.wjs_meaning.specs.Reading.{clause_in, number, numbers}
use Rattle.wjs_meaning.specs.Statements.{switch_cases, from_default}
use Rattle.wjs_model.specs.Waiting.{after_case}
use Rattle.wjs_step_common.specs.Lists.{statements_of_clauses}
use Rattle.wjs_blocks.specs.Switches.{case_goes}
use Rattle.wjs_step_common.proofs.Parts.{drop_at, each_at, each_past}

module _ (t : Table) (clauses : List Clause) (at : ℕ) where
  abbrev all : List (Option ℕ × List ℕ)
  all = map (clause_in t) clauses

  one_more : suc at ≡ at + 1
  one_more = omega arith

  -- what is there
  here : (c : Clause) → slice_get clauses at ≡ Some c → drop at all ≡ clause_in t c ∷ drop (at + 1) all
  here c e = each_at (clause_in t) clauses at c e ∙ ap (λ (i : ℕ). clause_in t c ∷ drop i all) one_more

  module _ (v : Value) (env : Env) where
    case_at : (c : Clause) (o : Option NodeId) → slice_get clauses at ≡ Some c → c.test ≡ o → switch_cases v all (drop at all) env ≡ switch_cases v all ((number o, numbers c.body) ∷ drop (at + 1) all) env
    case_at c o e eo = ap (λ (l : List (Option ℕ × List ℕ)). switch_cases v all l env) (here c e) ∙ ap (λ (m : Option NodeId). switch_cases v all ((number m, numbers c.body) ∷ drop (at + 1) all) env) eo

    -- a clause that is no case is passed
    pub case_passed : (c : Clause) → slice_get clauses at ≡ Some c → c.test ≡ None → switch_cases v all (drop at all) env ≡ switch_cases v all (drop (at + 1) all) env
    case_passed c e eo = case_at c None e eo

    -- a case is found
    pub case_found : (c : Clause) (test : NodeId) → slice_get clauses at ≡ Some c → c.test ≡ Some test → switch_cases v all (drop at all) env ≡ case_goes v all (Some (record { at = at; test = test })) env
    case_found c test e eo =
        let d : drop at all ≡ (Some test.0, numbers c.body) ∷ drop (at + 1) all = here c e ∙ ap (λ (m : Option NodeId). (number m, numbers c.body) ∷ drop (at + 1) all) eo in
        case_at c (Some test) e eo ∙ sym (ap (λ (l : List (Option ℕ × List ℕ)). Eval (AtExpr test.0) env (then_value (after_case v all l env))) d)

    -- there is none
    pub case_none : slice_get clauses at ≡ None → switch_cases v all (drop at all) env ≡ case_goes v all None env
    case_none e = ap (λ (l : List (Option ℕ × List ℕ)). switch_cases v all l env) (each_past (clause_in t) clauses at e)

  -- the `default`
  pub default_here : (c : Clause) → slice_get clauses at ≡ Some c → c.test ≡ None → from_default (drop at all) ≡ drop at all
  default_here c e eo =
      let d : drop at all ≡ (None, numbers c.body) ∷ drop (at + 1) all = here c e ∙ ap (λ (m : Option NodeId). (number m, numbers c.body) ∷ drop (at + 1) all) eo in
      ap from_default d ∙ sym d

  pub default_passed : (c : Clause) (test : NodeId) → slice_get clauses at ≡ Some c → c.test ≡ Some test → from_default (drop at all) ≡ from_default (drop (at + 1) all)
  default_passed c test e eo = ap from_default (here c e ∙ ap (λ (m : Option NodeId). (number m, numbers c.body) ∷ drop (at + 1) all) eo)

  pub default_none : slice_get clauses at ≡ None → from_default (drop at all) ≡ drop at all
  default_none e = ap from_default (each_past (clause_in t) clauses at e) ∙ sym (each_past (clause_in t) clauses at e)

-- ---- their statements

drop_front : {A : Type 0} (xs ys : List A) → drop (length xs) (xs ++ ys) ≡ ys
drop_front [] ys = refl
drop_front (x ∷ xs) ys = drop_front xs ys

get_front : {A : Type 0} (xs ys : List A) (i : ℕ) → i < length xs → slice_get (xs ++ ys) i ≡ slice_get xs i
get_front [] ys i h = absurd (omega arith)
get_front (x ∷ xs) ys zero h = refl
get_front (x ∷ xs) ys (suc i) h = get_front xs ys i (omega arith)

get_behind : {A : Type 0} (xs ys : List A) (i : ℕ) → length xs ≤ i → slice_get (xs ++ ys) i ≡ slice_get ys (i - length xs)
get_behind [] ys i h = let e : i ≡ i - 0 = omega arith in ap (slice_get ys) e
get_behind (x ∷ xs) ys zero h = absurd (omega arith)
get_behind (x ∷ xs) ys (suc i) h = let e : i - length xs ≡ suc i - suc (length xs) = omega arith in get_behind xs ys i (omega arith) ∙ ap (slice_get ys) e

module _ (clauses : List Clause) (at : ℕ) (c : Clause) (e : slice_get clauses at ≡ Some c) where
  behind_here : statements_of_clauses (drop at clauses) ≡ c.body ++ statements_of_clauses (drop (at + 1) clauses)
  behind_here =
      let more : suc at ≡ at + 1 = omega arith in
      ap statements_of_clauses (drop_at clauses at c e) ∙ ap (λ (i : ℕ). c.body ++ statements_of_clauses (drop i clauses)) more

  pub statement_here : (left : ℕ) (d : NodeId) → left < length c.body → slice_get (statements_of_clauses (drop at clauses)) left ≡ Some (get_or c.body left d)
  statement_here left d h = ap (λ (l : List NodeId). slice_get l left) behind_here ∙ get_front c.body _ left h ∙ slice_get-get_or c.body left d h

  pub statement_behind : (left : ℕ) → length c.body ≤ left → slice_get (statements_of_clauses (drop at clauses)) left ≡ slice_get (statements_of_clauses (drop (at + 1) clauses)) (left - length c.body)
  statement_behind left h = ap (λ (l : List NodeId). slice_get l left) behind_here ∙ get_behind c.body _ left h

  pub statements_passed : (before : ℕ) → drop before (statements_of_clauses clauses) ≡ statements_of_clauses (drop at clauses) → drop (before + length c.body) (statements_of_clauses clauses) ≡ statements_of_clauses (drop (at + 1) clauses)
  statements_passed before h =
      sym (drop-drop (length c.body) before (statements_of_clauses clauses))
      ∙ ap (drop (length c.body)) (h ∙ behind_here)
      ∙ drop_front c.body (statements_of_clauses (drop (at + 1) clauses))
