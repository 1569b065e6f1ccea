-- `var`.
use Rattle.std.proofs.Common.{◌≡◌, ℕ, ◌+◌, ◌-◌, ◌<◌, inl, inr, true, false, List, ◌∷◌, refl, sym, ap, subst, arith}
use Rattle.wjs_base.specs.declared.ids.NodeId.{NodeId}
use Rattle.wjs_tree.specs.declared.tokens.Token.TheVariants as tokens
use Rattle.wjs_tree.specs.declared.signs.Sign.TheVariants as signs
use Rattle.wjs_tree.specs.declared.tokens.Tok.{Tok}
use Rattle.wjs_tree.specs.declared.node.Node.{Node}
use Rattle.wjs_tree.specs.declared.node.Node.TheVariants as nodes
use Rattle.wjs_tree.specs.declared.node.End.{End}
use Rattle.wjs_tree.specs.Trees.{Optional, Absent, Present, Variables, Stmt, Var}
use Rattle.wjs_tree.specs.Ends.{HasSign, Ends}
use Rattle.wjs_tree.specs.Shows.{Has, Keeps}
use Rattle.wjs_tree.proofs.Kept.{variables_kept}
use Rattle.wjs_parse_expr.proofs.Readings.{same_token}
use Rattle.wjs_parse_simple.specs.declared.kind.Kind.TheVariants as kinds
use Rattle.wjs_parse_simple.specs.declared.parts.Ended.{Ended}
use Rattle.wjs_parse_simple.specs.declared.parts.ListedVariables.{ListedVariables}
use Rattle.wjs_parse_simple.specs.Kinds.{kind_of_stmt}
use Rattle.wjs_parse_simple.specs.Readings.{StmtReading, Stops, VariablesForm, ShutList}
use Rattle.wjs_parse_simple.specs.Answers.{KindIs, FindsStmt}
use Rattle.wjs_parse_simple.specs.Lists.{FindsVariables}
use Rattle.wjs_parse_simple.proofs.Forms.{told, of_kind}
use Rattle.wjs_tree.specs.declared.signs.Sign.{Sign}
use Rattle.wjs_tree.specs.Trees.{NoVariable, Variable}
use Rattle.wjs_tree.specs.Levels.{ends_in_update}
use Rattle.wjs_tree.specs.Ends.{Ending, InName, InExpr, CanInsert, continues}
use Rattle.wjs_tree.specs.Formed.{AreSome}
use Rattle.wjs_tree.specs.Spelling.{last_ending}
use Rattle.wjs_tree.specs.declared.node.End.TheVariants as ends
use Rattle.wjs_parse_simple.specs.Readings.{ending_of, value_ending, last_value, Shut}
use Rattle.wjs_parse_simple.proofs.Ending.{one_end, end_shuts}

-- no end stands before a sign that continues the statement
no_end_at : (toks : List Tok) (ending : Ending) (s : Sign) (end : End) (m n : ℕ) → HasSign toks m s → continues ending (tokens.Sign s) ≡ true → (s ≡ signs.Semicolon → ⊥) → (s ≡ signs.CloseBrace → ⊥) → Ends toks ending end m n → ⊥
no_end_at toks ending s ends.Written m n h c a b d = a (let e : tokens.Sign s ≡ tokens.Sign signs.Semicolon = same_token _ _ _ h d.0 in cc)
no_end_at toks ending s ends.Inserted m n h c a b d = inserted d.0
  where
    inserted : CanInsert toks ending m → ⊥
    inserted (inl none) = cc
    inserted (inr (inl brace)) = b (let e : tokens.Sign s ≡ tokens.Sign signs.CloseBrace = same_token _ _ _ h brace in cc)
    inserted (inr (inr o)) = let e : o.token ≡ tokens.Sign s = same_token _ _ _ o.stands h in let q : continues ending o.token ≡ continues ending (tokens.Sign s) = ap (continues ending) e in let z = o.stops in cc

last_is : (vs : Variables) → AreSome vs → last_ending vs ≡ value_ending (last_value vs)
last_is NoVariable h = absurd h
last_is (Variable x Absent NoVariable) h = refl
last_is (Variable x (Present e) NoVariable) h = refl
last_is (Variable x Absent (Variable y v rest)) h = last_is (Variable y v rest) tt
last_is (Variable x (Present e) (Variable y v rest)) h = last_is (Variable y v rest) tt

-- where variables end, nothing makes them longer
value_shut : (toks : List Tok) (o : Optional) (end : End) (m n : ℕ) → Ends toks (value_ending o) end m n → Shut toks false o m × (HasSign toks m signs.Comma → ⊥)
value_shut toks Absent end m n d = ((λ h. no_end_at toks InName signs.Assign end m n h refl (λ q. cc) (λ q. cc) d), λ h. no_end_at toks InName signs.Comma end m n h refl (λ q. cc) (λ q. cc) d)
value_shut toks (Present e) end m n d = ((λ h. end_shuts toks 1 e end m n d h), λ h. no_end_at toks (InExpr (ends_in_update e)) signs.Comma end m n h refl (λ q. cc) (λ q. cc) d)

list_shut : (toks : List Tok) (vs : Variables) (end : End) (m n : ℕ) → AreSome vs → Ends toks (last_ending vs) end m n → ShutList toks false vs m
list_shut toks vs end m n some d =
    let v = value_shut toks (last_value vs) end m n (subst (λ (z : Ending). Ends toks z end m n) (last_is vs some) d) in
    record { no_comma = v.1; shut = v.0 }

record VarForm (toks : List Tok) (room i : ℕ) (u : Stmt) (n : ℕ) : Type 0 where
  variables : Variables
  end : End
  place : ℕ
  is : u ≡ Var variables end
  form : VariablesForm toks false (room - 1) (i + 1) variables place
  ends : Ends toks (last_ending variables) end place n

only_var : (toks : List Tok) (room i : ℕ) (u : Stmt) (m : ℕ) → kind_of_stmt u ≡ kinds.Variables → StmtReading toks room i u m → VarForm toks room i u m
only_var toks room i (Var vs end) m k r = record {
  variables = vs;
  end = end;
  place = r.stands.0;
  is = refl;
  form = record { some = r.formed.0; formed = r.formed.1; height = (let h = r.height in omega arith); stands = r.stands.2 };
  ends = r.stands.3;
}
only_var toks room i _ m k r = absurd cc

module _ (toks : List Tok) (room i : ℕ) (kind : KindIs toks i kinds.Variables) where
  var_form : (u : Stmt) (m : ℕ) → StmtReading toks room i u m → Stops toks m u → VarForm toks room i u m
  var_form u m r s = only_var toks room i u m (of_kind toks room i _ kind u m r s) r

  shut_of : (u : Stmt) (m : ℕ) (x : VarForm toks room i u m) → ShutList toks false x.variables x.place
  shut_of u m x = list_shut toks x.variables x.end x.place m x.form.some x.ends

  pub var_none : ((us : Variables) (m : ℕ) → VariablesForm toks false (room - 1) (i + 1) us m → ShutList toks false us m → ⊥) → (u : Stmt) (m : ℕ) → StmtReading toks room i u m → Stops toks m u → ⊥
  var_none none u m r s = let x = var_form u m r s in none x.variables x.place x.form (shut_of u m x)

  module _ (a : List Node) (p : ListedVariables) (f : FindsVariables toks false (room - 1) (i + 1) a p) where
    ends_there : (u : Stmt) (m : ℕ) (x : VarForm toks room i u m) → Ends toks (last_ending f.trees) x.end p.next m
    ends_there u m x =
        let c = f.only x.variables x.place x.form (shut_of u m x) in
        subst (λ (z : ℕ). Ends toks (last_ending f.trees) x.end z m) c.1 (subst (λ (z : Variables). Ends toks (last_ending z) x.end x.place m) c.0 x.ends)

    pub var_open : ((end : End) (n : ℕ) → Ends toks (ending_of p.stop) end p.next n → ⊥) → (u : Stmt) (m : ℕ) → StmtReading toks room i u m → Stops toks m u → ⊥
    var_open none u m r s = let x = var_form u m r s in none x.end m (subst (λ (z : Ending). Ends toks z x.end p.next m) (sym f.ending) (ends_there u m x))

    pub var_found : (new : List Node) (e : Ended) (node : NodeId) → 0 < room → Ends toks (ending_of p.stop) e.end p.next e.next → Keeps a new → Has new node (nodes.Var p.list e.end) → FindsStmt toks room i new (record { node = node; next = e.next; is_open = false })
    var_found new e node below d k has =
        let d2 = subst (λ (z : Ending). Ends toks z e.end p.next e.next) f.ending d in
        record {
          stmt = Var f.trees e.end;
          used = node.0 ∷ f.used;
          shows = (p.list, f.used, has, refl, variables_kept a new k f.trees p.list f.used f.shows);
          is_open = refl;
          reading = record { formed = (f.form.some, f.form.formed); height = (let h = f.form.height in omega arith); stands = (p.next, told toks i _ kind, f.form.stands, d2) };
          only = λ u m r s.
              (let x = var_form u m r s in
              let c = f.only x.variables x.place x.form (shut_of u m x) in
              let q = one_end toks (last_ending f.trees) p.next m e.next x.end e.end (ends_there u m x) d2 in
              ((let x1 = x.is in let x2 = c.0 in let x3 = q.0 in cc), q.1));
        }
