-- Lists of statements, variables and clauses made of nodes of their own, which loops make longer.
use Rattle.std.proofs.Common.{◌≡◌, ℕ, List, [], ◌∷◌, ◌++◌, Option, refl, sym, ap, ◌∙◌, subst, arith, append_assoc}
use Rattle.wjs_base.specs.declared.ids.NodeId.{NodeId}
use Rattle.wjs_tree.specs.declared.tokens.Tok.{Tok}
use Rattle.wjs_tree.specs.declared.node.Node.{Node}
use Rattle.wjs_tree.specs.declared.node.Clause.{Clause}
use Rattle.wjs_tree.specs.Trees.{Optional, Absent, Present, Stmt, Stmts, NoStmt, MoreStmts, Clauses, NoClause, Case, Default}
use Rattle.wjs_tree.specs.Shows.{OptionalShows, StmtShows, StmtsShow, ClausesShow}
use Rattle.wjs_tree.proofs.Kept.{stmts_kept, clauses_kept}
use Rattle.wjs_parse_expr.specs.declared.functions.Functions.{Functions}
use Rattle.wjs_parse_expr.specs.Table.{Holds}
use Rattle.wjs_parse_simple.specs.Made.{StmtMade}
use Rattle.wjs_parse_stmt.specs.Made.{StmtsMade, ArmMade, ClausesMade}
use Rattle.wjs_parse_simple.proofs.Spans.{span_none, span_both}

nil : {A : Type 0} (xs : List A) → xs ++ [] ≡ xs
nil [] = refl
nil (x ∷ xs) = ap (λ z. x ∷ z) (nil xs)

-- ---- statements

abbrev snoc : Stmts → Stmt → Stmts
snoc NoStmt s = MoreStmts s NoStmt
snoc (MoreStmts t rest) s = MoreStmts t (snoc rest s)

snoc_shows : (ns : List Node) (ss : Stmts) (list : List NodeId) (us : List ℕ) (s : Stmt) (a : NodeId) (vs : List ℕ) → StmtsShow ns ss list us → StmtShows ns s a vs → StmtsShow ns (snoc ss s) (list ++ a ∷ []) (us ++ vs)
snoc_shows ns NoStmt list us s a vs h g = (a, [], vs, [], ap (λ z. z ++ a ∷ []) h.0, ap (λ z. z ++ vs) h.1 ∙ sym (nil vs), g, (refl, refl))
snoc_shows ns (MoreStmts t rest) list us s a vs h g =
    (h.0, h.1 ++ a ∷ [], h.2, h.3 ++ vs, ap (λ z. z ++ a ∷ []) h.4, ap (λ z. z ++ vs) h.5 ∙ append_assoc h.2 h.3 vs, h.6, snoc_shows ns rest h.1 h.3 s a vs h.7 g)

pub stmts_none : (functions : Functions) (ns : List Node) (i : ℕ) (list : List NodeId) → list ≡ [] → StmtsMade functions ns ns i list i
stmts_none functions ns i list e = record { trees = NoStmt; used = []; shows = (e, refl); span = span_none functions ns i }

pub stmts_more : (toks : List Tok) (functions : Functions) (place room : ℕ) (n0 : List Node) → Holds toks functions place room n0 → (n1 n2 : List Node) (i j n : ℕ) (list list' : List NodeId) (a : NodeId)
    → StmtsMade functions n0 n1 i list j → StmtMade functions n1 n2 j a n → list' ≡ list ++ a ∷ [] → StmtsMade functions n0 n2 i list' n
stmts_more toks functions place room n0 h n1 n2 i j n list list' a f g e = record {
  trees = snoc f.trees g.tree;
  used = f.used ++ g.used;
  shows = subst (λ (z : List NodeId). StmtsShow n2 (snoc f.trees g.tree) z (f.used ++ g.used)) (sym e) (snoc_shows n2 f.trees list f.used g.tree a g.used (stmts_kept n1 n2 g.span.keeps f.trees list f.used f.shows) g.shows);
  span = span_both toks functions place room n0 h n1 n2 i j j n f.used g.used f.span (omega arith) g.span;
}

pub stmts_same : (functions : Functions) (n0 n1 : List Node) (i n n' : ℕ) (list list' : List NodeId) → StmtsMade functions n0 n1 i list n → list' ≡ list → n' ≡ n → StmtsMade functions n0 n1 i list' n'
stmts_same functions n0 n1 i n n' list list' f e e' = subst (λ (z : List NodeId). StmtsMade functions n0 n1 i z n') (sym e) (subst (λ (z : ℕ). StmtsMade functions n0 n1 i list z) (sym e') f)

-- ---- clauses

abbrev one : Optional → Stmts → Clauses → Clauses
one Absent ss rest = Default ss rest
one (Present e) ss rest = Case e ss rest

one_shows : (ns : List Node) (o : Optional) (ss : Stmts) (rest : Clauses) (clause : Clause) (more : List Clause) (us vs ws : List ℕ) → OptionalShows ns o clause.test us → StmtsShow ns ss clause.body vs → ClausesShow ns rest more ws
    → ClausesShow ns (one o ss rest) (clause ∷ more) ((us ++ vs) ++ ws)
one_shows ns Absent ss rest clause more us vs ws a b c =
    (clause.body, more, vs, ws, ap (λ (z : Option NodeId). let k : Clause = record { test = z; body = clause.body } in k ∷ more) a.0, ap (λ z. (z ++ vs) ++ ws) a.1, b, c)
one_shows ns (Present e) ss rest clause more us vs ws a b c =
    (a.0, clause.body, more, us, vs, ws, ap (λ (z : Option NodeId). let k : Clause = record { test = z; body = clause.body } in k ∷ more) a.1, append_assoc us vs ws, a.2, b, c)

abbrev join : Clauses → Clauses → Clauses
join NoClause last = last
join (Case e ss rest) last = Case e ss (join rest last)
join (Default ss rest) last = Default ss (join rest last)

join_shows : (ns : List Node) (cs last : Clauses) (list more : List Clause) (us vs : List ℕ) → ClausesShow ns cs list us → ClausesShow ns last more vs → ClausesShow ns (join cs last) (list ++ more) (us ++ vs)
join_shows ns NoClause last list more us vs h g =
    subst (λ (z : List Clause). ClausesShow ns last (z ++ more) (us ++ vs)) (sym h.0) (subst (λ (z : List ℕ). ClausesShow ns last more (z ++ vs)) (sym h.1) g)
join_shows ns (Case e ss rest) last list more us vs h g =
    (h.0, h.1, h.2 ++ more, h.3, h.4, h.5 ++ vs, ap (λ z. z ++ more) h.6, ap (λ z. z ++ vs) h.7 ∙ append_assoc h.3 (h.4 ++ h.5) vs ∙ ap (λ z. h.3 ++ z) (append_assoc h.4 h.5 vs), h.8, h.9, join_shows ns rest last h.2 more h.5 vs h.10 g)
join_shows ns (Default ss rest) last list more us vs h g =
    (h.0, h.1 ++ more, h.2, h.3 ++ vs, ap (λ z. z ++ more) h.4, ap (λ z. z ++ vs) h.5 ∙ append_assoc h.2 h.3 vs, h.6, join_shows ns rest last h.1 more h.3 vs h.7 g)

pub clauses_none : (functions : Functions) (ns : List Node) (i : ℕ) (list : List Clause) → list ≡ [] → ClausesMade functions ns ns i list i
clauses_none functions ns i list e = record { trees = NoClause; used = []; shows = (e, refl); span = span_none functions ns i }

pub clauses_more : (toks : List Tok) (functions : Functions) (place room : ℕ) (n0 : List Node) → Holds toks functions place room n0 → (n1 n2 : List Node) (i j n : ℕ) (list list' : List Clause) (clause : Clause)
    → ClausesMade functions n0 n1 i list j → ArmMade functions n1 n2 j clause n → list' ≡ list ++ clause ∷ [] → ClausesMade functions n0 n2 i list' n
clauses_more toks functions place room n0 h n1 n2 i j n list list' clause f g e =
    let last = one_shows n2 g.test g.trees NoClause clause [] g.test_used g.used [] g.test_shows g.shows (refl, refl) in
    let us : List ℕ = g.test_used ++ g.used in
    record {
      trees = join f.trees (one g.test g.trees NoClause);
      used = f.used ++ us;
      shows = subst (λ (z : List Clause). ClausesShow n2 (join f.trees (one g.test g.trees NoClause)) z (f.used ++ us)) (sym e)
          (join_shows n2 f.trees (one g.test g.trees NoClause) list (clause ∷ []) f.used us (clauses_kept n1 n2 g.span.keeps f.trees list f.used f.shows) (subst (λ (z : List ℕ). ClausesShow n2 (one g.test g.trees NoClause) (clause ∷ []) z) (nil us) last));
      span = span_both toks functions place room n0 h n1 n2 i j j n f.used us f.span (omega arith) g.span;
    }

pub clauses_same : (functions : Functions) (n0 n1 : List Node) (i n n' : ℕ) (list list' : List Clause) → ClausesMade functions n0 n1 i list n → list' ≡ list → n' ≡ n → ClausesMade functions n0 n1 i list' n'
clauses_same functions n0 n1 i n n' list list' f e e' = subst (λ (z : List Clause). ClausesMade functions n0 n1 i z n') (sym e) (subst (λ (z : ℕ). ClausesMade functions n0 n1 i list z) (sym e') f)
