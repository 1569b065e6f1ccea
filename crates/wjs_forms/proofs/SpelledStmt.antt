-- A run is read backward: statements and their lists.
use Rattle.std.proofs.Common.{◌≡◌, ℕ, zero, suc, ◌+◌, ◌≤◌, ◌⊎◌, inl, inr, Bool, true, false, not, List, [], ◌∷◌, length, Option, Some, None, slice_get, refl, sym, ap, ◌∙◌, subst, arith}
use Rattle.wjs_base.specs.declared.ids.TextId.{TextId}
use Rattle.wjs_forms.proofs.Heads.{place_sign, place_word}
use Rattle.wjs_tree.specs.declared.tokens.Tok.{Tok}
use Rattle.wjs_tree.specs.declared.tokens.Token.{Token}
use Rattle.wjs_tree.specs.declared.tokens.Token.TheVariants as tokens
use Rattle.wjs_tree.specs.declared.signs.Sign.TheVariants as signs
use Rattle.wjs_tree.specs.declared.keys.Key.{Key}
use Rattle.wjs_tree.specs.declared.keys.Key.TheVariants as keys
use Rattle.wjs_tree.specs.declared.node.End.{End}
use Rattle.wjs_tree.specs.declared.node.End.TheVariants as ends
use Rattle.wjs_tree.specs.Trees.{Expr, Optional, Arguments, Items, Properties, Variables, Init, Stmt, Stmts, Clauses, Elements, Absent, Present, NoVariable, Variable, NoInit, InitExpr, InitVar, Block, Var, Empty, ExprStmt, If, IfElse, DoWhile, While, For, ForIn, ForVarIn, Continue, Break, Return, Throw, Label, Switch, TryCatch, TryFinally, TryBoth, Within, NoStmt, MoreStmts, NoClause, Case, Default, NoElement, Statement, FunctionDecl}
use Rattle.wjs_tree.specs.Levels.{level, is_target, ends_in_update, starts_with_brace}
use Rattle.wjs_tree.specs.Formed.{is_open_if, Shaped, StmtShaped, StmtsShaped, ClausesShaped, ElementsShaped, InitialiserShaped, VariablesShaped}
use Rattle.wjs_tree.specs.Ends.{token_at, HasToken, HasSign, HasKey, IsJoined, is_joined, Ending, Complete, InName, InExpr, Offends, CanInsert, Ends}
use Rattle.wjs_tree.specs.Spelling.{last_ending, FormalsStand, Stands, StmtStands, StmtsStand, ClausesStand, ElementsStand, VariablesStand, InitialiserStands, MoreVariablesStand}
use Rattle.wjs_forms.specs.declared.class.Class.{Class}
use Rattle.wjs_forms.specs.declared.class.Class.TheVariants as classes
use Rattle.wjs_forms.specs.declared.forms.Form.{Form}
use Rattle.wjs_forms.specs.declared.forms.Form.TheVariants as forms
use Rattle.wjs_forms.specs.Classes.{class_of, class_at}
use Rattle.wjs_forms.proofs.Runs.{class_here, joined_here}
use Rattle.wjs_forms.proofs.Declared.{part_ending, final, last_is}
use Rattle.wjs_forms.proofs.Rests.{Rests, Nested, Reading, Whole, BodyRest, CompleteRest, ValueEnd, BlockRest, ElementsRest, ClausesRest, ClauseRest, FinallyRest, CaughtRest, CatchOpenRest, TriedRest, ThenRest, EachRest, DoWhileRest, UpdateRest, TestRest, InitRest, MoreRest, NamedRest, VarEnd, HeaderEnd, ProgramRest, ListRest, rests, rests_by, is_list}

pub key_at : (toks : List Tok) (i j : ℕ) (k : Key) → i ≡ j → HasKey toks i k → HasKey toks j k
key_at toks i j k e h = subst (λ (z : ℕ). HasKey toks z k) e h

module _ (toks : List Tok) (done : ℕ → Type 0) where
  -- a statement that ends in no open `if`
  plain_stmt : (t : Stmt) (i m : ℕ) → is_open_if t ≡ false → StmtShaped t → StmtStands toks t i m → done m → BodyRest toks done i
  plain_stmt t i m o f s d = (t, m, f, s, (λ q. absurd (let w : false ≡ true = sym o ∙ q in cc)), d)

  pub block : (i : ℕ) → HasSign toks i signs.OpenBrace → BlockRest toks done (i + 1) → BodyRest toks done i
  block i o b = plain_stmt (Block b.0) i (b.1 + 1) refl b.2 (b.1, o, b.3, b.4, refl) b.5

  pub empty : (i : ℕ) → HasSign toks i signs.Semicolon → done (i + 1) → BodyRest toks done i
  empty i h d = plain_stmt Empty i (i + 1) refl tt (h, refl) d

  pub expr_stmt : (e : Expr) (i m : ℕ) → starts_with_brace e ≡ false → Shaped false e → Stands toks e i m → ValueEnd toks done e m → BodyRest toks done i
  expr_stmt e i m b f s v = plain_stmt (ExprStmt e v.0) i v.1 refl (b, f) (m, s, v.2) v.3

  pub variables : (i : ℕ) → HasKey toks i keys.Var → (x : TextId) → HasToken toks (i + 1) (tokens.Word x) → NamedRest toks false (VarEnd toks done) (i + 2) → BodyRest toks done i
  variables i k x w n =
      let more = n.4 in
      let end = more.4 in
      plain_stmt (Var (Variable x n.0 more.0) end.0) i end.1 refl (tt, (n.2, more.2)) (
        more.1,
        k,
        (n.1, w, subst (λ (z : ℕ). InitialiserStands toks n.0 z n.1) (let q : i + 2 ≡ i + 1 + 1 = omega arith in q) n.3, more.3),
        subst (λ (z : Ending). Ends toks z end.0 more.1 end.1) (sym (last_is x n.0 more.0)) end.2,
      ) end.3

  pub label : (i : ℕ) (x : TextId) → HasToken toks i (tokens.Word x) → HasSign toks (i + 1) signs.Colon → BodyRest toks done (i + 2) → BodyRest toks done i
  label i x w c b = (Label x b.0, b.1, b.2, (w, c, b.3), b.4, b.5)

  pub if_stmt : (e : Expr) (i m : ℕ) → HasKey toks i keys.If → HasSign toks (i + 1) signs.OpenParen → Shaped false e → Stands toks e (i + 2) m → HasSign toks m signs.CloseParen → BodyRest toks (ThenRest toks done) (m + 1) → BodyRest toks done i
  if_stmt e i m k o f s c b = pick b.5
    where
      pick : ThenRest toks done b.1 → BodyRest toks done i
      pick (inl w) = let u = w.1 in (IfElse e b.0 u.0, u.1, (f, closed (is_open_if b.0) refl, b.2, u.2), (m, b.1, k, o, s, c, b.3, w.0, u.3), u.4, u.5)
        where
          closed : (v : Bool) → is_open_if b.0 ≡ v → is_open_if b.0 ≡ false
          closed true q = absurd (b.4 q (ap class_at w.0))
          closed false q = q
      pick (inr w) = (If e b.0, b.1, (f, b.2), (m, k, o, s, c, b.3), (λ q. w.0), w.1)

  pub while_stmt : (e : Expr) (i m : ℕ) → HasKey toks i keys.While → HasSign toks (i + 1) signs.OpenParen → Shaped false e → Stands toks e (i + 2) m → HasSign toks m signs.CloseParen → BodyRest toks done (m + 1) → BodyRest toks done i
  while_stmt e i m k o f s c b = (While e b.0, b.1, (f, b.2), (m, k, o, s, c, b.3), b.4, b.5)

  pub do_stmt : (i : ℕ) → HasKey toks i keys.Do → BodyRest toks (λ m. HasKey toks m keys.While × HasSign toks (m + 1) signs.OpenParen × DoWhileRest toks done (m + 2)) (i + 1) → BodyRest toks done i
  do_stmt i k b =
      let w = b.5 in
      let d = w.2 in
      let c = d.5 in
      plain_stmt (DoWhile b.0 d.0 c.0) i c.1 refl (b.2, d.2) (b.1, d.1, k, b.3, w.0, w.1, d.3, d.4, c.2) c.3

  pub switch_stmt : (e : Expr) (i m : ℕ) → HasKey toks i keys.Switch → HasSign toks (i + 1) signs.OpenParen → Shaped false e → Stands toks e (i + 2) m → HasSign toks m signs.CloseParen → HasSign toks (m + 1) signs.OpenBrace → ClausesRest toks done (m + 2) → BodyRest toks done i
  switch_stmt e i m k o f s c b cs = plain_stmt (Switch e cs.0) i (cs.1 + 1) refl (f, cs.2) (m, cs.1, k, o, s, c, b, cs.3, cs.4, refl) cs.5

  pub within_stmt : (e : Expr) (i m : ℕ) → HasKey toks i keys.In → Shaped false e → Stands toks e (i + 1) m → HasSign toks m signs.OpenBrace → BlockRest toks done (m + 1) → BodyRest toks done i
  within_stmt e i m k f s o b = plain_stmt (Within e b.0) i (b.1 + 1) refl (f, b.2) (m, b.1, k, s, o, b.3, b.4, refl) b.5

  pub jump_stmt : (i m : ℕ) (x : Option TextId) → CompleteRest toks done m → ((end : End) (n : ℕ) → Ends toks Complete end m n → (t : Stmt) × (is_open_if t ≡ false) × StmtShaped t × StmtStands toks t i n) → BodyRest toks done i
  jump_stmt i m x c f = let t = f c.0 c.1 c.2 in plain_stmt t.0 i c.1 t.1 t.2 t.3 c.3

  pub return_none : (i : ℕ) → HasKey toks i keys.Return → CompleteRest toks done (i + 1) → BodyRest toks done i
  return_none i k c = plain_stmt (Return Absent c.0) i c.1 refl tt (k, c.2) c.3

  pub return_value : (e : Expr) (i m : ℕ) → HasKey toks i keys.Return → IsJoined toks (i + 1) → Shaped false e → Stands toks e (i + 1) m → ValueEnd toks done e m → BodyRest toks done i
  return_value e i m k j f s v = plain_stmt (Return (Present e) v.0) i v.1 refl f (m, k, j, s, v.2) v.3

  pub throw_value : (e : Expr) (i m : ℕ) → HasKey toks i keys.Throw → IsJoined toks (i + 1) → Shaped false e → Stands toks e (i + 1) m → ValueEnd toks done e m → BodyRest toks done i
  throw_value e i m k j f s v = plain_stmt (Throw e v.0) i v.1 refl f (m, k, j, s, v.2) v.3

  -- the header of a `for`, and its statement
  pub for_stmt : (i : ℕ) → HasKey toks i keys.For → HasSign toks (i + 1) signs.OpenParen → InitRest toks done (i + 2) → BodyRest toks done i
  for_stmt i k o (inl w) =
      let t = w.5 in
      let u = t.5 in
      let b = u.5 in
      (For w.0 t.0 u.0 b.0, b.1, (w.2, t.2, u.2, b.2), (w.1, t.1, u.1, k, o, w.3, w.4, t.3, t.4, u.3, u.4, b.3), b.4, b.5)
  for_stmt i k o (inr (inl w)) =
      let e = w.7 in
      let b = e.5 in
      (ForIn w.0 e.0 b.0, b.1, (w.2, w.3, w.4, e.2, b.2), (w.1, e.1, k, o, w.5, w.6, e.3, e.4, b.3), b.4, b.5)
  for_stmt i k o (inr (inr w)) =
      let e = w.4 in
      let b = e.5 in (
        ForVarIn w.0 e.0 b.0,
        b.1,
        (e.2, b.2),
        (e.1, k, o, w.1, place_word toks (i + 2 + 1) (i + 3) w.0 (omega arith) w.2, key_at toks (i + 2 + 2) (i + 4) keys.In (omega arith) w.3, subst (λ (z : ℕ). Stands toks e.0 z e.1) (let q : i + 2 + 3 ≡ i + 5 = omega arith in q) e.3, e.4, b.3),
        b.4,
        b.5,
      )

  -- `try`, its block and what is behind it
  pub try_stmt : (i : ℕ) → HasKey toks i keys.Try → HasSign toks (i + 1) signs.OpenBrace → BlockRest toks (TriedRest toks done) (i + 2) → BodyRest toks done i
  try_stmt i k o b = pick b.5
    where
      caught : (x : TextId) → HasKey toks (b.1 + 1) keys.Catch → HasSign toks (b.1 + 2) signs.OpenParen → HasToken toks (b.1 + 3) (tokens.Word x) → HasSign toks (b.1 + 4) signs.CloseParen → HasSign toks (b.1 + 5) signs.OpenBrace → (c : Stmts) (n : ℕ) → StmtsShaped c
          → StmtsStand toks c (b.1 + 6) n → HasSign toks n signs.CloseBrace → CaughtRest toks done (n + 1) → BodyRest toks done i
      caught x a p w q u c n f s z (inl y) =
          let d = y.2 in
          plain_stmt (TryBoth b.0 x c d.0) i (d.1 + 1) refl (b.2, f, d.2)
          (b.1, n, d.1, k, o, b.3, b.4, a, p, w, q, u, s, z, y.0, place_sign toks (n + 1 + 1) (n + 2) signs.OpenBrace (omega arith) y.1, subst (λ (v : ℕ). StmtsStand toks d.0 v d.1) (let e : n + 1 + 2 ≡ n + 3 = omega arith in e) d.3, d.4, refl) d.5
      caught x a p w q u c n f s z (inr y) = plain_stmt (TryCatch b.0 x c) i (n + 1) refl (b.2, f) (b.1, n, k, o, b.3, b.4, a, p, w, q, u, s, z, refl) y

      pick : TriedRest toks done (b.1 + 1) → BodyRest toks done i
      pick (inl y) =
          let p = y.1 in
          let w = p.1 in
          let q = w.2 in
          let c = q.2 in
          caught w.0 y.0 (place_sign toks (b.1 + 1 + 1) (b.1 + 2) signs.OpenParen (omega arith) p.0) (place_word toks (b.1 + 1 + 1 + 1) (b.1 + 3) w.0 (omega arith) w.1) (place_sign toks (b.1 + 1 + 1 + 1 + 1) (b.1 + 4) signs.CloseParen (omega arith) q.0)
          (place_sign toks (b.1 + 1 + 1 + 1 + 1 + 1) (b.1 + 5) signs.OpenBrace (omega arith) q.1) c.0 c.1 c.2 (subst (λ (v : ℕ). StmtsStand toks c.0 v c.1) (let e : b.1 + 1 + 1 + 1 + 1 + 2 ≡ b.1 + 6 = omega arith in e) c.3) c.4 c.5
      pick (inr y) =
          let d = y.2 in
          plain_stmt (TryFinally b.0 d.0) i (d.1 + 1) refl (b.2, d.2)
          (b.1, d.1, k, o, b.3, b.4, y.0, place_sign toks (b.1 + 1 + 1) (b.1 + 2) signs.OpenBrace (omega arith) y.1, subst (λ (v : ℕ). StmtsStand toks d.0 v d.1) (let e : b.1 + 1 + 2 ≡ b.1 + 3 = omega arith in e) d.3, d.4, refl) d.5

  -- lists that begin with a statement, or are none
  pub cons_block : (i : ℕ) → BodyRest toks (BlockRest toks done) i → BlockRest toks done i
  cons_block i b = let r = b.5 in (MoreStmts b.0 r.0, r.1, (b.2, r.2), (b.1, b.3, r.3), r.4, r.5)

  pub cons_clause : (i : ℕ) → BodyRest toks (ClauseRest toks done) i → ClauseRest toks done i
  cons_clause i b = let r = b.5 in (MoreStmts b.0 r.0, r.1, (b.2, r.2), (b.1, b.3, r.3), r.4)

  pub cons_elements : (i : ℕ) → BodyRest toks (ElementsRest toks done) i → ElementsRest toks done i
  cons_elements i b = let r = b.5 in (Statement b.0 r.0, r.1, (b.2, r.2), (b.1, b.3, r.3), r.4, r.5)

  pub nil_block : (i : ℕ) → HasSign toks i signs.CloseBrace → done (i + 1) → BlockRest toks done i
  nil_block i h d = (NoStmt, i, tt, refl, h, d)

  pub nil_elements : (i : ℕ) → HasSign toks i signs.CloseBrace → done (i + 1) → ElementsRest toks done i
  nil_elements i h d = (NoElement, i, tt, refl, h, d)

  pub nil_clauses : (i : ℕ) → HasSign toks i signs.CloseBrace → done (i + 1) → ClausesRest toks done i
  nil_clauses i h d = (NoClause, i, tt, refl, h, d)

  pub case_clauses : (e : Expr) (i m : ℕ) → HasKey toks i keys.Case → Shaped false e → Stands toks e (i + 1) m → HasSign toks m signs.Colon → ClauseRest toks done (m + 1) → ClausesRest toks done i
  case_clauses e i m k f s c r = let cs = r.4 in (Case e r.0 cs.0, cs.1, (f, r.2, cs.2), (m, r.1, k, s, c, r.3, cs.3), cs.4, cs.5)

  pub default_clauses : (i : ℕ) → HasKey toks i keys.Default → HasSign toks (i + 1) signs.Colon → ClauseRest toks done (i + 2) → ClausesRest toks done i
  default_clauses i k c r = let cs = r.4 in (Default r.0 cs.0, cs.1, (r.2, cs.2), (r.1, k, c, r.3, cs.3), cs.4, cs.5)

  pub in_clause : (i : ℕ) → ClausesRest toks done i → ClauseRest toks done i
  in_clause i r = (NoStmt, i, tt, refl, r)

  pub cons_declared : (x : TextId) (xs : List TextId) (i b : ℕ) → HasKey toks i keys.Function → HasToken toks (i + 1) (tokens.Word x) → HasSign toks (i + 2) signs.OpenParen → FormalsStand toks xs (i + 3) b → HasSign toks b signs.CloseParen → HasSign toks (b + 1) signs.OpenBrace
      → ElementsRest toks (ElementsRest toks done) (b + 2) → ElementsRest toks done i
  cons_declared x xs i b k w o f c p r = let n = r.5 in (FunctionDecl x xs r.0 n.0, n.1, (r.2, tt, n.2), (b, r.1, k, w, o, f, c, p, r.3, r.4, n.3), n.4, n.5)

-- the same at the top of a program
pub cons_program : (toks : List Tok) (i : ℕ) → BodyRest toks (ProgramRest toks) i → ProgramRest toks i
cons_program toks i b = let r = b.5 in (Statement b.0 r.0, (b.2, r.1), (b.1, b.3, r.2))

pub declared_program : (toks : List Tok) (x : TextId) (xs : List TextId) (i b : ℕ) → HasKey toks i keys.Function → HasToken toks (i + 1) (tokens.Word x) → HasSign toks (i + 2) signs.OpenParen → FormalsStand toks xs (i + 3) b → HasSign toks b signs.CloseParen → HasSign toks (b + 1) signs.OpenBrace
    → ElementsRest toks (ProgramRest toks) (b + 2) → ProgramRest toks i
declared_program toks x xs i b k w o f c p r = let n = r.5 in (FunctionDecl x xs r.0 n.0, (r.2, tt, n.1), (b, r.1, k, w, o, f, c, p, r.3, r.4, n.2))
