-- `if`, with all that stands behind its `else`s.
use Rattle.std.proofs.Common.{◌≡◌, ℕ, ◌+◌, ◌-◌, ◌<◌, ◌⊎◌, inl, inr, true, false, List, [], ◌∷◌, ◌++◌, None, refl, sym, ap, ◌∙◌, subst, arith}
use Rattle.wjs_base.specs.declared.ids.NodeId.{NodeId}
use Rattle.wjs_tree.specs.declared.tokens.Token.TheVariants as tokens
use Rattle.wjs_tree.specs.declared.signs.Sign.TheVariants as signs
use Rattle.wjs_tree.specs.declared.keys.Key.TheVariants as keys
use Rattle.wjs_tree.specs.declared.tokens.Tok.{Tok}
use Rattle.wjs_tree.specs.declared.node.Node.{Node}
use Rattle.wjs_tree.specs.declared.node.Node.TheVariants as nodes
use Rattle.wjs_tree.specs.Trees.{Expr, Stmt, If, IfElse}
use Rattle.wjs_tree.specs.Formed.{is_open_if}
use Rattle.wjs_tree.specs.Ends.{token_at, HasKey}
use Rattle.wjs_tree.specs.Spelling.{Stands, StmtStands}
use Rattle.wjs_tree.specs.Shows.{Has, Keeps}
use Rattle.wjs_tree.proofs.Kept.{kept, stmt_kept}
use Rattle.wjs_parse_expr.proofs.Readings.{same_token}
use Rattle.wjs_parse_simple.specs.declared.kind.Kind.TheVariants as kinds
use Rattle.wjs_parse_simple.specs.declared.parts.Piece.{Piece}
use Rattle.wjs_parse_simple.specs.declared.parts.Spot.{Spot}
use Rattle.wjs_parse_stmt.specs.declared.parts.Branch.{Branch}
use Rattle.wjs_parse_simple.specs.Kinds.{kind_of, kind_of_stmt}
use Rattle.wjs_parse_simple.specs.Readings.{StmtReading, Stops, TestForm}
use Rattle.wjs_parse_simple.specs.Answers.{KindIs, FindsStmt, FindsExpr}
use Rattle.wjs_parse_stmt.specs.Branches.{BranchForm, FindsBranch}
use Rattle.wjs_parse_stmt.specs.Chains.{Head, chain, HeadsShow, IsChained}
use Rattle.wjs_parse_simple.proofs.Forms.{of_kind}
use Rattle.wjs_parse_stmt.proofs.Chaining.{heads_kept, heads_last, chain_last}

-- ---- the test and the statement

pub branch_found : (toks : List Tok) (room i : ℕ) (a b : List Node) (p : Spot) (q : Piece) → FindsExpr (TestForm toks room (i + 1)) a p → Keeps a b → FindsStmt toks room p.next b q
    → FindsBranch toks room i b (record { test = p.node; body = q.node; next = q.next; is_open = q.is_open })
branch_found toks room i a b p q f k g = record {
  test = f.tree;
  body = g.stmt;
  test_used = f.used;
  body_used = g.used;
  test_shows = kept a b k f.tree p.node f.used f.shows;
  body_shows = g.shows;
  is_open = g.is_open;
  form = record { place = p.next; test = f.form; body = g.reading };
  only = λ e u m x s.
      (let c = f.only e x.place x.test in
      let d = g.only u m (subst (λ (z : ℕ). StmtReading toks room z u m) c.1 x.body) s in
      (c.0, d.0, d.1));
}

pub branch_no_test : (toks : List Tok) (room i : ℕ) → ((u : Expr) (m : ℕ) → TestForm toks room (i + 1) u m → ⊥) → (e : Expr) (u : Stmt) (m : ℕ) → BranchForm toks room i e u m → Stops toks m u → ⊥
branch_no_test toks room i none e u m x s = none e x.place x.test

pub branch_no_body : (toks : List Tok) (room i : ℕ) (a : List Node) (p : Spot) → FindsExpr (TestForm toks room (i + 1)) a p → ((u : Stmt) (m : ℕ) → StmtReading toks room p.next u m → Stops toks m u → ⊥) → (e : Expr) (u : Stmt) (m : ℕ) → BranchForm toks room i e u m → Stops toks m u → ⊥
branch_no_body toks room i a p f none e u m x s = none u m (subst (λ (z : ℕ). StmtReading toks room z u m) (f.only e x.place x.test).1 x.body) s

-- ---- what an `if` is

record Bare (toks : List Tok) (room i : ℕ) (u : Stmt) (n : ℕ) : Type 0 where
  test : Expr
  body : Stmt
  is : u ≡ If test body
  form : BranchForm toks (room - 1) i test body n
  stops : Stops toks n body

record WithElse (toks : List Tok) (room i : ℕ) (u : Stmt) (n : ℕ) : Type 0 where
  test : Expr
  body : Stmt
  other : Stmt
  place : ℕ
  is : u ≡ IfElse test body other
  closed : is_open_if body ≡ false
  form : BranchForm toks (room - 1) i test body place
  key : HasKey toks place keys.Else
  reading : StmtReading toks room (place + 1) other n
  stops : Stops toks n other

two : (i : ℕ) → (i + 1) + 1 ≡ i + 2
two i = omega arith

only_if : (toks : List Tok) (room i : ℕ) (u : Stmt) (m : ℕ) → kind_of_stmt u ≡ kinds.If → StmtReading toks room i u m → Stops toks m u → Bare toks room i u m ⊎ WithElse toks room i u m
only_if toks room i (If e b) m k r s = inl (record {
  test = e;
  body = b;
  is = refl;
  form = record {
    place = r.stands.0 + 1;
    test = record { close = r.stands.0; opens = r.stands.2; reading = record { level = omega arith; formed = r.formed.0; height = (let h = r.height in omega arith); stands = subst (λ (z : ℕ). Stands toks e z r.stands.0) (sym (two i)) r.stands.3 }; closes = r.stands.4; ends = refl };
    body = record { formed = r.formed.1; height = (let h = r.height in omega arith); stands = r.stands.5 };
  };
  stops = record { no_else = λ h. absurd (let q = s.no_else h in cc); no_finally = s.no_finally; no_colon = s.no_colon };
})
only_if toks room i (IfElse e a b) m k r s = inr (record {
  test = e;
  body = a;
  other = b;
  place = r.stands.1;
  is = refl;
  closed = r.formed.1;
  form = record {
    place = r.stands.0 + 1;
    test = record { close = r.stands.0; opens = r.stands.3; reading = record { level = omega arith; formed = r.formed.0; height = (let h = r.height in omega arith); stands = subst (λ (z : ℕ). Stands toks e z r.stands.0) (sym (two i)) r.stands.4 }; closes = r.stands.5; ends = refl };
    body = record { formed = r.formed.2; height = (let h = r.height in omega arith); stands = r.stands.6 };
  };
  key = r.stands.7;
  reading = record { formed = r.formed.3; height = (let h = r.height in omega arith); stands = r.stands.8 };
  stops = record { no_else = s.no_else; no_finally = s.no_finally; no_colon = s.no_colon };
})
only_if toks room i _ m k r s = absurd cc

key_if : (toks : List Tok) (i : ℕ) → HasKey toks i keys.If → KindIs toks i kinds.If
key_if toks i h = ap (λ z. kind_of z (token_at toks (i + 1))) h

shape : (toks : List Tok) (room i : ℕ) → HasKey toks i keys.If → (u : Stmt) (m : ℕ) → StmtReading toks room i u m → Stops toks m u → Bare toks room i u m ⊎ WithElse toks room i u m
shape toks room i h u m r s = only_if toks room i u m (of_kind toks room i kinds.If (key_if toks i h) u m r s) r s

-- `else` ends a statement that it can't belong to
else_stops : (toks : List Tok) (m : ℕ) (u : Stmt) → HasKey toks m keys.Else → is_open_if u ≡ false → Stops toks m u
else_stops toks m u h closed = record {
  no_else = λ x. closed;
  no_finally = λ x. (let q : tokens.Key keys.Else ≡ tokens.Key keys.Finally = same_token _ _ _ h x in cc);
  no_colon = λ x. (let q : tokens.Key keys.Else ≡ tokens.Sign signs.Colon = same_token _ _ _ h x in cc);
}

module _ (toks : List Tok) (room place : ℕ) (key : HasKey toks place keys.If) where
  -- no test and statement
  pub if_none : ((e : Expr) (u : Stmt) (m : ℕ) → BranchForm toks (room - 1) place e u m → Stops toks m u → ⊥) → (u : Stmt) (m : ℕ) → StmtReading toks room place u m → Stops toks m u → ⊥
  if_none none u m r s = pick (shape toks room place key u m r s)
    where
      pick : Bare toks room place u m ⊎ WithElse toks room place u m → ⊥
      pick (inl x) = none x.test x.body m x.form x.stops
      pick (inr x) = none x.test x.body x.place x.form (else_stops toks x.place x.body x.key x.closed)

  module _ (ns : List Node) (p : Branch) (f : FindsBranch toks (room - 1) place ns p) where
    same_else : (u : Stmt) (m : ℕ) (x : WithElse toks room place u m) → (x.test ≡ f.test) × (x.body ≡ f.body) × (x.place ≡ p.next)
    same_else u m x = f.only x.test x.body x.place x.form (else_stops toks x.place x.body x.key x.closed)

    -- without `else`
    pub if_found : (new : List Node) (node : NodeId) → 0 < room → (HasKey toks p.next keys.Else → ⊥) → Keeps ns new → Has new node (nodes.If p.test p.body None) → FindsStmt toks room place new (record { node = node; next = p.next; is_open = true })
    if_found new node below nay k has =
        let e : p.next ≡ p.next = refl in
        let q : f.form.place ≡ f.form.test.close + 1 = f.form.test.ends in
        record {
          stmt = If f.test f.body;
          used = node.0 ∷ (f.test_used ++ f.body_used);
          shows = (p.test, p.body, f.test_used, f.body_used, has, refl, kept ns new k f.test p.test f.test_used f.test_shows, stmt_kept ns new k f.body p.body f.body_used f.body_shows);
          is_open = refl;
          reading = record {
            formed = (f.form.test.reading.formed, f.form.body.formed);
            height = (let h = f.form.test.reading.height in let h2 = f.form.body.height in omega arith);
            stands = (f.form.test.close, key, f.form.test.opens, subst (λ (z : ℕ). Stands toks f.test z f.form.test.close) (two place) f.form.test.reading.stands, f.form.test.closes, subst (λ (z : ℕ). StmtStands toks f.body z p.next) q f.form.body.stands);
          };
          only = λ u m r s. pick u m (shape toks room place key u m r s);
        }
      where
        pick : (u : Stmt) (m : ℕ) → Bare toks room place u m ⊎ WithElse toks room place u m → (u ≡ If f.test f.body) × (m ≡ p.next)
        pick u m (inl x) = let a = f.only x.test x.body m x.form x.stops in (x.is ∙ ap (λ z. If z x.body) a.0 ∙ ap (If f.test) a.1, a.2)
        pick u m (inr x) = absurd (nay (subst (λ (z : ℕ). HasKey toks z keys.Else) (same_else u m x).2 x.key))

    -- before `else`
    behind_else : HasKey toks p.next keys.Else → (u : Stmt) (m : ℕ) → Stops toks m u → Bare toks room place u m ⊎ WithElse toks room place u m
        → (is_open_if f.body ≡ false) × (v : Stmt) × (u ≡ IfElse f.test f.body v) × StmtReading toks room (p.next + 1) v m × Stops toks m v
    behind_else h u m s (inl x) =
        absurd (let a = f.only x.test x.body m x.form x.stops in
        let c : is_open_if u ≡ false = s.no_else (subst (λ (z : ℕ). HasKey toks z keys.Else) (sym a.2) h) in
        let d : is_open_if u ≡ true = ap is_open_if x.is in cc)
    behind_else h u m s (inr x) =
        let a = same_else u m x in
        (sym (ap is_open_if a.1) ∙ x.closed, x.other, x.is ∙ ap (λ z. IfElse z x.body x.other) a.0 ∙ ap (λ z. IfElse f.test z x.other) a.1, subst (λ (z : ℕ). StmtReading toks room (z + 1) x.other m) a.2 x.reading, x.stops)

    -- an `else` that belongs to an `if` in the statement
    pub if_open : HasKey toks p.next keys.Else → p.is_open ≡ true → (u : Stmt) (m : ℕ) → StmtReading toks room place u m → Stops toks m u → ⊥
    if_open h opened u m r s = let b = behind_else h u m s (shape toks room place key u m r s) in let c = b.0 in let d = f.is_open in cc

    -- the reading of the whole
    joined : HasKey toks p.next keys.Else → p.is_open ≡ false → (v : Stmt) (n : ℕ) → StmtReading toks room (p.next + 1) v n → 0 < room → StmtReading toks room place (IfElse f.test f.body v) n
    joined h closed v n r below =
        let q : f.form.place ≡ f.form.test.close + 1 = f.form.test.ends in
        record {
          formed = (f.form.test.reading.formed, sym f.is_open ∙ closed, f.form.body.formed, r.formed);
          height = (let h = f.form.test.reading.height in let h2 = f.form.body.height in let h3 = r.height in omega arith);
          stands = (f.form.test.close, p.next, key, f.form.test.opens, subst (λ (z : ℕ). Stands toks f.test z f.form.test.close) (two place) f.form.test.reading.stands, f.form.test.closes, subst (λ (z : ℕ). StmtStands toks f.body z p.next) q f.form.body.stands, h, r.stands);
        }

-- ---- behind each other's `else`s

-- The `if`s before a place are read, and each statement goes through them.
pub record Linked (toks : List Tok) (room at : ℕ) (ns : List Node) (list : List Branch) (place : ℕ) : Type 0 where
  pub heads : List Head
  pub shows : HeadsShow ns heads list
  pub join : (t : Stmt) (n : ℕ) → StmtReading toks room place t n → StmtReading toks room at (chain heads t) n
  pub ahead : (u : Stmt) (m : ℕ) → StmtReading toks room at u m → Stops toks m u → (t : Stmt) × (u ≡ chain heads t) × StmtReading toks room place t m × Stops toks m t
  pub open_end : (t : Stmt) → is_open_if (chain heads t) ≡ is_open_if t

module _ (toks : List Tok) (room at : ℕ) where
  pub link_start : (ns : List Node) (list : List Branch) → list ≡ [] → Linked toks room at ns list at
  link_start ns list e = record {
    heads = [];
    shows = e;
    join = λ t n r. r;
    ahead = λ u m r s. (u, refl, r, s);
    open_end = λ t. refl;
  }

  module _ (ns : List Node) (list : List Branch) (place : ℕ) (l : Linked toks room at ns list place) where
    pub link_none : ((u : Stmt) (m : ℕ) → StmtReading toks room place u m → Stops toks m u → ⊥) → (u : Stmt) (m : ℕ) → StmtReading toks room at u m → Stops toks m u → ⊥
    link_none none u m r s = let a = l.ahead u m r s in none a.0 m a.2 a.3

    pub link_found : (now new : List Node) (p : Piece) (node : NodeId) → Keeps ns now → FindsStmt toks room place now p → IsChained now list p.node new node → FindsStmt toks room at new (record { node = node; next = p.next; is_open = p.is_open })
    link_found now new p node k f c =
        let s = c.shows l.heads f.stmt f.used (heads_kept ns now k l.heads list l.shows) f.shows in
        record {
          stmt = chain l.heads f.stmt;
          used = s.0;
          shows = s.1;
          is_open = f.is_open ∙ sym (l.open_end f.stmt);
          reading = l.join f.stmt p.next f.reading;
          only = λ u m r st. (let a = l.ahead u m r st in let b = f.only a.0 m a.2 a.3 in (a.1 ∙ ap (chain l.heads) b.0, b.1));
        }

    pub link_more : (ns' : List Node) (p : Branch) (list' : List Branch) → 0 < room → HasKey toks place keys.If → FindsBranch toks (room - 1) place ns' p → Keeps ns ns' → HasKey toks p.next keys.Else → p.is_open ≡ false → list' ≡ list ++ p ∷ []
        → Linked toks room at ns' list' (p.next + 1)
    link_more ns' p list' below key f k h closed made =
        let head : Head = record { test = f.test; body = f.body } in
        record {
          heads = l.heads ++ head ∷ [];
          shows = subst (λ (z : List Branch). HeadsShow ns' (l.heads ++ head ∷ []) z) (sym made) (heads_last ns' l.heads list head p f.test_used f.body_used (heads_kept ns ns' k l.heads list l.shows) f.test_shows f.body_shows);
          join = λ t n r. subst (λ (z : Stmt). StmtReading toks room at z n) (sym (chain_last l.heads head t)) (l.join (IfElse f.test f.body t) n (joined toks room place key ns' p f h closed t n r below));
          ahead = λ u m r s.
              (let a = l.ahead u m r s in
              let b = behind_else toks room place key ns' p f h a.0 m a.3 (shape toks room place key a.0 m a.2 a.3) in
              (b.1, a.1 ∙ ap (chain l.heads) b.2 ∙ sym (chain_last l.heads head b.1), b.3, b.4));
          open_end = λ t. ap is_open_if (chain_last l.heads head t) ∙ l.open_end (IfElse f.test f.body t);
        }
