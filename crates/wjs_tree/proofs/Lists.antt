-- Walks along lists of statements, clauses and elements.
use Rattle.std.specs.Prelude.{◌≡◌, ℕ, ◌+◌, ◌<◌, ◌≤◌, ◌⊎◌, max, List, [], ◌∷◌, length, drop, Some, None}
use Rattle.std.proofs.Common.{refl, sym, ap, subst, inl, inr, arith, get_or, add-one, drop-cons}
use Rattle.std.proofs.lemmas.List.{drop_all}
use Rattle.wjs_base.specs.declared.ids.TextId.{TextId}
use Rattle.wjs_base.specs.declared.ids.NodeId.{NodeId}
use Rattle.wjs_tree.specs.declared.node.Node.{Node}
use Rattle.wjs_tree.specs.declared.node.Node.TheVariants as nodes
use Rattle.wjs_tree.specs.declared.node.Clause.{Clause}
use Rattle.wjs_tree.specs.Trees.{Expr, Stmt, Stmts, Clauses, Elements, NoStmt, MoreStmts, NoClause, Case, Default, NoElement, Statement, FunctionDecl}
use Rattle.wjs_tree.specs.Height.{stmts_height, clauses_height, elements_height}
use Rattle.wjs_tree.specs.Shows.{Has}
use Rattle.wjs_tree.specs.Forms.{IsPart, AreParts, AreClauses, AreElements}
use Rattle.wjs_tree.specs.There.{StmtThere, StmtsThere, ClausesThere, ElementsThere, ElementThere}
use Rattle.wjs_tree.proofs.Walks.{ComesTo, go_on}

-- an element and what stands behind it
pub behind : {T : Type 0} (xs : List T) (k : ℕ) (d : T) → k < length xs → drop k xs ≡ get_or xs k d ∷ drop (k + 1) xs
behind xs k d lt = rw add-one (drop-cons xs k d lt)

-- the first of a list of statements, and the rest
pub record Split (ns : List Node) (t : Stmts) (i : NodeId) (more : List NodeId) : Type 0 where
  pub first : Stmt
  pub rest : Stmts
  pub is : t ≡ MoreStmts first rest
  pub part : IsPart ns first i
  pub parts : AreParts ns rest more

split : (ns : List Node) (t : Stmts) (i : NodeId) (more : List NodeId) → AreParts ns t (i ∷ more) → Split ns t i more
split ns NoStmt i more h = absurd (let e = h.1.0 in cc)
split ns (MoreStmts s rest) i more h =
    let e = h.1.4 in
    let one : h.1.0 ≡ i = cc in
    let others : h.1.1 ≡ more = cc in
    record {
      first = s;
      rest = rest;
      is = refl;
      part = subst (λ (z : NodeId). IsPart ns s z) one (h.1.2, h.1.6);
      parts = subst (λ (z : List NodeId). AreParts ns rest z) others (h.1.3, h.1.7);
    }

pub nothing : (ns : List Node) (t : Stmts) → AreParts ns t [] → t ≡ NoStmt
nothing ns NoStmt h = refl
nothing ns (MoreStmts s rest) h = absurd (let e = h.1.4 in cc)

stmts_first : (ns : List Node) (room : ℕ) (i : NodeId) (more : List NodeId) → StmtsThere ns room (i ∷ more) → StmtThere ns room i × StmtsThere ns room more
stmts_first ns room i more h =
    let s = split ns h.0 i more h.1 in
    let high : stmts_height (MoreStmts s.first s.rest) ≤ room = subst (λ (z : Stmts). stmts_height z ≤ room) s.is h.2 in
    ((s.first, s.part, omega arith), (s.rest, s.parts, omega arith))

-- k statements of a list have been passed: the statements of all come to those of the rest, as R says
pub record StmtsWalk (ns : List Node) (room : ℕ) (list : List NodeId) (k : ℕ) (R : Stmts → Stmts → Type 0) : Type 0 where
  pub there : StmtsThere ns room (drop k list)
  pub same : ComesTo (AreParts ns) R list (drop k list)

pub stmts_here : (ns : List Node) (room : ℕ) (list : List NodeId) (k : ℕ) (R : Stmts → Stmts → Type 0) (d : NodeId) → k < length list → StmtsWalk ns room list k R → StmtThere ns room (get_or list k d)
stmts_here ns room list k R d lt walk = (stmts_first ns room (get_or list k d) (drop (k + 1) list) (subst (StmtsThere ns room) (behind list k d lt) walk.there)).0

-- the statement that comes next, and those behind it
pub stmts_next : (ns : List Node) (list : List NodeId) (k : ℕ) (d : NodeId) → k < length list → (t : Stmts) → AreParts ns t (drop k list) → Split ns t (get_or list k d) (drop (k + 1) list)
stmts_next ns list k d lt t h = split ns t (get_or list k d) (drop (k + 1) list) (subst (AreParts ns t) (behind list k d lt) h)

pub stmts_on : (ns : List Node) (room : ℕ) (list : List NodeId) (k : ℕ) (Q R S : Stmts → Stmts → Type 0) (d : NodeId) → k < length list → ((t u v : Stmts) → Q t u → R u v → S t v)
    → ((s : Stmt) (rest : Stmts) → IsPart ns s (get_or list k d) → R (MoreStmts s rest) rest) → StmtsWalk ns room list k Q → StmtsWalk ns room list (k + 1) S
stmts_on ns room list k Q R S d lt join step walk = record {
  there = (stmts_first ns room (get_or list k d) (drop (k + 1) list) (subst (StmtsThere ns room) (behind list k d lt) walk.there)).1;
  same = go_on (AreParts ns) Q R S list (drop k list) (drop (k + 1) list) join walk.same (record {
    each = λ t h.
        (let s = stmts_next ns list k d lt t h in
        (s.rest, s.parts, subst (λ (z : Stmts). R z s.rest) (sym s.is) (step s.first s.rest s.part)));
  });
}

pub stmts_done : (ns : List Node) (room : ℕ) (list : List NodeId) (k : ℕ) (R : Stmts → Stmts → Type 0) → length list ≤ k → StmtsWalk ns room list k R → (t : Stmts) → AreParts ns t list → R t NoStmt
stmts_done ns room list k R le walk t h = let u = walk.same.each t h in subst (R t) (nothing ns u.0 (subst (AreParts ns u.0) (drop_all k list le) u.1)) u.2

-- the statements of the first of a list of clauses, and the other clauses
pub record ClauseSplit (ns : List Node) (t : Clauses) (c : Clause) (more : List Clause) : Type 0 where
  pub first : Stmts
  pub rest : Clauses
  pub parts : AreParts ns first c.body
  pub others : AreClauses ns rest more
  pub is : ((e : Expr) × (t ≡ Case e first rest)) ⊎ (t ≡ Default first rest)
  pub low : max (stmts_height first) (clauses_height rest) ≤ clauses_height t

split_clause : (ns : List Node) (t : Clauses) (c : Clause) (more : List Clause) → AreClauses ns t (c ∷ more) → ClauseSplit ns t c more
split_clause ns NoClause c more h = absurd (let e = h.1.0 in cc)
split_clause ns (Case e body rest) c more h =
    let same = h.1.6 in
    let one : h.1.1 ≡ c.body = ap (λ (z : Clause). z.body) (let q : record { test = Some h.1.0; body = h.1.1 } ≡ c = cc in q) in
    let others : h.1.2 ≡ more = cc in
    record {
      first = body;
      rest = rest;
      parts = subst (λ (z : List NodeId). AreParts ns body z) one (h.1.4, h.1.9);
      others = subst (λ (z : List Clause). AreClauses ns rest z) others (h.1.5, h.1.10);
      is = inl (e, refl);
      low = omega arith;
    }
split_clause ns (Default body rest) c more h =
    let same = h.1.4 in
    let one : h.1.0 ≡ c.body = ap (λ (z : Clause). z.body) (let q : record { test = None; body = h.1.0 } ≡ c = cc in q) in
    let others : h.1.1 ≡ more = cc in
    record {
      first = body;
      rest = rest;
      parts = subst (λ (z : List NodeId). AreParts ns body z) one (h.1.2, h.1.6);
      others = subst (λ (z : List Clause). AreClauses ns rest z) others (h.1.3, h.1.7);
      is = inr refl;
      low = omega arith;
    }

no_clause : (ns : List Node) (t : Clauses) → AreClauses ns t [] → t ≡ NoClause
no_clause ns NoClause h = refl
no_clause ns (Case e body rest) h = absurd (let same = h.1.6 in cc)
no_clause ns (Default body rest) h = absurd (let same = h.1.4 in cc)

clauses_first : (ns : List Node) (room : ℕ) (c : Clause) (more : List Clause) → ClausesThere ns room (c ∷ more) → StmtsThere ns room c.body × ClausesThere ns room more
clauses_first ns room c more h =
    let s = split_clause ns h.0 c more h.1 in
    let low = s.low in
    let high = h.2 in
    ((s.first, s.parts, omega arith), (s.rest, s.others, omega arith))

-- k clauses of a list have been passed
pub record ClausesWalk (ns : List Node) (room : ℕ) (list : List Clause) (k : ℕ) (R : Clauses → Clauses → Type 0) : Type 0 where
  pub there : ClausesThere ns room (drop k list)
  pub same : ComesTo (AreClauses ns) R list (drop k list)

pub clauses_here : (ns : List Node) (room : ℕ) (list : List Clause) (k : ℕ) (R : Clauses → Clauses → Type 0) (d : Clause) → k < length list → ClausesWalk ns room list k R → StmtsThere ns room (get_or list k d).body
clauses_here ns room list k R d lt walk = (clauses_first ns room (get_or list k d) (drop (k + 1) list) (subst (ClausesThere ns room) (behind list k d lt) walk.there)).0

-- the clause that comes next, and those behind it
pub clauses_next : (ns : List Node) (list : List Clause) (k : ℕ) (d : Clause) → k < length list → (t : Clauses) → AreClauses ns t (drop k list) → ClauseSplit ns t (get_or list k d) (drop (k + 1) list)
clauses_next ns list k d lt t h = split_clause ns t (get_or list k d) (drop (k + 1) list) (subst (AreClauses ns t) (behind list k d lt) h)

pub clauses_on : (ns : List Node) (room : ℕ) (list : List Clause) (k : ℕ) (Q R S : Clauses → Clauses → Type 0) (d : Clause) → k < length list → ((t u v : Clauses) → Q t u → R u v → S t v)
    → ((first : Stmts) (rest : Clauses) → AreParts ns first (get_or list k d).body → ((e : Expr) → R (Case e first rest) rest) × R (Default first rest) rest) → ClausesWalk ns room list k Q → ClausesWalk ns room list (k + 1) S
clauses_on ns room list k Q R S d lt join step walk = record {
  there = (clauses_first ns room (get_or list k d) (drop (k + 1) list) (subst (ClausesThere ns room) (behind list k d lt) walk.there)).1;
  same = go_on (AreClauses ns) Q R S list (drop k list) (drop (k + 1) list) join walk.same (record {
    each = λ t h.
        (let s = clauses_next ns list k d lt t h in
        let one = step s.first s.rest s.parts in
        let right : R t s.rest = elim s.is [ inl c ↦ subst (λ (z : Clauses). R z s.rest) (sym c.1) (one.0 c.0) | inr c ↦ subst (λ (z : Clauses). R z s.rest) (sym c) one.1 ] in
        (s.rest, s.others, right));
  });
}

pub clauses_done : (ns : List Node) (room : ℕ) (list : List Clause) (k : ℕ) (R : Clauses → Clauses → Type 0) → length list ≤ k → ClausesWalk ns room list k R → (t : Clauses) → AreClauses ns t list → R t NoClause
clauses_done ns room list k R le walk t h = let u = walk.same.each t h in subst (R t) (no_clause ns u.0 (subst (AreClauses ns u.0) (drop_all k list le) u.1)) u.2

-- the first of a list of elements, and the rest
pub record ElementSplit (ns : List Node) (t : Elements) (i : NodeId) (more : List NodeId) : Type 0 where
  pub rest : Elements
  pub others : AreElements ns rest more
  pub low : elements_height rest ≤ elements_height t
  pub cases : ((s : Stmt) × IsPart ns s i × (t ≡ Statement s rest)) ⊎ ((x : TextId) × (formals : List TextId) × (body : Elements) × (list : List NodeId) × Has ns i (nodes.FunctionDecl x formals list) × (t ≡ FunctionDecl x formals body rest))

split_element : (ns : List Node) (t : Elements) (i : NodeId) (more : List NodeId) → AreElements ns t (i ∷ more) → ElementSplit ns t i more
split_element ns NoElement i more h = absurd (let e = h.1.0 in cc)
split_element ns (Statement s rest) i more h =
    let e = h.1.4 in
    let one : h.1.0 ≡ i = cc in
    let others : h.1.1 ≡ more = cc in
    record {
      rest = rest;
      others = subst (λ (z : List NodeId). AreElements ns rest z) others (h.1.3, h.1.7);
      low = omega arith;
      cases = inl (s, subst (λ (z : NodeId). IsPart ns s z) one (h.1.2, h.1.6), refl);
    }
split_element ns (FunctionDecl x formals body rest) i more h =
    let e = h.1.5 in
    let one : h.1.0 ≡ i = cc in
    let others : h.1.2 ≡ more = cc in
    record {
      rest = rest;
      others = subst (λ (z : List NodeId). AreElements ns rest z) others (h.1.4, h.1.9);
      low = omega arith;
      cases = inr (x, formals, body, h.1.1, subst (λ (z : NodeId). Has ns z (nodes.FunctionDecl x formals h.1.1)) one h.1.7, refl);
    }

no_element : (ns : List Node) (t : Elements) → AreElements ns t [] → t ≡ NoElement
no_element ns NoElement h = refl
no_element ns (Statement s rest) h = absurd (let same = h.1.4 in cc)
no_element ns (FunctionDecl x formals body rest) h = absurd (let same = h.1.5 in cc)

pub elements_first : (ns : List Node) (room : ℕ) (i : NodeId) (more : List NodeId) → ElementsThere ns room (i ∷ more) → ElementThere ns room i × ElementsThere ns room more
elements_first ns room i more h =
    let s = split_element ns h.0 i more h.1 in
    let low = s.low in
    let high = h.2 in
    let first : ElementThere ns room i = elim s.cases [
      | inl f ↦ inl (f.0, f.1, (let q : elements_height (Statement f.0 s.rest) ≤ room = subst (λ (z : Elements). elements_height z ≤ room) f.2 high in omega arith))
      | inr f ↦ inr (f.0, f.1, f.3, f.4)
    ] in
    (first, (s.rest, s.others, omega arith))

-- k elements of a body have been passed
pub record ElementsWalk (ns : List Node) (room : ℕ) (list : List NodeId) (k : ℕ) (R : Elements → Elements → Type 0) : Type 0 where
  pub there : ElementsThere ns room (drop k list)
  pub same : ComesTo (AreElements ns) R list (drop k list)

pub elements_here : (ns : List Node) (room : ℕ) (list : List NodeId) (k : ℕ) (R : Elements → Elements → Type 0) (d : NodeId) → k < length list → ElementsWalk ns room list k R → ElementThere ns room (get_or list k d)
elements_here ns room list k R d lt walk = (elements_first ns room (get_or list k d) (drop (k + 1) list) (subst (ElementsThere ns room) (behind list k d lt) walk.there)).0

-- the element that comes next, and those behind it
pub elements_next : (ns : List Node) (list : List NodeId) (k : ℕ) (d : NodeId) → k < length list → (t : Elements) → AreElements ns t (drop k list) → ElementSplit ns t (get_or list k d) (drop (k + 1) list)
elements_next ns list k d lt t h = split_element ns t (get_or list k d) (drop (k + 1) list) (subst (AreElements ns t) (behind list k d lt) h)

pub elements_on : (ns : List Node) (room : ℕ) (list : List NodeId) (k : ℕ) (Q R S : Elements → Elements → Type 0) (d : NodeId) → k < length list → ((t u v : Elements) → Q t u → R u v → S t v)
    → ((s : Stmt) (rest : Elements) → IsPart ns s (get_or list k d) → R (Statement s rest) rest)
    → ((x : TextId) (formals : List TextId) (body : Elements) (inner : List NodeId) (rest : Elements) → Has ns (get_or list k d) (nodes.FunctionDecl x formals inner) → R (FunctionDecl x formals body rest) rest)
    → ElementsWalk ns room list k Q → ElementsWalk ns room list (k + 1) S
elements_on ns room list k Q R S d lt join statement function walk = record {
  there = (elements_first ns room (get_or list k d) (drop (k + 1) list) (subst (ElementsThere ns room) (behind list k d lt) walk.there)).1;
  same = go_on (AreElements ns) Q R S list (drop k list) (drop (k + 1) list) join walk.same (record {
    each = λ t h.
        (let s = elements_next ns list k d lt t h in
        let right : R t s.rest = elim s.cases [
          | inl f ↦ subst (λ (z : Elements). R z s.rest) (sym f.2) (statement f.0 s.rest f.1)
          | inr f ↦ subst (λ (z : Elements). R z s.rest) (sym f.5) (function f.0 f.1 f.2 f.3 s.rest f.4)
        ] in
        (s.rest, s.others, right));
  });
}

pub elements_done : (ns : List Node) (room : ℕ) (list : List NodeId) (k : ℕ) (R : Elements → Elements → Type 0) → length list ≤ k → ElementsWalk ns room list k R → (t : Elements) → AreElements ns t list → R t NoElement
elements_done ns room list k R le walk t h = let u = walk.same.each t h in subst (R t) (no_element ns u.0 (subst (AreElements ns u.0) (drop_all k list le) u.1)) u.2
