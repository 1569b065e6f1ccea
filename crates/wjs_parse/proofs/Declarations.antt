-- Functions with names that are read already, as elements.
use Rattle.std.proofs.Common.{◌≡◌, ℕ, ◌+◌, ◌<◌, ◌≤◌, true, List, ◌∷◌, Option, Some, None, refl, sym, ap, ◌∙◌, subst, arith}
use Rattle.std.specs.Prelude.{IsSome}
use Rattle.wjs_base.specs.declared.ids.TextId.{TextId}
use Rattle.wjs_base.specs.declared.ids.NodeId.{NodeId}
use Rattle.wjs_tree.specs.declared.keys.Key.TheVariants as keys
use Rattle.wjs_tree.specs.declared.tokens.Tok.{Tok}
use Rattle.wjs_tree.specs.declared.node.Node.{Node}
use Rattle.wjs_tree.specs.declared.node.Node.TheVariants as nodes
use Rattle.wjs_tree.specs.Trees.{Expr, Stmt, Elements, Function}
use Rattle.wjs_tree.specs.Height.{height}
use Rattle.wjs_tree.specs.Ends.{token_at, HasKey}
use Rattle.wjs_tree.specs.Shows.{Has, Shows, ElementsShow, Keeps}
use Rattle.wjs_tree.proofs.Kept.{elements_kept}
use Rattle.wjs_parse_expr.specs.declared.functions.Functions.{Functions}
use Rattle.wjs_parse_expr.specs.Readings.{FunctionReading, is_function}
use Rattle.wjs_parse_expr.specs.Table.{entry_at, MayBegin, Holds}
use Rattle.wjs_parse_simple.specs.declared.parts.Piece.{Piece}
use Rattle.wjs_parse_simple.specs.Kinds.{kind_of}
use Rattle.wjs_parse_simple.specs.Readings.{StmtReading, Stops}
use Rattle.wjs_parse_simple.specs.Answers.{FindsStmt}
use Rattle.wjs_parse_simple.proofs.Simple.{nothing_none}
use Rattle.wjs_parse.specs.Readings.{Element, Plain, Declared, ElementReading, ElementStops}
use Rattle.wjs_parse.specs.Answers.{FindsElement}

as_stmt : (toks : List Tok) (room i : ℕ) (s : Stmt) (m : ℕ) → ElementReading toks room i (Plain s) m → StmtReading toks room i s m
as_stmt toks room i s m r = record { formed = r.formed; height = r.height; stands = r.stands }

-- ---- a statement as an element

module _ (toks : List Tok) (room i : ℕ) (no_key : HasKey toks i keys.Function → ⊥) where
  only_plain : (ns : List Node) (p : Piece) (f : FindsStmt toks room i ns p) (u : Element) (m : ℕ) → ElementReading toks room i u m → ElementStops toks m u → (u ≡ Plain f.stmt) × (m ≡ p.next)
  only_plain ns p f (Plain s) m r z = let q = f.only s m (as_stmt toks room i s m r) z in (ap Plain q.0, q.1)
  only_plain ns p f (Declared x formals body) m r z = absurd (no_key r.stands.3)

  pub plain_found : (ns : List Node) (p : Piece) → FindsStmt toks room i ns p → FindsElement toks room i ns (record { node = p.node; next = p.next })
  plain_found ns p f = record {
    tree = Plain f.stmt;
    used = f.used;
    shows = f.shows;
    reading = record { formed = f.reading.formed; height = f.reading.height; stands = f.reading.stands };
    only = λ u m r z. only_plain ns p f u m r z;
  }

  pub plain_none : ((u : Stmt) (m : ℕ) → StmtReading toks room i u m → Stops toks m u → ⊥) → (u : Element) (m : ℕ) → ElementReading toks room i u m → ElementStops toks m u → ⊥
  plain_none none (Plain s) m r z = none s m (as_stmt toks room i s m r) z
  plain_none none (Declared x formals body) m r z = no_key r.stands.3

-- ---- a function as an element

as_function : (toks : List Tok) (room i : ℕ) (x : TextId) (formals : List TextId) (body : Elements) (m : ℕ) → room ≤ 200 → ElementReading toks room i (Declared x formals body) m → FunctionReading toks i (Function (Some x) formals body) m
as_function toks room i x formals body m low r = record { is = refl; reading = record { level = omega arith; formed = r.formed; height = (let h = r.height in omega arith); stands = r.stands } }

not_none : {A : Type 0} (o : Option A) → o ≡ None → IsSome o → ⊥
not_none None e h = cc
not_none (Some x) e h = cc

-- the parts of a function with a name
pub shown : (ns : List Node) (t : Expr) (node : NodeId) (used : List ℕ) → is_function t ≡ true → Shows ns t node used → (x : TextId) (formals : List TextId) (list : List NodeId) → Has ns node (nodes.Function (Some x) formals list)
    → (body : Elements) × (us : List ℕ) × (t ≡ Function (Some x) formals body) × ElementsShow ns body list us × (used ≡ node.0 ∷ us)
shown ns (Function name ys body) node used is h x formals list has =
    let a = h.2 in
    let e : nodes.Function name ys h.0 ≡ nodes.Function (Some x) formals list = cc in
    let p : name ≡ Some x = cc in
    let q : ys ≡ formals = cc in
    let r : h.0 ≡ list = cc in
    (body, h.1, cc, subst (λ (z : List NodeId). ElementsShow ns body z h.1) r h.4, h.3)
shown ns _ node used is h x formals list has = cc

module _ (toks : List Tok) (functions : Functions) (room i : ℕ) (ns : List Node) (h : Holds toks functions i room ns) (key : HasKey toks i keys.Function) where
  no_stmt : (s : Stmt) (m : ℕ) → ElementReading toks room i (Plain s) m → Stops toks m s → ⊥
  no_stmt s m r z = nothing_none toks room i (ap (λ z. kind_of z (token_at toks (i + 1))) key) s m (as_stmt toks room i s m r) z

  pub declared_nowhere : MayBegin toks i → entry_at functions i ≡ None → (u : Element) (m : ℕ) → ElementReading toks room i u m → ElementStops toks m u → ⊥
  declared_nowhere b e (Plain s) m r z = no_stmt s m r z
  declared_nowhere b e (Declared x formals body) m r z = not_none (entry_at functions i) e (h.complete i (Function (Some x) formals body) m (omega arith) b (as_function toks room i x formals body m h.low r))

  module _ (node : NodeId) (next : ℕ) (e : entry_at functions i ≡ Some (node, next)) where
    same : (x : TextId) (formals : List TextId) (body : Elements) (m : ℕ) → ElementReading toks room i (Declared x formals body) m → (Function (Some x) formals body ≡ (h.entries i node next e).tree) × (m ≡ next)
    same x formals body m r = (h.entries i node next e).only (Function (Some x) formals body) m (as_function toks room i x formals body m h.low r)

    pub declared_high : (tall : ℕ) → ((t : Expr) (used : List ℕ) → Shows ns t node used → tall ≡ height t) → room < tall → (u : Element) (m : ℕ) → ElementReading toks room i u m → ElementStops toks m u → ⊥
    declared_high tall heights high (Plain s) m r z = no_stmt s m r z
    declared_high tall heights high (Declared x formals body) m r z =
        let f = h.entries i node next e in
        let t : tall ≡ height f.tree = heights f.tree f.used f.shows in
        let g : height (Function (Some x) formals body) ≡ height f.tree = ap height (same x formals body m r).0 in
        let q = r.height in omega arith

    pub declared_unnamed : ((x : TextId) (formals : List TextId) (list : List NodeId) → Has ns node (nodes.Function (Some x) formals list) → ⊥) → (u : Element) (m : ℕ) → ElementReading toks room i u m → ElementStops toks m u → ⊥
    declared_unnamed nay (Plain s) m r z = no_stmt s m r z
    declared_unnamed nay (Declared x formals body) m r z =
        let f = h.entries i node next e in
        let g : Shows ns (Function (Some x) formals body) node f.used = subst (λ (t : Expr). Shows ns t node f.used) (sym (same x formals body m r).0) f.shows in
        nay x formals g.0 g.2

    pub declared_found : (tall : ℕ) → ((t : Expr) (used : List ℕ) → Shows ns t node used → tall ≡ height t) → tall ≤ room → (made : Node) → ((x : TextId) × (formals : List TextId) × (list : List NodeId) × Has ns node (nodes.Function (Some x) formals list) × (made ≡ nodes.FunctionDecl x formals list))
        → (new : List Node) (id : NodeId) → Keeps ns new → Has new id made → FindsElement toks room i new (record { node = id; next = next })
    declared_found tall heights low made d new id k has =
        let f = h.entries i node next e in
        let t : tall ≡ height f.tree = heights f.tree f.used f.shows in
        let s = shown ns f.tree node f.used f.reading.is f.shows d.0 d.1 d.2 d.3 in
        let g : FunctionReading toks i (Function (Some d.0) d.1 s.0) next = subst (λ (z : Expr). FunctionReading toks i z next) s.2 f.reading in
        let w : height f.tree ≡ height (Function (Some d.0) d.1 s.0) = ap height s.2 in
        record {
          tree = Declared d.0 d.1 s.0;
          used = id.0 ∷ s.1;
          shows = (d.2, s.1, subst (λ (z : Node). Has new id z) d.4 has, refl, elements_kept ns new k s.0 d.2 s.1 s.3);
          reading = record { formed = g.reading.formed; height = omega arith; stands = g.reading.stands };
          only = λ u m r z. only_declared d.0 d.1 s.0 s.2 u m r z;
        }
      where
        only_declared : (x : TextId) (formals : List TextId) (body : Elements) → (h.entries i node next e).tree ≡ Function (Some x) formals body → (u : Element) (m : ℕ) → ElementReading toks room i u m → ElementStops toks m u → (u ≡ Declared x formals body) × (m ≡ next)
        only_declared x formals body q (Plain s) m r z = absurd (no_stmt s m r z)
        only_declared x formals body q (Declared y ys b) m r z =
            let a = same y ys b m r in
            let w : Function (Some y) ys b ≡ Function (Some x) formals body = a.0 ∙ q in
            (cc, a.1)
