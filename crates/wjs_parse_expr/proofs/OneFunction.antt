-- A table with one function without name, formals and elements, of which tests make use.
use Rattle.std.proofs.Common.{◌≡◌, ℕ, ◌+◌, ◌==◌, if◌then◌else◌, Bool, true, false, List, [], ◌∷◌, Option, Some, None, refl, sym, ap, ◌∙◌, subst, arith}
use Rattle.std.specs.Prelude.{IsSome}
use Rattle.std.proofs.lemmas.Bool.{eqb-true}
use Rattle.std.proofs.lemmas.Bool.Decides.{nat_tests}
use Rattle.wjs_base.specs.declared.ids.TextId.{TextId}
use Rattle.wjs_base.specs.declared.ids.NodeId.{NodeId}
use Rattle.wjs_tree.specs.declared.tokens.Token.{Token}
use Rattle.wjs_tree.specs.declared.tokens.Token.TheVariants as tokens
use Rattle.wjs_tree.specs.declared.signs.Sign.TheVariants as signs
use Rattle.wjs_tree.specs.declared.keys.Key.TheVariants as keys
use Rattle.wjs_tree.specs.declared.tokens.Tok.{Tok}
use Rattle.wjs_tree.specs.declared.node.Node.{Node}
use Rattle.wjs_tree.specs.declared.node.Node.TheVariants as nodes
use Rattle.wjs_tree.specs.Trees.{Expr, Stmt, Elements, Function, NoElement, Statement, FunctionDecl, Block, Var, Empty, ExprStmt, If, IfElse, DoWhile, While, For, ForIn, ForVarIn, Continue, Break, Return, Throw, Label, Switch, TryCatch, TryFinally, TryBoth, Within, Absent, Present}
use Rattle.wjs_tree.specs.Ends.{token_at, HasSign, HasKey}
use Rattle.wjs_tree.specs.Spelling.{Stands, StmtStands, ElementsStand, FormalsStand, NameStands}
use Rattle.wjs_tree.specs.Shows.{Has}
use Rattle.wjs_parse_expr.specs.declared.functions.Functions.{Functions}
use Rattle.wjs_parse_expr.specs.Readings.{FunctionReading, is_function}
use Rattle.wjs_parse_expr.specs.Table.{entry_at, IsEntry, Holds}
use Rattle.wjs_parse_expr.proofs.Readings.{same_token}
use Rattle.wjs_parse_expr.proofs.Unaries.{never_begins}

same : (a : ℕ) → (a == a) ≡ true
same a = grind (arith, nat_tests)

tested : (a b : ℕ) → a ≡ b → (a == b) ≡ true
tested a b e = subst (λ (z : ℕ). (a == z) ≡ true) e (same a)

module _ (toks : List Tok) (i : ℕ) (close : HasSign toks i signs.CloseBrace) where
  no_key : (k : Token) → token_at toks i ≡ Some k → k ≡ tokens.Sign signs.CloseBrace
  no_key k h = same_token _ k _ h close

  -- no statement begins with `}`
  no_statement : (s : Stmt) (n : ℕ) → StmtStands toks s i n → ⊥
  no_statement (Block body) n h = let e = no_key _ h.1 in cc
  no_statement (Var vs end) n h = let e = no_key _ h.1 in cc
  no_statement Empty n h = let e = no_key _ h.0 in cc
  no_statement (ExprStmt t end) n h = never_begins toks t i h.0 (tokens.Sign signs.CloseBrace) h.1 close refl
  no_statement (If e s) n h = let e = no_key _ h.1 in cc
  no_statement (IfElse e s u) n h = let e = no_key _ h.2 in cc
  no_statement (DoWhile s e end) n h = let e = no_key _ h.2 in cc
  no_statement (While e s) n h = let e = no_key _ h.1 in cc
  no_statement (For a b c s) n h = let e = no_key _ h.3 in cc
  no_statement (ForIn t e s) n h = let e = no_key _ h.2 in cc
  no_statement (ForVarIn x e s) n h = let e = no_key _ h.1 in cc
  no_statement (Continue label end) n h = let e = no_key _ h.1 in cc
  no_statement (Break label end) n h = let e = no_key _ h.1 in cc
  no_statement (Return Absent end) n h = let e = no_key _ h.0 in cc
  no_statement (Return (Present t) end) n h = let e = no_key _ h.1 in cc
  no_statement (Throw t end) n h = let e = no_key _ h.1 in cc
  no_statement (Label x s) n h = let e = no_key _ h.0 in cc
  no_statement (Switch t clauses) n h = let e = no_key _ h.2 in cc
  no_statement (TryCatch b x c) n h = let e = no_key _ h.2 in cc
  no_statement (TryFinally b f) n h = let e = no_key _ h.2 in cc
  no_statement (TryBoth b x c f) n h = let e = no_key _ h.3 in cc
  no_statement (Within t b) n h = let e = no_key _ h.2 in cc

  no_element : (body : Elements) (n : ℕ) → ElementsStand toks body i n → (body ≡ NoElement) × (n ≡ i)
  no_element NoElement n h = (refl, h)
  no_element (Statement s rest) n h = absurd (no_statement s h.0 h.1)
  no_element (FunctionDecl x formals body rest) n h = absurd (let e = no_key _ h.2 in cc)

module _ (toks : List Tok) (p : ℕ) (key : HasKey toks p keys.Function) (paren : HasSign toks (p + 1) signs.OpenParen) (close : HasSign toks (p + 2) signs.CloseParen) (brace : HasSign toks (p + 3) signs.OpenBrace) (end : HasSign toks (p + 4) signs.CloseBrace) where
  no_name : (name : Option TextId) (a : ℕ) → NameStands toks name (p + 1) a → (name ≡ None) × (a ≡ p + 1)
  no_name None a h = (refl, h)
  no_name (Some x) a h = absurd (let e = same_token _ (tokens.Word x) (tokens.Sign signs.OpenParen) h.0 paren in cc)

  no_formals : (formals : List TextId) (b : ℕ) → FormalsStand toks formals (p + 2) b → (formals ≡ []) × (b ≡ p + 2)
  no_formals [] b h = (refl, h)
  no_formals (x ∷ xs) b h = absurd (let e = same_token _ (tokens.Word x) (tokens.Sign signs.CloseParen) h.0 close in cc)

  only_one : (u : Expr) (m : ℕ) → is_function u ≡ true → Stands toks u p m → (u ≡ Function None [] NoElement) × (m ≡ p + 5)
  only_one (Function name formals body) m is h =
      let a = no_name name h.0 h.4 in
      let f = subst (λ (z : ℕ). FormalsStand toks formals (z + 1) h.1) a.1 h.6 in
      let b = no_formals formals h.1 (subst (λ (z : ℕ). FormalsStand toks formals z h.1) (let e : p + 1 + 1 ≡ p + 2 = omega arith in e) f) in
      let g = subst (λ (z : ℕ). ElementsStand toks body z h.2) (let q = b.1 in let e : h.1 + 2 ≡ p + 4 = omega arith in e) h.9 in
      let c = no_element toks (p + 4) end body h.2 g in
      ((let x = a.0 in let y = b.0 in let z = c.0 in cc), (let x = c.1 in let y = h.11 in omega arith))
  only_one _ m is h = cc

  stands : Stands toks (Function None [] NoElement) p (p + 5)
  stands = (
    p + 1,
    p + 2,
    p + 4,
    key,
    refl,
    paren,
    (omega arith),
    close,
    subst (λ (z : ℕ). HasSign toks z signs.OpenBrace) (let e : p + 3 ≡ p + 2 + 1 = omega arith in e) brace,
    (let e : p + 4 ≡ p + 2 + 2 = omega arith in e),
    end,
    (omega arith),
  )

  reading : FunctionReading toks p (Function None [] NoElement) (p + 5)
  reading = record { is = refl; reading = record { level = omega arith; formed = (tt, tt); height = omega arith; stands = stands } }

  module _ (functions : Functions) (ns : List Node) (node : NodeId) (alone : (i : ℕ) → HasKey toks i keys.Function → i ≡ p) (has : Has ns node (nodes.Function None [] []))
      (entry : (q : ℕ) → entry_at functions q ≡ (if p == q then Some (node, p + 5) else None)) where
    abbrev Picked : Bool → Option (NodeId × ℕ)
    Picked b = if b then Some (node, p + 5) else None

    pick : (q : ℕ) (node' : NodeId) (next : ℕ) (b : Bool) → (p == q) ≡ b → Picked b ≡ Some (node', next) → (p ≡ q) × (node ≡ node') × (p + 5 ≡ next)
    pick q node' next true e h = let x : NodeId × ℕ = (node, p + 5) in let y : NodeId × ℕ = (node', next) in let z : x ≡ y = cc in (eqb-true p q e, ap (λ w. w.0) z, ap (λ w. w.1) z)
    pick q node' next false e h = cc

    picked : (q : ℕ) (node' : NodeId) (next : ℕ) → entry_at functions q ≡ Some (node', next) → (p ≡ q) × (node ≡ node') × (p + 5 ≡ next)
    picked q node' next e = pick q node' next (p == q) refl (sym (entry q) ∙ e)

    is_entry : IsEntry toks ns p node (p + 5)
    is_entry = record {
      tree = Function None [] NoElement;
      used = node.0 ∷ [];
      shows = ([], [], has, refl, (refl, refl));
      once = (λ u. u, tt);
      reading = reading;
      only = λ u m r. only_one u m r.is r.reading.stands;
    }

    there_at : (q : ℕ) (b : Bool) → b ≡ true → entry_at functions q ≡ Picked b → IsSome (entry_at functions q)
    there_at q true h e = rw e refl
    there_at q false h e = cc

    there : (q : ℕ) → q ≡ p → IsSome (entry_at functions q)
    there q e = there_at q (p == q) (tested p q (sym e)) (entry q)

    function_key : (u : Expr) (q m : ℕ) → is_function u ≡ true → Stands toks u q m → HasKey toks q keys.Function
    function_key (Function x y z) q m h s = s.3
    function_key _ q m h s = cc

    pub one_holds : Holds toks functions 0 200 ns
    one_holds = record {
      entries = λ q node' next e.
          (let k = picked q node' next e in
          subst (λ (z : ℕ). IsEntry toks ns z node' next) k.0 (subst (λ (z : NodeId). IsEntry toks ns p z next) k.1 (subst (λ (z : ℕ). IsEntry toks ns p node z) k.2 is_entry)));
      complete = λ q u m le b r. there q (alone q (function_key u q m r.is r.reading.stands));
      apart = λ q r node' node'' next next' e f le t u us vs s z. absurd (let k = picked q node' next e in let l = picked r node'' next' f in let x = k.0 in let y = l.0 in let w = k.2 in omega arith);
      low = omega arith;
    }

-- a function whose lists are empty
pub no_parts : (ns : List Node) (node : NodeId) (formals : List TextId) (body : List NodeId) → formals ≡ [] → body ≡ [] → Has ns node (nodes.Function None formals body) → Has ns node (nodes.Function None [] [])
no_parts ns node formals body e f h = subst (λ (z : List TextId). Has ns node (nodes.Function None z [])) e (subst (λ (z : List NodeId). Has ns node (nodes.Function None formals z)) f h)

-- what a table without entries holds with one more
pub one_added : (old new : Functions) (p : ℕ) (e : NodeId × ℕ) → ((q : ℕ) → entry_at new q ≡ (if p == q then Some e else entry_at old q)) → ((q : ℕ) → entry_at old q ≡ None) → (q : ℕ) → entry_at new q ≡ (if p == q then Some e else None)
one_added old new p e added none q = subst (λ (z : Option (NodeId × ℕ)). entry_at new q ≡ (if p == q then Some e else z)) (none q) (added q)
