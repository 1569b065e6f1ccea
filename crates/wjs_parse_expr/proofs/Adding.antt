-- A table with one more function, for the one who reads functions from the last to the first.
use Rattle.std.proofs.Common.{◌≡◌, ℕ, ◌+◌, ◌<◌, ◌≤◌, ◌⊎◌, inl, inr, ⊎_elim, Bool, true, false, List, length, Option, Some, None, ◌==◌, if◌then◌else◌, refl, sym, ap, ◌∙◌, subst, arith}
use Rattle.std.specs.Prelude.{IsSome}
use Rattle.std.proofs.lemmas.Bool.{eqb-true, cases_lt}
use Rattle.std.proofs.lemmas.Bool.Decides.{nat_tests}
use Rattle.wjs_base.specs.declared.ids.NodeId.{NodeId}
use Rattle.wjs_tree.specs.declared.tokens.Tok.{Tok}
use Rattle.wjs_tree.specs.declared.node.Node.{Node}
use Rattle.wjs_tree.specs.Trees.{Expr}
use Rattle.wjs_tree.specs.Shows.{Shows, Keeps}
use Rattle.wjs_tree.specs.Used.{IsUsed, AreApart}
use Rattle.wjs_tree.proofs.Kept.{kept}
use Rattle.wjs_tree.proofs.Within.{within}
use Rattle.wjs_tree.proofs.OneUse.{same_use}
use Rattle.wjs_tree.proofs.Forward.{forward}
use Rattle.wjs_parse_expr.specs.declared.functions.Functions.{Functions}
use Rattle.wjs_parse_expr.specs.Readings.{FunctionReading}
use Rattle.wjs_parse_expr.specs.Table.{entry_at, IsEntry, MayBegin, Holds, Owns}
use Rattle.wjs_parse_expr.proofs.Entries.{held}

-- what is made of new nodes, and of entries within its tokens, has no node of an entry behind them
pub own_apart : (toks : List Tok) (functions : Functions) (at room : ℕ) (start ns : List Node) → Holds toks functions at room start → Keeps start ns → (place next : ℕ) (us : List ℕ) → Owns functions start ns place next us
    → (q : ℕ) (node : NodeId) (ends : ℕ) → entry_at functions q ≡ Some (node, ends) → next ≤ q → (u : Expr) (vs : List ℕ) → Shows ns u node vs → AreApart us vs
own_apart toks functions at room start ns h k place next us own q node ends e le u vs s n x y =
    let f = h.entries q node ends e in
    let g = held toks functions at at room room start ns h k (omega arith) (omega arith) in
    let same = same_use ns u f.tree node vs f.used s (kept start ns k f.tree node f.used f.shows) in
    let low = within start f.tree node f.used f.shows n (subst (λ w. IsUsed w n) same y) in
    ⊎_elim (λ a. (let b = a.0 in omega arith)) (λ i. g.apart i.place q i.node node i.ends ends i.entry e (let z = i.within in omega arith) i.tree u i.used vs i.shows s n i.is_used y) (own.each n x)

module _ (toks : List Tok) (old new : Functions) (place next room : ℕ) (ns : List Node) (node : NodeId) (h : Holds toks old (place + 1) room ns)
    (later : (q : ℕ) (node' : NodeId) (ends : ℕ) → entry_at old q ≡ Some (node', ends) → place < q) (put : (q : ℕ) → entry_at new q ≡ (if place == q then Some (node, next) else entry_at old q)) (entry : IsEntry toks ns place node next)
    (behind : (q : ℕ) (node' : NodeId) (ends : ℕ) → entry_at old q ≡ Some (node', ends) → next ≤ q → (t u : Expr) (us vs : List ℕ) → Shows ns t node us → Shows ns u node' vs → AreApart us vs) where
  abbrev Picked : ℕ → Bool → Option (NodeId × ℕ)
  Picked q b = if b then Some (node, next) else entry_at old q

  abbrev Which : ℕ → NodeId → ℕ → Type 0
  Which q node' ends = ((place ≡ q) × (node ≡ node') × (next ≡ ends)) ⊎ (entry_at old q ≡ Some (node', ends))

  pick : (q : ℕ) (node' : NodeId) (ends : ℕ) (b : Bool) → (place == q) ≡ b → Picked q b ≡ Some (node', ends) → Which q node' ends
  pick q node' ends true e f = let x : NodeId × ℕ = (node, next) in let y : NodeId × ℕ = (node', ends) in let z : x ≡ y = cc in inl (eqb-true place q e, ap (λ w. w.0) z, ap (λ w. w.1) z)
  pick q node' ends false e f = inr f

  which : (q : ℕ) (node' : NodeId) (ends : ℕ) → entry_at new q ≡ Some (node', ends) → Which q node' ends
  which q node' ends e = pick q node' ends (place == q) refl (sym (put q) ∙ e)

  is_entry : (q : ℕ) (node' : NodeId) (ends : ℕ) → Which q node' ends → IsEntry toks ns q node' ends
  is_entry q node' ends (inl k) = subst (λ (z : ℕ). IsEntry toks ns z node' ends) k.0 (subst (λ (z : NodeId). IsEntry toks ns place z ends) k.1 (subst (λ (z : ℕ). IsEntry toks ns place node z) k.2 entry))
  is_entry q node' ends (inr e) = h.entries q node' ends e

  grows : (q : ℕ) (b : Bool) → entry_at new q ≡ Picked q b → IsSome (entry_at old q) → IsSome (entry_at new q)
  grows q true e s = rw e refl
  grows q false e s = rw e s

  there : (q : ℕ) → q ≡ place → IsSome (entry_at new q)
  there q e = here q (place == q) (subst (λ (z : ℕ). (place == z) ≡ true) (sym e) (same place)) (put q)
    where
      same : (a : ℕ) → (a == a) ≡ true
      same a = grind (arith, nat_tests)

      here : (q : ℕ) (b : Bool) → b ≡ true → entry_at new q ≡ Picked q b → IsSome (entry_at new q)
      here q true f g = rw g refl
      here q false f g = cc

  complete : (p : ℕ) (u : Expr) (m : ℕ) → place ≤ p → MayBegin toks p → FunctionReading toks p u m → IsSome (entry_at new p)
  complete p u m le b r = ⊎_elim (λ lt. grows p (place == p) (put p) (h.complete p u m (omega arith) b r)) (λ ge. there p (omega arith)) (cases_lt place p)

  ahead : (q : ℕ) (node' : NodeId) (ends : ℕ) → Which q node' ends → q < ends
  ahead q node' ends w = let f = is_entry q node' ends w in forward toks f.tree q ends f.reading.reading.stands

  apart : (p q : ℕ) (a b : NodeId) (m n : ℕ) → Which p a m → Which q b n → p < m → m ≤ q → (t u : Expr) (us vs : List ℕ) → Shows ns t a us → Shows ns u b vs → AreApart us vs
  apart p q a b m n (inl k) (inl l) lt le t u us vs s z = absurd (let x = k.0 in let y = l.0 in omega arith)
  apart p q a b m n (inl k) (inr f) lt le t u us vs s z = behind q b n f (let x = k.2 in omega arith) t u us vs (subst (λ (w : NodeId). Shows ns t w us) (sym k.1) s) z
  apart p q a b m n (inr e) (inl l) lt le t u us vs s z = absurd (let x = later p a m e in let y = l.0 in omega arith)
  apart p q a b m n (inr e) (inr f) lt le t u us vs s z = h.apart p q a b m n e f le t u us vs s z

  -- The table holds from the place of the added function on.
  pub added_holds : Holds toks new place room ns
  added_holds = record {
    entries = λ q node' ends e. is_entry q node' ends (which q node' ends e);
    complete = complete;
    apart = λ p q a b m n e f le t u us vs s z. apart p q a b m n (which p a m e) (which q b n f) (ahead p a m (which p a m e)) le t u us vs s z;
    low = h.low;
  }
