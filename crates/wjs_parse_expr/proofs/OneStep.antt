-- A left part with at most one step behind it.
use Rattle.std.proofs.Common.{◌≡◌, ℕ, ◌<◌, ◌⊎◌, inl, inr, Bool, List, sym, subst, arith, ◌≤◌}
use Rattle.wjs_tree.specs.declared.tokens.Tok.{Tok}
use Rattle.wjs_tree.specs.declared.node.Node.{Node}
use Rattle.wjs_parse_expr.specs.declared.parts.Part.{Part}
use Rattle.wjs_tree.specs.Trees.{Expr}
use Rattle.wjs_parse_expr.specs.Readings.{Reading, Continues}
use Rattle.wjs_tree.specs.Shows.{Keeps}
use Rattle.wjs_parse_expr.specs.Answers.{Origin, Nothing, IsPart, Finds}
use Rattle.wjs_parse_expr.proofs.Readings.{part_kept}

-- Arguments of the level are trees of the base level, or these with one step.
pub record IsStep (toks : List Tok) (no_in : Bool) (room i base least : ℕ) (S : Expr → ℕ → Expr → ℕ → Type 0) : Type 0 where
  pub parts : (t : Expr) (n : ℕ) → Reading toks least no_in room i t n → Reading toks base no_in room i t n ⊎ ((x : Expr) × (e : ℕ) × Reading toks base no_in room i x e × S x e t n)
  pub lifts : (t : Expr) (n : ℕ) → Reading toks base no_in room i t n → Reading toks least no_in room i t n
  pub lower : least ≤ base
  pub no_step : (y : Expr) (p : ℕ) (y' : Expr) (p' : ℕ) → Continues toks base no_in y p → S y p y' p' → ⊥
  pub starts : (y : Expr) (p : ℕ) (y' : Expr) (p' : ℕ) → Reading toks base no_in room i y p → S y p y' p' → Continues toks least no_in y p
  pub grows : (y : Expr) (p : ℕ) (y' : Expr) (p' : ℕ) → Reading toks base no_in room i y p → S y p y' p' → Reading toks least no_in room i y' p'
  pub forward : (y : Expr) (p : ℕ) (y' : Expr) (p' : ℕ) → S y p y' p' → p < p'

module _ (o : Origin) (toks : List Tok) (no_in : Bool) (room i base least : ℕ) (S : Expr → ℕ → Expr → ℕ → Type 0) (is : IsStep toks no_in room i base least S) where
  abbrev Same : Expr → ℕ → Expr → ℕ → Type 0
  Same t n y f = ((t ≡ y) × (n ≡ f)) ⊎ ((n < f) × Continues toks least no_in t n)

  abbrev SameBase : Expr → ℕ → Expr → ℕ → Type 0
  SameBase t n y f = ((t ≡ y) × (n ≡ f)) ⊎ ((n < f) × Continues toks base no_in t n)

  lowered : (t : Expr) (n : ℕ) → Continues toks base no_in t n → Continues toks least no_in t n
  lowered t n d = (let h = is.lower in omega arith, d.1, d.2)

  from_base : (t : Expr) (n : ℕ) (y : Expr) (f : ℕ) → SameBase t n y f → Same t n y f
  from_base t n y f (inl e) = inl e
  from_base t n y f (inr l) = inr (l.0, lowered t n l.1)

  moved : (x : Expr) (e : ℕ) (y : Expr) (f : ℕ) (t : Expr) (n : ℕ) → x ≡ y → e ≡ f → S x e t n → S y f t n
  moved x e y f t n p q s = subst (λ (u : Expr). S u f t n) p (subst (λ (k : ℕ). S x k t n) q s)

  ends_here : (y : Expr) (f : ℕ) (t : Expr) (n : ℕ) → ((t' : Expr) (n' : ℕ) → S y f t' n' → ⊥) → (x : Expr) (e : ℕ) → SameBase x e y f → S x e t n → Same t n y f
  ends_here y f t n none x e (inl p) s = absurd (none t n (moved x e y f t n p.0 p.1 s))
  ends_here y f t n none x e (inr l) s = absurd (is.no_step x e t n l.1 s)

  -- no step stands behind it
  pub stays : (old new : List Node) (left : Part) → Keeps old new → (f : Finds o toks base no_in room i old left) → ((t' : Expr) (n' : ℕ) → S f.tree left.next t' n' → ⊥) → Finds o toks least no_in room i new left
  stays old new left k f none = record {
    tree = f.tree;
    part = part_kept o old new k left f.tree f.part;
    best = record {
      reading = is.lifts f.tree left.next f.best.reading;
      longest = λ t n r. one (is.parts t n r) t n;
    };
  }
    where
      one : {t : Expr} {n : ℕ} → Reading toks base no_in room i t n ⊎ ((x : Expr) × (e : ℕ) × Reading toks base no_in room i x e × S x e t n) → (t' : Expr) (n' : ℕ) → Same t n f.tree left.next
      one {t} {n} (inl r) t' n' = from_base t n f.tree left.next (f.best.longest t n r)
      one {t} {n} (inr p) t' n' = ends_here f.tree left.next t n none p.0 p.1 (f.best.longest p.0 p.1 p.2) p.3

  before : (y : Expr) (f : ℕ) (y1 : Expr) (f1 : ℕ) (t : Expr) (n : ℕ) → f < f1 → Continues toks least no_in y f → SameBase t n y f → Same t n y1 f1
  before y f y1 f1 t n lt c (inl e) = inr (let q = e.1 in omega arith, subst (λ (u : Expr). Continues toks least no_in u n) (sym e.0) (subst (λ (k : ℕ). Continues toks least no_in y k) (sym e.1) c))
  before y f y1 f1 t n lt c (inr l) = inr (let q = l.0 in omega arith, lowered t n l.1)

  through : (y : Expr) (f : ℕ) (y1 : Expr) (f1 : ℕ) (t : Expr) (n : ℕ) → ((t' : Expr) (n' : ℕ) → S y f t' n' → Same t' n' y1 f1) → (x : Expr) (e : ℕ) → SameBase x e y f → S x e t n → Same t n y1 f1
  through y f y1 f1 t n first x e (inl p) s = first t n (moved x e y f t n p.0 p.1 s)
  through y f y1 f1 t n first x e (inr l) s = absurd (is.no_step x e t n l.1 s)

  -- a step stands behind it
  pub goes : (old new : List Node) (left p : Part) (f : Finds o toks base no_in room i old left) (y : Expr)
      → IsPart o new p y → S f.tree left.next y p.next
      → ((t' : Expr) (n' : ℕ) → S f.tree left.next t' n' → ((t' ≡ y) × (n' ≡ p.next)) ⊎ ((n' < p.next) × Continues toks least no_in t' n'))
      → Finds o toks least no_in room i new p
  goes old new left p f y part s first = record {
    tree = y;
    part = part;
    best = record {
      reading = is.grows f.tree left.next y p.next f.best.reading s;
      longest = λ t n r. one (is.parts t n r);
    };
  }
    where
      lt : left.next < p.next
      lt = is.forward f.tree left.next y p.next s

      c : Continues toks least no_in f.tree left.next
      c = is.starts f.tree left.next y p.next f.best.reading s

      one : {t : Expr} {n : ℕ} → Reading toks base no_in room i t n ⊎ ((x : Expr) × (e : ℕ) × Reading toks base no_in room i x e × S x e t n) → Same t n y p.next
      one {t} {n} (inl r) = before f.tree left.next y p.next t n lt c (f.best.longest t n r)
      one {t} {n} (inr q) = through f.tree left.next y p.next t n first q.0 q.1 (f.best.longest q.0 q.1 q.2) q.3

  none_here : {t : Expr} {n : ℕ} → ((u : Expr) (m : ℕ) → Reading toks base no_in room i u m → ⊥) → Reading toks base no_in room i t n ⊎ ((x : Expr) × (e : ℕ) × Reading toks base no_in room i x e × S x e t n) → ⊥
  none_here {t} {n} none (inl r) = none t n r
  none_here none (inr q) = none q.0 q.1 q.2

  pub no_reading : Nothing toks base no_in room i → Nothing toks least no_in room i
  no_reading n = record { none = λ u m r. none_here n.none (is.parts u m r) }
