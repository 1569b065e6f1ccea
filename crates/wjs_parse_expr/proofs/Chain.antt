-- Left parts that grow step by step.
use Rattle.std.proofs.Common.{◌≡◌, ℕ, ◌<◌, ◌⊎◌, inl, inr, refl, subst, arith}
use Rattle.wjs_tree.specs.Trees.{Expr}

-- The tree t up to n grows from the tree y up to f by steps.
pub data Chain (S : Expr → ℕ → Expr → ℕ → Type 0) (t : Expr) (n : ℕ) : Expr → ℕ → Type 0 where
  done : Chain S t n t n
  step : {y : Expr} {f : ℕ} (y' : Expr) (f' : ℕ) → S y f y' f' → Chain S t n y' f' → Chain S t n y f

-- one more step at the end
pub one_more : {S : Expr → ℕ → Expr → ℕ → Type 0} {t : Expr} {n : ℕ} {y : Expr} {f : ℕ} (t' : Expr) (n' : ℕ) → Chain S t n y f → S t n t' n' → Chain S t' n' y f
one_more t' n' done s = step t' n' s done
one_more t' n' (step y f first rest) s = step y f first (one_more t' n' rest s)

module _ (S : Expr → ℕ → Expr → ℕ → Type 0) (Class : Expr → ℕ → Type 0) (C D : Expr → ℕ → Type 0) where
  -- Each tree of the class ends before f, where it may be continued, or grows from y up to f.
  pub record Ahead (y : Expr) (f : ℕ) : Type 0 where
    pub all : (t : Expr) (n : ℕ) → Class t n → ((n < f) × C t n) ⊎ Chain S t n y f

  -- what may be continued further in is weaker, and begins no step
  pub record Apart : Type 0 where
    pub weaker : (y : Expr) (p : ℕ) → D y p → C y p
    pub no_step : (y : Expr) (p : ℕ) (y' : Expr) (p' : ℕ) → D y p → S y p y' p' → ⊥

  short : (y0 : Expr) (f0 : ℕ) (t : Expr) (n : ℕ) (x : Expr) (e : ℕ) → Apart → e < f0 → D x e → Chain S t n x e → ((n < f0) × C t n) ⊎ Chain S t n y0 f0
  short y0 f0 t n x e apart lt d done = inl (lt, apart.weaker _ _ d)
  short y0 f0 t n x e apart lt d (step y' f' s rest) = absurd (apart.no_step _ _ y' f' d s)

  at_first : (y0 : Expr) (f0 : ℕ) (t : Expr) (n : ℕ) (x : Expr) (e : ℕ) → Apart → ((x ≡ y0) × (e ≡ f0)) ⊎ ((e < f0) × D x e) → Chain S t n x e → ((n < f0) × C t n) ⊎ Chain S t n y0 f0
  at_first y0 f0 t n x e apart (inl same) c =
      inr (subst (λ (p : ℕ). Chain S t n y0 p) same.1 (subst (λ (u : Expr). Chain S t n u e) same.0 c))
  at_first y0 f0 t n x e apart (inr less) c = short y0 f0 t n x e apart less.0 less.1 c

  pub begin : (Base : Expr → ℕ → Type 0) (y0 : Expr) (f0 : ℕ) → Apart
      → ((t : Expr) (n : ℕ) → Class t n → (x : Expr) × (e : ℕ) × Base x e × Chain S t n x e)
      → ((x : Expr) (e : ℕ) → Base x e → ((x ≡ y0) × (e ≡ f0)) ⊎ ((e < f0) × D x e))
      → Ahead y0 f0
  begin Base y0 f0 apart parts best = record {
    all = λ t n k. let p = parts t n k in at_first y0 f0 t n p.0 p.1 apart (best p.0 p.1 p.2) p.3;
  }

  one_on : (y : Expr) (f : ℕ) (y1 : Expr) (f1 : ℕ) (t : Expr) (n : ℕ) → Apart → f < f1 → C y f
      → ((y' : Expr) (f' : ℕ) → S y f y' f' → ((y' ≡ y1) × (f' ≡ f1)) ⊎ ((f' < f1) × D y' f'))
      → Chain S t n y f → ((n < f1) × C t n) ⊎ Chain S t n y1 f1
  one_on y f y1 f1 t n apart lt c first done = inl (lt, c)
  one_on y f y1 f1 t n apart lt c first (step y' f' s rest) = at_first y1 f1 t n y' f' apart (first y' f' s) rest

  further : (f f1 n : ℕ) (X : Type 0) (y1 : Expr) (t : Expr) → f < f1 → ((n < f) × C t n) ⊎ X → (X → ((n < f1) × C t n) ⊎ Chain S t n y1 f1) → ((n < f1) × C t n) ⊎ Chain S t n y1 f1
  further f f1 n X y1 t lt (inl p) go = let h : n < f = p.0 in inl (omega arith, p.1)
  further f f1 n X y1 t lt (inr x) go = go x

  pub go_on : (y : Expr) (f : ℕ) (y1 : Expr) (f1 : ℕ) → Apart → f < f1 → C y f
      → ((y' : Expr) (f' : ℕ) → S y f y' f' → ((y' ≡ y1) × (f' ≡ f1)) ⊎ ((f' < f1) × D y' f'))
      → Ahead y f → Ahead y1 f1
  go_on y f y1 f1 apart lt c first ahead = record {
    all = λ t n k. further f f1 n _ y1 t lt (ahead.all t n k) (one_on y f y1 f1 t n apart lt c first);
  }

  last : (y : Expr) (f : ℕ) (t : Expr) (n : ℕ) → ((y' : Expr) (f' : ℕ) → S y f y' f' → ⊥) → ((n < f) × C t n) ⊎ Chain S t n y f → ((t ≡ y) × (n ≡ f)) ⊎ ((n < f) × C t n)
  last y f t n none (inl p) = inr p
  last y f t n none (inr done) = inl (refl, refl)
  last y f t n none (inr (step y' f' s rest)) = absurd (none y' f' s)

  pub finish : (y : Expr) (f : ℕ) → ((y' : Expr) (f' : ℕ) → S y f y' f' → ⊥) → Ahead y f → (t : Expr) (n : ℕ) → Class t n → ((t ≡ y) × (n ≡ f)) ⊎ ((n < f) × C t n)
  finish y f none ahead t n k = last y f t n none (ahead.all t n k)
