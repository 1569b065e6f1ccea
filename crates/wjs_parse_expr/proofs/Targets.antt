-- The longest is_target of a chain.
use Rattle.std.proofs.Common.{◌≡◌, ℕ, ◌<◌, ◌≤◌, ◌⊎◌, inl, inr, Bool, true, false, List, Option, Some, None, length, refl, sym, ◌∙◌, subst, arith}
use Rattle.wjs_tree.specs.declared.tokens.Tok.{Tok}
use Rattle.wjs_tree.specs.declared.node.Node.{Node}
use Rattle.wjs_parse_expr.specs.declared.parts.Part.{Part}
use Rattle.wjs_tree.specs.Trees.{Expr, NewBare}
use Rattle.wjs_parse_expr.specs.Reach.{reach}
use Rattle.wjs_tree.specs.Levels.{is_bare, is_target}
use Rattle.wjs_parse_expr.specs.Readings.{Reading}
use Rattle.wjs_tree.specs.Ends.{token_at}
use Rattle.wjs_tree.specs.Shows.{Keeps}
use Rattle.wjs_parse_expr.specs.Answers.{IsPart, Begun, Grows, FindsHead, TargetAnswers}
use Rattle.wjs_parse_expr.specs.Steps.{SuffixStep, IsHead}
use Rattle.wjs_parse_expr.proofs.Readings.{part_kept}
use Rattle.wjs_parse_expr.specs.Answers.{Origin, EndsAt}
use Rattle.std.specs.Prelude.{if◌then◌else◌}
use Rattle.std.specs.declared.result.Result.TheVariants.{Ok}
use Rattle.wjs_tree.proofs.Levels.{bare_level}
use Rattle.wjs_parse_expr.specs.declared.parts.Head.{Head}
use Rattle.wjs_parse_expr.proofs.Chain.{Chain}
use Rattle.wjs_parse_expr.proofs.Chain.Chain.{done, step}
use Rattle.wjs_parse_expr.proofs.Heads.{Chaining, ChainStep, ContinuesHead, chain_begin, chain_step, in_chain, suffix_reach, suffix_forward, chain_parts}

-- at least one step
pub record Beyond (toks : List Tok) (room : ℕ) (t : Expr) (n : ℕ) (y : Expr) (f : ℕ) : Type 0 where
  pub next : Expr
  pub place : ℕ
  pub first : ChainStep toks true room y f next place
  pub rest : Chain (ChainStep toks true room) t n next place

-- the last is_target so far, and each is_target is it, ends before it, or grows further
pub record WithLast (q : Origin) (toks : List Tok) (no_in : Bool) (room i : ℕ) (ns : List Node) (p : Part) (y : Expr) (f : ℕ) : Type 0 where
  pub tree : Expr
  pub part : IsPart q ns p tree
  pub target : is_target tree ≡ true
  pub reading : Reading toks 15 no_in room i tree p.next
  pub place : (p.next ≡ f) ⊎ ((p.next < f) × (15 < reach no_in (token_at toks p.next)))
  pub all : (u : Expr) (m : ℕ) → Reading toks 15 no_in room i u m → is_target u ≡ true → (((u ≡ tree) × (m ≡ p.next)) ⊎ ((m < p.next) × (15 < reach no_in (token_at toks m)))) ⊎ Beyond toks room u m y f

abbrev pub LastIs : Origin → List Tok → Bool → ℕ → ℕ → List Node → Option Part → Expr → ℕ → Type 0
LastIs q toks no_in room i ns None y f = (u : Expr) (m : ℕ) → Reading toks 15 no_in room i u m → is_target u ≡ true → Beyond toks room u m y f
LastIs q toks no_in room i ns (Some p) y f = WithLast q toks no_in room i ns p y f

pub record Targeting (q : Origin) (toks : List Tok) (no_in : Bool) (room i : ℕ) (ns : List Node) (left : Part) (last : Option Part) : Type 0 where
  pub chain : Chaining q toks true no_in room i ns left
  pub last_is : LastIs q toks no_in room i ns last chain.tree left.next

module _ (q : Origin) (toks : List Tok) (no_in : Bool) (room i : ℕ) where
  not_bare_target : (u : Expr) → is_target u ≡ true → is_bare u ≡ true → ⊥
  not_bare_target (NewBare f) t b = cc
  not_bare_target _ t b = cc

  from_bare : (u : Expr) (m : ℕ) (x : Expr) (e : ℕ) → is_target u ≡ true → is_bare x ≡ true → Chain (ChainStep toks true room) u m x e → ⊥
  from_bare u m x e t b done = not_bare_target u t b
  from_bare u m x e t b (step y f s c) = let q = bare_level x b in let h = s.0 in omega arith

  grown : (y : Expr) (f : ℕ) (u : Expr) (m : ℕ) (x : Expr) (e : ℕ) → is_target u ≡ true → ((x ≡ y) × (e ≡ f)) ⊎ ((e < f) × ContinuesHead toks no_in x e) → Chain (ChainStep toks true room) u m x e → Chain (ChainStep toks true room) u m y f
  grown y f u m x e t (inl s) c = subst (λ (p : ℕ). Chain (ChainStep toks true room) u m y p) s.1 (subst (λ (z : Expr). Chain (ChainStep toks true room) u m z e) s.0 c)
  grown y f u m x e t (inr l) c = absurd (from_bare u m x e t l.1.0 c)

  -- each is_target grows from the head
  from_head : (ns : List Node) (h : Head) (f : FindsHead q toks no_in room i ns h) (u : Expr) (m : ℕ) → Reading toks 15 no_in room i u m → is_target u ≡ true → Chain (ChainStep toks true room) u m f.tree h.part.next
  from_head ns h f u m r t =
      let p = chain_parts toks true no_in room i u m r (in_chain no_in u r.level r.formed) in
      grown f.tree h.part.next u m p.0 p.1 t (f.best.longest p.0 p.1 p.2.0 p.2.1) p.3

  or_beyond : {X : Type 0} (y : Expr) (f : ℕ) (u : Expr) (m : ℕ) → Chain (ChainStep toks true room) u m y f → (((u ≡ y) × (m ≡ f)) ⊎ X) ⊎ Beyond toks room u m y f
  or_beyond y f u m done = inl (inl (refl, refl))
  or_beyond y f u m (step y' f' s c) = inr (record { next = y'; place = f'; first = s; rest = c })

  must_beyond : (y : Expr) (f : ℕ) (u : Expr) (m : ℕ) → is_target y ≡ false → is_target u ≡ true → Chain (ChainStep toks true room) u m y f → Beyond toks room u m y f
  must_beyond y f u m n t done = cc
  must_beyond y f u m n t (step y' f' s c) = record { next = y'; place = f'; first = s; rest = c }

  -- the left part is a is_target
  is_last : (ns : List Node) (left : Part) (g : Chaining q toks true no_in room i ns left) → left.is_target ≡ true
      → ((u : Expr) (m : ℕ) → Reading toks 15 no_in room i u m → is_target u ≡ true → (((u ≡ g.tree) × (m ≡ left.next)) ⊎ ((m < left.next) × (15 < reach no_in (token_at toks m)))) ⊎ Beyond toks room u m g.tree left.next)
      → WithLast q toks no_in room i ns left g.tree left.next
  is_last ns left g is all = record { tree = g.tree; part = g.part; target = sym g.part.is_target ∙ is; reading = g.reading; place = inl refl; all = all }

  pub target_begin : (ns : List Node) (h : Head) → FindsHead q toks no_in room i ns h → h.is_bare ≡ false → (b : Bool) → h.part.is_target ≡ b → (o : Option Part) → o ≡ (if b then Some h.part else None) → Targeting q toks no_in room i ns h.part o
  unfolding chain_begin
  target_begin ns h f not true is o e = record {
    chain = chain_begin q toks true no_in room i ns h f not;
    last_is = subst (λ (z : Option Part). LastIs q toks no_in room i ns z f.tree h.part.next) (sym e)
        (is_last ns h.part (chain_begin q toks true no_in room i ns h f not) is (λ u m r t. or_beyond f.tree h.part.next u m (from_head ns h f u m r t)));
  }
  target_begin ns h f not false is o e = record {
    chain = chain_begin q toks true no_in room i ns h f not;
    last_is = subst (λ (z : Option Part). LastIs q toks no_in room i ns z f.tree h.part.next) (sym e)
        (λ u m r t. must_beyond f.tree h.part.next u m (let a = f.part.is_target in cc) t (from_head ns h f u m r t));
  }

  -- past the next step
  onward : (old new : List Node) (left p : Part) (g : Grows q.functions (SuffixStep toks true room) (λ y n. ⊥) old new left p) (y : Expr) (u : Expr) (m : ℕ) → Beyond toks room u m y left.next → Chain (ChainStep toks true room) u m (g.whole y) p.next
  onward old new left p g y u m b = move (g.first y b.next b.place b.first.1)
    where
      move : ((b.next ≡ g.whole y) × (b.place ≡ p.next)) ⊎ ((b.place < p.next) × ⊥) → Chain (ChainStep toks true room) u m (g.whole y) p.next
      move (inl s) = subst (λ (q : ℕ). Chain (ChainStep toks true room) u m (g.whole y) q) s.1 (subst (λ (z : Expr). Chain (ChainStep toks true room) u m z b.place) s.0 b.rest)
      move (inr l) = absurd l.1

  earlier : {X : Type 0} (t u : Expr) (z f f1 m : ℕ) → f < f1 → 15 < reach no_in (token_at toks f) → (z ≡ f) ⊎ ((z < f) × (15 < reach no_in (token_at toks z)))
      → ((u ≡ t) × (m ≡ z)) ⊎ ((m < z) × (15 < reach no_in (token_at toks m))) → X ⊎ ((m < f1) × (15 < reach no_in (token_at toks m)))
  earlier t u z f f1 m lt c (inl e) (inl s) = inr ((let a = s.1 in omega arith), subst (λ (q : ℕ). 15 < reach no_in (token_at toks q)) (sym (s.1 ∙ e)) c)
  earlier t u z f f1 m lt c (inr e) (inl s) = inr ((let a = s.1 in let b = e.0 in omega arith), subst (λ (q : ℕ). 15 < reach no_in (token_at toks q)) (sym s.1) e.1)
  earlier t u z f f1 m lt c (inl e) (inr l) = inr ((let b = l.0 in omega arith), l.1)
  earlier t u z f f1 m lt c (inr e) (inr l) = inr ((let b = l.0 in let d = e.0 in omega arith), l.1)

  later : (z f f1 : ℕ) → f < f1 → 15 < reach no_in (token_at toks f) → (z ≡ f) ⊎ ((z < f) × (15 < reach no_in (token_at toks z))) → (z < f1) × (15 < reach no_in (token_at toks z))
  later z f f1 lt c (inl e) = ((let a = e in omega arith), subst (λ (q : ℕ). 15 < reach no_in (token_at toks q)) (sym e) c)
  later z f f1 lt c (inr e) = ((let a = e.0 in omega arith), e.1)

  next_last : (old new : List Node) (left p : Part) (b : Begun q.functions q old left.next) (g : Chaining q toks true no_in room i old left) (s : Grows q.functions (SuffixStep toks true room) (λ y n. ⊥) old new left p) → Keeps old new
      → (last : Option Part) → LastIs q toks no_in room i old last g.tree left.next → (t : Bool) → p.is_target ≡ t
      → LastIs q toks no_in room i new (if t then Some p else last) (s.whole g.tree) p.next
  unfolding chain_step
  next_last old new left p b g s k None l true is =
      is_last new p (chain_step q toks true no_in room i old new left p b g s) is (λ u m r t. or_beyond (s.whole g.tree) p.next u m (onward old new left p s g.tree u m (l u m r t)))
  next_last old new left p b g s k None l false is =
      λ u m r t. must_beyond (s.whole g.tree) p.next u m (let a = (s.part q g.tree b g.part).is_target in cc) t (onward old new left p s g.tree u m (l u m r t))
  next_last old new left p b g s k (Some z) l true is =
      is_last new p (chain_step q toks true no_in room i old new left p b g s) is (λ u m r t. one u m (l.all u m r t))
    where
      stp : SuffixStep toks true room g.tree left.next (s.whole g.tree) p.next
      stp = s.step g.tree

      lt : left.next < p.next
      lt = (suffix_forward toks true room g.tree left.next (s.whole g.tree) p.next stp.kind).0

      c : 15 < reach no_in (token_at toks left.next)
      c = let r = suffix_reach toks true no_in room g.tree left.next (s.whole g.tree) p.next stp.kind in omega arith

      one : (u : Expr) (m : ℕ) → (((u ≡ l.tree) × (m ≡ z.next)) ⊎ ((m < z.next) × (15 < reach no_in (token_at toks m)))) ⊎ Beyond toks room u m g.tree left.next
          → (((u ≡ s.whole g.tree) × (m ≡ p.next)) ⊎ ((m < p.next) × (15 < reach no_in (token_at toks m)))) ⊎ Beyond toks room u m (s.whole g.tree) p.next
      one u m (inl a) = inl (earlier l.tree u z.next left.next p.next m lt c l.place a)
      one u m (inr b) = or_beyond (s.whole g.tree) p.next u m (onward old new left p s g.tree u m b)
  next_last old new left p b g s k (Some z) l false is = record {
    tree = l.tree;
    part = part_kept q old new k z l.tree l.part;
    target = l.target;
    reading = l.reading;
    place = inr (later z.next left.next p.next lt c l.place);
    all = λ u m r t. one u m t (l.all u m r t);
  }
    where
      stp : SuffixStep toks true room g.tree left.next (s.whole g.tree) p.next
      stp = s.step g.tree

      lt : left.next < p.next
      lt = (suffix_forward toks true room g.tree left.next (s.whole g.tree) p.next stp.kind).0

      c : 15 < reach no_in (token_at toks left.next)
      c = let r = suffix_reach toks true no_in room g.tree left.next (s.whole g.tree) p.next stp.kind in omega arith

      other : is_target (s.whole g.tree) ≡ false
      other = let a = (s.part q g.tree b g.part).is_target in cc

      one : (u : Expr) (m : ℕ) → is_target u ≡ true → (((u ≡ l.tree) × (m ≡ z.next)) ⊎ ((m < z.next) × (15 < reach no_in (token_at toks m)))) ⊎ Beyond toks room u m g.tree left.next
          → (((u ≡ l.tree) × (m ≡ z.next)) ⊎ ((m < z.next) × (15 < reach no_in (token_at toks m)))) ⊎ Beyond toks room u m (s.whole g.tree) p.next
      one u m t (inl a) = inl a
      one u m t (inr b) = inr (must_beyond (s.whole g.tree) p.next u m other t (onward old new left p s g.tree u m b))

  pub target_step : (old new : List Node) (left p : Part) (last o : Option Part) → Begun q.functions q old left.next → Keeps old new → Targeting q toks no_in room i old left last → Grows q.functions (SuffixStep toks true room) (λ y n. ⊥) old new left p
      → o ≡ (if p.is_target then Some p else last) → Targeting q toks no_in room i new p o
  unfolding chain_step
  target_step old new left p last o b k g s e = record {
    chain = chain_step q toks true no_in room i old new left p b g.chain s;
    last_is = subst (λ (z : Option Part). LastIs q toks no_in room i new z (s.whole g.chain.tree) p.next) (sym e) (next_last old new left p b g.chain s k last g.last_is p.is_target refl);
  }

  pub target_end : (old new : List Node) (left : Part) → Keeps old new → ((y y' : Expr) (f' : ℕ) → SuffixStep toks true room y left.next y' f' → ⊥) → (last : Option Part) → Targeting q toks no_in room i old left last → TargetAnswers q toks no_in room i new (Ok last)
  target_end old new left k none None g = λ u m r t. (let b = g.last_is u m r t in none g.chain.tree b.next b.place b.first.1)
  target_end old new left k none (Some p) g = record {
    tree = g.last_is.tree;
    part = part_kept q old new k p g.last_is.tree g.last_is.part;
    target = g.last_is.target;
    reading = g.last_is.reading;
    longest = λ u m r t. one u m (g.last_is.all u m r t);
  }
    where
      one : (u : Expr) (m : ℕ) → (((u ≡ g.last_is.tree) × (m ≡ p.next)) ⊎ ((m < p.next) × (15 < reach no_in (token_at toks m)))) ⊎ Beyond toks room u m g.chain.tree left.next
          → ((u ≡ g.last_is.tree) × (m ≡ p.next)) ⊎ ((m < p.next) × (15 < reach no_in (token_at toks m)))
      one u m (inl a) = a
      one u m (inr b) = absurd (none g.chain.tree b.next b.place b.first.1)

-- `new` without arguments is no is_target, nor does it begin one
pub no_target_bare : (q : Origin) (toks : List Tok) (no_in : Bool) (room i : ℕ) (ns : List Node) (h : Head) → FindsHead q toks no_in room i ns h → h.is_bare ≡ true → (u : Expr) (m : ℕ) → Reading toks 15 no_in room i u m → is_target u ≡ true → ⊥
no_target_bare q toks no_in room i ns h f is u m r t = from_bare q toks no_in room i u m f.tree h.part.next t (sym f.is_bare ∙ is) (from_head q toks no_in room i ns h f u m r t)

pub no_target_none : (toks : List Tok) (no_in : Bool) (room i : ℕ) → ((u : Expr) (m : ℕ) → Reading toks 15 no_in room i u m → IsHead u → ⊥) → (u : Expr) (m : ℕ) → Reading toks 15 no_in room i u m → is_target u ≡ true → ⊥
no_target_none toks no_in room i none u m r t =
    let p = chain_parts toks true no_in room i u m r (in_chain no_in u r.level r.formed) in none p.0 p.1 p.2.0 p.2.1

-- where the last target ends, and that its node is there
abbrev pub LastEnds : List Tok → ℕ → List Node → Option Part → Type 0
LastEnds toks i ns None = Unit {0}
LastEnds toks i ns (Some p) = EndsAt toks i ns p

pub last_ends : (toks : List Tok) (i : ℕ) (a b : List Node) (left : Part) (last o : Option Part) → length a ≤ length b → EndsAt toks i b left → LastEnds toks i a last → o ≡ (if left.is_target then Some left else last) → LastEnds toks i b o
last_ends toks i a b left last o le e l is = subst (λ (z : Option Part). LastEnds toks i b z) (sym is) (one left.is_target last l)
  where
    one : (t : Bool) (last : Option Part) → LastEnds toks i a last → LastEnds toks i b (if t then Some left else last)
    one true last l = e
    one false None l = tt
    one false (Some p) l = (l.0, l.1, (let h = l.2 in omega arith))
