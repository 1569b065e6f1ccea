-- Numbers that fall by one, and the entries of the nodes that have them.
use Rattle.std.specs.Prelude.{◌≡◌, ℕ, zero, suc, ◌-◌, List, [], ◌∷◌, ◌++◌, length}
use Rattle.std.proofs.Common.{refl, sym, ap, subst, ◌∙◌, arith, length-append}
use Rattle.wjs_order.specs.Order.{falling}
use Rattle.wjs_meaning.specs.Trees.{Node, Place}
use Rattle.wjs_programs.specs.Numbered.{Entry, below}

-- ---- numbers

-- the first number is k, and each other is one less than that before it
abbrev pub IsRun : ℕ → List ℕ → Type 0
IsRun k [] = Unit {0}
IsRun k (u ∷ us) = (u ≡ k) × IsRun (k - 1) us

run_parts : (us vs : List ℕ) (k : ℕ) → IsRun k (us ++ vs) → IsRun k us × IsRun (k - length us) vs
run_parts [] vs k run = (tt, subst (λ (z : ℕ). IsRun z vs) (let e : k ≡ k - 0 = omega arith in e) run)
run_parts (u ∷ us) vs k run =
    let more = run_parts us vs (k - 1) run.1 in
    ((run.0, more.0), subst (λ (z : ℕ). IsRun z vs) (let e : k - 1 - length us ≡ k - suc (length us) = omega arith in e) more.1)

pub falls : (n : ℕ) → IsRun (n - 1) (falling n)
falls zero = tt
falls (suc n) =
    ((let e : n ≡ suc n - 1 = omega arith in e), subst (λ (z : ℕ). IsRun z (falling n)) (let e : n - 1 ≡ suc n - 1 - 1 = omega arith in e) (falls n))

pub length-falling : (n : ℕ) → length (falling n) ≡ n
length-falling zero = refl
length-falling (suc n) = ap suc (length-falling n)

-- ---- entries, where `HasEntry` tells the entry of a number

-- the numbers have these entries
abbrev pub AreEntries : (ℕ → Entry → Type 0) → List ℕ → List Entry → Type 0
AreEntries HasEntry [] [] = Unit {0}
AreEntries HasEntry (u ∷ us) (e ∷ l) = HasEntry u e × AreEntries HasEntry us l
AreEntries HasEntry _ _ = ⊥

module _ (HasEntry : ℕ → Entry → Type 0) where
  both_entries : (us vs : List ℕ) (l m : List Entry) → AreEntries HasEntry us l → AreEntries HasEntry vs m → AreEntries HasEntry (us ++ vs) (l ++ m)
  both_entries [] vs [] m a b = b
  both_entries [] vs (e ∷ l) m a b = absurd a
  both_entries (u ∷ us) vs [] m a b = absurd a
  both_entries (u ∷ us) vs (e ∷ l) m a b = (a.0, both_entries us vs l m a.1 b)

  -- Of a part of a program, or of a list of parts: what its nodes say of numbers, what that comes to, the numbers of its nodes,
  -- and their entries, of which the first has the number k.
  pub record Part (V : Type 0) (said is : V) (us : List ℕ) (k : ℕ) (l : List Entry) : Type 0 where
    pub long : length l ≡ length us
    pub same : IsRun k us → said ≡ is
    pub entries : IsRun k us → AreEntries HasEntry us l

  pub nothing : {V : Type 0} {said is : V} {us : List ℕ} (k : ℕ) → said ≡ is → us ≡ [] → Part V said is us k []
  nothing k same none = record {
    long = sym (ap length none);
    same = λ run. same;
    entries = λ run. subst (λ (z : List ℕ). AreEntries HasEntry z []) (sym none) tt;
  }

  pub only : {V W : Type 0} (f : V → W) {all : W} {said is : V} {us : List ℕ} {k : ℕ} {l : List Entry} → all ≡ f said → Part V said is us k l → Part W all (f is) us k l
  only f same p = record { long = p.long; same = λ run. same ∙ ap f (p.same run); entries = p.entries }

  -- a part and those behind it
  pub joined : {V W X : Type 0} (f : V → W → X) {all : X} {a b : V} {c d : W} {used us vs : List ℕ} {k : ℕ} {l m : List Entry} → all ≡ f a c → used ≡ us ++ vs → Part V a b us k l → Part W c d vs (below k l) m → Part X all (f b d) used k (l ++ m)
  joined f {b = b} {c = c} {used = used} {us = us} {vs = vs} {k = k} {l = l} {m = m} same is p q = record {
    long = (let a = p.long in let b = q.long in let e = ap length is in let f = length-append us vs in let g = length-append l m in omega arith);
    same = λ run. (let r = runs run in same ∙ ap (λ z. f z c) (p.same r.0) ∙ ap (f b) (q.same r.1));
    entries = λ run. (let r = runs run in subst (λ (z : List ℕ). AreEntries HasEntry z (l ++ m)) (sym is) (both_entries us vs l m (p.entries r.0) (q.entries r.1)));
  }
    where
      runs : IsRun k used → IsRun k us × IsRun (below k l) vs
      runs run =
          let r = run_parts us vs k (subst (IsRun k) is run) in
          (r.0, subst (λ (z : ℕ). IsRun (k - z) vs) (sym p.long) r.1)

  pub pair : {V W : Type 0} {a b : V} {c d : W} {us vs : List ℕ} {k : ℕ} {l m : List Entry} → Part V a b us k l → Part W c d vs (below k l) m → Part (V × W) (a, c) (b, d) (us ++ vs) k (l ++ m)
  pair {V} {W} p q = joined (λ (v : V) (w : W). (v, w)) refl refl p q

  -- a node, whose entry is known from what its parts say, and its parts
  pub node_with : {V : Type 0} {said is : V} {used us : List ℕ} {k : ℕ} {l : List Entry} (i : ℕ) (form : V → Node) (places : List Place) → used ≡ i ∷ us → HasEntry i (record { node = form said; places = places }) → Part V said is us (k - 1) l
      → Part ℕ i k used k (record { node = form is; places = places } ∷ l)
  node_with {is = is} {used = used} {us = us} {k = k} {l = l} i form places parted at p = record {
    long = ap suc p.long ∙ sym (ap length parted);
    same = λ run. (here run).0;
    entries = λ run.
        (let r = here run in
        subst (λ (z : List ℕ). AreEntries HasEntry z (record { node = form is; places = places } ∷ l)) (sym parted) (subst (λ z. HasEntry i (record { node = form z; places = places })) (p.same r.1) at, p.entries r.1));
  }
    where
      here : IsRun k used → (i ≡ k) × IsRun (k - 1) us
      here run = subst (IsRun k) parted run
