-- Different numbers below n are at most n.
use Rattle.std.specs.Prelude.{◌≡◌, ◌≢◌, ◌==◌, ℕ, zero, suc, ◌<◌, ◌≤◌, Bool, true, false, List, [], ◌∷◌, length}
use Rattle.std.proofs.Common.{refl, sym, subst, ◌∙◌, inl, inr, arith}
use borrow.Author.Tests.{eq-eqb, eqb-true}
use Rattle.wjs_tree.specs.Used.{IsUsed, IsOnce}

-- each of the numbers is below n
abbrev pub AreUnder : ℕ → List ℕ → Type 0
AreUnder n us = (k : ℕ) → IsUsed us k → k < n

-- the numbers without n
record Picked (n : ℕ) (us : List ℕ) : Type 0 where
  rest : List ℕ
  long : length us ≤ suc (length rest)
  once : IsOnce rest
  under : AreUnder n rest
  among : (k : ℕ) → IsUsed rest k → IsUsed us k

pick_by : (n m : ℕ) (us : List ℕ) → IsOnce (m ∷ us) → AreUnder (suc n) (m ∷ us) → Picked n us → (b : Bool) → (m == n) ≡ b → Picked n (m ∷ us)
pick_by n m us once under p true e =
    let same : m ≡ n = eqb-true m n e in
    record {
      rest = us;
      long = omega arith;
      once = once.1;
      under = λ k h.
          (let lt = under k (inr h) in
          let other : k ≢ n = λ q. once.0 (subst (IsUsed us) (q ∙ sym same) h) in
          omega arith);
      among = λ k h. inr h;
    }
pick_by n m us once under p false e =
    let other : m ≢ n = λ q. (let t = eq-eqb m n q in cc) in
    let lt = under m (inl refl) in
    record {
      rest = m ∷ p.rest;
      long = (let long = p.long in omega arith);
      once = (λ h. once.0 (p.among m h), p.once);
      under = λ k h. elim h as (λ _. k < n) [ inl q ↦ omega arith | inr r ↦ p.under k r ];
      among = λ k h. elim h as (λ _. IsUsed (m ∷ us) k) [ inl q ↦ inl q | inr r ↦ inr (p.among k r) ];
    }

pick : (n : ℕ) (us : List ℕ) → IsOnce us → AreUnder (suc n) us → Picked n us
pick n [] once under = record { rest = []; long = omega arith; once = tt; under = λ k h. absurd h; among = λ k h. h }
pick n (m ∷ us) once under = pick_by n m us once under (pick n us once.1 (λ k h. under k (inr h))) (m == n) refl

pub few : (n : ℕ) (us : List ℕ) → IsOnce us → AreUnder n us → length us ≤ n
few zero [] once under = omega arith
few zero (m ∷ us) once under = absurd (let lt = under m (inl refl) in omega arith)
few (suc n) us once under = let p = pick n us once under in let long = p.long in let low = few n p.rest p.once p.under in omega arith
