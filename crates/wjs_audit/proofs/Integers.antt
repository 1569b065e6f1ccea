-- Pairs, and whole numbers with their sign.
use Rattle.std.proofs.Common.{◌≡◌, ℕ, suc, ◌<◌, ◌≤◌, List, ◌∷◌, ◌++◌, get_or, drop, ap, sym, subst, ◌∙◌, arith}
use Rattle.std.specs.Prelude.{decimal, ℤ, pos, negsuc}
use Rattle.std.specs.Fmt.{signed_decimal}
use Rattle.std.proofs.lemmas.Int.{ints}
use Rattle.std.proofs.lemmas.Fmt.{decimal_injective}
use Rattle.wjs_base.specs.Range.{InRange}
use Rattle.wjs_audit.specs.Spelling.{pair_text}
use Rattle.wjs_audit.specs.Logs.{FitsPair}
use Rattle.wjs_audit.specs.Parts.{Lacks}
use Rattle.wjs_audit.proofs.Words.{decimal_lacks, cut_one, lacks_not}
use Rattle.wjs_audit.proofs.Spellings.{initial, digit_first}

-- ---- pairs

module _ (part owner serial : List ℕ) (e : part ≡ owner ++ 46 ∷ serial) (lacks : Lacks 46 owner) (p : ℕ × ℕ) (fits : FitsPair p.0 p.1) (same : part ≡ pair_text p.0 p.1) where
  pub pair_halves : (owner ≡ decimal p.0) × (serial ≡ decimal p.1)
  pair_halves = cut_one 46 owner serial (decimal p.0) (decimal p.1) lacks (decimal_lacks p.0 46 (omega (arith, fits.0)) (omega arith)) (sym e ∙ same)

pub no_pair : (part : List ℕ) (p : ℕ × ℕ) → Lacks 46 part → part ≡ pair_text p.0 p.1 → ⊥
no_pair part p lacks same = lacks_not 46 (decimal p.0) (decimal p.1) (subst (Lacks 46) same lacks)

-- ---- integers

abbrev greatest : ℕ
greatest = 9007199254740991

above_bound : (n : ℕ) → InRange (pos n) → n ≤ greatest
above_bound n h = omega (arith, ints, h.1)

below_bound : (n : ℕ) → InRange (negsuc n) → suc n ≤ greatest
below_bound n h = omega (arith, ints, h.0)

-- a minus, and no digits behind it, or those of 0
module _ (part : List ℕ) (minus : get_or part 0 0 ≡ 45) (none : (n : ℕ) → 0 < n → n ≤ greatest → drop 1 part ≡ decimal n → ⊥) where
  pub minus_none : (z : ℤ) → InRange z → part ≡ signed_decimal z → ⊥
  minus_none (pos n) h e =
      let small = above_bound n h in
      let first = digit_first n (omega (arith, small)) in
      let at : initial (decimal n) ≡ 45 = sym (ap initial e) ∙ minus in
      omega (arith, first.0, at)
  minus_none (negsuc n) h e = none (suc n) (omega arith) (below_bound n h) (ap (drop 1) e)

pub zero_none : (rest : List ℕ) (n : ℕ) → rest ≡ decimal 0 → 0 < n → n ≤ greatest → rest ≡ decimal n → ⊥
zero_none rest n e some small f = let same = decimal_injective 0 n (omega arith) (omega arith) (sym e ∙ f) in omega (arith, same)
