-- The periods of a pattern's fronts, one after another.
use Rattle.std.proofs.Common.{◌≡◌, ℕ, ◌+◌, ◌-◌, ◌<◌, ◌≤◌, List, length, get_or, set, replicate, ap, sym, ◌∙◌, subst, arith, inl, inr}
use Rattle.std.proofs.lemmas.Bool.{cases_eq, cases_lt}
use Rattle.std.proofs.lemmas.List.{get_or-set_same, get_or-set_other, length-set, length-replicate, get_or-replicate, get_or_read}
use Rattle.wjs_by_content.specs.Values.{Text}
use Rattle.wjs_strings.specs.Periods.{IsPeriod, IsLeastPeriod, ArePeriods}

-- the periods of the fronts of so many units are there; of the last of them it is the one at hand, and no less one is a period of a longer front
pub record Fronts (s : Text) (periods : List ℕ) (period matched : ℕ) : Type 0 where
  pub count : length periods ≡ length s + 1
  pub positive : 0 < period
  pub reaches : period + matched ≤ length s + 1
  pub done : (q : ℕ) → q ≤ length s → q ≤ period + matched → IsLeastPeriod s q (get_or periods q 0)
  pub again : (k : ℕ) → k < matched → get_or s k 0 ≡ get_or s (k + period) 0
  pub not_less : (e : ℕ) → 0 < e → e < period → ¬ (IsPeriod s (period + matched + 1) e)

-- of no unit and of one unit it is 1
one : (s : Text) (q : ℕ) → q ≤ 1 → IsLeastPeriod s q 1
one s q h = record {
  positive = omega arith;
  bound = omega arith;
  within = λ above. omega arith;
  is = λ k below. absurd (omega arith);
  least = λ e above below. absurd (omega arith);
}

pub fronts_start : (s : Text) (periods : List ℕ) → periods ≡ replicate (length s + 1) 1 → Fronts s periods 1 0
fronts_start s periods h = record {
  count = ap length h ∙ length-replicate (length s + 1) 1;
  positive = omega arith;
  reaches = omega arith;
  done = λ q inside below. subst (λ (d : ℕ). IsLeastPeriod s q d) (sym (ap (λ l. get_or l q 0) h ∙ get_or-replicate (length s + 1) q 1 0 (omega arith))) (one s q (omega arith));
  again = λ k below. absurd (omega arith);
  not_less = λ e above below. absurd (omega arith);
}

-- a period of a front is one of each shorter front
shorter : (s : Text) (p q e : ℕ) → p ≤ q → IsPeriod s q e → IsPeriod s p e
shorter s p q e h is = λ k below. is k (omega arith)

-- the next unit stands again
pub fronts_longer : (s : Text) (periods : List ℕ) (period matched : ℕ) → Fronts s periods period matched → period + matched < length s → get_or s (period + matched) 0 ≡ get_or s matched 0 → Fronts s (set periods (period + (matched + 1)) period) period (matched + 1)
fronts_longer s periods period matched f more here =
    let next = period + (matched + 1) in
    let stands = λ (k : ℕ) (below : k < matched + 1). elim (cases_eq k matched) as (λ w. get_or s k 0 ≡ get_or s (k + period) 0) [
      | inl e ↦ ap (λ x. get_or s x 0) e ∙ sym here ∙ ap (λ x. get_or s x 0) (omega arith)
      | inr n ↦ f.again k (omega arith)
    ] in
    record {
      count = length-set periods next period ∙ f.count;
      positive = f.positive;
      reaches = omega arith;
      done = λ q inside below. elim (cases_eq q next) [
        | inl e ↦ subst (λ (d : ℕ). IsLeastPeriod s q d) (sym (ap (λ x. get_or (set periods next period) x 0) e ∙ get_or-set_same periods next period 0 (omega (arith, f.count)))) (record {
          positive = f.positive;
          bound = omega arith;
          within = λ above. omega arith;
          is = λ k under. stands k (omega arith);
          least = λ z above under is. f.not_less z above under (shorter s (period + matched + 1) q z (omega arith) is);
        })
        | inr n ↦ subst (λ (d : ℕ). IsLeastPeriod s q d) (sym (get_or-set_other periods next q period 0 n)) (f.done q inside (omega arith))
      ];
      again = stands;
      not_less = λ e above below is. f.not_less e above below (shorter s (period + matched + 1) (period + (matched + 1) + 1) e (omega arith) is);
    }

-- a period of none of the units that stand again is none of all units
none_equal : (s : Text) (period e : ℕ) → (get_or s period 0 ≡ get_or s 0 0 → ⊥) → ((z : ℕ) → 0 < z → z < period → ¬ (IsPeriod s (period + 1) z)) → 0 < e → e < period + 1 → ¬ (IsPeriod s (period + 1) e)
none_equal s period e other f above below is = elim (cases_eq e period) [
  | inl z ↦ other (sym (is 0 (omega arith) ∙ ap (λ x. get_or s x 0) (omega arith)))
  | inr z ↦ f e above (omega arith) is
]

-- no unit stands again
pub fronts_none : (s : Text) (periods : List ℕ) (period : ℕ) → Fronts s periods period 0 → period < length s → (get_or s period 0 ≡ get_or s 0 0 → ⊥) → Fronts s (set periods (period + 1) (period + 1)) (period + 1) 0
fronts_none s periods period f more other =
    let next = period + 1 in
    let less = λ (z : ℕ) (above : 0 < z) (below : z < period). λ (is : IsPeriod s (period + 1) z). f.not_less z above below (shorter s (period + 0 + 1) (period + 1) z (omega arith) is) in
    let none = λ (z : ℕ) (above : 0 < z) (below : z < next). none_equal s period z other less above below in
    record {
      count = length-set periods next next ∙ f.count;
      positive = omega arith;
      reaches = omega arith;
      done = λ q inside below. elim (cases_eq q next) [
        | inl e ↦ subst (λ (d : ℕ). IsLeastPeriod s q d) (sym (ap (λ x. get_or (set periods next next) x 0) e ∙ get_or-set_same periods next next 0 (omega (arith, f.count)))) (record {
          positive = omega arith;
          bound = omega arith;
          within = λ above. omega arith;
          is = λ k under. absurd (omega arith);
          least = λ z above under is. none z above under (shorter s next q z (omega arith) is);
        })
        | inr n ↦ subst (λ (d : ℕ). IsLeastPeriod s q d) (sym (get_or-set_other periods next q next 0 n)) (f.done q inside (omega arith))
      ];
      again = λ k below. absurd (omega arith);
      not_less = λ e above below is. none e above below (shorter s next (next + 0 + 1) e (omega arith) is);
    }

-- the next unit doesn't stand again: the pattern moves along itself
pub fronts_moved : (s : Text) (periods : List ℕ) (period matched d : ℕ) → Fronts s periods period matched → 0 < matched → (get_or s (period + matched) 0 ≡ get_or s matched 0 → ⊥) → IsLeastPeriod s matched d → Fronts s periods (period + d) (matched - d)
fronts_moved s periods period matched d f some other least =
    let most = least.within some in
    record {
      count = f.count;
      positive = omega (arith, f.positive);
      reaches = omega (arith, f.reaches);
      done = λ q inside below. f.done q inside (omega arith);
      again = λ k below. least.is k (omega arith) ∙ f.again (k + d) (omega arith) ∙ ap (λ x. get_or s x 0) (omega arith);
      not_less = λ e above below is. elim (cases_eq e period) [
        | inl z ↦ other (sym (is matched (omega arith) ∙ ap (λ x. get_or s x 0) (omega arith)))
        | inr z ↦ elim (cases_lt e period) [
          | inl under ↦ f.not_less e above under (shorter s (period + matched + 1) (period + d + (matched - d) + 1) e (omega arith) is)
          | inr over ↦ least.least (e - period) (omega arith) (omega arith) (λ k inside. is k (omega arith) ∙ ap (λ x. get_or s x 0) (omega arith) ∙ sym (f.again (k + (e - period)) (omega arith)))
        ]
      ];
    }

-- all fronts
pub fronts_all : (s : Text) (periods : List ℕ) (period matched : ℕ) → Fronts s periods period matched → length s ≤ period + matched → ArePeriods s periods
fronts_all s periods period matched f h = record { count = f.count; each = λ q inside. f.done q inside (omega arith) }

-- the period that is read
pub period_at : (s : Text) (periods : List ℕ) (period matched d : ℕ) → Fronts s periods period matched → period + matched < length s → d ≡ get_or periods matched d → IsLeastPeriod s matched d
period_at s periods period matched d f more h =
    subst (λ (x : ℕ). IsLeastPeriod s matched x) (sym (get_or_read periods matched d (omega (arith, f.count)) h 0)) (f.done matched (omega arith) (omega arith))
