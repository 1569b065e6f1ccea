-- A pattern that is moved along a text by its periods.
use Rattle.std.proofs.Common.{◌≡◌, ℕ, ◌+◌, ◌-◌, ◌<◌, ◌≤◌, true, false, Option, Some, None, ◌∷◌, length, get_or, drop, ap, sym, ◌∙◌, arith, inl, inr}
use Rattle.std.proofs.lemmas.List.{drop_more, drop-drop, length-drop}
use Rattle.wjs_by_content.specs.Values.{Text}
use Rattle.wjs_meaning.specs.NativesOfTexts.{begins_with, first_place, last_place}
use Rattle.wjs_strings.specs.Periods.{IsPeriod, IsLeastPeriod, StandsSoFar}
use Rattle.std.proofs.lemmas.Bool.{cases_eq, false_from_ne_true}
use Rattle.wjs_strings.proofs.Standing.{Stands, stands_at, first_skips, found, missing, last_none, last_skips, last_stands, last_past}

-- a scan for the least place from another on: so many units stand, and it stands at no place before
pub record Scans (s t : Text) (from start matched : ℕ) : Type 0 where
  pub inside : start ≤ length t
  pub reaches : start + matched ≤ length t
  pub part : matched ≤ length s
  pub stands : StandsSoFar s t start matched
  pub same : first_place s from (drop from t) ≡ first_place s start (drop start t)

-- one more unit stands
pub scans_longer : (s t : Text) (from start matched : ℕ) → Scans s t from start matched → start + length s ≤ length t → matched < length s → get_or t (start + matched) 0 ≡ get_or s matched 0 → Scans s t from start (matched + 1)
scans_longer s t from start matched scan fits more here = record {
  inside = scan.inside;
  reaches = omega arith;
  part = omega arith;
  stands = λ k below. elim (cases_eq k matched) [ inl e ↦ ap (λ x. get_or t (start + x) 0) e ∙ here ∙ ap (λ x. get_or s x 0) (sym e) | inr n ↦ scan.stands k (omega arith) ];
  same = scan.same;
}

-- where units stand, the pattern doesn't stand again before it is moved by a period of theirs
not_between : (s t : Text) (start matched d e : ℕ) → StandsSoFar s t start matched → matched ≤ length s → IsLeastPeriod s matched d → 0 < e → e < d → begins_with s (drop (start + e) t) ≡ false
not_between s t start matched d e stands part period above below =
    false_from_ne_true (begins_with s (drop (start + e) t))
    (λ b.
    let again = stands_at s t (start + e) b in
    period.least e above below
    (λ k inside. sym (again.units k (omega arith)) ∙ ap (λ x. get_or t x 0) (omega arith) ∙ stands (k + e) (omega arith)))

-- the next unit doesn't stand
not_here : (s t : Text) (start matched : ℕ) → matched < length s → (get_or t (start + matched) 0 ≡ get_or s matched 0 → ⊥) → begins_with s (drop start t) ≡ false
not_here s t start matched more other = false_from_ne_true (begins_with s (drop start t)) (λ b. other ((stands_at s t start b).units matched more))

-- what stands after a move by a period
moved_stands : (s t : Text) (start matched d : ℕ) → StandsSoFar s t start matched → IsPeriod s matched d → StandsSoFar s t (start + d) (matched - d)
moved_stands s t start matched d stands period k below = ap (λ x. get_or t x 0) (omega arith) ∙ stands (k + d) (omega arith) ∙ sym (period k (omega arith))

-- a unit that doesn't stand moves the pattern
pub scans_moved : (s t : Text) (from start matched d : ℕ) → Scans s t from start matched → start + length s ≤ length t → matched < length s → (get_or t (start + matched) 0 ≡ get_or s matched 0 → ⊥) → IsLeastPeriod s matched d → Scans s t from (start + d) (matched - d)
scans_moved s t from start matched d scan fits more other period =
    let most = period.within in
    record {
      inside = omega (arith, period.bound);
      reaches = omega (arith, period.bound);
      part = omega (arith, scan.part);
      stands = moved_stands s t start matched d scan.stands period.is;
      same = scan.same ∙ first_skips s t start d (omega (arith, period.bound)) (λ e below. elim (cases_eq e 0) [
        | inl z ↦ ap (λ x. begins_with s (drop x t)) (omega arith) ∙ not_here s t start matched more other
        | inr z ↦ not_between s t start matched d e scan.stands scan.part period (omega arith) below
      ]);
    }

-- a scan for the greatest place: so many units stand, and the best place so far is held
pub record Seeks (s t : Text) (limit : ℕ) (best : Option ℕ) (start matched : ℕ) : Type 0 where
  pub inside : start ≤ length t
  pub reaches : start + matched ≤ length t
  pub part : matched ≤ length s
  pub stands : StandsSoFar s t start matched
  pub same : last_place s limit None 0 t ≡ last_place s limit best start (drop start t)

-- it stands nowhere on
pub seeks_missing : (s t : Text) (limit : ℕ) (best : Option ℕ) (start matched : ℕ) → Seeks s t limit best start matched → None ≡ first_place s start (drop start t) → last_place s limit None 0 t ≡ best
seeks_missing s t limit best start matched seek h = seek.same ∙ last_none s limit best start (drop start t) (missing s start (drop start t) (sym h))

-- the next place at which it stands
seeks_to : (s t : Text) (limit : ℕ) (best : Option ℕ) (start matched p : ℕ) → Seeks s t limit best start matched → Some p ≡ first_place s start (drop start t) → last_place s limit None 0 t ≡ last_place s limit best p (drop p t)
seeks_to s t limit best start matched p seek h =
    let f = found s start (drop start t) p (sym h) in
    seek.same ∙ last_skips s limit best start (drop start t) f.on f.at.inside f.at.none
    ∙ ap (λ l. last_place s limit best (start + f.on) l) (drop-drop f.on start t)
    ∙ ap (λ x. last_place s limit best x (drop x t)) (sym f.is)

-- where it stands
pub stands_there : (s t : Text) (start p : ℕ) → start ≤ length t → Some p ≡ first_place s start (drop start t) → Stands s t p × (p ≤ length t) × (begins_with s (drop p t) ≡ true)
stands_there s t start p inside h =
    let f = found s start (drop start t) p (sym h) in
    let b : begins_with s (drop p t) ≡ true = ap (λ x. begins_with s (drop x t)) f.is ∙ ap (begins_with s) (sym (drop-drop f.on start t)) ∙ f.at.here in
    (stands_at s t p b, omega (arith, f.is, f.at.inside, length-drop start t), b)

-- past the limit
pub seeks_past : (s t : Text) (limit : ℕ) (best : Option ℕ) (start matched p : ℕ) → Seeks s t limit best start matched → Some p ≡ first_place s start (drop start t) → limit < p → last_place s limit None 0 t ≡ best
seeks_past s t limit best start matched p seek h over = seeks_to s t limit best start matched p seek h ∙ last_past s limit best p (drop p t) over

-- from a place within the limit on
pub seeks_on : (s t : Text) (limit : ℕ) (best : Option ℕ) (start matched p d : ℕ) → 0 < length s → Seeks s t limit best start matched → Some p ≡ first_place s start (drop start t) → p ≤ limit → IsLeastPeriod s (length s) d → Seeks s t limit (Some p) (p + d) (length s - d)
seeks_on s t limit best start matched p d full seek h under least =
    let there = stands_there s t start p seek.inside h in
    let fits : p + length s ≤ length t = there.0.within there.1 in
    let most = least.within full in
    let e = drop_more t p 0 (omega arith) in
    let us = drop (p + 1) t in
    let b : begins_with s (get_or t p 0 ∷ us) ≡ true = ap (begins_with s) (sym e) ∙ there.2 in
    record {
      inside = omega arith;
      reaches = omega arith;
      part = omega arith;
      stands = moved_stands s t p (length s) d there.0.units least.is;
      same = seeks_to s t limit best start matched p seek h
          ∙ ap (last_place s limit best p) e
          ∙ last_stands s limit best p (get_or t p 0) us b under
          ∙ last_skips s limit (Some p) (p + 1) us (d - 1) (omega (arith, length-drop (p + 1) t))
          (λ e below. ap (begins_with s) (drop-drop e (p + 1) t ∙ ap (λ x. drop x t) (omega arith)) ∙ not_between s t p (length s) d (e + 1) there.0.units (omega arith) least (omega arith) (omega arith))
          ∙ ap (λ l. last_place s limit (Some p) (p + 1 + (d - 1)) l) (drop-drop (d - 1) (p + 1) t)
          ∙ ap (λ x. last_place s limit (Some p) x (drop x t)) (let q : p + 1 + (d - 1) ≡ p + d = omega (arith, least.positive) in q);
    }

-- less is left
pub seeks_falls : (s t : Text) (limit : ℕ) (best : Option ℕ) (start matched p d : ℕ) → 0 < length s → Seeks s t limit best start matched → Some p ≡ first_place s start (drop start t) → p ≤ limit → IsLeastPeriod s (length s) d → length t - (p + d) < length t - start
seeks_falls s t limit best start matched p d full seek h under least =
    let f = found s start (drop start t) p (sym h) in
    let on = seeks_on s t limit best start matched p d full seek h under least in
    omega (arith, f.is, on.inside, least.positive)
