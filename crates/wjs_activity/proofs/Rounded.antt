-- A round of the code, and how many there are.
use Rattle.std.proofs.Common.{◌≡◌, ℕ, zero, suc, ◌+◌, ◌*◌, ◌-◌, ◌≤◌, ◌<◌, ◌⊎◌, inl, inr, Bool, true, false, List, length, Option, None, Some, refl, sym, ap}
use Rattle.std.proofs.Common.{◌∙◌, subst, arith}
use Rattle.std.specs.Prelude.{slice_get, All, get_or, IfSome}
use Rattle.std.proofs.lemmas.Bool.{false≢true}
use Rattle.std.proofs.lemmas.Option.{slice_get-get_or, get_or_from_slice_get, slice_get_within, same_Some}
use Rattle.wjs_base.proofs.Booleans.{by_bool}
use Rattle.wjs_base.proofs.Lists.{get_there}
use Rattle.wjs_alone.specs.Opening.{trees_of, tree_number}
use Rattle.wjs_activity.specs.declared.activities.Activity.{Activity}
use Rattle.wjs_activity.specs.declared.activities.Play.{Play}
use Rattle.wjs_activity.specs.declared.activities.Rules.{Rules}
use Rattle.wjs_tries.specs.declared.common.Rested.{Rested}
use Rattle.wjs_tries.specs.Resting.{IsResting}
use Rattle.wjs_activity.specs.SoFar.{StandsBy, times_owned}
use Rattle.wjs_activity.specs.Rounds.{fuel, left_of, turns_left, Within, Sooner, AllSooner, TurnAt, Settled, IsGoing}
use Rattle.wjs_activity.proofs.Standing.{by_place}

-- ---- a round

-- the first activities had their turn: where one of them went on some of the fuel was taken, and the others are as they were
pub record Round (budget : ℕ) (old now : Play) (place : ℕ) : Type 0 where
  pub long : length now.activities.items ≡ length old.activities.items
  pub ahead : (i : ℕ) → place ≤ i → slice_get now.activities.items i ≡ slice_get old.activities.items i
  pub never_more : fuel budget now ≤ fuel budget old
  pub sooner : (i : ℕ) (a b : Activity) → i < place → slice_get old.activities.items i ≡ Some a → slice_get now.activities.items i ≡ Some b → Sooner budget a b
  pub less : ((i : ℕ) (a : Activity) → i < place → slice_get old.activities.items i ≡ Some a → a.ended ≡ true) ⊎ (fuel budget now < fuel budget old)

module _ (budget : ℕ) (p : Play) where
  pub round_none : Round budget p p 0
  round_none = record {
    long = refl;
    ahead = λ i le. refl;
    never_more = omega arith;
    sooner = λ i a b lt. absurd (omega (arith, lt));
    less = inl (λ i a lt at. absurd (omega (arith, lt)));
  }

  pub round_step : (q r : Play) (place : ℕ) → Round budget p q place → place < length p.activities.items → TurnAt budget place q r
      → Round budget p r (place + 1)
  round_step q r place h inside t = record {
    long = t.long ∙ h.long;
    ahead = λ i le. t.others i (λ e. absurd (omega (arith, e, le))) ∙ h.ahead i (omega (arith, le));
    never_more = let one = h.never_more in let two = t.never_more in omega (arith, one, two);
    sooner = λ i a b lt at at'. by_place i place (Sooner budget a b)
        (λ hi.
        let here : slice_get p.activities.items place ≡ Some a = ap (slice_get p.activities.items) (sym hi) ∙ at in
        t.sooner a b (h.ahead place (omega arith) ∙ here) (ap (slice_get r.activities.items) (sym hi) ∙ at'))
        (λ ni. h.sooner i a b (omega (arith, lt, ni)) at (sym (t.others i ni) ∙ at'));
    less = by h.less (get_there p.activities.items place inside);
  }
    where
      by : ((i : ℕ) (a : Activity) → i < place → slice_get p.activities.items i ≡ Some a → a.ended ≡ true) ⊎ (fuel budget q < fuel budget p) → (a : Activity)
          × (slice_get p.activities.items place ≡ Some a) → ((i : ℕ) (a : Activity) → i < place + 1 → slice_get p.activities.items i ≡ Some a
          → a.ended ≡ true) ⊎ (fuel budget r < fuel budget p)
      by (inr lt) w = inr (let more = t.never_more in omega (arith, lt, more))
      by (inl all) w = by_bool (w.0).ended
          (λ over. inl (λ i a lt at. by_place i place (a.ended ≡ true)
          (λ hi. ap (λ (x : Activity). x.ended) (same_Some a w.0 (sym at ∙ ap (slice_get p.activities.items) hi ∙ w.1)) ∙ over)
          (λ ni. all i a (omega (arith, lt, ni)) at)))
          (λ on. inr (let lt = t.less w.0 (h.ahead place (omega arith) ∙ w.1) on in let most = h.never_more in omega (arith, lt, most)))

  pub round_all : (q : Play) (n : ℕ) → Round budget p q n → length p.activities.items ≤ n → ¬ (All (λ (a : Activity). a.ended ≡ true) p.activities.items)
      → fuel budget q < fuel budget p
  round_all q n h whole some_on = by h.less
    where
      by : ((i : ℕ) (a : Activity) → i < n → slice_get p.activities.items i ≡ Some a → a.ended ≡ true) ⊎ (fuel budget q < fuel budget p)
          → fuel budget q < fuel budget p
      by (inl all) = absurd (some_on (λ k d lt. all k (get_or p.activities.items k d) (omega (arith, lt, whole)) (slice_get-get_or p.activities.items k d lt)))
      by (inr lt) = lt

  pub round_sooner : (q : Play) (n : ℕ) → Round budget p q n → length p.activities.items ≤ n → AllSooner budget p q
  round_sooner q n h whole = record {
    long = h.long;
    sooner = λ i a b at at'. h.sooner i a b (let inside = slice_get_within p.activities.items i a at in omega (arith, inside, whole)) at at';
  }

-- ---- a look for one that goes on

pub all_by_place : (xs : List Activity) (n : ℕ) → length xs ≤ n → ((k : ℕ) (a : Activity) → k < n → slice_get xs k ≡ Some a → a.ended ≡ true)
    → All (λ (a : Activity). a.ended ≡ true) xs
all_by_place xs n whole h k d lt = h k (get_or xs k d) (omega (arith, lt, whole)) (slice_get-get_or xs k d lt)

pub goes_on_at : (xs : List Activity) (n : ℕ) (a : Activity) → a ≡ get_or xs n a → n < length xs → a.ended ≡ false
    → ¬ (All (λ (x : Activity). x.ended ≡ true) xs)
goes_on_at xs n a is lt on all = false≢true (sym on ∙ ap (λ (x : Activity). x.ended) is ∙ all n a lt)

pub next_over : (xs : List Activity) (n : ℕ) (a : Activity) → a ≡ get_or xs n a → a.ended ≡ true
    → ((k : ℕ) (x : Activity) → k < n → slice_get xs k ≡ Some x → x.ended ≡ true) → (k : ℕ) (x : Activity) → k < n + 1 → slice_get xs k ≡ Some x
    → x.ended ≡ true
next_over xs n a is over h k x lt at = by_place k n (x.ended ≡ true)
    (λ same.
    let found : get_or xs n a ≡ x = get_or_from_slice_get xs n x a (ap (slice_get xs) (sym same) ∙ at) in
    ap (λ (y : Activity). y.ended) (sym (is ∙ found)) ∙ over)
    (λ apart. h k x (omega (arith, lt, apart)) at)

-- ---- so many rounds are enough

bound : (d b l : ℕ) → l ≤ b → (2 - d) * b + l < 3 * b + 1
bound zero b l h = omega (arith, h)
bound (suc zero) b l h = omega (arith, h)
bound (suc (suc d)) b l h = let none : 2 - suc (suc d) ≡ 0 = omega arith in subst (λ k. k * b + l < 3 * b + 1) (sym none) (omega (arith, h))

less_left : (x y k : ℕ) → x < y → y < suc k → x < k
less_left x y k h most = omega (arith, h, most)

none_less : (x : ℕ) → ¬ (x < 0)
none_less x h = absurd (omega (arith, h))

-- a try takes no more steps than the budget
pub within_all : (rules : Rules) (p : Play) → IsGoing rules p → Within rules.budget (3 * rules.budget + 1) p.activities.items
within_all rules p g i a at on = bound a.dropped rules.budget (left_of rules.budget a.running)
    (by a.running (subst (λ e. StandsBy g.library g.parts rules.budget g.copy g.arena e p g.ends (i + 1) a) on (g.is.activities i a at)).rests)
  where
    by : (o : Option Rested) → IfSome o (λ r. IsResting (trees_of g.library g.parts) (tree_number g.library (i + 1)) rules.budget p.drawn p.common r
        × (times_owned r.owner g.ends ≡ 0)) → left_of rules.budget o ≤ rules.budget
    by None h = omega arith
    by (Some r) h = let sum : (h.0).taken + r.left ≡ rules.budget = (h.0).trying.budget_is in omega (arith, sum)

pub within_next : (budget k : ℕ) (p q : Play) → Within budget (suc k) p.activities.items → AllSooner budget p q → Settled q.activities.items
    → Within budget k q.activities.items
within_next budget k p q w s settled i b at on =
    let long = s.long in
    let inside = slice_get_within q.activities.items i b at in
    let was = get_there p.activities.items i (omega (arith, long, inside)) in
    let less = s.sooner i was.0 b was.1 at on (settled i b at on) in
    less_left (turns_left budget b) (turns_left budget was.0) k less.1 (w i was.0 was.1 less.0)

abbrev pub AllOver : List Activity → Type 0
AllOver xs = (i : ℕ) (a : Activity) → slice_get xs i ≡ Some a → a.ended ≡ true

pub not_over : (xs : List Activity) → ¬ (All (λ (a : Activity). a.ended ≡ true) xs) → ¬ (AllOver xs)
not_over xs on all = on (all_by_place xs (length xs) (omega arith) (λ i a lt at. all i a at))

pub over_all : (xs : List Activity) → All (λ (a : Activity). a.ended ≡ true) xs → AllOver xs
over_all xs all i a at = subst (λ (x : Activity). x.ended ≡ true) (get_or_from_slice_get xs i a a at) (all i a (slice_get_within xs i a at))

-- where one goes on a round is left
pub some_left : (budget k : ℕ) (xs : List Activity) → Within budget k xs → ¬ (AllOver xs) → (j : ℕ) × (k ≡ suc j)
some_left budget zero xs w on = absurd (on (λ i a at. over i a at a.ended refl))
  where
    over : (i : ℕ) (a : Activity) → slice_get xs i ≡ Some a → (e : Bool) → a.ended ≡ e → a.ended ≡ true
    over i a at true e = e
    over i a at false e = absurd (none_less (turns_left budget a) (w i a at e))
some_left budget (suc j) xs w on = (j, refl)
