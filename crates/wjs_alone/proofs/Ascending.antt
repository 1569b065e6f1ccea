-- The parts alone in ascending order, each by an owner of its activity's number and with no object but those that were there: ends in serial order.
use Rattle.std.proofs.Common.{◌≡◌, ℕ, zero, suc, ◌+◌, ◌<◌, ◌≤◌, ◌==◌, Bool, true, false, cond, List, [], ◌∷◌, All, count_by, length, Option, refl, sym, ap, ap₂, ◌∙◌, subst, arith}
use Rattle.std.proofs.lemmas.Bool.{eqb-true, eqb-false, ne_eqb}
use Rattle.std.proofs.lemmas.List.Elements.{All-nil, All-cons}
use Rattle.std.proofs.lemmas.List.Sums.{sum_by-cons}
use Rattle.wjs_by_content.specs.Objects.{Arena}
use Rattle.wjs_meaning.specs.Trees.{Tree}
use Rattle.wjs_alone.specs.Alone.{Copy, Outcome, outcome_of, copy_after, objects_after}
use Rattle.wjs_alone.specs.Serial.{Run, End, runs_of, outcomes_of, Holds, NewOwn, run_at, outcomes_by, ObjectsGrow, IsSerial}
use Rattle.wjs_alone.specs.Laws.{SomeAreSerial}

holds_itself : (arena : Arena) → Holds arena arena
holds_itself arena o e at = at

none_is_new : (arena : Arena) → NewOwn arena arena
none_is_new arena o e w none at is = absurd (cc)

module _ (library : Option Tree) (parts : List Tree) (budget : ℕ) where
  abbrev run_of : ℕ → Arena → Run
  run_of k arena = record { activity = k; owner = k; objects = arena }

  abbrev end_of : ℕ → Copy → Arena → End
  end_of k copy arena = record { run = run_of k arena; outcome = outcome_of k (run_at library parts budget copy (run_of k arena)); tries = 1 }

  -- what there is behind it
  abbrev copy_then : ℕ → Copy → Arena → Copy
  copy_then k copy arena = copy_after k copy (run_at library parts budget copy (run_of k arena))

  abbrev arena_then : ℕ → Copy → Arena → Arena
  arena_then k copy arena = objects_after arena (run_at library parts budget copy (run_of k arena))

  -- so many activities, from this one on
  abbrev ends_from : ℕ → ℕ → Copy → Arena → List End
  ends_from zero k copy arena = []
  ends_from (suc more) k copy arena = end_of k copy arena ∷ ends_from more (suc k) (copy_then k copy arena) (arena_then k copy arena)

  -- those behind this one
  abbrev behind : ℕ → ℕ → Copy → Arena → List End
  behind more k copy arena = ends_from more (suc k) (copy_then k copy arena) (arena_then k copy arena)

  -- ---- how many have a number, be it the activity's or the owner's

  module _ (number : End → ℕ) (numbered : (k : ℕ) (copy : Copy) (arena : Arena) → number (end_of k copy arena) ≡ k) (j : ℕ) where
    abbrev count : List End → ℕ
    count ends = count_by (λ e. number e == j) ends

    one_more : (more k : ℕ) (copy : Copy) (arena : Arena) → count (ends_from (suc more) k copy arena) ≡ cond (k == j) 1 0 + count (behind more k copy arena)
    one_more more k copy arena =
        sum_by-cons (λ (e : End). cond (number e == j) 1 0) (end_of k copy arena) (behind more k copy arena)
        ∙ ap (λ n. cond (n == j) 1 0 + count (behind more k copy arena)) (numbered k copy arena)

    none_below : (more k : ℕ) (copy : Copy) (arena : Arena) → j < k → count (ends_from more k copy arena) ≡ 0
    none_below zero k copy arena less = refl
    none_below (suc more) k copy arena less =
        one_more more k copy arena ∙ ap₂ (λ b n. cond b 1 0 + n) (ne_eqb k j (λ same. omega arith)) (none_below more (suc k) (copy_then k copy arena) (arena_then k copy arena) (omega arith))

    first_or_not : (b : Bool) (k n : ℕ) → (k == j) ≡ b → (j < suc k → n ≡ 0) → n ≤ 1 → cond b 1 0 + n ≤ 1
    first_or_not true k n e none most =
        let at : k ≡ j = eqb-true k j e in
        let rest : n ≡ 0 = none (omega arith) in
        omega arith
    first_or_not false k n e none most = omega arith

    at_most_one : (more k : ℕ) (copy : Copy) (arena : Arena) → count (ends_from more k copy arena) ≤ 1
    at_most_one zero k copy arena = omega arith
    at_most_one (suc more) k copy arena =
        let none = none_below more (suc k) (copy_then k copy arena) (arena_then k copy arena) in
        let most = at_most_one more (suc k) (copy_then k copy arena) (arena_then k copy arena) in
        subst (λ n. n ≤ 1) (sym (one_more more k copy arena)) (first_or_not (k == j) k (count (behind more k copy arena)) refl none most)

    first_or_later : (b : Bool) (k more n : ℕ) → (k == j) ≡ b → k ≤ j → j < k + suc more → (j < suc k → n ≡ 0) → (suc k ≤ j → j < suc k + more → n ≡ 1) → cond b 1 0 + n ≡ 1
    first_or_later true k more n e from until none one =
        let at : k ≡ j = eqb-true k j e in
        let rest : n ≡ 0 = none (omega arith) in
        omega arith
    first_or_later false k more n e from until none one =
        let other : ¬ (k ≡ j) = eqb-false k j e in
        let rest : n ≡ 1 = one (omega arith) (omega arith) in
        omega arith

    just_one : (more k : ℕ) (copy : Copy) (arena : Arena) → k ≤ j → j < k + more → count (ends_from more k copy arena) ≡ 1
    just_one zero k copy arena from until = absurd (omega arith)
    just_one (suc more) k copy arena from until =
        let none = none_below more (suc k) (copy_then k copy arena) (arena_then k copy arena) in
        let one = just_one more (suc k) (copy_then k copy arena) (arena_then k copy arena) in
        one_more more k copy arena ∙ first_or_later (k == j) k more (count (behind more k copy arena)) refl from until none one

  -- ---- the clauses

  owners_differ : (more : ℕ) (copy : Copy) (arena : Arena) (q : ℕ) (b : Bool) → (q == 0) ≡ b → count_by (λ (e : End). e.run.owner == q) (ends_from more 1 copy arena) ≤ cond b 0 1
  owners_differ more copy arena q true e =
      let zeroth : q ≡ 0 = eqb-true q 0 e in
      let none : count_by (λ (e : End). e.run.owner == q) (ends_from more 1 copy arena) ≡ 0 = none_below (λ e. e.run.owner) (λ k m a. refl) q more 1 copy arena (omega arith) in
      omega arith
  owners_differ more copy arena q false e = at_most_one (λ e. e.run.owner) (λ k m a. refl) q more 1 copy arena

  module _ (n : ℕ) where
    abbrev InRange : End → Type 0
    InRange e = (1 ≤ e.run.activity) × (e.run.activity ≤ n)

    in_range : (more k : ℕ) (copy : Copy) (arena : Arena) → 1 ≤ k → k + more ≤ suc n → All InRange (ends_from more k copy arena)
    in_range zero k copy arena from until = All-nil InRange
    in_range (suc more) k copy arena from until =
        let rest = in_range more (suc k) (copy_then k copy arena) (arena_then k copy arena) (omega arith) (omega arith) in
        All-cons InRange (end_of k copy arena) (behind more k copy arena) (from, omega arith) rest

  abbrev InTries : End → Type 0
  InTries e = (1 ≤ e.tries) × (e.tries ≤ 4)

  tried_once : (more k : ℕ) (copy : Copy) (arena : Arena) → All InTries (ends_from more k copy arena)
  tried_once zero k copy arena = All-nil InTries
  tried_once (suc more) k copy arena =
      All-cons InTries (end_of k copy arena) (behind more k copy arena) (omega arith, omega arith) (tried_once more (suc k) (copy_then k copy arena) (arena_then k copy arena))

  objects_grow : (more k : ℕ) (copy : Copy) (arena : Arena) → ObjectsGrow library parts budget copy arena (runs_of (ends_from more k copy arena))
  objects_grow zero k copy arena = tt
  objects_grow (suc more) k copy arena = (holds_itself arena, none_is_new arena, objects_grow more (suc k) (copy_then k copy arena) (arena_then k copy arena))

  by_runs : (more k : ℕ) (copy : Copy) (arena : Arena) → outcomes_of (ends_from more k copy arena) ≡ outcomes_by library parts budget copy (runs_of (ends_from more k copy arena))
  by_runs zero k copy arena = refl
  by_runs (suc more) k copy arena =
      ap (λ (os : List Outcome). (end_of k copy arena).outcome ∷ os) (by_runs more (suc k) (copy_then k copy arena) (arena_then k copy arena))

  ascending : (copy : Copy) (arena : Arena) → IsSerial library parts budget copy arena (ends_from (length parts) 1 copy arena)
  ascending copy arena = record {
    each_once = λ k from until. just_one (λ e. e.run.activity) (λ i m a. refl) k (length parts) 1 copy arena from (omega arith);
    no_other = in_range (length parts) (length parts) 1 copy arena (omega arith) (omega arith);
    owners = λ q. owners_differ (length parts) copy arena q (q == 0) refl;
    tries = tried_once (length parts) 1 copy arena;
    objects = objects_grow (length parts) 1 copy arena;
    outcomes = by_runs (length parts) 1 copy arena;
  }

pub some_lem : SomeAreSerial
some_lem library parts budget copy arena = (ends_from library parts budget (length parts) 1 copy arena, ascending library parts budget copy arena)
