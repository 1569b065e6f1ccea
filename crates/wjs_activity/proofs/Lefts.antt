-- The turns of the definition that are left to be taken, in the loops of the code.
use Rattle.std.proofs.Common.{◌≡◌, ℕ, zero, suc, ◌+◌, ◌≤◌, ◌<◌, ◌==◌, true, false, List, [], length, Option, refl, sym, ap, ◌∙◌, subst, arith}
use Rattle.std.specs.Prelude.{get_or, drop, map as each}
use Rattle.std.proofs.lemmas.List.{drop_more, drop_all}
use Rattle.wjs_meaning.specs.Trees.{Tree}
use Rattle.wjs_alone.specs.Serial.{End}
use Rattle.wjs_alone.specs.Playing as defined
use Rattle.wjs_alone.specs.Playing.{round, rounds}
use Rattle.wjs_alone.specs.Fronts.{Fronts}
use Rattle.wjs_alone.proofs.AllTurns.{turns_from, round_lem, turns_front, rounds_front}
use Rattle.wjs_activity.specs.declared.activities.Play.{Play}
use Rattle.wjs_activity.specs.declared.ends.PlayTurn.{PlayTurn as Scheduled}
use Rattle.wjs_activity.specs.Exactly.{IsExactly}
use Rattle.wjs_activity.specs.Plays.{turn_in}
use Rattle.wjs_activity.specs.Rounds.{at_place, by_turn, by_turns, by_round, by_rounds}
use Rattle.wjs_activity.proofs.Founds.{ascends, some_on, none_on}
use Rattle.wjs_activity.proofs.Rounded.{AllOver}

-- ---- the turns of the definition that are left

-- those of a schedule, from a place on
abbrev pub LeftOf : ℕ → List Scheduled → ℕ → Option Tree → List Tree → defined.Play → defined.Play → Type 0
LeftOf budget schedule i library parts d e = by_turns budget (each turn_in schedule) library parts d
    ≡ by_turns budget (each turn_in (drop i schedule)) library parts e

-- the one at a place
abbrev pub turn_of : List Scheduled → ℕ → Scheduled
turn_of schedule i = get_or schedule i (record { activity = 0; steps = 0 })

-- those of a round of so many activities, from a place on
pub record LeftIn (budget steps count place : ℕ) (library : Option Tree) (parts : List Tree) (d e : defined.Play) : Type 0 where
  pub left : ℕ
  pub sum : place + left ≡ count
  pub is : by_round budget steps library parts d ≡ by_turns budget (turns_from steps (place + 1) left) library parts e

-- rounds
abbrev pub LeftFor : ℕ → ℕ → ℕ → Option Tree → List Tree → defined.Play → defined.Play → Type 0
LeftFor budget steps k library parts d e = by_rounds budget steps library parts d ≡ rounds library parts budget k steps e

module _ (budget : ℕ) (library : Option Tree) (parts : List Tree) where
  -- ---- of a schedule

  module _ (schedule : List Scheduled) (i : ℕ) (inside : i < length schedule) (d e : defined.Play) (left : LeftOf budget schedule i library parts d e) where
    next_of : by_turns budget (each turn_in schedule) library parts d
        ≡ by_turns budget (each turn_in (drop (i + 1) schedule)) library parts (by_turn budget (turn_in (turn_of schedule i)) library parts e)
    next_of =
        left
        ∙ ap (λ (l : List Scheduled). by_turns budget (each turn_in l) library parts e) (drop_more schedule i (record { activity = 0; steps = 0 }) inside)

    pub left_of_next : (g : defined.Play) → by_turn budget (turn_in (turn_of schedule i)) library parts e ≡ g → LeftOf budget schedule (i + 1) library parts d g
    left_of_next g now = next_of ∙ ap (by_turns budget (each turn_in (drop (i + 1) schedule)) library parts) now

    pub front_of_next : (front : List ℕ) → Fronts front (by_turn budget (turn_in (turn_of schedule i)) library parts e)
        → Fronts front (by_turns budget (each turn_in schedule) library parts d)
    front_of_next front h = subst (Fronts front) (sym next_of)
        (turns_front library parts budget front (each turn_in (drop (i + 1) schedule)) (by_turn budget (turn_in (turn_of schedule i)) library parts e) h)

  pub left_of_none : (schedule : List Scheduled) (i : ℕ) → length schedule ≤ i → (d e : defined.Play) → LeftOf budget schedule i library parts d e
      → by_turns budget (each turn_in schedule) library parts d ≡ e
  left_of_none schedule i whole d e left = left ∙ ap (λ (l : List Scheduled). by_turns budget (each turn_in l) library parts e) (drop_all i schedule whole)

  -- ---- of a round

  pub left_in_first : (steps : ℕ) (p : Play) (ends : List End) (d : defined.Play) → IsExactly budget p ends d
      → LeftIn budget steps (length p.activities.items) 0 library parts d d
  left_in_first steps p ends d ex =
      let none : 0 + length p.activities.items ≡ length p.activities.items = omega arith in
      record {
        left = length p.activities.items;
        sum = none;
        is = round_lem library parts budget steps (length p.activities.items) d
            (ascends budget p ends d ex);
      }

  module _ (steps count place : ℕ) (inside : place < count) (d e : defined.Play) where
    some_in : (left : ℕ) → place + left ≡ count → (j : ℕ) × (left ≡ suc j)
    some_in zero sum = absurd (omega (arith, inside, sum))
    some_in (suc j) sum = (j, refl)

    next_in : (l : LeftIn budget steps count place library parts d e) → (j : ℕ) → l.left ≡ suc j
        → by_round budget steps library parts d ≡ by_turns budget (turns_from steps ((place + 1) + 1) j) library parts
        (by_turn budget (at_place place steps) library parts e)
    next_in l j some = l.is ∙ ap (λ n. by_turns budget (turns_from steps (place + 1) n) library parts e) some

    pub left_in_next : LeftIn budget steps count place library parts d e → (g : defined.Play) → by_turn budget (at_place place steps) library parts e ≡ g
        → LeftIn budget steps count (place + 1) library parts d g
    left_in_next l g now =
        let w = some_in l.left l.sum in
        let some = w.1 in
        let sum = l.sum in
        record {
          left = w.0;
          sum = omega (arith, some, sum);
          is = next_in l w.0 some ∙ ap (by_turns budget (turns_from steps ((place + 1) + 1) w.0) library parts) now;
        }

    pub front_in_next : LeftIn budget steps count place library parts d e → (front : List ℕ)
        → Fronts front (by_turn budget (at_place place steps) library parts e) → Fronts front (by_round budget steps library parts d)
    front_in_next l front h =
        let w = some_in l.left l.sum in
        subst (Fronts front) (sym (next_in l w.0 w.1)) (turns_front library parts budget front (turns_from steps ((place + 1) + 1) w.0)
        (by_turn budget (at_place place steps) library parts e) h)

  pub left_in_none : (steps count place : ℕ) → count ≤ place → (d e : defined.Play) → LeftIn budget steps count place library parts d e
      → by_round budget steps library parts d ≡ e
  left_in_none steps count place whole d e l =
      let sum = l.sum in
      let none : l.left ≡ 0 = omega (arith, sum, whole) in
      l.is ∙ ap (λ n. by_turns budget (turns_from steps (place + 1) n) library parts e) none

  -- ---- rounds

  module _ (steps : ℕ) (q : Play) (ends : List End) (e : defined.Play) (ex : IsExactly budget q ends e) (on : ¬ (AllOver q.activities.items)) (j : ℕ) where
    next_for : rounds library parts budget (suc j) steps e ≡ rounds library parts budget j steps (by_round budget steps library parts e)
    next_for = ap (λ b. elim b [ true ↦ e | false ↦ rounds library parts budget j steps (round library parts budget steps e) ]) (some_on budget q ends e ex on)

    pub left_for_next : (k : ℕ) → k ≡ suc j → (d g : defined.Play) → LeftFor budget steps k library parts d e → by_round budget steps library parts e ≡ g
        → LeftFor budget steps j library parts d g
    left_for_next k some d g left now = left ∙ ap (λ n. rounds library parts budget n steps e) some ∙ next_for ∙ ap (rounds library parts budget j steps) now

    pub front_for_next : (k : ℕ) → k ≡ suc j → (d : defined.Play) → LeftFor budget steps k library parts d e → (front : List ℕ)
        → Fronts front (by_round budget steps library parts e) → Fronts front (by_rounds budget steps library parts d)
    front_for_next k some d left front h =
        subst (Fronts front) (sym (left ∙ ap (λ n. rounds library parts budget n steps e) some ∙ next_for))
        (rounds_front library parts budget front j steps (by_round budget steps library parts e) h)

  rounds_over : (k steps : ℕ) (e : defined.Play) → e.activities ≡ [] → rounds library parts budget k steps e ≡ e
  rounds_over zero steps e none = refl
  rounds_over (suc k) steps e none = ap (λ (l : List defined.Activity). elim
      (length l == 0) [ true ↦ e | false ↦ rounds library parts budget k steps (round library parts budget steps e) ]) none

  pub left_for_none : (k steps : ℕ) (q : Play) (ends : List End) (d e : defined.Play) → IsExactly budget q ends e → AllOver q.activities.items
      → LeftFor budget steps k library parts d e → by_rounds budget steps library parts d ≡ e
  left_for_none k steps q ends d e ex over left = left ∙ rounds_over k steps e (none_on budget q ends e ex over)
