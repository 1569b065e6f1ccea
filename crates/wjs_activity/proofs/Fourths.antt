-- A turn at a place, with the fourth try where it is due, is a turn of the definition.
use Rattle.std.proofs.Common.{◌≡◌, ℕ, ◌+◌, ◌≤◌, ◌<◌, ◌==◌, ◌⊎◌, inl, inr, Bool, true, false, cond, not, ◌&&◌, List, [], ◌∷◌, ◌++◌, Option, None, Some, refl}
use Rattle.std.proofs.Common.{sym, ap, ◌∙◌, subst, arith, append-nil}
use Rattle.std.specs.Prelude.{min, max, slice_get, map as each, filter}
use Rattle.std.specs.Option.{option_map_or}
use Rattle.std.proofs.lemmas.Bool.{false≢true, eq-eqb, eqb-true}
use Rattle.std.proofs.lemmas.Option.{same_Some}
use Rattle.wjs_store.specs.State.{World}
use Rattle.wjs_by_content.specs.Names.{content}
use Rattle.wjs_meaning.specs.Trees.{Tree}
use Rattle.wjs_meaning.specs.Deeds.{St}
use Rattle.wjs_meaning.specs.Programs.{Ending}
use Rattle.wjs_alone.specs.Alone.{alone}
use Rattle.wjs_alone.specs.Opening.{trees_of, tree_number}
use Rattle.wjs_alone.specs.Marks.{marked, own_view, agrees}
use Rattle.wjs_alone.specs.Serial.{End}
use Rattle.wjs_alone.specs.Fronts.{Fronts}
use Rattle.wjs_alone.specs.Playing as defined
use Rattle.wjs_alone.specs.Playing.{activity_in, goes_on, ends_with, rests_with, drops, is_resting, try_of, turn_of_try, next_try, turn}
use Rattle.wjs_activity.specs.declared.activities.Activity.{Activity}
use Rattle.wjs_activity.specs.declared.activities.Play.{Play}
use Rattle.wjs_activity.specs.Exactly.{Makes, Leaves, TurnIs}
use Rattle.wjs_activity.specs.Rounds.{last_is_due, MayTurn, at_place, TurnPrints}

-- ---- activities by number

abbrev replaced : defined.Activity → List defined.Activity → List defined.Activity
replaced a acts = each (λ (b : defined.Activity). cond (b.number == a.number) a b) acts

abbrev without : ℕ → List defined.Activity → List defined.Activity
without m acts = filter (λ (b : defined.Activity). not (b.number == m)) acts

found_number : (acts : List defined.Activity) (m : ℕ) (b : defined.Activity) → activity_in acts m ≡ Some b → b.number ≡ m
found_number [] m b e = let h : None ≡ Some b = e in absurd (cc)
found_number (x ∷ acts) m b e = by (x.number == m) refl (found_number acts m b) e
  where
    by : (c : Bool) → (x.number == m) ≡ c → (activity_in acts m ≡ Some b → b.number ≡ m) → cond c (Some x) (activity_in acts m) ≡ Some b → b.number ≡ m
    by true q rest e = ap (λ (y : defined.Activity). y.number) (sym (same_Some x b e)) ∙ eqb-true x.number m q
    by false q rest e = rest e

-- what was put there is found
left_found : (acts : List defined.Activity) (a w : defined.Activity) (m : ℕ) → a.number ≡ m → activity_in (replaced a acts) m ≡ Some w → w ≡ a
left_found [] a w m h e = let none : None ≡ Some w = e in absurd (cc)
left_found (x ∷ acts) a w m h e = by (x.number == a.number) refl (left_found acts a w m h) e
  where
    by : (c : Bool) → (x.number == a.number) ≡ c → (activity_in (replaced a acts) m ≡ Some w → w ≡ a) → activity_in (cond c a x ∷ replaced a acts) m ≡ Some w
        → w ≡ a
    by true q rest e = sym (same_Some a w (sym (ap (λ c. cond c (Some a) (activity_in (replaced a acts) m)) (eq-eqb a.number m h)) ∙ e))
    by false q rest e = rest (sym (ap (λ c. cond c (Some x) (activity_in (replaced a acts) m)) (ap (λ k. x.number == k) (sym h) ∙ q)) ∙ e)

-- two that go on by one number are the second one
head_twice : (x a a' : defined.Activity) → a'.number ≡ a.number
    → cond ((cond (x.number == a.number) a x).number == a'.number) a' (cond (x.number == a.number) a x) ≡ cond (x.number == a'.number) a' x
head_twice x a a' h = by (x.number == a.number) refl
  where
    by : (c : Bool) → (x.number == a.number) ≡ c → cond ((cond c a x).number == a'.number) a' (cond c a x) ≡ cond (x.number == a'.number) a' x
    by true q = ap (λ c. cond c a' a) (eq-eqb a.number a'.number (sym h)) ∙ sym (ap (λ c. cond c a' x) (ap (λ k. x.number == k) h ∙ q))
    by false q = refl

each_twice : (acts : List defined.Activity) (a a' : defined.Activity) → a'.number ≡ a.number → replaced a' (replaced a acts) ≡ replaced a' acts
each_twice [] a a' h = refl
each_twice (x ∷ acts) a a' h = λ i. head_twice x a a' h i ∷ each_twice acts a a' h i

filter_twice : (acts : List defined.Activity) (a : defined.Activity) → without a.number (replaced a acts) ≡ without a.number acts
filter_twice [] a = refl
filter_twice (x ∷ acts) a = by (x.number == a.number) refl (filter_twice acts a)
  where
    by : (c : Bool) → (x.number == a.number) ≡ c → without a.number (replaced a acts) ≡ without a.number acts
        → without a.number (cond c a x ∷ replaced a acts) ≡ without a.number (x ∷ acts)
    by true q rest =
        ap (λ c. cond (not c) (a ∷ without a.number (replaced a acts)) (without a.number (replaced a acts))) (eq-eqb a.number a.number refl)
        ∙ rest
        ∙ sym (ap (λ c. cond (not c) (x ∷ without a.number acts) (without a.number acts)) q)
    by false q rest = ap (λ (l : List defined.Activity). cond (not (x.number == a.number)) (x ∷ l) l) rest

-- ---- a turn of an activity, in a play where it goes on already

module _ (library : Option Tree) (parts : List Tree) (budget : ℕ) (a : defined.Activity) (s : defined.Play) where
  abbrev t : defined.Try
  t = try_of a s

  abbrev n : ℕ
  n = min budget (t.taken + budget)

  abbrev run : Ending × St
  run = alone (trees_of library parts) (tree_number library a.number) t.owner (own_view t.outer s.copy) s.objects n

  abbrev outer : World content
  outer = marked t.owner (own_view t.outer s.copy) (run.1).done

  abbrev with_run : defined.Play
  with_run = record s { owners = max s.owners t.owner }

  goes_same : (a' : defined.Activity) → a'.number ≡ a.number → goes_on a' with_run ≡ goes_on a' (goes_on a with_run)
  goes_same a' h = λ i. record with_run { activities = sym (each_twice s.activities a a' h) i }

  ends_same : ends_with a t.owner run with_run ≡ ends_with a t.owner run (goes_on a with_run)
  ends_same = λ i. record (ends_with a t.owner run with_run) { activities = sym (filter_twice s.activities a) i }

  -- a try that is dropped once more is put there, too
  fourth_same : turn_of_try library parts budget goes_on budget a (try_of a s) s
      ≡ turn_of_try library parts budget goes_on budget a (try_of a (goes_on a s)) (goes_on a s)
  fourth_same = by (is_resting library parts budget n run.0) (agrees outer s.copy)
    where
      by : (e g : Bool) → ◌≡◌ {A = defined.Play} (elim e [
        | true ↦ goes_on (rests_with a t.owner n outer) with_run
        | false ↦ elim g [ true ↦ ends_with a t.owner run with_run | false ↦ goes_on (drops a) with_run ]
      ]) (elim e [
        | true ↦ goes_on (rests_with a t.owner n outer) (goes_on a with_run)
        | false ↦ elim g [ true ↦ ends_with a t.owner run (goes_on a with_run) | false ↦ goes_on (drops a) (goes_on a with_run) ]
      ])
      by true g = goes_same (rests_with a t.owner n outer) refl
      by false true = ends_same
      by false false = goes_same (drops a) refl

-- ---- the turn

-- of an activity that is there
pub turn_there : (library : Option Tree) (parts : List Tree) (budget : ℕ) (d : defined.Play) (t : defined.PlayTurn) (was : defined.Activity)
    → activity_in d.activities t.activity ≡ Some was
    → turn library parts budget d t ≡ turn_of_try library parts budget (next_try library parts budget) t.steps was (try_of was d) d
turn_there library parts budget d t was there = ap (λ (o : Option defined.Activity). option_map_or
    (λ a. turn_of_try library parts budget (next_try library parts budget) t.steps a (try_of a d) d) o d) there

module _ (library : Option Tree) (parts : List Tree) (budget steps place : ℕ) (d : defined.Play) (mid : Play) (ends : List End) (output : List ℕ)
    (one : TurnIs library parts budget steps place d mid ends output) where
  -- what is printed for it comes first, whatever follows
  pub turn_prints : TurnPrints library parts budget place steps d output
  turn_prints was there go keeps =
      let same : one.was ≡ was = same_Some one.was was (sym one.there ∙ there) in
      subst (λ (a : defined.Activity). Fronts (d.out ++ output) (turn_of_try library parts budget go steps a (try_of a d) d)) same (by one.turn)
    where
      by : Makes library parts budget steps place one.was d mid one.now ⊎ Leaves library parts budget steps place one.was d mid one.now
          → Fronts (d.out ++ output) (turn_of_try library parts budget go steps one.was (try_of one.was d) d)
      by (inl m) = subst (Fronts (d.out ++ output)) (sym (m.turn go)) ([], one.out ∙ sym (append-nil (d.out ++ output)))
      by (inr l) =
          let out : (l.made).out ≡ d.out ++ output = ap (λ (p : defined.Play). p.out) (sym l.now_is) ∙ one.out in
          subst (Fronts (d.out ++ output)) (sym (l.turn go)) (keeps (d.out ++ output) l.left l.made ([], out ∙ sym (append-nil (d.out ++ output))))

  module _ (x : Activity) (at : slice_get mid.activities.items place ≡ Some x) where
    by_try : turn library parts budget d (at_place place steps)
        ≡ turn_of_try library parts budget (next_try library parts budget) steps one.was (try_of one.was d) d
    by_try = turn_there library parts budget d (at_place place steps) one.was one.there

    -- what follows a try that is dropped, by how many were
    next_is : (a : defined.Activity) (m : defined.Play) (b : Bool) → (a.dropped == 3) ≡ b
        → next_try library parts budget a m ≡ elim b [ true ↦ turn_of_try library parts budget goes_on budget a (try_of a m) m | false ↦ goes_on a m ]
    next_is a m b e = ap (λ c. elim c [ true ↦ turn_of_try library parts budget goes_on budget a (try_of a m) m | false ↦ goes_on a m ]) e

    -- ---- the fourth try isn't due

    pub turn_alone : last_is_due x ≡ false → turn library parts budget d (at_place place steps) ≡ one.now
    turn_alone not_due = by_try ∙ by one.turn
      where
        by : Makes library parts budget steps place one.was d mid one.now ⊎ Leaves library parts budget steps place one.was d mid one.now
            → turn_of_try library parts budget (next_try library parts budget) steps one.was (try_of one.was d) d ≡ one.now
        by (inl m) = m.turn (next_try library parts budget)
        by (inr l) =
            let stands = l.at x at in
            let few : (l.left.dropped == 3) ≡ false = ap (λ k. k == 3) stands.1 ∙ sym (ap (λ b. not b && (x.dropped == 3)) stands.0) ∙ not_due in
            l.turn (next_try library parts budget) ∙ next_is l.left l.made false few ∙ sym l.now_is

    -- ---- it is due

    module _ (due : last_is_due x ≡ true) (may : MayTurn budget budget x) where
      three : (x.dropped == 3) ≡ true
      three = ap (λ b. not b && (x.dropped == 3)) (sym may.0) ∙ due

      -- the turn is that of the fourth try, in the play where the activity goes on already
      pub turn_of_fourth : (w : defined.Activity) → activity_in one.now.activities (place + 1) ≡ Some w
          → turn library parts budget d (at_place place steps) ≡ turn_of_try library parts budget goes_on budget w (try_of w one.now) one.now
      turn_of_fourth w found = by_try ∙ by one.turn
        where
          none_rests : x.running ≡ None
          none_rests = which may.1
            where
              which : (x.dropped < 3) ⊎ ((x.running ≡ None) × (budget ≤ budget)) → x.running ≡ None
              which (inl lt) = let is = eqb-true x.dropped 3 three in absurd (omega (arith, is, lt))
              which (inr h) = h.0

          not_made : (x.ended ≡ true) ⊎ ¬ (x.running ≡ None) → ⊥
          not_made (inl over) = false≢true (sym may.0 ∙ over)
          not_made (inr rests) = rests none_rests

          by : Makes library parts budget steps place one.was d mid one.now ⊎ Leaves library parts budget steps place one.was d mid one.now
              → turn_of_try library parts budget (next_try library parts budget) steps one.was (try_of one.was d) d
              ≡ turn_of_try library parts budget goes_on budget w (try_of w one.now) one.now
          by (inl m) = absurd (not_made (m.at x at))
          by (inr l) =
              let stands = l.at x at in
              let number : l.left.number ≡ place + 1 = l.number ∙ found_number d.activities (place + 1) one.was one.there in
              let there : activity_in (goes_on l.left l.made).activities (place + 1)
              ≡ Some w = ap (λ (p : defined.Play). activity_in p.activities (place + 1)) (sym l.now_is) ∙ found in
              let same : l.left ≡ w = sym (left_found (l.made).activities l.left w (place + 1) number there) in
              let now_is : goes_on l.left l.made ≡ one.now = sym l.now_is in
              l.turn (next_try library parts budget)
              ∙ next_is l.left l.made true (ap (λ k. k == 3) stands.1 ∙ three)
              ∙ fourth_same library parts budget l.left l.made
              ∙ (λ i. turn_of_try library parts budget goes_on budget (same i) (try_of (same i) (now_is i)) (now_is i))

      -- where it was taken: a try that is dropped once more is put there
      pub turn_twice : (new : Play) (ends' : List End) (output' : List ℕ) (two : TurnIs library parts budget budget place one.now new ends' output')
          → turn library parts budget d (at_place place steps) ≡ two.now
      turn_twice new ends' output' two = turn_of_fourth two.was two.there ∙ by two.turn
        where
          by : Makes library parts budget budget place two.was one.now new two.now ⊎ Leaves library parts budget budget place two.was one.now new two.now
              → turn_of_try library parts budget goes_on budget two.was (try_of two.was one.now) one.now ≡ two.now
          by (inl m) = m.turn goes_on
          by (inr l) = l.turn goes_on ∙ sym l.now_is
