-- The definition's activity of a place, and its turn.
use Rattle.std.proofs.Common.{◌≡◌, ℕ, ◌+◌, ◌<◌, ◌==◌, ◌⊎◌, inl, inr, true, false, List, [], length, Option, None, Some, subst, arith}
use Rattle.std.specs.Prelude.{slice_get}
use Rattle.wjs_meaning.specs.Trees.{Tree}
use Rattle.wjs_alone.specs.Serial.{End}
use Rattle.wjs_alone.specs.Playing as defined
use Rattle.wjs_alone.specs.Playing.{activity_in, turn}
use Rattle.wjs_alone.proofs.AllTurns.{Ascends}
use Rattle.wjs_alone.proofs.Order.{left_lem}
use Rattle.wjs_activity.specs.declared.activities.Activity.{Activity}
use Rattle.wjs_activity.specs.declared.activities.Play.{Play}
use Rattle.wjs_activity.specs.Exactly.{Stands, IsExactly}
use Rattle.wjs_activity.specs.Rounds.{at_place}
use Rattle.wjs_activity.proofs.Showing.{Found, found, none_below, none_above, none_ended, shows_some, shows_none, shows_ascends}

module _ (budget : ℕ) (p : Play) (ends : List End) (d : defined.Play) (ex : IsExactly budget p ends d) where
  abbrev At : ℕ → Activity → defined.Activity → Type 0
  At = Stands budget p.common p.activities.items

  numbers : (k : ℕ) (a : Activity) (b : defined.Activity) → At k a b → b.number ≡ k
  numbers k a b h = (h.0).number

  pub stands_at : (place : ℕ) (a : Activity) → slice_get p.activities.items place ≡ Some a → a.ended ≡ false → Found At (place + 1) a d.activities
  stands_at place a at on =
      let sum : 1 + place ≡ place + 1 = omega arith in
      subst (λ j. Found At j a d.activities) sum (found At numbers 1 place p.activities.items d.activities a ex.activities at on)

  module _ (library : Option Tree) (parts : List Tree) where
    -- it takes no turn where it has ended
    pub ended_turn : (place steps : ℕ) (a : Activity) → slice_get p.activities.items place ≡ Some a → a.ended ≡ true
        → turn library parts budget d (at_place place steps) ≡ d
    ended_turn place steps a at over =
        let sum : 1 + place ≡ place + 1 = omega arith in
        left_lem library parts budget d (at_place place steps)
        (subst (λ j. activity_in d.activities j ≡ None) sum (none_ended At numbers 1 place p.activities.items d.activities a ex.activities at over))

    -- nor where there is none
    pub none_turn : (t : defined.PlayTurn) → (t.activity ≡ 0) ⊎ (length p.activities.items < t.activity) → turn library parts budget d t ≡ d
    none_turn t (inl zero_is) = left_lem library parts budget d t
        (none_below At numbers 1 t.activity p.activities.items d.activities ex.activities (omega (arith, zero_is)))
    none_turn t (inr far) = left_lem library parts budget d t
        (none_above At numbers 1 t.activity p.activities.items d.activities ex.activities (omega (arith, far)))

  pub ascends : Ascends 1 (length p.activities.items) d.activities
  ascends = shows_ascends At numbers 1 p.activities.items d.activities ex.activities

  pub some_on : ¬ ((i : ℕ) (a : Activity) → slice_get p.activities.items i ≡ Some a → a.ended ≡ true) → (length d.activities == 0) ≡ false
  some_on = shows_some At 1 p.activities.items d.activities ex.activities

  pub none_on : ((i : ℕ) (a : Activity) → slice_get p.activities.items i ≡ Some a → a.ended ≡ true) → d.activities ≡ []
  none_on = shows_none At 1 p.activities.items d.activities ex.activities
