-- What one turn makes of a play is what the definition makes of it.
use Rattle.std.proofs.Common.{◌≡◌, ℕ, ◌+◌, ◌==◌, true, false, cond, not, List, [], ◌∷◌, ◌++◌, set, Some, refl, sym, ap, ◌∙◌, subst, arith}
use Rattle.std.specs.Prelude.{max, slice_get, map as each, filter}
use Rattle.wjs_by_content.specs.Objects.{Arena}
use Rattle.wjs_by_content.specs.Tables.{arena_in}
use Rattle.wjs_meaning.specs.Deeds.{St}
use Rattle.wjs_meaning.specs.Programs.{Ending}
use Rattle.wjs_alone.specs.Alone.{copy_after, objects_after}
use Rattle.wjs_alone.specs.Serial.{End}
use Rattle.wjs_alone.specs.Playing as defined
use Rattle.wjs_alone.specs.Playing.{goes_on, ends_with, end_of}
use Rattle.wjs_tries.specs.declared.common.Common.{Common}
use Rattle.wjs_activity.specs.declared.activities.Activity.{Activity}
use Rattle.wjs_activity.specs.declared.activities.Play.{Play}
use Rattle.wjs_tries.specs.Turning.{first_in}
use Rattle.wjs_activity.specs.Exactly.{IsRunning, IsActivity, IsAt, Stands, Shows, IsExactly}
use Rattle.wjs_activity.proofs.Places.{set_other, set_there}
use Rattle.wjs_activity.proofs.Showing.{replaced, left_out}

module _ (budget : ℕ) (p : Play) (ends : List End) (s : defined.Play) (is : IsExactly budget p ends s) (place : ℕ) (a : Activity)
    (at : slice_get p.activities.items place ≡ Some a) (alive : a.ended ≡ false) (b : defined.Activity) (r : IsActivity budget p.common (place + 1) a b)
    (owner q : ℕ) (owner_is : owner ≡ q) (next : Common) (after : Play) (common_is : after.common ≡ next) (drawn_is : after.drawn ≡ max p.drawn q)
    (now : Activity) (items_is : after.activities.items ≡ set p.activities.items place now)
    (others : (j : ℕ) (y : Activity) (z : defined.Activity) → ¬ (j ≡ place + 1) → Stands budget p.common p.activities.items j y z
    → IsActivity budget next j y z)
    (run : Ending × St) where
  -- the play with its owner drawn
  abbrev pub along : defined.Play
  along = record s { owners = max s.owners owner }

  owners_now : max s.owners owner ≡ after.drawn
  owners_now = (λ j. max (is.owners j) (owner_is j)) ∙ sym drawn_is

  objects_now : (objects : Arena) → objects ≡ arena_in next.texts next.arena → objects ≡ arena_in after.common.texts after.common.arena
  objects_now objects same = same ∙ (λ j. arena_in (sym common_is j).texts (sym common_is j).arena)

  numbers : (k : ℕ) (y : Activity) (z : defined.Activity) → Stands budget p.common p.activities.items k y z → z.number ≡ k
  numbers k y z h = (h.0).number

  -- the others stand where they stood
  others_now : (j : ℕ) (y : Activity) (z : defined.Activity) → ¬ (j ≡ place + 1) → Stands budget p.common p.activities.items j y z
      → Stands budget after.common after.activities.items j y z
  others_now j y z away h =
      let i = (h.1).0 in
      let number : j ≡ i + 1 = (h.1).1 in
      let apart : ¬ (i ≡ place) = λ e. away (omega (arith, number, e)) in
      let at_now : IsAt after.activities.items j y = (i, number, ap (λ l. slice_get l i) items_is ∙ set_other p.activities.items place i now apart ∙ (h.1).2) in
      (subst (λ c. IsActivity budget c j y z) (sym common_is) (others j y z away h), at_now)

  here : IsAt after.activities.items (place + 1) now
  here = (place, refl, ap (λ l. slice_get l place) items_is ∙ set_there p.activities.items place a now at)

  sum : 1 + place ≡ place + 1
  sum = omega arith

  -- ---- the activity goes on

  module _ (a' : defined.Activity) (number : a'.number ≡ place + 1) (on : now.ended ≡ false) (dropped : a'.dropped ≡ now.dropped)
      (running : IsRunning budget next now.running a'.running) (same : first_in next ≡ first_in p.common)
      (objects : s.objects ≡ arena_in next.texts next.arena) where
    stands : Stands budget after.common after.activities.items (place + 1) now a'
    stands = (record { number = number; dropped = dropped; running = subst (λ c. IsRunning budget c now.running a'.running) (sym common_is) running }, here)

    pub goes_on_exactly : IsExactly budget after ends (goes_on a' (record s { owners = max s.owners owner }))
    goes_on_exactly = record {
      copy = is.copy ∙ sym same ∙ ap first_in (sym common_is);
      objects = objects_now s.objects objects;
      owners = owners_now;
      ends_are = is.ends_are;
      activities =
          subst (λ l. Shows (Stands budget after.common after.activities.items) 1 l
          (each (λ (x : defined.Activity). cond (x.number == a'.number) a' x) s.activities)) (sym items_is) (
          subst (λ m. Shows (Stands budget after.common after.activities.items) 1 (set p.activities.items place now)
          (each (λ (x : defined.Activity). cond (x.number == m) a' x) s.activities)) (sym number) (
          replaced (Stands budget p.common p.activities.items) (Stands budget after.common after.activities.items) numbers
          (place + 1) others_now 1 place p.activities.items s.activities a now a' sum is.activities at alive on stands));
    }

  -- ---- it has ended

  module _ (over : now.ended ≡ true) (leaves : first_in next ≡ copy_after owner s.copy run)
      (objects : objects_after s.objects run ≡ arena_in next.texts next.arena) where
    pub ends_exactly : IsExactly budget after (ends ++ end_of b owner s.objects run ∷ [])
        (ends_with b owner run (record s { owners = max s.owners owner }))
    ends_exactly = record {
      copy = sym leaves ∙ ap first_in (sym common_is);
      objects = objects_now (objects_after s.objects run) objects;
      owners = owners_now;
      ends_are = ap (λ (es : List End). es ++ end_of b owner s.objects run ∷ []) is.ends_are;
      activities =
          subst (λ l. Shows (Stands budget after.common after.activities.items) 1 l
          (filter (λ (x : defined.Activity). not (x.number == b.number)) s.activities)) (sym items_is) (
          subst (λ m. Shows (Stands budget after.common after.activities.items) 1 (set p.activities.items place now)
          (filter (λ (x : defined.Activity). not (x.number == m)) s.activities)) (sym r.number) (
          left_out (Stands budget p.common p.activities.items) (Stands budget after.common after.activities.items) numbers
          (place + 1) others_now 1 place p.activities.items s.activities a now sum is.activities at alive over));
    }
