-- A play behind one turn of one activity.
use Rattle.std.proofs.Common.{◌≡◌, ℕ, ◌+◌, ◌≤◌, ◌==◌, true, false, cond, List, [], ◌∷◌, ◌++◌, Option, None, Some, refl, sym, ap, ◌∙◌, subst, arith}
use Rattle.std.specs.Prelude.{IfSome, map as each}
use Rattle.std.proofs.lemmas.Bool.{ne_eqb}
use Rattle.wjs_by_content.specs.Objects.{Arena}
use Rattle.wjs_meaning.specs.Trees.{Tree}
use Rattle.wjs_model.specs.Texts.{KnowsUnit}
use Rattle.wjs_model.specs.Units.{unit_in}
use Rattle.wjs_frames.proofs.Lists.{each_alike}
use Rattle.wjs_frames.proofs.NodesGrow.{unit_grows}
use Rattle.wjs_session.specs.Stores.{worlds_in}
use Rattle.wjs_alone.specs.Alone.{Copy}
use Rattle.wjs_alone.specs.Opening.{trees_of, tree_number}
use Rattle.wjs_alone.specs.Serial.{End}
use Rattle.wjs_tries.specs.declared.common.Common.{Common}
use Rattle.wjs_tries.specs.declared.common.Rested.{Rested}
use Rattle.wjs_activity.specs.declared.ends.Ended.{Ended}
use Rattle.wjs_activity.specs.declared.activities.Activity.{Activity}
use Rattle.wjs_activity.specs.declared.activities.Play.{Play}
use Rattle.wjs_tries.specs.Common.{IsCommon}
use Rattle.wjs_tries.specs.Passing.{Passes}
use Rattle.wjs_tries.specs.Resting.{IsResting}
use Rattle.wjs_activity.specs.SoFar.{TellsEnd, TellsEnds, times_ended, times_owned, GoesOn}
use Rattle.wjs_tries.proofs.Passed.{rests_still}
use Rattle.wjs_activity.proofs.Stepped.{count_push}

-- ---- ends

-- one end more is told
pub tells_push : (xs : List Ended) (es : List End) (x : Ended) (e : End) → TellsEnds xs es → TellsEnd x e → TellsEnds (xs ++ x ∷ []) (es ++ e ∷ [])
tells_push [] [] x e h k = (k, tt)
tells_push [] (f ∷ es) x e h k = absurd h
tells_push (y ∷ xs) [] x e h k = absurd h
tells_push (y ∷ xs) (f ∷ es) x e h k = (h.0, tells_push xs es x e h.1 k)

-- an activity that the end isn't of has ended as often as before
pub ended_as_before : (activity : ℕ) (es : List End) (e : End) → (e.run.activity == activity) ≡ false
    → times_ended activity (es ++ e ∷ []) ≡ times_ended activity es
ended_as_before activity es e apart =
    let count = count_push (λ (x : End). x.run.activity == activity) es e ∙ ap (λ b. times_ended activity es + cond b 1 0) apart in
    let all : times_ended activity (es ++ e ∷ []) ≡ times_ended activity es + 0 = count in
    omega (arith, all)

pub ended_once_more : (activity : ℕ) (es : List End) (e : End) → (e.run.activity == activity) ≡ true → times_ended activity es ≡ 0
    → times_ended activity (es ++ e ∷ []) ≡ 1
ended_once_more activity es e is none =
    let all : times_ended activity (es ++ e ∷ []) ≡ times_ended activity es + 1 = count_push (λ (x : End). x.run.activity == activity) es e
    ∙ ap (λ b. times_ended activity es + cond b 1 0) is in
    omega (arith, all, none)

owned_as_before : (q : ℕ) (es : List End) (e : End) → (e.run.owner == q) ≡ false → times_owned q (es ++ e ∷ []) ≡ times_owned q es
owned_as_before q es e apart =
    let all : times_owned q (es ++ e ∷ []) ≡ times_owned q es + 0 = count_push (λ (x : End). x.run.owner == q) es e
    ∙ ap (λ b. times_owned q es + cond b 1 0) apart in
    omega (arith, all)

-- ---- trees

-- the programs' trees are the same under the later table
pub trees_pass : (q : ℕ) (old new : Common) (drawn : ℕ) → IsCommon old.texts old.arena old.units.items (worlds_in old.shared) drawn → Passes q old new
    → each (unit_in new.texts) new.units.items ≡ each (unit_in old.texts) old.units.items
trees_pass q old new drawn known p =
    ap (λ us. each (unit_in new.texts) us.items) p.units
    ∙ each_alike (unit_in new.texts) (unit_in old.texts) (KnowsUnit old.texts) (unit_grows old.texts new.texts p.texts) old.units.items known.units_known

-- ---- an activity whose turn it wasn't

module _ (library : Option Tree) (parts : List Tree) (budget : ℕ) (copy : Copy) (arena : Arena) (p : Play) (ends : List End) (q : ℕ) (next : Common)
    (drawn' : ℕ) (more : p.drawn ≤ drawn')
    (passes : Passes q p.common next) (common : IsCommon next.texts next.arena next.units.items (worlds_in next.shared) drawn') (after : Play)
    (common_is : after.common ≡ next) (drawn_is : after.drawn ≡ drawn') where
  -- no end came
  pub other_goes_on : (activity : ℕ) (a : Activity) → ((r : Rested) → a.running ≡ Some r → ¬ (r.owner ≡ q))
      → GoesOn library parts budget copy arena p ends activity a → GoesOn library parts budget copy arena after ends activity a
  other_goes_on activity a apart g = record {
    none = g.none;
    few = g.few;
    rests = by a.running refl g.rests;
  }
    where
      by : (o : Option Rested) → a.running ≡ o → IfSome o (λ r. IsResting (trees_of library parts) (tree_number library activity) budget p.drawn p.common r
          × (times_owned r.owner ends ≡ 0))
          → IfSome o (λ r. IsResting (trees_of library parts) (tree_number library activity) budget after.drawn after.common r × (times_owned r.owner ends ≡ 0))
      by None e h = tt
      by (Some r) e h = (
        subst (λ d. IsResting (trees_of library parts) (tree_number library activity) budget d after.common r) (sym drawn_is) (
            subst (λ c. IsResting (trees_of library parts) (tree_number library activity) budget drawn' c r) (sym common_is) (
            rests_still (trees_of library parts) (tree_number library activity) budget p.drawn drawn' q p.common next r h.0 passes common more (apart r e))),
        h.1,
      )

  -- an end of the owner came, which isn't of this activity
  pub other_goes_on_behind : (activity : ℕ) (a : Activity) (e : End) → e.run.owner ≡ q → (e.run.activity == activity) ≡ false
      → ((r : Rested) → a.running ≡ Some r → ¬ (r.owner ≡ q)) → GoesOn library parts budget copy arena p ends activity a
      → GoesOn library parts budget copy arena after (ends ++ e ∷ []) activity a
  other_goes_on_behind activity a e owner number apart g =
      let stays = other_goes_on activity a apart g in
      record {
        none = ended_as_before activity ends e number ∙ stays.none;
        few = stays.few;
        rests = by a.running refl stays.rests;
      }
    where
      not_owner : (r : Rested) → ¬ (r.owner ≡ q) → (e.run.owner == r.owner) ≡ false
      not_owner r h = ne_eqb e.run.owner r.owner (λ k. h (sym k ∙ owner))

      by : (o : Option Rested) → a.running ≡ o → IfSome o (λ r. IsResting (trees_of library parts)
          (tree_number library activity) budget after.drawn after.common r × (times_owned r.owner ends ≡ 0))
          → IfSome o (λ r. IsResting (trees_of library parts) (tree_number library activity) budget after.drawn after.common r
          × (times_owned r.owner (ends ++ e ∷ []) ≡ 0))
      by None h k = tt
      by (Some r) h k = (k.0, owned_as_before r.owner ends e (not_owner r (apart r h)) ∙ k.1)
