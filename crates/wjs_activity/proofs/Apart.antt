-- Tries that rest are kept apart from each other: at the begin of a turn, and behind it.
use Rattle.std.proofs.Common.{◌≡◌, ℕ, zero, suc, ◌+◌, ◌≤◌, ◌<◌, ◌==◌, ◌||◌, Bool, true, false, List, [], ◌∷◌, length, set, Option, None, Some, refl, sym, ap}
use Rattle.std.proofs.Common.{◌∙◌, subst, arith, length-set, IsTrue}
use Rattle.std.specs.Prelude.{IfSome, slice_get}
use Rattle.std.specs.FinMap as map
use Rattle.std.proofs.lemmas.Bool.{eqb-true, eq-eqb, or_right}
use Rattle.std.proofs.lemmas.Option.{same_Some, slice_get_within}
use Rattle.wjs_base.specs.declared.ids.ObjId.{ObjId}
use Rattle.wjs_base.proofs.Lists.{get_there}
use Rattle.wjs_store.specs.Meaning.{Meaning, View}
use Rattle.wjs_arena.specs.Entries.{Entry}
use Rattle.wjs_by_content.specs.Objects.{Arena}
use Rattle.wjs_meaning.specs.Trees.{Tree}
use Rattle.wjs_model.specs.declared.config.Config.{Config}
use Rattle.wjs_model.specs.Apart.{is_apart}
use Rattle.wjs_model.specs.Others.{Other, OtherNamed, KeptApart}
use Rattle.wjs_model.specs.Soundness.{Sound}
use Rattle.wjs_model.proofs.Others.{sound_listed}
use Rattle.wjs_session.specs.declared.session.Session.{Session}
use Rattle.wjs_session.specs.Session.{first_copy}
use Rattle.wjs_session.specs.Stores.{worlds_in}
use Rattle.wjs_session.specs.Returns.{Returns}
use Rattle.wjs_alone.specs.Alone.{Copy}
use Rattle.wjs_alone.specs.Opening.{trees_of, tree_number}
use Rattle.wjs_alone.specs.Serial.{End}
use Rattle.wjs_tries.specs.declared.common.Common.{Common}
use Rattle.wjs_tries.specs.declared.common.Rested.{Rested}
use Rattle.wjs_activity.specs.declared.activities.Activity.{Activity}
use Rattle.wjs_activity.specs.declared.activities.Play.{Play}
use Rattle.wjs_tries.specs.declared.turns.Came.{Came}
use Rattle.wjs_tries.specs.declared.turns.Came.TheVariants as came
use Rattle.wjs_tries.specs.Common.{IsCommon}
use Rattle.wjs_tries.specs.Hiding.{no_owner, IsHidden, Unaware, MayList}
use Rattle.wjs_activity.specs.Listing.{entry_of, KeepsApart}
use Rattle.wjs_tries.specs.Meant.{itself, Listed, resting}
use Rattle.wjs_tries.specs.Passing.{Passes}
use Rattle.wjs_tries.specs.Resting.{IsResting}
use Rattle.wjs_activity.specs.SoFar.{times_owned, StandsBy, IsPlay}
use Rattle.wjs_tries.specs.Turning.{HiddenIn, TurnsApart}
use Rattle.wjs_tries.proofs.NotYet.{hidden_yet, unaware_yet, none_later, neither}
use Rattle.wjs_tries.proofs.Passed.{returns}
use Rattle.wjs_activity.proofs.Places.{set_other, set_there}
use Rattle.wjs_activity.proofs.Standing.{by_place}
use Rattle.wjs_activity.proofs.Standing as standing
use Rattle.wjs_tries.proofs.Unawares.{unaware_still, kept_resting}

-- ---- lists

-- who is listed has an entry, and who has one is listed
first_or_later : (x u : ℕ) (us : List ℕ) (b : Bool) → (x == u) ≡ b → IsTrue (is_apart (x ∷ us) u)
    → (IsTrue (is_apart us u) → (j : ℕ) × (slice_get us j ≡ Some u)) → (j : ℕ) × (slice_get (x ∷ us) j ≡ Some u)
first_or_later x u us true e h later = (0, ap Some (eqb-true x u e))
first_or_later x u us false e h later = let at = later (sym (ap (λ b. b || is_apart us u) e) ∙ h) in (suc at.0, at.1)

entry_at : (us : List ℕ) (u : ℕ) → IsTrue (is_apart us u) → (j : ℕ) × (slice_get us j ≡ Some u)
entry_at [] u h = absurd (cc)
entry_at (x ∷ us) u h = first_or_later x u us (x == u) refl h (λ k. entry_at us u k)

listed_at : (us : List ℕ) (u j : ℕ) → slice_get us j ≡ Some u → IsTrue (is_apart us u)
listed_at [] u j at = let none : None ≡ Some u = at in absurd (cc)
listed_at (x ∷ us) u zero at = ap (λ b. b || is_apart us u) (eq-eqb x u (same_Some x u at))
listed_at (x ∷ us) u (suc j) at = or_right (x == u) (is_apart us u) (listed_at us u j at)

-- ---- a play between turns

module _ (library : Option Tree) (parts : List Tree) (budget : ℕ) (copy : Copy) (arena : Arena) (p : Play) (ends : List End)
    (is : IsPlay library parts budget copy arena p ends) where
  abbrev list : List ℕ
  list = p.common.apart.items

  -- a try that rests does so as it is told
  pub rests_at : (i : ℕ) (b : Activity) (r : Rested) → slice_get p.activities.items i ≡ Some b → b.running ≡ Some r
      → IsResting (trees_of library parts) (tree_number library (i + 1)) budget p.drawn p.common r
  rests_at i b r found running = by b.ended (is.activities i b found)
    where
      by : (e : Bool) → StandsBy library parts budget copy arena e p ends (i + 1) b
          → IsResting (trees_of library parts) (tree_number library (i + 1)) budget p.drawn p.common r
      by true h = let none : None ≡ Some r = sym h.1 ∙ running in absurd (cc)
      by false h = (subst (λ (o : Option Rested). IfSome o (λ x. IsResting (trees_of library parts) (tree_number library (i + 1)) budget p.drawn p.common x
          × (times_owned x.owner ends ≡ 0))) running h.rests).0

  -- an entry is of no owner, or the owner of a try that rests
  by_entry : (u j : ℕ) → slice_get list j ≡ Some u → (X : Type 0) → (u ≡ no_owner → X)
      → ((b : Activity) (s : Rested) → slice_get p.activities.items j ≡ Some b → b.running ≡ Some s → u ≡ s.owner → X) → X
  by_entry u j at X none some =
      let lt : j < length list = slice_get_within list j u at in
      let long : length list ≡ length p.activities.items = is.apart.long in
      let b = get_there p.activities.items j (omega (arith, lt, long)) in
      by b.0 b.1 (b.0).running refl (same_Some u (entry_of (b.0).running) (sym at ∙ is.apart.lists j b.0 b.1))
    where
      by : (b : Activity) → slice_get p.activities.items j ≡ Some b → (o : Option Rested) → b.running ≡ o → u ≡ entry_of b.running → X
      by b found None e same = none (same ∙ ap entry_of e)
      by b found (Some s) e same = some b s found e (same ∙ ap entry_of e)

  -- nothing names an object of no owner
  never : p.drawn < no_owner
  never = is.apart.few

  never_first : ¬ (no_owner ≡ 0)
  never_first e = let h : 4294967295 ≡ 0 = e in absurd (omega (arith, h))

  no_hidden : IsHidden p.common no_owner
  no_hidden = hidden_yet p.common.texts p.common.arena p.common.units.items (worlds_in p.common.shared) p.drawn no_owner is.common never

  -- whose turn it is
  pub own_before : (place q : ℕ) (a : Activity) → slice_get p.activities.items place ≡ Some a → ((r : Rested) → a.running ≡ Some r → r.owner ≡ q)
      → (a.running ≡ None → p.drawn < q) → IsHidden p.common q
  own_before place q a at own new = by a.running refl
    where
      by : (o : Option Rested) → a.running ≡ o → IsHidden p.common q
      by None e = hidden_yet p.common.texts p.common.arena p.common.units.items (worlds_in p.common.shared) p.drawn q is.common (new e)
      by (Some r) e = subst (IsHidden p.common) (own r e) (is.apart.hidden place a r at e)

  -- ---- a try that begins

  pub may_list : p.drawn + 1 < no_owner → (u : ℕ) → IsTrue (is_apart list u) → MayList (p.drawn + 1) p.common u
  may_list few u a =
      let j = entry_at list u a in
      by_entry u j.0 j.1 (MayList (p.drawn + 1) p.common u)
      (λ e. subst (MayList (p.drawn + 1) p.common) (sym e) (record { some = never_first; other = λ k. absurd (omega (arith, k, few)); hidden = no_hidden }))
      (λ b s found running e.
      let r = rests_at j.0 b s found running in
      let low : s.owner ≤ p.drawn = r.owner in
      let some : 1 ≤ s.owner = r.some in
      subst (MayList (p.drawn + 1) p.common) (sym e) (record {
        some = λ k. absurd (omega (arith, k, some));
        other = λ k. absurd (omega
            (arith, k, low));
        hidden = is.apart.hidden j.0 b s found running;
      }))

  -- ---- a try that goes on

  module _ (place : ℕ) (a : Activity) (r : Rested) (at : slice_get p.activities.items place ≡ Some a) (running : a.running ≡ Some r) where
    resting_here : IsResting (trees_of library parts) (tree_number library (place + 1)) budget p.drawn p.common r
    resting_here = rests_at place a r at running

    abbrev bare : Config Meaning
    bare = resting resting_here.none p.common r

    -- it may be kept apart from the try
    abbrev Kept : ℕ → Type 0
    Kept u = ¬ (u ≡ 0) × (¬ (u ≡ r.owner) × KeptApart itself bare u)

    kept_none : Kept no_owner
    kept_none =
        let low : r.owner ≤ p.drawn = resting_here.owner in
        let few = never in
        let differ : ¬ (no_owner ≡ r.owner) = λ k. absurd (omega (arith, k, low, few)) in (
          never_first,
          (
            differ,
            kept_resting p.common r no_owner resting_here.none resting_here.sound never_first differ
                (none_later p.common r p.drawn no_owner is.common resting_here.owns.owned low never resting_here.none resting_here.sound)
                (unaware_yet p.common r p.drawn no_owner is.common resting_here.owns.owned low never resting_here.none resting_here.sound),
          ),
        )

    kept_other : (j : ℕ) (b : Activity) (s : Rested) → ¬ (j ≡ place) → slice_get p.activities.items j ≡ Some b → b.running ≡ Some s → Kept s.owner
    kept_other j b s away found runs =
        let t = rests_at j b s found runs in
        let one : 1 ≤ s.owner = t.some in
        let some : ¬ (s.owner ≡ 0) = λ k. absurd (omega (arith, k, one)) in
        let differ : ¬ (s.owner ≡ r.owner) = λ k. away (is.differ j place b a s r found at runs running k) in (
          some,
          (
            differ,
            kept_resting p.common r s.owner resting_here.none resting_here.sound some differ
                (neither p.common.arena r.objects s.owner t.owns.absent (λ o h of. differ (sym of ∙ resting_here.owns.owned o h)))
                (is.apart.unaware place j a b r s (λ k. away (sym k)) at found running runs),
          ),
        )

    kept_entry : (u j : ℕ) → slice_get (set list place no_owner) j ≡ Some u → Kept u
    kept_entry u j entry = by_place j place (Kept u)
        (λ here.
        let lt : place < length p.activities.items = slice_get_within p.activities.items place a at in
        let long : length list ≡ length p.activities.items = is.apart.long in
        let was = get_there list place (omega (arith, lt, long)) in
        let same : u ≡ no_owner = same_Some u no_owner (sym entry ∙ ap (slice_get (set list place no_owner)) here
        ∙ set_there list place was.0 no_owner was.1) in
        subst Kept (sym same) kept_none)
        (λ away. by_entry u j (sym (set_other list place j no_owner away) ∙ entry) (Kept u)
        (λ e. subst Kept (sym e) kept_none)
        (λ b s found runs e. subst Kept (sym e) (kept_other j b s away found runs)))

    kept_apart : (us : Listed) → us.items ≡ set list place no_owner → (u : ℕ) → IsTrue (is_apart us.items u) → ¬ (u ≡ 0)
        × (¬ (u ≡ r.owner) × KeptApart itself bare u)
    kept_apart us items u h = let j = entry_at us.items u h in kept_entry u j.0 (ap (λ l. slice_get l j.0) (sym items) ∙ j.1)

    pub sound_resumed : (us : Listed) → us.items ≡ set list place no_owner → Sound itself (resting us p.common r)
    sound_resumed us items = sound_listed bare (resting us p.common r) itself resting_here.sound (λ u h. kept_apart us items u h) refl

-- ---- behind a turn

-- the entry of the activity at a place says that none of its tries rests; the others are as they were
pub record Emptied (place : ℕ) (old new : List ℕ) : Type 0 where
  pub here : slice_get new place ≡ Some no_owner
  pub other : (i : ℕ) → ¬ (i ≡ place) → slice_get new i ≡ slice_get old i
  pub long : length new ≡ length old

-- which try rests then
abbrev pub Ran : Came → Option Rested → Type 0
Ran (came.Rests rest) o = o ≡ Some rest
Ran k o = o ≡ None

-- nothing names an object of the owner whose turn it was, where nothing did and its try left the first world as it was
own_hidden : (q : ℕ) (old new : Common) → Passes q old new → first_copy (worlds_in new.shared) ≡ first_copy (worlds_in old.shared) → IsHidden old q
    → IsHidden new q
own_hidden q old new passes first h = record {
  slots = λ s v at. h.slots s v (ap (λ (m : View). map.get m s) (sym first) ∙ at);
  objects = objects;
}
  where
    objects : (o : ObjId) (e : Entry) → map.get new.arena o ≡ Some e → Other q o → OtherNamed q e.object
    objects o e at other = by (map.get old.arena o) refl
      where
        by : (r : Option Entry) → map.get old.arena o ≡ r → OtherNamed q e.object
        by None none = absurd (other (passes.made o e none at))
        by (Some x) was = subst (λ (y : Entry). OtherNamed q y.object) (same_Some x e (sym (passes.objects o x was) ∙ at)) (h.objects o x was other)

module _ (library : Option Tree) (parts : List Tree) (budget : ℕ) (copy : Copy) (arena : Arena) (p : Play) (ends : List End)
    (is : IsPlay library parts budget copy arena p ends) (place : ℕ) (a : Activity) (at : slice_get p.activities.items place ≡ Some a) (alive : a.ended ≡ false)
    (q : ℕ) (next : Common) (drawn' : ℕ) (more : p.drawn ≤ drawn') (passes : Passes q p.common next)
    (common : IsCommon next.texts next.arena next.units.items (worlds_in next.shared) drawn') (works : next.shared.spent ≡ false)
    (own : (r : Rested) → a.running ≡ Some r → r.owner ≡ q) (new : a.running ≡ None → p.drawn < q)
    (after : Play) (common_is : after.common ≡ next) (drawn_is : after.drawn ≡ drawn') (long : length after.activities.items ≡ length p.activities.items)
    (others : (i : ℕ) → ¬ (i ≡ place) → slice_get after.activities.items i ≡ slice_get p.activities.items i) (a' : Activity)
    (at' : slice_get after.activities.items place ≡ Some a') where
  module _ (c : Config Session) (owner : c.owner ≡ q) (first : first_copy (worlds_in c.heap.store.shared) ≡ first_copy (worlds_in p.common.shared))
      (emptied : Emptied place p.common.apart.items c.apart.items)
      (hides : (u : ℕ) → IsTrue (is_apart c.apart.items u) → IsHidden p.common u → HiddenIn c u) (few : drawn' < no_owner) (k : Came)
      (turns : TurnsApart place c next k) (ran : Ran k a'.running) (mine : (r : Rested) → a'.running ≡ Some r → r.owner ≡ q) where
    -- another activity's try
    module _ (j : ℕ) (b : Activity) (s : Rested) (away : ¬ (j ≡ place)) (found : slice_get p.activities.items j ≡ Some b) (runs : b.running ≡ Some s) where
      listed : IsTrue (is_apart c.apart.items s.owner)
      listed = listed_at c.apart.items s.owner j (emptied.other j away ∙ is.apart.lists j b found ∙ ap (λ o. Some (entry_of o)) runs)

      hidden_before : HiddenIn c s.owner
      hidden_before = hides s.owner listed (is.apart.hidden j b s found runs)

      hidden_other : IsHidden next s.owner
      hidden_other = turns.hidden s.owner listed hidden_before

      rests : IsResting (trees_of library parts) (tree_number library (j + 1)) budget p.drawn p.common s
      rests = rests_at library parts budget copy arena p ends is j b s found runs

      back : Returns (worlds_in p.common.shared) (worlds_in next.shared) s.resting.world
      back = returns (trees_of library parts) (tree_number library (j + 1)) budget p.drawn drawn' q p.common next s rests passes common more
          (standing.apart library parts budget copy arena p ends is place a at alive q next drawn' more passes common works own new after common_is drawn_is
          long others a' at' j b s away found runs)

      -- it is unaware of the one whose turn it was
      own_unaware : Unaware p.common s q
      own_unaware = by a.running refl
        where
          by : (o : Option Rested) → a.running ≡ o → Unaware p.common s q
          by None e = unaware_yet p.common s p.drawn q is.common rests.owns.owned rests.owner (new e) rests.none rests.sound
          by (Some r) e = subst (Unaware p.common s) (own r e) (is.apart.unaware j place b a s r away found at runs e)

    -- where that rests
    module _ (rest : Rested) (k_is : k ≡ came.Rests rest) where
      turned : TurnsApart place c next (came.Rests rest)
      turned = subst (TurnsApart place c next) k_is turns

      own_after : IsHidden next q
      own_after = own_hidden q p.common next passes (turned.lists.1 ∙ first) (own_before library parts budget copy arena p ends is place q a at own new)

    -- ---- by activities

    -- the one at the place
    here_is : (i : ℕ) (x : Activity) → i ≡ place → slice_get after.activities.items i ≡ Some x → x ≡ a'
    here_is i x hi found = same_Some x a' (sym found ∙ ap (slice_get after.activities.items) hi ∙ at')

    came_is : (r : Rested) → a'.running ≡ Some r → k ≡ came.Rests r
    came_is r running = by k ran
      where
        by : (z : Came) → Ran z a'.running → z ≡ came.Rests r
        by (came.Rests rest) e = ap (λ (x : Rested). came.Rests x) (same_Some rest r (sym e ∙ running))
        by (came.Ends outcome output) e = let none : None ≡ Some r = sym e ∙ running in absurd (cc)
        by came.Drops e = let none : None ≡ Some r = sym e ∙ running in absurd (cc)

    list_after : slice_get next.apart.items place ≡ Some (entry_of a'.running)
    list_after = by k turns ran
      where
        none : next.apart ≡ c.apart → a'.running ≡ None → slice_get next.apart.items place ≡ Some (entry_of a'.running)
        none same e = ap (λ v. slice_get v.items place) same ∙ emptied.here ∙ ap (λ o. Some (entry_of o)) (sym e)

        by : (z : Came) → TurnsApart place c next z → Ran z a'.running → slice_get next.apart.items place ≡ Some (entry_of a'.running)
        by (came.Rests rest) t e =
            ap (λ l. slice_get l place) t.lists.0
            ∙ set_there c.apart.items place no_owner c.owner emptied.here
            ∙ ap Some (owner ∙ sym (mine rest e))
            ∙ ap (λ o. Some (entry_of o)) (sym e)
        by (came.Ends outcome output) t e = none t.lists e
        by came.Drops t e = none t.lists e

    list_other : (i : ℕ) → ¬ (i ≡ place) → slice_get next.apart.items i ≡ slice_get p.common.apart.items i
    list_other i away = by k turns ∙ emptied.other i away
      where
        by : (z : Came) → TurnsApart place c next z → slice_get next.apart.items i ≡ slice_get c.apart.items i
        by (came.Rests rest) t = ap (λ l. slice_get l i) t.lists.0 ∙ set_other c.apart.items place i c.owner away
        by (came.Ends outcome output) t = ap (λ v. slice_get v.items i) t.lists
        by came.Drops t = ap (λ v. slice_get v.items i) t.lists

    list_long : length next.apart.items ≡ length p.common.apart.items
    list_long = by k turns ∙ emptied.long
      where
        by : (z : Came) → TurnsApart place c next z → length next.apart.items ≡ length c.apart.items
        by (came.Rests rest) t = ap length t.lists.0 ∙ length-set c.apart.items place c.owner
        by (came.Ends outcome output) t = ap (λ v. length v.items) t.lists
        by came.Drops t = ap (λ v. length v.items) t.lists

    lists_now : (i : ℕ) (x : Activity) → slice_get after.activities.items i ≡ Some x → slice_get next.apart.items i ≡ Some (entry_of x.running)
    lists_now i x found = by_place i place (slice_get next.apart.items i ≡ Some (entry_of x.running))
        (λ hi. ap (slice_get next.apart.items) hi ∙ list_after ∙ ap (λ (y : Activity). Some (entry_of y.running)) (sym (here_is i x hi found)))
        (λ ni. list_other i ni ∙ is.apart.lists i x (sym (others i ni) ∙ found))

    hidden_now : (i : ℕ) (x : Activity) (r : Rested) → slice_get after.activities.items i ≡ Some x → x.running ≡ Some r → IsHidden next r.owner
    hidden_now i x r found running = by_place i place (IsHidden next r.owner)
        (λ hi.
        let runs : a'.running ≡ Some r = ap (λ (y : Activity). y.running) (sym (here_is i x hi found)) ∙ running in
        subst (IsHidden next) (sym (mine r runs)) (own_after r (came_is r runs)))
        (λ ni. hidden_other i x r ni (sym (others i ni) ∙ found) running)

    unaware_now : (i j : ℕ) (x y : Activity) (r s : Rested) → ¬ (i ≡ j) → slice_get after.activities.items i ≡ Some x
        → slice_get after.activities.items j ≡ Some y → x.running ≡ Some r → y.running ≡ Some s → Unaware next r s.owner
    unaware_now i j x y r s differ fx fy rx ry = by_place i place (Unaware next r s.owner)
        (λ hi. by_place j place (Unaware next r s.owner)
        (λ hj. absurd (differ (hi ∙ sym hj)))
        (λ nj.
        let runs : a'.running ≡ Some r = ap (λ (z : Activity). z.running) (sym (here_is i x hi fx)) ∙ rx in
        let fy' = sym (others j nj) ∙ fy in
        (turned r (came_is r runs)).lists.2 s.owner (listed j y s nj fy' ry) (hidden_before j y s nj fy' ry)))
        (λ ni.
        let fx' = sym (others i ni) ∙ fx in
        let stands = (rests i x r ni fx' rx).stands in
        let back_now = back i x r ni fx' rx in
        by_place j place (Unaware next r s.owner)
        (λ hj.
        let runs : a'.running ≡ Some s = ap (λ (z : Activity). z.running) (sym (here_is j y hj fy)) ∙ ry in
        subst (Unaware next r) (sym (mine s runs)) (unaware_still p.common next r q stands back_now (own_after s (came_is s runs))
        (own_unaware i x r ni fx' rx)))
        (λ nj.
        let fy' = sym (others j nj) ∙ fy in
        unaware_still p.common next r s.owner stands back_now (hidden_other j y s nj fy' ry) (is.apart.unaware i j x y r s differ fx' fy' rx ry)))

    pub apart_after : KeepsApart after
    apart_after = record {
      few = let d : after.drawn ≡ drawn' = drawn_is in omega (arith, d, few);
      long = ap (λ (m : Common). length m.apart.items) common_is ∙ list_long ∙ is.apart.long ∙ sym long;
      lists = λ i x found. ap (λ (m : Common). slice_get m.apart.items i) common_is ∙ lists_now i x found;
      hidden = λ i x r found running. subst (λ (m : Common). IsHidden m r.owner) (sym common_is) (hidden_now i x r found running);
      unaware = λ i j x y r s differ fx fy rx ry. subst (λ (m : Common). Unaware m r s.owner) (sym common_is) (unaware_now i j x y r s differ fx fy rx ry);
    }
