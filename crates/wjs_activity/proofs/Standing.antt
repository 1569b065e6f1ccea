-- A play stands behind one turn of the activity at a place.
use Rattle.std.proofs.Common.{◌≡◌, ℕ, ◌+◌, ◌≤◌, ◌<◌, ◌==◌, Bool, true, false, List, [], ◌∷◌, ◌++◌, length, Option, None, Some, refl, sym, ap, ◌∙◌, subst, arith}
use Rattle.std.specs.Prelude.{IfSome, slice_get, map as each}
use Rattle.std.proofs.lemmas.Bool.{eqb-true, eqb-false, eq-eqb, ne_eqb}
use Rattle.std.proofs.lemmas.List.Elements.{All-weaker, All-push}
use Rattle.std.proofs.lemmas.Option.{same_Some}
use Rattle.wjs_by_content.specs.Objects.{Arena}
use Rattle.wjs_by_content.specs.Tables.{arena_in}
use Rattle.wjs_meaning.specs.Trees.{Tree}
use Rattle.wjs_model.specs.Units.{unit_in}
use Rattle.wjs_session.specs.Stores.{worlds_in}
use Rattle.wjs_alone.specs.Alone.{Copy}
use Rattle.wjs_alone.specs.Opening.{trees_of, tree_number}
use Rattle.wjs_alone.specs.Serial.{End, runs_of}
use Rattle.wjs_activity.specs.Unnamed.{NamesNone}
use Rattle.wjs_tries.specs.declared.common.Common.{Common}
use Rattle.wjs_tries.specs.declared.common.Rested.{Rested}
use Rattle.wjs_activity.specs.declared.ends.Ended.{Ended}
use Rattle.wjs_activity.specs.declared.activities.Activity.{Activity}
use Rattle.wjs_activity.specs.declared.activities.Play.{Play}
use Rattle.wjs_tries.specs.Common.{IsCommon}
use Rattle.wjs_activity.specs.Listing.{KeepsApart}
use Rattle.wjs_tries.specs.Passing.{Passes}
use Rattle.wjs_tries.specs.Resting.{IsResting}
use Rattle.wjs_activity.specs.SoFar.{TellsEnd, TellsEnds, times_ended, times_owned, SoFar, GoesOn, StandsBy, Differ, IsPlay}
use Rattle.wjs_tries.specs.Turning.{first_in}
use Rattle.wjs_activity.proofs.Playing.{tells_push, ended_as_before, ended_once_more, trees_pass, other_goes_on, other_goes_on_behind}

pub by_place : (i place : ℕ) (P : Type 0) → (i ≡ place → P) → (¬ (i ≡ place) → P) → P
by_place i place P here there = by (i == place) refl
  where
    by : (b : Bool) → (i == place) ≡ b → P
    by true e = here (eqb-true i place e)
    by false e = there (eqb-false i place e)

module _ (library : Option Tree) (parts : List Tree) (budget : ℕ) (copy : Copy) (arena : Arena) (p : Play) (ends : List End)
    (is : IsPlay library parts budget copy arena p ends) (place : ℕ) (a : Activity) (at : slice_get p.activities.items place ≡ Some a) (alive : a.ended ≡ false)
    (q : ℕ) (next : Common) (drawn' : ℕ) (more : p.drawn ≤ drawn') (passes : Passes q p.common next)
    (common : IsCommon next.texts next.arena next.units.items (worlds_in next.shared) drawn') (works : next.shared.spent ≡ false)
    (own : (r : Rested) → a.running ≡ Some r → r.owner ≡ q) (new : a.running ≡ None → p.drawn < q)
    (after : Play) (common_is : after.common ≡ next) (drawn_is : after.drawn ≡ drawn') (long : length after.activities.items ≡ length p.activities.items)
    (others : (i : ℕ) → ¬ (i ≡ place) → slice_get after.activities.items i ≡ slice_get p.activities.items i) (a' : Activity)
    (at' : slice_get after.activities.items place ≡ Some a') where
  -- the activity went on until now
  pub was_on : GoesOn library parts budget copy arena p ends (place + 1) a
  was_on = subst (λ b. StandsBy library parts budget copy arena b p ends (place + 1) a) alive (is.activities place a at)

  pub goes_on_old : (i : ℕ) (b : Activity) (r : Rested) → slice_get p.activities.items i ≡ Some b → b.running ≡ Some r
      → GoesOn library parts budget copy arena p ends (i + 1) b
  goes_on_old i b r found running = by b.ended (is.activities i b found)
    where
      by : (e : Bool) → StandsBy library parts budget copy arena e p ends (i + 1) b → GoesOn library parts budget copy arena p ends (i + 1) b
      by true h = let none : None ≡ Some r = sym h.1 ∙ running in absurd (cc)
      by false h = h

  owner_drawn : (k : ℕ) (r : Rested) (o : Option Rested) → o ≡ Some r
      → IfSome o (λ s. IsResting (trees_of library parts) (tree_number library k) budget p.drawn p.common s × (times_owned s.owner ends ≡ 0))
      → r.owner ≤ p.drawn
  owner_drawn k r None e h = absurd (cc)
  owner_drawn k r (Some s) e h = subst (λ (x : Rested). x.owner ≤ p.drawn) (same_Some s r e) (h.0).owner

  -- no other try is of the turn's owner
  pub apart : (i : ℕ) (b : Activity) (r : Rested) → ¬ (i ≡ place) → slice_get p.activities.items i ≡ Some b → b.running ≡ Some r → ¬ (r.owner ≡ q)
  apart i b r away found running same = by a.running refl
    where
      low : r.owner ≤ p.drawn
      low = owner_drawn (i + 1) r b.running running (goes_on_old i b r found running).rests

      by : (o : Option Rested) → a.running ≡ o → ⊥
      by None e = let lt : p.drawn < q = new e in absurd (omega (arith, lt, low, same))
      by (Some s) e = away (is.differ i place b a r s found at running e (same ∙ sym (own s e)))

  trees_still : each (unit_in after.common.texts) after.common.units.items ≡ trees_of library parts
  trees_still = ap (λ c. each (unit_in c.texts) c.units.items) common_is ∙ trees_pass q p.common next p.drawn is.common passes ∙ is.trees_are

  common_now : IsCommon after.common.texts after.common.arena after.common.units.items (worlds_in after.common.shared) after.drawn
  common_now = subst (λ c. IsCommon c.texts c.arena c.units.items (worlds_in c.shared) after.drawn) (sym common_is)
      (subst (λ d. IsCommon next.texts next.arena next.units.items (worlds_in next.shared) d) (sym drawn_is) common)

  works_now : after.common.shared.spent ≡ false
  works_now = ap (λ c. c.shared.spent) common_is ∙ works

  -- two tries that rest are of two owners still
  differ_now : ((r : Rested) → a'.running ≡ Some r → r.owner ≡ q) → Differ after
  differ_now mine i j x y r s fx fy rx sy same = by_place i place (i ≡ j)
      (λ hi. by_place j place (i ≡ j)
      (λ hj. hi ∙ sym hj)
      (λ nj. absurd (apart j y s nj (sym (others j nj) ∙ fy) sy (sym same ∙ here i x r hi fx rx))))
      (λ ni. by_place j place (i ≡ j)
      (λ hj. absurd (apart i x r ni (sym (others i ni) ∙ fx) rx (same ∙ here j y s hj fy sy)))
      (λ nj. is.differ i j x y r s (sym (others i ni) ∙ fx) (sym (others j nj) ∙ fy) rx sy same))
    where
      here : (k : ℕ) (z : Activity) (t : Rested) → k ≡ place → slice_get after.activities.items k ≡ Some z → z.running ≡ Some t → t.owner ≡ q
      here k z t hk fz rz =
          let same_one : z ≡ a' = same_Some z a' (sym fz ∙ ap (slice_get after.activities.items) hk ∙ at') in
          mine t (ap (λ (w : Activity). w.running) (sym same_one) ∙ rz)

  -- ---- no end came

  other_stands : (i : ℕ) (b : Activity) (e : Bool) → ((r : Rested) → b.running ≡ Some r → ¬ (r.owner ≡ q))
      → StandsBy library parts budget copy arena e p ends (i + 1) b → StandsBy library parts budget copy arena e after ends (i + 1) b
  other_stands i b true far h = h
  other_stands i b false far h = other_goes_on library parts budget copy arena p ends q next drawn' more passes common after common_is drawn_is (i + 1) b far h

  pub plays_on : KeepsApart after → after.ends ≡ p.ends → SoFar library parts budget copy arena (first_in after.common)
      (arena_in after.common.texts after.common.arena) ends → StandsBy library parts budget copy arena a'.ended after ends (place + 1) a'
      → ((r : Rested) → a'.running ≡ Some r → r.owner ≡ q) → IsPlay library parts budget copy arena after ends
  plays_on kept ends_same so_far stands mine = record {
    common = common_now;
    works = works_now;
    trees_are = trees_still;
    count = long ∙ is.count;
    few = is.few;
    activities = λ i b found. by_place i place (StandsBy library parts budget copy arena b.ended after ends (i + 1) b)
        (λ hi.
        let same_one : b ≡ a' = same_Some b a' (sym found ∙ ap (slice_get after.activities.items) hi ∙ at') in
        subst (λ k. StandsBy library parts budget copy arena b.ended after ends (k + 1) b) (sym hi)
        (subst (λ (x : Activity). StandsBy library parts budget copy arena x.ended after ends (place + 1) x) (sym same_one) stands))
        (λ ni.
        let found_old = sym (others i ni) ∙ found in
        other_stands i b b.ended (λ r running. apart i b r ni found_old running) (is.activities i b found_old));
    differ = differ_now mine;
    told = subst (λ l. TellsEnds l ends) (sym ends_same) is.told;
    drawn = All-weaker (λ (e : End). e.run.owner ≤ p.drawn) (λ (e : End). e.run.owner ≤ after.drawn)
        (λ e h. let all : after.drawn ≡ drawn' = drawn_is in omega (arith, h, more, all)) ends is.drawn;
    so_far = so_far;
    apart = kept;
    named = is.named;
  }

  -- ---- an end of the owner came, of this activity

  module _ (end : End) (owner : end.run.owner ≡ q) (number : end.run.activity ≡ place + 1) (within : q ≤ drawn') (told : Ended)
      (tells : TellsEnd told end) where
    not_number : (i : ℕ) → ¬ (i ≡ place) → (end.run.activity == i + 1) ≡ false
    not_number i ni = ne_eqb end.run.activity (i + 1) (λ e. ni (omega (arith, e, number)))

    other_stands_behind : (i : ℕ) (b : Activity) (e : Bool) → ¬ (i ≡ place) → ((r : Rested) → b.running ≡ Some r → ¬ (r.owner ≡ q))
        → StandsBy library parts budget copy arena e p ends (i + 1) b → StandsBy library parts budget copy arena e after (ends ++ end ∷ []) (i + 1) b
    other_stands_behind i b true ni far h = (ended_as_before (i + 1) ends end (not_number i ni) ∙ h.0, h.1)
    other_stands_behind i b false ni far h =
        other_goes_on_behind library parts budget copy arena p ends q next drawn' more passes common after common_is drawn_is (i + 1) b end owner
        (not_number i ni) far h

    pub plays_behind : KeepsApart after → NamesNone library parts budget copy (runs_of (ends ++ end ∷ [])) → after.ends ≡ p.ends ++ told ∷ []
        → SoFar library parts budget copy arena (first_in after.common) (arena_in after.common.texts after.common.arena) (ends ++ end ∷ []) → a'.ended ≡ true
        → a'.running ≡ None → IsPlay library parts budget copy arena after (ends ++ end ∷ [])
    plays_behind kept named ends_more so_far over none = record {
      common = common_now;
      works = works_now;
      trees_are = trees_still;
      count = long ∙ is.count;
      few = is.few;
      activities = λ i b found. by_place i place (StandsBy library parts budget copy arena b.ended after (ends ++ end ∷ []) (i + 1) b)
          (λ hi.
          let same_one : b ≡ a' = same_Some b a' (sym found ∙ ap (slice_get after.activities.items) hi ∙ at') in
          let ended : b.ended ≡ true = ap (λ (x : Activity). x.ended) same_one ∙ over in
          let is_one : end.run.activity ≡ i + 1 = number ∙ ap (λ k. k + 1) (sym hi) in
          subst (λ e. StandsBy library parts budget copy arena e after (ends ++ end ∷ []) (i + 1) b) (sym ended) (
            ended_once_more (i + 1) ends end (eq-eqb end.run.activity (i + 1) is_one) (ap (λ k. times_ended (k + 1) ends) hi ∙ was_on.none),
            ap (λ (x : Activity). x.running) same_one ∙ none,
          ))
          (λ ni.
          let found_old = sym (others i ni) ∙ found in
          other_stands_behind i b b.ended ni (λ r running. apart i b r ni found_old running) (is.activities i b found_old));
      differ = differ_now (λ r running. let h : None ≡ Some r = sym none ∙ running in absurd (cc));
      told = subst (λ l. TellsEnds l (ends ++ end ∷ [])) (sym ends_more) (tells_push p.ends ends told end is.told tells);
      drawn = All-push (λ (e : End). e.run.owner ≤ after.drawn) ends end
          (All-weaker (λ (e : End). e.run.owner ≤ p.drawn) (λ (e : End). e.run.owner ≤ after.drawn)
          (λ e h. let all : after.drawn ≡ drawn' = drawn_is in omega (arith, h, more, all)) ends is.drawn)
          (let all : after.drawn ≡ drawn' = drawn_is in omega (arith, owner, within, all));
      so_far = so_far;
      apart = kept;
      named = named;
    }
