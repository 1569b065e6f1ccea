-- What one turn comes to keeps what is known of a play.
use Rattle.std.proofs.Common.{◌≡◌, ℕ, ◌+◌, ◌≤◌, ◌<◌, true, false, List, [], ◌∷◌, ◌++◌, length, Option, None, Some, refl, sym, ap, ◌∙◌, subst, arith, append-nil}
use Rattle.std.specs.Prelude.{IfSome, slice_get}
use Rattle.std.proofs.lemmas.Option.{same_Some}
use Rattle.wjs_by_content.specs.Objects.{Arena}
use Rattle.wjs_by_content.specs.Tables.{arena_in}
use Rattle.wjs_meaning.specs.Trees.{Tree}
use Rattle.wjs_frames.proofs.Growing.{arena_known}
use Rattle.wjs_model.specs.declared.config.Config.{Config}
use Rattle.wjs_session.specs.declared.session.Session.{Session}
use Rattle.wjs_session.specs.Session.{first_copy}
use Rattle.wjs_session.specs.Stores.{worlds_in}
use Rattle.wjs_alone.specs.Alone.{Copy, outcome_of}
use Rattle.wjs_alone.specs.Opening.{trees_of, tree_number}
use Rattle.wjs_alone.specs.Serial.{Run, End, Holds, WorldsOwn, run_at, runs_of, printed_by}
use Rattle.wjs_activity.specs.Unnamed.{NamesOthers, NamesNone}
use Rattle.wjs_tries.specs.declared.common.Common.{Common}
use Rattle.wjs_tries.specs.declared.common.Rested.{Rested}
use Rattle.wjs_tries.specs.declared.outcome.Outcome.{Outcome as Told}
use Rattle.wjs_activity.specs.declared.activities.Activity.{Activity}
use Rattle.wjs_activity.specs.declared.activities.Play.{Play}
use Rattle.wjs_tries.specs.declared.turns.Came.{Came}
use Rattle.wjs_activity.specs.Listing.{KeepsApart}
use Rattle.wjs_tries.specs.Meant.{session_meaning}
use Rattle.wjs_tries.specs.Resting.{IsResting}
use Rattle.wjs_activity.specs.SoFar.{times_owned, SoFar, GoesOn, StandsBy, IsPlay}
use Rattle.wjs_tries.specs.Turning.{IsTurned, EndsAlone, first_in}
use Rattle.wjs_activity.specs.Rounds.{Made}
use Rattle.wjs_activity.proofs.Apart.{own_before}
use Rattle.wjs_activity.proofs.Appended.{runs_then}
use Rattle.wjs_activity.proofs.NamesNone.{names_others, named_then}
use Rattle.wjs_tries.proofs.Opens.{heap_common}
use Rattle.wjs_tries.proofs.Soundly.{view_known}
use Rattle.wjs_activity.proofs.Standing.{was_on, plays_on, plays_behind}
use Rattle.wjs_activity.proofs.Stepped.{holds_later, worlds_own_in, so_far_stays, so_far_then, prints_more}
use Rattle.wjs_activity.proofs.Taking.{Taken, none_drawn, passes_all}

module _ (library : Option Tree) (parts : List Tree) (budget : ℕ) (copy : Copy) (arena : Arena) (p : Play) (ends : List End)
    (is : IsPlay library parts budget copy arena p ends) (place : ℕ) (a : Activity) (at : slice_get p.activities.items place ≡ Some a) (alive : a.ended ≡ false)
    (q drawn : ℕ) (more : p.drawn ≤ drawn) (c : Config Session) (next : Common) (came : Came)
    (taken : Taken (trees_of library parts) (tree_number library (place + 1)) budget q drawn p.common c)
    (turned : IsTurned session_meaning (trees_of library parts) (tree_number library (place + 1)) budget drawn c next came)
    (own : (r : Rested) → a.running ≡ Some r → r.owner ≡ q) (new : a.running ≡ None → p.drawn < q)
    (after : Play) (common_is : after.common ≡ next) (drawn_is : after.drawn ≡ drawn) (long : length after.activities.items ≡ length p.activities.items)
    (others : (i : ℕ) → ¬ (i ≡ place) → slice_get after.activities.items i ≡ slice_get p.activities.items i) (a' : Activity)
    (at' : slice_get after.activities.items place ≡ Some a') where
  on : GoesOn library parts budget copy arena p ends (place + 1) a
  on = was_on library parts budget copy arena p ends is place a at alive q next drawn more
      (passes_all library parts budget copy arena p ends is
      (place + 1) q drawn c next came taken turned) turned.is_common turned.works own new after common_is drawn_is long others a' at'

  -- no end is of the turn's owner
  unused : times_owned q ends ≡ 0
  unused = by a.running refl on.rests
    where
      by : (o : Option Rested) → a.running ≡ o → IfSome o (λ r. IsResting (trees_of library parts) (tree_number library (place + 1)) budget p.drawn p.common r
          × (times_owned r.owner ends ≡ 0)) → times_owned q ends ≡ 0
      by None e h = none_drawn ends p.drawn q (new e) is.drawn
      by (Some r) e h = subst (λ k. times_owned k ends ≡ 0) (own r e) h.1

  objects_stay : Holds (arena_in p.common.texts p.common.arena) (arena_in next.texts next.arena)
  objects_stay =
      let passes = passes_all library parts budget copy arena p ends is (place + 1) q drawn c next came taken turned in
      holds_later p.common.texts next.texts p.common.arena next.arena passes.texts
      (arena_known _ (heap_common p.common.texts p.common.arena p.common.units.items (worlds_in p.common.shared) p.drawn is.common)) passes.objects

  so_far_now : first_in next ≡ first_in p.common → SoFar library parts budget copy arena (first_in after.common)
      (arena_in after.common.texts after.common.arena) ends
  so_far_now same =
      subst (λ (k : Common). SoFar library parts budget copy arena (first_in k) (arena_in k.texts k.arena) ends) (sym common_is)
      (so_far_stays library parts budget copy arena ends (first_in p.common) (first_in next) (arena_in p.common.texts p.common.arena)
      (arena_in next.texts next.arena) is.so_far (sym same) objects_stay)

  -- as it begins the first world names none of its objects
  named_now : NamesOthers q (arena_in next.texts next.arena) (first_in p.common)
  named_now =
      let first = first_copy (worlds_in p.common.shared) in
      let passes = passes_all library parts budget copy arena p ends is (place + 1) q drawn c next came taken turned in
      names_others p.common.texts next.texts p.common.arena next.arena q passes.objects first
      (view_known p.common.texts p.common.arena first is.common.table is.common.slots) is.common.slots
      (own_before library parts budget copy arena p ends is place q a at own new).slots

  -- without an end
  stays : KeepsApart after → after.ends ≡ p.ends → first_in next ≡ first_in p.common
      → StandsBy library parts budget copy arena a'.ended after ends (place + 1) a' → ((r : Rested) → a'.running ≡ Some r → r.owner ≡ q)
      → IsPlay library parts budget copy arena after ends
  stays kept ends_same same stands mine =
      plays_on library parts budget copy arena p ends is place a at alive q next drawn more
      (passes_all library parts budget copy arena p ends is
      (place + 1) q drawn c next came taken turned) turned.is_common turned.works own new after common_is drawn_is long others a' at'
      kept ends_same (so_far_now same) stands mine

  -- the try rests
  pub rests_step : KeepsApart after → (rest : Rested) → a' ≡ record a { running = Some rest } → after.ends ≡ p.ends → rest.owner ≡ q
      → IsResting (trees_of library parts) (tree_number library (place + 1)) budget drawn next rest → first_in next ≡ first_in p.common
      → IsPlay library parts budget copy arena after ends
  rests_step kept rest form ends_same owner resting same =
      stays kept ends_same same
      (subst (λ (x : Activity). StandsBy library parts budget copy arena x.ended after ends (place + 1) x) (sym form)
      (subst (λ b. StandsBy library parts budget copy arena b after ends (place + 1) (record a { running = Some rest })) (sym alive) (record {
        none = on.none;
        few = on.few;
        rests = (
          subst (λ d. IsResting (trees_of library parts) (tree_number library (place + 1)) budget d after.common rest) (sym drawn_is)
              (subst (λ k. IsResting (trees_of library parts) (tree_number library (place + 1)) budget drawn k rest) (sym common_is) resting),
          subst (λ k. times_owned k ends ≡ 0) (sym owner) unused,
        );
      })))
      (λ r running.
      let one : rest ≡ r = same_Some rest r (ap (λ (x : Activity). x.running) (sym form) ∙ running) in
      ap (λ (x : Rested). x.owner) (sym one) ∙ owner)

  -- the try was dropped, and it wasn't the fourth
  pub drops_step : KeepsApart after → a' ≡ record a { dropped = a.dropped + 1; running = None } → after.ends ≡ p.ends → a.dropped < 3
      → first_in next ≡ first_in p.common → IsPlay library parts budget copy arena after ends
  drops_step kept form ends_same few same =
      stays kept ends_same same
      (subst (λ (x : Activity). StandsBy library parts budget copy arena x.ended after ends (place + 1) x) (sym form)
      (subst (λ b. StandsBy library parts budget copy arena b after ends (place + 1) (record a { dropped = a.dropped + 1; running = None })) (sym alive)
      (record {
        none = on.none;
        few = omega (arith, few);
        rests = tt;
      })))
      (λ r running. let none : None ≡ Some r = ap (λ (x : Activity). x.running) (sym form) ∙ running in absurd (cc))

  -- the activity ended
  module _ (told : Told) (output : List ℕ) (e : EndsAlone session_meaning (trees_of library parts) (tree_number library (place + 1)) budget drawn q
      (first_in p.common) next told output) (some : 1 ≤ q) (within : q ≤ drawn) (inside : place < length parts) (few : a.dropped ≤ 3) where
    abbrev run : Run
    run = record { activity = place + 1; owner = q; objects = arena_in next.texts next.arena }

    abbrev end : End
    end = record { run = run; outcome = outcome_of q (run_at library parts budget (first_in p.common) run); tries = a.dropped + 1 }

    own_worlds : WorldsOwn (arena_in next.texts next.arena)
    own_worlds = worlds_own_in next.texts next.arena (turned.is_common).worlds_by

    tries_few : (1 ≤ a.dropped + 1) × (a.dropped + 1 ≤ 4)
    tries_few = (omega arith, omega (arith, few))

    number_in : (1 ≤ place + 1) × (place + 1 ≤ length parts)
    number_in = (omega arith, omega (arith, inside))

    pub prints_step : printed_by library parts budget copy (runs_of (ends ++ end ∷ [])) ≡ printed_by library parts budget copy (runs_of ends) ++ output
    prints_step = prints_more library parts budget copy arena ends (first_in p.common) (arena_in p.common.texts p.common.arena) is.so_far (place + 1) q
        (a.dropped + 1) drawn (first_in p.common) next told output e refl objects_stay own_worlds tries_few number_in some unused on.none

    so_far_step : SoFar library parts budget copy arena (first_in next) (arena_in next.texts next.arena) (ends ++ end ∷ [])
    so_far_step = so_far_then library parts budget copy arena ends (first_in p.common) (arena_in p.common.texts p.common.arena) is.so_far (place + 1) q
        (a.dropped + 1) drawn (first_in p.common) next told output e refl objects_stay own_worlds tries_few number_in some unused on.none

    pub ends_step : KeepsApart after → a' ≡ record a { running = None; ended = true }
        → after.ends ≡ p.ends ++ record { activity = place + 1; owner = q; outcome = told; tries = a.dropped + 1 } ∷ []
        → IsPlay library parts budget copy arena after (ends ++ end ∷ [])
    ends_step kept form ends_more =
        plays_behind library parts budget copy arena p ends is place a at alive q next drawn more
        (passes_all library parts budget copy arena p ends is
        (place + 1) q drawn c next came taken turned) turned.is_common turned.works own new after common_is drawn_is long others a' at'
        end refl refl within (record { activity = place + 1; owner = q; outcome = told; tries = a.dropped + 1 })
        (record { activity = refl; owner = refl; tries = refl; outcome = e.tells })
        kept (subst (NamesNone library parts budget copy) (sym (runs_then ends end))
        (named_then library parts budget copy (runs_of ends) run is.named
        (subst (NamesOthers q (arena_in next.texts next.arena)) (sym is.so_far.holds) named_now)))
        ends_more
        (subst (λ (k : Common). SoFar library parts budget copy arena (first_in k) (arena_in k.texts k.arena) (ends ++ end ∷ [])) (sym common_is) so_far_step)
        (ap (λ (x : Activity). x.ended) form) (ap (λ (x : Activity). x.running) form)

    -- with what is printed for it
    abbrev pub ends_made : KeepsApart after → a' ≡ record a { running = None; ended = true }
        → after.ends ≡ p.ends ++ record { activity = place + 1; owner = q; outcome = told; tries = a.dropped + 1 } ∷ [] → (out : List ℕ) → out ≡ output
        → Made library parts budget copy arena ends after out
    ends_made kept form ends_more out same = record {
      more = end ∷ [];
      further = record { is = prints_step ∙ ap (λ (l : List ℕ). printed_by library parts budget copy (runs_of ends) ++ l) (sym same) };
      is = ends_step kept form ends_more;
    }

-- no end came, and nothing is printed
abbrev pub stays_made : (library : Option Tree) (parts : List Tree) (budget : ℕ) (copy : Copy) (arena : Arena) (ends : List End) (after : Play) (out : List ℕ)
    → out ≡ [] → IsPlay library parts budget copy arena after ends → Made library parts budget copy arena ends after out
stays_made library parts budget copy arena ends after out none is =
    let same = append-nil ends in
    record {
      more = [];
      further = record {
        is =
            ap (λ (es : List End). printed_by library parts budget copy (runs_of es)) same
            ∙ sym (append-nil (printed_by library parts budget copy (runs_of ends)))
            ∙ ap (λ (l : List ℕ). printed_by library parts budget copy (runs_of ends) ++ l) (sym none);
      };
      is = subst (IsPlay library parts budget copy arena after) (sym same) is;
    }
