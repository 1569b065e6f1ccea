-- The run that the definition of plays has of a turn is the one that was taken.
use Rattle.std.proofs.Common.{◌≡◌, ℕ, List, Option, None, is_some, refl, sym, ap, ◌∙◌}
use Rattle.std.specs.FinMap as map
use Rattle.wjs_base.specs.Order.{obj_cmp}
use Rattle.wjs_base.specs.Text.{Grows}
use Rattle.wjs_arena.specs.Entries.{others_of}
use Rattle.wjs_store.specs.Naming.{plain}
use Rattle.wjs_store.specs.Meaning.{View, unseen}
use Rattle.wjs_store.specs.State.{World, has_row}
use Rattle.wjs_by_content.specs.Names.{Slot, slot_cmp, content}
use Rattle.wjs_by_content.specs.Objects.{Arena}
use Rattle.wjs_by_content.specs.Tables.{arena_in}
use Rattle.wjs_by_content.proofs.ArenaGrowth.{arena_grows}
use Rattle.wjs_meaning.specs.Trees.{Tree}
use Rattle.wjs_meaning.specs.Programs.{Ending, Done, Threw, StepsSpent}
use Rattle.wjs_model.specs.declared.config.Config.{Config}
use Rattle.wjs_frames.proofs.Growing.{arena_known}
use Rattle.wjs_session.specs.declared.session.Session.{Session}
use Rattle.wjs_session.specs.Session.{world_at, first_copy, owned}
use Rattle.wjs_session.specs.Stores.{worlds_in}
use Rattle.wjs_session.specs.Resumed.{resumed}
use Rattle.wjs_session.specs.Along.{own_of}
use Rattle.wjs_session.specs.Maps.{own_by, get_own}
use Rattle.wjs_alone.specs.Alone.{Copy, alone}
use Rattle.wjs_alone.specs.Marks.{child, own_view}
use Rattle.wjs_alone.specs.Named.{world_in}
use Rattle.wjs_alone.specs.Playing as defined
use Rattle.wjs_alone.proofs.NamedViews.{views_lem}
use Rattle.wjs_alone.proofs.Objects.{left_out_lem}
use Rattle.wjs_tries.specs.declared.common.Common.{Common}
use Rattle.wjs_tries.specs.declared.common.Rested.{Rested}
use Rattle.wjs_tries.specs.Meant.{session_meaning}
use Rattle.wjs_tries.specs.Views.{held_in, KnowsView}
use Rattle.wjs_tries.specs.Common.{IsCommon}
use Rattle.wjs_tries.specs.Passing.{Passes}
use Rattle.wjs_tries.specs.Turning.{common_of}
use Rattle.wjs_tries.specs.Exact.{goes_on_after, run_of}
use Rattle.wjs_activity.specs.Exactly.{IsTry}
use Rattle.wjs_tries.proofs.Beside.{same_in}
use Rattle.wjs_tries.proofs.Opens.{heap_common}
use Rattle.wjs_tries.proofs.Overs.{held_grows}

-- whether it rests is asked alike
pub same_resting : (library : Option Tree) (parts : List Tree) (budget taken : ℕ) (e : Ending)
    → defined.is_resting library parts budget taken e ≡ goes_on_after budget taken e
same_resting library parts budget taken Done = refl
same_resting library parts budget taken (Threw v) = refl
same_resting library parts budget taken StepsSpent = refl

-- ---- what a try takes the first world to hold

-- one that has done nothing takes it as it is
pub own_new : (owner : ℕ) (copy : Copy) → own_view (child owner copy) copy ≡ copy
own_new owner copy = map.same_map content.total content.exact (own_view (child owner copy) copy) copy (λ (s : Slot).
    get_own (child owner copy) copy s
    ∙ (λ j. own_by (map.get-empty slot_cmp s j) (is_some (unlisted s j)) (has_row (child owner copy) s) (map.get copy s)))
  where
    unlisted : (s : Slot) → map.get (map.empty {X = Unit {0}} {R = obj_cmp}) s.object ≡ None
    unlisted s = map.get-empty obj_cmp s.object

owned_unseen : (x : World plain) (base : View) → owned (unseen x) base ≡ owned x base
unfolding owned
owned_unseen x base = refl

-- one that rests takes it as its session does
pub own_rests : (budget : ℕ) (common : Common) (rest : Rested) (t : defined.Try) (copy : Copy) → IsTry budget common rest t
    → KnowsView common.texts (first_copy (worlds_in common.shared)) → copy ≡ held_in common.texts (first_copy (worlds_in common.shared))
    → own_view t.outer copy ≡ held_in common.texts (resumed (worlds_in common.shared) rest.resting).own
own_rests budget common rest t copy is known same =
    let T = common.texts in
    let base = first_copy (worlds_in common.shared) in
    let x = world_at (worlds_in common.shared) rest.resting.world in
    (λ j. own_of (record (world_in T (unseen x)) { first = is.marks.first j; written = is.marks.written j; closed = is.marks.closed j }) (same j))
    ∙ views_lem T (unseen x) base is.known.marks known
    ∙ ap (held_in T) (owned_unseen x base)

-- ---- the run

module _ (trees : List Tree) (tree n q owner : ℕ) (common next : Common) (drawn : ℕ) (c : Config Session)
    (is : IsCommon common.texts common.arena common.units.items (worlds_in common.shared) drawn) (start : Passes q common (common_of c))
    (owner_is : c.owner ≡ q) (owner_same : owner ≡ c.owner) (grows : Grows common.texts next.texts)
    (own : Copy) (own_same : own ≡ held_in common.texts (session_meaning c.heap.store).own)
    (own_known : KnowsView common.texts (session_meaning c.heap.store).own) (objects : Arena)
    (objects_same : objects ≡ arena_in common.texts common.arena) where
  pub own_later : own ≡ held_in next.texts (session_meaning c.heap.store).own
  own_later = own_same ∙ sym (held_grows common.texts next.texts (session_meaning c.heap.store).own grows own_known)

  pub objects_later : objects ≡ arena_in next.texts common.arena
  objects_later = objects_same ∙ sym (arena_grows common.texts next.texts grows common.arena
      (arena_known _ (heap_common common.texts common.arena common.units.items (worlds_in common.shared) drawn is))).1

  pub same_run : alone trees tree owner own objects n ≡ run_of session_meaning trees tree next.texts c n
  same_run =
      (λ i. alone trees tree (owner_same i) (own_later i) (objects_later i) n)
      ∙ left_out_lem trees tree c.owner (held_in next.texts (session_meaning c.heap.store).own) (arena_in next.texts common.arena)
      (arena_in next.texts (others_of c.heap.arena c.owner)) n
      (same_in next.texts common.arena (others_of c.heap.arena c.owner) c.owner start.objects (λ o e none at. start.made o e none at ∙ sym owner_is))
