-- A turn of a try is that of the definition of plays.
use Rattle.std.proofs.Common.{◌≡◌, ℕ, ◌+◌, true, false, List, sym, ap, ◌∙◌, subst, arith}
use Rattle.std.specs.Prelude.{min, Result, Ok, Err, IfOk}
use Rattle.wjs_base.specs.declared.ids.OutOfMemory.{OutOfMemory}
use Rattle.wjs_base.specs.declared.ids.WorldId.{WorldId}
use Rattle.wjs_base.specs.Text.{Table, Grows}
use Rattle.wjs_store.specs.Meaning.{View, Worlds, unseen}
use Rattle.wjs_store.specs.State.{World}
use Rattle.wjs_arena.specs.Entries.{Objects, others_of}
use Rattle.wjs_by_content.specs.Names.{content}
use Rattle.wjs_by_content.specs.Renamed.{Knows}
use Rattle.wjs_by_content.specs.Tables.{KnowsArena}
use Rattle.wjs_by_content.specs.Telling.{names_of}
use Rattle.wjs_by_content.proofs.ArenaGrowth.{arena_grows}
use Rattle.wjs_meaning.specs.Trees.{Tree}
use Rattle.wjs_meaning.specs.Deeds.{St}
use Rattle.wjs_meaning.specs.Programs.{Ending}
use Rattle.wjs_model.specs.declared.config.Config.{Config}
use Rattle.wjs_model.specs.declared.config.State.TheVariants as states
use Rattle.wjs_frames.proofs.Growing.{arena_known}
use Rattle.wjs_parts.specs.Walking.{Walks}
use Rattle.wjs_session.specs.declared.session.Session.{Session}
use Rattle.wjs_session.specs.Session.{world_at, first_copy, passes, owned}
use Rattle.wjs_session.specs.Stores.{worlds_in}
use Rattle.wjs_session.specs.Resumed.{resumed}
use Rattle.wjs_session.specs.Told.{told_of}
use Rattle.wjs_session.specs.Tells.{under}
use Rattle.wjs_session.proofs.EndLaws.{owned_same}
use Rattle.wjs_alone.specs.Alone.{alone}
use Rattle.wjs_alone.specs.Marks.{marked, agrees}
use Rattle.wjs_alone.specs.Named.{world_in}
use Rattle.wjs_alone.proofs.NamedMarks.{marks_lem}
use Rattle.wjs_alone.proofs.NamedChecks.{checks_lem}
use Rattle.wjs_start.proofs.Beginning.{none_there}
use Rattle.wjs_tries.specs.declared.common.Common.{Common}
use Rattle.wjs_tries.specs.declared.common.Rested.{Rested}
use Rattle.wjs_tries.specs.declared.turns.Came.{Came}
use Rattle.wjs_tries.specs.declared.turns.Came.TheVariants as came
use Rattle.wjs_tries.specs.Meant.{session_meaning}
use Rattle.wjs_tries.specs.Views.{held_in, KnowsView}
use Rattle.wjs_tries.specs.declared.outcome.Outcome.TheVariants as told
use Rattle.wjs_tries.specs.Turning.{IsLive, Shares, IsEnd, IsAtEnd, AgreesNow, objects_left}
use Rattle.wjs_tries.specs.Exact.{goes_on_after, run_of, marks_of, base_of, HasMarks, KnowsRest, KeepsObjects, CameAs, CameByCheck, EndsBy, IsExact}
use Rattle.wjs_tries.proofs.Outers.{under_known, marked_is, checked_is}
use Rattle.wjs_tries.proofs.Opens.{heap_common}
use Rattle.wjs_tries.proofs.Overs.{held_grows}
use Rattle.wjs_tries.proofs.Owning.{others_stay}
use Rattle.wjs_tries.proofs.Rests.{common_walked}
use Rattle.wjs_tries.proofs.Runs.{own_known, own_admitted, within, run_is, rests_is, over_is}
use Rattle.wjs_tries.proofs.Soundly.{view_known}
use Rattle.wjs_tries.proofs.Turned.{live, kept_now, number_is, first_stays}

-- what came to an end, did so since it agrees
end_checked : (c : Config Session) (k : Came) → IsEnd k → AgreesNow session_meaning c → CameByCheck c k
end_checked c (came.Ends outcome output) h agrees = agrees
end_checked c (came.Rests rest) h agrees = absurd h
end_checked c came.Drops h agrees = absurd h

pub ends_by : (c : Config Session) (common : Common) (k : Came) → AgreesNow session_meaning c → IsAtEnd session_meaning c common k → EndsBy c common k
ends_by c common k agrees h = record { texts = h.texts; arena_is = h.arena_is; by_check = end_checked c k h.ends agrees }

pub ends_by_ok : (c : Config Session) (result : Result (Common × Came) OutOfMemory) → AgreesNow session_meaning c
    → IfOk result (λ r. IsAtEnd session_meaning c r.0 r.1) → IfOk result (λ r. EndsBy c r.0 r.1)
ends_by_ok c (Ok r) agrees h = ends_by c r.0 r.1 agrees h
ends_by_ok c (Err e) agrees h = tt

module _ (trees : List Tree) (tree budget drawn steps took : ℕ) (old new : Config Session) (l : IsLive session_meaning trees tree budget drawn old)
    (w : Walks session_meaning steps took old new) (known : KnowsView old.heap.texts (session_meaning old.heap.store).own) where
  abbrev t : Table
  t = new.heap.texts

  abbrev F : Worlds
  F = worlds_in new.heap.store.shared

  abbrev n : ℕ
  n = min budget (l.taken + steps)

  abbrev own : View
  own = (session_meaning new.heap.store).own

  -- the marks of the definition's run are those of the shared world
  marks_are : marks_of session_meaning trees tree new.heap.texts old (min budget (l.taken + steps))
      ≡ world_in new.heap.texts (under (world_at (worlds_in new.heap.store.shared) new.heap.store.world) (session_meaning new.heap.store).own)
  marks_are =
      let run = run_is trees tree budget drawn steps took old new l w known in
      (λ i. marked (sym w.stays.owner i) (held_in t (sym w.stays.own i)) ((run i).1).done)
      ∙ marked_is marks_lem checks_lem F new.heap.store.world (worlds_in new.heap.store.inner) (told_of new.heap.store.told.chain.value)
      (kept_now new w.sound.base) (new.heap.store.marks (live new w.sound.base)) new.owner (number_is new w.sound.base)
      (common_walked trees tree budget drawn steps took old new l w).first
      t own (own_admitted trees tree budget drawn steps took old new l w known)
      (own_known trees tree budget drawn steps took old new l w known) w.sound.base.told

  has_marks : HasMarks new.heap.texts (world_at (worlds_in new.heap.store.shared) new.heap.store.world)
      (marks_of session_meaning trees tree new.heap.texts old (min budget (l.taken + steps)))
  has_marks = record {
    first = ap (λ (x : World content). x.first) marks_are;
    written = ap (λ (x : World content). x.written) marks_are;
    closed = ap (λ (x : World content). x.closed) marks_are;
  }

  -- these are known, and so is what the session takes the first world to hold
  marks_known : Knows (names_of new.heap.texts) (unseen (world_at (worlds_in new.heap.store.shared) new.heap.store.world))
  marks_known =
      let k = under_known marks_lem checks_lem F new.heap.store.world (worlds_in new.heap.store.inner) (told_of new.heap.store.told.chain.value)
      (kept_now new w.sound.base) (new.heap.store.marks (live new w.sound.base)) new.owner (number_is new w.sound.base)
      (common_walked trees tree budget drawn steps took old new l w).first
      t own (own_admitted trees tree budget drawn steps took old new l w known)
      (own_known trees tree budget drawn steps took old new l w known) w.sound.base.told in
      record { copy = λ s v e. absurd (none_there s v e); first = k.first; written = k.written }

  -- ---- the try rests

  knows_rest : (common : Common) (rest : Rested) → Shares new common → rest.resting.world ≡ new.heap.store.world → KnowsRest common rest
  knows_rest common rest s number = record {
    marks =
        subst (λ (u : Table). Knows (names_of u) (unseen (world_at (worlds_in common.shared) rest.resting.world))) (sym s.texts) (
        subst (λ (H : Worlds). Knows (names_of t) (unseen (world_at H rest.resting.world))) (sym s.worlds) (
        subst (λ (i : WorldId). Knows (names_of t) (unseen (world_at F i))) (sym number) marks_known));
    own =
        subst (λ (u : Table). KnowsView u (resumed (worlds_in common.shared) rest.resting).own) (sym s.texts) (
        subst (λ (H : Worlds). KnowsView t (owned (world_at H rest.resting.world) (first_copy H))) (sym s.worlds) (
        subst (λ (i : WorldId). KnowsView t (owned (world_at F i) (first_copy F))) (sym number)
        (own_known trees tree budget drawn steps took old new l w known)));
  }

  pub exact_rests : new.state ≡ states.Running → (common : Common) (rest : Rested) → Shares new common → rest.resting.world ≡ new.heap.store.world
      → rest.left ≡ new.left → IsExact session_meaning trees tree budget l.taken steps old common (came.Rests rest)
  exact_rests running common rest s number left =
      let h = rests_is trees tree budget drawn steps took old new l w known running in
      let a : (l.taken + took) + new.left ≡ budget = within trees tree budget drawn steps took old new l w known in
      let b : n ≡ l.taken + took = h.1 in
      let M = marks_of session_meaning trees tree t old n in
      record {
        objects = s.arena_is ∙ others_stay session_meaning old new w.stays;
        came = (
          ap (λ (u : Table). goes_on_after budget n (run_of session_meaning trees tree u old n).0) s.texts ∙ h.0,
          omega (arith, a, b, left),
          subst (λ (u : Table). HasMarks u (world_at (worlds_in common.shared) rest.resting.world) (marks_of session_meaning trees tree u old n))
              (sym s.texts) (
              subst (λ (H : Worlds). HasMarks t (world_at H rest.resting.world) M) (sym s.worlds) (
              subst (λ (i : WorldId). HasMarks t (world_at F i) M) (sym number) has_marks)),
          knows_rest common rest s number,
        );
      }

  -- ---- the try has ended; behind it texts may have been made

  module _ (common : Common) (grows : Grows new.heap.texts common.texts) where
    own_later : held_in common.texts (session_meaning old.heap.store).own ≡ held_in new.heap.texts (session_meaning old.heap.store).own
    own_later = subst (λ (v : View). held_in common.texts v ≡ held_in new.heap.texts v) w.stays.own
        (held_grows t common.texts own grows (own_known trees tree budget drawn steps took old new l w known))

    abbrev others : Objects
    others = others_of old.heap.arena old.owner

    arena_before : KnowsArena new.heap.texts (others_of old.heap.arena old.owner)
    arena_before = (arena_grows old.heap.texts t w.stays.texts others
        (arena_known _ (heap_common old.heap.texts others old.units.items (worlds_in old.heap.store.shared) drawn l.shared))).0

    run_later : run_of session_meaning trees tree common.texts old (min budget (l.taken + steps))
        ≡ run_of session_meaning trees tree new.heap.texts old (min budget (l.taken + steps))
    run_later = λ i. alone trees tree old.owner (own_later i) ((arena_grows t common.texts grows others arena_before).1 i) n

    marks_later : marks_of session_meaning trees tree common.texts old (min budget (l.taken + steps))
        ≡ marks_of session_meaning trees tree new.heap.texts old (min budget (l.taken + steps))
    marks_later = λ i. marked old.owner (own_later i) ((run_later i).1).done

    first_known : KnowsView new.heap.texts (first_copy (worlds_in new.heap.store.shared))
    first_known = let k = common_walked trees tree budget drawn steps took old new l w in view_known t new.heap.arena (first_copy F) k.table k.slots

    base_later : base_of common.texts old ≡ held_in new.heap.texts (first_copy (worlds_in new.heap.store.shared))
    base_later = ap (held_in common.texts) (sym (first_stays old new l.sound.base w.sound.base w.stays))
        ∙ held_grows t common.texts (first_copy F) grows first_known

    -- the check of the definition is that of the session
    check_is : agrees (marks_of session_meaning trees tree common.texts old (min budget (l.taken + steps))) (base_of common.texts old)
        ≡ passes (world_at (worlds_in new.heap.store.shared) new.heap.store.world) (first_copy (worlds_in new.heap.store.shared))
    check_is =
        (λ i. agrees (marks_later i) (base_later i))
        ∙ ap (λ (x : World content). agrees x (held_in t (first_copy F))) marks_are
        ∙ checked_is marks_lem checks_lem F new.heap.store.world (worlds_in new.heap.store.inner) (told_of new.heap.store.told.chain.value)
        (kept_now new w.sound.base) (new.heap.store.marks (live new w.sound.base)) new.owner (number_is new w.sound.base)
        (common_walked trees tree budget drawn steps took old new l w).first
        t own (own_admitted trees tree budget drawn steps took old new l w known)
        (own_known trees tree budget drawn steps took old new l w known) w.sound.base.told (first_copy F) first_known

    ended_before : ¬ (new.state ≡ states.Running) → goes_on_after budget (min budget (l.taken + steps))
        (run_of session_meaning trees tree common.texts old (min budget (l.taken + steps))).0 ≡ false
    ended_before over = ap (λ (r : Ending × St). goes_on_after budget n r.0) run_later ∙ over_is trees tree budget drawn steps took old new l w known over

    own_first : passes (world_at (worlds_in new.heap.store.shared) new.heap.store.world) (first_copy (worlds_in new.heap.store.shared)) ≡ true
        → (session_meaning old.heap.store).own ≡ first_copy (worlds_in old.heap.store.shared)
    own_first h = sym w.stays.own ∙ owned_same (world_at F new.heap.store.world) (first_copy F) h ∙ first_stays old new l.sound.base w.sound.base w.stays

    -- what it leaves but where it is committed the others had
    kept_objects : (c : Came) → common.arena ≡ objects_left new c → KeepsObjects old common c
    kept_objects (came.Ends told.Committed output) is = tt
    kept_objects (came.Ends (told.Threw shown) output) is = is ∙ others_stay session_meaning old new w.stays
    kept_objects (came.Ends told.Spent output) is = is ∙ others_stay session_meaning old new w.stays
    kept_objects (came.Rests rest) is = is ∙ others_stay session_meaning old new w.stays
    kept_objects came.Drops is = is ∙ others_stay session_meaning old new w.stays

    pub exact_over : ¬ (new.state ≡ states.Running) → (c : Came) → common.arena ≡ objects_left new c → CameByCheck new c
        → IsExact session_meaning trees tree budget l.taken steps old common c
    exact_over over c is h = record { objects = kept_objects c is; came = by c h }
      where
        by : (c : Came) → CameByCheck new c → CameAs session_meaning trees tree budget old (min budget (l.taken + steps)) common c
        by (came.Rests rest) h = absurd h
        by (came.Ends outcome output) h = (ended_before over, check_is ∙ h, own_first h)
        by came.Drops h = (ended_before over, check_is ∙ h)
