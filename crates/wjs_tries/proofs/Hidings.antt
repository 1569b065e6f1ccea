-- What is listed as kept apart and named by none stays so over a turn.
use Rattle.std.proofs.Common.{◌≡◌, ℕ, Bool, true, false, not, List, [], refl, sym, ap, ◌∙◌, subst, set, IsTrue}
use Rattle.std.specs.Prelude.{All, Result, Ok, Err, IfOk}
use Rattle.std.specs.FinMap as map
use Rattle.wjs_base.specs.declared.ids.OutOfMemory.{OutOfMemory}
use Rattle.wjs_base.specs.declared.values.Slot.{Slot}
use Rattle.wjs_store.specs.State.{content_at}
use Rattle.wjs_store.specs.Meaning.{Meaning, View, worlds}
use Rattle.wjs_arena.specs.Entries.{Objects, others_of}
use Rattle.wjs_arena.proofs.TakenOut.{others_found, others_there}
use Rattle.wjs_meaning.specs.Trees.{Tree}
use Rattle.wjs_model.specs.declared.config.Config.{Config}
use Rattle.wjs_model.specs.Apart.{is_apart}
use Rattle.wjs_model.specs.Configurations.{Stays}
use Rattle.wjs_model.specs.Others.{OtherFrame, KeptApart}
use Rattle.wjs_model.specs.Soundness.{Base, Sound}
use Rattle.wjs_model.proofs.Others.{keeps_apart, stays_apart, sound_listed}
use Rattle.wjs_overlay.specs.declared.overlay.Overlay.{Overlay}
use Rattle.wjs_session.specs.declared.session.Session.{Session}
use Rattle.wjs_session.specs.Session.{first_copy}
use Rattle.wjs_session.specs.Stores.{worlds_in}
use Rattle.wjs_tries.specs.declared.common.Common.{Common}
use Rattle.wjs_tries.specs.declared.common.Rested.{Rested}
use Rattle.wjs_tries.specs.declared.turns.Came.{Came}
use Rattle.wjs_tries.specs.declared.turns.Came.TheVariants as came
use Rattle.wjs_tries.specs.Hiding.{Hidden, IsHidden, Unaware}
use Rattle.wjs_tries.specs.Meant.{itself, session_meaning, meant, Listed, resting}
use Rattle.wjs_tries.specs.Trying.{IsTrying}
use Rattle.wjs_tries.specs.Turning.{Shares, GivesUp, HiddenIn, EndsApart, ListsRest, TurnsApart, IsRest, IsAtEnd, AgreesNow}
use Rattle.wjs_tries.proofs.GivenUp.{first_given}
use Rattle.wjs_tries.proofs.Turned.{first_stays}

-- ---- lists

none_listed : (us : List ℕ) → us ≡ [] → (u : ℕ) → ¬ (IsTrue (is_apart us u))
none_listed us none u h = let k : IsTrue (is_apart [] u) = subst (λ l. IsTrue (is_apart l u)) none h in absurd (cc)

-- with none kept apart it is as sound
pub sound_bare : (c : Config Meaning) (none : Listed) → none.items ≡ [] → Sound itself c → Sound itself (record c { apart = none })
sound_bare c none none_is s = sound_listed c (record c { apart = none }) itself s (λ u a. absurd (none_listed none.items none_is u a)) refl

-- and the same try, whoever is kept apart
pub trying_with : (trees : List Tree) (tree budget taken : ℕ) (c : Config Meaning) (us : Listed) → IsTrying trees tree budget taken c
    → IsTrying trees tree budget taken (record c { apart = us })
trying_with trees tree budget taken c us t = record {
  budget_is = t.budget_is;
  trees_are = t.trees_are;
  global = t.global;
  world = t.world;
  knows =
      t.knows;
  alone = t.alone;
}

-- ---- what is hidden

pub hidden_same : (arena arena' : Objects) (held held' : View) (u : ℕ) → arena' ≡ arena → held' ≡ held → Hidden arena held u → Hidden arena' held' u
hidden_same arena arena' held held' u a e h = subst (λ (m : Objects). Hidden m held' u) (sym a) (subst (λ (m : View). Hidden arena m u) (sym e) h)

hidden_shares : (c : Config Session) (common : Common) → Shares c common → (u : ℕ) → HiddenIn c u → IsHidden common u
hidden_shares c common s u h = hidden_same (others_of c.heap.arena c.owner) common.arena (first_copy (worlds_in c.heap.store.shared))
    (first_copy (worlds_in common.shared)) u s.arena_is (ap first_copy s.worlds) h

-- of a sound configuration, whose first world and objects name none of it, it is kept apart
kept_listed : (c : Config Session) (u : ℕ) → Sound session_meaning c → IsTrue (is_apart c.apart.items u) → HiddenIn c u → KeptApart session_meaning c u
kept_listed c u sound a h = keeps_apart c u a session_meaning sound (λ o e at listed other.
    let away : ¬ (o.owner ≡ c.owner) = λ is. both (is_apart c.apart.items c.owner) (subst (λ q. IsTrue (is_apart c.apart.items q)) is listed) sound.base.own in
    h.objects o e (others_found c.heap.arena c.owner o away ∙ at) other)
  where
    both : (b : Bool) → b ≡ true → not b ≡ true → ⊥
    both true h k = cc
    both false h k = cc

-- ---- a turn

module _ (old new : Config Session) (sound : Sound session_meaning old) (stays : Stays session_meaning old new) (sound' : Sound session_meaning new) (u : ℕ)
    (a : IsTrue (is_apart old.apart.items u)) (h : HiddenIn old u) where
  kept_walked : KeptApart session_meaning new u
  kept_walked = stays_apart session_meaning old new u sound stays (kept_listed old u sound a h) sound' a

  hidden_walked : HiddenIn new u
  hidden_walked = record {
    slots = λ s v at. h.slots s v (ap (λ (m : View). map.get m s) (sym (first_stays old new sound.base sound'.base stays)) ∙ at);
    objects = λ o e at other. kept_walked.objects o e (others_there new.heap.arena new.owner o e at).1 other;
  }

-- a try that rests is unaware of what is kept apart from it
unaware_rests : (new : Config Session) (common : Common) (rest : Rested) (u : ℕ)
    → ((us : Listed) → resting us common rest ≡ record (meant session_meaning new) { apart = us }) → KeptApart session_meaning new u → Unaware common rest u
unaware_rests new common rest u same k = record {
  slots = λ i s v at. k.slots i s v (ap (λ (d : Config Meaning). content_at (worlds d.heap.store) i s) (sym (same new.apart)) ∙ at);
  frames = subst (λ (d : Config Meaning). All (OtherFrame u) d.frames) (sym (same new.apart)) k.frames;
}

module _ (place : ℕ) (old new : Config Session) (sound : Sound session_meaning old) (stays : Stays session_meaning old new)
    (sound' : Sound session_meaning new) where
  pub rests_apart : (common : Common) (rest : Rested) → Shares new common
      → ((us : Listed) → resting us common rest ≡ record (meant session_meaning new) { apart = us })
      → common.apart.items ≡ set new.apart.items place new.owner → TurnsApart place old common (came.Rests rest)
  rests_apart common rest shares same list = record {
    hidden = λ u a h. hidden_shares new common shares u (hidden_walked old new sound stays sound' u a h);
    lists = (
      list ∙ (λ i. set ((stays.apart i).items) place (stays.owner i)),
      ap first_copy shares.worlds ∙ first_stays old new sound.base sound'.base stays,
      λ u a h. unaware_rests new common rest u same (kept_walked old new sound stays sound' u a h),
    );
  }

  list_left : (common : Common) (k : Came) → ¬ (IsRest k) → common.apart ≡ old.apart → ListsRest place old common k
  list_left common (came.Rests rest) awake same = absurd (awake tt)
  list_left common (came.Ends outcome output) awake same = same
  list_left common came.Drops awake same = same

  ends_apart : (common : Common) (k : Came) → EndsApart new common → ¬ (IsRest k) → TurnsApart place old common k
  ends_apart common k e awake = record {
    hidden = λ u a h. e.hidden u (subst (λ v. IsTrue (is_apart v.items u)) (sym stays.apart) a) (hidden_walked old new sound stays sound' u a h);
    lists = list_left common k awake (e.list ∙ stays.apart);
  }

  pub ends_apart_ok : (result : Result (Common × Came) OutOfMemory) → IfOk result (λ r. EndsApart new r.0) → IfOk result (λ r. ¬ (IsRest r.1))
      → IfOk result (λ r. TurnsApart place old r.0 r.1)
  ends_apart_ok (Ok r) e awake = ends_apart r.0 r.1 e awake
  ends_apart_ok (Err x) e awake = tt

-- ---- an end

-- nothing was done but that a try was given up
pub left_apart : (c : Config Session) (common : Common) → Base session_meaning c → GivesUp c common → common.apart ≡ c.apart → EndsApart c common
left_apart c common base s list = record {
  list = list;
  hidden = λ u a h. hidden_same (others_of c.heap.arena c.owner) common.arena (first_copy (worlds_in c.heap.store.shared))
      (first_copy (worlds_in common.shared)) u s.arena_is (first_given c base common s) h;
}

-- what the world of a session held the first world holds now
pub committed_apart : (c : Config Session) (shared : Overlay) → Sound session_meaning c
    → ((s : Slot) → map.get (first_copy (worlds_in shared)) s ≡ content_at (worlds (session_meaning c.heap.store)) c.heap.store.world s)
    → EndsApart c (record { texts = c.heap.texts; arena = c.heap.arena; units = c.units; shared = shared; apart = c.apart })
committed_apart c shared sound holds = record {
  list = refl;
  hidden = λ u a h.
      let k = kept_listed c u sound a h in
      record { slots = λ s v at. k.slots c.heap.store.world s v (sym (holds s) ∙ at); objects = k.objects };
}

-- an end that was answered
pub end_apart : (c : Config Session) (result : Result (Common × Came) OutOfMemory) → AgreesNow session_meaning c
    → IfOk result (λ r. IsAtEnd session_meaning c r.0 r.1) → IfOk result (λ r. EndsApart c r.0)
end_apart c (Ok r) agrees h = h.apart agrees
end_apart c (Err e) agrees h = tt
