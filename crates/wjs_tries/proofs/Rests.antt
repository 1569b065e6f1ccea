-- A try that pauses rests, and goes on as it rested.
use Rattle.std.proofs.Common.{◌≡◌, ℕ, ◌+◌, ◌<◌, ◌≤◌, List, sym, ap, ◌∙◌, subst, arith, IsTrue}
use Rattle.wjs_arena.specs.Entries.{Objects, has, objects_of, others_of}
use Rattle.wjs_meaning.specs.Trees.{Tree}
use Rattle.wjs_model.specs.declared.config.Config.{Config}
use Rattle.wjs_model.specs.declared.config.State.TheVariants as states
use Rattle.wjs_model.specs.Configurations.{RestIs}
use Rattle.wjs_model.specs.Soundness.{Sound}
use Rattle.wjs_parts.specs.Walking.{Walks}
use Rattle.wjs_session.specs.declared.session.Session.{Session}
use Rattle.wjs_session.specs.Session.{first_copy}
use Rattle.wjs_session.specs.Stores.{worlds_in}
use Rattle.wjs_session.specs.Resumed.{Rests as RestsOver}
use Rattle.wjs_alone.specs.Alone.{world_of}
use Rattle.wjs_tries.specs.declared.common.Common.{Common}
use Rattle.wjs_tries.specs.declared.common.Rested.{Rested}
use Rattle.wjs_tries.specs.declared.turns.Came.{Came}
use Rattle.wjs_tries.specs.declared.turns.Came.TheVariants as came
use Rattle.wjs_tries.specs.Meant.{itself, session_meaning, meant, Listed, resting}
use Rattle.wjs_tries.specs.Views.{held_in}
use Rattle.wjs_tries.specs.Common.{IsCommon}
use Rattle.wjs_tries.specs.Resting.{IsResting}
use Rattle.wjs_tries.specs.Trying.{IsTrying}
use Rattle.wjs_tries.specs.Turning.{IsLive, IsTurned, Shares, IsRest, HasLess}
use Rattle.wjs_tries.proofs.Hidings.{sound_bare, trying_with}
use Rattle.wjs_tries.proofs.Owning.{owned_are, others_away}
use Rattle.wjs_tries.proofs.Repacked.{sound_to}
use Rattle.wjs_tries.proofs.Turned.{number_is, first_stays, common_turned, shared_turned, passes_turned}
use Rattle.wjs_tries.proofs.Walked.{paused_alone, goes_on_paused}

-- what is known of shared things is known of their equals
common_shared : (c : Config Session) (common : Common) (drawn : ℕ) → Shares c common
    → IsCommon c.heap.texts (others_of c.heap.arena c.owner) c.units.items (worlds_in c.heap.store.shared) drawn
    → IsCommon common.texts common.arena common.units.items (worlds_in common.shared) drawn
common_shared c common drawn s h = subst (λ F. IsCommon common.texts common.arena common.units.items F drawn) (sym s.worlds) (
    subst (λ us. IsCommon common.texts common.arena us.items (worlds_in c.heap.store.shared) drawn) (sym s.units) (
    subst (λ m. IsCommon common.texts m c.units.items (worlds_in c.heap.store.shared) drawn) (sym s.arena_is) (
    subst (λ t. IsCommon t (others_of c.heap.arena c.owner) c.units.items (worlds_in c.heap.store.shared) drawn) (sym s.texts) h)))

module _ (trees : List Tree) (tree budget drawn steps took : ℕ) (old new : Config Session) (is_live : IsLive session_meaning trees tree budget drawn old)
    (w : Walks session_meaning steps took old new) where
  pub common_walked : IsCommon new.heap.texts new.heap.arena new.units.items (worlds_in new.heap.store.shared) drawn
  common_walked = common_turned old new is_live.sound.base w.sound.base w.stays drawn is_live.owner is_live.common

  pub shared_walked : IsCommon new.heap.texts (others_of new.heap.arena new.owner) new.units.items (worlds_in new.heap.store.shared) drawn
  shared_walked = shared_turned old new is_live.sound.base w.sound.base w.stays drawn is_live.owner is_live.shared

  module _ (running : new.state ≡ states.Running) (common : Common) (rest : Rested) (shares : Shares new common)
      (stands : RestsOver (worlds_in common.shared) rest.resting) (number : rest.resting.world ≡ new.heap.store.world)
      (same : (us : Listed) → resting us common rest ≡ record (meant session_meaning new) { apart = us }) (owner : rest.owner ≡ new.owner)
      (objects : rest.objects ≡ objects_of new.heap.arena new.owner) (left : rest.left ≡ new.left) where
    pause : RestIs session_meaning old new (λ n. took + n) × ((took ≡ steps) × (0 < new.left))
    pause = goes_on_paused session_meaning steps took old new w running

    owner_stays : rest.owner ≡ old.owner
    owner_stays = owner ∙ w.stays.owner

    is_resting : IsResting trees tree budget drawn common rest
    is_resting = record {
      stands = stands;
      number = number ∙ number_is new w.sound.base ∙ ap world_of (sym owner);
      some = subst (λ k. 1 ≤ k) (sym owner_stays) is_live.some;
      owner = subst (λ k. k ≤ drawn) (sym owner_stays) is_live.owner;
      left = subst (λ k. 0 < k) (sym left) (pause.1).1;
      owns = record {
        owned = λ o h. owned_are new.heap.arena new.owner o (subst (λ (m : Objects). IsTrue (has m o)) objects h) ∙ sym owner;
        absent = λ o h is. others_away new.heap.arena new.owner o (subst (λ (m : Objects). IsTrue (has m o)) shares.arena_is h) (is ∙ owner);
      };
      none = is_live.none;
      none_is = is_live.none_is;
      sound = subst (Sound itself) (sym (same is_live.none))
          (sound_bare (meant session_meaning new) is_live.none is_live.none_is (sound_to session_meaning new w.sound));
      taken = is_live.taken + took;
      trying = subst (IsTrying trees tree budget (is_live.taken + took)) (sym (same is_live.none))
          (trying_with trees tree budget (is_live.taken + took) (meant session_meaning new) is_live.none
          (paused_alone session_meaning trees tree budget is_live.taken steps took old new is_live.sound is_live.trying w pause.0));
    }

    pub rests_turned : IsTurned session_meaning trees tree budget drawn old common (came.Rests rest)
    rests_turned = record {
      leaves = passes_turned old new is_live.sound.base w.sound.base w.stays common shares;
      works = shares.works;
      is_common = common_shared new common drawn shares shared_walked;
      came = (owner_stays, is_resting, ap (held_in common.texts) (ap first_copy shares.worlds ∙ first_stays old new is_live.sound.base w.sound.base w.stays));
    }

-- where a walk pauses fewer steps are left than there were, and a walk that may take them all doesn't pause
pub less_left : (steps took left : ℕ) (old new : Config Session) → Walks session_meaning steps took old new → new.state ≡ states.Running → left ≡ new.left
    → 1 ≤ steps → left < old.left
less_left steps took left old new w running same some =
    let l : old.left ≡ took + new.left = w.left in
    let all : took ≡ steps = ((goes_on_paused session_meaning steps took old new w running).1).0 in
    omega (arith, l, all, some, same)

pub not_whole : (steps took : ℕ) (old new : Config Session) → Walks session_meaning steps took old new → new.state ≡ states.Running → old.left ≤ steps → ⊥
not_whole steps took old new w running le =
    let l : old.left ≡ took + new.left = w.left in
    let all : took ≡ steps = ((goes_on_paused session_meaning steps took old new w running).1).0 in
    let more : 0 < new.left = ((goes_on_paused session_meaning steps took old new w running).1).1 in
    absurd (omega (arith, l, all, more, le))

pub less_awake : (left : ℕ) (k : Came) → ¬ (IsRest k) → HasLess left k
less_awake left (came.Rests rest) h = absurd (h tt)
less_awake left (came.Ends outcome output) h = tt
less_awake left came.Drops h = tt
