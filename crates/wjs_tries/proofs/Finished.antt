-- What the end of a try leaves.
use Rattle.std.proofs.Common.{◌≡◌, ℕ, ◌≤◌, Bool, true, false, List, [], Vec, Global, refl, sym, ap, ◌∙◌, subst}
use Rattle.std.specs.Prelude.{Result, Ok, Err, IfOk}
use Rattle.wjs_base.specs.declared.ids.OutOfMemory.{OutOfMemory}
use Rattle.wjs_base.specs.declared.ids.WorldId.{WorldId}
use Rattle.wjs_base.specs.declared.values.Value.{Value as Numbered}
use Rattle.wjs_base.specs.Text.{Grows}
use Rattle.wjs_base.proofs.TextLaws.{Grows-refl}
use Rattle.wjs_store.specs.State.{same_world}
use Rattle.wjs_store.specs.declared.store.Verdict.{Verdict}
use Rattle.wjs_arena.specs.Entries.{others_of}
use Rattle.wjs_meaning.specs.Trees.{Tree}
use Rattle.wjs_model.specs.declared.config.Config.{Config}
use Rattle.wjs_model.specs.declared.config.State.{State}
use Rattle.wjs_model.specs.declared.config.State.TheVariants as states
use Rattle.wjs_model.specs.Soundness.{Base, Sound}
use Rattle.wjs_overlay.specs.declared.overlay.Overlay.{Overlay}
use Rattle.wjs_parts.specs.Walking.{Walks}
use Rattle.wjs_reports.specs.Thrown.{ShowsIn}
use Rattle.wjs_reports.specs.Thrown as thrown
use Rattle.wjs_session.specs.declared.session.Session.{Session}
use Rattle.wjs_session.specs.Session.{world_at, first_copy, passes}
use Rattle.wjs_session.specs.Stores.{worlds_in}
use Rattle.wjs_session.specs.Owned.{own_passes}
use Rattle.wjs_session.specs.Settled.{Agrees, Settles}
use Rattle.wjs_session.proofs.AnswerLaws.{overlay_reached}
use Rattle.wjs_session.proofs.Leaving.{ends}
use Rattle.wjs_tries.specs.declared.common.Common.{Common}
use Rattle.wjs_tries.specs.declared.outcome.Outcome.TheVariants as told
use Rattle.wjs_tries.specs.declared.turns.Came.{Came}
use Rattle.wjs_tries.specs.declared.turns.Came.TheVariants as came
use Rattle.wjs_tries.specs.Meant.{session_meaning}
use Rattle.wjs_tries.specs.Views.{held_in}
use Rattle.wjs_tries.specs.Common.{IsCommon}
use Rattle.wjs_tries.specs.Passing.{Passes}
use Rattle.wjs_tries.specs.Turning.{common_of, IsLive, IsOver, IsTurned, EndsAlone, CameTo, Shares, GivesUp, IsRest, IsEnd, IsAtEnd, AgreesNow}
use Rattle.wjs_tries.proofs.Hidings.{hidden_same, left_apart, committed_apart}
use Rattle.wjs_tries.proofs.Overs.{over_walked, committed_alone, spent_alone, threw_alone}
use Rattle.wjs_tries.proofs.GivenUp.{not_both, first_given, texts_given, passes_given, common_given}
use Rattle.wjs_tries.proofs.Owning.{others_keep, others_made}
use Rattle.wjs_tries.proofs.Turned.{live, kept_now, number_is, common_after, first_stays, shared_turned, passes_turned, passes_then}

-- what a configuration shares is shared as it is
shares_itself : (c : Config Session) → Base session_meaning c → Shares c (common_of c)
shares_itself c base = record { texts = refl; arena_is = refl; units = refl; worlds = refl; works = (c.heap.store.works (live c base)).0 }

module _ (c : Config Session) (sound : Sound session_meaning c) where
  -- a dropped try
  pub dropped : (common : Common) → GivesUp c common → (trees : List Tree) (tree budget drawn : ℕ) → c.owner ≤ drawn
      → IsCommon c.heap.texts (others_of c.heap.arena c.owner) c.units.items (worlds_in c.heap.store.shared) drawn
      → IsTurned session_meaning trees tree budget drawn c common came.Drops
  dropped common s trees tree budget drawn within h = record {
    leaves = passes_given c sound.base common s;
    works = s.works;
    is_common = common_given c sound.base common s drawn within h;
    came = ap (held_in common.texts) (first_given c sound.base common s);
  }

  -- one that has spent its budget
  pub spent : (common : Common) (output : Vec ℕ Global) → GivesUp c common → common.apart ≡ c.apart → output.items ≡ [] → c.state ≡ states.StepsSpent
      → IsAtEnd session_meaning c common (came.Ends told.Spent output)
  spent common output s list none is = record {
    ends = tt;
    texts = texts_given c sound.base common s;
    arena_is = s.arena_is;
    apart = λ agrees. left_apart c common sound.base s list;
    turned = λ trees tree budget drawn over agrees. record {
      leaves = passes_given c sound.base common s;
      works = s.works;
      is_common = common_given c sound.base common s drawn over.owner over.shared;
      came = subst (λ l. EndsAlone session_meaning trees tree budget drawn c.owner
          (held_in common.texts (first_copy (worlds_in c.heap.store.shared))) common told.Spent l) (sym none)
          (spent_alone trees tree budget drawn c over agrees common (texts_given c sound.base common s) s.arena_is
          (first_given c sound.base common s) is);
    };
  }

  -- one that threw, whose value's text was found
  pub threw : (value : Numbered) (bytes : List ℕ) (next : Config Session) (common : Common) (output : Vec ℕ Global) → c.state ≡ states.Threw value
      → ShowsIn session_meaning c value bytes → thrown.Leaves session_meaning c next → GivesUp next common → common.apart ≡ next.apart → output.items ≡ []
      → IsAtEnd session_meaning c common (came.Ends (told.Threw bytes) output)
  threw value bytes next common output is shows left s list none =
      let first : first_copy (worlds_in common.shared) ≡ first_copy (worlds_in c.heap.store.shared) =
      first_given next left.base common s ∙ first_stays c next sound.base left.base left.stays in
      let others : common.arena ≡ others_of c.heap.arena c.owner = s.arena_is ∙ (λ i. others_of (left.objects i) (left.stays.owner i)) in
      record {
        ends = tt;
        texts = subst (λ t. Grows c.heap.texts t) (sym s.texts) left.stays.texts;
        arena_is = others;
        apart = λ agrees. record {
          list = list ∙ left.stays.apart;
          hidden = λ u a h. hidden_same (others_of c.heap.arena c.owner) common.arena (first_copy (worlds_in c.heap.store.shared))
              (first_copy (worlds_in common.shared)) u others first h;
        };
        turned = λ trees tree budget drawn over agrees. record {
          leaves = passes_then c.owner (common_of c) (common_of next) common
              (passes_turned c next sound.base left.base left.stays (common_of next) (shares_itself next left.base))
              (subst (λ q. Passes q (common_of next) common) left.stays.owner (passes_given next left.base common s));
          works = s.works;
          is_common = common_given next left.base common s drawn (subst (λ k. k ≤ drawn) (sym left.stays.owner) over.owner)
              (shared_turned c next sound.base left.base left.stays drawn over.owner over.shared);
          came = subst (λ l. EndsAlone session_meaning trees tree budget drawn c.owner (held_in common.texts (first_copy (worlds_in c.heap.store.shared)))
              common (told.Threw bytes) l) (sym none)
              (threw_alone trees tree budget drawn c over agrees common (subst (λ t. Grows c.heap.texts t) (sym s.texts) left.stays.texts)
              others first value bytes is shows);
        };
      }

  -- one that was committed
  pub committed : (shared : Overlay) (verdict : Verdict) → Settles (worlds_in c.heap.store.shared) c.heap.store.world (worlds_in c.heap.store.inner)
      (worlds_in shared) verdict → shared.spent ≡ false → c.state ≡ states.Done
      → IsAtEnd session_meaning c (record { texts = c.heap.texts; arena = c.heap.arena; units = c.units; shared = shared; apart = c.apart })
      (came.Ends told.Committed c.pending)
  committed shared verdict settles works is =
      let F = worlds_in c.heap.store.shared in
      let j = c.heap.store.world in
      let common : Common = record { texts = c.heap.texts; arena = c.heap.arena; units = c.units; shared = shared; apart = c.apart } in
      let left = ends F (worlds_in shared) j (worlds_in c.heap.store.inner) verdict (kept_now c sound.base) settles in
      record {
        ends = tt;
        texts = Grows-refl c.heap.texts;
        arena_is = refl;
        apart = λ agrees. committed_apart c shared sound (settles.holds (settles.moves.1 agrees));
        turned = λ trees tree budget drawn over agrees.
            let holds = settles.holds (settles.moves.1 agrees) in
            record {
              leaves = record {
                texts = Grows-refl c.heap.texts;
                objects = others_keep c.heap.arena c.owner;
                made = others_made c.heap.arena c.owner;
                units = refl;
                first = left.first;
                returns = λ i e child. left.returns i (ap (same_world i) (number_is c sound.base) ∙ e) child;
              };
              works = works;
              is_common = common_after session_meaning c sound.base c.heap.texts c.heap.arena c.units.items F
                  (worlds_in shared) j c.owner drawn over.common over.owner
                  (λ o e none at. not_both c.heap.arena o e (o.owner ≡ c.owner) none at) (overlay_reached shared works) left.first left.there
                  (ap (λ (z : WorldId). z.owner) (number_is c sound.base))
                  (λ s v at. sound.base.heap.slots j s v (sym (holds s) ∙ at));
              came = committed_alone trees tree budget drawn c over agrees is common refl refl holds;
            };
      }

-- ---- a walk and the end behind it

pub walked_turned : (trees : List Tree) (tree budget drawn : ℕ) (old new : Config Session) (common : Common) (c : Came)
    → Passes old.owner (common_of old) (common_of new) → new.owner ≡ old.owner
    → first_copy (worlds_in new.heap.store.shared) ≡ first_copy (worlds_in old.heap.store.shared)
    → IsTurned session_meaning trees tree budget drawn new common c → IsTurned session_meaning trees tree budget drawn old common c
walked_turned trees tree budget drawn old new common c between owner first h = record {
  leaves = passes_then old.owner (common_of old) (common_of new) common between (subst (λ q. Passes q (common_of new) common) owner h.leaves);
  works = h.works;
  is_common = h.is_common;
  came = subst (λ q. CameTo session_meaning trees tree budget drawn q (held_in common.texts (first_copy (worlds_in old.heap.store.shared))) common c) owner
      (subst (λ m. CameTo session_meaning trees tree budget drawn new.owner (held_in common.texts m) common c) first h.came);
}

-- a turn at whose end the try goes on no more
pub finished_turned : (trees : List Tree) (tree budget drawn steps took : ℕ) (old new : Config Session) (common : Common) (c : Came)
    → IsLive session_meaning trees tree budget drawn old → Walks session_meaning steps took old new → ¬ (new.state ≡ states.Running)
    → ((is : IsOver session_meaning trees tree budget drawn new) → IsTurned session_meaning trees tree budget drawn new common c)
    → IsTurned session_meaning trees tree budget drawn old common c
finished_turned trees tree budget drawn steps took old new common c l w over go =
    walked_turned trees tree budget drawn old new common c
    (passes_turned old new l.sound.base w.sound.base w.stays (common_of new) (shares_itself new w.sound.base)) w.stays.owner
    (first_stays old new l.sound.base w.sound.base w.stays)
    (go (over_walked trees tree budget drawn steps took old new l w over))

-- ---- whether the reads hold

-- a session that says that it agrees does
pub agreed : (c : Config Session) {answer : Bool} → answer ≡ true → Agrees (worlds_in c.heap.store.shared) c.heap.store.world answer
    → AgreesNow session_meaning c
agreed c is h = sym h.answers ∙ is

-- a try that takes the first world to hold what it holds agrees
pub own_agrees : (c : Config Session) → Sound session_meaning c → (session_meaning c.heap.store).own ≡ first_copy (worlds_in c.heap.store.shared)
    → AgreesNow session_meaning c
own_agrees c sound own =
    let F = worlds_in c.heap.store.shared in
    let x = world_at F c.heap.store.world in
    ap (passes x) (sym own) ∙ own_passes (first_copy F) x

-- ---- an end that was answered

pub end_turned : (c : Config Session) (result : Result (Common × Came) OutOfMemory) → AgreesNow session_meaning c
    → IfOk result (λ r. IsAtEnd session_meaning c r.0 r.1)
    → IfOk result (λ r. (trees : List Tree) (tree budget drawn : ℕ) → IsOver session_meaning trees tree budget drawn c
    → IsTurned session_meaning trees tree budget drawn c r.0 r.1)
end_turned c (Ok r) agrees h = λ trees tree budget drawn over. h.turned trees tree budget drawn over agrees
end_turned c (Err e) agrees h = tt

pub end_no_rest : (k : Came) → IsEnd k → ¬ (IsRest k)
end_no_rest (came.Ends outcome output) h = λ r. r
end_no_rest (came.Rests rest) h = absurd h
end_no_rest came.Drops h = absurd h

pub end_no_drop : (k : Came) → IsEnd k → ¬ (k ≡ came.Drops)
end_no_drop (came.Ends outcome output) h e = cc
end_no_drop (came.Rests rest) h e = absurd h
end_no_drop came.Drops h e = absurd h

pub end_awake : (c : Config Session) (result : Result (Common × Came) OutOfMemory) → IfOk result (λ r. IsAtEnd session_meaning c r.0 r.1)
    → IfOk result (λ r. ¬ (IsRest r.1))
end_awake c (Ok r) h = end_no_rest r.1 h.ends
end_awake c (Err e) h = tt

pub end_kept : (c : Config Session) (result : Result (Common × Came) OutOfMemory) → IfOk result (λ r. IsAtEnd session_meaning c r.0 r.1)
    → IfOk result (λ r. (session_meaning c.heap.store).own ≡ first_copy (worlds_in c.heap.store.shared) → ¬ (r.1 ≡ came.Drops))
end_kept c (Ok r) h = λ own. end_no_drop r.1 h.ends
end_kept c (Err e) h = tt

pub spent_left : (s : State) → ¬ (s ≡ states.Running) → ¬ (s ≡ states.Done) → ((v : Numbered) → ¬ (s ≡ states.Threw v)) → s ≡ states.StepsSpent
spent_left states.Running a b f = absurd (a refl)
spent_left states.Done a b f = absurd (b refl)
spent_left (states.Threw v) a b f = absurd (f v refl)
spent_left states.StepsSpent a b f = refl
