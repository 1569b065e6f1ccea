use Rattle.std.proofs.Common.{◌≡◌, ℕ, Option, None, Some, set, ap, sym, ◌∙◌, subst}
use Rattle.std.specs.Prelude.{IfSome, IfOk, Result, Ok, Err}
use Rattle.std.proofs.lemmas.Option.{same_Some}
use Rattle.std.proofs.lemmas.Result.{IfOk-weaker}
use Rattle.wjs_arena.specs.Entries.{IsArena, joined}
use Rattle.wjs_store.specs.Meaning.{Meaning}
use Rattle.wjs_model.specs.declared.config.Config.{Config}
use Rattle.wjs_model.specs.Soundness.{Sound}
use Rattle.wjs_session.specs.Stores.{worlds_in}
use Rattle.wjs_session.specs.Resumed.{Rests}
use Rattle.wjs_tries.specs.declared.common.Common.{Common}
use Rattle.wjs_tries.specs.declared.common.Rested.{Rested}
use Rattle.wjs_tries.specs.Hiding.{no_owner}
use Rattle.wjs_tries.specs.Meant.{itself, session_meaning, Listed, resting}
use Rattle.wjs_tries.specs.Resting.{Owns}
use Rattle.wjs_tries.specs.Turning.{GoesOnAs}
use Rattle.wjs_tries.proofs.Owning.{worlds_are_own}
use Rattle.wjs_tries.proofs.Repacked.{sound_from}
use Rattle.wjs_activity.proofs.rounds.go_on_or_open.Goals as goal

abbrev At : ℕ → Common → Option Rested → Type 0
At place common o = IfSome o (λ (r : Rested). Rests (worlds_in common.shared) r.resting
    × ((us : Listed) → us.items ≡ set common.apart.items place no_owner → Sound itself (resting us common r)))

abbrev Owning : Common → Option Rested → Type 0
Owning common o = IfSome o (λ (r : Rested). Owns common r × IsArena (joined common.arena r.objects))

both : {A E : Type 0} (P Q : A → Type 0) (r : Result A E) → IfOk r P → IfOk r Q → IfOk r (λ x. P x × Q x)
both P Q (Ok x) h k = (h, k)
both P Q (Err e) h k = tt

pub resume-requires-clause-stands : goal.resume-requires-clause-stands
resume-requires-clause-stands c = (subst (At c.args.place c.args.common) c.in-Some.is c.requires.rests).0

pub resume-requires-clause-place : goal.resume-requires-clause-place
resume-requires-clause-place c = c.requires.place

pub resume-requires-clause-owns : goal.resume-requires-clause-owns
resume-requires-clause-owns c = (subst (Owning c.args.common) c.in-Some.is c.requires.owns).0

pub resume-requires-clause-whole : goal.resume-requires-clause-whole
resume-requires-clause-whole c = (subst (Owning c.args.common) c.in-Some.is c.requires.owns).1

pub resume-requires-clause-worlds : goal.resume-requires-clause-worlds
resume-requires-clause-worlds c = worlds_are_own c.args.common.arena c.requires.common.worlds_by

pub returns-in-Some-clause-running : goal.returns-in-Some-clause-running
returns-in-Some-clause-running c = IfOk-weaker c.resume.result _ _ (λ config h. ap (λ (d : Config Meaning). d.state) h.same) c.resume.ensures.goes_on

pub returns-in-Some-clause-sound : goal.returns-in-Some-clause-sound
returns-in-Some-clause-sound c = IfOk-weaker c.resume.result _ _
    (λ config h. sound_from session_meaning config (subst (Sound itself) (sym h.0.same)
    ((subst (At c.args.place c.args.common) c.in-Some.is c.requires.rests).1 config.apart h.1)))
    (both _ _ c.resume.result c.resume.ensures.goes_on c.resume.ensures.list)

pub returns-in-Some-clause-begun : goal.returns-in-Some-clause-begun
returns-in-Some-clause-begun c = IfOk-weaker c.resume.result _ _
    (λ config h none. let h : None ≡ Some c.in-Some.rest = sym none ∙ c.in-Some.is in absurd (cc)) c.resume.ensures.goes_on

pub returns-in-Some-clause-goes_on : goal.returns-in-Some-clause-goes_on
returns-in-Some-clause-goes_on c = IfOk-weaker c.resume.result _ _
    (λ config h r at. subst (λ (x : Rested). GoesOnAs session_meaning c.args.common x config) (same_Some c.in-Some.rest r (sym c.in-Some.is ∙ at)) h)
    c.resume.ensures.goes_on

pub returns-in-Some-clause-few : goal.returns-in-Some-clause-few
returns-in-Some-clause-few c = IfOk-weaker c.resume.result _ _
    (λ config h none. let h : None ≡ Some c.in-Some.rest = sym none ∙ c.in-Some.is in absurd (cc)) c.resume.ensures.goes_on

pub returns-in-Some-clause-list : goal.returns-in-Some-clause-list
returns-in-Some-clause-list c = IfOk-weaker c.resume.result _ _ (λ config h r at. h) c.resume.ensures.list

pub open_next-requires-clause-apart : goal.open_next-requires-clause-apart
open_next-requires-clause-apart c = c.requires.apart c.in-None.is
