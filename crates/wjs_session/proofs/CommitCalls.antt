-- A commit of a session, by what its inner store answered.
use Rattle.std.proofs.Common.{◌≡◌, ◌≢◌, Bool, true, false, refl, ap, sym, ◌∙◌, subst, Some, is_some}
use Rattle.std.proofs.lemmas.Bool.{true≢false}
use Rattle.wjs_base.specs.declared.ids.WorldId.{WorldId}
use Rattle.wjs_base.specs.declared.values.Slot.{Slot}
use Rattle.wjs_store.specs.Naming.{plain}
use Rattle.wjs_store.specs.Meaning.{Worlds}
use Rattle.wjs_store.specs.State.{World, Verdict, same_world, find_world, has_world, verdict_at, after_commit, commit, committed, moved}
use Rattle.wjs_store.proofs.Moved.{pass}
use Rattle.wjs_store.proofs.Refused.{refused_stays}
use Rattle.wjs_session.specs.Kept.{IsSession, IsAlone}
use Rattle.wjs_session.specs.Calls.{Answered}
use Rattle.wjs_session.proofs.Worlds.{all_find, first_alone}
use Rattle.wjs_session.proofs.Alone.{alone_first}

pub commit_by : (F : Worlds) (i : WorldId) (G : Worlds) (d : WorldId) (F2 G2 G3 : Worlds) (v : Verdict Slot) → G2 ≡ G → Answered F i G (commit d) (committed (verdict_at G d)) F2 (after_commit G d) → G3 ≡ after_commit G2 d → v ≡ verdict_at G2 d → Answered F i G (commit d) (committed v) F2 G3
commit_by F i G d F2 G2 G3 v e a e3 ev =
    subst (λ (r : Verdict Slot). Answered F i G (commit d) (committed r) F2 G3) (sym (ev ∙ ap (λ K. verdict_at K d) e))
    (subst (λ (K : Worlds). Answered F i G (commit d) (committed (verdict_at G d)) F2 K) (sym (e3 ∙ ap (λ K. after_commit K d) e)) a)

-- a session without worlds below its own stays so
pub commit_alone : (F : Worlds) (i : WorldId) (G : Worlds) → IsSession F i G → (d : WorldId) → has_world G d ≡ true → IsAlone G → IsAlone (after_commit G d)
commit_alone F i G k d there a = subst IsAlone (sym (refused_stays G d none)) a
  where
    none : verdict_at G d ≢ moved
    none h =
        let p = pass G d h in
        let found : find_world G d ≡ Some p.child = ap (find_world G) (sym p.child_id) ∙ p.child_there in
        let first : same_world p.child.id i ≡ true = ap (λ j. same_world j i) p.child_id ∙ alone_first G i d a k.first there in
        true≢false (sym (ap is_some p.up) ∙ all_find (λ (y : World plain). same_world y.id i ≡ true → is_some y.parent ≡ false) G d p.child (first_alone G i k.inner k.first) found first)
