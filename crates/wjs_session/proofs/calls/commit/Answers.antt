use Rattle.std.proofs.Common.{◌≡◌, true, false, refl, sym, ap, ◌∙◌, subst}
use Rattle.std.proofs.lemmas.Bool.{false≢true}
use Rattle.wjs_store.specs.Fixed.{fixed}
use Rattle.wjs_store.specs.State.{verdict_at, after_commit, commit, committed}
use Rattle.wjs_store.specs.Shown.{verdict_of}
use Rattle.wjs_overlay.specs.declared.overlay.Overlay.{Overlay}
use Rattle.wjs_session.specs.Stores.{worlds_in}
use Rattle.wjs_session.specs.Calls.{Answered, Marks}
use Rattle.wjs_session.specs.Kept.{IsAlone}
use Rattle.wjs_session.proofs.Committing.{commit_into, commit_past}
use Rattle.wjs_session.proofs.CommitCalls.{commit_by, commit_alone}
use Rattle.wjs_session.proofs.CallLaws.{committed_is}
use Rattle.wjs_session.proofs.AnswerLaws.{of_does, ok_answers, on_answers, on_any}
use Rattle.wjs_session.proofs.MarkLaws.{marks_into, marks_past}
use Rattle.wjs_session.proofs.calls.commit.Goals.{then-moves_into+in_ok-carry, else-moves_into}
use Rattle.wjs_session.proofs.calls.commit.Goals as goal

pub returns-clause-answered : goal.returns-clause-answered
returns-clause-answered c =
    let F = worlds_in c.args.shared.now in
    let G = worlds_in c.args.inner.now in
    let i = c.args.world in
    let d = c.args.at in
    let k = c.requires.kept in
    let P : Overlay → Type 0 = λ o. Answered F i G (commit d) (committed (verdict_at G d)) (worlds_in o) (after_commit G d) in
    let same : worlds_in c.if-moves_into.inner ≡ G = elim c.if-moves_into.branch [ then-moves_into+in_ok-carry w ↦ ap worlds_in w.inner-is ∙ w.in_ok-carry.ensures.inner | else-moves_into w ↦ ap worlds_in w.inner-is ] in
    let did : P c.if-moves_into.shared = elim c.if-moves_into.branch [ then-moves_into+in_ok-carry w ↦ subst P (sym w.shared-is) (commit_into F i G k d (worlds_in w.carry.new.shared) w.in_ok-carry.ensures.carried (w.if-moves_into.ensures.0 refl).0 (w.if-moves_into.ensures.0 refl).1) | else-moves_into w ↦ subst P (sym w.shared-is) (commit_past F i G k d (λ p. false≢true (w.if-moves_into.ensures.1 p))) ] in
    let n = c.commit.new.self in
    let H = worlds_in c.if-moves_into.inner in
    ok_answers (fixed H c.if-moves_into.inner.spent) (commit d) (λ verdict. committed (verdict_of verdict)) c.commit.result (fixed (worlds_in n) n.spent) c.commit.ensures
    (λ verdict. Answered F i G (commit d) (committed (verdict_of verdict)) (worlds_in c.if-moves_into.shared) (worlds_in n))
    (λ x e.
    let a = of_does c.if-moves_into.inner n (commit d) (committed (verdict_of x)) e in
    commit_by F i G d (worlds_in c.if-moves_into.shared) H (worlds_in n) (verdict_of x) same did a.worlds (committed_is (verdict_of x) (verdict_at H d) a.answers))

pub returns-clause-alone : goal.returns-clause-alone
returns-clause-alone c =
    let F = worlds_in c.args.shared.now in
    let G = worlds_in c.args.inner.now in
    let d = c.args.at in
    let same : worlds_in c.if-moves_into.inner ≡ G = elim c.if-moves_into.branch [ then-moves_into+in_ok-carry w ↦ ap worlds_in w.inner-is ∙ w.in_ok-carry.ensures.inner | else-moves_into w ↦ ap worlds_in w.inner-is ] in
    let n = c.commit.new.self in
    let H = worlds_in c.if-moves_into.inner in
    on_answers (fixed H c.if-moves_into.inner.spent) (commit d) (λ verdict. committed (verdict_of verdict)) c.commit.result (fixed (worlds_in n) n.spent) c.commit.ensures
    (IsAlone G → IsAlone (worlds_in n))
    (λ x e a. subst IsAlone (sym ((of_does c.if-moves_into.inner n (commit d) (committed (verdict_of x)) e).worlds ∙ ap (λ K. after_commit K d) same)) (commit_alone F c.args.world G c.requires.kept d c.requires.there a))

pub returns-clause-marks : goal.returns-clause-marks
returns-clause-marks c =
    let F = worlds_in c.args.shared.now in
    let G = worlds_in c.args.inner.now in
    let i = c.args.world in
    let d = c.args.at in
    let k = c.requires.kept in
    let P : Overlay → Type 0 = λ o. Marks F i G (commit d) (worlds_in o) in
    let did : P c.if-moves_into.shared = elim c.if-moves_into.branch [ then-moves_into+in_ok-carry w ↦ subst P (sym w.shared-is) (marks_into F i G k d (worlds_in w.carry.new.shared) (w.if-moves_into.ensures.0 refl).0 (w.if-moves_into.ensures.0 refl).1 w.in_ok-carry.ensures.writes) | else-moves_into w ↦ subst P (sym w.shared-is) (marks_past F i G k d (λ p. false≢true (w.if-moves_into.ensures.1 p))) ] in
    on_any c.commit.result (P c.if-moves_into.shared) did
