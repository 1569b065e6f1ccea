use Rattle.std.proofs.Common.{sym}
use Rattle.wjs_store.specs.Fixed.{fixed}
use Rattle.wjs_store.specs.State.{content_at, read, found}
use Rattle.wjs_store.specs.Shown.{content_of}
use Rattle.wjs_session.specs.Stores.{worlds_in}
use Rattle.wjs_session.specs.Kept.{IsAlone}
use Rattle.wjs_session.specs.Calls.{Answered, Marks}
use Rattle.wjs_session.proofs.CallLaws.{found_is, first_read, inner_read, never_alone}
use Rattle.wjs_session.proofs.AnswerLaws.{of_does, ok_answers, on_answers, on_any}
use Rattle.wjs_session.proofs.MarkLaws.{marks_read}
use Rattle.wjs_session.proofs.calls.read.Goals as goal

pub returns-then-eq-clause-answered : goal.returns-then-eq-clause-answered
returns-then-eq-clause-answered c =
    let F = worlds_in c.args.shared.now in
    let G = worlds_in c.args.inner.now in
    let n = c.read.new.self in
    ok_answers (fixed F c.args.shared.now.spent) (read c.args.world c.args.slot) (λ content. found (content_of content)) c.read.result (fixed (worlds_in n) n.spent) c.read.ensures
    (λ content. Answered F c.args.world G (read c.args.at c.args.slot) (found (content_of content)) (worlds_in n) G)
    (λ x d.
    let e = of_does c.args.shared.now n (read c.args.world c.args.slot) (found (content_of x)) d in
    first_read F c.args.world G c.requires.kept c.args.at c.args.slot (worlds_in n) (content_of x) (sym c.if-eq.ensures) e.worlds (found_is (content_of x) (content_at F c.args.world c.args.slot) e.answers))

pub returns-clause-answered : goal.returns-clause-answered
returns-clause-answered c =
    let F = worlds_in c.args.shared.now in
    let G = worlds_in c.args.inner.now in
    let F1 = worlds_in c.bring.new.shared in
    let G1 = worlds_in c.bring.new.inner in
    let n = c.read-2.new.self in
    ok_answers (fixed G1 c.bring.new.inner.spent) (read c.args.at c.args.slot) (λ content. found (content_of content)) c.read-2.result (fixed (worlds_in n) n.spent) c.read-2.ensures
    (λ content. Answered F c.args.world G (read c.args.at c.args.slot) (found (content_of content)) F1 (worlds_in n))
    (λ x d.
    let e = of_does c.bring.new.inner n (read c.args.at c.args.slot) (found (content_of x)) d in
    inner_read F c.args.world G c.requires.kept F1 G1 (worlds_in n) c.in_ok-bring.ensures.brought c.args.at c.args.slot (content_of x) c.in_ok-bring.ensures.settled e.worlds (found_is (content_of x) (content_at G1 c.args.at c.args.slot) e.answers))

pub returns-clause-alone : goal.returns-clause-alone
returns-clause-alone c =
    let F = worlds_in c.args.shared.now in
    let G = worlds_in c.args.inner.now in
    on_any c.read-2.result (IsAlone G → IsAlone (worlds_in c.read-2.new.self)) (λ a. absurd (never_alone F c.args.world G c.requires.kept c.args.at c.requires.there (sym c.if-eq.ensures) a))

pub returns-then-eq-clause-marks : goal.returns-then-eq-clause-marks
returns-then-eq-clause-marks c =
    let F = worlds_in c.args.shared.now in
    let G = worlds_in c.args.inner.now in
    let n = c.read.new.self in
    on_answers (fixed F c.args.shared.now.spent) (read c.args.world c.args.slot) (λ content. found (content_of content)) c.read.result (fixed (worlds_in n) n.spent) c.read.ensures
    (Marks F c.args.world G (read c.args.at c.args.slot) (worlds_in n))
    (λ x d. marks_read F c.args.world G c.requires.kept c.args.at c.args.slot (worlds_in n) (of_does c.args.shared.now n (read c.args.world c.args.slot) (found (content_of x)) d).worlds)

pub returns-clause-marks : goal.returns-clause-marks
returns-clause-marks c =
    let F = worlds_in c.args.shared.now in
    let G = worlds_in c.args.inner.now in
    let F1 = worlds_in c.bring.new.shared in
    on_any c.read-2.result (Marks F c.args.world G (read c.args.at c.args.slot) F1) (marks_read F c.args.world G c.requires.kept c.args.at c.args.slot F1 c.in_ok-bring.ensures.reads)
