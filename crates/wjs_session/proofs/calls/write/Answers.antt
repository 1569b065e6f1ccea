use Rattle.std.proofs.Common.{◌≡◌, false, sym}
use Rattle.std.proofs.lemmas.Bool.{not-true, not-false}
use Rattle.wjs_store.specs.Fixed.{fixed}
use Rattle.wjs_store.specs.State.{same_world, write, wrote}
use Rattle.wjs_store.specs.Shown.{content_of}
use Rattle.wjs_session.specs.Stores.{worlds_in}
use Rattle.wjs_session.specs.Kept.{IsAlone}
use Rattle.wjs_session.specs.Calls.{Answered, Marks}
use Rattle.wjs_session.proofs.CallLaws.{first_write, both_write, inner_write, never_alone}
use Rattle.wjs_session.proofs.AnswerLaws.{of_does, on_answers, on_any}
use Rattle.wjs_session.proofs.MarkLaws.{marks_below, marks_write}
use Rattle.wjs_session.proofs.calls.write.Goals as goal

pub returns-then-ne-clause-answered : goal.returns-then-ne-clause-answered
returns-then-ne-clause-answered c =
    let F = worlds_in c.args.shared.now in
    let G = worlds_in c.args.inner.now in
    let F1 = worlds_in c.bring.new.shared in
    let G1 = worlds_in c.bring.new.inner in
    let n = c.write.new.self in
    let a = write c.args.at c.args.slot (content_of c.args.content) in
    let apart = not-true (same_world c.args.at c.args.world) (sym c.if-ne.ensures) in
    on_answers (fixed G1 c.bring.new.inner.spent) a (λ _. wrote) c.write.result (fixed (worlds_in n) n.spent) c.write.ensures
    (Answered F c.args.world G a wrote F1 (worlds_in n))
    (λ x d. inner_write F c.args.world G c.requires.kept F1 G1 (worlds_in n) c.in_ok-bring.ensures.brought c.args.at c.args.slot (content_of c.args.content) apart c.in_ok-bring.ensures.settled (of_does c.bring.new.inner n a wrote d).worlds)

pub returns-then-ne-clause-alone : goal.returns-then-ne-clause-alone
returns-then-ne-clause-alone c =
    let F = worlds_in c.args.shared.now in
    let G = worlds_in c.args.inner.now in
    let apart = not-true (same_world c.args.at c.args.world) (sym c.if-ne.ensures) in
    on_any c.write.result (c.args.nested ≡ false → IsAlone (worlds_in c.write.new.self)) (λ e. absurd (never_alone F c.args.world G c.requires.kept c.args.at c.requires.there apart (c.requires.alone e)))

pub returns-then-nested-clause-answered : goal.returns-then-nested-clause-answered
returns-then-nested-clause-answered c =
    let F = worlds_in c.args.shared.now in
    let G = worlds_in c.args.inner.now in
    let m = c.write-2.new.self in
    let n = c.write-then-nested.new.self in
    let v = content_of c.args.content in
    let a = write c.args.world c.args.slot v in
    let here = not-false (same_world c.args.at c.args.world) (sym c.if-ne.ensures) in
    let outside = of_does c.args.shared.now m a wrote c.in_ok-write.ensures.0 in
    on_answers (fixed G c.args.inner.now.spent) a (λ _. wrote) c.write-then-nested.result (fixed (worlds_in n) n.spent) c.write-then-nested.ensures
    (Answered F c.args.world G (write c.args.at c.args.slot v) wrote (worlds_in m) (worlds_in n))
    (λ x d. both_write F c.args.world G c.requires.kept c.args.at c.args.slot v (worlds_in m) (worlds_in n) here outside.worlds (of_does c.args.inner.now n a wrote d).worlds)

pub returns-clause-answered : goal.returns-clause-answered
returns-clause-answered c =
    let F = worlds_in c.args.shared.now in
    let G = worlds_in c.args.inner.now in
    let m = c.write-2.new.self in
    let v = content_of c.args.content in
    let here = not-false (same_world c.args.at c.args.world) (sym c.if-ne.ensures) in
    let outside = of_does c.args.shared.now m (write c.args.world c.args.slot v) wrote c.in_ok-write.ensures.0 in
    first_write F c.args.world G c.requires.kept c.args.at c.args.slot v (worlds_in m) here outside.worlds (c.requires.alone c.if-nested.false)

pub returns-then-ne-clause-marks : goal.returns-then-ne-clause-marks
returns-then-ne-clause-marks c =
    let F = worlds_in c.args.shared.now in
    let G = worlds_in c.args.inner.now in
    let F1 = worlds_in c.bring.new.shared in
    let v = content_of c.args.content in
    let apart = not-true (same_world c.args.at c.args.world) (sym c.if-ne.ensures) in
    on_any c.write.result (Marks F c.args.world G (write c.args.at c.args.slot v) F1) (marks_below F c.args.world G c.requires.kept c.args.at c.args.slot v F1 apart c.in_ok-bring.ensures.reads)

pub returns-then-nested-clause-marks : goal.returns-then-nested-clause-marks
returns-then-nested-clause-marks c =
    let F = worlds_in c.args.shared.now in
    let G = worlds_in c.args.inner.now in
    let m = c.write-2.new.self in
    let v = content_of c.args.content in
    let here = not-false (same_world c.args.at c.args.world) (sym c.if-ne.ensures) in
    on_any c.write-then-nested.result (Marks F c.args.world G (write c.args.at c.args.slot v) (worlds_in m)) (marks_write F c.args.world G c.requires.kept c.args.at c.args.slot v (worlds_in m) here (of_does c.args.shared.now m (write c.args.world c.args.slot v) wrote c.in_ok-write.ensures.0).worlds)

pub returns-clause-marks : goal.returns-clause-marks
returns-clause-marks c =
    let F = worlds_in c.args.shared.now in
    let G = worlds_in c.args.inner.now in
    let m = c.write-2.new.self in
    let v = content_of c.args.content in
    let here = not-false (same_world c.args.at c.args.world) (sym c.if-ne.ensures) in
    marks_write F c.args.world G c.requires.kept c.args.at c.args.slot v (worlds_in m) here (of_does c.args.shared.now m (write c.args.world c.args.slot v) wrote c.in_ok-write.ensures.0).worlds
