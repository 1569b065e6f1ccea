use Rattle.std.proofs.Common.{sym}
use Rattle.wjs_store.specs.Fixed.{fixed}
use Rattle.wjs_store.specs.State.{slots_at, list, listed}
use Rattle.wjs_store.specs.Shown.{slots_of}
use Rattle.wjs_session.specs.Stores.{worlds_in}
use Rattle.wjs_session.specs.Kept.{IsAlone}
use Rattle.wjs_session.specs.Calls.{Answered, Marks}
use Rattle.wjs_session.proofs.CallLaws.{listed_is, first_list, kept_listed, listed_below, never_alone}
use Rattle.wjs_session.proofs.AnswerLaws.{of_does, ok_answers, on_any}
use Rattle.wjs_session.proofs.MarkLaws.{marks_list, marks_listed}
use Rattle.wjs_session.proofs.calls.list.Goals as goal

pub returns-then-eq-clause-answered : goal.returns-then-eq-clause-answered
returns-then-eq-clause-answered c =
    let F = worlds_in c.args.shared.now in
    let ss = slots_of c.args.object c.in_ok-names.names in
    let d = of_does c.args.shared.now c.list.new.self (list c.args.world c.args.object) (listed ss) c.in_ok-names.ensures.0 in
    first_list F c.args.world (worlds_in c.args.inner.now) c.requires.kept c.args.at c.args.object (worlds_in c.list.new.self) ss (sym c.if-eq.ensures) d.worlds (listed_is ss (slots_at F c.args.world c.args.object) d.answers)

pub bring_all-requires : goal.bring_all-requires
bring_all-requires c =
    let F = worlds_in c.args.shared.now in
    let ss = slots_of c.args.object c.in_ok-names.names in
    let d = of_does c.args.shared.now c.list.new.self (list c.args.world c.args.object) (listed ss) c.in_ok-names.ensures.0 in
    record { kept = kept_listed F c.args.world (worlds_in c.args.inner.now) c.requires.kept c.args.object (worlds_in c.list.new.self) ss d.worlds (listed_is ss (slots_at F c.args.world c.args.object) d.answers) }

pub returns-clause-answered : goal.returns-clause-answered
returns-clause-answered c =
    let F = worlds_in c.args.shared.now in
    let G = worlds_in c.args.inner.now in
    let F1 = worlds_in c.list.new.self in
    let F2 = worlds_in c.bring_all.new.shared in
    let G2 = worlds_in c.bring_all.new.inner in
    let n = c.list-2.new.self in
    let ss = slots_of c.args.object c.in_ok-names.names in
    let d = of_does c.args.shared.now c.list.new.self (list c.args.world c.args.object) (listed ss) c.in_ok-names.ensures.0 in
    ok_answers (fixed G2 c.bring_all.new.inner.spent) (list c.args.at c.args.object) (λ names. listed (slots_of c.args.object names)) c.list-2.result (fixed (worlds_in n) n.spent) c.list-2.ensures
    (λ names. Answered F c.args.world G (list c.args.at c.args.object) (listed (slots_of c.args.object names)) F2 (worlds_in n))
    (λ x e.
    let b = of_does c.bring_all.new.inner n (list c.args.at c.args.object) (listed (slots_of c.args.object x)) e in
    listed_below F c.args.world G c.requires.kept c.args.object F1 ss d.worlds (listed_is ss (slots_at F c.args.world c.args.object) d.answers) F2 G2 (worlds_in n) c.args.at (slots_of c.args.object x) c.in_ok-bring_all.ensures.brought c.in_ok-bring_all.ensures.settled b.worlds (listed_is (slots_of c.args.object x) (slots_at G2 c.args.at c.args.object) b.answers))

pub returns-clause-alone : goal.returns-clause-alone
returns-clause-alone c =
    let F = worlds_in c.args.shared.now in
    let G = worlds_in c.args.inner.now in
    on_any c.list-2.result (IsAlone G → IsAlone (worlds_in c.list-2.new.self)) (λ a. absurd (never_alone F c.args.world G c.requires.kept c.args.at c.requires.there (sym c.if-eq.ensures) a))

pub returns-then-eq-clause-marks : goal.returns-then-eq-clause-marks
returns-then-eq-clause-marks c =
    let ss = slots_of c.args.object c.in_ok-names.names in
    let d = of_does c.args.shared.now c.list.new.self (list c.args.world c.args.object) (listed ss) c.in_ok-names.ensures.0 in
    marks_list (worlds_in c.args.shared.now) c.args.world (worlds_in c.args.inner.now) c.requires.kept c.args.at c.args.object (worlds_in c.list.new.self) d.worlds

pub returns-clause-marks : goal.returns-clause-marks
returns-clause-marks c =
    let F = worlds_in c.args.shared.now in
    let G = worlds_in c.args.inner.now in
    let F1 = worlds_in c.list.new.self in
    let F2 = worlds_in c.bring_all.new.shared in
    let ss = slots_of c.args.object c.in_ok-names.names in
    let d = of_does c.args.shared.now c.list.new.self (list c.args.world c.args.object) (listed ss) c.in_ok-names.ensures.0 in
    on_any c.list-2.result (Marks F c.args.world G (list c.args.at c.args.object) F2) (marks_listed F c.args.world G c.requires.kept c.args.at c.args.object F1 F2 d.worlds c.in_ok-bring_all.ensures.stays)
