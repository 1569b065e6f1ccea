use Rattle.std.proofs.Common.{sym, ap, ◌∙◌}
use Rattle.wjs_store.specs.State.{has_world, content_at, read, write, found, wrote}
use Rattle.wjs_store.specs.Shown.{content_of}
use Rattle.wjs_session.specs.Stores.{worlds_in}
use Rattle.wjs_session.proofs.Looking.{inner_there}
use Rattle.wjs_session.proofs.Bringing.{inner_stays}
use Rattle.wjs_session.proofs.CallLaws.{found_is, bring_same, bring_put}
use Rattle.wjs_session.proofs.AnswerLaws.{of_does}
use Rattle.wjs_session.proofs.calls.bring.Goals as goal

pub read-requires-2 : goal.read-requires-2
read-requires-2 c = inner_there (worlds_in c.args.shared.now) c.args.world (worlds_in c.args.inner.now) c.requires.kept

pub write-requires : goal.write-requires
write-requires c =
    let F = worlds_in c.args.shared.now in
    let G = worlds_in c.args.inner.now in
    let d = of_does c.args.inner.now c.read-2.new.self (read c.args.world c.args.slot) (found (content_of c.in_ok-inside.inside)) c.in_ok-inside.ensures.0 in
    ap (λ H. has_world H c.args.world) (d.worlds ∙ inner_stays F c.args.world G c.requires.kept c.args.slot) ∙ inner_there F c.args.world G c.requires.kept

pub returns-in_ok-write-clause-brought : goal.returns-in_ok-write-clause-brought
returns-in_ok-write-clause-brought c =
    let F = worlds_in c.args.shared.now in
    let G = worlds_in c.args.inner.now in
    let h = content_of c.in_ok-held.held in
    let e = content_of c.in_ok-inside.inside in
    let a = of_does c.args.shared.now c.read.new.self (read c.args.world c.args.slot) (found h) c.in_ok-held.ensures.0 in
    let b = of_does c.args.inner.now c.read-2.new.self (read c.args.world c.args.slot) (found e) c.in_ok-inside.ensures.0 in
    let d = of_does c.read-2.new.self c.write.new.self (write c.args.world c.args.slot h) wrote c.in_ok-write.ensures.0 in
    (bring_put F c.args.world G c.requires.kept c.args.slot (worlds_in c.read.new.self) (worlds_in c.read-2.new.self) h e a.worlds (found_is h (content_at F c.args.world c.args.slot) a.answers) b.worlds (found_is e (content_at G c.args.world c.args.slot) b.answers) (worlds_in c.write.new.self) (sym c.if-not-same_content.ensures) d.worlds).0

pub returns-in_ok-write-clause-settled : goal.returns-in_ok-write-clause-settled
returns-in_ok-write-clause-settled c =
    let F = worlds_in c.args.shared.now in
    let G = worlds_in c.args.inner.now in
    let h = content_of c.in_ok-held.held in
    let e = content_of c.in_ok-inside.inside in
    let a = of_does c.args.shared.now c.read.new.self (read c.args.world c.args.slot) (found h) c.in_ok-held.ensures.0 in
    let b = of_does c.args.inner.now c.read-2.new.self (read c.args.world c.args.slot) (found e) c.in_ok-inside.ensures.0 in
    let d = of_does c.read-2.new.self c.write.new.self (write c.args.world c.args.slot h) wrote c.in_ok-write.ensures.0 in
    (bring_put F c.args.world G c.requires.kept c.args.slot (worlds_in c.read.new.self) (worlds_in c.read-2.new.self) h e a.worlds (found_is h (content_at F c.args.world c.args.slot) a.answers) b.worlds (found_is e (content_at G c.args.world c.args.slot) b.answers) (worlds_in c.write.new.self) (sym c.if-not-same_content.ensures) d.worlds).1

pub returns-else-not-same_content-clause-brought : goal.returns-else-not-same_content-clause-brought
returns-else-not-same_content-clause-brought c =
    let F = worlds_in c.args.shared.now in
    let G = worlds_in c.args.inner.now in
    let h = content_of c.in_ok-held.held in
    let e = content_of c.in_ok-inside.inside in
    let a = of_does c.args.shared.now c.read.new.self (read c.args.world c.args.slot) (found h) c.in_ok-held.ensures.0 in
    let b = of_does c.args.inner.now c.read-2.new.self (read c.args.world c.args.slot) (found e) c.in_ok-inside.ensures.0 in
    (bring_same F c.args.world G c.requires.kept c.args.slot (worlds_in c.read.new.self) (worlds_in c.read-2.new.self) h e a.worlds (found_is h (content_at F c.args.world c.args.slot) a.answers) b.worlds (found_is e (content_at G c.args.world c.args.slot) b.answers) (sym c.if-not-same_content.ensures)).0

pub returns-else-not-same_content-clause-settled : goal.returns-else-not-same_content-clause-settled
returns-else-not-same_content-clause-settled c =
    let F = worlds_in c.args.shared.now in
    let G = worlds_in c.args.inner.now in
    let h = content_of c.in_ok-held.held in
    let e = content_of c.in_ok-inside.inside in
    let a = of_does c.args.shared.now c.read.new.self (read c.args.world c.args.slot) (found h) c.in_ok-held.ensures.0 in
    let b = of_does c.args.inner.now c.read-2.new.self (read c.args.world c.args.slot) (found e) c.in_ok-inside.ensures.0 in
    (bring_same F c.args.world G c.requires.kept c.args.slot (worlds_in c.read.new.self) (worlds_in c.read-2.new.self) h e a.worlds (found_is h (content_at F c.args.world c.args.slot) a.answers) b.worlds (found_is e (content_at G c.args.world c.args.slot) b.answers) (sym c.if-not-same_content.ensures)).1

pub returns-in_ok-write-clause-reads : goal.returns-in_ok-write-clause-reads
returns-in_ok-write-clause-reads c = (of_does c.args.shared.now c.read.new.self (read c.args.world c.args.slot) (found (content_of c.in_ok-held.held)) c.in_ok-held.ensures.0).worlds

pub returns-else-not-same_content-clause-reads : goal.returns-else-not-same_content-clause-reads
returns-else-not-same_content-clause-reads c = (of_does c.args.shared.now c.read.new.self (read c.args.world c.args.slot) (found (content_of c.in_ok-held.held)) c.in_ok-held.ensures.0).worlds
