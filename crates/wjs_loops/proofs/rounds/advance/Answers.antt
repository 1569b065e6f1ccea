use Rattle.std.proofs.Common.{sym, subst}
use Rattle.std.specs.Prelude.{IfOk, IfSome}
use Rattle.wjs_heap_steps.proofs.Later.{later_same}
use Rattle.wjs_effects.specs.Proceeding.{Proceeds}
use Rattle.wjs_loops.specs.declared.rounds.Position.{Position}
use Rattle.wjs_loops.specs.Rounds.{position_left, HasPosition}
use Rattle.wjs_loops.proofs.rounds.advance.Goals as goal

pub returns-in-Again-clause-proceeds : goal.returns-in-Again-clause-proceeds
returns-in-Again-clause-proceeds g c =
    let m = g.S.WorldStore.meaning in
    let f = c.args.frame.now in
    let old = c.args.config.now in
    let new = c.next_iteration.new.config in
    subst (λ (a : Position). IfSome c.next_iteration.result (λ p. Proceeds m (position_left m old f a) (position_left m new f p) old new)) (sym c.in-Again.is) c.next_iteration.ensures.proceeds

pub returns-in-Test-clause-proceeds : goal.returns-in-Test-clause-proceeds
returns-in-Test-clause-proceeds g c =
    let m = g.S.WorldStore.meaning in
    let f = c.args.frame.now in
    let old = c.args.config.now in
    let new = c.test_at_once.new.config in
    subst (λ (a : Position). IfSome c.test_at_once.result (λ p. Proceeds m (position_left m old f a) (position_left m new f p) old new)) (sym c.in-Test.is) c.test_at_once.ensures.proceeds

pub returns-in-Body-clause-proceeds : goal.returns-in-Body-clause-proceeds
returns-in-Body-clause-proceeds g c =
    let m = g.S.WorldStore.meaning in
    let f = c.args.frame.now in
    let old = c.args.config.now in
    let new = c.body_at_once.new.config in
    subst (λ (a : Position). IfOk c.body_at_once.result (λ next. IfSome next (λ p. Proceeds m (position_left m old f a) (position_left m new f p) old new))) (sym c.in-Body.is) c.body_at_once.ensures.proceeds

pub returns-in-Within-clause-proceeds : goal.returns-in-Within-clause-proceeds
returns-in-Within-clause-proceeds g c =
    let m = g.S.WorldStore.meaning in
    let f = c.args.frame.now in
    let old = c.args.config.now in
    let new = c.next_within.new.config in
    subst (λ (a : Position). IfOk c.next_within.result (λ next. IfSome next (λ p. Proceeds m (position_left m old f a) (position_left m new f p) old new))) (sym c.in-Within.is) c.next_within.ensures.proceeds

pub returns-in-Update-clause-proceeds : goal.returns-in-Update-clause-proceeds
returns-in-Update-clause-proceeds g c =
    let m = g.S.WorldStore.meaning in
    let f = c.args.frame.now in
    let old = c.args.config.now in
    let new = c.update_at_once.new.config in
    subst (λ (a : Position). IfOk c.update_at_once.result (λ next. IfSome next (λ p. Proceeds m (position_left m old f a) (position_left m new f p) old new))) (sym c.in-Update.is) c.update_at_once.ensures.proceeds

pub test_at_once-requires-clause-update : goal.test_at_once-requires-clause-update
test_at_once-requires-clause-update g c = (subst (λ (p : Position). HasPosition c.args.config.now c.args.frame.now p) c.in-Test.is c.requires.at).1.0

pub test_at_once-requires-clause-body : goal.test_at_once-requires-clause-body
test_at_once-requires-clause-body g c = (subst (λ (p : Position). HasPosition c.args.config.now c.args.frame.now p) c.in-Test.is c.requires.at).1.1

pub body_at_once-requires-clause-update : goal.body_at_once-requires-clause-update
body_at_once-requires-clause-update g c = (subst (λ (p : Position). HasPosition c.args.config.now c.args.frame.now p) c.in-Body.is c.requires.at).0

pub body_at_once-requires-clause-body : goal.body_at_once-requires-clause-body
body_at_once-requires-clause-body g c = (subst (λ (p : Position). HasPosition c.args.config.now c.args.frame.now p) c.in-Body.is c.requires.at).1

pub next_within-requires-clause-update : goal.next_within-requires-clause-update
next_within-requires-clause-update g c = (subst (λ (p : Position). HasPosition c.args.config.now c.args.frame.now p) c.in-Within.is c.requires.at).0

pub next_within-requires-clause-body : goal.next_within-requires-clause-body
next_within-requires-clause-body g c = (subst (λ (p : Position). HasPosition c.args.config.now c.args.frame.now p) c.in-Within.is c.requires.at).1

pub returns-in-Ended-clause-later : goal.returns-in-Ended-clause-later
returns-in-Ended-clause-later g c = later_same g.S.WorldStore.meaning c.args.config.now c.requires.base
