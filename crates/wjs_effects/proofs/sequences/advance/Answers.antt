use Rattle.std.proofs.Common.{sym, subst}
use Rattle.std.specs.Prelude.{IfOk, IfSome}
use Rattle.wjs_heap_steps.proofs.Later.{later_same}
use Rattle.wjs_effects.specs.Proceeding.{Proceeds}
use Rattle.wjs_effects.specs.declared.sequences.Reached.{Reached}
use Rattle.wjs_effects.specs.Sequences.{sequence_left}
use Rattle.wjs_effects.proofs.sequences.advance.Goals as goal

pub returns-in-Next-clause-proceeds : goal.returns-in-Next-clause-proceeds
returns-in-Next-clause-proceeds g c =
    let m = g.S.WorldStore.meaning in
    let f = c.args.frame.now in
    let old = c.args.config.now in
    let new = c.next_element.new.config in
    subst (λ (a : Reached). IfOk c.next_element.result (λ next. IfSome next (λ p. Proceeds m (sequence_left m old f c.args.kind a) (sequence_left m new f c.args.kind p) old new))) (sym c.in-Next.is) c.next_element.ensures.proceeds

pub returns-in-Ended-clause-later : goal.returns-in-Ended-clause-later
returns-in-Ended-clause-later g c = later_same g.S.WorldStore.meaning c.args.config.now c.requires.base
