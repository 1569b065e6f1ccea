use Rattle.std.proofs.Common.{Option, sym, subst}
use Rattle.std.specs.Prelude.{IfOk, IfSome}
use Rattle.wjs_base.specs.declared.ids.NodeId.{NodeId}
use Rattle.wjs_heap_steps.proofs.Later.{later_same}
use Rattle.wjs_effects.specs.Proceeding.{Proceeds}
use Rattle.wjs_effects.proofs.Proceeding.{proceeds_same}
use Rattle.wjs_loops.specs.declared.rounds.Position.TheVariants as positions
use Rattle.wjs_loops.specs.Rounds.{position_left}
use Rattle.wjs_loops.proofs.rounds.update_at_once.Goals as goal

pub returns-in-Some-clause-proceeds : goal.returns-in-Some-clause-proceeds
returns-in-Some-clause-proceeds g c =
    let m = g.S.WorldStore.meaning in
    let f = c.args.frame.now in
    let old = c.args.config.now in
    let new = c.update_expression.new.config in
    subst (λ (o : Option NodeId). IfOk c.update_expression.result (λ next. IfSome next (λ p. Proceeds m (position_left m old f (positions.Update o)) (position_left m new f p) old new))) (sym c.in-Some.is) c.update_expression.ensures.proceeds

pub returns-in-None-clause-proceeds : goal.returns-in-None-clause-proceeds
returns-in-None-clause-proceeds g c =
    let m = g.S.WorldStore.meaning in
    let f = c.args.frame.now in
    let old = c.args.config.now in
    subst (λ (o : Option NodeId). Proceeds m (position_left m old f (positions.Update o)) (position_left m old f positions.Again) old old) (sym c.in-None.is) (proceeds_same m (position_left m old f positions.Again) old)

pub returns-in-None-clause-later : goal.returns-in-None-clause-later
returns-in-None-clause-later g c = later_same g.S.WorldStore.meaning c.args.config.now c.requires.base
