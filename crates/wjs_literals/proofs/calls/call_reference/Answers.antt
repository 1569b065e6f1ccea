use Rattle.wjs_meaning.specs.Expressions.{call_callee, base_of}
use Rattle.wjs_meaning.specs.Reading.{node_in}
use Rattle.wjs_model.specs.Contents.{reference_in}
use Rattle.wjs_frames.specs.Parts.{node_among}
use Rattle.wjs_model.specs.Lists.{arguments_of}
use Rattle.wjs_literals.proofs.Lines.{does_line}
use Rattle.wjs_frames.proofs.Handling.{runs_later}
use Rattle.wjs_literals.proofs.calls.call_reference.Goals as goal

pub call_callee-requires-clause-runs : goal.call_callee-requires-clause-runs
call_callee-requires-clause-runs g c = runs_later _ _ _ _ c.requires.runs c.in_ok-answer.ensures.later

pub returns-in-Ok : goal.returns-in-Ok
returns-in-Ok g c =
    let m = g.S.WorldStore.meaning in
    let f = c.args.frame in
    let t = c.call_callee.new.config.heap.texts in
    let d = rw c.in-Ok.is at c.in_ok-answer.ensures.does in
    does_line m _ _ f (λ us e v. call_callee (arguments_of (node_in t (node_among us f.tree f.node))) (base_of (reference_in t c.args.reference)) e v) c.args.config.now c.value_of.new.config c.call_callee.new.config c.call_callee.result d c.in_ok-answer.ensures.later
    (rw (c.base_of-this.ensures.is t) at c.call_callee.ensures)
