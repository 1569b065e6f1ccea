use Rattle.std.proofs.Common.{Option, ap}
use Rattle.wjs_base.specs.declared.ids.ObjId.{ObjId}
use Rattle.wjs_by_content.specs.Objects.{Arena, function_of}
use Rattle.wjs_by_content.specs.Tables.{value_in}
use Rattle.wjs_meaning.specs.Calls.{call_found}
use Rattle.wjs_model.specs.Contents.{holding_in}
use Rattle.wjs_frames.specs.Parts.{env_in}
use Rattle.wjs_frames.proofs.Shorter.{follows_look}
use Rattle.wjs_calls.proofs.calls.call_value.Goals as goal

pub returns-in-Some : goal.returns-in-Some
returns-in-Some g c =
    let m = g.S.WorldStore.meaning in
    let old = c.args.config.now in
    let new = c.call.new.config in
    let t = new.heap.texts in
    let by = λ (f : Option ObjId). call_found f (value_in t c.args.this) (holding_in t c.args.frame.held).values (env_in m old t c.args.frame) in
    follows_look m (λ (arena : Arena). by (function_of arena (value_in t c.args.callee))) _ old new c.call.result (λ arena s. ap by (c.in-Some.ensures.is t arena s)) c.call.ensures

pub returns-in-None : goal.returns-in-None
returns-in-None g c =
    let m = g.S.WorldStore.meaning in
    let old = c.args.config.now in
    let new = c.throw.new.config in
    let t = new.heap.texts in
    let by = λ (f : Option ObjId). call_found f (value_in t c.args.this) (holding_in t c.args.frame.held).values (env_in m old t c.args.frame) in
    follows_look m (λ (arena : Arena). by (function_of arena (value_in t c.args.callee))) _ old new c.throw.result (λ arena s. ap by (c.in-None.ensures.is t arena s)) c.throw.ensures
