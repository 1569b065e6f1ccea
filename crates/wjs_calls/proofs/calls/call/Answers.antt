use Rattle.std.proofs.Common.{ap}
use Rattle.wjs_arena.specs.declared.object.Code.{Code}
use Rattle.wjs_by_content.specs.Objects.{Arena, object_at}
use Rattle.wjs_by_content.specs.Tables.{value_in}
use Rattle.wjs_meaning.specs.Calls.{call_code}
use Rattle.wjs_model.specs.Contents.{holding_in}
use Rattle.wjs_frames.specs.Parts.{env_in}
use Rattle.wjs_frames.proofs.Shorter.{follows_look}
use Rattle.wjs_calls.proofs.calls.call.Goals as goal

pub returns-in-None : goal.returns-in-None
returns-in-None g c =
    let m = g.S.WorldStore.meaning in
    let old = c.args.config.now in
    let new = c.throw.new.config in
    let t = new.heap.texts in
    let by = λ (k : Code). call_code k c.args.function (value_in t c.args.this) (holding_in t c.args.frame.held).values (env_in m old t c.args.frame) in
    follows_look m (λ (arena : Arena). by (object_at arena c.args.function).code) _ old new c.throw.result (λ arena s. ap by (c.in-None.ensures.is t arena s)) c.throw.ensures

pub returns-in-Script : goal.returns-in-Script
returns-in-Script g c =
    let m = g.S.WorldStore.meaning in
    let old = c.args.config.now in
    let new = c.call_script.new.config in
    let t = new.heap.texts in
    let by = λ (k : Code). call_code k c.args.function (value_in t c.args.this) (holding_in t c.args.frame.held).values (env_in m old t c.args.frame) in
    follows_look m (λ (arena : Arena). by (object_at arena c.args.function).code) _ old new c.call_script.result (λ arena s. ap by (c.in-Script.ensures.is t arena s)) c.call_script.ensures

pub returns-in-Native : goal.returns-in-Native
returns-in-Native g c =
    let m = g.S.WorldStore.meaning in
    let old = c.args.config.now in
    let new = c.call_native.new.config in
    let t = new.heap.texts in
    let by = λ (k : Code). call_code k c.args.function (value_in t c.args.this) (holding_in t c.args.frame.held).values (env_in m old t c.args.frame) in
    follows_look m (λ (arena : Arena). by (object_at arena c.args.function).code) _ old new c.call_native.result (λ arena s. ap by (c.in-Native.ensures.is t arena s)) c.call_native.ensures
