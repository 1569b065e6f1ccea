use Rattle.std.proofs.Common.{Option, ap, ◌∙◌}
use Rattle.wjs_base.specs.declared.ids.ObjId.{ObjId}
use Rattle.wjs_by_content.specs.Objects.{Arena, Internals, function_of}
use Rattle.wjs_by_content.specs.Tables.{value_in}
use Rattle.wjs_meaning.specs.Constructions.{new_found, new_code}
use Rattle.wjs_model.specs.Contents.{holding_in}
use Rattle.wjs_frames.specs.Parts.{env_in}
use Rattle.wjs_frames.proofs.Shorter.{follows_look}
use Rattle.wjs_heap_steps.proofs.Seeing.{object_found_as}
use Rattle.wjs_calls.proofs.news.construct.Goals as goal

pub returns-in-None : goal.returns-in-None
returns-in-None g c =
    let m = g.S.WorldStore.meaning in
    let old = c.args.config.now in
    let new = c.throw.new.config in
    let t = new.heap.texts in
    let env = env_in m old t c.args.frame in
    let vs = (holding_in t c.args.frame.held).values in
    follows_look m (λ (arena : Arena). new_found (function_of arena (value_in t c.args.callee)) arena vs env) _ old new c.throw.result (λ arena s. ap (λ (o : Option ObjId). new_found o arena vs env) (c.in-None.ensures.is t arena s)) c.throw.ensures

pub returns-in-Some : goal.returns-in-Some
returns-in-Some g c =
    let m = g.S.WorldStore.meaning in
    let old = c.args.config.now in
    let new = c.construct_function.new.config in
    let t = new.heap.texts in
    let env = env_in m old t c.args.frame in
    let vs = (holding_in t c.args.frame.held).values in
    follows_look m (λ (arena : Arena). new_found (function_of arena (value_in t c.args.callee)) arena vs env) _ old new c.construct_function.result
    (λ arena s.
    ap (λ (o : Option ObjId). new_found o arena vs env) (c.in-Some.ensures.is t arena s)
    ∙ ap (λ (x : Internals). new_code x.code c.in-Some.function vs env) (object_found_as old.heap.arena t arena s c.in-Some.function c.in-Some.ensures.found.0))
    c.construct_function.ensures
