use Rattle.std.proofs.Common.{Option, ap, ◌∙◌}
use Rattle.std.specs.Prelude.{◌++◌, codes}
use Rattle.wjs_base.specs.declared.ids.ObjId.{ObjId}
use Rattle.wjs_by_content.specs.Objects.{Arena, Internals, function_of}
use Rattle.wjs_by_content.specs.Tables.{value_in}
use Rattle.wjs_meaning.specs.Errors.{give_text}
use Rattle.wjs_meaning.specs.NativesOfObjects as line
use Rattle.wjs_meaning.specs.Table.{row_of}
use Rattle.wjs_frames.specs.Parts.{env_in}
use Rattle.wjs_frames.proofs.Shorter.{follows_look}
use Rattle.wjs_heap_steps.proofs.Seeing.{object_found_as}
use Rattle.wjs_native_core.proofs.functions.give_source.Goals as goal

pub returns-in-Some : goal.returns-in-Some
returns-in-Some g c =
    let m = g.S.WorldStore.meaning in
    let old = c.args.config.now in
    let new = c.give_source_of.new.config in
    let t = new.heap.texts in
    let env = env_in m old t c.args.frame in
    let by = λ (f : Option ObjId) (arena : Arena). line.function_text f arena (λ k. (row_of k).name) env in
    follows_look m (λ (arena : Arena). by (function_of arena (value_in t c.args.this)) arena) _ old new c.give_source_of.result
    (λ arena s.
    ap (λ (f : Option ObjId). by f arena) (c.in-Some.ensures.is t arena s)
    ∙ ap (λ (x : Internals). give_text (codes "function " ++ line.code_name x.code (λ k. (row_of k).name) env ++ codes "() { }") env) (object_found_as old.heap.arena t arena s c.in-Some.function c.in-Some.ensures.found.0))
    c.give_source_of.ensures

pub returns-in-None : goal.returns-in-None
returns-in-None g c =
    let m = g.S.WorldStore.meaning in
    let old = c.args.config.now in
    let new = c.throw.new.config in
    let t = new.heap.texts in
    let by = λ (f : Option ObjId) (arena : Arena). line.function_text f arena (λ k. (row_of k).name) (env_in m old t c.args.frame) in
    follows_look m (λ (arena : Arena). by (function_of arena (value_in t c.args.this)) arena) _ old new c.throw.result (λ arena s. ap (λ (f : Option ObjId). by f arena) (c.in-None.ensures.is t arena s)) c.throw.ensures
