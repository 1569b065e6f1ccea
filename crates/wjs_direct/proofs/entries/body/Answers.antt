use Rattle.wjs_by_content.specs.Objects.{Arena, object_at}
use Rattle.wjs_meaning.specs.Functions.{body_code}
use Rattle.wjs_model.specs.Contents.{holding_in}
use Rattle.wjs_frames.specs.Parts.{env_in}
use Rattle.wjs_frames.proofs.Shorter.{follows_look}
use Rattle.wjs_heap_steps.proofs.Seeing.{object_found_as}
use Rattle.std.proofs.Common.{◌∙◌}
use Rattle.wjs_arena.specs.Entries.{Entry}
use Rattle.wjs_direct.proofs.entries.body.Goals as goal

pub returns-in-None : goal.returns-in-None
returns-in-None g c =
    let m = g.S.WorldStore.meaning in
    let old = c.args.config.now in
    let new = c.throw.new.config in
    let r = c.throw.result in
    let t = new.heap.texts in
    let f = c.args.function in
    let vs = (holding_in t c.args.frame.held).values in
    let env = env_in m old t c.args.frame in
    follows_look m (λ (arena : Arena). body_code (object_at arena f).code (object_at arena f).scope f vs env) _ old new r (λ arena s i. body_code (c.in-None.ensures.is t arena s i) (object_found_as old.heap.arena t arena s f c.requires.function.0 i).scope f vs env) c.throw.ensures

pub returns-in-Native : goal.returns-in-Native
returns-in-Native g c =
    let m = g.S.WorldStore.meaning in
    let old = c.args.config.now in
    let new = c.throw-in-Native.new.config in
    let r = c.throw-in-Native.result in
    let t = new.heap.texts in
    let f = c.args.function in
    let vs = (holding_in t c.args.frame.held).values in
    let env = env_in m old t c.args.frame in
    follows_look m (λ (arena : Arena). body_code (object_at arena f).code (object_at arena f).scope f vs env) _ old new r (λ arena s i. body_code (c.in-Native.ensures.is t arena s i) (object_found_as old.heap.arena t arena s f c.requires.function.0 i).scope f vs env) c.throw-in-Native.ensures

pub returns-in-Script : goal.returns-in-Script
returns-in-Script g c =
    let m = g.S.WorldStore.meaning in
    let old = c.args.config.now in
    let new = c.begin_script.new.config in
    let r = c.begin_script.result in
    let t = new.heap.texts in
    let f = c.args.function in
    let vs = (holding_in t c.args.frame.held).values in
    let env = env_in m old t c.args.frame in
    follows_look m (λ (arena : Arena). body_code (object_at arena f).code (object_at arena f).scope f vs env) _ old new r (λ arena s i. body_code (c.in-Script.ensures.is t arena s i) (object_found_as old.heap.arena t arena s f c.requires.function.0 i).scope f vs env) c.begin_script.ensures

pub begin_script-requires-clause-code : goal.begin_script-requires-clause-code
begin_script-requires-clause-code g c = λ (e : Entry) h. c.code_of.ensures.entry e h ∙ c.in-Script.is
