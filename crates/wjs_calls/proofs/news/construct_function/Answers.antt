use Rattle.std.proofs.Common.{sym, subst}
use Rattle.std.specs.Prelude.{OnOk}
use Rattle.wjs_arena.specs.declared.object.Code.{Code}
use Rattle.wjs_meaning.specs.Constructions.{new_code}
use Rattle.wjs_model.specs.Contents.{holding_in}
use Rattle.wjs_frames.specs.Following.{Follows}
use Rattle.wjs_frames.specs.Parts.{env_in}
use Rattle.wjs_heap_steps.proofs.Seeing.{plainly}
use Rattle.wjs_calls.proofs.news.construct_function.Goals as goal

pub returns-in-None : goal.returns-in-None
returns-in-None g c =
    let m = g.S.WorldStore.meaning in
    let old = c.args.config.now in
    let t = c.throw.new.config.heap.texts in
    subst (λ (k : Code). OnOk c.throw.result (Follows m (new_code k c.args.function (holding_in t c.args.frame.held).values (env_in m old t c.args.frame)) old c.throw.new.config)) (sym (c.in-None.ensures.is t _ (plainly old.heap.arena t))) c.throw.ensures

pub returns-in-Script : goal.returns-in-Script
returns-in-Script g c =
    let m = g.S.WorldStore.meaning in
    let old = c.args.config.now in
    let t = c.construct_script.new.config.heap.texts in
    subst (λ (k : Code). OnOk c.construct_script.result (Follows m (new_code k c.args.function (holding_in t c.args.frame.held).values (env_in m old t c.args.frame)) old c.construct_script.new.config)) (sym (c.in-Script.ensures.is t _ (plainly old.heap.arena t))) c.construct_script.ensures

pub returns-in-Native : goal.returns-in-Native
returns-in-Native g c =
    let m = g.S.WorldStore.meaning in
    let old = c.args.config.now in
    let t = c.construct_native.new.config.heap.texts in
    subst (λ (k : Code). OnOk c.construct_native.result (Follows m (new_code k c.args.function (holding_in t c.args.frame.held).values (env_in m old t c.args.frame)) old c.construct_native.new.config)) (sym (c.in-Native.ensures.is t _ (plainly old.heap.arena t))) (c.construct_native.ensures c.args.function)
