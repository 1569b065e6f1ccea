use Rattle.std.proofs.Common.{Option, sym, ◌∙◌, subst}
use Rattle.std.specs.Prelude.{OnOk}
use Rattle.wjs_base.specs.declared.ids.ObjId.{ObjId}
use Rattle.wjs_arena.specs.declared.object.Code.TheVariants as code
use Rattle.wjs_meaning.specs.Functions.{body_code}
use Rattle.wjs_model.specs.Contents.{holding_in}
use Rattle.wjs_frames.specs.Following.{Follows}
use Rattle.wjs_frames.specs.Parts.{env_in}
use Rattle.wjs_heap_steps.proofs.Seeing.{plainly}
use Rattle.wjs_arena.specs.Entries.{Entry}
use Rattle.wjs_variables.proofs.StandingBodies.{function_at}
use Rattle.wjs_direct.proofs.entries.begin_script.Goals as goal

pub returns-in-None : goal.returns-in-None
returns-in-None g c =
    let m = g.S.WorldStore.meaning in
    let old = c.args.config.now in
    let new = c.throw.new.config in
    let t = new.heap.texts in
    subst (λ (s : Option ObjId). OnOk c.throw.result (Follows m (body_code (code.Script c.args.tree c.args.node) s c.args.function (holding_in t c.args.frame.held).values (env_in m old t c.args.frame)) old new)) (sym (c.in-None.ensures.is t _ (plainly old.heap.arena t))) c.throw.ensures

pub returns-in-Some : goal.returns-in-Some
returns-in-Some g c =
    let m = g.S.WorldStore.meaning in
    let old = c.args.config.now in
    let new = c.begin_scope.new.config in
    let t = new.heap.texts in
    subst (λ (s : Option ObjId). OnOk c.begin_scope.result (Follows m (body_code (code.Script c.args.tree c.args.node) s c.args.function (holding_in t c.args.frame.held).values (env_in m old t c.args.frame)) old new)) (sym (c.in-Some.ensures.is t _ (plainly old.heap.arena t))) c.begin_scope.ensures

pub begin_scope-requires-clause-stands : goal.begin_scope-requires-clause-stands
begin_scope-requires-clause-stands g c =
    function_at g.S.WorldStore.meaning c.args.config.now c.args.function c.args.tree c.args.node c.in-Some.scope c.requires.runs.running.base
    c.requires.function c.requires.code (λ (e : Entry) h. c.scope_of.ensures.entry e h ∙ c.in-Some.is)
