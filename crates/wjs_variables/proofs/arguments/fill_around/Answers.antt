use Rattle.std.proofs.Common.{List, ◌∷◌, sym, subst, append-nil}
use Rattle.std.specs.Prelude.{All, OnOk, map}
use Rattle.std.proofs.lemmas.Result.{on_ok_weaker}
use Rattle.std.proofs.lemmas.List.Elements.{All-weaker}
use Rattle.wjs_base.specs.declared.ids.NodeId.{NodeId}
use Rattle.wjs_base.specs.declared.ids.ObjId.{ObjId}
use Rattle.wjs_base.specs.declared.ids.TextId.{TextId}
use Rattle.wjs_base.specs.Text.{Has}
use Rattle.wjs_base.proofs.TextLaws.{Grows-Has}
use Rattle.wjs_by_content.specs.Names.{Slot, slot, arguments_name}
use Rattle.wjs_by_content.specs.Tables.{text_in, value_in}
use Rattle.wjs_by_content.specs.Values.{Object, Value}
use Rattle.wjs_meaning.specs.Deeds.{Env, write_all}
use Rattle.wjs_meaning.specs.Functions.{formal_slots, declare_functions}
use Rattle.wjs_meaning.specs.Reading.{numbers}
use Rattle.wjs_model.specs.Soundness.{HasObject}
use Rattle.wjs_model.specs.Standing.{IsFunction}
use Rattle.wjs_frames.specs.Doing.{DoesFirst}
use Rattle.wjs_frames.specs.Following.{Follows}
use Rattle.wjs_frames.specs.Parts.{env_in}
use Rattle.wjs_heap_steps.proofs.Composing.{env_later}
use Rattle.wjs_heap_steps.proofs.Later.{later_twice}
use Rattle.wjs_calls.proofs.Rows.{ok_later}
use Rattle.wjs_calls.proofs.StandingFunctions.{function_later}
use Rattle.wjs_variables.specs.Filling.{undefined_slots, variables_filled}
use Rattle.wjs_variables.proofs.arguments.fill_around.Goals as goal

pub write_variables-requires-clause-formals : goal.write_variables-requires-clause-formals
write_variables-requires-clause-formals g c = subst (All (Has c.args.config.now.heap.texts)) (sym c.formals.ensures) c.requires.formals

pub declare_functions-requires-clause-there : goal.declare_functions-requires-clause-there
declare_functions-requires-clause-there g c = c.in_ok-write_variables.ensures.later.frames c.args.frame.now c.requires.there

pub declare_functions-requires-clause-holder : goal.declare_functions-requires-clause-holder
declare_functions-requires-clause-holder g c = c.in_ok-write_variables.ensures.later.objects c.scope-scope.result (subst (HasObject c.args.config.now) (sym c.scope-scope.ensures) c.requires.there.scope)

pub declare_functions-requires-clause-stand : goal.declare_functions-requires-clause-stand
declare_functions-requires-clause-stand g c =
    let old = c.args.config.now in
    let new = c.write_variables.new.config in
    let f = c.args.frame.now in
    subst (All (λ (i : NodeId). IsFunction new.units.items new.heap.arena f.tree i f.scope 0)) (sym c.functions.ensures)
    (All-weaker (λ (i : NodeId). IsFunction old.units.items old.heap.arena f.tree i f.scope 0) (λ (i : NodeId). IsFunction new.units.items new.heap.arena f.tree i f.scope 0) (λ i. function_later g.S.WorldStore.meaning old new f.tree i f.scope 0 c.in_ok-write_variables.ensures.later) c.args.declared.now.functions c.requires.stand)

pub write_undefined-requires-clause-there : goal.write_undefined-requires-clause-there
write_undefined-requires-clause-there g c = c.in_ok-declare_functions.ensures.later.frames c.args.frame.now (c.in_ok-write_variables.ensures.later.frames c.args.frame.now c.requires.there)

pub write_undefined-requires-clause-scope : goal.write_undefined-requires-clause-scope
write_undefined-requires-clause-scope g c = c.in_ok-declare_functions.ensures.later.objects c.scope-scope.result (c.in_ok-write_variables.ensures.later.objects c.scope-scope.result (subst (HasObject c.args.config.now) (sym c.scope-scope.ensures) c.requires.there.scope))

pub write_undefined-requires-clause-names : goal.write_undefined-requires-clause-names
write_undefined-requires-clause-names g c =
    let old = c.args.config.now in
    let new = c.declare_functions.new.config in
    let both = later_twice g.S.WorldStore.meaning old c.write_variables.new.config new c.in_ok-write_variables.ensures.later c.in_ok-declare_functions.ensures.later in
    All-weaker (Has old.heap.texts) (Has new.heap.texts) (λ id. Grows-Has old.heap.texts new.heap.texts id both.texts) c.args.others.now c.requires.others

pub returns-clause-does : goal.returns-clause-does
returns-clause-does g c =
    let m = g.S.WorldStore.meaning in
    let old = c.args.config.now in
    let f = c.args.frame.now in
    let w = f.world in
    let s = f.scope in
    let a = c.args.arguments in
    let others = c.args.others.now in
    let c1 = c.write_variables.new.config in
    let c2 = c.declare_functions.new.config in
    on_ok_weaker c.write_undefined.result
    (λ (last : DoesFirst m (λ t. write_all w (undefined_slots c.scope-scope.result (map (text_in t) others))) c2 c.write_undefined.new.config). record {
      by = λ act later r h.
          let t = later.heap.texts in
          let xs = map (value_in t) c.args.values.now in
          let formals = map (text_in t) c.formals.result.now in
          let fns = numbers c.functions.result.now in
          let env = env_in m old t f in
          let behind = λ (o : ObjId). declare_functions fns o env (write_all w (undefined_slots o (map (text_in t) others)) act) in
          let declared = c.in_ok-declare_functions.ensures.does.by (write_all w (undefined_slots c.scope-scope.result (map (text_in t) others)) act) later r (last.by act later r h) in
          let here = subst (λ (e : Env). OnOk r (Follows m (declare_functions fns c.scope-scope.result e (write_all w (undefined_slots c.scope-scope.result (map (text_in t) others)) act)) c1 later)) (env_later m old c1 t f c.in_ok-write_variables.ensures.later) declared in
          let scoped = subst (λ (o : ObjId). OnOk r (Follows m (behind o) c1 later)) c.scope-scope.ensures here in
          let written = c.in_ok-write_variables.ensures.does.by (behind s) later r scoped in
          let trimmed = subst (λ (es : List (Slot × Value)). OnOk r (Follows m (write_all w ((slot s arguments_name, Object a) ∷ es) (behind s)) old later)) (append-nil (formal_slots s formals xs)) written in
          subst (λ (gs : List NodeId). OnOk r (Follows m (variables_filled (map (text_in t) c.args.declared.now.formals) (numbers gs) (map (text_in t) others) a xs env act) old later)) c.functions.ensures
          (subst (λ (ns : List TextId). OnOk r (Follows m (variables_filled (map (text_in t) ns) fns (map (text_in t) others) a xs env act) old later)) c.formals.ensures trimmed);
    })
    c.write_undefined.ensures.does

pub returns-clause-later : goal.returns-clause-later
returns-clause-later g c =
    let m = g.S.WorldStore.meaning in
    let old = c.args.config.now in
    ok_later m old c.declare_functions.new.config c.write_undefined.new.config c.write_undefined.result
    (later_twice m old c.write_variables.new.config c.declare_functions.new.config c.in_ok-write_variables.ensures.later c.in_ok-declare_functions.ensures.later)
    c.write_undefined.ensures.later
