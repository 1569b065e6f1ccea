-- The scope of a call is filled, before the body runs (ECMA-262, 3rd edition, section 10.2.3).
use Rattle.std.proofs.Common.{◌≡◌, List, sym, ap, ◌∙◌, subst}
use Rattle.std.specs.Prelude.{OnOk, Ok, Some, map, slice_get, All}
use Rattle.std.proofs.lemmas.Result.{on_ok_weaker}
use Rattle.wjs_base.specs.declared.ids.ObjId.{ObjId}
use Rattle.wjs_base.specs.declared.ids.TextId.{TextId}
use Rattle.wjs_base.specs.Text.{Has}
use Rattle.wjs_base.proofs.TextLaws.{Grows-trans}
use Rattle.wjs_base.specs.declared.ids.NodeId.{NodeId}
use Rattle.wjs_by_content.specs.Tables.{text_in, value_in}
use Rattle.wjs_meaning.specs.Declarations.{Declared, declared_by}
use Rattle.wjs_meaning.specs.Deeds.{Env, Act, Do, Create, tree_here}
use Rattle.wjs_meaning.specs.Functions.{arguments_object}
use Rattle.wjs_meaning.specs.Reading.{numbers}
use Rattle.wjs_model.specs.declared.frame.Activation.{Activation as Frame}
use Rattle.wjs_model.specs.declared.loaded.LoadedProgram.{LoadedProgram as Program}
use Rattle.wjs_model.specs.Standing.{IsFunction}
use Rattle.wjs_model.specs.Soundness.{IsThere}
use Rattle.wjs_frames.specs.Following.{Follows}
use Rattle.wjs_frames.specs.Parts.{env_in}
use Rattle.wjs_frames.proofs.Parting.{element_here}
use Rattle.wjs_heap_steps.proofs.Composing.{env_later}
use Rattle.wjs_heap_steps.proofs.Later.{later_twice}
use Rattle.wjs_calls.proofs.Rows.{same_units}
use Rattle.wjs_calls.proofs.StandingFunctions.{function_later}
use Rattle.wjs_scope.specs.Bodies.{elements_at}
use Rattle.wjs_scope.specs.Declarations.{functions_among}
use Rattle.wjs_variables.specs.Entering.{declared_then}
use Rattle.wjs_variables.specs.Filling.{arguments_written}
use Rattle.wjs_variables.proofs.StandingBodies.{begun_there, begun_function, declared_stand}
use Rattle.wjs_variables.proofs.Beginning.{values_later, texts_later, others_of, body_filled}
use Rattle.wjs_variables.proofs.entering.enter_scope.Goals as goal

pub fill_scope-requires-clause-formals : goal.fill_scope-requires-clause-formals
fill_scope-requires-clause-formals g c = texts_later g.S.WorldStore.meaning c.args.config.now c.create_scope.new.config c.in_ok-inner.ensures.later c.in_ok-declared.declared.formals c.in_ok-declared.ensures.formals_found

pub fill_scope-requires-clause-others : goal.fill_scope-requires-clause-others
fill_scope-requires-clause-others g c =
    let old = c.args.config.now in
    texts_later g.S.WorldStore.meaning old c.create_scope.new.config c.in_ok-inner.ensures.later c.others.result.now
    (subst (λ (ids : List TextId). All (Has old.heap.texts) ids) (sym c.others.ensures) c.in_ok-declared.ensures.others_found)

pub fill_scope-requires-clause-values : goal.fill_scope-requires-clause-values
fill_scope-requires-clause-values g c = values_later g.S.WorldStore.meaning c.args.config.now c.create_scope.new.config c.in_ok-inner.ensures.later c.args.values.now c.requires.values

pub fill_scope-requires-clause-function : goal.fill_scope-requires-clause-function
fill_scope-requires-clause-function g c = c.in_ok-inner.ensures.later.objects c.args.function c.requires.function

pub fill_scope-requires-clause-there : goal.fill_scope-requires-clause-there
fill_scope-requires-clause-there g c =
    let m = g.S.WorldStore.meaning in
    let mid = c.create_scope.new.config in
    let f = c.args.frame.now in
    let is : c.set_scope.new.self ≡ record f { tree = c.args.tree; node = c.args.body; scope = c.in_ok-inner.inner } = c.set_scope.ensures ∙ ap (λ (q : Frame). record q { scope = c.in_ok-inner.inner }) c.set_node.ensures in
    subst (IsThere m mid) (sym is) (begun_there m c.args.config.now mid f c.args.tree c.args.body c.args.scope c.in_ok-inner.inner
    c.in_ok-inner.ensures.later c.requires.there c.in_ok-inner.ensures.found c.in_ok-inner.ensures.outer c.requires.stands)

pub fill_scope-requires-clause-stand : goal.fill_scope-requires-clause-stand
fill_scope-requires-clause-stand g c =
    let m = g.S.WorldStore.meaning in
    let old = c.args.config.now in
    let mid = c.create_scope.new.config in
    let f = c.args.frame.now in
    let d = c.in_ok-declared.declared in
    let inner : Frame = record f { tree = c.args.tree; node = c.args.body; scope = c.in_ok-inner.inner } in
    let is : c.set_scope.new.self ≡ inner = c.set_scope.ensures ∙ ap (λ (q : Frame). record q { scope = c.in_ok-inner.inner }) c.set_node.ensures in
    let s = begun_function m old mid c.args.tree c.args.body c.args.scope c.in_ok-inner.inner c.in_ok-inner.ensures.later c.in_ok-inner.ensures.outer c.requires.stands in
    let nodes = subst (λ (q : Frame). (u : Program) → slice_get old.units.items q.tree ≡ Some u → d.functions ≡ functions_among u.program.nodes (elements_at u.program.nodes q.node.0)) c.set_node.ensures c.in_ok-declared.ensures.nodes in
    let found = s.stands.found in
    let all = declared_stand mid.units.items mid.heap.arena s.stands.unit inner.tree inner.scope found inner.node s.function d.functions s.has (λ i k. element_here m mid inner i c.in_ok-inner.ensures.later.base s k)
    (nodes s.stands.unit (ap (λ (us : List Program). slice_get us c.args.tree) (sym (same_units m old mid c.in_ok-inner.ensures.later)) ∙ found)) in
    subst (λ (h : Frame). All (λ (i : NodeId). IsFunction mid.units.items mid.heap.arena h.tree i h.scope 0) d.functions) (sym is) all

pub returns-clause-later : goal.returns-clause-later
returns-clause-later g c = later_twice g.S.WorldStore.meaning c.args.config.now c.create_scope.new.config c.fill_scope.new.config c.in_ok-inner.ensures.later c.in_ok-fill_scope.ensures.later

pub returns-clause-there : goal.returns-clause-there
returns-clause-there g c =
    let m = g.S.WorldStore.meaning in
    let mid = c.create_scope.new.config in
    let f = c.args.frame.now in
    let is : c.set_scope.new.self ≡ record f { tree = c.args.tree; node = c.args.body; scope = c.in_ok-inner.inner } = c.set_scope.ensures ∙ ap (λ (q : Frame). record q { scope = c.in_ok-inner.inner }) c.set_node.ensures in
    c.in_ok-fill_scope.ensures.later.frames c.set_scope.new.self
    (subst (IsThere m mid) (sym is) (begun_there m c.args.config.now mid f c.args.tree c.args.body c.args.scope c.in_ok-inner.inner
    c.in_ok-inner.ensures.later c.requires.there c.in_ok-inner.ensures.found c.in_ok-inner.ensures.outer c.requires.stands))

pub returns-clause-stands : goal.returns-clause-stands
returns-clause-stands g c =
    let m = g.S.WorldStore.meaning in
    let old = c.args.config.now in
    let mid = c.create_scope.new.config in
    let c2 = c.fill_scope.new.config in
    let is : c.set_scope.new.self ≡ record c.args.frame.now { tree = c.args.tree; node = c.args.body; scope = c.in_ok-inner.inner } = c.set_scope.ensures ∙ ap (λ (q : Frame). record q { scope = c.in_ok-inner.inner }) c.set_node.ensures in
    subst (λ (q : Frame). IsFunction c2.units.items c2.heap.arena q.tree q.node q.scope 1) (sym is)
    (function_later m mid c2 c.args.tree c.args.body c.in_ok-inner.inner 1 c.in_ok-fill_scope.ensures.later
    (begun_function m old mid c.args.tree c.args.body c.args.scope c.in_ok-inner.inner c.in_ok-inner.ensures.later c.in_ok-inner.ensures.outer c.requires.stands))

pub returns-clause-frame : goal.returns-clause-frame
returns-clause-frame g c =
    let f = c.args.frame.now in
    let is : c.set_scope.new.self ≡ record f { tree = c.args.tree; node = c.args.body; scope = c.in_ok-inner.inner } = c.set_scope.ensures ∙ ap (λ (q : Frame). record q { scope = c.in_ok-inner.inner }) c.set_node.ensures in
    is ∙ ap (λ (s : ObjId). record f { tree = c.args.tree; node = c.args.body; scope = s }) (sym (ap (λ (q : Frame). q.scope) is))

pub returns-clause-does : goal.returns-clause-does
returns-clause-does g c =
    let m = g.S.WorldStore.meaning in
    let old = c.args.config.now in
    let mid = c.create_scope.new.config in
    let c2 = c.fill_scope.new.config in
    let f = c.args.frame.now in
    let inner : Frame = record f { tree = c.args.tree; node = c.args.body; scope = c.in_ok-inner.inner } in
    let is : c.set_scope.new.self ≡ inner = c.set_scope.ensures ∙ ap (λ (q : Frame). record q { scope = c.in_ok-inner.inner }) c.set_node.ensures in
    let d = c.in_ok-declared.declared in
    let body = c.args.body.0 in
    let fn = c.args.function in
    let first = c.in_ok-inner.ensures.later in
    let both = later_twice m old mid c2 first c.in_ok-fill_scope.ensures.later in
    record {
      by = λ go later r h.
          let t = later.heap.texts in
          let env = env_in m old t inner in
          let act = go env in
          let declared = declared_by (tree_here env) body in
          let args = map (value_in t) c.args.values.now in
          let as_begun = λ (o : ObjId). Do (Create old.owner (arguments_object args)) (λ a. declared_then declared fn a args (record (env_in m old t f) { tree = c.args.tree; scope = o }) (go (record (env_in m old t f) { tree = c.args.tree; scope = o }))) in
          let behind : OnOk r (Follows m act c2 later) = subst (λ (e : Env). OnOk r (Follows m (go e) c2 later)) (env_later m old c2 t inner both) (subst (λ (q : Frame). OnOk r (Follows m (go (env_in m c2 t q)) c2 later)) is h) in
          on_ok_weaker r
          (λ (k : Follows m act c2 later).
          let table = k.sound.base.heap.table in
          let grows = Grows-trans old.heap.texts c2.heap.texts t both.texts k.keeps.stays.texts in
          let formals = map (text_in t) d.formals in
          let functions = numbers d.functions in
          let others = map (text_in t) c.others.result.now in
          let now : declared_by (tree_here (env_in m old t c.set_node.new.self)) c.set_node.new.self.node.0 ≡ declared = ap (λ (q : Frame). declared_by (tree_here (env_in m old t q)) q.node.0) c.set_node.ensures in
          let ef = c.in_ok-declared.ensures.formals t ∙ ap (λ (k : Declared). k.formals) now in
          let en = c.in_ok-declared.ensures.functions t ∙ ap (λ (k : Declared). k.functions) now in
          let eo : others ≡ others_of env declared =
          ap (map (text_in t)) c.others.ensures ∙ c.in_ok-declared.ensures.others t table grows
          ∙ ap (λ (q : Frame). others_of (env_in m old t q) (declared_by (tree_here (env_in m old t q)) q.node.0)) c.set_node.ensures in
          let filled0 = c.in_ok-fill_scope.ensures.does.by act later (Ok tt) k in
          let filled : Follows m (arguments_written formals functions others fn args (env_in m mid t inner) act) mid later = subst (λ (h : Frame). Follows m (arguments_written formals functions others fn args (env_in m mid t h) act) mid later) is filled0 in
          let there : Follows m (arguments_written formals functions others fn args env act) mid later = subst (λ (e : Env). Follows m (arguments_written formals functions others fn args e act) mid later) (env_later m old mid t inner first) filled in
          let begun : Follows m (as_begun inner.scope) mid later = subst (λ (a : Act). Follows m a mid later) (body_filled formals others functions args declared fn env act ef en eo) there in
          c.in_ok-inner.ensures.does.by as_begun later (Ok tt) begun)
          behind;
    }
