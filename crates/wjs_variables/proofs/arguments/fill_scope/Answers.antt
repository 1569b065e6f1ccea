use Rattle.std.proofs.Common.{◌∷◌, sym, subst}
use Rattle.std.specs.Prelude.{OnOk, map}
use Rattle.std.proofs.lemmas.Result.{on_ok_weaker}
use Rattle.std.proofs.lemmas.List.Elements.{All-weaker}
use Rattle.wjs_base.specs.declared.ids.NodeId.{NodeId}
use Rattle.wjs_base.specs.Text.{Has}
use Rattle.wjs_base.proofs.TextLaws.{Grows-Has}
use Rattle.wjs_by_content.specs.Names.{slot, arguments_name}
use Rattle.wjs_by_content.specs.Tables.{text_in, value_in}
use Rattle.wjs_by_content.specs.Values.{Object}
use Rattle.wjs_meaning.specs.Deeds.{Env, Act, write_all}
use Rattle.wjs_meaning.specs.Functions.{arguments_slots, formal_slots, declare_functions}
use Rattle.wjs_meaning.specs.Reading.{numbers}
use Rattle.wjs_model.specs.Soundness.{HasValue}
use Rattle.wjs_model.specs.Standing.{IsFunction}
use Rattle.wjs_frames.specs.Doing.{DoesFirst}
use Rattle.wjs_frames.specs.Following.{Follows}
use Rattle.wjs_frames.specs.Parts.{env_in}
use Rattle.wjs_heap_steps.proofs.Composing.{env_later}
use Rattle.wjs_heap_steps.proofs.Later.{later_twice}
use Rattle.wjs_calls.proofs.Elements.{write-append}
use Rattle.wjs_calls.proofs.Rows.{ok_later}
use Rattle.wjs_calls.proofs.StandingFunctions.{function_later}
use Rattle.wjs_variables.specs.Filling.{undefined_slots, scope_filled, variables_filled}
use Rattle.wjs_variables.proofs.arguments.fill_scope.Goals as goal

pub returns-clause-does : goal.returns-clause-does
returns-clause-does g c =
    let m = g.S.WorldStore.meaning in
    let old = c.args.config.now in
    let f = c.args.frame.now in
    let w = f.world in
    let s = f.scope in
    let a = c.in_ok-arguments.arguments.object in
    let fn = c.args.function in
    let fns = numbers c.args.declared.now.functions in
    let c0 = c.create_arguments.new.config in
    let c1 = c.write_arguments.new.config in
    let one = later_twice m old c0 c1 c.in_ok-arguments.ensures.later c.in_ok-write_arguments.ensures.later in
    on_ok_weaker c.fill_variables.result
    (λ (last : DoesFirst m (λ t. variables_filled (map (text_in t) c.args.declared.now.formals) fns (map (text_in t) c.args.others.now) a (map (value_in t) c.args.values.now) (env_in m c1 t f)) c1 c.fill_variables.new.config). record {
      by = λ act later r h.
          let t = later.heap.texts in
          let xs = map (value_in t) c.args.values.now in
          let formals = map (text_in t) c.args.declared.now.formals in
          let others = map (text_in t) c.args.others.now in
          let env = env_in m old t f in
          let variables = (slot s arguments_name, Object a) ∷ formal_slots s formals xs in
          let behind : Act = declare_functions fns s env (write_all w (undefined_slots s others) act) in
          let filled = subst (λ (e : Env). OnOk r (Follows m (variables_filled formals fns others a xs e act) c1 later)) (env_later m old c1 t f one) (last.by act later r h) in
          let written = c.in_ok-write_arguments.ensures.does.by (write_all w variables behind) later r filled in
          let joined = subst (λ (x : Act). OnOk r (Follows m x c0 later)) (sym (write-append w (arguments_slots a fn xs) variables behind)) written in
          c.in_ok-arguments.ensures.does.by (λ q. scope_filled formals fns others fn q xs env act) later r joined;
    })
    c.fill_variables.ensures.does

pub returns-clause-later : goal.returns-clause-later
returns-clause-later g c =
    let m = g.S.WorldStore.meaning in
    let old = c.args.config.now in
    ok_later m old c.write_arguments.new.config c.fill_variables.new.config c.fill_variables.result
    (later_twice m old c.create_arguments.new.config c.write_arguments.new.config c.in_ok-arguments.ensures.later c.in_ok-write_arguments.ensures.later)
    c.fill_variables.ensures.later

pub write_arguments-requires-clause-there : goal.write_arguments-requires-clause-there
write_arguments-requires-clause-there g c = c.in_ok-arguments.ensures.later.frames c.args.frame.now c.requires.there

pub write_arguments-requires-clause-function : goal.write_arguments-requires-clause-function
write_arguments-requires-clause-function g c = c.in_ok-arguments.ensures.later.objects c.args.function c.requires.function

pub write_arguments-requires-clause-values : goal.write_arguments-requires-clause-values
write_arguments-requires-clause-values g c = All-weaker (HasValue c.args.config.now) (HasValue c.create_arguments.new.config) c.in_ok-arguments.ensures.later.values c.args.values.now c.requires.values

pub fill_variables-requires-clause-there : goal.fill_variables-requires-clause-there
fill_variables-requires-clause-there g c = c.in_ok-write_arguments.ensures.later.frames c.args.frame.now (c.in_ok-arguments.ensures.later.frames c.args.frame.now c.requires.there)

pub fill_variables-requires-clause-arguments : goal.fill_variables-requires-clause-arguments
fill_variables-requires-clause-arguments g c = c.in_ok-write_arguments.ensures.later.objects c.in_ok-arguments.arguments.object c.in_ok-arguments.ensures.found

pub fill_variables-requires-clause-formals : goal.fill_variables-requires-clause-formals
fill_variables-requires-clause-formals g c =
    let old = c.args.config.now in
    let new = c.write_arguments.new.config in
    let one = later_twice g.S.WorldStore.meaning old c.create_arguments.new.config new c.in_ok-arguments.ensures.later c.in_ok-write_arguments.ensures.later in
    All-weaker (Has old.heap.texts) (Has new.heap.texts) (λ id. Grows-Has old.heap.texts new.heap.texts id one.texts) c.args.declared.now.formals c.requires.formals

pub fill_variables-requires-clause-others : goal.fill_variables-requires-clause-others
fill_variables-requires-clause-others g c =
    let old = c.args.config.now in
    let new = c.write_arguments.new.config in
    let one = later_twice g.S.WorldStore.meaning old c.create_arguments.new.config new c.in_ok-arguments.ensures.later c.in_ok-write_arguments.ensures.later in
    All-weaker (Has old.heap.texts) (Has new.heap.texts) (λ id. Grows-Has old.heap.texts new.heap.texts id one.texts) c.args.others.now c.requires.others

pub fill_variables-requires-clause-values : goal.fill_variables-requires-clause-values
fill_variables-requires-clause-values g c =
    let m = g.S.WorldStore.meaning in
    let old = c.args.config.now in
    let one = later_twice m old c.create_arguments.new.config c.write_arguments.new.config c.in_ok-arguments.ensures.later c.in_ok-write_arguments.ensures.later in
    All-weaker (HasValue old) (HasValue c.write_arguments.new.config) one.values c.args.values.now c.requires.values

pub fill_variables-requires-clause-stand : goal.fill_variables-requires-clause-stand
fill_variables-requires-clause-stand g c =
    let m = g.S.WorldStore.meaning in
    let old = c.args.config.now in
    let new = c.write_arguments.new.config in
    let f = c.args.frame.now in
    let one = later_twice m old c.create_arguments.new.config new c.in_ok-arguments.ensures.later c.in_ok-write_arguments.ensures.later in
    All-weaker (λ (i : NodeId). IsFunction old.units.items old.heap.arena f.tree i f.scope 0) (λ (i : NodeId). IsFunction new.units.items new.heap.arena f.tree i f.scope 0) (λ i. function_later m old new f.tree i f.scope 0 one) c.args.declared.now.functions c.requires.stand
