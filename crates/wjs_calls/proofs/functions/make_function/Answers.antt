use Rattle.std.proofs.Common.{Option, sym, subst}
use Rattle.std.specs.Option.{option_map}
use Rattle.std.specs.Prelude.{IfOk}
use Rattle.wjs_base.specs.declared.ids.ObjId.{ObjId}
use Rattle.wjs_base.specs.declared.ids.TextId.{TextId}
use Rattle.wjs_by_content.specs.Tables.{text_in}
use Rattle.wjs_meaning.specs.Functions.{make_function, make_function_in}
use Rattle.wjs_model.specs.Standing.{IsFunction}
use Rattle.wjs_frames.specs.Doing.{Does}
use Rattle.wjs_frames.specs.Parts.{env_in}
use Rattle.wjs_calls.specs.Standing.{StandsNamed}
use Rattle.wjs_calls.proofs.StandingFunctions.{stands_nameless}
use Rattle.wjs_calls.proofs.functions.make_function.Goals as goal

pub returns-in-None-clause-does : goal.returns-in-None-clause-does
returns-in-None-clause-does g c =
    let m = g.S.WorldStore.meaning in
    let old = c.args.config.now in
    subst (λ (n : Option TextId). IfOk c.make_function_in.result (λ o. Does m (λ t. make_function c.args.body.0 (option_map (text_in t) n) (env_in m old t c.args.frame.now)) (λ t. o) old c.make_function_in.new.config)) (sym c.in-None.is)
    (subst (λ (s : ObjId). IfOk c.make_function_in.result (λ o. Does m (λ t. make_function_in c.args.body.0 s (env_in m old t c.args.frame.now)) (λ t. o) old c.make_function_in.new.config)) c.scope.ensures c.make_function_in.ensures.does)

pub returns-in-Some-clause-does : goal.returns-in-Some-clause-does
returns-in-Some-clause-does g c =
    let m = g.S.WorldStore.meaning in
    let old = c.args.config.now in
    subst (λ (n : Option TextId). IfOk c.make_named.result (λ o. Does m (λ t. make_function c.args.body.0 (option_map (text_in t) n) (env_in m old t c.args.frame.now)) (λ t. o) old c.make_named.new.config)) (sym c.in-Some.is) c.make_named.ensures.does

pub make_function_in-requires-clause-stands : goal.make_function_in-requires-clause-stands
make_function_in-requires-clause-stands g c =
    let now = c.args.config.now in
    let f = c.args.frame.now in
    subst (λ (s : ObjId). IsFunction now.units.items now.heap.arena f.tree c.args.body s 0) (sym c.scope.ensures)
    (stands_nameless now.units.items f.tree c.args.body f.scope now.heap.arena (subst (StandsNamed now.units.items now.heap.arena f.tree c.args.body f.scope) c.in-None.is c.requires.stands))

pub make_named-requires-clause-stands : goal.make_named-requires-clause-stands
make_named-requires-clause-stands g c =
    let now = c.args.config.now in
    let f = c.args.frame.now in
    subst (StandsNamed now.units.items now.heap.arena f.tree c.args.body f.scope) c.in-Some.is c.requires.stands
