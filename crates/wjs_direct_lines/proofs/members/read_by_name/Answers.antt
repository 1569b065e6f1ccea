use Rattle.std.proofs.Common.{[], ap, sym}
use Rattle.std.specs.Prelude.{Err}
use Rattle.wjs_base.specs.declared.values.Value.{Value}
use Rattle.wjs_by_content.specs.Tables.{value_in}
use Rattle.wjs_meaning.specs.Deeds.{Act, Completion, Gives}
use Rattle.wjs_meaning.specs.Expressions.{dot_base, give_value_of}
use Rattle.wjs_meaning.specs.Reading.{spelt_in}
use Rattle.wjs_model.specs.declared.frame.Completion.TheVariants as completions
use Rattle.wjs_model.specs.declared.frame.Phase.TheVariants as phases
use Rattle.wjs_model.specs.declared.point.ExprPoint.TheVariants as expr
use Rattle.wjs_model.specs.declared.point.Point.TheVariants as points
use Rattle.wjs_model.specs.declared.point.Purpose.TheVariants as purposes
use Rattle.wjs_frames.specs.Parts.{env_in, then_at}
use Rattle.wjs_stopping.specs.Ends.{gives_in}
use Rattle.wjs_stopping.specs.Waiting.{at_node}
use Rattle.wjs_direct_lines.proofs.Membering.{dot_known, dot_waits}
use Rattle.wjs_direct_lines.proofs.Parts.{given_does, later_stopped, line_as, stop_found}
use Rattle.wjs_direct_lines.proofs.ReferenceReading.{read_value_does, read_value_found}
use Rattle.wjs_direct_lines.proofs.members.read_by_name.Goals as goal

pub dot_reference-requires-clause-name : goal.dot_reference-requires-clause-name
dot_reference-requires-clause-name g c = dot_known g.S.WorldStore.meaning c.args.config.now c.args.frame.now c.args.node c.args.name c.requires.is c.requires.base

pub returns-in-Some-clause-found : goal.returns-in-Some-clause-found
returns-in-Some-clause-found g c =
    let k = c.value_read in
    let s = c.args.stops.now in
    read_value_found g.S.WorldStore.meaning k.new.config k.result s.waits s.top k.ensures.found c.requires.empty

pub returns-in-Some-clause-does : goal.returns-in-Some-clause-does
returns-in-Some-clause-does g c =
    let k = c.value_read in
    let s = c.args.stops.now in
    read_value_does g.S.WorldStore.meaning c.args.config.now k.new.config c.args.frame.now c.in-Some.reference (λ t env. dot_base (spelt_in t c.args.name) env (give_value_of env) (value_in t c.args.object)) k.result s.waits s.top
    (λ t more env. c.in-Some.ensures.ends t more env (give_value_of env)) k.ensures.later k.ensures.found k.ensures.does

-- a frame goes on with the value
pub returns-in-None-clause-later : goal.returns-in-None-clause-later
returns-in-None-clause-later g c = later_stopped g.S.WorldStore.meaning {A = Value} c.args.config.now c.stop.new.config (Err c.stop.result) c.requires.base c.stop.ensures.same

pub returns-in-None-clause-found : goal.returns-in-None-clause-found
returns-in-None-clause-found g c =
    let s = c.stop.new.stops in
    stop_found g.S.WorldStore.meaning c.args.config.now c.stop.new.config c.args.frame.now c.args.node [] (phases.Given (points.Expr (expr.DotBase purposes.Value)) (completions.Gives c.args.object)) c.stop.result s.waits s.top c.stop.ensures.same
    c.requires.there c.requires.node tt (tt, c.requires.object) c.stop.ensures.stops

pub returns-in-None-clause-does : goal.returns-in-None-clause-does
returns-in-None-clause-does g c =
    let m = g.S.WorldStore.meaning in
    let old = c.args.config.now in
    let f = c.args.frame.now in
    let s = c.stop.new.stops in
    line_as m gives_in old c.stop.new.config f (λ t env. dot_base (spelt_in t c.args.name) env (give_value_of env) (value_in t c.args.object)) (Err c.stop.result) s.waits s.top
    (λ t env. then_at m old (at_node f c.args.node []) (points.Expr (expr.DotBase purposes.Value)) t env (Gives (value_in t c.args.object)))
    (λ t more. ap (λ (k : Completion → Act). k (Gives (value_in t c.args.object))) (sym (dot_waits m old f c.args.node c.args.name c.requires.is t (env_in m old t f))))
    (given_does m gives_in old c.stop.new.config f c.stop.result s.waits s.top c.stop.ensures.same c.args.node [] (points.Expr (expr.DotBase purposes.Value)) (completions.Gives c.args.object) c.stop.ensures.stops)
