use Rattle.std.proofs.Common.{[]}
use Rattle.std.specs.Prelude.{Err}
use Rattle.wjs_base.specs.declared.values.Value.{Value}
use Rattle.wjs_by_content.specs.Tables.{value_in}
use Rattle.wjs_model.specs.declared.frame.Completion.TheVariants as completions
use Rattle.wjs_model.specs.declared.frame.Phase.TheVariants as phases
use Rattle.wjs_model.specs.declared.point.Point.TheVariants as points
use Rattle.wjs_quick.specs.Operating.{after_prefix}
use Rattle.wjs_stopping.specs.Ends.{gives_in}
use Rattle.wjs_stopping.specs.Waiting.{at_node}
use Rattle.wjs_direct_lines.proofs.Forming.{line_ended}
use Rattle.wjs_direct_lines.proofs.Parts.{later_stopped, stop_found}
use Rattle.wjs_direct_lines.proofs.Prefixing.{prefix_given, prefix_stands}
use Rattle.wjs_direct_lines.proofs.prefixes.after_operand.Goals as goal

pub returns-in-Some-clause-does : goal.returns-in-Some-clause-does
returns-in-Some-clause-does g c =
    line_ended g.S.WorldStore.meaning gives_in c.args.config.now c.args.frame.now (λ t env. after_prefix c.args.operator env (value_in t c.args.value)) c.in-Some.given
    c.args.stops.now.waits c.args.stops.now.top c.in-Some.ensures.ends

-- a frame goes on with the value
pub returns-in-None-clause-later : goal.returns-in-None-clause-later
returns-in-None-clause-later g c = later_stopped g.S.WorldStore.meaning {A = Value} c.args.config.now c.stop.new.config (Err c.stop.result) c.requires.base c.stop.ensures.same

pub returns-in-None-clause-found : goal.returns-in-None-clause-found
returns-in-None-clause-found g c =
    let s = c.stop.new.stops in
    let old = c.args.config.now in
    let f = c.args.frame.now in
    stop_found g.S.WorldStore.meaning old c.stop.new.config f c.args.node [] (phases.Given (points.Expr c.point_of.result) (completions.Gives c.args.value)) c.stop.result s.waits s.top c.stop.ensures.same
    c.requires.there c.requires.node tt (prefix_stands g.S.WorldStore.meaning old (at_node f c.args.node []) c.args.operator c.point_of.result c.point_of.ensures, c.requires.value) c.stop.ensures.stops

pub returns-in-None-clause-does : goal.returns-in-None-clause-does
returns-in-None-clause-does g c =
    let m = g.S.WorldStore.meaning in
    let s = c.stop.new.stops in
    let old = c.args.config.now in
    let f = c.args.frame.now in
    prefix_given m old c.stop.new.config f c.args.node c.args.operator c.point_of.result c.args.value c.stop.result s.waits s.top c.stop.ensures.same c.point_of.ensures c.requires.operator c.stop.ensures.stops
