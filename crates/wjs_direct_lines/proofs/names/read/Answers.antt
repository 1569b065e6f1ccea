use Rattle.std.proofs.Common.{[]}
use Rattle.std.specs.Prelude.{Err}
use Rattle.wjs_base.specs.declared.values.Value.{Value}
use Rattle.wjs_model.specs.declared.frame.Phase.TheVariants as phases
use Rattle.wjs_model.specs.declared.point.Start.TheVariants as starts
use Rattle.wjs_frames.specs.declared.part.Part.TheVariants as part
use Rattle.wjs_stopping.specs.Ends.{gives_in}
use Rattle.wjs_direct_lines.proofs.Parts.{due_does, later_stopped, stop_found}
use Rattle.wjs_direct_lines.proofs.names.read.Goals as goal

pub returns-in-None-clause-later : goal.returns-in-None-clause-later
returns-in-None-clause-later g c = later_stopped g.S.WorldStore.meaning {A = Value} c.args.config.now c.stop.new.config (Err c.stop.result) c.requires.base c.stop.ensures.same

pub returns-in-None-clause-found : goal.returns-in-None-clause-found
returns-in-None-clause-found g c =
    let s = c.stop.new.stops in
    stop_found g.S.WorldStore.meaning c.args.config.now c.stop.new.config c.args.frame.now c.args.node [] (phases.Due starts.Expr) c.stop.result s.waits s.top c.stop.ensures.same c.requires.there c.requires.node tt tt c.stop.ensures.stops

pub returns-in-None-clause-does : goal.returns-in-None-clause-does
returns-in-None-clause-does g c =
    let s = c.stop.new.stops in
    due_does g.S.WorldStore.meaning gives_in c.args.config.now c.stop.new.config c.args.frame.now c.stop.result s.waits s.top c.stop.ensures.same (part.Expr c.args.node) c.stop.ensures.stops
