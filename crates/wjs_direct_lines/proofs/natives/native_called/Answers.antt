use Rattle.std.proofs.Common.{◌-◌}
use Rattle.wjs_model.specs.declared.frame.Phase.TheVariants as phases
use Rattle.wjs_model.specs.declared.point.Start.TheVariants as starts
use Rattle.wjs_frames.proofs.Parting.{stands_later}
use Rattle.wjs_quick.proofs.Coming.{later_left, one_less}
use Rattle.std.specs.Prelude.{false}
use Rattle.wjs_stopping.specs.Ends.{gives_in}
use Rattle.wjs_direct_lines.proofs.NativeCalls.{native_due, native_paid, native_there}
use Rattle.wjs_direct_lines.proofs.Parts.{later_then}
use Rattle.wjs_direct_lines.proofs.natives.native_called.Goals as goal

-- no step is left
pub returns-then-not-may_enter-clause-found : goal.returns-then-not-may_enter-clause-found
returns-then-not-may_enter-clause-found g c =
    let s = c.function_stops.new.stops in
    native_there g.S.WorldStore.meaning c.args.config.now c.function_stops.new.config c.args.frame.now c.args.node c.args.function c.args.native c.args.this c.args.values.now c.function_stops.result s.waits s.top c.function_stops.ensures.same
    (phases.Due (starts.Native c.args.native false)) tt c.requires.there c.requires.node c.requires.function c.requires.this c.requires.values c.function_stops.ensures.stops

pub returns-then-not-may_enter-clause-does : goal.returns-then-not-may_enter-clause-does
returns-then-not-may_enter-clause-does g c =
    let s = c.function_stops.new.stops in
    native_due g.S.WorldStore.meaning c.args.config.now c.function_stops.new.config c.args.frame.now c.args.node c.args.function c.args.native c.args.this c.args.values.now c.function_stops.result s.waits s.top c.function_stops.ensures.same
    gives_in c.function_stops.ensures.stops

-- the step is taken
pub run_native-requires-clause-base : goal.run_native-requires-clause-base
run_native-requires-clause-base g c = (later_left g.S.WorldStore.meaning c.args.config.now (c.args.config.now.left - 1) c.requires.base).base

pub run_native-requires-clause-there : goal.run_native-requires-clause-there
run_native-requires-clause-there g c = (later_left g.S.WorldStore.meaning c.args.config.now (c.args.config.now.left - 1) c.requires.base).frames c.args.frame.now c.requires.there

pub run_native-requires-clause-node : goal.run_native-requires-clause-node
run_native-requires-clause-node g c =
    let m = g.S.WorldStore.meaning in
    let old = c.args.config.now in
    let left = old.left - 1 in
    stands_later m old c.args.frame.now (record old { left = left }) c.args.node (later_left m old left c.requires.base) c.requires.node

pub returns-clause-later : goal.returns-clause-later
returns-clause-later g c =
    let m = g.S.WorldStore.meaning in
    let old = c.args.config.now in
    let left = old.left - 1 in
    later_then m old (record old { left = left }) c.run_native.new.config c.run_native.result (later_left m old left c.requires.base) c.run_native.ensures.later

pub returns-clause-does : goal.returns-clause-does
returns-clause-does g c =
    let old = c.args.config.now in
    let s = c.run_native.new.stops in
    native_paid g.S.WorldStore.meaning gives_in old c.run_native.new.config c.args.frame.now c.args.native c.args.this c.args.values.now c.run_native.result s.waits s.top (old.left - 1)
    (one_less old.left (c.may_enter.ensures.left c.if-not-may_enter.false)) c.run_native.ensures.does
