use Rattle.wjs_meaning.specs.Expressions.{base_of, call_callee}
use Rattle.wjs_meaning.specs.Reading.{node_in}
use Rattle.wjs_model.specs.Contents.{reference_in}
use Rattle.wjs_model.specs.Lists.{arguments_of}
use Rattle.wjs_base.specs.declared.ids.ObjId.{ObjId}
use Rattle.wjs_base.specs.declared.values.Value.{Value}
use Rattle.wjs_frames.specs.Following.{Later}
use Rattle.wjs_frames.specs.Parts.{node_among}
use Rattle.wjs_frames.proofs.Parting.{stands_later}
use Rattle.wjs_stopping.specs.Ends.{gives_in}
use Rattle.wjs_direct_lines.proofs.Assigning.{broken_as}
use Rattle.wjs_direct_lines.proofs.Parts.{later_then}
use Rattle.wjs_direct_lines.proofs.ReferenceReading.{callee_found, read_broke, read_found}
use Rattle.wjs_direct_lines.proofs.callees.callee_of.Goals as goal

-- behind its value
pub callee_object-requires-clause-base : goal.callee_object-requires-clause-base
callee_object-requires-clause-base g c = c.in-Ok.ensures.later.base

pub callee_object-requires-clause-there : goal.callee_object-requires-clause-there
callee_object-requires-clause-there g c = c.in-Ok.ensures.later.frames c.args.frame.now c.requires.there

pub callee_object-requires-clause-node : goal.callee_object-requires-clause-node
callee_object-requires-clause-node g c = stands_later g.S.WorldStore.meaning c.args.config.now c.args.frame.now c.value_read.new.config c.args.node c.in-Ok.ensures.later c.requires.node

pub callee_object-requires-clause-empty : goal.callee_object-requires-clause-empty
callee_object-requires-clause-empty g c = c.requires.empty

pub callee_object-requires-clause-value : goal.callee_object-requires-clause-value
callee_object-requires-clause-value g c = c.in-Ok.ensures.found.0

pub returns-in-Ok-clause-later : goal.returns-in-Ok-clause-later
returns-in-Ok-clause-later g c = later_then g.S.WorldStore.meaning c.args.config.now c.value_read.new.config c.callee_object.new.config c.callee_object.result c.in-Ok.ensures.later c.callee_object.ensures.later

pub returns-in-Ok-clause-does : goal.returns-in-Ok-clause-does
returns-in-Ok-clause-does g c =
    let k = c.callee_object.new in
    callee_found g.S.WorldStore.meaning c.args.config.now c.value_read.new.config k.config c.args.frame.now c.args.node c.args.reference c.in-Ok.value c.callee_object.result k.stops.waits k.stops.top
    c.in-Ok.ensures.later c.callee_object.ensures.same c.in-Ok.ensures.does c.callee_object.ensures.is

-- it broke off
pub returns-in-Err-clause-later : goal.returns-in-Err-clause-later
returns-in-Err-clause-later g c = broken_as Value ObjId (Later g.S.WorldStore.meaning c.args.config.now c.value_read.new.config) c.in-Err.end c.in-Err.ensures.later

pub returns-in-Err-clause-found : goal.returns-in-Err-clause-found
returns-in-Err-clause-found g c =
    let s = c.args.stops.now in
    read_found g.S.WorldStore.meaning c.value_read.new.config c.in-Err.end s.waits s.top c.in-Err.ensures.found c.requires.empty

pub returns-in-Err-clause-does : goal.returns-in-Err-clause-does
returns-in-Err-clause-does g c =
    let old = c.args.config.now in
    let s = c.args.stops.now in
    read_broke g.S.WorldStore.meaning gives_in old c.value_read.new.config c.args.frame.now c.args.reference
    (λ t env. call_callee (arguments_of (node_in t (node_among old.units.items c.args.frame.now.tree c.args.node))) (base_of (reference_in t c.args.reference)) env) c.in-Err.end s.waits s.top c.in-Err.ensures.found c.in-Err.ensures.does
