use Rattle.wjs_meaning.specs.Expressions as line
use Rattle.wjs_model.specs.Contents.{reference_in}
use Rattle.wjs_model.specs.Waiting.{fix_in}
use Rattle.wjs_frames.proofs.Parting.{stands_later}
use Rattle.wjs_stopping.specs.Ends.{gives_in}
use Rattle.wjs_direct_lines.proofs.Parts.{later_then}
use Rattle.wjs_direct_lines.proofs.ReferenceReading.{read_broke, read_found, read_goes}
use Rattle.wjs_direct_lines.proofs.updates.target_updated.Goals as goal

-- behind its value
pub value_updated-requires-clause-base : goal.value_updated-requires-clause-base
value_updated-requires-clause-base g c = c.in-Ok.ensures.later.base

pub value_updated-requires-clause-there : goal.value_updated-requires-clause-there
value_updated-requires-clause-there g c = c.in-Ok.ensures.later.frames c.args.frame.now c.requires.there

pub value_updated-requires-clause-node : goal.value_updated-requires-clause-node
value_updated-requires-clause-node g c = stands_later g.S.WorldStore.meaning c.args.config.now c.args.frame.now c.reference_value.new.config c.args.node c.in-Ok.ensures.later c.requires.node

pub value_updated-requires-clause-empty : goal.value_updated-requires-clause-empty
value_updated-requires-clause-empty g c = c.requires.empty

pub value_updated-requires-clause-reference : goal.value_updated-requires-clause-reference
value_updated-requires-clause-reference g c = c.in-Ok.ensures.later.references c.args.reference c.requires.reference

pub value_updated-requires-clause-old : goal.value_updated-requires-clause-old
value_updated-requires-clause-old g c = c.in-Ok.ensures.found.0

pub returns-in-Ok-clause-later : goal.returns-in-Ok-clause-later
returns-in-Ok-clause-later g c = later_then g.S.WorldStore.meaning c.args.config.now c.reference_value.new.config c.value_updated.new.config c.value_updated.result c.in-Ok.ensures.later c.value_updated.ensures.later

pub returns-in-Ok-clause-does : goal.returns-in-Ok-clause-does
returns-in-Ok-clause-does g c =
    let k = c.value_updated.new in
    read_goes g.S.WorldStore.meaning gives_in c.args.config.now c.reference_value.new.config k.config c.args.frame.now c.args.reference (λ t env. line.update_value (fix_in c.args.fix) c.args.operator env (reference_in t c.args.reference)) c.in-Ok.old
    c.value_updated.result k.stops.waits k.stops.top c.in-Ok.ensures.later c.in-Ok.ensures.does c.value_updated.ensures.does

-- its read threw
pub returns-in-Err-clause-found : goal.returns-in-Err-clause-found
returns-in-Err-clause-found g c =
    let s = c.args.stops.now in
    read_found g.S.WorldStore.meaning c.reference_value.new.config c.in-Err.end s.waits s.top c.in-Err.ensures.found c.requires.empty

pub returns-in-Err-clause-does : goal.returns-in-Err-clause-does
returns-in-Err-clause-does g c =
    let s = c.args.stops.now in
    read_broke g.S.WorldStore.meaning gives_in c.args.config.now c.reference_value.new.config c.args.frame.now c.args.reference (λ t env. line.update_value (fix_in c.args.fix) c.args.operator env (reference_in t c.args.reference)) c.in-Err.end
    s.waits s.top c.in-Err.ensures.found c.in-Err.ensures.does
