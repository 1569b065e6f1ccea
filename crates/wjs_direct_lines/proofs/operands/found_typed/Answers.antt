use Rattle.std.specs.Prelude.{Err}
use Rattle.wjs_meaning.specs.Expressions.{typeof_reference, typeof_value}
use Rattle.wjs_meaning.specs.References.{value_of}
use Rattle.wjs_model.specs.Contents.{reference_in}
use Rattle.wjs_frames.specs.Parts.{env_in}
use Rattle.wjs_stopping.specs.Ends.{gives_in}
use Rattle.wjs_direct_lines.proofs.Parts.{later_then, line_as}
use Rattle.wjs_direct_lines.proofs.ReferenceReading.{read_broke, read_found, read_goes}
use Rattle.wjs_direct_lines.proofs.operands.found_typed.Goals as goal

-- behind its value
pub value_typed-requires-clause-base : goal.value_typed-requires-clause-base
value_typed-requires-clause-base g c = c.in-Ok.ensures.later.base

pub value_typed-requires-clause-empty : goal.value_typed-requires-clause-empty
value_typed-requires-clause-empty g c = c.requires.empty

pub value_typed-requires-clause-value : goal.value_typed-requires-clause-value
value_typed-requires-clause-value g c = c.in-Ok.ensures.found.0

pub returns-in-Ok-clause-later : goal.returns-in-Ok-clause-later
returns-in-Ok-clause-later g c = later_then g.S.WorldStore.meaning c.args.config.now c.reference_value.new.config c.value_typed.new.config c.value_typed.result c.in-Ok.ensures.later c.value_typed.ensures.later

pub returns-in-Ok-clause-does : goal.returns-in-Ok-clause-does
returns-in-Ok-clause-does g c =
    let m = g.S.WorldStore.meaning in
    let old = c.args.config.now in
    let f = c.args.frame.now in
    let q = c.args.reference in
    let k = c.value_typed.new in
    line_as m gives_in old k.config f (λ t env. typeof_reference env (reference_in t q)) c.value_typed.result k.stops.waits k.stops.top (λ t env. value_of (reference_in t q) env typeof_value)
    (λ t more. c.requires.typed t (env_in m old t f))
    (read_goes m gives_in old c.reference_value.new.config k.config f q (λ t env. typeof_value) c.in-Ok.value c.value_typed.result k.stops.waits k.stops.top c.in-Ok.ensures.later c.in-Ok.ensures.does c.value_typed.ensures.does)

-- its read threw
pub returns-in-Err-clause-found : goal.returns-in-Err-clause-found
returns-in-Err-clause-found g c =
    let s = c.args.stops.now in
    read_found g.S.WorldStore.meaning c.reference_value.new.config c.in-Err.end s.waits s.top c.in-Err.ensures.found c.requires.empty

pub returns-in-Err-clause-does : goal.returns-in-Err-clause-does
returns-in-Err-clause-does g c =
    let m = g.S.WorldStore.meaning in
    let old = c.args.config.now in
    let f = c.args.frame.now in
    let q = c.args.reference in
    let s = c.args.stops.now in
    let mid = c.reference_value.new.config in
    line_as m gives_in old mid f (λ t env. typeof_reference env (reference_in t q)) (Err c.in-Err.end) s.waits s.top (λ t env. value_of (reference_in t q) env typeof_value)
    (λ t more. c.requires.typed t (env_in m old t f))
    (read_broke m gives_in old mid f q (λ t env. typeof_value) c.in-Err.end s.waits s.top c.in-Err.ensures.found c.in-Err.ensures.does)
