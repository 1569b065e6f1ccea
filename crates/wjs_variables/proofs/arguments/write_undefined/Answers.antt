use Rattle.std.proofs.Common.{List, ap}
use Rattle.std.specs.Prelude.{map, slice_index_or}
use Rattle.std.proofs.lemmas.List.Elements.{All-get_or}
use Rattle.wjs_base.proofs.TextLaws.{Grows-Has}
use Rattle.wjs_base.specs.declared.ids.TextId.{TextId}
use Rattle.wjs_base.specs.Text.{Has}
use Rattle.wjs_by_content.specs.Tables.{text_in}
use Rattle.wjs_meaning.specs.Deeds.{write_all}
use Rattle.wjs_heap_steps.proofs.Later.{later_same, later_twice}
use Rattle.wjs_calls.proofs.Elements.{none_left}
use Rattle.wjs_calls.proofs.Rows.{leaves_all, leaves_less, leaves_none}
use Rattle.wjs_variables.specs.Filling.{undefined_slots}
use Rattle.wjs_variables.proofs.Filling.{undefined_left}
use Rattle.wjs_variables.proofs.arguments.write_undefined.Goals as goal

pub loop-name-init : goal.loop-name-init
loop-name-init g c = record { left = leaves_all g.S.WorldStore.meaning _ c.args.config.now; later = later_same g.S.WorldStore.meaning c.args.config.now c.requires.base }

pub write_variable-requires-clause-base : goal.write_variable-requires-clause-base
write_variable-requires-clause-base g c = c.loop-name.invariant.later.base

pub write_variable-requires-clause-there : goal.write_variable-requires-clause-there
write_variable-requires-clause-there g c = c.loop-name.invariant.later.frames c.args.frame.now c.requires.there

pub write_variable-requires-clause-object : goal.write_variable-requires-clause-object
write_variable-requires-clause-object g c = c.loop-name.invariant.later.objects c.args.scope c.requires.scope

pub write_variable-requires-clause-text : goal.write_variable-requires-clause-text
write_variable-requires-clause-text g c =
    let old = c.args.config.now.heap.texts in
    let other : TextId = record { 0 = 0 } in
    let i = c.loop-name.name-index in
    Grows-Has old c.loop-name.config.heap.texts (slice_index_or c.args.names.now i other) c.loop-name.invariant.later.texts (All-get_or (Has old) c.args.names.now i other c.loop-name-test.true c.requires.names)

pub loop-name-preserved : goal.loop-name-preserved
loop-name-preserved g c =
    let m = g.S.WorldStore.meaning in
    let old = c.args.config.now in
    let ns = c.args.names.now in
    record {
      left = leaves_less m _ _ _ _ old c.loop-name.config c.write_variable.new.config (λ t more act. undefined_left t c.args.frame.now.world c.args.scope ns c.loop-name.name-index (record { 0 = 0 }) act c.loop-name-test.true) c.loop-name.invariant.left c.in_ok-write_variable.ensures.does;
      later = later_twice m old c.loop-name.config c.write_variable.new.config c.loop-name.invariant.later c.in_ok-write_variable.ensures.later;
    }

pub returns-clause-does : goal.returns-clause-does
returns-clause-does g c = leaves_none g.S.WorldStore.meaning _ _ c.args.config.now c.loop-name.config (λ t act. ap (λ (l : List TextId). write_all c.args.frame.now.world (undefined_slots c.args.scope (map (text_in t) l)) act) (none_left c.args.names.now c.loop-name.name-index c.loop-name-test.false)) c.loop-name.invariant.left

pub returns-clause-later : goal.returns-clause-later
returns-clause-later g c = c.loop-name.invariant.later
