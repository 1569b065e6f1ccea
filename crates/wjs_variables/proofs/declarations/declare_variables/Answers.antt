use Rattle.std.proofs.Common.{List, ap}
use Rattle.std.specs.Prelude.{map, slice_index_or}
use Rattle.std.proofs.lemmas.List.Elements.{All-get_or}
use Rattle.wjs_base.proofs.TextLaws.{Grows-Has}
use Rattle.wjs_base.specs.declared.ids.TextId.{TextId}
use Rattle.wjs_base.specs.Text.{Table, Has}
use Rattle.wjs_by_content.specs.Tables.{text_in}
use Rattle.wjs_meaning.specs.Deeds.{Env}
use Rattle.wjs_meaning.specs.Functions.{declare_variables}
use Rattle.wjs_frames.specs.Parts.{env_in}
use Rattle.wjs_heap_steps.proofs.Later.{later_same, later_twice}
use Rattle.wjs_calls.proofs.Elements.{none_left}
use Rattle.wjs_calls.proofs.Rows.{first_env, leaves_all, leaves_less, leaves_none}
use Rattle.wjs_variables.specs.Filling.{variable_declared}
use Rattle.wjs_variables.proofs.Filling.{variable_left}
use Rattle.wjs_variables.proofs.declarations.declare_variables.Goals as goal

pub loop-name-init : goal.loop-name-init
loop-name-init g c = record { left = leaves_all g.S.WorldStore.meaning _ c.args.config.now; later = later_same g.S.WorldStore.meaning c.args.config.now c.requires.base }

pub declare_variable-requires-clause-base : goal.declare_variable-requires-clause-base
declare_variable-requires-clause-base g c = c.loop-name.invariant.later.base

pub declare_variable-requires-clause-there : goal.declare_variable-requires-clause-there
declare_variable-requires-clause-there g c = c.loop-name.invariant.later.frames c.args.frame.now c.requires.there

pub declare_variable-requires-clause-text : goal.declare_variable-requires-clause-text
declare_variable-requires-clause-text g c =
    let old = c.args.config.now.heap.texts in
    let other : TextId = record { 0 = 0 } in
    let i = c.loop-name.name-index in
    Grows-Has old c.loop-name.config.heap.texts (slice_index_or c.args.names.now i other) c.loop-name.invariant.later.texts (All-get_or (Has old) c.args.names.now i other c.loop-name-test.true c.requires.names)

pub loop-name-preserved : goal.loop-name-preserved
loop-name-preserved g c =
    let m = g.S.WorldStore.meaning in
    let old = c.args.config.now in
    let f = c.args.frame.now in
    let i = c.loop-name.name-index in
    let ns = c.args.names.now in
    let other : TextId = record { 0 = 0 } in
    record {
      left = leaves_less m _ _ _ _ old c.loop-name.config c.declare_variable.new.config (λ t more act. variable_left t (env_in m old t f) ns i other act c.loop-name-test.true) c.loop-name.invariant.left
          (first_env m f (λ (env : Env) (t : Table). variable_declared (text_in t (slice_index_or ns i other)) env) old c.loop-name.config c.declare_variable.new.config c.loop-name.invariant.later c.in_ok-declare_variable.ensures.does);
      later = later_twice m old c.loop-name.config c.declare_variable.new.config c.loop-name.invariant.later c.in_ok-declare_variable.ensures.later;
    }

pub returns-clause-does : goal.returns-clause-does
returns-clause-does g c = leaves_none g.S.WorldStore.meaning _ _ c.args.config.now c.loop-name.config (λ t act. ap (λ (l : List TextId). declare_variables (map (text_in t) l) (env_in g.S.WorldStore.meaning c.args.config.now t c.args.frame.now) act) (none_left c.args.names.now c.loop-name.name-index c.loop-name-test.false)) c.loop-name.invariant.left

pub returns-clause-later : goal.returns-clause-later
returns-clause-later g c = c.loop-name.invariant.later
