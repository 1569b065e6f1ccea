use Rattle.std.proofs.Common.{ap}
use Rattle.std.specs.Prelude.{slice_index_or}
use Rattle.std.proofs.lemmas.List.Elements.{All-get_or}
use Rattle.wjs_base.specs.declared.ids.NodeId.{NodeId}
use Rattle.wjs_meaning.specs.Reading.{numbers}
use Rattle.wjs_base.specs.Text.{Table}
use Rattle.wjs_meaning.specs.Deeds.{Env}
use Rattle.wjs_meaning.specs.Functions.{declare_functions}
use Rattle.wjs_model.specs.Standing.{IsFunction}
use Rattle.wjs_frames.specs.Parts.{env_in}
use Rattle.wjs_heap_steps.proofs.Later.{later_same, later_twice}
use Rattle.wjs_calls.specs.Making.{declare_one}
use Rattle.wjs_calls.proofs.Rows.{first_env, leaves_all, leaves_less, leaves_none}
use Rattle.wjs_calls.proofs.Elements.{left_here, none_left}
use Rattle.wjs_calls.proofs.Declaring.{declare_left}
use Rattle.wjs_calls.proofs.StandingFunctions.{function_later}
use Rattle.wjs_calls.proofs.functions.declare_functions.Goals as goal

pub loop-function-init : goal.loop-function-init
loop-function-init g c = record { left = leaves_all g.S.WorldStore.meaning _ c.args.config.now; later = later_same g.S.WorldStore.meaning c.args.config.now c.requires.base }

pub declare_function-requires-clause-base : goal.declare_function-requires-clause-base
declare_function-requires-clause-base g c = c.loop-function.invariant.later.base

pub declare_function-requires-clause-there : goal.declare_function-requires-clause-there
declare_function-requires-clause-there g c = c.loop-function.invariant.later.frames c.args.frame.now c.requires.there

pub declare_function-requires-clause-holder : goal.declare_function-requires-clause-holder
declare_function-requires-clause-holder g c = c.loop-function.invariant.later.objects c.args.holder c.requires.holder

pub loop-function-preserved : goal.loop-function-preserved
loop-function-preserved g c =
    let m = g.S.WorldStore.meaning in
    let old = c.args.config.now in
    let f = c.args.frame.now in
    let i = c.loop-function.function-index in
    let fs = c.args.functions.now in
    let k : NodeId = slice_index_or fs i (record { 0 = 0 }) in
    record {
      left = leaves_less m _ _ _ _ old c.loop-function.config c.declare_function.new.config (λ t more act. declare_left fs i k c.args.holder (env_in m old t f) act (left_here fs i (record { 0 = 0 }) c.loop-function-test.true)) c.loop-function.invariant.left
          (first_env m f (λ (env : Env) (t : Table). declare_one k.0 c.args.holder env) old c.loop-function.config c.declare_function.new.config c.loop-function.invariant.later c.in_ok-declare_function.ensures.does);
      later = later_twice m old c.loop-function.config c.declare_function.new.config c.loop-function.invariant.later c.in_ok-declare_function.ensures.later;
    }

pub returns-clause-does : goal.returns-clause-does
returns-clause-does g c = leaves_none g.S.WorldStore.meaning _ _ c.args.config.now c.loop-function.config (λ t act. ap (λ l. declare_functions (numbers l) c.args.holder (env_in g.S.WorldStore.meaning c.args.config.now t c.args.frame.now) act) (none_left c.args.functions.now c.loop-function.function-index c.loop-function-test.false)) c.loop-function.invariant.left

pub returns-clause-later : goal.returns-clause-later
returns-clause-later g c = c.loop-function.invariant.later

pub declare_function-requires-clause-stands : goal.declare_function-requires-clause-stands
declare_function-requires-clause-stands g c =
    let old = c.args.config.now in
    let f = c.args.frame.now in
    let i = c.loop-function.function-index in
    let fs = c.args.functions.now in
    let k : NodeId = slice_index_or fs i (record { 0 = 0 }) in
    function_later g.S.WorldStore.meaning old c.loop-function.config f.tree k f.scope 0 c.loop-function.invariant.later
    (All-get_or (λ (j : NodeId). IsFunction old.units.items old.heap.arena f.tree j f.scope 0) fs i (record { 0 = 0 }) c.loop-function-test.true c.requires.stand)
