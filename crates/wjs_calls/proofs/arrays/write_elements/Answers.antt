use Rattle.std.proofs.Common.{◌≤◌, length, ap, arith}
use Rattle.std.proofs.lemmas.List.Elements.{All-weaker}
use Rattle.wjs_meaning.specs.Deeds.{write_all}
use Rattle.wjs_meaning.specs.NewObjects.{elements_from}
use Rattle.std.specs.Prelude.{map}
use Rattle.wjs_by_content.specs.Tables.{value_in}
use Rattle.wjs_model.specs.Soundness.{HasValue}
use Rattle.wjs_heap_steps.proofs.Later.{later_same, later_twice}
use Rattle.wjs_calls.proofs.Rows.{leaves_all, leaves_twice, leaves_none}
use Rattle.wjs_calls.proofs.Elements.{none_left}
use Rattle.wjs_calls.proofs.arrays.write_elements.Goals as goal

pub values-init : goal.values-init
values-init g c = record { within = omega arith; left = leaves_all g.S.WorldStore.meaning _ c.args.config.now; later = later_same g.S.WorldStore.meaning c.args.config.now c.requires.base }

pub write_some-requires-clause-base : goal.write_some-requires-clause-base
write_some-requires-clause-base g c = c.values.invariant.later.base

pub write_some-requires-clause-there : goal.write_some-requires-clause-there
write_some-requires-clause-there g c = c.values.invariant.later.frames c.args.frame.now c.requires.there

pub write_some-requires-clause-object : goal.write_some-requires-clause-object
write_some-requires-clause-object g c = c.values.invariant.later.objects c.args.object c.requires.object

pub write_some-requires-clause-values : goal.write_some-requires-clause-values
write_some-requires-clause-values g c = All-weaker (HasValue c.args.config.now) (HasValue c.values.config) c.values.invariant.later.values c.args.values.now c.requires.values

pub values-preserved : goal.values-preserved
values-preserved g c =
    let m = g.S.WorldStore.meaning in
    record {
      within = c.in_ok-at.ensures.within;
      left = leaves_twice m _ _ _ c.args.config.now c.values.config c.write_some.new.config c.values.invariant.left c.in_ok-at.ensures.does;
      later = later_twice m c.args.config.now c.values.config c.write_some.new.config c.values.invariant.later c.in_ok-at.ensures.later;
    }

pub returns-clause-does : goal.returns-clause-does
returns-clause-does g c =
    let vs = c.args.values.now in
    let at = c.values.at in
    let past : length vs ≤ at = omega (arith, c.values-test.false) in
    leaves_none g.S.WorldStore.meaning _ _ c.args.config.now c.values.config (λ t act. ap (λ l. write_all c.args.frame.now.world (elements_from c.args.object at (map (value_in t) l)) act) (none_left vs at past)) c.values.invariant.left

pub returns-clause-later : goal.returns-clause-later
returns-clause-later g c = c.values.invariant.later
