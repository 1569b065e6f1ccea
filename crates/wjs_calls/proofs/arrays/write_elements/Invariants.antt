use Rattle.std.proofs.Common.{◌≤◌, ◌-◌, length, drop}
use Rattle.std.specs.Prelude.{map}
use Rattle.wjs_by_content.specs.Tables.{value_in}
use Rattle.wjs_meaning.specs.Deeds.{write_all}
use Rattle.wjs_meaning.specs.NewObjects.{elements_from}
use Rattle.wjs_frames.specs.Following.{Later}
use Rattle.wjs_calls.specs.Leaving.{Leaves}
use Rattle.wjs_calls.proofs.arrays.write_elements.Given as goal

abbrev pub invariant-values : goal.invariant-values
invariant-values g l = record {
  within : l.at ≤ length l.values;
  left : Leaves g.S.WorldStore.meaning (λ t. write_all l.frame.world (elements_from l.object 0 (map (value_in t) l.values))) (λ t. write_all l.frame.world (elements_from l.object l.at (map (value_in t) (drop l.at l.values)))) l.fn.config l.config;
  later : Later g.S.WorldStore.meaning l.fn.config l.config;
}

abbrev pub decreases-values : goal.decreases-values
decreases-values g l = length l.values - l.at
