use Rattle.std.proofs.Common.{refl}
use Rattle.wjs_activity.proofs.whole.begun.Goals as goal

pub returns : goal.returns
returns c = record {
  texts = refl;
  arena_is = refl;
  units = refl;
  shared = refl;
  count_is = c.in_ok-activities.ensures.0;
  activities = c.in_ok-activities.ensures.1;
  apart = c.in_ok-apart.ensures;
  ends = c.new.ensures;
  drawn = refl;
}
