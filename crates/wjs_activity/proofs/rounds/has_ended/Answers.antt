use Rattle.std.proofs.Common.{ap}
use Rattle.std.proofs.lemmas.Option.{get_or_from_slice_get}
use Rattle.wjs_activity.specs.declared.activities.Activity.{Activity}
use Rattle.wjs_activity.proofs.rounds.has_ended.Goals as goal

pub returns : goal.returns
returns c = λ a at.
    ap (λ (x : Activity). x.ended) (get_or_from_slice_get c.args.activities.now c.args.place a c.index-activities-place.result at)
