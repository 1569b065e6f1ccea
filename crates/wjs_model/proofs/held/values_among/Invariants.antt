use Rattle.std.proofs.Common.{◌≡◌, take}
use Rattle.wjs_model.specs.Frames.{latest_first, earliest_first}
use Rattle.wjs_model.specs.Contents.{values_held}
use Rattle.wjs_model.proofs.held.values_among.Given as goal

abbrev pub invariant-loop-item : goal.invariant-loop-item
invariant-loop-item l = l.values.items ≡ earliest_first (values_held (latest_first (take l.item-index l.items)))
