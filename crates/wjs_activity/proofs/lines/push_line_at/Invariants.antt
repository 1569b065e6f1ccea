use Rattle.std.proofs.Common.{◌≡◌, List, drop}
use Rattle.wjs_alone.specs.Serial.{End, line_at}
use Rattle.wjs_activity.specs.SoFar.{TellsEnds}
use Rattle.wjs_activity.proofs.lines.push_line_at.Given as goal

-- the ends that were passed are of other activities, and nothing was written for them
abbrev pub invariant-loop-end : goal.invariant-loop-end
invariant-loop-end l = record {
  same : l.text.items ≡ l.fn.text.items;
  passed : (es : List End) → TellsEnds l.ends es → line_at es l.activity ≡ line_at (drop l.end-index es) l.activity;
}
