use Rattle.std.proofs.Common.{◌≡◌, List}
use Rattle.wjs_alone.specs.Serial.{End, lines_from}
use Rattle.wjs_activity.specs.SoFar.{TellsEnds}
use Rattle.wjs_activity.proofs.lines.lines.Given as goal

abbrev pub invariant-loop-place : goal.invariant-loop-place
invariant-loop-place l = (es : List End) → TellsEnds l.ends es → l.text.items ≡ lines_from l.place 1 es
