use Rattle.std.proofs.Common.{◌≡◌, ◌-◌, ◌≤◌, take, length, slice_get}
use Rattle.std.specs.FinMap as map
use Rattle.wjs_layers.specs.Marks.{reads_in, writes_in}
use Rattle.wjs_overlay.proofs.marks.count_rows.Given as goal

abbrev pub invariant-marks : goal.invariant-marks
invariant-marks g l = record {
  next : l.next ≡ slice_get (map.entries l.layer.rows) l.seen;
  reads : l.reads ≡ reads_in (take l.seen (map.entries l.layer.rows));
  writes : l.writes ≡ writes_in (take l.seen (map.entries l.layer.rows));
  some : l.seen ≤ length (map.entries l.layer.rows);
  few_reads : l.reads ≤ l.seen;
  few_writes : l.writes ≤ l.seen;
}

abbrev pub decreases-marks : goal.decreases-marks
decreases-marks g l = length (map.entries l.layer.rows) - l.seen
