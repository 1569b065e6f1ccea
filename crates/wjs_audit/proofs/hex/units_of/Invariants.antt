use Rattle.std.proofs.Common.{◌≡◌, ◌*◌, take}
use Rattle.wjs_audit.specs.Parts.{AreUnits}
use Rattle.wjs_audit.specs.Spelling.{hex}
use Rattle.wjs_audit.proofs.hex.units_of.Given as goal

abbrev pub invariant-loop-place : goal.invariant-loop-place
invariant-loop-place l = (take (4 * l.place) l.part ≡ hex l.units.items) × AreUnits l.units.items
