use Rattle.std.proofs.Common.{◌≡◌, ◌-◌, length, drop}
use Rattle.std.specs.Prelude.{map as each}
use Rattle.wjs_base.specs.declared.ids.ObjId.{ObjId}
use Rattle.wjs_meaning.specs.Deeds.{Env}
use Rattle.wjs_meaning.specs.Expressions.{array_from}
use Rattle.wjs_meaning.specs.Reading.{number}
use Rattle.wjs_literals.proofs.arrays.next_among.Given as goal

abbrev pub invariant-holes : goal.invariant-holes
invariant-holes l = (o : ObjId) (env : Env) → array_from (drop l.fn.from (each number l.items)) l.fn.from o env ≡ array_from (drop l.at (each number l.items)) l.at o env

abbrev pub decreases-holes : goal.decreases-holes
decreases-holes l = length l.items - l.at
