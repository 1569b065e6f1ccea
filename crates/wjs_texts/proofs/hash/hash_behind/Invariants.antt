use Rattle.std.proofs.Common.{◌≡◌, drop}
use Rattle.wjs_texts.specs.Hash.{hash_behind}
use Rattle.wjs_texts.proofs.hash.hash_behind.Given as goal

-- with the units that are left the hash comes to that of all
abbrev pub invariant-loop-unit : goal.invariant-loop-unit
invariant-loop-unit l = hash_behind l.factor l.hash (drop l.unit-index l.units) ≡ hash_behind l.factor l.fn.front l.units
