-- Where a fault stops the reading of a whole source.
use Rattle.std.specs.Prelude.{ℕ, ◌+◌, List, Option}
use Rattle.wjs_io.specs.declared.loops.ReadFault.{ReadFault}
use Rattle.wjs_io.specs.declared.loops.ReadFault.TheVariants.{Failed, TooLong, OutOfMemory}
use Rattle.wjs_io.specs.Taking.{Takes, TakesAtMost}

-- at TooLong after exactly one byte more than the limit, and at any other fault before
abbrev pub StopsAfter : ℕ → Option (List ℕ) → Option (List ℕ) → ReadFault → Type 0
StopsAfter limit before after TooLong = Takes (limit + 1) before after
StopsAfter limit before after Failed = TakesAtMost limit before after
StopsAfter limit before after OutOfMemory = TakesAtMost limit before after
