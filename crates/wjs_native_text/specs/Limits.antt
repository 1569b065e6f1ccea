-- How many parts of a text are wanted.
use Rattle.std.specs.Prelude.{ℕ, Option, None, Some}
use Rattle.wjs_num.specs.Bits.{uint32}
use Rattle.wjs_by_content.specs.Values.{Value, Number}

-- a number sets a limit
abbrev pub limit_in : Value → Option ℕ
limit_in (Number x) = Some (uint32 x)
limit_in v = None
