-- What is seen of a source and of a sink in memory.
use Rattle.std.specs.Prelude.{ℕ, List}
use Rattle.wjs_io.specs.Calls.{Calls}

pub record Reading : Type 0 where
  -- the bytes that are left
  pub left : List ℕ
  -- the most bytes that one call gives
  pub piece : ℕ
  pub calls : Calls

pub record Writing : Type 0 where
  -- the bytes that it holds
  pub held : List ℕ
  -- how many more it holds without taking memory
  pub room : ℕ
  -- the most bytes that one call takes
  pub piece : ℕ
  pub calls : Calls
