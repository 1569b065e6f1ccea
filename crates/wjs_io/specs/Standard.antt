-- What is seen of a stream of std.
use Rattle.std.specs.Prelude.{ℕ}

pub record Counted (Stream : Type 0) : Type 0 where
  pub stream : Stream
  -- how often it failed, up to the last value of a u64
  pub faults : ℕ
