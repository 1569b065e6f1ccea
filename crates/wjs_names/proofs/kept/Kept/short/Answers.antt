use Rattle.std.proofs.Common.{ap, sym}
use Rattle.wjs_names.specs.Kept.{is_past_three, rows_of}
use Rattle.wjs_names.proofs.kept.Kept.short.Goals as goal

pub returns-in-Zero-clause-rows : goal.returns-in-Zero-clause-rows
returns-in-Zero-clause-rows g c = ap rows_of (sym c.in-Zero.is)

pub returns-in-One-clause-rows : goal.returns-in-One-clause-rows
returns-in-One-clause-rows g c = ap rows_of (sym c.in-One.is)

pub returns-in-Two-clause-rows : goal.returns-in-Two-clause-rows
returns-in-Two-clause-rows g c = ap rows_of (sym c.in-Two.is)

pub returns-in-Three-clause-rows : goal.returns-in-Three-clause-rows
returns-in-Three-clause-rows g c = ap rows_of (sym c.in-Three.is)

pub returns-in-Four-clause-past_three : goal.returns-in-Four-clause-past_three
returns-in-Four-clause-past_three g c = λ _. ap is_past_three c.in-Four.is

pub returns-in-Few-clause-past_three : goal.returns-in-Few-clause-past_three
returns-in-Few-clause-past_three g c = λ _. ap is_past_three c.in-Few.is

pub returns-in-Many-clause-past_three : goal.returns-in-Many-clause-past_three
returns-in-Many-clause-past_three g c = λ _. ap is_past_three c.in-Many.is
