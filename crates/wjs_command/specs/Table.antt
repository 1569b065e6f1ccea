-- What a run owes, and the line that tells of its end.
use Rattle.std.specs.Prelude.{ℕ, List, [], ◌∷◌, ◌++◌}
use Rattle.wjs_command.specs.declared.status.Status.{Status}

-- what a run owes: the bytes taken from the source, the bytes written on out and on err, and the status
pub record Due : Type 0 where
  pub taken : List ℕ
  pub out : List ℕ
  pub err : List ℕ
  pub status : Status

-- what is owed for a script: the bytes on out and on err, and the status
pub record Told : Type 0 where
  pub out : List ℕ
  pub err : List ℕ
  pub status : Status

-- a text as a line
abbrev pub line : List ℕ → List ℕ
line text = text ++ 10 ∷ []
