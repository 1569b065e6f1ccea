-- What a token that is taken leaves.
use Rattle.std.specs.Prelude.{◌≡◌, Bool, true, false, Option, Some, None}
use Rattle.wjs_forms.specs.States.{State}

-- the state behind a token is this one; none exactly where it isn't taken
abbrev pub Answers : Option State → Bool → State → Type 0
Answers o true new = o ≡ Some new
Answers o false new = o ≡ None
