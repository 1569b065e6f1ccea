-- Lists from which the first is taken.
use Rattle.std.specs.Prelude.{◌≡◌, List, [], ◌∷◌, Option, Some, None}

-- the first has been taken; none exactly from the empty list
abbrev pub Takes : {T : Type 0} → List T → Option T → List T → Type 0
Takes old None new = (old ≡ []) × (new ≡ [])
Takes old (Some x) new = old ≡ x ∷ new
