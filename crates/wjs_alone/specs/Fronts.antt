-- What a play has printed stands first in what it prints.
use Rattle.std.specs.Prelude.{◌≡◌, ℕ, List, ◌++◌}
use Rattle.wjs_alone.specs.Playing.{Play}

abbrev pub Fronts : List ℕ → Play → Type 0
Fronts front s = (more : List ℕ) × (s.out ≡ front ++ more)
