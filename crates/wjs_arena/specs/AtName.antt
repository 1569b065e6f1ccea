-- What stands under a name in a list.
use Rattle.std.specs.Prelude.{Bool, false, ◌==◌, List, [], ◌∷◌, cond, Option, None, Some}
use Rattle.wjs_base.specs.declared.values.Name.{Name}
use Rattle.wjs_base.specs.declared.values.Name.TheVariants.{Index, Text}

abbrev pub same_name : Name → Name → Bool
same_name (Index a) (Index b) = a == b
same_name (Text a) (Text b) = a.0 == b.0
same_name (Index a) (Text b) = false
same_name (Text a) (Index b) = false

-- the first entry of a name
abbrev pub at_name : {A : Type 0} → List (Name × A) → Name → Option A
at_name [] name = None
at_name (x ∷ xs) name = cond (same_name x.0 name) (Some x.1) (at_name xs name)
