-- The rows of one object, in the order of names.
use Rattle.std.specs.Prelude.{Bool, true, false, List, [], ◌∷◌}
use Rattle.std.specs.FinMap as map
use Rattle.wjs_base.specs.declared.values.Name.{Name}
use Rattle.wjs_names.specs.declared.kept.Kept.{Kept}
use Rattle.wjs_names.specs.declared.kept.Kept.TheVariants as kept
use Rattle.wjs_names.specs.Four.{rows_of_four}
use Rattle.wjs_names.specs.declared.short.Short.{Short}
use Rattle.wjs_names.specs.declared.short.Short.TheVariants as short

-- up to three of them
abbrev pub short_rows : {V : Type 0} → Short V → List (Name × V)
short_rows short.Zero = []
short_rows (short.One a) = a ∷ []
short_rows (short.Two a b) = a ∷ b ∷ []
short_rows (short.Three a b c) = a ∷ b ∷ c ∷ []

abbrev pub rows_of : {V : Type 0} → Kept V → List (Name × V)
rows_of kept.Zero = []
rows_of (kept.One a) = a ∷ []
rows_of (kept.Two a b) = a ∷ b ∷ []
rows_of (kept.Three a b c) = a ∷ b ∷ c ∷ []
rows_of (kept.Four four) = rows_of_four four
rows_of (kept.Few few) = few.items
rows_of (kept.Many many) = map.entries many.value

-- there are more than three, or they stand elsewhere than in the object's place
abbrev pub is_past_three : {V : Type 0} → Kept V → Bool
is_past_three kept.Zero = false
is_past_three (kept.One a) = false
is_past_three (kept.Two a b) = false
is_past_three (kept.Three a b c) = false
is_past_three (kept.Four four) = true
is_past_three (kept.Few few) = true
is_past_three (kept.Many many) = true
