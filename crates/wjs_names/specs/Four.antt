-- Four rows, in the order of names.
use Rattle.std.specs.Prelude.{List, [], ◌∷◌}
use Rattle.wjs_base.specs.declared.values.Name.{Name}
use Rattle.wjs_names.specs.declared.four.Four.{Four}

abbrev pub rows_of_four : {V : Type 0} → Four V → List (Name × V)
rows_of_four four = (four.names.first, four.values.first) ∷ (four.names.second, four.values.second) ∷ (four.names.third, four.values.third) ∷ (four.names.fourth, four.values.fourth) ∷ []
