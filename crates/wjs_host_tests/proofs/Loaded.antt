-- Programs that are loaded one after another.
use Rattle.std.proofs.Common.{[], ◌∷◌}
use Rattle.std.specs.Prelude.{All}
use Rattle.std.proofs.lemmas.List.Elements.{All-nil, All-cons, All-head}
use Rattle.wjs_base.specs.Text.{Table, Grows}
use Rattle.wjs_model.specs.declared.loaded.LoadedProgram.{LoadedProgram as Program}
use Rattle.wjs_model.specs.Texts.{KnowsUnit, PlacesUnit}
use Rattle.wjs_model.proofs.Placed.{placed_stay}
use Rattle.wjs_heap_steps.proofs.Staying.{units_stay}

-- what is known of a program in a table is known in each later one
module _ (old new : Table) (u : Program) (g : Grows old new) (known : KnowsUnit old u) where
  one_known : All (KnowsUnit old) (u ∷ [])
  one_known = All-cons (KnowsUnit old) u [] known (All-nil (KnowsUnit old))

  pub known_later : KnowsUnit new u
  known_later = All-head (KnowsUnit new) u [] (units_stay old new g (u ∷ []) one_known)

  pub places_later : PlacesUnit old u → PlacesUnit new u
  places_later placed = All-head (PlacesUnit new) u [] (placed_stay old new g (u ∷ []) one_known (All-cons (PlacesUnit old) u [] placed (All-nil (PlacesUnit old))))
