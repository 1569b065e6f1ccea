-- The trees of units, by content.
use Rattle.std.proofs.Common.{◌≡◌, ℕ, zero, suc, ◌<◌, ◌≤◌, List, [], ◌∷◌, Option, Some, length, sym, ap, ◌∙◌, subst, arith}
use Rattle.std.specs.Prelude.{map as each, slice_get, slice_index_or, unwrap_or, All}
use Rattle.std.specs.Option.{option_map}
use Rattle.std.proofs.lemmas.Option.{slice_get-map, same_Some, none-some, slice_get_past}
use Rattle.std.proofs.lemmas.List.Elements.{All-get_or}
use Rattle.wjs_base.specs.Text.{Table, Grows}
use Rattle.wjs_meaning.specs.Trees.{Tree, empty_tree, tree_at}
use Rattle.wjs_model.specs.declared.loaded.LoadedProgram.{LoadedProgram as Program}
use Rattle.wjs_model.specs.Units.{unit_in}
use Rattle.wjs_model.specs.Texts.{KnowsUnit, PlacesUnit}
use Rattle.wjs_model.proofs.Placed.{placed_stay}
use Rattle.wjs_heap_steps.proofs.Staying.{units_stay}

got : {A : Type 0} (xs : List A) (i : ℕ) (x : A) → i < length xs → x ≡ slice_index_or xs i x → slice_get xs i ≡ Some x
got [] i x lt e = absurd (omega arith)
got (y ∷ xs) zero x lt e = ap (λ z. Some z) (sym e)
got (y ∷ xs) (suc i) x lt e = got xs i x (omega arith) e

pub tree_some : (t : Table) (units : List Program) (i : ℕ) (u : Program) → i < length units → u ≡ slice_index_or units i u → tree_at (each (unit_in t) units) i ≡ unit_in t u
tree_some t units i u lt e = ap (λ (o : Option Tree). unwrap_or o empty_tree) (slice_get-map (unit_in t) units i ∙ ap (option_map (unit_in t)) (got units i u lt e))

pub tree_none : (t : Table) (units : List Program) (i : ℕ) → length units ≤ i → tree_at (each (unit_in t) units) i ≡ empty_tree
tree_none t units i le = ap (λ (o : Option Tree). unwrap_or o empty_tree) (slice_get-map (unit_in t) units i ∙ ap (option_map (unit_in t)) (slice_get_past units i le))

pub unit_here : (P : Program → Type 0) (units : List Program) (i : ℕ) (u : Program) → i < length units → u ≡ slice_index_or units i u → All P units → P u
unit_here P units i u lt e h = subst P (sym e) (All-get_or P units i u lt h)

pub unit_known : (old t : Table) (grows : Grows old t) (units : List Program) (i : ℕ) (u : Program) → i < length units → u ≡ slice_index_or units i u → All (KnowsUnit old) units → KnowsUnit t u
unit_known old t grows units i u lt e h = unit_here (KnowsUnit t) units i u lt e (units_stay old t grows units h)

pub unit_placed : (old t : Table) (grows : Grows old t) (units : List Program) (i : ℕ) (u : Program) → i < length units → u ≡ slice_index_or units i u → All (KnowsUnit old) units → All (PlacesUnit old) units → PlacesUnit t u
unit_placed old t grows units i u lt e h p = unit_here (PlacesUnit t) units i u lt e (placed_stay old t grows units h p)

-- the unit of a number
pub unit_is : (units : List Program) (i : ℕ) (u v : Program) → i < length units → v ≡ slice_index_or units i v → slice_get units i ≡ Some u → v ≡ u
unit_is units i u v lt e h = same_Some v u (sym (got units i v lt e) ∙ h)

pub no_unit : (units : List Program) (i : ℕ) (u : Program) → length units ≤ i → slice_get units i ≡ Some u → ⊥
no_unit units i u le h = none-some u (sym (slice_get_past units i le) ∙ h)
