-- Programs that are put into a list.
use Rattle.std.proofs.Common.{◌≡◌, ℕ, ◌<◌, List, [], ◌∷◌, ◌++◌, Option, None, Some, length, sym, ap, ◌∙◌, subst, arith}
use Rattle.std.specs.Prelude.{All}
use Rattle.std.specs.Option.{option_map_or}
use Rattle.std.proofs.lemmas.List.Elements.{All-nil, All-cons, All-same}
use Rattle.wjs_model.specs.declared.loaded.LoadedProgram.{LoadedProgram as Program}
use Rattle.wjs_parts.specs.Opening.{units_of}

-- one program in a list
pub pushed : (xs ps : List Program) (u : Program) → xs ≡ [] → ps ≡ xs ++ u ∷ [] → ps ≡ u ∷ []
pushed xs ps u none e = e ∙ ap (λ (l : List Program). l ++ u ∷ []) none

pub all_one : (P : Program → Type 0) (ps : List Program) (u : Program) → ps ≡ u ∷ [] → P u → All P ps
all_one P ps u e h = All-same P ps (u ∷ []) e (All-cons P u [] h (All-nil P))

-- the first part stands behind the library, where there is one
pub part_there : (library : Option Program) (us ps : List Program) (u : Program) (n : ℕ) → n ≡ option_map_or (λ (x : Program). 1) library 0 → us ≡ units_of library ps → ps ≡ u ∷ [] → n < length us
part_there None us ps u n is e f = subst (λ (k : ℕ). k < length us) (sym is) (subst (λ (l : List Program). 0 < length l) (sym (e ∙ f)) (omega arith))
part_there (Some l) us ps u n is e f = subst (λ (k : ℕ). k < length us) (sym is) (subst (λ (x : List Program). 1 < length x) (sym (e ∙ ap (λ (x : List Program). l ∷ x) f)) (omega arith))
