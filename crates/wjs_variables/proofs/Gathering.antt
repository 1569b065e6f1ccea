-- Rows that are gathered before they are written.
use Rattle.std.proofs.Common.{◌≡◌, List, [], ◌∷◌, ◌++◌, ap, sym, ◌∙◌, subst, append_assoc}
use Rattle.std.proofs.lemmas.List.{map-append}
use Rattle.wjs_base.specs.declared.ids.ObjId.{ObjId}
use Rattle.wjs_base.specs.declared.values.Name.{Name}
use Rattle.wjs_base.specs.declared.values.Value.{Value as NumberedValue}
use Rattle.wjs_base.specs.Text.{Table}
use Rattle.wjs_by_content.specs.Names.{slot}
use Rattle.wjs_by_content.specs.Tables.{name_in, value_in}
use Rattle.wjs_by_content.proofs.Found.{holds_append}
use Rattle.wjs_props.specs.Several.{rows_in}
use Rattle.wjs_model.specs.declared.config.Config.{Config}
use Rattle.wjs_model.specs.Soundness.{HasName, HasValue}
use Rattle.wjs_heap_steps.specs.HasRows.{HasRows}

-- one row more
pub row_in : (t : Table) (o : ObjId) (old new : List (Name × NumberedValue)) (row : Name × NumberedValue) → new ≡ old ++ row ∷ [] → rows_in t o new ≡ rows_in t o old ++ (slot o (name_in t row.0), value_in t row.1) ∷ []
row_in t o old new row e = ap (rows_in t o) e ∙ map-append (λ (r : Name × NumberedValue). (slot o (name_in t r.0), value_in t r.1)) old (row ∷ [])

-- it is put before what is left
pub row_first : {A : Type 0} (old rest : List A) (x : A) → (old ++ x ∷ []) ++ rest ≡ old ++ x ∷ rest
row_first old rest x = append_assoc old (x ∷ []) rest

pub row_there : {S : Type 0} (c : Config S) (old new : List (Name × NumberedValue)) (row : Name × NumberedValue) → HasRows c old → HasName c row.0 → HasValue c row.1 → new ≡ old ++ row ∷ [] → HasRows c new
row_there c old new row h name value e = subst (HasRows c) (sym e) (holds_append (λ (r : Name × NumberedValue). HasName c r.0 × HasValue c r.1) old (row ∷ []) h ((name, value), tt))
