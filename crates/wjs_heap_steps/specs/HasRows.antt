-- Rows that are to be written.
use Rattle.std.specs.Prelude.{List}
use Rattle.wjs_base.specs.declared.values.Name.{Name}
use Rattle.wjs_base.specs.declared.values.Value.{Value}
use Rattle.wjs_by_content.specs.Renamed.{Holds}
use Rattle.wjs_model.specs.declared.config.Config.{Config}
use Rattle.wjs_model.specs.Soundness.{HasName, HasValue}

-- what each names is there
abbrev pub HasRows : {S : Type 0} → Config S → List (Name × Value) → Type 0
HasRows c rows = Holds (λ row. HasName c row.0 × HasValue c row.1) rows
