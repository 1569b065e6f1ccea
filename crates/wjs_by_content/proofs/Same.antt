-- Known values are one exactly where their contents are.
use Rattle.std.proofs.Common.{◌≡◌, true, ap}
use Rattle.std.proofs.lemmas.Bool.Decides.{same_from_decides}
use Rattle.wjs_base.specs.declared.values.Value.{Value as NumberedValue}
use Rattle.wjs_base.specs.Same as numbered
use Rattle.wjs_base.specs.Text.{Table}
use Rattle.wjs_by_content.specs.Values.{same_value, value_Decides}
use Rattle.wjs_by_content.specs.Tables.{value_in, knows_value}
use Rattle.wjs_by_content.specs.Telling.{values_tell}

module _ (texts : Table) where
  pub same_values : (a b : NumberedValue) → knows_value texts a ≡ true → knows_value texts b ≡ true → numbered.same_value a b ≡ same_value (value_in texts a) (value_in texts b)
  same_values a b k l =
      let d = value_Decides (value_in texts a) (value_in texts b) in
      same_from_decides (numbered.same_value a b) (same_value (value_in texts a) (value_in texts b)) (numbered.value_Decides a b) ((λ e. values_tell texts a b k l (d.0 e)), (λ e. d.1 (ap (value_in texts) e)))
