-- Strict equality is sameness, but for NaN.
use Rattle.std.proofs.Common.{◌≡◌, true, not, ◌&&◌, None, Some, ap, sym, ◌∙◌, refl}
use Rattle.wjs_base.specs.declared.values.Value.{Value as NumberedValue}
use Rattle.wjs_base.specs.Same as numbered
use Rattle.wjs_base.specs.Text.{Table}
use Rattle.wjs_by_content.specs.Values.{Value, Number, same_value}
use Rattle.wjs_by_content.specs.Tables.{value_in, knows_value}
use Rattle.wjs_by_content.proofs.Same.{same_values}
use Rattle.wjs_by_content.specs.Conversions.{is_nan, strictly_equal}

strict_is : (x y : Value) → (not (is_nan x) && same_value x y) ≡ strictly_equal x y
strict_is (Number None) (Number None) = refl
strict_is (Number None) (Number (Some b)) = refl
strict_is (Number (Some a)) (Number None) = refl
strict_is (Number (Some a)) (Number (Some b)) = refl
strict_is (Number None) y = refl
strict_is (Number (Some a)) y = refl
strict_is x y = refl

module _ (texts : Table) where
  -- of values of which the first is not NaN
  pub strict_by_number : (a b : NumberedValue) → knows_value texts a ≡ true → knows_value texts b ≡ true → not (is_nan (value_in texts a)) ≡ true → numbered.same_value a b ≡ strictly_equal (value_in texts a) (value_in texts b)
  strict_by_number a b k l n =
      ap (λ c. c && numbered.same_value a b) (sym n)
      ∙ ap (λ s. not (is_nan (value_in texts a)) && s) (same_values texts a b k l)
      ∙ strict_is (value_in texts a) (value_in texts b)
