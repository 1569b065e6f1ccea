-- A number by its kind and its size.
use Rattle.std.specs.Prelude.{ℕ, Option, None, Some, ℤ, pos, neg_ℤ}
use Rattle.wjs_layers.specs.declared.compact.Kind.{Kind}
use Rattle.wjs_layers.specs.declared.compact.Kind.TheVariants as kinds

-- NaN is None, and so is what is no number
abbrev pub number_in : Kind → ℕ → Option ℤ
number_in kinds.Number n = Some (pos n)
number_in kinds.Negative n = Some (neg_ℤ (pos n))
number_in _ n = None
