-- Tests of numbers and names.
use Rattle.std.proofs.Common.{◌≡◌, ℕ, true, refl, arith, None}
use Rattle.std.specs.Ordering.{is_le, nat_cmp}
use Rattle.std.proofs.lemmas.Bool.Decides.{nat_tests}
use Rattle.wjs_base.specs.declared.values.Name.{Name}
use Rattle.wjs_base.specs.declared.values.Name.TheVariants.{Index, Text}
use Rattle.wjs_base.specs.Order.{name_cmp}
use Rattle.wjs_rows.specs.Order.{is_from}
use Rattle.wjs_names.specs.Least.{comes_past}

zero_le : (n : ℕ) → is_le (nat_cmp 0 n) ≡ true
zero_le n = grind (arith, nat_tests)

-- no name comes before the first
pub first_name : (name : Name) → is_le (name_cmp (Index 0) name) ≡ true
first_name (Index n) = zero_le n
first_name (Text t) = refl

-- each name comes at or after the least
pub all_come : is_from name_cmp (Index 0) ≡ comes_past None
all_come = λ i name. first_name name i
