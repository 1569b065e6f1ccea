use Rattle.std.proofs.Common.{◌≡◌, length, sym, ◌∙◌, rules}
use Rattle.wjs_native_core.proofs.Listing.{of_number, of_more, of_other}
use Rattle.wjs_native_core.proofs.arrays.only_number.Goals as goal

pub returns-in_default : goal.returns-in_default
returns-in_default c = λ t env. of_other t env c.args.values.now (λ x e. c.in_default.not-Number x (c.value_at.ensures.is ∙ e))

pub returns-then-values-eq1 : goal.returns-then-values-eq1
returns-then-values-eq1 c =
    let one : length c.args.values.now ≡ 1 = search rules in
    λ t env. of_number t env c.args.values.now c.in-Number.length one (sym c.value_at.ensures.is ∙ c.in-Number.is)

pub returns-else-values-eq1 : goal.returns-else-values-eq1
returns-else-values-eq1 c =
    let more : length c.args.values.now ≡ 1 → ⊥ = search rules in
    λ t env. of_more t env c.args.values.now more
