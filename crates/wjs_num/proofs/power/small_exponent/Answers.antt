use Rattle.std.proofs.Common.{arith, ap, ◌∙◌}
use Rattle.std.specs.Int.{int_pow, w64}
use Rattle.std.proofs.lemmas.Int.{to_z-of_z}
use Rattle.wjs_num.specs.Exact.{exact}
use Rattle.wjs_num.proofs.Powers.{small_powers, large_powers}
use Rattle.wjs_num.proofs.power.small_exponent.Goals as goal

pub returns-then-unsigned_abs-lt2 : goal.returns-then-unsigned_abs-lt2
returns-then-unsigned_abs-lt2 c =
    let size = simp (to_z-of_z w64 c.args.base c.ranges.base) at c.unsigned_abs.ensures.value in
    ap exact (small_powers c.args.base c.args.exponent (omega (arith, size)) c.requires)

pub returns-else-unsigned_abs-lt2 : goal.returns-else-unsigned_abs-lt2
returns-else-unsigned_abs-lt2 c =
    let size = simp (to_z-of_z w64 c.args.base c.ranges.base) at c.unsigned_abs.ensures.value in
    ap (λ e. exact (int_pow c.args.base e)) c.min.ensures ∙ large_powers c.args.base c.args.exponent (omega (arith, size))
