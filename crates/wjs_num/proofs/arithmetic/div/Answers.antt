use Rattle.std.proofs.Common.{ap, sym, ◌∙◌}
use Rattle.std.specs.Int.{w64}
use Rattle.std.proofs.lemmas.Int.{quot_is, to_z-of_z}
use Rattle.wjs_num.specs.Exact.{exact}
use Rattle.wjs_num.proofs.Quotients.{is_zero_from_bits, not_zero_from_bits, remainder_fits, quotient_found}
use Rattle.wjs_num.proofs.Ranges.{in_range, fits, quotient_fits}
use Rattle.wjs_num.proofs.arithmetic.div.Goals as goal

pub returns : goal.returns
returns c =
    let x = c.in-Some-Some.x in
    let y = c.in-Some-Some.y in
    let a_is = sym (c.in-Some-Some.ensures {u = tt}) in
    let b_is = sym (c.in-Some-Some.ensures' {u = tt}) in
    let r = in_range c.args.a.number x c.args.a.in_range a_is in
    let x_fits = fits x r in
    let y_fits = fits y (in_range c.args.b.number y c.args.b.in_range b_is) in
    let even = simp (to_z-of_z w64 x x_fits, to_z-of_z w64 y y_fits) at c.if-x-y-ne0.false in
    c.fit.ensures
    ∙ ap exact (quot_is w64 x y x_fits y_fits (quotient_fits x y r))
    ∙ sym (quotient_found c.args.a.number c.args.b.number x y a_is b_is (not_zero_from_bits y c.if-y-eq0.false) (is_zero_from_bits _ (remainder_fits x y x_fits) even))
