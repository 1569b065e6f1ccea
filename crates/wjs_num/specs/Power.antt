-- Powers of whole numbers (ECMA-262 15.8.2.13).
use Rattle.std.specs.Prelude.{ℕ, zero, suc, ◌==◌, if◌then◌else◌, Option, None, Some, Result, Ok, Err, ℤ, pos, negsuc, unsigned_abs}
use Rattle.std.specs.Int.{int_pow}
use Rattle.wjs_num.specs.declared.arithmetic.NumFault.{NumFault}
use Rattle.wjs_num.specs.declared.arithmetic.NumFault.TheVariants.{OutOfRange, NotWhole}
use Rattle.wjs_num.specs.Exact.{exact, is_zero}

-- 1 by x to the n, where n is not 0: the power itself at 1 and -1, out of range at 0, and else not whole
abbrev pub inverse_power : ℤ → ℕ → Result (Option ℤ) NumFault
inverse_power x n = if unsigned_abs x == 1 then exact (int_pow x n) else (if is_zero x then Err OutOfRange else Err NotWhole)

-- a to the b: NaN where b is, 1 where b is 0, then NaN where a is
abbrev pub power : Option ℤ → Option ℤ → Result (Option ℤ) NumFault
power a None = Ok None
power a (Some (pos zero)) = Ok (Some (pos 1))
power None (Some (pos (suc n))) = Ok None
power None (Some (negsuc n)) = Ok None
power (Some x) (Some (pos (suc n))) = exact (int_pow x (suc n))
power (Some x) (Some (negsuc n)) = inverse_power x (suc n)
