-- Numbers as 32 bits.
use Rattle.std.specs.Prelude.{ℕ, ◌-◌, ◌*◌, ◌/◌, ◌%◌, ◌^◌, nat_lt, if◌then◌else◌, Option, None, Some, ℤ, pos, ◌-ℤ◌, unsigned_abs}
use Rattle.std.specs.Int.{int_div_euclid, int_rem_euclid}

-- modulo 2 ^ 32, and 0 for NaN (ECMA-262 9.6)
abbrev pub uint32 : Option ℤ → ℕ
uint32 None = 0
uint32 (Some x) = unsigned_abs (int_rem_euclid x (pos (2 ^ 32)))

-- 32 bits as a number from -(2 ^ 31) on (9.5)
abbrev pub signed : ℕ → ℤ
signed n = if nat_lt n (2 ^ 31) then pos n else pos n -ℤ pos (2 ^ 32)

-- 9.5
abbrev pub int32 : Option ℤ → ℤ
int32 a = signed (uint32 a)

-- the lowest 5 bits of a count (11.7)
abbrev pub shift_count : Option ℤ → ℕ
shift_count b = uint32 b % 32

-- 11.7.1
abbrev pub shifted_left : Option ℤ → Option ℤ → ℤ
shifted_left a b = signed (uint32 a * 2 ^ shift_count b % 2 ^ 32)

-- rounded down (11.7.2)
abbrev pub shifted_right : Option ℤ → Option ℤ → ℤ
shifted_right a b = int_div_euclid (int32 a) (pos (2 ^ shift_count b))

-- 11.7.3
abbrev pub shifted_unsigned : Option ℤ → Option ℤ → ℕ
shifted_unsigned a b = uint32 a / 2 ^ shift_count b

-- an operation on 32 bits (11.10)
abbrev pub by_bits : (ℕ → ℕ → ℕ) → Option ℤ → Option ℤ → ℤ
by_bits f a b = signed (f (uint32 a) (uint32 b))

-- 11.4.8
abbrev pub complement : Option ℤ → ℤ
complement a = signed (2 ^ 32 - 1 - uint32 a)
