-- Code points, and their bytes and units (The Unicode Standard, section 3.9, Unicode Encoding Forms: UTF-16 and UTF-8).
use Rattle.std.specs.Prelude.{◌≡◌, ℕ, ◌+◌, ◌<◌, List, map, length, Bool, true, ◌&&◌, if◌then◌else◌, nat_le, nat_lt, slice_index, All}
use Rattle.std.specs.Char.Escape.{encode_utf16}
use Rattle.std.specs.Char.Utf16.{is_high_surrogate, is_low_surrogate, utf16_lossy_chars}
use Rattle.std.specs.List.{flat_map}
use Rattle.std.specs.Str.{encode_utf8_all, all_scalars, IsUtf8, IsValidUpTo}

-- the units of code points: one each, or a surrogate pair past U+FFFF
abbrev pub utf16 : List ℕ → List ℕ
utf16 points = flat_map encode_utf16 points

-- the bytes and the units are those of the same code points, none of them a surrogate
pub record SameText (bytes units : List ℕ) : Type 0 where
  pub points : List ℕ
  pub scalars : all_scalars points ≡ true
  pub bytes_are : encode_utf8_all points ≡ bytes
  pub units_are : utf16 points ≡ units

-- the bytes are no UTF-8, and the longest prefix that is has this length
pub record StopsBeingUtf8 (bytes : List ℕ) (byte : ℕ) : Type 0 where
  pub none : ¬ (IsUtf8 bytes)
  pub longest : IsValidUpTo bytes byte

-- half of a pair
abbrev pub is_surrogate : ℕ → Bool
is_surrogate point = nat_le 0xD800 point && nat_lt point 0xE000

-- a surrogate is shown as U+FFFD
abbrev pub shown : ℕ → ℕ
shown point = if is_surrogate point then 0xFFFD else point

-- no first half stands before a second half, which would be a pair
abbrev pub AreUnpaired : List ℕ → Type 0
AreUnpaired points = (k : ℕ) → k + 1 < length points → (is_high_surrogate (slice_index points k) && is_low_surrogate (slice_index points (k + 1))) ≡ true → ⊥

-- the bytes show the code points of the units, each surrogate outside a pair as U+FFFD
pub record Shows (units bytes : List ℕ) : Type 0 where
  pub points : List ℕ
  pub code_points : All (λ point. point < 0x11_0000) points
  pub unpaired : AreUnpaired points
  pub units_are : utf16 points ≡ units
  pub bytes_are : encode_utf8_all (map shown points) ≡ bytes

-- these bytes, as a function of the units
abbrev pub utf8_of : List ℕ → List ℕ
utf8_of units = encode_utf8_all (utf16_lossy_chars units)
