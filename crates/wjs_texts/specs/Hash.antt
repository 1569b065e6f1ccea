-- The hashes by which a text is looked for: at the first turn FNV-1a of 32 bits, taken by code units, and at each further one the
-- same with another factor. They go on from unit to unit.
use Rattle.std.specs.Prelude.{ℕ, ◌+◌, ◌*◌, ◌%◌, ◌^◌, [], ◌∷◌, bit_xor}
use Rattle.wjs_base.specs.Text.{Units}

-- by what each unit multiplies at a turn
abbrev pub factor_of : ℕ → ℕ
factor_of turn = (16777619 + (turn * 2654435762) % 2 ^ 32) % 2 ^ 32

-- the hash with one unit more
abbrev pub hash_more : ℕ → ℕ → ℕ → ℕ
hash_more factor hash unit = (bit_xor hash unit * factor) % 2 ^ 32

-- the hash of units behind others that have this one
abbrev pub hash_behind : ℕ → ℕ → Units → ℕ
hash_behind factor hash [] = hash
hash_behind factor hash (unit ∷ units) = hash_behind factor (hash_more factor hash unit) units

-- the hash of a text at a turn
abbrev pub hash_of : ℕ → Units → ℕ
hash_of turn units = hash_behind (factor_of turn) 2166136261 units
