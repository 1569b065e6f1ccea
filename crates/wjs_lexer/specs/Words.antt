-- Identifiers and reserved words (ECMA-262, 3rd edition, sections 7.5 and 7.6).
use Rattle.std.specs.Prelude.{◌≡◌, ℕ, ◌+◌, ◌<◌, true, List, slice_get, slice_range}
use Rattle.std.specs.List.{flat_map}
use Rattle.std.specs.Char.Escape.{encode_utf16}
use Rattle.wjs_tree.specs.declared.keys.Key.{Key}
use Rattle.wjs_tree.specs.Keys.{spelling}
use Rattle.wjs_lexer.specs.Characters.{starts_name, continues_name}
use Rattle.wjs_lexer.specs.Places.{passes, AllPass}

-- a name stands from i up to n: a start, and characters that go on
pub record Name (cs : List ℕ) (i n : ℕ) : Type 0 where
  pub start : passes starts_name (slice_get cs i) ≡ true
  pub some : i < n
  pub rest : AllPass continues_name cs (i + 1) n

-- an identifier, by its code units: a name that is no reserved word
pub record IsWord (cs : List ℕ) (i n : ℕ) (units : List ℕ) : Type 0 where
  pub name : Name cs i n
  pub free : (key : Key) → slice_range cs i n ≡ spelling key → ⊥
  pub spelled : units ≡ flat_map encode_utf16 (slice_range cs i n)

-- a reserved word
pub record IsKey (cs : List ℕ) (i n : ℕ) (key : Key) : Type 0 where
  pub name : Name cs i n
  pub spelled : slice_range cs i n ≡ spelling key
