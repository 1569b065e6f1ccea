-- String literals (ECMA-262, 3rd edition, section 7.8.4; continuations: 5th edition, section
-- 7.8.4).
use Rattle.std.specs.Prelude.{◌≡◌, ℕ, ◌+◌, Bool, true, not, ◌&&◌, ◌||◌, ◌==◌, List, [], ◌∷◌, ◌++◌, Option, Some, None, length, slice_get, slice_range, if◌then◌else◌}
use Rattle.std.specs.List.{list_all}
use Rattle.std.specs.Char.{is_digit}
use Rattle.std.specs.Char.Escape.{encode_utf16}
use Rattle.std.specs.Str.Parse.{digits_value}
use Rattle.wjs_lexer.specs.Characters.{is_line_end, is_decimal}
use Rattle.wjs_lexer.specs.Places.{passes}
use Rattle.wjs_lexer.specs.declared.strings.Part.{Part}
use Rattle.wjs_lexer.specs.declared.strings.Stands.{Stands}
use Rattle.wjs_lexer.specs.declared.strings.Stands.TheVariants as stands

-- the code units that a part stands for
abbrev pub units_of : Stands → List ℕ
units_of stands.Nothing = []
units_of (stands.Unit unit) = unit ∷ []
units_of (stands.Character c) = encode_utf16 c

abbrev pub part : ℕ → Stands → Option Part
part size value = Some (record { size = size; stands = value })

-- the character that a backslash and a character stand for: of `b t n v f r` a control character,
-- else the character itself
abbrev pub escaped : ℕ → ℕ
escaped c = if c == 98 then 8 else (if c == 116 then 9 else (if c == 110 then 10 else (if c == 118 then 11 else (if c == 102 then 12 else (if c == 114 then 13 else c)))))

-- the unit that the hexadecimal digits ds stand for, where there are so many
abbrev pub hex_unit : ℕ → List ℕ → Option ℕ
hex_unit count ds = if (length ds == count) && list_all (λ c. is_digit c 16) ds then Some (digits_value 16 ds) else None

-- `\x` or `\u` with the digits from j on
abbrev pub hex_part : ℕ → Option ℕ → Option Part
hex_part size None = None
hex_part size (Some unit) = part size (stands.Unit unit)

-- a backslash before the digit c, which stands at j: NUL, where it is `0` and no digit follows
abbrev pub digit_escape : List ℕ → ℕ → ℕ → Option Part
digit_escape cs j c = if (c == 48) && not (passes is_decimal (slice_get cs (j + 1))) then part 2 (stands.Unit 0) else None

-- a backslash before the line terminator c, which stands at j: CR LF is one
abbrev pub continuation : List ℕ → ℕ → ℕ → Part
continuation cs j c = record { size = if (c == 13) && passes (λ x. x == 10) (slice_get cs (j + 1)) then 3 else 2; stands = stands.Nothing }

-- a backslash before c, which stands at j
abbrev pub escape_of : List ℕ → ℕ → ℕ → Option Part
escape_of cs j c =
    if c == 120 then hex_part 4 (hex_unit 2 (slice_range cs (j + 1) (j + 3))) else (
    if c == 117 then hex_part 6 (hex_unit 4 (slice_range cs (j + 1) (j + 5))) else (
    if is_decimal c then digit_escape cs j c else (
    if is_line_end c then Some (continuation cs j c) else
    part 2 (stands.Character (escaped c)))))

abbrev pub escape_at : List ℕ → ℕ → Option ℕ → Option Part
escape_at cs j None = None
escape_at cs j (Some c) = escape_of cs j c

-- a part at i: a character that is neither the quote, a backslash nor a line terminator, or an
-- escape
abbrev pub part_of : List ℕ → ℕ → ℕ → Option ℕ → Option Part
part_of cs quote i None = None
part_of cs quote i (Some c) =
    if c == 92 then escape_at cs (i + 1) (slice_get cs (i + 1)) else (if (c == quote) || is_line_end c then None else part 1 (stands.Character c))

unfoldable pub part_at : List ℕ → ℕ → ℕ → Option Part
part_at cs quote i = part_of cs quote i (slice_get cs i)

-- the parts from i up to the quote at n, and the code units that they stand for
pub data Body (cs : List ℕ) (quote n : ℕ) : ℕ → List ℕ → Type 0 where
  close : {i : ℕ} → i ≡ n → slice_get cs i ≡ Some quote → Body cs quote n i []
  more : {i : ℕ} {us vs : List ℕ} (p : Part) → part_at cs quote i ≡ Some p → Body cs quote n (i + p.size) us → vs ≡ units_of p.stands ++ us → Body cs quote n i vs

-- `"` or `'`
abbrev pub is_quote : ℕ → Bool
is_quote c = (c == 34) || (c == 39)

-- a string literal, and the code units that it stands for
pub record IsText (cs : List ℕ) (i n : ℕ) (units : List ℕ) : Type 0 where
  pub quote : ℕ
  pub opens : slice_get cs i ≡ Some quote
  pub quotes : is_quote quote ≡ true
  pub close : ℕ
  pub body : Body cs quote close (i + 1) units
  pub end : n ≡ close + 1
