-- What a name spells, and the order of names by what they spell.
use Rattle.std.specs.Prelude.{◌≡◌, ℕ, ◌≤◌, [], decimal, slice_get, unwrap_or}
use Rattle.std.specs.Cmp.{IsTotalOrder, then_total, on_total, nat_cmp_total}
use Rattle.std.specs.Cmp.Lexicographic.{slice_cmp, lists_total}
use Rattle.std.specs.declared.cmp.Ordering.{Ordering}
use Rattle.std.specs.Ordering.{nat_cmp, then_cmp, on}
use Rattle.wjs_base.specs.declared.ids.TextId.{TextId}
use Rattle.wjs_base.specs.declared.values.Name.{Name}
use Rattle.wjs_base.specs.declared.values.Name.TheVariants.{Index, Text}
use Rattle.wjs_base.specs.Order.{kind_of}
use Rattle.wjs_base.specs.Text.{Units, Table, Has, Denotes}

-- the greatest array index, 2^32 - 2 (ECMA-262, 3rd edition, section 15.4)
abbrev pub greatest_index : ℕ
greatest_index = 4294967294

-- the text within a name, if there is one, is in the table
abbrev pub HasName : Table → Name → Type 0
HasName texts (Index index) = Unit {0}
HasName texts (Text id) = Has texts id

-- the units that a name spells: an index its decimal digits, with no zero in front of others
abbrev pub Spells : Table → Name → Units → Type 0
Spells texts (Index index) units = units ≡ decimal index
Spells texts (Text id) units = Denotes texts id units

-- the text spells no index
abbrev pub SpellsNoIndex : Table → TextId → Type 0
SpellsNoIndex texts id = (index : ℕ) → index ≤ greatest_index → ¬ (Denotes texts id (decimal index))

-- the name of a text: the index that it spells, or else the text itself
abbrev pub IsNameOf : Table → TextId → Name → Type 0
IsNameOf texts id (Index index) = (index ≤ greatest_index) × Denotes texts id (decimal index)
IsNameOf texts id (Text itself) = (itself ≡ id) × SpellsNoIndex texts id

-- a name as texts have them: an index in range, or a text that spells none
abbrev pub IsName : Table → Name → Type 0
IsName texts (Index index) = index ≤ greatest_index
IsName texts (Text id) = Has texts id × SpellsNoIndex texts id

-- the index, and 0 for a text
abbrev pub index_of : Name → ℕ
index_of (Index index) = index
index_of (Text id) = 0

-- the units of a text, and none for an index
abbrev pub units_of : Table → Name → Units
units_of texts (Index index) = []
units_of texts (Text id) = unwrap_or (slice_get texts id.0) []

-- the order of names by content: indices ascending, then texts by their units
abbrev pub spelling_cmp : Table → Name → Name → Ordering
spelling_cmp texts = then_cmp (on kind_of nat_cmp) (then_cmp (on index_of nat_cmp) (on (units_of texts) (slice_cmp nat_cmp)))

pub spelling_total : (texts : Table) → IsTotalOrder (spelling_cmp texts)
spelling_total texts = then_total (on_total kind_of nat_cmp_total) (then_total (on_total index_of nat_cmp_total) (on_total (units_of texts) (lists_total nat_cmp_total)))
