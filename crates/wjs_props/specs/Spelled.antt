-- Names with their units, as they are sorted.
use Rattle.std.specs.Prelude.{◌≡◌, []}
use Rattle.std.specs.Cmp.{IsTotalOrder, then_total, on_total, nat_cmp_total}
use Rattle.std.specs.Cmp.Lexicographic.{slice_cmp, nat_list_cmp_total}
use Rattle.std.specs.declared.cmp.Ordering.{Ordering}
use Rattle.std.specs.Ordering.{nat_cmp, then_cmp, on}
use Rattle.wjs_base.specs.declared.values.Name.{Name}
use Rattle.wjs_base.specs.declared.values.Name.TheVariants.{Index, Text}
use Rattle.wjs_base.specs.Order.{kind_of}
use Rattle.wjs_base.specs.Spelling.{index_of, units_of}
use Rattle.wjs_base.specs.Text.{Table, Units}
use Rattle.wjs_props.specs.declared.order.Spelled.{Spelled}

-- what tells a text from others: its units, and nothing of an index
abbrev pub units_if_text : Name → Units → Units
units_if_text (Index index) units = []
units_if_text (Text id) units = units

-- indices ascending, then the others by their units
abbrev pub spelled_cmp : Spelled → Spelled → Ordering
spelled_cmp = then_cmp (on (λ (s : Spelled). kind_of s.name) nat_cmp) (then_cmp (on (λ (s : Spelled). index_of s.name) nat_cmp) (on (λ (s : Spelled). units_if_text s.name s.units.now) (slice_cmp nat_cmp)))

pub spelled_total : IsTotalOrder spelled_cmp
spelled_total = then_total (on_total (λ (s : Spelled). kind_of s.name) nat_cmp_total) (then_total (on_total (λ (s : Spelled). index_of s.name) nat_cmp_total) (on_total (λ (s : Spelled). units_if_text s.name s.units.now) nat_list_cmp_total))

-- the units are those of the name's text
abbrev pub IsSpelled : Table → Spelled → Type 0
IsSpelled texts s = s.units.now ≡ units_of texts s.name
