-- Texts and names under later tables.
use Rattle.std.proofs.Common.{◌≡◌, ℕ, ◌<◌, ◌≤◌, Bool, true, false, refl, sym, ap, ◌∙◌, subst, arith}
use Rattle.std.specs.Str.Parse.{AllDigits}
use Rattle.std.specs.Char.{digit_value}
use Rattle.std.proofs.lemmas.Fmt.{decimal_is_IsNumeral}
use Rattle.wjs_base.specs.declared.ids.TextId.{TextId}
use Rattle.wjs_base.specs.declared.values.Name.{Name}
use Rattle.wjs_base.specs.declared.values.Name.TheVariants as names
use Rattle.wjs_base.specs.Spelling.{greatest_index, HasName, IsName, IsNameOf, Spells}
use Rattle.wjs_base.specs.Text.{Table, Denotes, IsTable, Grows, Units, Interns}
use Rattle.wjs_base.proofs.TextLaws.{Has-Denotes, Grows-Denotes}
use Rattle.wjs_by_content.specs.Names.{index_name, length_name}
use Rattle.wjs_by_content.specs.Values.{same_text, text_Decides}
use Rattle.wjs_by_content.specs.Tables.{text_in, name_in}
use Rattle.wjs_by_content.proofs.Growth.{name_grows}
use Rattle.wjs_by_content.proofs.Known.{text_is, name_known}

-- a number stands for its units under every later table
pub denotes_in : (texts t : Table) (id : TextId) (units : Units) → Denotes texts id units → Grows texts t → text_in t id ≡ units
denotes_in texts t id units d g = text_is t id units (Grows-Denotes texts t id units g d)

pub name_spelled : (texts : Table) (n : Name) → IsName texts n → HasName texts n
name_spelled texts (names.Index i) h = tt
name_spelled texts (names.Text id) h = h.0

-- the name of a text
pub named_in : (texts t : Table) (id : TextId) (n : Name) → IsNameOf texts id n → Grows texts t → name_in t n ≡ text_in t id
named_in texts t id (names.Index i) h g = sym (denotes_in texts t id _ h.1 g)
named_in texts t id (names.Text same) h g = ap (text_in t) h.0

pub spells_itself : (texts : Table) (n : Name) → IsName texts n → Spells texts n (name_in texts n)
spells_itself texts (names.Index i) h = refl
spells_itself texts (names.Text id) h = Has-Denotes texts id h.0

-- the text of a name
pub spelled_in : (old new t : Table) (n : Name) (id : TextId) → IsTable old → IsName old n → ((units : Units) → Spells old n units → Interns old new units id) → Grows old new → Grows new t → Grows old t → text_in t id ≡ name_in t n
spelled_in old new t n id table is f g h k =
    denotes_in new t id (name_in old n) (f (name_in old n) (spells_itself old n is)).denotes h
    ∙ sym (name_grows old t k n (name_known old table n is)).1

-- no index is spelled `length`
no_digits : (units : Units) → units ≡ length_name → AllDigits 10 units → ⊥
no_digits units e d = not_digit (subst (AllDigits 10) e d).0
  where
    not_digit : digit_value 108 < 10 → ⊥
    not_digit h = omega (arith, h)

pub index_not_length : (i : ℕ) → i ≤ greatest_index → same_text (index_name i) length_name ≡ false
index_not_length i small = by (same_text (index_name i) length_name) refl
  where
    by : (b : Bool) → same_text (index_name i) length_name ≡ b → b ≡ false
    by false e = refl
    by true e = absurd (no_digits (index_name i) ((text_Decides (index_name i) length_name).0 e) (decimal_is_IsNumeral i (omega arith)).0.1)
