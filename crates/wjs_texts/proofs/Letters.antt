-- The texts that the machine itself uses: what is kept of them, and that they spell no indices, since each begins with a letter.
use Rattle.std.proofs.Common.{◌≡◌, ℕ, zero, suc, ◌<◌, ◌≤◌, List, [], ◌∷◌, Option, None, Some, IfSome, length, get_or, slice_get, refl, arith}
use Rattle.std.specs.Prelude.{decimal, slice_index_or}
use Rattle.wjs_base.specs.declared.ids.TextId.{TextId}
use Rattle.wjs_base.specs.Spelling.{SpellsNoIndex, greatest_index}
use Rattle.wjs_base.specs.Text.{Table, Denotes, Finds}
use Rattle.wjs_base.proofs.TextLaws.{Denotes-unique}
use Rattle.wjs_texts.specs.declared.known.Known.{Known}
use Rattle.wjs_texts.specs.declared.known.Known.TheVariants as known
use Rattle.wjs_texts.specs.Known.{text_of}
use Rattle.wjs_texts.proofs.Decimals.{are_digits, no_digit}

-- what is at a place of a list, where each that is there has a property
pub kept_at : (kept : List (Option TextId)) (place : ℕ) (P : TextId → Type 0) → ((id : TextId) → slice_get kept place ≡ Some (Some id) → P id) → IfSome (slice_index_or kept place None) P
kept_at [] place P each = tt
kept_at (None ∷ rest) zero P each = tt
kept_at (Some id ∷ rest) zero P each = each id refl
kept_at (_ ∷ rest) (suc place) P each = kept_at rest place P each

letter_first : (units : List ℕ) → 0 < length units → 57 < get_or units 0 0 → (index : ℕ) → index ≤ greatest_index → units ≡ decimal index → ⊥
letter_first units some letter index small e = (no_digit units 0 some (are_digits units index (omega (arith, small)) e)).1 letter

no_index : (k : Known) (index : ℕ) → index ≤ greatest_index → text_of k ≡ decimal index → ⊥
no_index known.Length = letter_first (text_of known.Length) (omega arith) (omega arith)
no_index known.Prototype = letter_first (text_of known.Prototype) (omega arith) (omega arith)
no_index known.Constructor = letter_first (text_of known.Constructor) (omega arith) (omega arith)
no_index known.Arguments = letter_first (text_of known.Arguments) (omega arith) (omega arith)
no_index known.Callee = letter_first (text_of known.Callee) (omega arith) (omega arith)
no_index known.Name = letter_first (text_of known.Name) (omega arith) (omega arith)
no_index known.Message = letter_first (text_of known.Message) (omega arith) (omega arith)
no_index known.ToString = letter_first (text_of known.ToString) (omega arith) (omega arith)
no_index known.ValueOf = letter_first (text_of known.ValueOf) (omega arith) (omega arith)

known_spells_none : (texts : Table) (id : TextId) (k : Known) → Denotes texts id (text_of k) → SpellsNoIndex texts id
known_spells_none texts id k at = λ index small other. no_index k index small (Denotes-unique texts id (text_of k) (decimal index) at other)

pub found_spells_none : (texts : Table) (k : Known) (r : Option TextId) → Finds texts (text_of k) r → IfSome r (λ id. SpellsNoIndex texts id)
found_spells_none texts k (Some id) at = known_spells_none texts id k at
found_spells_none texts k None none = tt
