-- What a table knows: under one number for each text, what is in it.
use Rattle.std.proofs.Common.{◌≡◌, ℕ, ◌<◌, true, not, [], length, take, Option, None, Some, get_or, refl, ap, sym, ◌∙◌, arith}
use Rattle.std.specs.Prelude.{decimal, nat_lt, is_none, unwrap_or}
use Rattle.std.specs.List.{list_any}
use Rattle.std.proofs.lemmas.Bool.{and_parts, and_from, ltb-true, lt-ltb, leb-true, le-leb, false_from_ne_true, true≢false}
use Rattle.std.proofs.lemmas.List.{get_or-take, length-take-le}
use Rattle.std.proofs.lemmas.List.Folds.{Any-from_list_any}
use Rattle.std.proofs.lemmas.Option.{slice_get-get_or}
use Rattle.wjs_base.specs.declared.ids.TextId.{TextId}
use Rattle.wjs_base.specs.declared.values.Name.{Name}
use Rattle.wjs_base.specs.declared.values.Name.TheVariants as name
use Rattle.wjs_base.specs.Spelling.{greatest_index, IsName, SpellsNoIndex}
use Rattle.wjs_base.specs.Text.{Table, IsTable, Has, Denotes, Units}
use Rattle.wjs_base.proofs.TextLaws.{Has-Denotes}
use Rattle.wjs_by_content.specs.Values.{Text, same_text, text_Decides}
use Rattle.wjs_by_content.specs.Names.{index_of}
use Rattle.wjs_by_content.specs.Indices.{index_again, index_spells}
use Rattle.wjs_by_content.specs.Tables.{text_in, knows_text, knows_name}

none_or_index : (name : Text) → ((n : ℕ) → index_of name ≡ Some n → ⊥) → is_none (index_of name) ≡ true
none_or_index name h = by (index_of name) h
  where
    by : (o : Option ℕ) → ((n : ℕ) → o ≡ Some n → ⊥) → is_none o ≡ true
    by None k = refl
    by (Some n) k = absurd (k n refl)

no_index : (name : Text) (n : ℕ) → is_none (index_of name) ≡ true → index_of name ≡ Some n → ⊥
no_index name n k e = true≢false (sym k ∙ ap is_none e)

module _ (texts : Table) where
  -- units that a number stands for are its text
  pub text_is : (id : TextId) (units : Units) → Denotes texts id units → text_in texts id ≡ units
  text_is id units at = ap (λ (o : Option Units). unwrap_or o []) at

  pub text_known_is_there : (id : TextId) → knows_text texts id ≡ true → Has texts id
  text_known_is_there id k = ltb-true id.0 (length texts) (and_parts (nat_lt id.0 (length texts)) (not (list_any (same_text (text_in texts id)) (take id.0 texts))) k).0

  pub text_known : IsTable texts → (id : TextId) → Has texts id → knows_text texts id ≡ true
  text_known table id has = and_from _ _ (lt-ltb id.0 (length texts) has) (ap not (false_from_ne_true (list_any (same_text (text_in texts id)) (take id.0 texts)) twice))
    where
      twice : list_any (same_text (text_in texts id)) (take id.0 texts) ≡ true → ⊥
      twice some =
          let a = Any-from_list_any (same_text (text_in texts id)) (take id.0 texts) some in
          let long = length-take-le id.0 texts (omega (arith, has)) in
          let k = a.0 in
          let less : k < id.0 = let w = a.2 in omega (arith, long, w) in
          let same : text_in texts id ≡ a.1 = (text_Decides (text_in texts id) a.1).0 a.4 in
          let at : get_or texts k a.1 ≡ text_in texts id = sym (get_or-take id.0 texts k a.1 less) ∙ a.3 ∙ sym same in
          let there : Denotes texts (record { 0 = k }) (text_in texts id) = slice_get-get_or texts k a.1 (omega (arith, less, has)) ∙ ap Some at in
          let one : k ≡ id.0 = ap (λ (t : TextId). t.0) (table.one_number (record { 0 = k }) id (text_in texts id) there (Has-Denotes texts id has)) in
          omega (arith, less, one)

  spells_none : (id : TextId) → Has texts id → SpellsNoIndex texts id → is_none (index_of (text_in texts id)) ≡ true
  spells_none id has none = none_or_index (text_in texts id) (λ n e.
      let p = index_spells (text_in texts id) n e in
      none n p.0 (Has-Denotes texts id has ∙ ap Some p.1))

  pub name_known : IsTable texts → (n : Name) → IsName texts n → knows_name texts n ≡ true
  name_known table (name.Index index) is = le-leb index greatest_index is
  name_known table (name.Text id) is = and_from _ _ (text_known table id is.0) (spells_none id is.0 is.1)

  pub name_known_is_name : (n : Name) → knows_name texts n ≡ true → IsName texts n
  name_known_is_name (name.Index index) k = leb-true index greatest_index k
  name_known_is_name (name.Text id) k =
      let p = and_parts (knows_text texts id) (is_none (index_of (text_in texts id))) k in
      (text_known_is_there id p.0, λ n small at. no_index (text_in texts id) n p.1 (ap index_of (text_is id (decimal n) at) ∙ index_again n small))
