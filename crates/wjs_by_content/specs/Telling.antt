-- Known texts, names and values that are different have different contents.
use Rattle.std.specs.Prelude.{◌≡◌, ℕ, ◌<◌, Bool, true, not, nat_le, nat_lt, [], length, take, Option, Some, is_none, refl}
use Rattle.std.specs.List.{list_any}
use Rattle.std.proofs.Common.{ap, sym, ◌∙◌, arith, get_or, ⊎_elim}
use Rattle.std.proofs.lemmas.Bool.{and_parts, ltb-true, leb-true, cases_order, true≢false}
use Rattle.std.proofs.lemmas.Fmt.{decimal_injective}
use Rattle.std.proofs.lemmas.List.{get_or-take, length-take-le}
use Rattle.std.proofs.lemmas.List.Folds.{list_any_at}
use Rattle.std.proofs.lemmas.Option.{unwrap_or-slice_get}
use Rattle.wjs_base.specs.declared.ids.TextId.{TextId}
use Rattle.wjs_base.specs.declared.number.Whole.{Whole}
use Rattle.wjs_base.specs.declared.values.Name.{Name}
use Rattle.wjs_base.specs.declared.values.Name.TheVariants as name
use Rattle.wjs_base.specs.declared.values.Value.{Value as NumberedValue}
use Rattle.wjs_base.specs.declared.values.Value.TheVariants as value
use Rattle.wjs_base.specs.declared.values.Slot.{Slot as NumberedSlot}
use Rattle.wjs_base.specs.Same.{whole_same}
use Rattle.wjs_base.specs.Spelling.{greatest_index}
use Rattle.wjs_base.specs.Text.{Table}
use Rattle.wjs_store.specs.Naming.{plain}
use Rattle.wjs_by_content.specs.Renamed.{Names}
use Rattle.wjs_by_content.specs.Values.{same_text, text_Decides}
use Rattle.wjs_by_content.specs.Names.{content, index_of, index_name}
use Rattle.wjs_by_content.specs.Indices.{index_again}
use Rattle.wjs_by_content.specs.Tables.{text_in, name_in, value_in, slot_in, knows_text, knows_name, knows_value, knows_slot}

true_not : (b : Bool) → b ≡ true → not b ≡ true → ⊥
true_not b e n = true≢false (sym n ∙ ap not e)

some_none : {A : Type 0} (o : Option A) (a : A) → o ≡ Some a → is_none o ≡ true → ⊥
some_none o a e n = let f = ap is_none e in cc

module _ (texts : Table) where
  -- an earlier number of the same text
  not_earlier : (a b : TextId) → knows_text texts b ≡ true → text_in texts a ≡ text_in texts b → a.0 < b.0 → ⊥
  not_earlier a b k e less =
      let p = and_parts (nat_lt b.0 (length texts)) (not (list_any (same_text (text_in texts b)) (take b.0 texts))) k in
      let within = ltb-true b.0 (length texts) p.0 in
      let long = length-take-le b.0 texts (omega (arith, within)) in
      let at : get_or (take b.0 texts) a.0 [] ≡ text_in texts b = get_or-take b.0 texts a.0 [] less ∙ sym (unwrap_or-slice_get texts a.0 []) ∙ e in
      let there = list_any_at (same_text (text_in texts b)) (take b.0 texts) a.0 [] (omega (arith, long, less)) ((text_Decides (text_in texts b) (get_or (take b.0 texts) a.0 [])).1 (sym at)) in
      true_not (list_any (same_text (text_in texts b)) (take b.0 texts)) there p.1

  pub texts_tell : (a b : TextId) → knows_text texts a ≡ true → knows_text texts b ≡ true → text_in texts a ≡ text_in texts b → a ≡ b
  texts_tell a b k l e = ⊎_elim (λ h i. record { 0 = h i }) (⊎_elim (λ h. absurd (not_earlier a b l e h)) (λ h. absurd (not_earlier b a k (sym e) h))) (cases_order a.0 b.0)

  index_or_text : (n : ℕ) (id : TextId) → nat_le n greatest_index ≡ true → knows_name texts (name.Text id) ≡ true → index_name n ≡ text_in texts id → ⊥
  index_or_text n id k l e = some_none (index_of (text_in texts id)) n (ap index_of (sym e) ∙ index_again n (leb-true n greatest_index k)) (and_parts (knows_text texts id) (is_none (index_of (text_in texts id))) l).1

  pub names_tell : (a b : Name) → knows_name texts a ≡ true → knows_name texts b ≡ true → name_in texts a ≡ name_in texts b → a ≡ b
  names_tell (name.Index m) (name.Index n) k l e =
      let small = leb-true m greatest_index k in
      let few = leb-true n greatest_index l in
      ap (λ (i : ℕ). name.Index i) (decimal_injective m n (omega (arith, small)) (omega (arith, few)) e)
  names_tell (name.Index m) (name.Text b) k l e = absurd (index_or_text m b k l e)
  names_tell (name.Text a) (name.Index n) k l e = absurd (index_or_text n a l k (sym e))
  names_tell (name.Text a) (name.Text b) k l e =
      ap (λ (i : TextId). name.Text i) (texts_tell a b (and_parts (knows_text texts a) (is_none (index_of (text_in texts a))) k).0 (and_parts (knows_text texts b) (is_none (index_of (text_in texts b))) l).0 e)

  pub slots_tell : (a b : NumberedSlot) → knows_slot texts a ≡ true → knows_slot texts b ≡ true → slot_in texts a ≡ slot_in texts b → a ≡ b
  slots_tell a b k l e =
      let n = names_tell a.name b.name k l (λ i. (e i).name) in
      λ i. record { object = (e i).object; name = n i }

  pub values_tell : (a b : NumberedValue) → knows_value texts a ≡ true → knows_value texts b ≡ true → value_in texts a ≡ value_in texts b → a ≡ b
  values_tell value.Undefined value.Undefined k l e = refl
  values_tell value.Null value.Null k l e = refl
  values_tell (value.Bool a) (value.Bool b) k l e = let h : a ≡ b = cc in ap (λ (x : Bool). value.Bool x) h
  values_tell (value.Number a) (value.Number b) k l e = let h : a.number ≡ b.number = cc in ap (λ (x : Whole). value.Number x) (whole_same a b h)
  values_tell (value.Text a) (value.Text b) k l e = let h : text_in texts a ≡ text_in texts b = cc in ap (λ (x : TextId). value.Text x) (texts_tell a b k l h)
  values_tell (value.Object a) (value.Object b) k l e = cc
  values_tell a b k l e = cc

-- slots and values under the names that a table gives them
abbrev pub names_of : Table → Names plain content
names_of texts = record {
  slot = slot_in texts;
  value = value_in texts;
  knows = knows_slot texts;
  knows_value = knows_value texts;
  slots_tell = slots_tell texts;
  values_tell = values_tell texts;
  object = λ s k. refl;
}
