-- What a table knows keeps its content as the table grows.
use Rattle.std.proofs.Common.{◌≡◌, true, not, [], length, take, Option, refl, ap, ◌∙◌, arith}
use Rattle.std.specs.Prelude.{nat_lt, is_none, unwrap_or}
use Rattle.std.specs.List.{list_any}
use Rattle.std.proofs.lemmas.Bool.{and_parts, and_from, ltb-true, lt-ltb}
use Rattle.std.proofs.lemmas.List.{take-append-le}
use Rattle.wjs_base.specs.declared.ids.TextId.{TextId}
use Rattle.wjs_base.specs.declared.values.Name.{Name}
use Rattle.wjs_base.specs.declared.values.Name.TheVariants as name
use Rattle.wjs_base.specs.declared.values.Value.{Value as NumberedValue}
use Rattle.wjs_base.specs.declared.values.Value.TheVariants as value
use Rattle.wjs_base.specs.declared.values.Slot.{Slot as NumberedSlot}
use Rattle.wjs_base.specs.Text.{Table, Has, Grows, Units}
use Rattle.wjs_base.proofs.TextLaws.{Has-Denotes, Grows-Has, Grows-Denotes}
use Rattle.wjs_store.specs.Meaning.{Worlds}
use Rattle.wjs_by_content.specs.Renamed as rename
use Rattle.wjs_by_content.proofs.Grow.{known_grows, named_grows}
use Rattle.wjs_by_content.specs.Values.{Text, String, same_text}
use Rattle.wjs_by_content.specs.Names.{slot, index_of}
use Rattle.wjs_by_content.specs.Tables.{text_in, name_in, value_in, slot_in, knows_text, knows_name, knows_value, knows_slot}
use Rattle.wjs_by_content.specs.Telling.{names_of}
use Rattle.wjs_by_content.specs.Worlds.{worlds_in, KnowsWorlds}

module _ (old new : Table) (g : Grows old new) where
  pub text_stays : (id : TextId) → Has old id → text_in new id ≡ text_in old id
  text_stays id has = ap (λ (o : Option Units). unwrap_or o []) (Grows-Denotes old new id (text_in old id) g (Has-Denotes old id has))

  front : (id : TextId) → Has old id → take id.0 new ≡ take id.0 old
  front id has = ap (take id.0) g.1 ∙ take-append-le id.0 old g.0 (omega (arith, has))

  pub text_grows : (id : TextId) → knows_text old id ≡ true → (knows_text new id ≡ true) × (text_in new id ≡ text_in old id)
  text_grows id k =
      let p = and_parts (nat_lt id.0 (length old)) (not (list_any (same_text (text_in old id)) (take id.0 old))) k in
      let has : Has old id = ltb-true id.0 (length old) p.0 in
      let e = text_stays id has in
      let same : not (list_any (same_text (text_in new id)) (take id.0 new)) ≡ not (list_any (same_text (text_in old id)) (take id.0 old)) = λ i. not (list_any (same_text (e i)) (front id has i)) in
      (and_from _ _ (lt-ltb id.0 (length new) (Grows-Has old new id g has)) (same ∙ p.1), e)

  pub name_grows : (n : Name) → knows_name old n ≡ true → (knows_name new n ≡ true) × (name_in new n ≡ name_in old n)
  name_grows (name.Index index) k = (k, refl)
  name_grows (name.Text id) k =
      let p = and_parts (knows_text old id) (is_none (index_of (text_in old id))) k in
      let t = text_grows id p.0 in
      (and_from _ _ t.0 (ap (λ (u : Text). is_none (index_of u)) t.1 ∙ p.1), t.1)

  pub slot_grows : (s : NumberedSlot) → knows_slot old s ≡ true → (knows_slot new s ≡ true) × (slot_in new s ≡ slot_in old s)
  slot_grows s k = let n = name_grows s.name k in (n.0, ap (slot s.object) n.1)

  pub value_grows : (v : NumberedValue) → knows_value old v ≡ true → (knows_value new v ≡ true) × (value_in new v ≡ value_in old v)
  value_grows value.Undefined k = (refl, refl)
  value_grows value.Null k = (refl, refl)
  value_grows (value.Bool b) k = (refl, refl)
  value_grows (value.Number x) k = (refl, refl)
  value_grows (value.Text id) k = let t = text_grows id k in (t.0, ap String t.1)
  value_grows (value.Object o) k = (refl, refl)

  pub names_grow : rename.Grows (names_of old) (names_of new)
  names_grow = record { slot = slot_grows; value = value_grows }

  pub worlds_grow : (F : Worlds) → KnowsWorlds old F → KnowsWorlds new F × (worlds_in new F ≡ worlds_in old F)
  worlds_grow F k = (known_grows (names_of old) (names_of new) names_grow F k, named_grows (names_of old) (names_of new) names_grow F k)
