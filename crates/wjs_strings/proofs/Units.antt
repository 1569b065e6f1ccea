-- The units of a text, each a piece.
use Rattle.std.proofs.Common.{◌≡◌, ℕ, ◌+◌, ◌-◌, ◌<◌, ◌≤◌, true, false, Option, Some, None, List, [], ◌∷◌, ◌++◌, length, take, drop, map, get_or, subst, refl, ap, sym, ◌∙◌, arith}
use Rattle.std.proofs.lemmas.List.{map-append, length-map, take_more, drop_more, take_all, take-map}
use Rattle.std.proofs.lemmas.Bool.{ltb-false, false≢true}
use Rattle.wjs_by_content.specs.Values.{Text, String}
use Rattle.wjs_meaning.specs.NativesOfTexts.{part_of, parts_of}
use Rattle.wjs_strings.specs.declared.pieces.Piece.{Piece}
use Rattle.wjs_strings.specs.Pieces.{texts_of, up_to, has_room}
use Rattle.wjs_strings.proofs.Parting.{AtMost, room_more, up_to_all}

-- the first units
pub record Unitwise (t : Text) (limit : Option ℕ) (pieces : List Piece) (start : ℕ) : Type 0 where
  pub inside : start ≤ length t
  pub same : texts_of t pieces ≡ map (λ (u : ℕ). String (u ∷ [])) (take start t)
  pub few : AtMost limit start

pub unitwise_start : (t : Text) (limit : Option ℕ) → Unitwise t limit [] 0
unitwise_start t None = record { inside = omega arith; same = refl; few = tt }
unitwise_start t (Some limit) = record { inside = omega arith; same = refl; few = omega arith }

-- one unit
one_unit : (t : Text) (start : ℕ) → start < length t → part_of t start (start + 1) ≡ get_or t start 0 ∷ []
one_unit t start h = ap (λ x. take x (drop start t)) (let q : start + 1 - start ≡ 1 = omega arith in q) ∙ ap (take 1) (drop_more t start 0 h)

pub unitwise_more : (t : Text) (limit : Option ℕ) (pieces : List Piece) (start : ℕ) → Unitwise t limit pieces start → start < length t → has_room limit start ≡ true → Unitwise t limit (pieces ++ record { start = start; end = start + 1 } ∷ []) (start + 1)
unitwise_more t limit pieces start units h room = record {
  inside = omega arith;
  same = map-append (λ (p : Piece). String (part_of t p.start p.end)) pieces (record { start = start; end = start + 1 } ∷ [])
      ∙ ap (λ l. l ++ String (part_of t start (start + 1)) ∷ []) units.same
      ∙ ap (λ x. map (λ (u : ℕ). String (u ∷ [])) (take start t) ++ String x ∷ []) (one_unit t start h)
      ∙ sym (map-append (λ (u : ℕ). String (u ∷ [])) (take start t) (get_or t start 0 ∷ []))
      ∙ ap (map (λ (u : ℕ). String (u ∷ []))) (sym (take_more t start 0 h));
  few = room_more limit start room;
}

-- all units
pub unitwise_all : (t : Text) (limit : Option ℕ) (pieces : List Piece) (start : ℕ) → Unitwise t limit pieces start → length t ≤ start → texts_of t pieces ≡ up_to limit (parts_of t (String []))
unitwise_all t limit pieces start units h =
    let all : texts_of t pieces ≡ map (λ (u : ℕ). String (u ∷ [])) t = units.same ∙ ap (map (λ (u : ℕ). String (u ∷ []))) (take_all start t h) in
    let n = length-map t (λ (u : ℕ). String (u ∷ [])) in
    all ∙ up_to_all limit (map (λ (u : ℕ). String (u ∷ [])) t) (subst (AtMost limit) (let q : start ≡ length (map (λ (u : ℕ). String (u ∷ [])) t) = omega (arith, n, units.inside) in q) units.few)

-- as many as are allowed
pub unitwise_full : (t : Text) (limit : Option ℕ) (pieces : List Piece) (start : ℕ) → Unitwise t limit pieces start → has_room limit start ≡ false → texts_of t pieces ≡ up_to limit (parts_of t (String []))
unitwise_full t None pieces start units h = absurd (false≢true (sym h))
unitwise_full t (Some limit) pieces start units h =
    let e : start ≡ limit = omega (arith, units.few, ltb-false start limit h) in
    units.same ∙ ap (λ n. map (λ (u : ℕ). String (u ∷ [])) (take n t)) e ∙ sym (take-map (λ (u : ℕ). String (u ∷ [])) limit t)
