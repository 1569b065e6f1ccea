-- The parts of a text, one after another.
use Rattle.std.proofs.Common.{◌≡◌, ℕ, suc, zero, ◌+◌, ◌-◌, ◌<◌, ◌≤◌, true, false, Option, Some, None, List, [], ◌∷◌, ◌++◌, length, take, drop, get_or, subst, refl, ap, sym, ◌∙◌, arith}
use Rattle.std.proofs.lemmas.List.{append_assoc, append-nil, drop-drop, length-drop, take_all, map-append, length-map, drop_all, drop_more, take_at, length_push}
use Rattle.std.proofs.lemmas.Bool.{ltb-true, ltb-false, false≢true}
use Rattle.wjs_by_content.specs.Values.{Text, Value, String}
use Rattle.wjs_meaning.specs.NativesOfTexts.{begins_with, first_place, part_of, parts_from}
use Rattle.wjs_strings.specs.declared.pieces.Piece.{Piece}
use Rattle.wjs_strings.specs.Pieces.{texts_of, up_to, has_room}
use Rattle.wjs_strings.proofs.Standing.{found, missing}
use Rattle.wjs_strings.proofs.Moving.{stands_there}

-- a unit where the separator doesn't stand
parts_next : (s part : Text) (u : ℕ) (us : Text) → begins_with s (u ∷ us) ≡ false → parts_from s 0 part (u ∷ us) ≡ parts_from s 0 (part ++ u ∷ []) us
parts_next s part u us b = ap (λ x. elim x as (λ v. List Value) [ true ↦ String part ∷ parts_from s (length s - 1) [] us | false ↦ parts_from s zero (part ++ u ∷ []) us ]) b

-- where it stands
parts_stands : (s part : Text) (u : ℕ) (us : Text) → begins_with s (u ∷ us) ≡ true → parts_from s 0 part (u ∷ us) ≡ String part ∷ parts_from s (length s - 1) [] us
parts_stands s part u us b = ap (λ x. elim x as (λ v. List Value) [ true ↦ String part ∷ parts_from s (length s - 1) [] us | false ↦ parts_from s zero (part ++ u ∷ []) us ]) b

-- units of a separator are passed
parts_passed : (s part : Text) (skip : ℕ) (us : Text) → skip ≤ length us → parts_from s skip part us ≡ parts_from s 0 part (drop skip us)
parts_passed s part zero us h = refl
parts_passed s part (suc skip) [] h = absurd (omega arith)
parts_passed s part (suc skip) (u ∷ us) h = parts_passed s part skip us (omega arith)

-- units where it doesn't stand
parts_skips : (s part us : Text) (d : ℕ) → d ≤ length us → ((e : ℕ) → e < d → begins_with s (drop e us) ≡ false) → parts_from s 0 part us ≡ parts_from s 0 (part ++ take d us) (drop d us)
parts_skips s part us zero h none = ap (λ l. parts_from s 0 l us) (sym (append-nil part))
parts_skips s part [] (suc d) h none = absurd (omega arith)
parts_skips s part (u ∷ us) (suc d) h none =
    parts_next s part u us (none 0 (omega arith))
    ∙ parts_skips s (part ++ u ∷ []) us d (omega arith) (λ e below. none (suc e) (omega arith))
    ∙ ap (λ l. parts_from s 0 l (drop d us)) (append_assoc part (u ∷ []) (take d us))

-- nothing is left
parts_end : (s part : Text) → parts_from s 0 part [] ≡ String part ∷ []
parts_end s part = refl

-- ---- by places

-- the next separator ends a part
parts_to : (s t : Text) (start p : ℕ) → 0 < length s → start ≤ length t → Some p ≡ first_place s start (drop start t) → parts_from s 0 [] (drop start t) ≡ String (part_of t start p) ∷ parts_from s 0 [] (drop (p + length s) t)
parts_to s t start p full inside h =
    let f = found s start (drop start t) p (sym h) in
    let there = stands_there s t start p inside h in
    let fits : p + length s ≤ length t = there.0.within there.1 in
    let e = drop_more t p 0 (omega arith) in
    let us = drop (p + 1) t in
    let part = take f.on (drop start t) in
    let b : begins_with s (get_or t p 0 ∷ us) ≡ true = ap (begins_with s) (sym e) ∙ there.2 in
    let same : drop f.on (drop start t) ≡ get_or t p 0 ∷ us = drop-drop f.on start t ∙ ap (λ x. drop x t) (sym f.is) ∙ e in
    parts_skips s [] (drop start t) f.on f.at.inside f.at.none
    ∙ ap (parts_from s 0 part) same
    ∙ parts_stands s part (get_or t p 0) us b
    ∙ ap (λ l. String part ∷ l) (parts_passed s [] (length s - 1) us (omega (arith, length-drop (p + 1) t)) ∙ ap (parts_from s 0 []) (drop-drop (length s - 1) (p + 1) t ∙ ap (λ x. drop x t) (omega arith)))
    ∙ ap (λ x. String (take x (drop start t)) ∷ parts_from s 0 [] (drop (p + length s) t)) (let q : f.on ≡ p - start = omega (arith, f.is) in q)

-- no further separator
parts_last : (s t : Text) (start : ℕ) → start ≤ length t → None ≡ first_place s start (drop start t) → parts_from s 0 [] (drop start t) ≡ String (part_of t start (length t)) ∷ []
parts_last s t start inside h =
    let us = drop start t in
    let n = length-drop start t in
    parts_skips s [] us (length us) (omega arith) (λ e below. missing s start us (sym h) e (omega arith))
    ∙ ap (parts_from s 0 (take (length us) us)) (drop_all (length us) us (omega arith))
    ∙ ap (λ x. String (take x us) ∷ []) n

-- ---- pieces so far

abbrev pub AtMost : Option ℕ → ℕ → Type 0
AtMost None n = Unit {0}
AtMost (Some limit) n = n ≤ limit

-- these pieces, and the parts of what is left
pub record Parted (s t : Text) (limit : Option ℕ) (pieces : List Piece) (start : ℕ) : Type 0 where
  pub inside : start ≤ length t
  pub same : texts_of t pieces ++ parts_from s 0 [] (drop start t) ≡ parts_from s 0 [] t
  pub few : AtMost limit (length pieces)

-- one more is allowed
pub room_more : (limit : Option ℕ) (n : ℕ) → has_room limit n ≡ true → AtMost limit (n + 1)
room_more None n h = tt
room_more (Some limit) n h = omega (arith, ltb-true n limit h)

-- no more is taken
up_to_full : (limit : Option ℕ) (vs ws : List Value) → has_room limit (length vs) ≡ false → AtMost limit (length vs) → vs ≡ up_to limit (vs ++ ws)
up_to_full None vs ws h few = absurd (false≢true (sym h))
up_to_full (Some limit) vs ws h few = sym (take_at vs ws limit (omega (arith, ltb-false (length vs) limit h)))

-- all are taken
pub up_to_all : (limit : Option ℕ) (vs : List Value) → AtMost limit (length vs) → vs ≡ up_to limit vs
up_to_all None vs few = refl
up_to_all (Some limit) vs few = sym (take_all limit vs few)

-- one more piece
texts_more : (t : Text) (pieces : List Piece) (a b : ℕ) (vs : List Value) → texts_of t (pieces ++ record { start = a; end = b } ∷ []) ++ vs ≡ texts_of t pieces ++ String (part_of t a b) ∷ vs
texts_more t pieces a b vs = ap (λ l. l ++ vs) (map-append (λ (p : Piece). String (part_of t p.start p.end)) pieces (record { start = a; end = b } ∷ [])) ∙ append_assoc (texts_of t pieces) (String (part_of t a b) ∷ []) vs

length-texts : (t : Text) (pieces : List Piece) → length (texts_of t pieces) ≡ length pieces
length-texts t pieces = length-map pieces (λ (p : Piece). String (part_of t p.start p.end))

pub parted_start : (s t : Text) (limit : Option ℕ) → Parted s t limit [] 0
parted_start s t None = record { inside = omega arith; same = refl; few = tt }
parted_start s t (Some limit) = record { inside = omega arith; same = refl; few = omega arith }

-- a separator is found
pub parted_more : (s t : Text) (limit : Option ℕ) (pieces : List Piece) (start p : ℕ) → 0 < length s → Parted s t limit pieces start → has_room limit (length pieces) ≡ true → Some p ≡ first_place s start (drop start t) → Parted s t limit (pieces ++ record { start = start; end = p } ∷ []) (p + length s)
parted_more s t limit pieces start p full parted room h =
    let there = stands_there s t start p parted.inside h in
    record {
      inside = there.0.within there.1;
      same = texts_more t pieces start p (parts_from s 0 [] (drop (p + length s) t)) ∙ ap (λ l. texts_of t pieces ++ l) (sym (parts_to s t start p full parted.inside h)) ∙ parted.same;
      few = subst (AtMost limit) (sym (length_push pieces (record { start = start; end = p }))) (room_more limit (length pieces) room);
    }

-- no further one is found
pub parted_last : (s t : Text) (limit : Option ℕ) (pieces : List Piece) (start : ℕ) → Parted s t limit pieces start → has_room limit (length pieces) ≡ true → None ≡ first_place s start (drop start t) → texts_of t (pieces ++ record { start = start; end = length t } ∷ []) ≡ up_to limit (parts_from s 0 [] t)
parted_last s t limit pieces start parted room h =
    let all = pieces ++ record { start = start; end = length t } ∷ [] in
    let same : texts_of t all ≡ parts_from s 0 [] t = sym (append-nil (texts_of t all)) ∙ texts_more t pieces start (length t) [] ∙ ap (λ l. texts_of t pieces ++ l) (sym (parts_last s t start parted.inside h)) ∙ parted.same in
    let n = length-texts t all ∙ length_push pieces (record { start = start; end = length t }) in
    up_to_all limit (texts_of t all) (subst (AtMost limit) (sym n) (room_more limit (length pieces) room)) ∙ ap (up_to limit) same

-- no more pieces are allowed
pub parted_full : (s t : Text) (limit : Option ℕ) (pieces : List Piece) (start : ℕ) → Parted s t limit pieces start → has_room limit (length pieces) ≡ false → texts_of t pieces ≡ up_to limit (parts_from s 0 [] t)
parted_full s t limit pieces start parted room =
    let n = length-texts t pieces in
    up_to_full limit (texts_of t pieces) (parts_from s 0 [] (drop start t)) (ap (has_room limit) n ∙ room) (subst (AtMost limit) (sym n) parted.few) ∙ ap (up_to limit) parted.same

-- less is left
pub parts_fall : (s t : Text) (start p : ℕ) → 0 < length s → start ≤ length t → Some p ≡ first_place s start (drop start t) → (p + length s ≤ length t) × (length t - (p + length s) < length t - start)
parts_fall s t start p full inside h =
    let f = found s start (drop start t) p (sym h) in
    let there = stands_there s t start p inside h in
    let fits : p + length s ≤ length t = there.0.within there.1 in
    (fits, omega (arith, f.is))
