-- Hexadecimal digits that are read.
use Rattle.std.proofs.Common.{◌≡◌, ℕ, ◌+◌, ◌*◌, ◌/◌, ◌%◌, ◌^◌, ◌<◌, false, ◌≢◌, List, [], ◌∷◌, ◌++◌, length, get_or, take, drop, refl, ap, sym, ◌∙◌, append_assoc, arith}
use Rattle.std.specs.Fmt.{digit_glyph}
use Rattle.std.proofs.lemmas.List.{take-append-drop, drop_more, flat_map_more, length-append, take_more}
use Rattle.std.proofs.lemmas.List.Elements.{All-head, All-tail}
use Rattle.wjs_base.specs.Text.{Units}
use Rattle.wjs_audit.specs.Parts.{AreUnits}
use Rattle.wjs_audit.specs.Spelling.{unit_text, hex, hex_parts}
use Rattle.wjs_audit.proofs.Spellings.{glyphs, unit_glyphs, head_is, tail_is}

-- ---- one unit

pub unit_spelled : (a b c d : ℕ) (unit : ℕ) → a < 16 → b < 16 → c < 16 → d < 16 → unit ≡ a * 4096 + b * 256 + c * 16 + d → (unit < 2 ^ 16) × (digit_glyph false a ∷ digit_glyph false b ∷ digit_glyph false c ∷ digit_glyph false d ∷ [] ≡ unit_text unit)
unit_spelled a b c d unit la lb lc ld e =
    let small : unit < 2 ^ 16 = omega arith in
    let p : a ≡ unit / 4096 = omega arith in
    let q : b ≡ unit / 256 % 16 = omega arith in
    let r : c ≡ unit / 16 % 16 = omega arith in
    let s : d ≡ unit % 16 = omega arith in
    (small, (λ i. digit_glyph false (p i) ∷ digit_glyph false (q i) ∷ digit_glyph false (r i) ∷ digit_glyph false (s i) ∷ []) ∙ sym (unit_glyphs unit small))

-- the digits of a unit are its glyphs
pub unit_digits : (a b c d unit : ℕ) → unit < 2 ^ 16 → a ∷ b ∷ c ∷ d ∷ [] ≡ unit_text unit
    → (a ≡ digit_glyph false (unit / 4096)) × (b ≡ digit_glyph false (unit / 256 % 16)) × (c ≡ digit_glyph false (unit / 16 % 16)) × (d ≡ digit_glyph false (unit % 16))
unit_digits a b c d unit fits e =
    let f : a ∷ b ∷ c ∷ d ∷ [] ≡ glyphs unit = e ∙ unit_glyphs unit fits in
    (ap (λ bs. get_or bs 0 0) f, ap (λ bs. get_or bs 1 0) f, ap (λ bs. get_or bs 2 0) f, ap (λ bs. get_or bs 3 0) f)

-- ---- units one after another

-- the four bytes at a place
module _ (part : List ℕ) (at : ℕ) where
  abbrev pub four_at : List ℕ
  four_at = get_or part at 0 ∷ get_or part (at + 1) 0 ∷ get_or part (at + 2) 0 ∷ get_or part (at + 3) 0 ∷ []

  take_next : (i j : ℕ) → j ≡ i + 1 → i < length part → take j part ≡ take i part ++ get_or part i 0 ∷ []
  take_next i j e within = ap (λ k. take k part) e ∙ take_more part i 0 within

  drop_next : (i j : ℕ) → j ≡ i + 1 → i < length part → drop i part ≡ get_or part i 0 ∷ drop j part
  drop_next i j e within = drop_more part i 0 within ∙ ap (λ k. get_or part i 0 ∷ drop k part) (sym e)

  pub take_four : at + 3 < length part → take (at + 4) part ≡ take at part ++ four_at
  take_four within =
      let a = take_next at (at + 1) refl (omega arith) in
      let b = take_next (at + 1) (at + 2) (omega arith) (omega arith) in
      let c = take_next (at + 2) (at + 3) (omega arith) (omega arith) in
      let d = take_next (at + 3) (at + 4) (omega arith) within in
      let t = take at part in
      let w = get_or part at 0 in
      let x = get_or part (at + 1) 0 in
      let y = get_or part (at + 2) 0 in
      let z = get_or part (at + 3) 0 in
      d ∙ ap (λ bs. bs ++ z ∷ []) (c ∙ ap (λ bs. bs ++ y ∷ []) (b ∙ ap (λ bs. bs ++ x ∷ []) a))
      ∙ ap (λ bs. (bs ++ y ∷ []) ++ z ∷ []) (append_assoc t (w ∷ []) (x ∷ []))
      ∙ ap (λ bs. bs ++ z ∷ []) (append_assoc t (w ∷ x ∷ []) (y ∷ []))
      ∙ append_assoc t (w ∷ x ∷ y ∷ []) (z ∷ [])

  drop_four : at + 3 < length part → drop at part ≡ four_at ++ drop (at + 4) part
  drop_four within =
      drop_next at (at + 1) refl (omega arith)
      ∙ ap (λ bs. get_or part at 0 ∷ bs) (drop_next (at + 1) (at + 2) (omega arith) (omega arith)
      ∙ ap (λ bs. get_or part (at + 1) 0 ∷ bs) (drop_next (at + 2) (at + 3) (omega arith) (omega arith)
      ∙ ap (λ bs. get_or part (at + 2) 0 ∷ bs) (drop_next (at + 3) (at + 4) (omega arith) within)))

-- units that are spelled in front are the front ones
rest_of : (done all : Units) (rest : List ℕ) → AreUnits done → AreUnits all → hex done ++ rest ≡ hex all → (more : Units) × AreUnits more × (rest ≡ hex more)
rest_of [] all rest f g e = (all, g, e)
rest_of (u ∷ done) [] rest f g e =
    let p = unit_glyphs u (All-head (λ x. x < 2 ^ 16) u done f) in
    let q : (glyphs u ++ hex done) ++ rest ≡ [] = ap (λ bs. (bs ++ hex done) ++ rest) (sym p) ∙ e in
    absurd (let none = ap (λ (bs : List ℕ). length bs) q in omega (arith, none))
rest_of (u ∷ done) (v ∷ all) rest f g e =
    let fu = unit_glyphs u (All-head (λ x. x < 2 ^ 16) u done f) in
    let gv = unit_glyphs v (All-head (λ x. x < 2 ^ 16) v all g) in
    let both : (glyphs u ++ hex done) ++ rest ≡ glyphs v ++ hex all = ap (λ bs. (bs ++ hex done) ++ rest) (sym fu) ∙ e ∙ ap (λ bs. bs ++ hex all) gv in
    rest_of done all rest (All-tail (λ x. x < 2 ^ 16) u done f) (All-tail (λ x. x < 2 ^ 16) v all g) (ap (drop 4) both)

-- four bytes that are no unit's
pub no_unit : (part : List ℕ) (at : ℕ) (done all : Units) → at + 3 < length part → take at part ≡ hex done → AreUnits done → ((unit : ℕ) → unit < 2 ^ 16 → four_at part at ≡ unit_text unit → ⊥) → AreUnits all → part ≡ hex all → ⊥
no_unit part at done all within so_far f none g e =
    let rest = drop at part in
    let r = rest_of done all rest f g (ap (λ bs. bs ++ rest) (sym so_far) ∙ take-append-drop at part ∙ e) in
    by r.0 r.1 (sym (drop_four part at within) ∙ r.2)
  where
    by : (more : Units) → AreUnits more → four_at part at ++ drop (at + 4) part ≡ hex more → ⊥
    by [] h s = absurd (let long = ap (λ (bs : List ℕ). length bs) s in omega (arith, long))
    by (u ∷ more) h s =
        let small = All-head (λ x. x < 2 ^ 16) u more h in
        let same : four_at part at ++ drop (at + 4) part ≡ glyphs u ++ hex more = s ∙ ap (λ bs. bs ++ hex more) (unit_glyphs u small) in
        none u small (ap (take 4) same ∙ sym (unit_glyphs u small))

-- one unit more
pub unit_more : (part : List ℕ) (at : ℕ) (done : Units) (unit : ℕ) → at + 3 < length part → take at part ≡ hex done → four_at part at ≡ unit_text unit → take (at + 4) part ≡ hex (done ++ unit ∷ [])
unit_more part at done unit within so_far e =
    take_four part at within
    ∙ (λ i. so_far i ++ e i)
    ∙ flat_map_more unit_text [] done unit

-- units have four bytes each
hex_length : (all : Units) → AreUnits all → length (hex all) ≡ 4 * length all
hex_length [] h = refl
hex_length (u ∷ all) h =
    let p = ap (λ (bs : List ℕ). length bs) (unit_glyphs u (All-head (λ x. x < 2 ^ 16) u all h)) in
    let q = length-append (unit_text u) (hex all) in
    let r = hex_length all (All-tail (λ x. x < 2 ^ 16) u all h) in
    omega (arith, p, q, r)

pub no_fourth : (part : List ℕ) (all : Units) → length part % 4 ≢ 0 → AreUnits all → part ≡ hex all → ⊥
no_fourth part all odd h e =
    let long = ap (λ (bs : List ℕ). length bs) e ∙ hex_length all h in
    odd (omega (arith, long))

pub some_units : (part : List ℕ) (all : Units) → 0 < length part → part ≡ hex all → 0 < length all
some_units part [] some e = absurd (let none = ap (λ (bs : List ℕ). length bs) e in omega (arith, none))
some_units part (u ∷ all) some e = omega arith

-- ---- the part of units, where there are some

pub hex_parts_is : (units : Units) → 0 < length units → hex_parts units ≡ hex units ∷ []
hex_parts_is [] some = absurd (omega arith)
hex_parts_is (u ∷ units) some = refl

pub one_part : (units : Units) (part : List ℕ) (more : List (List ℕ)) → hex_parts units ≡ part ∷ more → (part ≡ hex units) × (more ≡ []) × (0 < length units)
one_part [] part more e = cc
one_part (u ∷ units) part more e = (sym (head_is (hex (u ∷ units)) part [] more e), sym (tail_is (hex (u ∷ units)) part [] more e), omega arith)

pub some_hex : (part : List ℕ) (units : Units) → AreUnits units → 0 < length units → part ≡ hex units → 0 < length part
some_hex part units are some e =
    let long = ap (λ (bs : List ℕ). length bs) e ∙ hex_length units are in
    omega (arith, long, some)
