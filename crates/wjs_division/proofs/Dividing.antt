-- The parts of bytes, line by line.
use Rattle.std.proofs.Common.{◌≡◌, ℕ, ◌+◌, ◌-◌, ◌≤◌, Bool, true, false, cond, List, [], ◌∷◌, ◌++◌, length, take, drop, sym, ap, ◌∙◌, subst, arith, append_assoc}
use Rattle.std.specs.Prelude.{All}
use Rattle.std.proofs.lemmas.List.{drop-drop, drop_all, map-append}
use Rattle.std.proofs.lemmas.List.Elements.{All-push}
use Rattle.std.proofs.Math.Seq.{take-add}
use Rattle.wjs_division.specs.declared.division.Piece.{Piece}
use Rattle.wjs_division.specs.declared.division.Division.{Division}
use Rattle.wjs_division.specs.Division.{Part, part_behind, divides, lines_of, divided, parts_of}
use Rattle.wjs_division.specs.Pieces.{piece_of, IsInside, piece_in, pieces_in, all_parts, TakesIn}

-- a part of bytes up to a place
abbrev up_to : List ℕ → ℕ → ℕ → List ℕ
up_to bytes from to = take (to - from) (drop from bytes)

-- bytes up to a place are those up to an earlier one, and those between
between : (bytes : List ℕ) (a b c : ℕ) → a ≤ b → b ≤ c → up_to bytes a c ≡ up_to bytes a b ++ up_to bytes b c
between bytes a b c low high =
    let sum : c - a ≡ (b - a) + (c - b) = omega arith in
    let there : a + (b - a) ≡ b = omega arith in
    ap (λ (n : ℕ). take n (drop a bytes)) sum
    ∙ take-add (b - a) (c - b) (drop a bytes)
    ∙ ap (λ (l : List ℕ). up_to bytes a b ++ take (c - b) l) (drop-drop (b - a) a bytes ∙ ap (λ (n : ℕ). drop n bytes) there)

front_and : (bytes : List ℕ) (a b : ℕ) → a ≤ b → take b bytes ≡ take a bytes ++ up_to bytes a b
front_and bytes a b low =
    let sum : b ≡ a + (b - a) = omega arith in
    ap (λ (n : ℕ). take n bytes) sum ∙ take-add a (b - a) bytes

none_between : (bytes : List ℕ) (a : ℕ) → up_to bytes a a ≡ []
none_between bytes a = let none : a - a ≡ 0 = omega arith in ap (λ (n : ℕ). take n (drop a bytes)) none

-- the front of a part that begins behind a line that divides
behind : (bytes : List ℕ) (from line next : ℕ) → from ≤ line → line ≤ next → take from bytes ++ (up_to bytes from line ++ up_to bytes line next) ≡ take next bytes
behind bytes from line next low high =
    let order : from ≤ next = omega arith in
    ap (λ (l : List ℕ). take from bytes ++ l) (sym (between bytes from line next low high)) ∙ sym (front_and bytes from next order)

-- ---- a line

line_divides : (front bytes line : List ℕ) (lines : List (List ℕ)) → divides line ≡ true → divided front bytes (line ∷ lines) ≡ part_behind front bytes ∷ divided (front ++ (bytes ++ line)) [] lines
line_divides front bytes line lines e = ap (λ (t : Bool). cond t (part_behind front bytes ∷ divided (front ++ (bytes ++ line)) [] lines) (divided front (bytes ++ line) lines)) e

line_goes_on : (front bytes line : List ℕ) (lines : List (List ℕ)) → divides line ≡ false → divided front bytes (line ∷ lines) ≡ divided front (bytes ++ line) lines
line_goes_on front bytes line lines e = ap (λ (t : Bool). cond t (part_behind front bytes ∷ divided (front ++ (bytes ++ line)) [] lines) (divided front (bytes ++ line) lines)) e

-- a line that divides nothing was taken in
pub no_division : (bytes : List ℕ) (line next : ℕ) (old new : Division) → new ≡ old → old.from ≤ line → line ≤ next → divides (up_to bytes line next) ≡ false → TakesIn bytes line next old new
no_division bytes line next old new same low high e = subst (λ (d : Division). TakesIn bytes line next old d) (sym same) (record {
  order = omega arith;
  inside = λ all. all;
  same = λ lines.
      ap (λ (l : List ℕ). pieces_in bytes old.pieces.items ++ divided (take old.from bytes) l lines) (between bytes old.from line next low high)
      ∙ ap (λ (ps : List Part). pieces_in bytes old.pieces.items ++ ps) (sym (line_goes_on (take old.from bytes) (up_to bytes old.from line) (up_to bytes line next) lines e));
})

-- one that divides, too: the part at hand ends before it, and the next one begins behind it
pub division : (bytes : List ℕ) (line next : ℕ) (old new : Division) → new.pieces.items ≡ old.pieces.items ++ piece_of old.from line ∷ [] → new.from ≡ next → old.from ≤ line → line ≤ next → next ≤ length bytes → divides (up_to bytes line next) ≡ true → TakesIn bytes line next old new
division bytes line next old new pieces from low high within e = record {
  order = omega arith;
  inside = λ all. subst (λ (ps : List Piece). All (IsInside bytes) ps) (sym pieces) (All-push (IsInside bytes) old.pieces.items (piece_of old.from line) all (record { order = low; within = omega arith }));
  same = λ lines.
      let found = pieces_in bytes old.pieces.items in
      let front = take old.from bytes in
      let part = up_to bytes old.from line in
      let rest = divided (take next bytes) [] lines in
      let here : pieces_in bytes new.pieces.items ≡ found ++ piece_in bytes (piece_of old.from line) ∷ [] = ap (pieces_in bytes) pieces ∙ map-append (piece_in bytes) old.pieces.items (piece_of old.from line ∷ []) in
      let begun : divided (take new.from bytes) (up_to bytes new.from next) lines ≡ rest =
      ap (λ (n : ℕ). divided (take n bytes) (up_to bytes n next) lines) from ∙ ap (λ (l : List ℕ). divided (take next bytes) l lines) (none_between bytes next) in
      let cut : divided front part (up_to bytes line next ∷ lines) ≡ part_behind front part ∷ rest =
      line_divides front part (up_to bytes line next) lines e ∙ ap (λ (l : List ℕ). part_behind front part ∷ divided l [] lines) (behind bytes old.from line next low high) in
      (λ i. here i ++ begun i)
      ∙ append_assoc found (piece_in bytes (piece_of old.from line) ∷ []) rest
      ∙ ap (λ (ps : List Part). found ++ ps) (sym cut);
}

-- ---- all lines

-- before the first line
pub none_yet : (bytes : List ℕ) (items : List Piece) → items ≡ [] → pieces_in bytes items ++ parts_of bytes ≡ parts_of bytes
none_yet bytes items none = ap (λ (ps : List Piece). pieces_in bytes ps ++ parts_of bytes) none

-- a line's length on
pub one_more : (bytes : List ℕ) (line len : ℕ) (old new : Division) → TakesIn bytes line (line + len) old new → lines_of (drop line bytes) ≡ take len (drop line bytes) ∷ lines_of (drop len (drop line bytes)) → all_parts bytes old line (lines_of (drop line bytes)) ≡ parts_of bytes
    → all_parts bytes new (line + len) (lines_of (drop (line + len) bytes)) ≡ parts_of bytes
one_more bytes line len old new h lines before =
    let count : (line + len) - line ≡ len = omega arith in
    let more : lines_of (drop line bytes) ≡ up_to bytes line (line + len) ∷ lines_of (drop (line + len) bytes) =
    lines ∙ (λ i. take (sym count i) (drop line bytes) ∷ lines_of (drop-drop len line bytes i)) in
    h.same (lines_of (drop (line + len) bytes)) ∙ ap (all_parts bytes old line) (sym more) ∙ before

-- behind the last one
pub all_found : (bytes : List ℕ) (line : ℕ) (old : Division) (pieces : List Piece) → pieces ≡ old.pieces.items ++ piece_of old.from line ∷ [] → length bytes ≤ line → all_parts bytes old line (lines_of (drop line bytes)) ≡ parts_of bytes → pieces_in bytes pieces ≡ parts_of bytes
all_found bytes line old pieces is past all =
    let found = pieces_in bytes old.pieces.items in
    let ended : all_parts bytes old line (lines_of (drop line bytes)) ≡ found ++ piece_in bytes (piece_of old.from line) ∷ [] = ap (λ (l : List ℕ). all_parts bytes old line (lines_of l)) (drop_all line bytes past) in
    ap (pieces_in bytes) is ∙ map-append (piece_in bytes) old.pieces.items (piece_of old.from line ∷ []) ∙ sym ended ∙ all

pub all_inside : (bytes : List ℕ) (line : ℕ) (old : Division) (pieces : List Piece) → pieces ≡ old.pieces.items ++ piece_of old.from line ∷ [] → old.from ≤ line → line ≤ length bytes → All (IsInside bytes) old.pieces.items → All (IsInside bytes) pieces
all_inside bytes line old pieces is low within all =
    subst (λ (ps : List Piece). All (IsInside bytes) ps) (sym is) (All-push (IsInside bytes) old.pieces.items (piece_of old.from line) all (record { order = low; within = within }))
