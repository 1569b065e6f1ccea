-- The parts of a text are texts.
use Rattle.std.proofs.Common.{◌≡◌, ℕ, zero, suc, ◌+◌, ◌<◌, ◌≤◌, ◌⊎◌, inl, inr, Bool, true, false, cond, List, [], ◌∷◌, ◌++◌, length, take, drop, get_or, Some, sym, subst, arith, add-one, length-drop}
use Rattle.std.specs.Prelude.{slice_get}
use Rattle.std.specs.Str.{IsUtf8}
use Rattle.std.proofs.lemmas.Option.{none-some, same_Some}
use Rattle.std.proofs.lemmas.Str.{IsUtf8-append, IsUtf8-nil, IsUtf8-take, IsUtf8-drop, IsCharBoundary-after_ascii}
use Rattle.wjs_division.specs.Division.{Part, part_behind, divides, lines_of, divided, parts_of}
use Rattle.wjs_division.proofs.Cuts.{one_line, Cut, cut}

-- each is a text
abbrev pub AreTexts : List (List ℕ) → Type 0
AreTexts [] = Unit {0}
AreTexts (line ∷ lines) = IsUtf8 line × AreTexts lines

-- ---- the lines of a text

one_text : (bytes : List ℕ) → IsUtf8 bytes → AreTexts (one_line bytes)
one_text [] u = tt
one_text (b ∷ bytes) u = (u, tt)

-- a text may be cut behind a LF
front_text : (bytes : List ℕ) (n : ℕ) → n < length bytes → get_or bytes n 0 ≡ 10 → IsUtf8 bytes → IsUtf8 (take (suc n) bytes)
front_text bytes n lt feed u =
    let low : get_or bytes n 0 < 128 = omega (arith, feed) in
    subst (λ (k : ℕ). IsUtf8 (take k bytes)) (add-one n) (IsUtf8-take bytes (n + 1) u (IsCharBoundary-after_ascii bytes n u lt low))

back_text : (bytes : List ℕ) (n : ℕ) → n < length bytes → get_or bytes n 0 ≡ 10 → IsUtf8 bytes → IsUtf8 (drop (suc n) bytes)
back_text bytes n lt feed u =
    let low : get_or bytes n 0 < 128 = omega (arith, feed) in
    subst (λ (k : ℕ). IsUtf8 (drop k bytes)) (add-one n) (IsUtf8-drop bytes (n + 1) u (IsCharBoundary-after_ascii bytes n u lt low))

-- by the number of bytes
lines_up_to : (count : ℕ) (bytes : List ℕ) → length bytes ≤ count → IsUtf8 bytes → AreTexts (lines_of bytes)
lines_up_to zero [] few u = tt
lines_up_to zero (b ∷ bytes) few u = absurd (omega arith)
lines_up_to (suc count) bytes few u = go (cut bytes) (λ c. lines_up_to count (drop (suc c.place) bytes) (shorter c) (back_text bytes c.place c.inside c.feed u))
  where
    shorter : (c : Cut bytes) → length (drop (suc c.place) bytes) ≤ count
    shorter c = let inside = c.inside in omega (arith, length-drop (suc c.place) bytes)

    go : Cut bytes ⊎ (lines_of bytes ≡ one_line bytes) → ((c : Cut bytes) → AreTexts (lines_of (drop (suc c.place) bytes))) → AreTexts (lines_of bytes)
    go (inl c) rest = subst AreTexts (sym c.lines) (front_text bytes c.place c.inside c.feed u, rest c)
    go (inr w) rest = subst AreTexts (sym w) (one_text bytes u)

pub lines_are_texts : (bytes : List ℕ) → IsUtf8 bytes → AreTexts (lines_of bytes)
lines_are_texts bytes u = lines_up_to (length bytes) bytes (omega arith) u

-- ---- the parts of lines

only_part : (front bytes : List ℕ) (place : ℕ) (p : Part) → IsUtf8 front → IsUtf8 bytes → slice_get (part_behind front bytes ∷ []) place ≡ Some p → IsUtf8 p.front × IsUtf8 p.bytes
only_part front bytes zero p f b at = subst (λ (q : Part). IsUtf8 q.front × IsUtf8 q.bytes) (same_Some (part_behind front bytes) p at) (f, b)
only_part front bytes (suc place) p f b at = absurd (none-some p at)

divided_texts : (lines : List (List ℕ)) (front bytes : List ℕ) (place : ℕ) (p : Part) → IsUtf8 front → IsUtf8 bytes → AreTexts lines → slice_get (divided front bytes lines) place ≡ Some p → IsUtf8 p.front × IsUtf8 p.bytes
divided_texts [] front bytes place p f b ls at = only_part front bytes place p f b at
divided_texts (line ∷ lines) front bytes place p f b ls at =
    let on = IsUtf8-append bytes line b ls.0 in
    go (divides line) place at (λ k. divided_texts lines front (bytes ++ line) k p f on ls.1) (λ k. divided_texts lines (front ++ (bytes ++ line)) [] k p (IsUtf8-append front (bytes ++ line) f on) IsUtf8-nil ls.1)
  where
    go : (t : Bool) (k : ℕ) → slice_get (cond t (part_behind front bytes ∷ divided (front ++ (bytes ++ line)) [] lines) (divided front (bytes ++ line) lines)) k ≡ Some p → ((n : ℕ) → slice_get (divided front (bytes ++ line) lines) n ≡ Some p → IsUtf8 p.front × IsUtf8 p.bytes) → ((n : ℕ) → slice_get (divided (front ++ (bytes ++ line)) [] lines) n ≡ Some p → IsUtf8 p.front × IsUtf8 p.bytes) → IsUtf8 p.front × IsUtf8 p.bytes
    go true zero is here later = only_part front bytes 0 p f b is
    go true (suc k) is here later = later k is
    go false k is here later = here k is

pub part_texts : (bytes : List ℕ) (place : ℕ) (p : Part) → IsUtf8 bytes → slice_get (parts_of bytes) place ≡ Some p → IsUtf8 p.front × IsUtf8 p.bytes
part_texts bytes place p u at = divided_texts (lines_of bytes) [] [] place p IsUtf8-nil IsUtf8-nil (lines_are_texts bytes u) at
