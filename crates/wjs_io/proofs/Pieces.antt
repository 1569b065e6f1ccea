-- What a source lost and a sink gained, a piece at a time.
use Rattle.std.proofs.Common.{◌≡◌, ℕ, ◌+◌, ◌-◌, ◌≤◌, ◌<◌, List, [], ◌++◌, Option, length, take, drop, min, arith, le_refl, sym, ap, ◌∙◌, subst, length-append, length-drop, take-append-drop}
use Rattle.std.proofs.lemmas.List.{drop_all}
use Rattle.std.proofs.lemmas.Slice.{between_to_end}
use lib.Seq.{take-add, length-take-le, take_at, drop-drop}
use Rattle.std.specs.Io.KnownBytes.{Appends, Consumes}
use Rattle.std.proofs.KnownBytes.{Appends-trans, Consumes-trans}
use Rattle.wjs_io.specs.Taking.{Takes}

-- what is left of some bytes, as a slice from a place to the end
pub slice_range-to_end : (bytes : List ℕ) (gone : ℕ) → take (length bytes - gone) (drop gone bytes) ≡ drop gone bytes
slice_range-to_end bytes gone = between_to_end bytes gone (length bytes) (le_refl _)

pub length-slice_range : (bytes : List ℕ) (gone : ℕ) → gone < length bytes → 0 < length (take (length bytes - gone) (drop gone bytes))
length-slice_range bytes gone h = omega (arith, ap (λ rest. length rest) (slice_range-to_end bytes gone), length-drop gone bytes)

-- a piece goes on where the ones before it end
pub Appends-piece : (a b c : Option (List ℕ)) (bytes : List ℕ) (gone n : ℕ) → Appends a b (take gone bytes)
    → Appends b c (take n (take (length bytes - gone) (drop gone bytes))) → Appends a c (take (gone + n) bytes)
Appends-piece a b c bytes gone n before piece =
    let next = subst (λ rest. Appends b c (take n rest)) (slice_range-to_end bytes gone) piece in
    subst (Appends a c) (sym (take-add gone n bytes)) (Appends-trans a b c _ _ before next)

-- the bytes so far and a piece of the buffer
pub Takes-piece : (a b c : Option (List ℕ)) (bytes buffer : List ℕ) (n all : ℕ) → n ≤ length buffer → length bytes + n ≡ all
    → Consumes a b bytes → Consumes b c (take n buffer) → Takes all a c
Takes-piece a b c bytes buffer n all fits sum before piece = (
  bytes ++ take n buffer,
  length-append bytes (take n buffer) ∙ ap (λ m. length bytes + m) (length-take-le n buffer fits) ∙ sum,
  Consumes-trans a b c _ _ before piece,
)

-- a part of a buffer that was filled with the first bytes that are left: they are followed by the others
pub append-copied : (bytes left part rest : List ℕ) (at n : ℕ) → left ≡ drop at bytes → part ≡ take n left → n ≤ length left
    → drop at bytes ≡ take n (part ++ rest) ++ drop (at + n) bytes
append-copied bytes left part rest at n is copied fits =
    let len : length part ≡ n = ap (λ l. length l) copied ∙ length-take-le n left fits in
    let front : take n (part ++ rest) ≡ take n left = take_at part rest n len ∙ copied in
    let back : drop (at + n) bytes ≡ drop n left = sym (drop-drop n at bytes) ∙ ap (drop n) (sym is) in
    sym is ∙ sym (take-append-drop n left) ∙ ap (λ l. l ++ drop n left) (sym front) ∙ ap (λ l. take n (part ++ rest) ++ l) (sym back)

-- a copy of no byte, where there was room for one, shows that none is left
pub drop-none_copied : (bytes left : List ℕ) (at n room : ℕ) → left ≡ drop at bytes → n ≡ min room (length left) → 0 < room → n ≡ 0
    → drop (at + n) bytes ≡ []
drop-none_copied bytes left at n room is count some none =
    sym (drop-drop n at bytes) ∙ ap (drop n) (sym is) ∙ drop_all n left (omega arith)
