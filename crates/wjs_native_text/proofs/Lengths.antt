-- A part is no longer than the text.
use Rattle.std.proofs.Common.{ℕ, ◌-◌, ◌≤◌, min, max, length, drop, arith}
use Rattle.std.proofs.lemmas.List.{length-take, length-drop}
use Rattle.wjs_by_content.specs.Values.{Text, Whole, Value}
use Rattle.wjs_meaning.specs.NativesOfTexts.{part_of, substring, slice, kept_within, from_end, end_of, or_zero}

pub part_short : (t : Text) (a b : ℕ) → length (part_of t a b) ≤ length t
part_short t a b = omega (arith, length-take (b - a) (drop a t), length-drop a t)

pub substring_short : (t : Text) (i : Whole) (j : Value) → length (substring t i j) ≤ length t
substring_short t i j = let a = kept_within (or_zero i) (length t) in let b = end_of kept_within j (length t) in part_short t (min a b) (max a b)

pub slice_short : (t : Text) (i : Whole) (j : Value) → length (slice t i j) ≤ length t
slice_short t i j = part_short t (from_end (or_zero i) (length t)) (end_of from_end j (length t))
