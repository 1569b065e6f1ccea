-- A part that is refused.
use Rattle.std.proofs.Common.{◌≡◌, ℕ, ◌+◌, ◌-◌, ◌≤◌, ◌^◌, List, length, take, drop, ap, ◌∙◌, arith, length-drop}
use Rattle.std.proofs.lemmas.List.{length-take}
use Rattle.std.specs.Str.{chars}
use Rattle.wjs_lexer.specs.Places.{line_at}
use Rattle.wjs_load.specs.declared.tokens.Refusal.{Refusal}
use Rattle.wjs_load.specs.Loading.{Refuses}
use Rattle.wjs_division.specs.declared.division.Piece.{Piece}
use Rattle.wjs_division.specs.Division.{lines_before, part_behind}
use Rattle.wjs_division.specs.Inputs.{moved_down, RefusesPart}

-- a part is no longer than the bytes, and neither is what stands before it
pub part_within : (bytes : List ℕ) (p : Piece) → length bytes ≤ 2 ^ 24 → length (take (p.to - p.from) (drop p.from bytes)) ≤ 2 ^ 24
part_within bytes p short = omega (arith, length-take (p.to - p.from) (drop p.from bytes), length-drop p.from bytes, short)

pub front_short : (bytes : List ℕ) (p : Piece) → length bytes ≤ 2 ^ 24 → length (take p.from bytes) ≤ 2 ^ 24
front_short bytes p short = omega (arith, length-take p.from bytes, short)

-- a refusal whose line is counted behind the lines of the front is the part's
pub refuses_part : (front bytes : List ℕ) (refusal told : Refusal) (lines : ℕ) → lines + 1 ≡ line_at (chars front) (length (chars front)) → told ≡ moved_down lines refusal → Refuses bytes refusal → RefusesPart (part_behind front bytes) told
refuses_part front bytes refusal told lines counted is why =
    let before : lines ≡ lines_before (part_behind front bytes) = omega (arith, counted) in
    record { refusal = refusal; why = why; is = is ∙ ap (λ (n : ℕ). moved_down n refusal) before }
