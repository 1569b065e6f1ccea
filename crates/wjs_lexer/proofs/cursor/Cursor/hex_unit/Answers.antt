use Rattle.std.proofs.Common.{◌≡◌, ℕ, ◌+◌, ◌-◌, ◌<◌, ◌⊎◌, inl, inr, Bool, true, false, ◌&&◌, ◌==◌, Some, None, List, refl, arith, length, drop, length-drop}
use Rattle.std.specs.Prelude.{slice_range, if◌then◌else◌}
use Rattle.std.proofs.lemmas.Bool.Decides.{nat_tests}
use Rattle.std.proofs.lemmas.List.{length-take}
use Rattle.wjs_lexer.specs.Strings.{hex_unit}
use Rattle.wjs_lexer.proofs.cursor.Cursor.hex_unit.Goals as goal

unequal : (a b : ℕ) → a < b → (a == b) ≡ false
unequal a b h = grind (arith, nat_tests)

refused : (b d : Bool) (v : ℕ) → b ≡ false → None ≡ (if b && d then Some v else None)
refused true d v h = cc
refused false d v h = refl

-- the text ends before the digits do
too_few : (cs : List ℕ) (from count : ℕ) → 0 < count → length cs < from + count → None ≡ hex_unit count (slice_range cs from (from + count))
too_few cs from count some h =
    let t = length-take (from + count - from) (drop from cs) in
    let d = length-drop from cs in
    refused _ _ _ (unequal (length (slice_range cs from (from + count))) count (omega (arith, t, d)))

ended : (cs : List ℕ) (from count : ℕ) → 0 < count → (from + count < from) ⊎ (length cs < from + count) → None ≡ hex_unit count (slice_range cs from (from + count))
ended cs from count some (inl h) = absurd (omega arith)
ended cs from count some (inr h) = too_few cs from count some h

pub returns-in_default : goal.returns-in_default
returns-in_default c = ended c.args.self.now.chars.now c.args.from c.args.count c.requires.some c.in_default.ensures.lookup.0
