-- Contents in few bytes.
use Rattle.std.proofs.Common.{◌≡◌, false, Option, None, Some, ℤ, ap, sym, ◌∙◌, subst, arith, to_z, of_z, w64}
use Rattle.std.proofs.lemmas.Int.{to_z-of_z, ints}
use Rattle.wjs_base.specs.Same.{whole_same}
use Rattle.wjs_base.specs.Range.{IsInRange, InRange}
use Rattle.wjs_base.specs.declared.number.Whole.{Whole}
use Rattle.wjs_base.specs.declared.values.Value.{Value}
use Rattle.wjs_base.specs.declared.values.Content.TheVariants.{Present}
use Rattle.wjs_layers.specs.declared.compact.Kind.{Kind}
use Rattle.wjs_layers.specs.declared.compact.ShortContent.{ShortContent}
use Rattle.wjs_layers.specs.Kinds.{number_in}
use Rattle.wjs_layers.specs.Shorts.{content_by, content_in, row_first, whole_in}
use Rattle.wjs_layers.specs.Tables.{row_with}

-- what is kept, by a kind that is known
shown_by : (s : ShortContent) (k : Kind) → s.kind ≡ k → content_by k s.number s.owner (whole_in s) ≡ content_in s
shown_by s k e = ap (λ j. content_by j s.number s.owner (whole_in s)) (sym e)

-- a number of the language that is read out of what is kept by its kind
pub number_shown : (s : ShortContent) (k : Kind) (w : Whole) → s.kind ≡ k → w.number ≡ number_in k s.number → content_by k s.number s.owner w ≡ content_in s
number_shown s k w e n =
    ap (content_by k s.number s.owner) (whole_same w (whole_in s) (n ∙ ap (λ j. number_in j s.number) (sym e)))
    ∙ shown_by s k e

pub number_in_range : (w : Whole) (n : ℤ) → w.number ≡ Some n → InRange n
number_in_range w n e = subst (λ (x : Option ℤ). IsInRange x) e w.in_range

-- a number in range is the same after 64 bits
pub passed : (n : ℤ) → InRange n → to_z w64 (of_z w64 n) ≡ n
passed n r = to_z-of_z w64 n (omega (arith, ints, r.0, r.1))

-- a slot of the first world that has a value
pub row_present : (s : ShortContent) (v : Value) → content_in s ≡ Present v → row_first s ≡ row_with v
row_present s v e = λ i. record { read = None; now = e i; written = false }
