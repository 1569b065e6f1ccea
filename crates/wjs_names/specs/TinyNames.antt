-- A name by its rank among small names: the first 2^15 indices, then the texts of as many numbers.
use Rattle.std.specs.Prelude.{◌≡◌, ℕ, ◌+◌, ◌-◌, ◌≤◌, Bool, true, false, cond, nat_lt, Option, None, Some}
use Rattle.std.proofs.Common.{refl, ltb-false}
use Rattle.std.proofs.Math.Nat.{sub-add_cancel}
use Rattle.wjs_base.specs.declared.values.Name.{Name}
use Rattle.wjs_base.specs.declared.values.Name.TheVariants.{Index, Text}
use Rattle.wjs_names.specs.declared.tiny_name.TinyName.TheInside.{Inside}

abbrev pub name_at : ℕ → Name
name_at rank = cond (nat_lt rank 32768) (Index rank) (Text (record { 0 = rank - 32768 }))

abbrev pub rank_of : Name → ℕ
rank_of (Index index) = index
rank_of (Text text) = text.0 + 32768

-- the rank of a name; none where its number is too great
abbrev pub rank_for : Name → Option ℕ
rank_for (Index index) = cond (nat_lt index 32768) (Some index) None
rank_for (Text text) = cond (nat_lt text.0 32768) (Some (text.0 + 32768)) None

rank_by : (rank : ℕ) (b : Bool) → (b ≡ false → 32768 ≤ rank) → rank_of (cond b (Index rank) (Text (record { 0 = rank - 32768 }))) ≡ rank
rank_by rank true high = refl
rank_by rank false high = sub-add_cancel (high refl)

-- the rank of a name gives the rank back
pub inverse_is : (t : Inside) → (record { rank = rank_of (name_at t.rank) }) ≡ t
inverse_is t = let n = rank_by t.rank (nat_lt t.rank 32768) (λ f. ltb-false t.rank 32768 f) in λ i. record { rank = n i }
