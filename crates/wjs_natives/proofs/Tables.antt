-- The kinds of a native's conversions, by place.
use Rattle.std.proofs.Common.{◌≡◌, ℕ, zero, suc, ◌+◌, ◌-◌, ◌<◌, ◌≤◌, Some, List, [], ◌∷◌, length, ap, sym, arith}
use Rattle.std.specs.Prelude.{slice_get}
use Rattle.std.proofs.lemmas.List.{length-replicate}
use Rattle.std.proofs.lemmas.Option.{slice_get_within}
use Rattle.wjs_arena.specs.declared.native.Native.{Native}
use Rattle.wjs_meaning.specs.declared.kinds.Kind.{Kind}
use Rattle.wjs_meaning.specs.declared.kinds.Kinds.{Kinds}
use Rattle.wjs_meaning.specs.declared.kinds.Kinds.TheVariants as list
use Rattle.wjs_meaning.specs.Kinds.{kinds_of}
use Rattle.wjs_meaning.specs.Table.{row_of}
use Rattle.wjs_natives.specs.Kinds.{conversions}

-- an argument's kind stands past that of `this`
pub get_past : (k : Kind) (ks : List Kind) (at : ℕ) → 0 < at → slice_get ks (at - 1) ≡ slice_get (k ∷ ks) at
get_past k ks zero h = absurd (omega arith)
get_past k ks (suc n) h = ap (slice_get ks) (let e : suc n - 1 ≡ n = omega arith in e)

-- there are few kinds past the arguments that are given
few_kinds : (k : Kinds) (given : ℕ) → length (kinds_of k given) ≤ given + 3
few_kinds list.Nothing given = omega arith
few_kinds (list.One a) given = omega arith
few_kinds (list.Two a b) given = omega arith
few_kinds (list.Three a b c) given = omega arith
few_kinds (list.Each a) given = omega (arith, length-replicate given a)
few_kinds (list.IfGiven a) zero = omega arith
few_kinds (list.IfGiven a) (suc given) = omega arith

pub place_within : (native : Native) (given at : ℕ) (k : Kind) → Some k ≡ slice_get (conversions native given) at → at < length (conversions native given)
place_within native given at k h = slice_get_within (conversions native given) at k (sym h)

pub place_below : (native : Native) (given at : ℕ) (k : Kind) → Some k ≡ slice_get (conversions native given) at → at < given + 4
place_below native given at k h =
    let within = place_within native given at k h in
    let few = few_kinds (row_of native).arguments given in
    omega arith
