-- Names by their ranks.
use Rattle.std.proofs.Common.{◌≡◌, ℕ, ◌+◌, ◌-◌, ◌<◌, ◌≤◌, Bool, true, false, cond, eqb, ltb, Option, None, Some, refl, sym, ap, ◌∙◌, arith, ltb-true, ltb-false, lt-ltb, ne_eqb}
use Rattle.std.specs.Cmp.{unsigned_tied}
use Rattle.std.specs.Option.{option_eq}
use Rattle.std.specs.Ordering.{is_eq}
use Rattle.std.proofs.lemmas.Bool.Decides.{nat_tests}
use Rattle.wjs_base.specs.declared.ids.TextId.{TextId}
use Rattle.wjs_base.specs.declared.values.Name.{Name}
use Rattle.wjs_base.specs.declared.values.Name.TheVariants.{Index, Text}
use Rattle.wjs_base.specs.Order.{name_cmp}
use Rattle.wjs_names.specs.TinyNames.{name_at, rank_for}

-- ---- a rank is that of a name where its name is this one

-- what was found is this rank
abbrev pub is_rank : ℕ → Option ℕ → Bool
is_rank rank found = option_eq eqb found (Some rank)

moved : (t rank : ℕ) → 32768 ≤ rank → eqb (t + 32768) rank ≡ eqb t (rank - 32768)
moved t rank h = grind (arith, nat_tests)

index_tells : (rank i : ℕ) (b d : Bool) → (b ≡ true → rank < 32768) → (b ≡ false → 32768 ≤ rank) → (d ≡ true → i < 32768) → (d ≡ false → 32768 ≤ i) → is_rank rank (cond d (Some i) None) ≡ is_eq (name_cmp (Index i) (cond b (Index rank) (Text (record { 0 = rank - 32768 }))))
index_tells rank i true true l h s g = sym (unsigned_tied i rank)
index_tells rank i true false l h s g =
    let low = l refl in
    let high = g refl in
    sym (unsigned_tied i rank ∙ ne_eqb i rank (omega arith))
index_tells rank i false true l h s g =
    let high = h refl in
    let low = s refl in
    ne_eqb i rank (omega arith)
index_tells rank i false false l h s g = refl

text_tells : (rank : ℕ) (t : TextId) (b d : Bool) → rank < 65536 → (b ≡ true → rank < 32768) → (b ≡ false → 32768 ≤ rank) → (d ≡ false → 32768 ≤ t.0) → is_rank rank (cond d (Some (t.0 + 32768)) None) ≡ is_eq (name_cmp (Text t) (cond b (Index rank) (Text (record { 0 = rank - 32768 }))))
text_tells rank t true true below l h g =
    let low = l refl in
    ne_eqb (t.0 + 32768) rank (omega arith)
text_tells rank t true false below l h g = refl
text_tells rank t false true below l h g = moved t.0 rank (h refl) ∙ sym (unsigned_tied t.0 (rank - 32768))
text_tells rank t false false below l h g =
    let high = g refl in
    let past = h refl in
    sym (unsigned_tied t.0 (rank - 32768) ∙ ne_eqb t.0 (rank - 32768) (omega arith))

pub rank_tells : (rank : ℕ) (name : Name) → rank < 65536 → is_rank rank (rank_for name) ≡ is_eq (name_cmp name (name_at rank))
rank_tells rank (Index i) below = index_tells rank i (ltb rank 32768) (ltb i 32768) (ltb-true rank 32768) (ltb-false rank 32768) (ltb-true i 32768) (ltb-false i 32768)
rank_tells rank (Text t) below = text_tells rank t (ltb rank 32768) (ltb t.0 32768) below (ltb-true rank 32768) (ltb-false rank 32768) (ltb-false t.0 32768)

-- ---- the name at a rank

pub low_name : (rank : ℕ) → rank < 32768 → name_at rank ≡ Index rank
low_name rank h = ap (λ b. cond b (Index rank) (Text (record { 0 = rank - 32768 }))) (lt-ltb rank 32768 h)

pub high_name : (rank : ℕ) → 32768 ≤ rank → name_at rank ≡ Text (record { 0 = rank - 32768 })
high_name rank h =
    let past : ltb rank 32768 ≡ false = grind (arith, nat_tests) in
    ap (λ b. cond b (Index rank) (Text (record { 0 = rank - 32768 }))) past

index_back : (rank i : ℕ) (d : Bool) → (d ≡ true → i < 32768) → Some rank ≡ cond d (Some i) None → name_at rank ≡ Index i
index_back rank i true s e =
    let same : rank ≡ i = cc in
    ap name_at same ∙ low_name i (s refl)
index_back rank i false s e = absurd cc

text_back : (rank : ℕ) (t : TextId) (d : Bool) → Some rank ≡ cond d (Some (t.0 + 32768)) None → name_at rank ≡ Text t
text_back rank t true e =
    let same : rank ≡ t.0 + 32768 = cc in
    let back : t.0 + 32768 - 32768 ≡ t.0 = omega arith in
    ap name_at same ∙ high_name (t.0 + 32768) (omega arith) ∙ ap (λ (n : ℕ). Text (record { 0 = n })) back
text_back rank t false e = absurd cc

pub name_ranked : (rank : ℕ) (name : Name) → Some rank ≡ rank_for name → name_at rank ≡ name
name_ranked rank (Index i) e = index_back rank i (ltb i 32768) (ltb-true i 32768) e
name_ranked rank (Text t) e = text_back rank t (ltb t.0 32768) e
