-- Names of a table are one where their texts are.
use Rattle.std.specs.Prelude.{◌≡◌, ◌↔◌, ℕ, suc, Bool, true, false, if◌then◌else◌, IsTrue, List, [], ◌∷◌, map, All, nat_eq, Option, Some, slice_get, unwrap_or}
use Rattle.std.proofs.Common.{refl, sym, ap, ◌∙◌, ◌||◌}
use Rattle.std.proofs.lemmas.Option.{slice_get-get_or}
use Rattle.std.proofs.lemmas.Bool.{eqb-true, eq-eqb}
use Rattle.std.specs.List.{list_any}
use Rattle.std.proofs.lemmas.List.Elements.{All-head, All-tail}
use Rattle.wjs_base.specs.declared.ids.TextId.{TextId}
use Rattle.wjs_base.specs.Text.{Units, Table, Has, Denotes, IsTable}
use Rattle.wjs_scope.specs.declared.place.Place.TheVariants.{Local}
use Rattle.wjs_scope.specs.Scopes.{Scope, is_in, place_past}
use Rattle.wjs_scope.specs.Contents.{text_of, text_place_past}

denotes : (texts : Table) (x : TextId) → Has texts x → Denotes texts x (text_of texts x)
denotes texts x h = let e = slice_get-get_or texts x.0 [] h in e ∙ ap (λ (o : Option Units). Some (unwrap_or o [])) (sym e)

-- two tests that say the same are one
one_test : (a b : Bool) → (IsTrue a ↔ IsTrue b) → a ≡ b
one_test true true h = refl
one_test false false h = refl
one_test true false h = let e = h.0 refl in cc
one_test false true h = let e = h.1 refl in cc

module _ (texts : Table) (same : Units → Units → Bool) (table : IsTable texts) (decides : (u v : Units) → IsTrue (same u v) ↔ (u ≡ v)) where
  one : (x y : TextId) → Has texts x → Has texts y → nat_eq x.0 y.0 ≡ same (text_of texts x) (text_of texts y)
  one x y hx hy = one_test (nat_eq x.0 y.0) (same (text_of texts x) (text_of texts y)) (
    λ t. (let e = eqb-true x.0 y.0 t in let f : ℕ → Units = λ k. unwrap_or (slice_get texts k) [] in (decides (text_of texts x) (text_of texts y)).1 (ap f e)),
    λ t. (let u = (decides (text_of texts x) (text_of texts y)).0 t in
        let e : x ≡ y = table.one_number x y (text_of texts y) (denotes texts x hx ∙ ap (λ (v : Units). Some v) u) (denotes texts y hy) in
        eq-eqb x.0 y.0 (ap (λ (z : TextId). z.0) e)),
  )

  in_one : (x : TextId) (names : Scope) → Has texts x → All (Has texts) names → is_in names x ≡ list_any (same (text_of texts x)) (map (text_of texts) names)
  in_one x [] hx h = refl
  in_one x (y ∷ more) hx h =
      ap (λ b. b || is_in more x) (one x y hx (All-head (Has texts) y more h)) ∙ ap (λ b. same (text_of texts x) (text_of texts y) || b) (in_one x more hx (All-tail (Has texts) y more h))

  pub by_text : (hops : ℕ) (scopes : List Scope) (x : TextId) → All (λ (names : Scope). All (Has texts) names) scopes → Has texts x
      → place_past hops scopes x ≡ text_place_past same hops (map (λ (names : Scope). map (text_of texts) names) scopes) (text_of texts x)
  by_text hops [] x h hx = refl
  by_text hops (names ∷ outer) x h hx =
      ap (λ b. if b then Local hops else place_past (suc hops) outer x) (in_one x names hx (All-head (λ (z : Scope). All (Has texts) z) names outer h))
      ∙ ap (λ p. if list_any (same (text_of texts x)) (map (text_of texts) names) then Local hops else p) (by_text (suc hops) outer x (All-tail (λ (z : Scope). All (Has texts) z) names outer h) hx)
