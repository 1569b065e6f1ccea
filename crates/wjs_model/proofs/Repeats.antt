-- A name is there by number where it is there by content.
use Rattle.std.proofs.Common.{◌≡◌, List, [], ◌∷◌, ◌++◌, Bool, true, false, refl, sym, ap, ◌∙◌, subst, append_assoc}
use borrow.Author.Tests.{eq-eqb, eqb-true}
use Rattle.std.specs.Prelude.{map as each, All, if◌then◌else◌, ◌==◌, ◌||◌}
use Rattle.std.specs.List.{list_any}
use Rattle.std.proofs.lemmas.List.{append-nil, map-append}
use Rattle.std.proofs.lemmas.List.Elements.{All-head, All-tail}
use Rattle.wjs_base.specs.declared.ids.TextId.{TextId}
use Rattle.wjs_base.specs.Text.{Table, IsTable, Has, Denotes}
use Rattle.wjs_base.proofs.TextLaws.{Has-Denotes}
use Rattle.wjs_base.proofs.Booleans.{same_answer}
use Rattle.wjs_by_content.specs.Values.{Text, same_text, text_Decides}
use Rattle.wjs_by_content.specs.Tables.{text_in}
use Rattle.wjs_meaning.specs.Trees.{has_text}
use Rattle.wjs_meaning.specs.Declarations.{without_repeats}
use Rattle.wjs_scope.specs.Declarations.{with_names}

or_elim : (b c : Bool) → (elim b [ true ↦ true | false ↦ c ]) ≡ (b || c)
or_elim true c = refl
or_elim false c = refl

or_last : (a b c : Bool) → (a || (b || c)) ≡ (b || (a || c))
or_last true true c = refl
or_last true false c = refl
or_last false true c = refl
or_last false false c = refl

any_snoc : (p : TextId → Bool) (xs : List TextId) (y : TextId) → list_any p (xs ++ y ∷ []) ≡ (p y || list_any p xs)
any_snoc p [] y = refl
any_snoc p (x ∷ xs) y = ap (λ b. p x || b) (any_snoc p xs y) ∙ or_last (p x) (p y) (list_any p xs)

module _ (t : Table) (table : IsTable t) where
  same_number : (x y : TextId) → Has t x → Has t y → same_text (text_in t y) (text_in t x) ≡ (x.0 == y.0)
  same_number x y hx hy = same_answer _ _ there back
    where
      there : same_text (text_in t y) (text_in t x) ≡ true → (x.0 == y.0) ≡ true
      there e =
          let d = (text_Decides (text_in t y) (text_in t x)).0 e in
          let same : x ≡ y = table.one_number x y (text_in t y) (subst (λ u. Denotes t x u) (sym d) (Has-Denotes t x hx)) (Has-Denotes t y hy) in
          eq-eqb x.0 y.0 (ap (λ (z : TextId). z.0) same)

      back : (x.0 == y.0) ≡ true → same_text (text_in t y) (text_in t x) ≡ true
      back e =
          let same : x ≡ y = ap (λ n. let z : TextId = record { 0 = n } in z) (eqb-true x.0 y.0 e) in
          (text_Decides (text_in t y) (text_in t x)).1 (ap (text_in t) (sym same))

  pub has_number : (ys : List TextId) (x : TextId) → All (Has t) ys → Has t x → has_text (each (text_in t) ys) (text_in t x) ≡ list_any (λ (y : TextId). x.0 == y.0) ys
  has_number [] x h hx = refl
  has_number (y ∷ ys) x h hx =
      or_elim (same_text (text_in t y) (text_in t x)) (has_text (each (text_in t) ys) (text_in t x))
      ∙ ap (λ b. b || has_text (each (text_in t) ys) (text_in t x)) (same_number x y hx (All-head (Has t) y ys h))
      ∙ ap (λ b. (x.0 == y.0) || b) (has_number ys x (All-tail (Has t) y ys h) hx)

  -- the same names were seen
  record Seen (seen : List Text) (names : List TextId) : Type 0 where
    same : (x : TextId) → Has t x → has_text seen (text_in t x) ≡ list_any (λ (y : TextId). x.0 == y.0) names

  seen_more : (seen : List Text) (names : List TextId) (x : TextId) → Has t x → Seen seen names → Seen (text_in t x ∷ seen) (names ++ x ∷ [])
  seen_more seen names x hx s = record {
    same = λ y hy.
        or_elim (same_text (text_in t x) (text_in t y)) (has_text seen (text_in t y))
        ∙ ap (λ b. b || has_text seen (text_in t y)) (same_number y x hy hx)
        ∙ ap (λ b. (y.0 == x.0) || b) (s.same y hy)
        ∙ sym (any_snoc (λ (z : TextId). y.0 == z.0) names x);
  }

  -- the rest, by whether a name was seen
  abbrev choose : List Text → Text → List Text → Bool → List Text
  choose seen x xs b = elim b [ true ↦ without_repeats seen xs | false ↦ x ∷ without_repeats (x ∷ seen) xs ]

  once : (xs names : List TextId) (seen : List Text) → All (Has t) xs → Seen seen names → each (text_in t) (with_names names xs) ≡ each (text_in t) names ++ without_repeats seen (each (text_in t) xs)
  once [] names seen h s = sym (append-nil (each (text_in t) names))
  once (x ∷ xs) names seen h s =
      step (list_any (λ (y : TextId). x.0 == y.0) names) (once xs names seen (All-tail (Has t) x xs h) s) (once xs (names ++ x ∷ []) (text_in t x ∷ seen) (All-tail (Has t) x xs h) (seen_more seen names x (All-head (Has t) x xs h) s))
      ∙ ap (λ b. each (text_in t) names ++ choose seen (text_in t x) (each (text_in t) xs) b) (sym (s.same x (All-head (Has t) x xs h)))
    where
      step : (b : Bool) → each (text_in t) (with_names names xs) ≡ each (text_in t) names ++ without_repeats seen (each (text_in t) xs)
          → each (text_in t) (with_names (names ++ x ∷ []) xs) ≡ each (text_in t) (names ++ x ∷ []) ++ without_repeats (text_in t x ∷ seen) (each (text_in t) xs)
          → each (text_in t) (with_names (if b then names else (names ++ x ∷ [])) xs) ≡ each (text_in t) names ++ choose seen (text_in t x) (each (text_in t) xs) b
      step true e d = e
      step false e d =
          d
          ∙ ap (λ l. l ++ without_repeats (text_in t x ∷ seen) (each (text_in t) xs)) (map-append (text_in t) names (x ∷ []))
          ∙ append_assoc (each (text_in t) names) (text_in t x ∷ []) (without_repeats (text_in t x ∷ seen) (each (text_in t) xs))

  -- each name once, by number and by content
  pub names_once : (xs : List TextId) → All (Has t) xs → each (text_in t) (with_names [] xs) ≡ without_repeats [] (each (text_in t) xs)
  names_once xs h = once xs [] [] h (record { same = λ x hx. refl })
