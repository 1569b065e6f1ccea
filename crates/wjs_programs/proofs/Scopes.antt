-- Scopes of names, and scopes of texts in which the same names are found.
use Rattle.std.specs.Prelude.{◌≡◌, ℕ, suc, Bool, true, false, if◌then◌else◌, List, [], ◌∷◌, ◌++◌, map as each, All, nat_eq, Option, None, Some, unwrap_or}
use Rattle.std.specs.List.{list_any}
use Rattle.std.proofs.Common.{refl, sym, ap, ◌∙◌, ◌||◌, append_assoc, append-nil}
use Rattle.std.proofs.lemmas.Bool.{eqb-true}
use Rattle.std.proofs.lemmas.List.Elements.{All-nil, All-cons}
use Rattle.std.proofs.lemmas.List.Folds.{list_any-append}
use Rattle.std.proofs.lemmas.Option.{slice_get-get_or, slice_get_within}
use Rattle.wjs_base.specs.declared.ids.TextId.{TextId}
use Rattle.wjs_base.specs.Text.{Units, Table, Has, IsTable, Denotes, Finds}
use Rattle.wjs_base.proofs.Booleans.{or_false}
use Rattle.wjs_tree.specs.Trees.{Elements}
use Rattle.wjs_scope.specs.declared.place.Place.TheVariants.{Local, Global}
use Rattle.wjs_scope.specs.Declarations.{elements_declared, with_name, with_names, variables}
use Rattle.wjs_scope.specs.Scopes.{Scope, is_in, place_past, some_name, function_scope, with_own_name}
use Rattle.wjs_scope.specs.Places.{arguments_text}
use Rattle.wjs_scope.specs.Contents.{text_place_past}
use Rattle.wjs_scope.proofs.Texts.{by_text}
use Rattle.wjs_by_content.specs.Values.{same_text, text_Decides}
use Rattle.wjs_by_content.specs.Tables.{text_in}
use Rattle.wjs_model.specs.Texts.{HasText}
use Rattle.wjs_programs.specs.Numbered.{Scopes, functions_declared, names_within, within}

-- ---- the names of a function's scope, in whatever order

apart : (xs ys : Scope) (y : TextId) → is_in (xs ++ ys) y ≡ (is_in xs y || is_in ys y)
apart xs ys y = list_any-append (λ (z : TextId). nat_eq y.0 z.0) xs ys

settled : (b c : Bool) → (c ≡ true → b ≡ true) → b ≡ (b || (c || false))
settled true c h = refl
settled false true h = h refl
settled false false h = refl

with_one : (b : Bool) (xs : Scope) (x y : TextId) → is_in xs x ≡ b → is_in (if b then xs else xs ++ x ∷ []) y ≡ (is_in xs y || is_in (x ∷ []) y)
with_one true xs x y e = settled (is_in xs y) (nat_eq y.0 x.0) (λ same. ap (λ (k : ℕ). list_any (λ (z : TextId). nat_eq k z.0) xs) (eqb-true y.0 x.0 same) ∙ e)
with_one false xs x y e = apart xs (x ∷ []) y

in_with_names : (more xs : Scope) (y : TextId) → is_in (with_names xs more) y ≡ (is_in xs y || is_in more y)
in_with_names [] xs y = ap (λ (z : Scope). is_in z y) (sym (append-nil xs)) ∙ apart xs [] y
in_with_names (x ∷ more) xs y =
    in_with_names more (with_name xs x) y ∙ ap (λ b. b || is_in more y) (with_one (is_in xs x) xs x y refl ∙ sym (apart xs (x ∷ []) y)) ∙ sym (apart (xs ++ x ∷ []) more y)
    ∙ ap (λ (z : Scope). is_in z y) (append_assoc xs (x ∷ []) more) ∙ apart xs (x ∷ more) y

regroup : (a b c d : Bool) → (((a || b) || c) || d) ≡ (a || (b || (c || d)))
regroup true b c d = refl
regroup false true c d = refl
regroup false false true d = refl
regroup false false false d = refl

in_function_scope : (arguments : Option TextId) (formals functions declared : List TextId) (y : TextId)
    → is_in (function_scope arguments formals functions (with_names [] declared)) y ≡ (is_in (some_name arguments) y || is_in (formals ++ (functions ++ declared)) y)
in_function_scope arguments formals functions declared y =
    let own = some_name arguments in
    in_with_names (with_names [] declared) (with_names (with_names own formals) functions) y
    ∙ ap (λ b. is_in (with_names (with_names own formals) functions) y || b) (in_with_names declared [] y)
    ∙ ap (λ b. b || is_in declared y) (in_with_names functions (with_names own formals) y ∙ ap (λ b. b || is_in functions y) (in_with_names formals own y))
    ∙ regroup (is_in own y) (is_in formals y) (is_in functions y) (is_in declared y)
    ∙ ap (λ b. is_in own y || b) (ap (λ b. is_in formals y || b) (sym (apart functions declared y)) ∙ sym (apart formals (functions ++ declared) y))

-- ---- names and their texts

told : (a b : Bool) → (if a then Local 0 else Global) ≡ (if b then Local 0 else Global) → a ≡ b
told true true e = refl
told false false e = refl
told true false e = cc
told false true e = cc

refuted : (b : Bool) → (b ≡ true → ⊥) → false ≡ b
refuted true h = absurd (h refl)
refuted false h = refl

module _ (texts : Table) where
  -- a name of the table is in the one scope where its text is in the other
  abbrev pub AreAlike : Scope → List Units → Type 0
  AreAlike names us = (x : TextId) → Has texts x → is_in names x ≡ list_any (same_text (text_in texts x)) us

  abbrev pub AllAlike : List Scope → Scopes → Type 0
  AllAlike [] [] = Unit {0}
  AllAlike (names ∷ scopes) (us ∷ around) = AreAlike names us × AllAlike scopes around
  AllAlike _ _ = ⊥

  pub same_place : (hops : ℕ) (scopes : List Scope) (around : Scopes) (x : TextId) → Has texts x → AllAlike scopes around → place_past hops scopes x ≡ text_place_past same_text hops around (text_in texts x)
  same_place hops [] [] x has h = refl
  same_place hops [] (us ∷ around) x has h = absurd h
  same_place hops (names ∷ scopes) [] x has h = absurd h
  same_place hops (names ∷ scopes) (us ∷ around) x has h =
      ap (λ b. if b then Local hops else place_past (suc hops) scopes x) (h.0 x has) ∙ ap (λ p. if list_any (same_text (text_in texts x)) us then Local hops else p) (same_place (suc hops) scopes around x has h.1)

module _ (texts : Table) (table : IsTable texts) where
  names_alike : (names : Scope) → All (Has texts) names → AreAlike texts names (each (text_in texts) names)
  names_alike names all x has =
      told (is_in names x) (list_any (same_text (text_in texts x)) (each (text_in texts) names))
      (by_text texts same_text table text_Decides 0 (names ∷ []) x (All-cons (λ (z : Scope). All (Has texts) z) names [] all (All-nil (λ (z : Scope). All (Has texts) z))) has)

  pub name_alike : (x : TextId) → Has texts x → AreAlike texts (x ∷ []) (text_in texts x ∷ [])
  name_alike x has = names_alike (x ∷ []) (All-cons (Has texts) x [] has (All-nil (Has texts)))

  denotes : (x : TextId) → Has texts x → Denotes texts x (text_in texts x)
  denotes x has = let e = slice_get-get_or texts x.0 [] has in e ∙ ap (λ (o : Option Units). Some (unwrap_or o [])) (sym e)

  arguments_alike : (arguments : Option TextId) → Finds texts arguments_text arguments → (x : TextId) → Has texts x → is_in (some_name arguments) x ≡ same_text (text_in texts x) arguments_text
  arguments_alike None none x has =
      refuted (same_text (text_in texts x) arguments_text) (λ t. none x (denotes x has ∙ ap (λ (u : Units). Some u) ((text_Decides (text_in texts x) arguments_text).0 t)))
  arguments_alike (Some id) found x has =
      name_alike id (slice_get_within texts id.0 arguments_text found) x has ∙ or_false (same_text (text_in texts x) (text_in texts id))
      ∙ ap (λ (o : Option Units). same_text (text_in texts x) (unwrap_or o [])) found

  pub function_alike : (arguments : Option TextId) → Finds texts arguments_text arguments → (formals : List TextId) (body : Elements) → All (Has texts) (formals ++ (functions_declared body ++ elements_declared body))
      → AreAlike texts (function_scope arguments formals (functions_declared body) (variables body)) (names_within texts formals body)
  function_alike arguments found formals body all x has =
      in_function_scope arguments formals (functions_declared body) (elements_declared body) x
      ∙ ap (λ b. b || is_in (formals ++ (functions_declared body ++ elements_declared body)) x) (arguments_alike arguments found x has)
      ∙ ap (λ b. same_text (text_in texts x) arguments_text || b) (names_alike (formals ++ (functions_declared body ++ elements_declared body)) all x has)

  pub within_alike : (name : Option TextId) (formals : List TextId) (body : Elements) (names : Scope) (scopes : List Scope) (around : Scopes) → HasText texts name → AreAlike texts names (names_within texts formals body) → AllAlike texts scopes around
      → AllAlike texts (names ∷ with_own_name name scopes) (within texts name formals body around)
  within_alike None formals body names scopes around has inner outer = (inner, outer)
  within_alike (Some x) formals body names scopes around has inner outer = (inner, (name_alike x has, outer))
