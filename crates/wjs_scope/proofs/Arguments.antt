-- A table that grows may come to have the text of `arguments`; the places of names that it had before stay as they are.
use Rattle.std.specs.Prelude.{◌≡◌, ℕ, suc, zero, Bool, true, false, ◌<◌, if◌then◌else◌, List, [], ◌∷◌, length, Option, None, Some, slice_get}
use Rattle.std.proofs.Common.{refl, sym, ap, subst, ◌∙◌, ◌||◌, get_or}
use Rattle.std.specs.Str.{bytes_eq}
use Rattle.std.proofs.lemmas.Bool.{both_ways, ne_eqb}
use Rattle.std.proofs.lemmas.Option.{none-some, same_Some}
use Rattle.std.proofs.lemmas.Slice.Eq.{bytes_eq-Decides}
use Rattle.wjs_base.specs.declared.ids.TextId.{TextId}
use Rattle.wjs_base.specs.Text.{Units, Table, Has, Denotes, Finds, Grows}
use Rattle.wjs_base.proofs.TextLaws.{Grows-Denotes, Grows-Denotes-back}
use Rattle.wjs_base.specs.declared.ids.NodeId.{NodeId}
use Rattle.wjs_tree.specs.declared.node.Node.{Node}
use Rattle.wjs_scope.specs.declared.place.Place.TheVariants.{Local}
use Rattle.wjs_scope.specs.declared.declarations.Declarations.{Declarations}
use Rattle.wjs_scope.specs.Declarations.{name_of, with_name, with_names, variables, formals_of, elements_of}
use Rattle.wjs_scope.specs.Scopes.{Scope, is_in, place_past, function_names, own_name, with_own_name, in_function}
use Rattle.wjs_scope.specs.Nesting.{Side, Around, Caught, Inside, Enters, Leads}
use Rattle.wjs_scope.specs.Places.{Rows, IsScript, ArePlaces, IsPlaced, KnowsPlaced, PlacesStay, arguments_text}
use Rattle.wjs_scope.specs.Bodies.{node_at, declared_in, AreOthers, KnowsVariables}
use Rattle.wjs_scope.proofs.OtherNames.{in_with_name, others_come}

-- ---- whether a table has a text

no_number : (x : Units) (t : Table) (u : Units) → bytes_eq x u ≡ false → Finds t u None → (k : ℕ) → slice_get (x ∷ t) k ≡ Some u → ⊥
no_number x t u e none zero at = both_ways (bytes_eq x u) e ((bytes_eq-Decides x u).1 (same_Some x u at))
no_number x t u e none (suc k) at = none (name_of k) at

one_more : (x : Units) (t : Table) (u : Units) (b : Bool) (o : Option TextId) → bytes_eq x u ≡ b → Finds t u o → (more : Option TextId) × Finds (x ∷ t) u more
one_more x t u true o e at = (Some (name_of 0), ap (λ (v : Units). Some v) ((bytes_eq-Decides x u).0 e))
one_more x t u false (Some id) e at = (Some (name_of (suc id.0)), at)
one_more x t u false None e none = (None, λ id at. no_number x t u e none id.0 at)

-- each table has a text under a number, or it has it not
looked : (t : Table) (u : Units) → (o : Option TextId) × Finds t u o
looked [] u = (None, λ id at. none-some u at)
looked (x ∷ t) u = let o = looked t u in one_more x t u (bytes_eq x u) o.0 refl o.1

-- ---- scopes in which but for one name all have the same places

module _ (id : TextId) where
  abbrev pub AlikeNames : Scope → Scope → Type 0
  AlikeNames xs ys = (y : TextId) → (y.0 ≡ id.0 → ⊥) → is_in xs y ≡ is_in ys y

  abbrev pub Alike : List Scope → List Scope → Type 0
  Alike [] [] = Unit {0}
  Alike (xs ∷ scopes) (ys ∷ others) = AlikeNames xs ys × Alike scopes others
  Alike _ _ = ⊥

  name_alike : (xs ys : Scope) (x : TextId) → AlikeNames xs ys → AlikeNames (with_name xs x) (with_name ys x)
  name_alike xs ys x h = λ y other. in_with_name xs x y ∙ ap (λ b. b || is_in (x ∷ []) y) (h y other) ∙ sym (in_with_name ys x y)

  names_alike : (more : List TextId) (xs ys : Scope) → AlikeNames xs ys → AlikeNames (with_names xs more) (with_names ys more)
  names_alike [] xs ys h = h
  names_alike (x ∷ more) xs ys h = names_alike more (with_name xs x) (with_name ys x) (name_alike xs ys x h)

  one_name : AlikeNames (id ∷ []) []
  one_name = λ y other. ap (λ b. b || false) (ne_eqb y.0 id.0 other)

  place_alike : (hops : ℕ) (scopes others : List Scope) (x : TextId) → Alike scopes others → (x.0 ≡ id.0 → ⊥) → place_past hops scopes x ≡ place_past hops others x
  place_alike hops [] [] x h other = refl
  place_alike hops [] (ys ∷ others) x h other = absurd h
  place_alike hops (xs ∷ scopes) [] x h other = absurd h
  place_alike hops (xs ∷ scopes) (ys ∷ others) x h other =
      ap (λ b. if b then Local hops else place_past (suc hops) scopes x) (h.0 x other) ∙ ap (λ p. if is_in ys x then Local hops else p) (place_alike (suc hops) scopes others x h.1 other)

  own_alike : (o : Option TextId) (scopes others : List Scope) → Alike scopes others → Alike (with_own_name o scopes) (with_own_name o others)
  own_alike None scopes others h = h
  own_alike (Some x) scopes others h = (λ y other. refl, h)

  function_alike : (formals functions vars : List TextId) → AlikeNames (with_names (with_names (with_names (id ∷ []) formals) functions) vars) (with_names (with_names (with_names [] formals) functions) vars)
  function_alike formals functions vars =
      names_alike vars (with_names (with_names (id ∷ []) formals) functions) (with_names (with_names [] formals) functions)
      (names_alike functions (with_names (id ∷ []) formals) (with_names [] formals) (names_alike formals (id ∷ []) [] one_name))

  -- ---- the ways through a program, with a number for `arguments` and without one

  enters : (ns : List Node) (node : Node) (side : Side) (scopes others inner : List Scope) → Alike scopes others → Enters ns (Some id) node side scopes inner
      → (within : List Scope) × Enters ns None node side others within × Alike inner within
  enters ns node Around scopes others inner h e = (others, refl, subst (λ (z : List Scope). Alike z others) (sym e) h)
  enters ns node (Caught x) scopes others inner h e = ((x ∷ []) ∷ others, refl, subst (λ (z : List Scope). Alike z ((x ∷ []) ∷ others)) (sym e) (λ y other. refl, h))
  enters ns node Inside scopes others inner h e =
      let within = in_function ns None node e.0 others in
      (within, (e.0, e.1, refl), subst (λ (z : List Scope). Alike z within) (sym e.2) (function_alike (formals_of node) (function_names ns (elements_of node)) (variables e.0), own_alike (own_name node) scopes others h))

  leads : (ns : List Node) (way : List (NodeId × Side)) (i j : NodeId) (scopes others found : List Scope) → Alike scopes others → Leads ns (Some id) i scopes way j found
      → (within : List Scope) × Leads ns None i others way j within × Alike found within
  leads ns [] i j scopes others found h l = (others, (l.0, refl), subst (λ (z : List Scope). Alike z others) (sym l.1) h)
  leads ns (p ∷ way) i j scopes others found h l =
      let here = enters ns l.0 p.1 scopes others l.1 h l.4 in
      let more = leads ns way p.0 j l.1 here.0 found here.2 l.5 in
      (more.0, (l.0, here.0, l.2, l.3, here.1, more.1), more.2)

-- ---- the places of a program

module _ (old new : Table) (ns : List Node) (body : NodeId) (rows : Rows) (table : List Declarations × Declarations) (grows : Grows old new) (knows : KnowsPlaced old ns) (known : KnowsVariables old table) (script : IsScript ns body) where
  -- a name that the table had is no new text's
  other_than : (id : TextId) → Finds old arguments_text None → Denotes new id arguments_text → (x : TextId) → Has old x → x.0 ≡ id.0 → ⊥
  other_than id none at x has e = none id (Grows-Denotes-back old new id arguments_text grows (subst (λ n. n < length old) e has) at)

  -- the text of `arguments` has come to the table
  come : (id : TextId) → Finds old arguments_text None → Denotes new id arguments_text → ArePlaces ns None body rows → ArePlaces ns (Some id) body rows
  come id none at places = record {
    right = λ i scopes node k x stands has name. (
        let without = leads id ns stands.0 body i [] [] scopes tt stands.1 in
        let other = other_than id none at x (knows i node k x has name) in
        places.right i without.0 node k x (stands.0, without.1) has name ∙ ap (λ p. Some p) (sym (place_alike id 0 scopes without.0 x without.2 other))
        );
    each = places.each;
  }

  others_too : (id : TextId) → Finds old arguments_text None → Denotes new id arguments_text → AreOthers ns None table → AreOthers ns (Some id) table
  others_too id none at others = λ k.
      let names = (declared_in table k).variables in
      others k ∙ others_come ns id (node_at ns k) names (λ i d lt. other_than id none at (get_or names i d) (known k i d lt))

  still : (o : Option TextId) → Finds new arguments_text o → Finds old arguments_text None → ArePlaces ns None body rows → AreOthers ns None table → IsPlaced new ns body rows table
  still None found none places others = record { script = script; arguments = None; found = found; places = places; others = others }
  still (Some id) found none places others = record { script = script; arguments = Some id; found = found; places = come id none found places; others = others_too id none found others }

  stay : (o : Option TextId) → Finds old arguments_text o → ArePlaces ns o body rows → AreOthers ns o table → IsPlaced new ns body rows table
  stay (Some id) found places others = record { script = script; arguments = Some id; found = Grows-Denotes old new id arguments_text grows found; places = places; others = others }
  stay None none places others = let o = looked new arguments_text in still o.0 o.1 none places others

pub places_stay : PlacesStay
places_stay old new ns body rows table grows knows known placed = stay old new ns body rows table grows knows known placed.script placed.arguments placed.found placed.places placed.others
