-- Variables with initialisers, from one of a number on.
use Rattle.std.proofs.Common.{◌≡◌, ℕ, zero, suc, ◌+◌, ◌-◌, ◌<◌, ◌≤◌, List, [], ◌∷◌, Option, None, Some, refl, sym, ap, ◌∙◌, subst, length, drop, get_or, arith}
use Rattle.std.specs.Prelude.{map, slice_get}
use Rattle.std.proofs.lemmas.Option.{slice_get-get_or, slice_get_past}
use Rattle.std.specs.Option.{option_map}
use Rattle.wjs_base.specs.declared.ids.TextId.{TextId}
use Rattle.wjs_base.specs.Text.{Table}
use Rattle.wjs_base.specs.declared.ids.NodeId.{NodeId}
use Rattle.wjs_tree.specs.declared.node.Declarator.{Declarator}
use Rattle.wjs_tree.specs.declared.node.ForInit.TheVariants as inits
use Rattle.wjs_tree.specs.declared.node.Node.{Node as NumberedNode}
use Rattle.wjs_tree.specs.declared.node.Node.TheVariants as nodes
use Rattle.wjs_scope.specs.Places.{declarator_names, placed_names}
use Rattle.wjs_by_content.specs.Values.{Text, Value}
use Rattle.wjs_by_content.specs.Tables.{text_in}
use Rattle.wjs_meaning.specs.Trees.{Place, name_place}
use Rattle.wjs_meaning.specs.Deeds.{Env, Act, Ret, Eval, AtExpr, Normal, then_value, tree_here}
use Rattle.wjs_meaning.specs.References.{reference_at, store}
use Rattle.wjs_meaning.specs.Reading.{node_in, variable_in, number}
use Rattle.wjs_meaning.specs.Statements.{vars_from}
use Rattle.wjs_model.specs.Lists.{variables_of}
use Rattle.wjs_model.specs.Waiting.{after_variable, store_variable}
use Rattle.wjs_effects.specs.declared.declarators.Initialiser.{Initialiser}
use Rattle.wjs_effects.specs.Variables.{declarators_in, initialiser_goes}
use Rattle.wjs_step_common.proofs.Parts.{each_at, each_past}

module _ (t : Table) (here : ℕ) (env : Env) (ds : List Declarator) (at : ℕ) where
  abbrev all : List (Text × Option ℕ)
  all = map (variable_in t) ds

  one_more : suc at ≡ at + 1
  one_more = omega arith

  here_is : (d : Declarator) (o : Option NodeId) → at < length ds → (get_or ds at d).value ≡ o → drop at all ≡ (text_in t (get_or ds at d).name, number o) ∷ drop (at + 1) all
  here_is d o lt e =
      each_at (variable_in t) ds at (get_or ds at d) (slice_get-get_or ds at d lt)
      ∙ ap (λ (i : ℕ). variable_in t (get_or ds at d) ∷ drop i all) one_more
      ∙ ap (λ (m : Option NodeId). (text_in t (get_or ds at d).name, number m) ∷ drop (at + 1) all) e

  -- a variable without one is passed
  pub variable_passed : (d : Declarator) → at < length ds → (get_or ds at d).value ≡ None → vars_from here at (drop at all) env ≡ vars_from here (at + 1) (drop (at + 1) all) env
  variable_passed d lt e = ap (λ (l : List (Text × Option ℕ)). vars_from here at l env) (here_is d None lt e)

  -- one is found
  pub variable_found : (d : Declarator) (value : NodeId) → at < length ds → (get_or ds at d).value ≡ Some value → vars_from here at (drop at all) env ≡ initialiser_goes here all (Some (record { at = at; value = value })) env
  variable_found d value lt e =
      let l = here_is d (Some value) lt e in
      ap (λ (xs : List (Text × Option ℕ)). vars_from here at xs env) l
      ∙ sym (ap (λ (xs : List (Text × Option ℕ)). Eval (AtExpr value.0) env (then_value (store_variable here xs at env))) l)

  -- there is none
  pub variable_none : length ds ≤ at → vars_from here at (drop at all) env ≡ Ret Normal
  variable_none past = ap (λ (xs : List (Text × Option ℕ)). vars_from here at xs env) (each_past (variable_in t) ds at (slice_get_past ds at past))

-- the variables under a table
pub variables_same : (t : Table) (node : NumberedNode) → variables_of (node_in t node) ≡ map (variable_in t) (declarators_in node)
variables_same t (nodes.Var xs end) = refl
variables_same t (nodes.For (inits.Var xs) test u s) = refl
variables_same t (nodes.For (inits.Expr e) test u s) = refl
variables_same t (nodes.For inits.Nothing test u s) = refl
variables_same t _ = refl

-- the initialiser that was found among the variables of a node
pub found_same : (t : Table) (node : NumberedNode) (here : ℕ) (env : Env) (ds : List Declarator) (from : ℕ) (o : Option Initialiser) → ds ≡ declarators_in node → vars_from here from (drop from (map (variable_in t) ds)) env ≡ initialiser_goes here (map (variable_in t) ds) o env → vars_from here from (drop from (variables_of (node_in t node))) env ≡ initialiser_goes here (variables_of (node_in t node)) o env
found_same t node here env ds from o ed e =
    let P : List (Text × Option ℕ) → Type 0 = λ l. vars_from here from (drop from l) env ≡ initialiser_goes here l o env in
    subst P (ap (map (variable_in t)) ed ∙ sym (variables_same t node)) e

-- it is entered
pub found_enters : (t : Table) (node : NumberedNode) (here at : ℕ) (env : Env) (x : Initialiser) → at ≡ x.at
    → Eval (AtExpr x.value.0) env (then_value (after_variable here (variables_of (node_in t node)) at env)) ≡ initialiser_goes here (variables_of (node_in t node)) (Some x) env
found_enters t node here at env x e = ap (λ (i : ℕ). Eval (AtExpr x.value.0) env (then_value (after_variable here (variables_of (node_in t node)) i env))) e

-- ---- stores

abbrev name_among : List Declarator → ℕ → Option TextId
name_among ds at = option_map (λ (d : Declarator). d.name) (slice_get ds at)

within_names : (ds : List Declarator) (at : ℕ) (name : TextId) → Some name ≡ name_among ds at → at < length (declarator_names ds)
within_names [] at name e = absurd (cc)
within_names (d ∷ ds) zero name e = omega arith
within_names (d ∷ ds) (suc at) name e = let h = within_names ds at name e in omega (arith, h)

-- a variable's name is one of the names of its node that have places
pub variable_named : (node : NumberedNode) (at : ℕ) (name : TextId) → Some name ≡ name_among (declarators_in node) at → at < length (placed_names node)
variable_named (nodes.Var xs end) at name e = within_names xs at name e
variable_named (nodes.For (inits.Var xs) test u s) at name e = within_names xs at name e
variable_named (nodes.For (inits.Expr x) test u s) at name e = absurd (cc)
variable_named (nodes.For inits.Nothing test u s) at name e = absurd (cc)
variable_named _ at name e = absurd (cc)

module _ (t : Table) (here : ℕ) (env : Env) (ds : List Declarator) (at : ℕ) (v : Value) where
  abbrev these : List (Text × Option ℕ)
  these = map (variable_in t) ds

  abbrev stored_at : Place → Text → Act
  stored_at place name = reference_at place name env (λ r. store r v env (vars_from here (at + 1) (drop (at + 1) these) env))

  first_stored : (place : Place) (d : Declarator) → name_place (tree_here env) here at ≡ place → slice_get ds at ≡ Some d → stored_at place (text_in t d.name) ≡ store_variable here (drop at these) at env v
  first_stored place d p e =
      let k : suc at ≡ at + 1 = omega arith in
      sym (ap (λ (xs : List (Text × Option ℕ)). store_variable here xs at env v) (each_at (variable_in t) ds at d e ∙ ap (λ (i : ℕ). variable_in t d ∷ drop i these) k)
      ∙ ap (λ (q : Place). stored_at q (text_in t d.name)) p)

  named_stored : (place : Place) (name : TextId) (o : Option Declarator) → name_place (tree_here env) here at ≡ place → slice_get ds at ≡ o → Some name ≡ option_map (λ (d : Declarator). d.name) o → stored_at place (text_in t name) ≡ store_variable here (drop at these) at env v
  named_stored place name None p e k = absurd (cc)
  named_stored place name (Some d) p e k = let q : name ≡ d.name = cc in ap (λ (id : TextId). stored_at place (text_in t id)) q ∙ first_stored place d p e

  none_stored : (o : Option Declarator) → slice_get ds at ≡ o → None ≡ option_map (λ (d : Declarator). d.name) o → Ret Normal ≡ store_variable here (drop at these) at env v
  none_stored None e k = sym (ap (λ (xs : List (Text × Option ℕ)). store_variable here xs at env v) (each_past (variable_in t) ds at e))
  none_stored (Some d) e k = absurd (cc)

module _ (t : Table) (node : NumberedNode) (here : ℕ) (env : Env) (at : ℕ) (v : Value) where
  -- a value is stored to the variable, and then come those behind it
  pub variable_stores : (place : Place) (name : TextId) → name_place (tree_here env) here at ≡ place → Some name ≡ name_among (declarators_in node) at → reference_at place (text_in t name) env (λ r. store r v env (vars_from here (at + 1) (drop (at + 1) (variables_of (node_in t node))) env)) ≡ store_variable here (drop at (variables_of (node_in t node))) at env v
  variable_stores place name p e =
      let P : List (Text × Option ℕ) → Type 0 = λ l. reference_at place (text_in t name) env (λ r. store r v env (vars_from here (at + 1) (drop (at + 1) l) env)) ≡ store_variable here (drop at l) at env v in
      subst P (sym (variables_same t node)) (named_stored t here env (declarators_in node) at v place name (slice_get (declarators_in node) at) p refl e)

  pub no_variable_stores : None ≡ name_among (declarators_in node) at → Ret Normal ≡ store_variable here (drop at (variables_of (node_in t node))) at env v
  no_variable_stores e =
      let P : List (Text × Option ℕ) → Type 0 = λ l. Ret Normal ≡ store_variable here (drop at l) at env v in
      subst P (sym (variables_same t node)) (none_stored t here env (declarators_in node) at v (slice_get (declarators_in node) at) refl e)
