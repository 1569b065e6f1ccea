-- The variables of a body that are undefined at first, by number and by content.
use Rattle.std.specs.Prelude.{◌≡◌, ℕ, Bool, true, false, not, cond, List, [], ◌∷◌, ◌++◌, map as each, filter, filter_map, All, Option, None, Some, slice_get, unwrap_or}
use Rattle.std.proofs.Common.{refl, sym, ap, ◌∙◌, subst}
use Rattle.std.proofs.lemmas.List.{map-append}
use Rattle.std.proofs.lemmas.List.Elements.{All-cons, All-head, All-tail, All-append, All-nil, All-filter}
use Rattle.std.proofs.lemmas.Option.{slice_get_within}
use Rattle.wjs_base.specs.declared.ids.TextId.{TextId}
use Rattle.wjs_base.specs.Text.{Units, Table, IsTable, Has, Denotes, Finds}
use Rattle.wjs_base.proofs.TextLaws.{Has-Denotes}
use Rattle.wjs_base.specs.declared.ids.NodeId.{NodeId}
use Rattle.wjs_tree.specs.declared.node.Node.{Node}
use Rattle.wjs_tree.specs.declared.node.Node.TheVariants as form
use Rattle.wjs_by_content.specs.Names.{arguments_name}
use Rattle.wjs_by_content.specs.Values.{Text, same_text, text_Decides}
use Rattle.wjs_by_content.specs.Tables.{text_in}
use Rattle.wjs_meaning.specs.Trees as content
use Rattle.wjs_meaning.specs.Trees.{has_text}
use Rattle.wjs_meaning.specs.Declarations.{declared_by}
use Rattle.wjs_meaning.specs.Reading.{node_in, numbers}
use Rattle.wjs_scope.specs.declared.declarations.Declarations.{Declarations}
use Rattle.wjs_scope.specs.Declarations.{formals_of, is_declaration, functions_among}
use Rattle.wjs_scope.specs.Scopes.{is_in, none_of, some_name, declared_name, function_names}
use Rattle.wjs_scope.specs.Places.{arguments_text}
use Rattle.wjs_scope.specs.Bodies.{node_at, elements_at, others_in}
use Rattle.wjs_model.specs.declared.loaded.LoadedProgram.{LoadedProgram as Program}
use Rattle.wjs_model.specs.Bodies.{IsMeant, others_by}
use Rattle.wjs_model.specs.Texts.{KnowsNode, KnowsUnit}
use Rattle.wjs_model.specs.Units.{unit_in}
use Rattle.wjs_model.proofs.Naming.{node_named, node_known, formals_known, formals_meant, functions_meant, variables_meant, variables_found}
use Rattle.wjs_model.proofs.Repeats.{has_number}

is_false : (b : Bool) → (b ≡ true → ⊥) → b ≡ false
is_false true h = absurd (h refl)
is_false false h = refl

each_cond : (t : Table) (b : Bool) (x : TextId) (xs : List TextId) → each (text_in t) (cond b (x ∷ xs) xs) ≡ cond b (text_in t x ∷ each (text_in t) xs) (each (text_in t) xs)
each_cond t true x xs = refl
each_cond t false x xs = refl

-- ---- names that are taken

module _ (t : Table) (table : IsTable t) where
  -- `arguments` and others, by content and by number
  taken_number : (arguments : Option TextId) → Finds t arguments_text arguments → (more : List TextId) → All (Has t) more → (x : TextId) → Has t x → has_text (arguments_name ∷ each (text_in t) more) (text_in t x) ≡ is_in (some_name arguments ++ more) x
  taken_number (Some id) found more h x hx =
      let is : arguments_name ≡ text_in t id = sym (ap (λ (o : Option Units). unwrap_or o []) found) in
      ap (λ (u : Text). has_text (u ∷ each (text_in t) more) (text_in t x)) is ∙ has_number t table (id ∷ more) x (All-cons (Has t) id more (slice_get_within t id.0 arguments_text found) h) hx
  taken_number None none more h x hx =
      let other : same_text arguments_name (text_in t x) ≡ false = is_false (same_text arguments_name (text_in t x)) (λ e. none x (subst (λ (u : Units). Denotes t x u) (sym ((text_Decides arguments_name (text_in t x)).0 e)) (Has-Denotes t x hx))) in
      ap (λ (b : Bool). elim b [ true ↦ true | false ↦ has_text (each (text_in t) more) (text_in t x) ]) other ∙ has_number t table more x h hx

  -- the names that none of these is
  none_named : (taken names : List TextId) (seen : List Text) → ((x : TextId) → Has t x → has_text seen (text_in t x) ≡ is_in taken x) → All (Has t) names → each (text_in t) (none_of taken names) ≡ filter (λ name. not (has_text seen name)) (each (text_in t) names)
  none_named taken [] seen same h = refl
  none_named taken (x ∷ names) seen same h =
      each_cond t (not (is_in taken x)) x (none_of taken names)
      ∙ ap (λ l. cond (not (is_in taken x)) (text_in t x ∷ l) l) (none_named taken names seen same (All-tail (Has t) x names h))
      ∙ ap (λ b. cond (not b) (text_in t x ∷ filter (λ name. not (has_text seen name)) (each (text_in t) names)) (filter (λ name. not (has_text seen name)) (each (text_in t) names))) (sym (same x (All-head (Has t) x names h)))

-- ---- the names of a unit's functions

with_one : (h : ℕ → Option Text) (k : ℕ) (ks : List ℕ) (x : Text) → h k ≡ Some x → filter_map h (k ∷ ks) ≡ x ∷ filter_map h ks
with_one h k ks x e = rw e

module _ (t : Table) (u : Program) where
  abbrev called : ℕ → Option Text
  called k = content.name_of (content.node_at (unit_in t u) k)

  one_called : (o : Option Node) (s : NodeId) (names : List TextId) (more : List NodeId) → called s.0 ≡ content.name_of (node_in t (unwrap_or o form.Empty)) → each (text_in t) names ≡ filter_map called (numbers more)
      → each (text_in t) (declared_name o ++ names) ≡ filter_map called (numbers (cond (is_declaration o) (s ∷ more) more))
  one_called None s names more e h = h
  one_called (Some (form.FunctionDecl x formals list)) s names more e h = (λ i. text_in t x ∷ h i) ∙ sym (with_one called s.0 (numbers more) (text_in t x) e)
  one_called (Some node) s names more e h = h

  functions_called : (list : List NodeId) → each (text_in t) (function_names u.program.nodes list) ≡ filter_map called (numbers (functions_among u.program.nodes list))
  functions_called [] = refl
  functions_called (s ∷ list) =
      one_called (slice_get u.program.nodes s.0) s (function_names u.program.nodes list) (functions_among u.program.nodes list) (ap content.name_of (node_named t u s.0)) (functions_called list)

-- ---- names that are known

module _ (t : Table) (ns : List Node) (known : All (KnowsNode t) ns) where
  one_known : (n : Node) → KnowsNode t n → All (Has t) (declared_name (Some n))
  one_known (form.FunctionDecl x formals list) h = All-cons (Has t) x [] h.0 (All-nil (Has t))
  one_known n h = All-nil (Has t)

  named_known : (o : Option Node) → KnowsNode t (unwrap_or o form.Empty) → All (Has t) (declared_name o)
  named_known None h = All-nil (Has t)
  named_known (Some n) h = one_known n h

  functions_known : (list : List NodeId) → All (Has t) (function_names ns list)
  functions_known [] = All-nil (Has t)
  functions_known (s ∷ list) = All-append (Has t) (declared_name (slice_get ns s.0)) (function_names ns list) (named_known (slice_get ns s.0) (node_known t ns s.0 known)) (functions_known list)

-- ---- a body

module _ (t : Table) (u : Program) (k : ℕ) (d : Declarations) (m : IsMeant u.program.nodes k d) (arguments : Option TextId) (is : d.others ≡ others_in u.program.nodes arguments (node_at u.program.nodes k) d.variables) (known : KnowsUnit t u) where
  pub others_found : All (Has t) d.others
  others_found = subst (All (Has t)) (sym is) (All-filter _ (Has t) d.variables (variables_found t u k d m known))

  pub others_meant : IsTable t → Finds t arguments_text arguments → each (text_in t) d.others ≡ others_by (unit_in t u) (declared_by (unit_in t u) k)
  others_meant table found =
      let ns = u.program.nodes in
      let formals = formals_of (node_at ns k) in
      let functions = function_names ns (elements_at ns k) in
      let declared = declared_by (unit_in t u) k in
      let more = All-append (Has t) formals functions (formals_known t (node_at ns k) (node_known t ns k known)) (functions_known t ns known (elements_at ns k)) in
      let ef : each (text_in t) formals ≡ declared.formals = ap (each (text_in t)) (sym m.formals) ∙ formals_meant t u k d m in
      let en : each (text_in t) functions ≡ filter_map (called t u) declared.functions = functions_called t u (elements_at ns k) ∙ ap (λ (l : List NodeId). filter_map (called t u) (numbers l)) (sym m.functions) ∙ ap (filter_map (called t u)) (functions_meant t u k d m) in
      let both : each (text_in t) (formals ++ functions) ≡ declared.formals ++ filter_map (called t u) declared.functions = map-append (text_in t) formals functions ∙ (λ i. ef i ++ en i) in
      ap (each (text_in t)) is
      ∙ none_named t table (some_name arguments ++ (formals ++ functions)) d.variables (arguments_name ∷ each (text_in t) (formals ++ functions)) (taken_number t table arguments found (formals ++ functions) more) (variables_found t u k d m known)
      ∙ (λ i. filter (λ name. not (has_text (arguments_name ∷ both i) name)) (variables_meant t u k d m table known i))
