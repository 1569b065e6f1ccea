-- A unit is the tree of its program.
use Rattle.std.specs.Prelude.{◌≡◌, ℕ, zero, suc, ◌-◌, List, [], ◌∷◌, ◌++◌, map as each, length, reverse, take, Option, None, Some, slice_get}
use Rattle.std.proofs.Common.{refl, sym, ap, subst, ◌∙◌, arith, take-suc}
use Rattle.std.proofs.lemmas.List.{take_all, length-map}
use Rattle.std.specs.Option.{option_map}
use Rattle.std.proofs.lemmas.Option.{slice_get_within, get_or_from_slice_get, slice_get-map}
use mathlib.Core.List.{reverse-cons}
use Rattle.wjs_base.specs.declared.ids.TextId.{TextId}
use Rattle.wjs_base.specs.Text.{Table, IsTable, Finds}
use Rattle.wjs_base.specs.declared.ids.NodeId.{NodeId}
use Rattle.wjs_tree.specs.declared.node.Node.{Node}
use Rattle.wjs_tree.specs.Trees.{Elements}
use Rattle.wjs_scope.specs.Nesting.{Around}
use Rattle.wjs_scope.specs.Places.{ArePlaces, arguments_text}
use Rattle.wjs_order.specs.Order.{falling, IsNumbered}
use Rattle.wjs_meaning.specs.Trees as node
use Rattle.wjs_meaning.specs.Reading.{numbers, node_in}
use Rattle.wjs_model.specs.Texts.{KnowsUnit}
use Rattle.wjs_model.specs.Units.{rows_from, unit_in}
use Rattle.wjs_model.specs.declared.loaded.LoadedProgram.{LoadedProgram as Program}
use Rattle.wjs_programs.specs.Numbered.{Scopes, Entry, plain, within, elements, count, tree_of}
use Rattle.wjs_programs.specs.Laws.{UnitsAreTrees}
use Rattle.wjs_programs.proofs.Parts.{IsRun, AreEntries, Part, falls, length-falling}
use Rattle.wjs_programs.proofs.Steps.{AllAmong, all_among, Steps}
use Rattle.wjs_programs.proofs.Among.{IsAround}
use Rattle.wjs_programs.proofs.Listing.{elements_part, plain_part, of_parts}
use Rattle.wjs_programs.proofs.Rows.{HasEntry, unit_steps}

-- a list is what its elements are from the last down, turned round
turned : {T : Type 0} (HasOne : ℕ → Entry → Type 0) (f : Entry → T) (xs : List T) → ((k : ℕ) (e : Entry) → HasOne k e → slice_get xs k ≡ Some (f e)) → (n : ℕ) (l : List Entry) → AreEntries HasOne (falling n) l → take n xs ≡ reverse (each f l)
turned HasOne f xs of zero [] h = refl
turned HasOne f xs of zero (e ∷ l) h = absurd h
turned HasOne f xs of (suc n) [] h = absurd h
turned HasOne f xs of (suc n) (e ∷ l) h =
    let here = of n e h.0 in
    take-suc xs n (f e) (slice_get_within xs n (f e) here) ∙ ap (λ z. take n xs ++ z ∷ []) (get_or_from_slice_get xs n (f e) (f e) here)
    ∙ ap (λ z. z ++ f e ∷ []) (turned HasOne f xs of n l h.1) ∙ sym (reverse-cons (f e) (each f l))

whole : {T : Type 0} (HasOne : ℕ → Entry → Type 0) (f : Entry → T) (xs : List T) (n : ℕ) (l : List Entry) → length xs ≡ n → ((k : ℕ) (e : Entry) → HasOne k e → slice_get xs k ≡ Some (f e)) → AreEntries HasOne (falling n) l → xs ≡ reverse (each f l)
whole HasOne f xs n l long of h = sym (take_all n xs (let e = long in omega arith)) ∙ turned HasOne f xs of n l h

rows_long : (u : Program) (from : ℕ) (ns : List Node) → length (rows_from u from ns) ≡ length ns
rows_long u from [] = refl
rows_long u from (n ∷ ns) = ap suc (rows_long u (suc from) ns)

-- the entries of a numbered program, where those of its nodes are known by the scopes around them
module _ (texts : Table) (ns : List Node) (body : NodeId) (tree : Elements) (HasOne : ℕ → Entry → Type 0) (Among : NodeId → Scopes → Type 0) (steps : Steps texts ns HasOne Among) (top : Among body []) (numbered : IsNumbered ns tree body) where
  inner : (k : ℕ) → Part HasOne (List ℕ) (numbers numbered.is.list) (elements texts [] k tree).0 numbered.is.used k (elements texts [] k tree).1
  inner k = elements_part texts ns HasOne Among steps [] k tree numbered.is.list numbered.is.used numbered.is.shows (of_parts texts ns HasOne Among steps body [] numbered.is.list numbered.is.has top refl)

  abbrev pub entries : List Entry
  entries = let l = elements texts [] (count texts tree - 1) tree in plain (node.Program l.0) l.1

  all : Part HasOne ℕ body.0 (count texts tree) (body.0 ∷ numbered.is.used) (count texts tree) entries
  all = plain_part texts ns HasOne Among steps body [] (λ (v : List ℕ). node.Program v) numbered.is.has top refl refl refl (inner (count texts tree - 1))

  long : length ns ≡ suc (count texts tree)
  long = let same = ap length numbered.order in let e = length-falling (length ns) in let f = (inner 0).long in omega arith

  run : IsRun (count texts tree) (body.0 ∷ numbered.is.used)
  run = subst (IsRun (count texts tree)) (sym numbered.order) (subst (λ (z : ℕ). IsRun z (falling (length ns))) (let e = long in let f : length ns - 1 ≡ count texts tree = omega arith in f) (falls (length ns)))

  body_is : body.0 ≡ count texts tree
  body_is = all.same run

  pub listed : AreEntries HasOne (falling (length ns)) entries
  listed = subst (λ (z : List ℕ). AreEntries HasOne z entries) numbered.order (all.entries run)

  of_each : {T : Type 0} (f : Entry → T) (xs : List T) → length xs ≡ length ns → ((k : ℕ) (e : Entry) → HasOne k e → slice_get xs k ≡ Some (f e)) → xs ≡ reverse (each f entries)
  of_each f xs same of = whole HasOne f xs (length ns) entries same of listed

-- ---- a unit

module _ (texts : Table) (u : Program) (tree : Elements) (arguments : Option TextId) (table : IsTable texts) (numbered : IsNumbered u.program.nodes tree u.program.body) (knows : KnowsUnit texts u) (finds : Finds texts arguments_text arguments)
    (right : ArePlaces u.program.nodes arguments u.program.body u.places) where
  abbrev Among : NodeId → Scopes → Type 0
  Among = IsAround texts u.program.nodes arguments u.program.body

  top : Among u.program.body []
  top = ([], ([], (refl, refl)), tt)

  steps : Steps texts u.program.nodes (HasEntry texts u) Among
  steps = unit_steps texts table u knows arguments finds right

  is_tree : unit_in texts u ≡ tree_of texts tree
  is_tree =
      let nodes = of_each texts u.program.nodes u.program.body tree (HasEntry texts u) Among steps top numbered (λ (e : Entry). e.node) (each (node_in texts) u.program.nodes) (length-map u.program.nodes (node_in texts)) (λ k e h. h.0) in
      let places = of_each texts u.program.nodes u.program.body tree (HasEntry texts u) Among steps top numbered (λ (e : Entry). e.places) (rows_from u 0 u.program.nodes) (rows_long u 0 u.program.nodes) (λ k e h. h.1) in
      λ j. record { nodes = nodes j; body = body_is texts u.program.nodes u.program.body tree (HasEntry texts u) Among steps top numbered j; places = places j }

pub units_are_trees : UnitsAreTrees
units_are_trees texts unit tree arguments table numbered knows finds right = is_tree texts unit tree arguments table numbered knows finds right

-- ---- a numbered program, whatever its texts

module _ (texts : Table) (ns : List Node) where
  -- the node of the number
  abbrev HasNode : ℕ → Entry → Type 0
  HasNode k e = slice_get (each (node_in texts) ns) k ≡ Some e.node

  abbrev Anywhere : NodeId → Scopes → Type 0
  Anywhere i around = Unit {0}

  anywhere : (around : Scopes) (list : List NodeId) → AllAmong Anywhere around list
  anywhere around list = all_among Anywhere Around around list (λ j among. tt)

  node_steps : Steps texts ns HasNode Anywhere
  node_steps = record {
    entry = λ i around n has a. slice_get-map (node_in texts) ns i.0 ∙ ap (option_map (node_in texts)) has;
    part = λ i j around n has a among. tt;
    caught = λ i b handler last around has a. tt;
    inside = λ i name formals list body us around has a shows. anywhere (within texts name formals body around) list;
    declared = λ i x formals list body us around has a shows. anywhere (within texts None formals body around) list;
  }

  pub nodes_are : (tree : Elements) (body : NodeId) → IsNumbered ns tree body → each (node_in texts) ns ≡ (tree_of texts tree).nodes
  nodes_are tree body numbered = of_each texts ns body tree HasNode Anywhere node_steps tt numbered (λ (e : Entry). e.node) (each (node_in texts) ns) (length-map ns (node_in texts)) (λ k e h. h)
