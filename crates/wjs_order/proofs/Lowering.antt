-- A node has its parts below a number where their new numbers are.
use Rattle.std.specs.Prelude.{ℕ, ◌<◌, List, [], ◌∷◌, ◌++◌, map, option_map, Option, Some, None}
use Rattle.std.proofs.Common.{refl, inl, inr}
use Rattle.wjs_base.specs.declared.ids.NodeId.{NodeId}
use Rattle.wjs_tree.specs.declared.node.Node.{Node}
use Rattle.wjs_tree.specs.declared.node.Node.TheVariants as nodes
use Rattle.wjs_tree.specs.declared.node.Property.{Property}
use Rattle.wjs_tree.specs.declared.node.Declarator.{Declarator}
use Rattle.wjs_tree.specs.declared.node.ForInit.{ForInit}
use Rattle.wjs_tree.specs.declared.node.ForInit.TheVariants as inits
use Rattle.wjs_tree.specs.declared.node.Clause.{Clause}
use Rattle.wjs_tree.specs.declared.node.Handler.{Handler}
use Rattle.wjs_tree.specs.Children.{AreBelow, OptionBelow, ItemsBelow, PropertiesBelow, DeclaratorsBelow, ClausesBelow, InitBelow, HandlerBelow, ChildrenBelow}
use Rattle.wjs_scope.specs.Nesting.{option_part, item_parts, property_parts, initialisers, init_parts, clause_part, clause_parts, IsAmong}
use Rattle.wjs_scope.specs.Marks.{handler_blocks}
use Rattle.wjs_tree.specs.Parts.{parts_of}
use Rattle.wjs_order.specs.Renumbered.{new_id, new_option, new_property, new_declarator, new_init, new_clause, new_handler, renumbered}

-- the new numbers of the nodes are below n
abbrev pub AreLow : ℕ → (ℕ → ℕ) → List NodeId → Type 0
AreLow n g [] = Unit {0}
AreLow n g (c ∷ more) = (g c.0 < n) × AreLow n g more

module _ (n : ℕ) (g : ℕ → ℕ) where
  pub low : (xs : List NodeId) → ((c : NodeId) → IsAmong xs c → g c.0 < n) → AreLow n g xs
  low [] h = tt
  low (x ∷ xs) h = (h x (inl refl), low xs (λ c a. h c (inr a)))

  both : (xs ys : List NodeId) → AreLow n g (xs ++ ys) → AreLow n g xs × AreLow n g ys
  both [] ys h = (tt, h)
  both (x ∷ xs) ys h = let rest = both xs ys h.1 in ((h.0, rest.0), rest.1)

  list : (xs : List NodeId) → AreLow n g xs → AreBelow n (map (new_id g) xs)
  list [] h = tt
  list (x ∷ xs) h = (h.0, list xs h.1)

  option : (o : Option NodeId) → AreLow n g (option_part o) → OptionBelow n (new_option g o)
  option None h = tt
  option (Some a) h = h.0

  items : (xs : List (Option NodeId)) → AreLow n g (item_parts xs) → ItemsBelow n (map (new_option g) xs)
  items [] h = tt
  items (o ∷ xs) h = let one = both (option_part o) (item_parts xs) h in (option o one.0, items xs one.1)

  properties : (xs : List Property) → AreLow n g (property_parts xs) → PropertiesBelow n (map (new_property g) xs)
  properties [] h = tt
  properties (p ∷ xs) h = (h.0, properties xs h.1)

  declarators : (xs : List Declarator) → AreLow n g (initialisers xs) → DeclaratorsBelow n (map (new_declarator g) xs)
  declarators [] h = tt
  declarators (d ∷ xs) h = let one = both (option_part d.value) (initialisers xs) h in (option d.value one.0, declarators xs one.1)

  clauses : (xs : List Clause) → AreLow n g (clause_parts xs) → ClausesBelow n (map (new_clause g) xs)
  clauses [] h = tt
  clauses (c ∷ xs) h =
      let one = both (clause_part c) (clause_parts xs) h in
      let two = both (option_part c.test) c.body one.0 in
      (option c.test two.0, list c.body two.1, clauses xs one.1)

  init : (f : ForInit) → AreLow n g (init_parts f) → InitBelow n (new_init g f)
  init inits.Nothing h = tt
  init (inits.Expr a) h = h.0
  init (inits.Var xs) h = declarators xs h

  handler : (o : Option Handler) → AreLow n g (handler_blocks o) → HandlerBelow n (option_map (new_handler g) o)
  handler None h = tt
  handler (Some b) h = h.0

  pub lowered : (node : Node) → AreLow n g (parts_of node) → ChildrenBelow n (renumbered g node)
  lowered (nodes.Paren a) h = h.0
  lowered (nodes.ArrayLit xs tail) h = items xs h
  lowered (nodes.ObjectLit xs comma) h = properties xs h
  lowered (nodes.Function name formals xs) h = list xs h
  lowered (nodes.Dot a x) h = h.0
  lowered (nodes.At a b) h = (h.0, h.1.0)
  lowered (nodes.Call a xs) h = (h.0, list xs h.1)
  lowered (nodes.NewWith a xs) h = (h.0, list xs h.1)
  lowered (nodes.NewBare a) h = h.0
  lowered (nodes.Postfix a op) h = h.0
  lowered (nodes.Prefix op a) h = h.0
  lowered (nodes.Binary a op b) h = (h.0, h.1.0)
  lowered (nodes.Cond a b c) h = (h.0, h.1.0, h.1.1.0)
  lowered (nodes.Assign a op b) h = (h.0, h.1.0)
  lowered (nodes.Comma a b) h = (h.0, h.1.0)
  lowered (nodes.Block xs) h = list xs h
  lowered (nodes.Var xs end) h = declarators xs h
  lowered (nodes.Expr a end) h = h.0
  lowered (nodes.If a b o) h = (h.0, h.1.0, option o h.1.1)
  lowered (nodes.DoWhile a b end) h = (h.0, h.1.0)
  lowered (nodes.While a b) h = (h.0, h.1.0)
  lowered (nodes.For f o p a) h =
      let one = both (init_parts f) (option_part o ++ (option_part p ++ a ∷ [])) h in
      let two = both (option_part o) (option_part p ++ a ∷ []) one.1 in
      let three = both (option_part p) (a ∷ []) two.1 in
      (init f one.0, option o two.0, option p three.0, three.1.0)
  lowered (nodes.ForIn a b c) h = (h.0, h.1.0, h.1.1.0)
  lowered (nodes.ForVarIn x a b) h = (h.0, h.1.0)
  lowered (nodes.Return o end) h = option o h
  lowered (nodes.Throw a end) h = h.0
  lowered (nodes.Label x a) h = h.0
  lowered (nodes.Switch a xs) h = (h.0, clauses xs h.1)
  lowered (nodes.Try a b o) h = let one = both (handler_blocks b) (option_part o) h.1 in (h.0, handler b one.0, option o one.1)
  lowered (nodes.Within a b) h = (h.0, h.1.0)
  lowered (nodes.FunctionDecl x formals xs) h = list xs h
  lowered (nodes.Program xs) h = list xs h
  lowered _ h = tt
