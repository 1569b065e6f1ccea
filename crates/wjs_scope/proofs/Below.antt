-- Children below a number: they are below a greater one, and so is each part.
use Rattle.std.specs.Prelude.{ℕ, ◌<◌, ◌≤◌, List, [], ◌∷◌, ◌++◌, Option, Some, None}
use Rattle.std.proofs.Common.{sym, subst, inl, inr, arith}
use Rattle.wjs_base.specs.declared.ids.NodeId.{NodeId}
use Rattle.wjs_tree.specs.declared.node.Node.{Node}
use Rattle.wjs_tree.specs.declared.node.Node.TheVariants as nodes
use Rattle.wjs_tree.specs.declared.node.Property.{Property}
use Rattle.wjs_tree.specs.declared.node.Declarator.{Declarator}
use Rattle.wjs_tree.specs.declared.node.ForInit.{ForInit}
use Rattle.wjs_tree.specs.declared.node.ForInit.TheVariants as inits
use Rattle.wjs_tree.specs.declared.node.Clause.{Clause}
use Rattle.wjs_tree.specs.declared.node.Handler.{Handler}
use Rattle.wjs_tree.specs.Children.{AreBelow, OptionBelow, ItemsBelow, PropertiesBelow, DeclaratorsBelow, ClausesBelow, InitBelow, HandlerBelow, ChildrenBelow}
use Rattle.wjs_scope.specs.Nesting.{Side, Around, Inside, option_part, item_parts, property_parts, initialisers, init_parts, clause_part, clause_parts, plain_parts, on_side, parts, IsAmong}

module _ (n m : ℕ) (le : n ≤ m) where
  list : (xs : List NodeId) → AreBelow n xs → AreBelow m xs
  list [] h = tt
  list (a ∷ rest) h = (omega (arith, h.0), list rest h.1)

  option : (o : Option NodeId) → OptionBelow n o → OptionBelow m o
  option None h = tt
  option (Some a) h = omega arith

  items : (xs : List (Option NodeId)) → ItemsBelow n xs → ItemsBelow m xs
  items [] h = tt
  items (o ∷ rest) h = (option o h.0, items rest h.1)

  properties : (xs : List Property) → PropertiesBelow n xs → PropertiesBelow m xs
  properties [] h = tt
  properties (p ∷ rest) h = (omega (arith, h.0), properties rest h.1)

  declarators : (xs : List Declarator) → DeclaratorsBelow n xs → DeclaratorsBelow m xs
  declarators [] h = tt
  declarators (d ∷ rest) h = (option d.value h.0, declarators rest h.1)

  clauses : (xs : List Clause) → ClausesBelow n xs → ClausesBelow m xs
  clauses [] h = tt
  clauses (c ∷ rest) h = (option c.test h.0, list c.body h.1, clauses rest h.2)

  init : (f : ForInit) → InitBelow n f → InitBelow m f
  init inits.Nothing h = tt
  init (inits.Expr a) h = omega arith
  init (inits.Var xs) h = declarators xs h

  handler : (o : Option Handler) → HandlerBelow n o → HandlerBelow m o
  handler None h = tt
  handler (Some b) h = omega arith

  pub children : (node : Node) → ChildrenBelow n node → ChildrenBelow m node
  children (nodes.Paren a) h = omega arith
  children (nodes.ArrayLit xs tail) h = items xs h
  children (nodes.ObjectLit xs comma) h = properties xs h
  children (nodes.Function name formals body) h = list body h
  children (nodes.Dot a x) h = omega arith
  children (nodes.At a b) h = (omega arith, omega arith)
  children (nodes.Call a xs) h = (omega arith, list xs h.1)
  children (nodes.NewWith a xs) h = (omega arith, list xs h.1)
  children (nodes.NewBare a) h = omega arith
  children (nodes.Postfix a op) h = omega arith
  children (nodes.Prefix op a) h = omega arith
  children (nodes.Binary a op b) h = (omega arith, omega arith)
  children (nodes.Cond a b c) h = (omega arith, omega arith, omega arith)
  children (nodes.Assign a op b) h = (omega arith, omega arith)
  children (nodes.Comma a b) h = (omega arith, omega arith)
  children (nodes.Block xs) h = list xs h
  children (nodes.Var xs end) h = declarators xs h
  children (nodes.Expr a end) h = omega arith
  children (nodes.If a b o) h = (omega arith, omega arith, option o h.2)
  children (nodes.DoWhile a b end) h = (omega arith, omega arith)
  children (nodes.While a b) h = (omega arith, omega arith)
  children (nodes.For f o p a) h = (init f h.0, option o h.1, option p h.2, omega arith)
  children (nodes.ForIn a b c) h = (omega arith, omega arith, omega arith)
  children (nodes.ForVarIn x a b) h = (omega arith, omega arith)
  children (nodes.Return o end) h = option o h
  children (nodes.Throw a end) h = omega arith
  children (nodes.Label x a) h = omega arith
  children (nodes.Switch a xs) h = (omega arith, clauses xs h.1)
  children (nodes.Try a b o) h = (omega arith, handler b h.1, option o h.2)
  children (nodes.Within a b) h = (omega arith, omega arith)
  children (nodes.FunctionDecl x formals body) h = list body h
  children (nodes.Program body) h = list body h
  children _ h = tt

module _ (n : ℕ) where
  both : (xs ys : List NodeId) → AreBelow n xs → AreBelow n ys → AreBelow n (xs ++ ys)
  both [] ys a b = b
  both (x ∷ xs) ys a b = (a.0, both xs ys a.1 b)

  option_below : (o : Option NodeId) → OptionBelow n o → AreBelow n (option_part o)
  option_below None h = tt
  option_below (Some a) h = (h, tt)

  items_below : (xs : List (Option NodeId)) → ItemsBelow n xs → AreBelow n (item_parts xs)
  items_below [] h = tt
  items_below (o ∷ rest) h = both (option_part o) (item_parts rest) (option_below o h.0) (items_below rest h.1)

  properties_below : (xs : List Property) → PropertiesBelow n xs → AreBelow n (property_parts xs)
  properties_below [] h = tt
  properties_below (p ∷ rest) h = (h.0, properties_below rest h.1)

  initialisers_below : (xs : List Declarator) → DeclaratorsBelow n xs → AreBelow n (initialisers xs)
  initialisers_below [] h = tt
  initialisers_below (d ∷ rest) h = both (option_part d.value) (initialisers rest) (option_below d.value h.0) (initialisers_below rest h.1)

  clauses_below : (xs : List Clause) → ClausesBelow n xs → AreBelow n (clause_parts xs)
  clauses_below [] h = tt
  clauses_below (c ∷ rest) h = both (clause_part c) (clause_parts rest) (both (option_part c.test) c.body (option_below c.test h.0) h.1) (clauses_below rest h.2)

  init_below : (f : ForInit) → InitBelow n f → AreBelow n (init_parts f)
  init_below inits.Nothing h = tt
  init_below (inits.Expr a) h = (h, tt)
  init_below (inits.Var xs) h = initialisers_below xs h

  plain_below : (node : Node) → ChildrenBelow n node → AreBelow n (plain_parts node)
  plain_below (nodes.Paren a) h = (h, tt)
  plain_below (nodes.ArrayLit xs tail) h = items_below xs h
  plain_below (nodes.ObjectLit xs comma) h = properties_below xs h
  plain_below (nodes.Dot a x) h = (h, tt)
  plain_below (nodes.At a b) h = (h.0, (h.1, tt))
  plain_below (nodes.Call a xs) h = (h.0, h.1)
  plain_below (nodes.NewWith a xs) h = (h.0, h.1)
  plain_below (nodes.NewBare a) h = (h, tt)
  plain_below (nodes.Postfix a op) h = (h, tt)
  plain_below (nodes.Prefix op a) h = (h, tt)
  plain_below (nodes.Binary a op b) h = (h.0, (h.1, tt))
  plain_below (nodes.Cond a b c) h = (h.0, (h.1, (h.2, tt)))
  plain_below (nodes.Assign a op b) h = (h.0, (h.1, tt))
  plain_below (nodes.Comma a b) h = (h.0, (h.1, tt))
  plain_below (nodes.Block xs) h = h
  plain_below (nodes.Var xs end) h = initialisers_below xs h
  plain_below (nodes.Expr a end) h = (h, tt)
  plain_below (nodes.If a b o) h = (h.0, (h.1, option_below o h.2))
  plain_below (nodes.DoWhile a b end) h = (h.0, (h.1, tt))
  plain_below (nodes.While a b) h = (h.0, (h.1, tt))
  plain_below (nodes.For f o p a) h = both (init_parts f) (option_part o ++ (option_part p ++ a ∷ [])) (init_below f h.0) (both (option_part o) (option_part p ++ a ∷ []) (option_below o h.1) (both (option_part p) (a ∷ []) (option_below p h.2) (h.3, tt)))
  plain_below (nodes.ForIn a b c) h = (h.0, (h.1, (h.2, tt)))
  plain_below (nodes.ForVarIn x a b) h = (h.0, (h.1, tt))
  plain_below (nodes.Return o end) h = option_below o h
  plain_below (nodes.Throw a end) h = (h, tt)
  plain_below (nodes.Label x a) h = (h, tt)
  plain_below (nodes.Switch a xs) h = (h.0, clauses_below xs h.1)
  plain_below (nodes.Within a b) h = (h.0, (h.1, tt))
  plain_below (nodes.Program body) h = h
  plain_below _ h = tt

  side_below : (side : Side) (xs : List NodeId) → AreBelow n xs → (p : NodeId × Side) → IsAmong (on_side side xs) p → p.0.0 < n
  side_below side [] h p a = elim a [ ]
  side_below side (x ∷ xs) h p (inl e) = subst (λ (z : NodeId × Side). z.0.0 < n) (sym e) h.0
  side_below side (x ∷ xs) h p (inr a) = side_below side xs h.1 p a

  try_below : (a : NodeId) (b : Option Handler) (o : Option NodeId) → ChildrenBelow n (nodes.Try a b o) → (p : NodeId × Side) → IsAmong (parts (nodes.Try a b o)) p → p.0.0 < n
  try_below a b o h p (inl e) = subst (λ (z : NodeId × Side). z.0.0 < n) (sym e) h.0
  try_below a None o h p (inr r) = side_below Around (option_part o) (option_below o h.2) p r
  try_below a (Some b) o h p (inr (inl e)) = subst (λ (z : NodeId × Side). z.0.0 < n) (sym e) h.1
  try_below a (Some b) o h p (inr (inr r)) = side_below Around (option_part o) (option_below o h.2) p r

  -- each part is a child
  pub part_below : (node : Node) → ChildrenBelow n node → (p : NodeId × Side) → IsAmong (parts node) p → p.0.0 < n
  part_below (nodes.Function name formals body) h p a = side_below Inside body h p a
  part_below (nodes.FunctionDecl x formals body) h p a = side_below Inside body h p a
  part_below (nodes.Try a b o) h p r = try_below a b o h p r
  part_below node h p a = side_below Around (plain_parts node) (plain_below node h) p a
