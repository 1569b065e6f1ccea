-- The children of a node.
use Rattle.std.specs.Prelude.{ℕ, ◌<◌, List, [], ◌∷◌, Option, Some, None}
use Rattle.wjs_base.specs.declared.ids.NodeId.{NodeId}
use Rattle.wjs_tree.specs.declared.node.Node.{Node}
use Rattle.wjs_tree.specs.declared.node.Node.TheVariants as nodes
use Rattle.wjs_tree.specs.declared.node.Property.{Property}
use Rattle.wjs_tree.specs.declared.node.Declarator.{Declarator}
use Rattle.wjs_tree.specs.declared.node.ForInit.{ForInit}
use Rattle.wjs_tree.specs.declared.node.ForInit.TheVariants as inits
use Rattle.wjs_tree.specs.declared.node.Clause.{Clause}
use Rattle.wjs_tree.specs.declared.node.Handler.{Handler}

-- each of the nodes has a number below n
abbrev pub AreBelow : ℕ → List NodeId → Type 0
AreBelow n [] = Unit {0}
AreBelow n (a ∷ rest) = (a.0 < n) × AreBelow n rest

abbrev pub OptionBelow : ℕ → Option NodeId → Type 0
OptionBelow n None = Unit {0}
OptionBelow n (Some a) = a.0 < n

abbrev pub ItemsBelow : ℕ → List (Option NodeId) → Type 0
ItemsBelow n [] = Unit {0}
ItemsBelow n (o ∷ rest) = OptionBelow n o × ItemsBelow n rest

abbrev pub PropertiesBelow : ℕ → List Property → Type 0
PropertiesBelow n [] = Unit {0}
PropertiesBelow n (p ∷ rest) = (p.value.0 < n) × PropertiesBelow n rest

abbrev pub DeclaratorsBelow : ℕ → List Declarator → Type 0
DeclaratorsBelow n [] = Unit {0}
DeclaratorsBelow n (d ∷ rest) = OptionBelow n d.value × DeclaratorsBelow n rest

abbrev pub ClausesBelow : ℕ → List Clause → Type 0
ClausesBelow n [] = Unit {0}
ClausesBelow n (c ∷ rest) = OptionBelow n c.test × AreBelow n c.body × ClausesBelow n rest

abbrev pub InitBelow : ℕ → ForInit → Type 0
InitBelow n inits.Nothing = Unit {0}
InitBelow n (inits.Expr a) = a.0 < n
InitBelow n (inits.Var list) = DeclaratorsBelow n list

abbrev pub HandlerBelow : ℕ → Option Handler → Type 0
HandlerBelow n None = Unit {0}
HandlerBelow n (Some h) = h.block.0 < n

-- each child of the node has a number below n
abbrev pub ChildrenBelow : ℕ → Node → Type 0
ChildrenBelow n (nodes.Paren a) = a.0 < n
ChildrenBelow n (nodes.ArrayLit items tail) = ItemsBelow n items
ChildrenBelow n (nodes.ObjectLit properties comma) = PropertiesBelow n properties
ChildrenBelow n (nodes.Function name formals body) = AreBelow n body
ChildrenBelow n (nodes.Dot a x) = a.0 < n
ChildrenBelow n (nodes.At a b) = (a.0 < n) × (b.0 < n)
ChildrenBelow n (nodes.Call a list) = (a.0 < n) × AreBelow n list
ChildrenBelow n (nodes.NewWith a list) = (a.0 < n) × AreBelow n list
ChildrenBelow n (nodes.NewBare a) = a.0 < n
ChildrenBelow n (nodes.Postfix a op) = a.0 < n
ChildrenBelow n (nodes.Prefix op a) = a.0 < n
ChildrenBelow n (nodes.Binary a op b) = (a.0 < n) × (b.0 < n)
ChildrenBelow n (nodes.Cond a b c) = (a.0 < n) × (b.0 < n) × (c.0 < n)
ChildrenBelow n (nodes.Assign a op b) = (a.0 < n) × (b.0 < n)
ChildrenBelow n (nodes.Comma a b) = (a.0 < n) × (b.0 < n)
ChildrenBelow n (nodes.Block list) = AreBelow n list
ChildrenBelow n (nodes.Var list end) = DeclaratorsBelow n list
ChildrenBelow n (nodes.Expr a end) = a.0 < n
ChildrenBelow n (nodes.If a b o) = (a.0 < n) × (b.0 < n) × OptionBelow n o
ChildrenBelow n (nodes.DoWhile a b end) = (a.0 < n) × (b.0 < n)
ChildrenBelow n (nodes.While a b) = (a.0 < n) × (b.0 < n)
ChildrenBelow n (nodes.For init o p a) = InitBelow n init × OptionBelow n o × OptionBelow n p × (a.0 < n)
ChildrenBelow n (nodes.ForIn a b c) = (a.0 < n) × (b.0 < n) × (c.0 < n)
ChildrenBelow n (nodes.ForVarIn x a b) = (a.0 < n) × (b.0 < n)
ChildrenBelow n (nodes.Return o end) = OptionBelow n o
ChildrenBelow n (nodes.Throw a end) = a.0 < n
ChildrenBelow n (nodes.Label x a) = a.0 < n
ChildrenBelow n (nodes.Switch a list) = (a.0 < n) × ClausesBelow n list
ChildrenBelow n (nodes.Try a h o) = (a.0 < n) × HandlerBelow n h × OptionBelow n o
ChildrenBelow n (nodes.Within a b) = (a.0 < n) × (b.0 < n)
ChildrenBelow n (nodes.FunctionDecl x formals body) = AreBelow n body
ChildrenBelow n (nodes.Program body) = AreBelow n body
ChildrenBelow n _ = Unit {0}
