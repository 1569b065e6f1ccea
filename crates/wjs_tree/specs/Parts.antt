-- The parts of a node.
use Rattle.std.specs.Prelude.{List, [], ◌∷◌, ◌++◌, Option, Some, None}
use Rattle.wjs_base.specs.declared.ids.NodeId.{NodeId}
use Rattle.wjs_tree.specs.declared.node.Node.{Node}
use Rattle.wjs_tree.specs.declared.node.Node.TheVariants as nodes
use Rattle.wjs_tree.specs.declared.node.Property.{Property}
use Rattle.wjs_tree.specs.declared.node.Declarator.{Declarator}
use Rattle.wjs_tree.specs.declared.node.ForInit.{ForInit}
use Rattle.wjs_tree.specs.declared.node.ForInit.TheVariants as inits
use Rattle.wjs_tree.specs.declared.node.Clause.{Clause}
use Rattle.wjs_tree.specs.declared.node.Handler.{Handler}

abbrev pub option_part : Option NodeId → List NodeId
option_part None = []
option_part (Some i) = i ∷ []

abbrev pub item_parts : List (Option NodeId) → List NodeId
item_parts [] = []
item_parts (o ∷ more) = option_part o ++ item_parts more

abbrev pub property_parts : List Property → List NodeId
property_parts [] = []
property_parts (p ∷ more) = p.value ∷ property_parts more

abbrev pub initialisers : List Declarator → List NodeId
initialisers [] = []
initialisers (d ∷ more) = option_part d.value ++ initialisers more

abbrev pub init_parts : ForInit → List NodeId
init_parts inits.Nothing = []
init_parts (inits.Expr a) = a ∷ []
init_parts (inits.Var list) = initialisers list

abbrev pub clause_part : Clause → List NodeId
clause_part c = option_part c.test ++ c.body

abbrev pub clause_parts : List Clause → List NodeId
clause_parts [] = []
clause_parts (c ∷ more) = clause_part c ++ clause_parts more

-- the block of a `catch`, if there is one
abbrev pub handler_blocks : Option Handler → List NodeId
handler_blocks None = []
handler_blocks (Some h) = h.block ∷ []

-- the parts of a node, in the order in which they are spelled
abbrev pub parts_of : Node → List NodeId
parts_of (nodes.Paren a) = a ∷ []
parts_of (nodes.ArrayLit items tail) = item_parts items
parts_of (nodes.ObjectLit properties comma) = property_parts properties
parts_of (nodes.Function name formals list) = list
parts_of (nodes.Dot a x) = a ∷ []
parts_of (nodes.At a b) = a ∷ b ∷ []
parts_of (nodes.Call a list) = a ∷ list
parts_of (nodes.NewWith a list) = a ∷ list
parts_of (nodes.NewBare a) = a ∷ []
parts_of (nodes.Postfix a op) = a ∷ []
parts_of (nodes.Prefix op a) = a ∷ []
parts_of (nodes.Binary a op b) = a ∷ b ∷ []
parts_of (nodes.Cond a b c) = a ∷ b ∷ c ∷ []
parts_of (nodes.Assign a op b) = a ∷ b ∷ []
parts_of (nodes.Comma a b) = a ∷ b ∷ []
parts_of (nodes.Block list) = list
parts_of (nodes.Var list end) = initialisers list
parts_of (nodes.Expr a end) = a ∷ []
parts_of (nodes.If a b o) = a ∷ b ∷ option_part o
parts_of (nodes.DoWhile a b end) = a ∷ b ∷ []
parts_of (nodes.While a b) = a ∷ b ∷ []
parts_of (nodes.For init o p a) = init_parts init ++ (option_part o ++ (option_part p ++ a ∷ []))
parts_of (nodes.ForIn a b c) = a ∷ b ∷ c ∷ []
parts_of (nodes.ForVarIn x a b) = a ∷ b ∷ []
parts_of (nodes.Return o end) = option_part o
parts_of (nodes.Throw a end) = a ∷ []
parts_of (nodes.Label x a) = a ∷ []
parts_of (nodes.Switch a list) = a ∷ clause_parts list
parts_of (nodes.Try b handler last) = b ∷ (handler_blocks handler ++ option_part last)
parts_of (nodes.Within a b) = a ∷ b ∷ []
parts_of (nodes.FunctionDecl x formals list) = list
parts_of (nodes.Program list) = list
parts_of _ = []
