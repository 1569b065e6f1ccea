-- Nodes whose parts have other numbers.
use Rattle.std.specs.Prelude.{ℕ, List, map, Option, option_map, slice_index}
use Rattle.wjs_base.specs.declared.ids.NodeId.{NodeId}
use Rattle.wjs_tree.specs.declared.node.Node.{Node}
use Rattle.wjs_tree.specs.declared.node.Node.TheVariants as nodes
use Rattle.wjs_tree.specs.declared.node.Property.{Property}
use Rattle.wjs_tree.specs.declared.node.Declarator.{Declarator}
use Rattle.wjs_tree.specs.declared.node.ForInit.{ForInit}
use Rattle.wjs_tree.specs.declared.node.ForInit.TheVariants as inits
use Rattle.wjs_tree.specs.declared.node.Clause.{Clause}
use Rattle.wjs_tree.specs.declared.node.Handler.{Handler}

-- the new number of a node, by a table
abbrev pub number_in : List ℕ → ℕ → ℕ
number_in numbers k = slice_index numbers k

abbrev pub new_id : (ℕ → ℕ) → NodeId → NodeId
new_id g i = record { 0 = g i.0 }

abbrev pub new_option : (ℕ → ℕ) → Option NodeId → Option NodeId
new_option g o = option_map (new_id g) o

abbrev pub new_property : (ℕ → ℕ) → Property → Property
new_property g p = record { key = p.key; value = new_id g p.value }

abbrev pub new_declarator : (ℕ → ℕ) → Declarator → Declarator
new_declarator g d = record { name = d.name; value = new_option g d.value }

abbrev pub new_init : (ℕ → ℕ) → ForInit → ForInit
new_init g inits.Nothing = inits.Nothing
new_init g (inits.Expr a) = inits.Expr (new_id g a)
new_init g (inits.Var list) = inits.Var (map (new_declarator g) list)

abbrev pub new_clause : (ℕ → ℕ) → Clause → Clause
new_clause g c = record { test = new_option g c.test; body = map (new_id g) c.body }

abbrev pub new_handler : (ℕ → ℕ) → Handler → Handler
new_handler g h = record { name = h.name; block = new_id g h.block }

-- the node with each part under its new number
abbrev pub renumbered : (ℕ → ℕ) → Node → Node
renumbered g (nodes.Paren a) = nodes.Paren (new_id g a)
renumbered g (nodes.ArrayLit items tail) = nodes.ArrayLit (map (new_option g) items) tail
renumbered g (nodes.ObjectLit properties comma) = nodes.ObjectLit (map (new_property g) properties) comma
renumbered g (nodes.Function name formals list) = nodes.Function name formals (map (new_id g) list)
renumbered g (nodes.Dot a x) = nodes.Dot (new_id g a) x
renumbered g (nodes.At a b) = nodes.At (new_id g a) (new_id g b)
renumbered g (nodes.Call a list) = nodes.Call (new_id g a) (map (new_id g) list)
renumbered g (nodes.NewWith a list) = nodes.NewWith (new_id g a) (map (new_id g) list)
renumbered g (nodes.NewBare a) = nodes.NewBare (new_id g a)
renumbered g (nodes.Postfix a op) = nodes.Postfix (new_id g a) op
renumbered g (nodes.Prefix op a) = nodes.Prefix op (new_id g a)
renumbered g (nodes.Binary a op b) = nodes.Binary (new_id g a) op (new_id g b)
renumbered g (nodes.Cond a b c) = nodes.Cond (new_id g a) (new_id g b) (new_id g c)
renumbered g (nodes.Assign a op b) = nodes.Assign (new_id g a) op (new_id g b)
renumbered g (nodes.Comma a b) = nodes.Comma (new_id g a) (new_id g b)
renumbered g (nodes.Block list) = nodes.Block (map (new_id g) list)
renumbered g (nodes.Var list end) = nodes.Var (map (new_declarator g) list) end
renumbered g (nodes.Expr a end) = nodes.Expr (new_id g a) end
renumbered g (nodes.If a b o) = nodes.If (new_id g a) (new_id g b) (new_option g o)
renumbered g (nodes.DoWhile a b end) = nodes.DoWhile (new_id g a) (new_id g b) end
renumbered g (nodes.While a b) = nodes.While (new_id g a) (new_id g b)
renumbered g (nodes.For init o p a) = nodes.For (new_init g init) (new_option g o) (new_option g p) (new_id g a)
renumbered g (nodes.ForIn a b c) = nodes.ForIn (new_id g a) (new_id g b) (new_id g c)
renumbered g (nodes.ForVarIn x a b) = nodes.ForVarIn x (new_id g a) (new_id g b)
renumbered g (nodes.Return o end) = nodes.Return (new_option g o) end
renumbered g (nodes.Throw a end) = nodes.Throw (new_id g a) end
renumbered g (nodes.Label x a) = nodes.Label x (new_id g a)
renumbered g (nodes.Switch a list) = nodes.Switch (new_id g a) (map (new_clause g) list)
renumbered g (nodes.Try a h o) = nodes.Try (new_id g a) (option_map (new_handler g) h) (new_option g o)
renumbered g (nodes.Within a b) = nodes.Within (new_id g a) (new_id g b)
renumbered g (nodes.FunctionDecl x formals list) = nodes.FunctionDecl x formals (map (new_id g) list)
renumbered g (nodes.Program list) = nodes.Program (map (new_id g) list)
renumbered g n = n
