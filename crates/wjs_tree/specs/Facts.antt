-- What is kept beside each node: the facts of its form, from those of its children.
use Rattle.std.specs.Prelude.{◌≡◌, ℕ, suc, ◌+◌, ◌≤◌, max, min, Bool, true, false, List, [], ◌∷◌, take, length, Option, Some, None, slice_get, unwrap_or}
use Rattle.wjs_base.specs.declared.ids.NodeId.{NodeId}
use Rattle.wjs_tree.specs.declared.node.Node.{Node}
use Rattle.wjs_tree.specs.declared.node.Node.TheVariants as nodes
use Rattle.wjs_tree.specs.declared.node.Property.{Property}
use Rattle.wjs_tree.specs.declared.node.Declarator.{Declarator}
use Rattle.wjs_tree.specs.declared.node.ForInit.{ForInit}
use Rattle.wjs_tree.specs.declared.node.ForInit.TheVariants as inits
use Rattle.wjs_tree.specs.declared.node.Clause.{Clause}
use Rattle.wjs_tree.specs.declared.node.Handler.{Handler}
use Rattle.wjs_tree.specs.declared.facts.Facts.{Facts}
use Rattle.wjs_tree.specs.Operators.{binary_level}
use Rattle.wjs_tree.specs.Children.{ChildrenBelow}

-- the facts of a node, among those of all
abbrev pub fact_at : List Facts → NodeId → Facts
fact_at facts a = unwrap_or (slice_get facts a.0) (record { level = 0; height = 0; is_target = false; starts_with_brace = false })

-- the greatest height, 0 of none
abbrev pub highest : {T : Type 0} → (T → ℕ) → List T → ℕ
highest height [] = 0
highest height (x ∷ rest) = max (height x) (highest height rest)

abbrev pub height_at : List Facts → NodeId → ℕ
height_at facts a = (fact_at facts a).height

abbrev pub option_height : List Facts → Option NodeId → ℕ
option_height facts None = 0
option_height facts (Some a) = height_at facts a

abbrev pub list_height : List Facts → List NodeId → ℕ
list_height facts list = highest (height_at facts) list

abbrev pub declarators_height : List Facts → List Declarator → ℕ
declarators_height facts list = highest (λ (d : Declarator). option_height facts d.value) list

abbrev pub init_height : List Facts → ForInit → ℕ
init_height facts inits.Nothing = 0
init_height facts (inits.Expr a) = height_at facts a
init_height facts (inits.Var list) = declarators_height facts list

abbrev pub clause_height : List Facts → Clause → ℕ
clause_height facts c = max (option_height facts c.test) (list_height facts c.body)

abbrev pub handler_height : List Facts → Option Handler → ℕ
handler_height facts None = 0
handler_height facts (Some h) = height_at facts h.block

-- the height of a form
abbrev pub node_height : List Facts → Node → ℕ
node_height facts (nodes.Paren a) = suc (height_at facts a)
node_height facts (nodes.ArrayLit items tail) = suc (highest (option_height facts) items)
node_height facts (nodes.ObjectLit properties comma) = suc (highest (λ (p : Property). height_at facts p.value) properties)
node_height facts (nodes.Function name formals body) = suc (list_height facts body)
node_height facts (nodes.Dot a x) = height_at facts a
node_height facts (nodes.At a b) = max (height_at facts a) (suc (height_at facts b))
node_height facts (nodes.Call a list) = max (height_at facts a) (suc (list_height facts list))
node_height facts (nodes.NewWith a list) = suc (max (height_at facts a) (list_height facts list))
node_height facts (nodes.NewBare a) = suc (height_at facts a)
node_height facts (nodes.Postfix a op) = height_at facts a
node_height facts (nodes.Prefix op a) = suc (height_at facts a)
node_height facts (nodes.Binary a op b) = max (height_at facts a) (suc (height_at facts b))
node_height facts (nodes.Cond a b c) = max (height_at facts a) (suc (max (height_at facts b) (height_at facts c)))
node_height facts (nodes.Assign a op b) = max (height_at facts a) (suc (height_at facts b))
node_height facts (nodes.Comma a b) = max (height_at facts a) (suc (height_at facts b))
node_height facts (nodes.Block list) = suc (list_height facts list)
node_height facts (nodes.Var list end) = suc (declarators_height facts list)
node_height facts (nodes.Expr a end) = suc (height_at facts a)
node_height facts (nodes.If a b o) = max (suc (max (height_at facts a) (height_at facts b))) (option_height facts o)
node_height facts (nodes.DoWhile a b end) = suc (max (height_at facts a) (height_at facts b))
node_height facts (nodes.While a b) = suc (max (height_at facts a) (height_at facts b))
node_height facts (nodes.For init o p a) = suc (max (max (init_height facts init) (option_height facts o)) (max (option_height facts p) (height_at facts a)))
node_height facts (nodes.ForIn a b c) = suc (max (max (height_at facts a) (height_at facts b)) (height_at facts c))
node_height facts (nodes.ForVarIn x a b) = suc (max (height_at facts a) (height_at facts b))
node_height facts (nodes.Return o end) = suc (option_height facts o)
node_height facts (nodes.Throw a end) = suc (height_at facts a)
node_height facts (nodes.Label x a) = suc (height_at facts a)
node_height facts (nodes.Switch a list) = suc (max (height_at facts a) (highest (clause_height facts) list))
node_height facts (nodes.Try a h o) = suc (max (height_at facts a) (max (handler_height facts h) (option_height facts o)))
node_height facts (nodes.Within a b) = suc (max (height_at facts a) (height_at facts b))
node_height facts (nodes.FunctionDecl x formals body) = suc (list_height facts body)
node_height facts (nodes.Program body) = max 1 (list_height facts body)
node_height facts _ = 1

-- no height is above the count of nodes
abbrev pub IsLow : List Facts → Type 0
IsLow facts = (a : NodeId) → height_at facts a ≤ length facts

-- how tightly a form of expression binds
abbrev pub node_level : List Facts → Node → ℕ
node_level facts (nodes.Dot a x) = min (fact_at facts a).level 17
node_level facts (nodes.At a b) = min (fact_at facts a).level 17
node_level facts (nodes.Call a list) = 16
node_level facts (nodes.NewWith a list) = 17
node_level facts (nodes.NewBare a) = 15
node_level facts (nodes.Postfix a op) = 14
node_level facts (nodes.Prefix op a) = 13
node_level facts (nodes.Binary a op b) = binary_level op
node_level facts (nodes.Cond a b c) = 2
node_level facts (nodes.Assign a op b) = 1
node_level facts (nodes.Comma a b) = 0
node_level facts _ = 18

-- whether a form may be assigned to
abbrev pub node_is_target : List Facts → Node → Bool
node_is_target facts (nodes.Name x) = true
node_is_target facts (nodes.Dot a x) = true
node_is_target facts (nodes.At a b) = true
node_is_target facts (nodes.Paren a) = (fact_at facts a).is_target
node_is_target facts _ = false

-- whether a form of expression starts with `{` or `function`
abbrev pub node_starts_with_brace : List Facts → Node → Bool
node_starts_with_brace facts (nodes.ObjectLit properties comma) = true
node_starts_with_brace facts (nodes.Function name formals body) = true
node_starts_with_brace facts (nodes.Dot a x) = (fact_at facts a).starts_with_brace
node_starts_with_brace facts (nodes.At a b) = (fact_at facts a).starts_with_brace
node_starts_with_brace facts (nodes.Call a list) = (fact_at facts a).starts_with_brace
node_starts_with_brace facts (nodes.Postfix a op) = (fact_at facts a).starts_with_brace
node_starts_with_brace facts (nodes.Binary a op b) = (fact_at facts a).starts_with_brace
node_starts_with_brace facts (nodes.Cond a b c) = (fact_at facts a).starts_with_brace
node_starts_with_brace facts (nodes.Assign a op b) = (fact_at facts a).starts_with_brace
node_starts_with_brace facts (nodes.Comma a b) = (fact_at facts a).starts_with_brace
node_starts_with_brace facts _ = false

-- the facts of a node, from those before it
pub record AreFacts (facts : List Facts) (node : Node) (f : Facts) : Type 0 where
  pub level : f.level ≡ node_level facts node
  pub height : f.height ≡ node_height facts node
  pub is_target : f.is_target ≡ node_is_target facts node
  pub starts_with_brace : f.starts_with_brace ≡ node_starts_with_brace facts node

-- what is kept of one node: its children stand before it, its facts come from theirs, and its height is at most the count of nodes up to it
pub record IsKept (facts : List Facts) (i : ℕ) (node : Node) : Type 0 where
  pub below : ChildrenBelow i node
  pub own : Facts
  pub stored : slice_get facts i ≡ Some own
  pub right : AreFacts (take i facts) node own
  pub low : own.height ≤ i + 1

-- what is kept of all
pub record AreKept (ns : List Node) (facts : List Facts) : Type 0 where
  pub same_length : length facts ≡ length ns
  pub each : (i : ℕ) (node : Node) → slice_get ns i ≡ Some node → IsKept facts i node
