-- What is no expression has no line of its own.
use Rattle.std.proofs.Common.{◌≡◌, ℕ, List, Bool, Option, refl}
use Rattle.wjs_base.specs.declared.ids.TextId.{TextId}
use Rattle.wjs_base.specs.declared.number.Whole.{Whole}
use Rattle.wjs_base.specs.Text.{Table}
use Rattle.wjs_base.specs.declared.ids.NodeId.{NodeId}
use Rattle.wjs_tree.specs.declared.operators.UpdateOperator.{UpdateOperator}
use Rattle.wjs_tree.specs.declared.operators.PrefixOperator.{PrefixOperator}
use Rattle.wjs_tree.specs.declared.operators.BinaryOperator.{BinaryOperator}
use Rattle.wjs_tree.specs.declared.operators.AssignOperator.{AssignOperator}
use Rattle.wjs_tree.specs.declared.node.Spelt.{Spelt}
use Rattle.wjs_tree.specs.declared.node.Property.{Property}
use Rattle.wjs_tree.specs.declared.node.Node.{Node}
use Rattle.wjs_tree.specs.declared.node.Node.TheVariants as nodes
use Rattle.wjs_meaning.specs.Deeds.{Env, Act, Ret, Normal}
use Rattle.wjs_meaning.specs.Reading.{node_in}
use Rattle.wjs_meaning.specs.Expressions.{expr_of}

-- none of the forms of expressions
pub record NoExpr (n : Node) : Type 0 where
  pub name : (id : TextId) → n ≡ nodes.Name id → ⊥
  pub number : (x : Whole) → n ≡ nodes.Number x → ⊥
  pub text : (id : TextId) → n ≡ nodes.Text id → ⊥
  pub this : n ≡ nodes.This → ⊥
  pub this_world : n ≡ nodes.ThisWorld → ⊥
  pub null : n ≡ nodes.Null → ⊥
  pub bool : (b : Bool) → n ≡ nodes.Bool b → ⊥
  pub paren : (e : NodeId) → n ≡ nodes.Paren e → ⊥
  pub array : (items : List (Option NodeId)) (comma : Bool) → n ≡ nodes.ArrayLit items comma → ⊥
  pub object : (pairs : List Property) (comma : Bool) → n ≡ nodes.ObjectLit pairs comma → ⊥
  pub function : (name : Option TextId) (formals : List TextId) (elements : List NodeId) → n ≡ nodes.Function name formals elements → ⊥
  pub dot : (e : NodeId) (name : Spelt) → n ≡ nodes.Dot e name → ⊥
  pub at : (e i : NodeId) → n ≡ nodes.At e i → ⊥
  pub call : (f : NodeId) (args : List NodeId) → n ≡ nodes.Call f args → ⊥
  pub new_with : (f : NodeId) (args : List NodeId) → n ≡ nodes.NewWith f args → ⊥
  pub new_bare : (f : NodeId) → n ≡ nodes.NewBare f → ⊥
  pub postfix : (e : NodeId) (op : UpdateOperator) → n ≡ nodes.Postfix e op → ⊥
  pub prefix : (op : PrefixOperator) (e : NodeId) → n ≡ nodes.Prefix op e → ⊥
  pub binary : (l : NodeId) (op : BinaryOperator) (r : NodeId) → n ≡ nodes.Binary l op r → ⊥
  pub cond : (c a b : NodeId) → n ≡ nodes.Cond c a b → ⊥
  pub assign : (e : NodeId) (op : AssignOperator) (r : NodeId) → n ≡ nodes.Assign e op r → ⊥
  pub comma : (a b : NodeId) → n ≡ nodes.Comma a b → ⊥

pub no_expr : (t : Table) (here : ℕ) (n : Node) (env : Env) → NoExpr n → Ret Normal ≡ expr_of here (node_in t n) env
no_expr t here (nodes.Name id) env h = absurd (h.name id refl)
no_expr t here (nodes.Number x) env h = absurd (h.number x refl)
no_expr t here (nodes.Text id) env h = absurd (h.text id refl)
no_expr t here nodes.This env h = absurd (h.this refl)
no_expr t here nodes.ThisWorld env h = absurd (h.this_world refl)
no_expr t here nodes.Null env h = absurd (h.null refl)
no_expr t here (nodes.Bool b) env h = absurd (h.bool b refl)
no_expr t here (nodes.Paren e) env h = absurd (h.paren e refl)
no_expr t here (nodes.ArrayLit items comma) env h = absurd (h.array items comma refl)
no_expr t here (nodes.ObjectLit pairs comma) env h = absurd (h.object pairs comma refl)
no_expr t here (nodes.Function name formals elements) env h = absurd (h.function name formals elements refl)
no_expr t here (nodes.Dot e name) env h = absurd (h.dot e name refl)
no_expr t here (nodes.At e i) env h = absurd (h.at e i refl)
no_expr t here (nodes.Call f args) env h = absurd (h.call f args refl)
no_expr t here (nodes.NewWith f args) env h = absurd (h.new_with f args refl)
no_expr t here (nodes.NewBare f) env h = absurd (h.new_bare f refl)
no_expr t here (nodes.Postfix e op) env h = absurd (h.postfix e op refl)
no_expr t here (nodes.Prefix op e) env h = absurd (h.prefix op e refl)
no_expr t here (nodes.Binary l op r) env h = absurd (h.binary l op r refl)
no_expr t here (nodes.Cond c a b) env h = absurd (h.cond c a b refl)
no_expr t here (nodes.Assign e op r) env h = absurd (h.assign e op r refl)
no_expr t here (nodes.Comma a b) env h = absurd (h.comma a b refl)
no_expr t here _ env h = refl
