-- The trees by content that a program's nodes stand for, under a table of texts.
use Rattle.std.specs.Prelude.{ℕ, List, map as each, Option}
use Rattle.std.specs.Option.{option_map}
use Rattle.wjs_base.specs.declared.ids.TextId.{TextId}
use Rattle.wjs_base.specs.Text.{Table}
use Rattle.wjs_base.specs.declared.ids.NodeId.{NodeId}
use Rattle.wjs_tree.specs.declared.node.Spelt.{Spelt}
use Rattle.wjs_tree.specs.declared.node.Spelt.TheVariants as spelt
use Rattle.wjs_tree.specs.declared.node.PropertyKey.{PropertyKey}
use Rattle.wjs_tree.specs.declared.node.PropertyKey.TheVariants as keys
use Rattle.wjs_tree.specs.declared.node.Property.{Property}
use Rattle.wjs_tree.specs.declared.node.Declarator.{Declarator}
use Rattle.wjs_tree.specs.declared.node.ForInit.{ForInit}
use Rattle.wjs_tree.specs.declared.node.ForInit.TheVariants as inits
use Rattle.wjs_tree.specs.declared.node.Clause.{Clause}
use Rattle.wjs_tree.specs.declared.node.Handler.{Handler}
use Rattle.wjs_tree.specs.declared.node.Node.{Node as NumberedNode}
use Rattle.wjs_tree.specs.declared.node.Node.TheVariants as form
use Rattle.wjs_tree.specs.Keys.{spelling}
use Rattle.wjs_by_content.specs.Values.{Text}
use Rattle.wjs_by_content.specs.Tables.{text_in}
use Rattle.wjs_meaning.specs.Trees.{Key, Spelled, Numeral, Init, NoInit, InitExpr, InitVar, Node, Name, NumberLit, TextLit, This, ThisWorld, NullLit, BoolLit, Paren, ArrayLit, ObjectLit, Function, Dot, At, Call, NewWith, NewBare, Postfix, Prefix, Binary, Cond, Assign, Comma, Block, Var, Empty, Expr, If, DoWhile, While, For, ForIn, ForVarIn, Continue, Break, Return, Throw, Label, Switch, Try, Within, FunctionDecl, Program, Place, Tree}

-- the numbers of nodes
abbrev pub numbers : List NodeId → List ℕ
numbers ids = each (λ id. id.0) ids

abbrev pub number : Option NodeId → Option ℕ
number id = option_map (λ (x : NodeId). x.0) id

module _ (texts : Table) where
  -- a name behind a dot or before a colon
  abbrev pub spelt_in : Spelt → Text
  spelt_in (spelt.Word id) = text_in texts id
  spelt_in (spelt.Key key) = spelling key

  abbrev pub key_in : PropertyKey → Key
  key_in (keys.Spelt name) = Spelled (spelt_in name)
  key_in (keys.Text id) = Spelled (text_in texts id)
  key_in (keys.Number x) = Numeral x.number

  abbrev pub pair_in : Property → Key × ℕ
  pair_in p = (key_in p.key, p.value.0)

  abbrev pub variable_in : Declarator → Text × Option ℕ
  variable_in d = (text_in texts d.name, number d.value)

  abbrev pub init_in : ForInit → Init
  init_in inits.Nothing = NoInit
  init_in (inits.Expr e) = InitExpr e.0
  init_in (inits.Var xs) = InitVar (each variable_in xs)

  abbrev pub clause_in : Clause → Option ℕ × List ℕ
  clause_in c = (number c.test, numbers c.body)

  abbrev pub handler_in : Handler → Text × ℕ
  handler_in h = (text_in texts h.name, h.block.0)

  abbrev pub label_in : Option TextId → Option Text
  label_in id = option_map (text_in texts) id

  -- a form with its texts; where a statement ends, and whether a comma stands behind a last item, means nothing
  abbrev pub node_in : NumberedNode → Node
  node_in (form.Name id) = Name (text_in texts id)
  node_in (form.Number x) = NumberLit x.number
  node_in (form.Text id) = TextLit (text_in texts id)
  node_in form.This = This
  node_in form.ThisWorld = ThisWorld
  node_in form.Null = NullLit
  node_in (form.Bool b) = BoolLit b
  node_in (form.Paren e) = Paren e.0
  node_in (form.ArrayLit items comma) = ArrayLit (each number items)
  node_in (form.ObjectLit pairs comma) = ObjectLit (each pair_in pairs)
  node_in (form.Function name formals elements) = Function (label_in name) (each (text_in texts) formals) (numbers elements)
  node_in (form.Dot e name) = Dot e.0 (spelt_in name)
  node_in (form.At e i) = At e.0 i.0
  node_in (form.Call f args) = Call f.0 (numbers args)
  node_in (form.NewWith f args) = NewWith f.0 (numbers args)
  node_in (form.NewBare f) = NewBare f.0
  node_in (form.Postfix t op) = Postfix t.0 op
  node_in (form.Prefix op e) = Prefix op e.0
  node_in (form.Binary l op r) = Binary l.0 op r.0
  node_in (form.Cond c a b) = Cond c.0 a.0 b.0
  node_in (form.Assign t op e) = Assign t.0 op e.0
  node_in (form.Comma a b) = Comma a.0 b.0
  node_in (form.Block ss) = Block (numbers ss)
  node_in (form.Var xs end) = Var (each variable_in xs)
  node_in form.Empty = Empty
  node_in (form.Expr e end) = Expr e.0
  node_in (form.If e s t) = If e.0 s.0 (number t)
  node_in (form.DoWhile s e end) = DoWhile s.0 e.0
  node_in (form.While e s) = While e.0 s.0
  node_in (form.For init t u s) = For (init_in init) (number t) (number u) s.0
  node_in (form.ForIn t e s) = ForIn t.0 e.0 s.0
  node_in (form.ForVarIn name e s) = ForVarIn (text_in texts name) e.0 s.0
  node_in (form.Continue label end) = Continue (label_in label)
  node_in (form.Break label end) = Break (label_in label)
  node_in (form.Return e end) = Return (number e)
  node_in (form.Throw e end) = Throw e.0
  node_in (form.Label name s) = Label (text_in texts name) s.0
  node_in (form.Switch e clauses) = Switch e.0 (each clause_in clauses)
  node_in (form.Try b handler f) = Try b.0 (option_map handler_in handler) (number f)
  node_in (form.Within e b) = Within e.0 b.0
  node_in (form.FunctionDecl name formals elements) = FunctionDecl (text_in texts name) (each (text_in texts) formals) (numbers elements)
  node_in (form.Program elements) = Program (numbers elements)

  -- a program with the places of its names
  abbrev pub tree_in : List NumberedNode → NodeId → List (List Place) → Tree
  tree_in nodes body places = record { nodes = each node_in nodes; body = body.0; places = places }
