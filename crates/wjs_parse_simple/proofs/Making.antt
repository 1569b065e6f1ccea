-- Statements made of nodes of their own, by form.
use Rattle.std.proofs.Common.{ℕ, ◌≤◌, Bool, List, [], ◌∷◌, Option, Some, None, refl, arith}
use Rattle.wjs_base.specs.declared.ids.TextId.{TextId}
use Rattle.wjs_base.specs.declared.ids.NodeId.{NodeId}
use Rattle.wjs_tree.specs.declared.tokens.Tok.{Tok}
use Rattle.wjs_tree.specs.declared.node.Node.{Node}
use Rattle.wjs_tree.specs.declared.node.Node.TheVariants as nodes
use Rattle.wjs_tree.specs.declared.node.Declarator.{Declarator}
use Rattle.wjs_tree.specs.declared.node.End.{End}
use Rattle.wjs_tree.specs.Trees.{Absent, Present, Var, Empty, ExprStmt, Continue, Break, Return, Throw}
use Rattle.wjs_tree.specs.Shows.{Keeps}
use Rattle.wjs_tree.proofs.Kept.{kept, variables_kept}
use Rattle.wjs_parse_expr.specs.declared.functions.Functions.{Functions}
use Rattle.wjs_parse_expr.specs.declared.parts.Part.{Part}
use Rattle.wjs_parse_expr.specs.Table.{Holds}
use Rattle.wjs_parse_expr.specs.Answers.{from, Finds}
use Rattle.wjs_parse_simple.specs.Made.{ExprMade, OptionalMade, VariablesMade, StmtMade}
use Rattle.wjs_parse_simple.proofs.Spans.{Added, span_none, span_wide, span_leaf, span_top}

-- ---- expressions

pub expr_found : (toks : List Tok) (functions : Functions) (old new : List Node) (i : ℕ) (least : ℕ) (no_in : Bool) (room : ℕ) (p : Part) → Finds (from toks functions old i) toks least no_in room i new p → Keeps old new → i ≤ p.next → ExprMade functions old new i p.node p.next
expr_found toks functions old new i least no_in room p f k le = record { tree = f.tree; used = f.part.used; shows = f.part.shows; span = record { own = f.part.own; keeps = k; forward = le } }

pub expr_wide : (functions : Functions) (old new : List Node) (i i' j j' : ℕ) (a : NodeId) → i' ≤ i → j ≤ j' → ExprMade functions old new i a j → ExprMade functions old new i' a j'
expr_wide functions old new i i' j j' a le le' f = record { tree = f.tree; used = f.used; shows = f.shows; span = span_wide functions old new i i' j j' f.used le le' f.span }

pub present : (functions : Functions) (old new : List Node) (i i' j j' : ℕ) (a : NodeId) → i' ≤ i → j ≤ j' → ExprMade functions old new i a j → OptionalMade functions old new i' (Some a) j'
present functions old new i i' j j' a le le' f = record { tree = Present f.tree; used = f.used; shows = (a, refl, f.shows); span = span_wide functions old new i i' j j' f.used le le' f.span }

pub absent : (functions : Functions) (ns : List Node) (i n : ℕ) → i ≤ n → OptionalMade functions ns ns i None n
absent functions ns i n le = record { tree = Absent; used = []; shows = (refl, refl); span = span_wide functions ns ns i i i n [] (omega arith) le (span_none functions ns i) }

-- ---- leaves

pub empty_made : (functions : Functions) (old new : List Node) (i n : ℕ) (node : NodeId) → i ≤ n → Added old new node nodes.Empty → StmtMade functions old new i node n
empty_made functions old new i n node le d = record { tree = Empty; used = node.0 ∷ []; shows = (d.has, refl); span = span_leaf functions old new i n node _ le d }

pub continue_made : (functions : Functions) (old new : List Node) (i n : ℕ) (node : NodeId) (label : Option TextId) (end : End) → i ≤ n → Added old new node (nodes.Continue label end) → StmtMade functions old new i node n
continue_made functions old new i n node label end le d = record { tree = Continue label end; used = node.0 ∷ []; shows = (d.has, refl); span = span_leaf functions old new i n node _ le d }

pub break_made : (functions : Functions) (old new : List Node) (i n : ℕ) (node : NodeId) (label : Option TextId) (end : End) → i ≤ n → Added old new node (nodes.Break label end) → StmtMade functions old new i node n
break_made functions old new i n node label end le d = record { tree = Break label end; used = node.0 ∷ []; shows = (d.has, refl); span = span_leaf functions old new i n node _ le d }

pub bare_return_made : (functions : Functions) (old new : List Node) (i n : ℕ) (node : NodeId) (end : End) → i ≤ n → Added old new node (nodes.Return None end) → StmtMade functions old new i node n
bare_return_made functions old new i n node end le d = record { tree = Return Absent end; used = node.0 ∷ []; shows = (None, [], d.has, refl, (refl, refl)); span = span_leaf functions old new i n node _ le d }

-- ---- one part

module _ (toks : List Tok) (functions : Functions) (place room : ℕ) (n0 : List Node) (h : Holds toks functions place room n0) (n1 n2 : List Node) (i j k n : ℕ) (node : NodeId) (ij : i ≤ j) (kn : k ≤ n) where
  pub expr_stmt_made : (a : NodeId) (end : End) → ExprMade functions n0 n1 j a k → Added n1 n2 node (nodes.Expr a end) → StmtMade functions n0 n2 i node n
  expr_stmt_made a end f d = record {
    tree = ExprStmt f.tree end;
    used = node.0 ∷ f.used;
    shows = (a, f.used, d.has, refl, kept n1 n2 d.keeps f.tree a f.used f.shows);
    span = span_top toks functions place room n0 h n1 n2 i j k n node _ f.used ij f.span kn d;
  }

  pub throw_made : (a : NodeId) (end : End) → ExprMade functions n0 n1 j a k → Added n1 n2 node (nodes.Throw a end) → StmtMade functions n0 n2 i node n
  throw_made a end f d = record {
    tree = Throw f.tree end;
    used = node.0 ∷ f.used;
    shows = (a, f.used, d.has, refl, kept n1 n2 d.keeps f.tree a f.used f.shows);
    span = span_top toks functions place room n0 h n1 n2 i j k n node _ f.used ij f.span kn d;
  }

  pub return_made : (a : NodeId) (end : End) → ExprMade functions n0 n1 j a k → Added n1 n2 node (nodes.Return (Some a) end) → StmtMade functions n0 n2 i node n
  return_made a end f d = record {
    tree = Return (Present f.tree) end;
    used = node.0 ∷ f.used;
    shows = (Some a, f.used, d.has, refl, (a, refl, kept n1 n2 d.keeps f.tree a f.used f.shows));
    span = span_top toks functions place room n0 h n1 n2 i j k n node _ f.used ij f.span kn d;
  }

  pub var_made : (list : List Declarator) (end : End) → VariablesMade functions n0 n1 j list k → Added n1 n2 node (nodes.Var list end) → StmtMade functions n0 n2 i node n
  var_made list end f d = record {
    tree = Var f.trees end;
    used = node.0 ∷ f.used;
    shows = (list, f.used, d.has, refl, variables_kept n1 n2 d.keeps f.trees list f.used f.shows);
    span = span_top toks functions place room n0 h n1 n2 i j k n node _ f.used ij f.span kn d;
  }
