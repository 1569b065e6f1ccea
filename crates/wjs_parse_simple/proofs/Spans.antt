-- Nodes of parts that stand one behind another, and nodes on top of them.
use Rattle.std.proofs.Common.{◌≡◌, ℕ, ◌<◌, ◌≤◌, List, [], ◌∷◌, ◌++◌, length, arith}
use Rattle.std.proofs.lemmas.Option.{slice_get_within}
use Rattle.wjs_base.specs.declared.ids.NodeId.{NodeId}
use Rattle.wjs_tree.specs.declared.tokens.Tok.{Tok}
use Rattle.wjs_tree.specs.declared.node.Node.{Node}
use Rattle.wjs_tree.specs.Shows.{Has, Keeps}
use Rattle.wjs_tree.proofs.Kept.{keeps_both, keeps_self}
use Rattle.wjs_parse_expr.specs.declared.functions.Functions.{Functions}
use Rattle.wjs_parse_expr.specs.Table.{Holds}
use Rattle.wjs_parse_expr.proofs.Entries.{held}
use Rattle.wjs_parse_expr.proofs.Owning.{own_wide, own_none, own_top, own_both, own_leaf}
use Rattle.wjs_parse_simple.specs.Made.{Span}

-- one node that is put last
pub record Added (old new : List Node) (node : NodeId) (made : Node) : Type 0 where
  pub has : Has new node made
  pub is : node.0 ≡ length old
  pub keeps : Keeps old new

added_there : (old new : List Node) (node : NodeId) (made : Node) → Added old new node made → node.0 < length new
added_there old new node made d = slice_get_within new node.0 made d.has

pub span_none : (functions : Functions) (ns : List Node) (i : ℕ) → Span functions ns ns i i []
span_none functions ns i = record { own = own_none functions ns ns i i; keeps = keeps_self ns; forward = omega arith }

-- within more tokens
pub span_wide : (functions : Functions) (old new : List Node) (i i' j j' : ℕ) (us : List ℕ) → i' ≤ i → j ≤ j' → Span functions old new i j us → Span functions old new i' j' us
span_wide functions old new i i' j j' us le le' a = let f = a.forward in record { own = own_wide functions old new new i i' j j' us (keeps_self new) le le' a.own; keeps = a.keeps; forward = omega arith }

-- a node without parts
pub span_leaf : (functions : Functions) (old new : List Node) (i n : ℕ) (node : NodeId) (made : Node) → i ≤ n → Added old new node made → Span functions old new i n (node.0 ∷ [])
span_leaf functions old new i n node made le d = record { own = own_leaf functions old new i n node d.is (added_there old new node made d); keeps = d.keeps; forward = le }

module _ (toks : List Tok) (functions : Functions) (place room : ℕ) (n0 : List Node) (h : Holds toks functions place room n0) where
  -- two parts, the second behind the first
  pub span_both : (n1 n2 : List Node) (i j k n : ℕ) (us vs : List ℕ) → Span functions n0 n1 i j us → j ≤ k → Span functions n1 n2 k n vs → Span functions n0 n2 i n (us ++ vs)
  span_both n1 n2 i j k n us vs a jk b =
      let f = a.forward in
      let g = b.forward in
      record { own = own_both toks functions n0 place room h n1 n2 i j k n us vs a.keeps b.keeps (omega arith) jk (omega arith) a.own b.own; keeps = keeps_both n0 n1 n2 a.keeps b.keeps; forward = omega arith }

  -- a node on top of its parts
  pub span_top : (n1 n2 : List Node) (i' i j n : ℕ) (node : NodeId) (made : Node) (us : List ℕ) → i' ≤ i → Span functions n0 n1 i j us → j ≤ n → Added n1 n2 node made → Span functions n0 n2 i' n (node.0 ∷ us)
  span_top n1 n2 i' i j n node made us le a le' d =
      let f = a.forward in
      let w = span_wide functions n0 n1 i i' j j us le (omega arith) a in
      record { own = own_top toks functions n0 place room h n1 n2 i' j n node us a.keeps d.keeps d.is (added_there n1 n2 node made d) le' w.own; keeps = keeps_both n0 n1 n2 a.keeps d.keeps; forward = omega arith }

-- three parts
pub span_three : (toks : List Tok) (functions : Functions) (place room : ℕ) (n0 : List Node) → Holds toks functions place room n0 → (n1 n2 n3 : List Node) (i j k l m n : ℕ) (us vs ws : List ℕ)
    → Span functions n0 n1 i j us → j ≤ k → Span functions n1 n2 k l vs → l ≤ m → Span functions n2 n3 m n ws → Span functions n0 n3 i n (us ++ (vs ++ ws))
span_three toks functions place room n0 h n1 n2 n3 i j k l m n us vs ws a jk b lm c =
    span_both toks functions place room n0 h n1 n3 i j k n us (vs ++ ws) a jk
    (span_both toks functions place room n1 (held toks functions place place room room n0 n1 h a.keeps (omega arith) (omega arith)) n2 n3 k l m n vs ws b lm c)
