-- Functions that are read already.
use Rattle.std.specs.Prelude.{◌≡◌, ℕ, ◌+◌, ◌<◌, ◌≤◌, ◌⊎◌, nat_eq, List, length, Option, Some, IsSome}
use Rattle.std.specs.HashMap.{get}
use Rattle.wjs_base.specs.declared.ids.NodeId.{NodeId}
use Rattle.wjs_tree.specs.declared.tokens.Tok.{Tok}
use Rattle.wjs_tree.specs.declared.signs.Sign.TheVariants as signs
use Rattle.wjs_tree.specs.declared.keys.Key.TheVariants as keys
use Rattle.wjs_tree.specs.declared.node.Node.{Node}
use Rattle.wjs_tree.specs.Trees.{Expr}
use Rattle.wjs_tree.specs.Ends.{HasSign, HasKey}
use Rattle.wjs_tree.specs.Shows.{Shows}
use Rattle.wjs_tree.specs.Used.{IsUsed, IsOnce, AreApart}
use Rattle.wjs_parse_expr.specs.declared.functions.Functions.{Functions}
use Rattle.wjs_parse_expr.specs.Readings.{FunctionReading}

-- A tree may begin at the place: no `function` right behind a dot stands there, which is the name of a property.
pub record MayBegin (toks : List Tok) (p : ℕ) : Type 0 where
  pub undotted : (dot : ℕ) → p ≡ dot + 1 → HasSign toks dot signs.Dot → HasKey toks p keys.Function → ⊥

-- the node of the function at a place, and the place after it
abbrev pub entry_at : Functions → ℕ → Option (NodeId × ℕ)
entry_at functions p = get nat_eq functions.entries p

-- The node stands for the function that is spelled from p up to next, and no other is spelled at p. No node stands at two
-- places of its tree.
pub record IsEntry (toks : List Tok) (ns : List Node) (p : ℕ) (node : NodeId) (next : ℕ) : Type 0 where
  pub tree : Expr
  pub used : List ℕ
  pub shows : Shows ns tree node used
  pub once : IsOnce used
  pub reading : FunctionReading toks p tree next
  pub only : (u : Expr) (m : ℕ) → FunctionReading toks p u m → (u ≡ tree) × (m ≡ next)

-- entries whose tokens don't meet share no node
abbrev pub AreEntriesApart : Functions → List Node → Type 0
AreEntriesApart functions ns =
    (p q : ℕ) (node node' : NodeId) (next next' : ℕ) → entry_at functions p ≡ Some (node, next) → entry_at functions q ≡ Some (node', next') → next ≤ q
    → (t u : Expr) (us vs : List ℕ) → Shows ns t node us → Shows ns u node' vs → AreApart us vs

-- Each entry is right, each function that is spelled at or after the place, where a tree may begin, has an entry, and
-- entries whose tokens don't meet share no node. The height that is left is at most 200.
pub record Holds (toks : List Tok) (functions : Functions) (at room : ℕ) (ns : List Node) : Type 0 where
  pub entries : (p : ℕ) (node : NodeId) (next : ℕ) → entry_at functions p ≡ Some (node, next) → IsEntry toks ns p node next
  pub complete : (p : ℕ) (u : Expr) (m : ℕ) → at ≤ p → MayBegin toks p → FunctionReading toks p u m → IsSome (entry_at functions p)
  pub apart : AreEntriesApart functions ns
  pub low : room ≤ 200

-- the node is one of an entry whose tokens stand from at up to next
pub record IsOfEntry (functions : Functions) (ns : List Node) (at next n : ℕ) : Type 0 where
  pub place : ℕ
  pub node : NodeId
  pub ends : ℕ
  pub entry : entry_at functions place ≡ Some (node, ends)
  pub begins : at ≤ place
  pub within : ends ≤ next
  pub tree : Expr
  pub used : List ℕ
  pub shows : Shows ns tree node used
  pub is_used : IsUsed used n

-- No node stands at two places of what is made of these, and each is new or one of an entry whose tokens stand from at up
-- to next.
pub record Owns (functions : Functions) (old new : List Node) (at next : ℕ) (used : List ℕ) : Type 0 where
  pub once : IsOnce used
  pub each : (n : ℕ) → IsUsed used n → ((length old ≤ n) × (n < length new)) ⊎ IsOfEntry functions new at next n
