-- The statements in a form stand for statements that are lower.
use Rattle.std.specs.Prelude.{◌≡◌, ℕ, suc, ◌<◌, ◌≤◌, List, length, option_map, Option, Some, None}
use Rattle.std.proofs.Common.{sym, subst, arith}
use Rattle.std.proofs.lemmas.Option.{slice_get_within}
use Rattle.wjs_base.specs.declared.ids.TextId.{TextId}
use Rattle.wjs_base.specs.declared.ids.NodeId.{NodeId}
use Rattle.wjs_tree.specs.declared.node.Node.{Node}
use Rattle.wjs_tree.specs.declared.node.Node.TheVariants as nodes
use Rattle.wjs_tree.specs.declared.node.Clause.{Clause}
use Rattle.wjs_tree.specs.declared.node.Handler.{Handler}
use Rattle.wjs_tree.specs.Trees.{Expr, Stmt, Block, If, IfElse, Label, Switch, TryCatch, TryFinally, TryBoth, Within}
use Rattle.wjs_tree.specs.Height.{stmt_height}
use Rattle.wjs_tree.specs.Shows.{Has}
use Rattle.wjs_tree.specs.Forms.{IsPart, HasForm}
use Rattle.wjs_tree.specs.There.{StmtThere, OptionThere, StmtsThere, ClausesThere, FormThere}
use Rattle.wjs_tree.proofs.Made.{stmt_made, top_of}
use Rattle.wjs_tree.proofs.Heights.{at_least_one}
use Rattle.wjs_tree.proofs.Forms.{form_of}
use Rattle.wjs_tree.proofs.Walks.{ComesTo, go_on}

-- a node that stands for a statement is there
pub within : (ns : List Node) (i : NodeId) (t : Stmt) → IsPart ns t i → i.0 < length ns
within ns i t h = let top = top_of ns i h.0 (stmt_made ns t i h.0 h.1) in slice_get_within ns i.0 top.0 top.1

pub room_for : (ns : List Node) (room : ℕ) (i : NodeId) → StmtThere ns room i → 1 ≤ room
room_for ns room i h = let low = at_least_one h.0 in let high = h.2 in omega arith

-- the form of a node that stands for a statement, with its height
pub formed : (ns : List Node) (room : ℕ) (i : NodeId) (m n : Node) → Has ns i m → m ≡ n → StmtThere ns (suc room) i → FormThere ns room n
formed ns room i m n h e there = (there.0, subst (λ (z : Node). HasForm ns z there.0) e (form_of ns i m h there.0 there.1.0 there.1.1), there.2)

-- a statement as high as another
lower : (u v : Stmt) (room : ℕ) → u ≡ v → stmt_height u ≤ room → stmt_height v ≤ room
lower u v room e h = subst (λ (z : Stmt). stmt_height z ≤ room) e h

pub block_low : (ns : List Node) (room : ℕ) (list : List NodeId) → FormThere ns room (nodes.Block list) → StmtsThere ns room list
block_low ns room list f = let h = lower f.0 (Block f.1.0) (suc room) f.1.1 f.2 in (f.1.0, f.1.2, omega arith)

pub label_low : (ns : List Node) (room : ℕ) (x : TextId) (y : NodeId) → FormThere ns room (nodes.Label x y) → StmtThere ns room y
label_low ns room x y f = let h = lower f.0 (Label x f.1.0) (suc room) f.1.1 f.2 in (f.1.0, f.1.2, omega arith)

pub switch_low : (ns : List Node) (room : ℕ) (x : NodeId) (list : List Clause) → FormThere ns room (nodes.Switch x list) → ClausesThere ns room list
switch_low ns room x list f = let h = lower f.0 (Switch f.1.0 f.1.1) (suc room) f.1.2 f.2 in (f.1.1, f.1.3, omega arith)

pub world_low : (ns : List Node) (room : ℕ) (x y : NodeId) → FormThere ns room (nodes.Within x y) → StmtThere ns room y
world_low ns room x y f = let h = lower f.0 (Within f.1.0 f.1.1) (suc room) f.1.2 f.2 in (Block f.1.1, f.1.3, omega arith)

pub if_low : (ns : List Node) (room : ℕ) (x y : NodeId) (o : Option NodeId) → FormThere ns room (nodes.If x y o) → StmtThere ns room y
if_low ns room x y None f = let h = lower f.0 (If f.1.0 f.1.1) (suc room) f.1.2 f.2 in (f.1.1, f.1.3, omega arith)
if_low ns room x y (Some z) f = let h = lower f.0 (IfElse f.1.0 f.1.1 f.1.2) (suc room) f.1.3 f.2 in (f.1.1, f.1.4, omega arith)

-- the parts of a `try`
pub record TryLow (ns : List Node) (room : ℕ) (p : NodeId) (h : Option Handler) (o : Option NodeId) : Type 0 where
  pub body : StmtThere ns room p
  pub handler : OptionThere ns room (option_map (λ (z : Handler). z.block) h)
  pub last : OptionThere ns room o

pub try_low : (ns : List Node) (room : ℕ) (p : NodeId) (h : Option Handler) (o : Option NodeId) → FormThere ns room (nodes.Try p h o) → TryLow ns room p h o
try_low ns room p None None f = absurd f.1
try_low ns room p (Some h) None f =
    let low = lower f.0 (TryCatch f.1.0 h.name f.1.1) (suc room) f.1.2 f.2 in
    record { body = (Block f.1.0, f.1.3, omega arith); handler = (Block f.1.1, f.1.4, omega arith); last = tt }
try_low ns room p None (Some o) f =
    let low = lower f.0 (TryFinally f.1.0 f.1.1) (suc room) f.1.2 f.2 in
    record { body = (Block f.1.0, f.1.3, omega arith); handler = tt; last = (Block f.1.1, f.1.4, omega arith) }
try_low ns room p (Some h) (Some o) f =
    let low = lower f.0 (TryBoth f.1.0 h.name f.1.1 f.1.2) (suc room) f.1.3 f.2 in
    record { body = (Block f.1.0, f.1.4, omega arith); handler = (Block f.1.1, f.1.5, omega arith); last = (Block f.1.2, f.1.6, omega arith) }

-- a walk along a chain of `else`: the statement of the first node comes to that of the last, as R says
pub record StmtWalk (ns : List Node) (room : ℕ) (i j : NodeId) (R : Stmt → Stmt → Type 0) : Type 0 where
  pub there : StmtThere ns room j
  pub same : ComesTo (IsPart ns) R i j

pub walk_on : (ns : List Node) (room : ℕ) (i j x y z : NodeId) (m : Node) (Q R S : Stmt → Stmt → Type 0) → ((t u v : Stmt) → Q t u → R u v → S t v) → Has ns j m → m ≡ nodes.If x y (Some z)
    → ((e : Expr) (s u : Stmt) → IsPart ns s y → R (IfElse e s u) u) → StmtWalk ns (suc room) i j Q → StmtWalk ns (suc room) i z S
walk_on ns room i j x y z m Q R S join has e step walk =
    let f = formed ns room j m (nodes.If x y (Some z)) has e walk.there in
    let h = lower f.0 (IfElse f.1.0 f.1.1 f.1.2) (suc room) f.1.3 f.2 in
    record {
      there = (f.1.2, f.1.5, omega arith);
      same = go_on (IsPart ns) Q R S i j z join walk.same (record {
        each = λ t p.
            (let g = subst (λ (n : Node). HasForm ns n t) e (form_of ns j m has t p.0 p.1) in
            (g.2, g.5, subst (λ (q : Stmt). R q g.2) (sym g.3) (step g.0 g.1 g.2 g.4)));
      });
    }
