-- The jumps of a form are those of the statements in it.
use Rattle.std.specs.Prelude.{◌≡◌, ℕ, suc, ◌<◌, ◌≤◌, ◌↔◌, Bool, true, false, not, is_some, IsTrue, List, count_by, option_map, Option, Some, None}
use Rattle.std.proofs.Common.{sym, subst, ◌∙◌, arith}
use Rattle.wjs_base.specs.declared.ids.TextId.{TextId}
use Rattle.wjs_base.specs.declared.ids.NodeId.{NodeId}
use Rattle.wjs_tree.specs.declared.node.Node.{Node}
use Rattle.wjs_tree.specs.declared.node.Node.TheVariants as nodes
use Rattle.wjs_tree.specs.declared.node.Clause.{Clause}
use Rattle.wjs_tree.specs.declared.node.Handler.{Handler}
use Rattle.wjs_tree.specs.Trees.{Stmt, Block, If, Label, Within}
use Rattle.wjs_tree.specs.Shows.{Has}
use Rattle.wjs_tree.specs.Jumps.{Around, in_loop, in_switch, JumpsRight}
use Rattle.wjs_tree.specs.Forms.{IsPart, HasForm, loop_body}
use Rattle.wjs_labels.specs.Answers.{StmtAnswer, OptionAnswer, LabelAnswer, SwitchAnswer, FormAnswer}
use Rattle.wjs_tree.proofs.Forms.{form_of, loop_of}
use Rattle.wjs_tree.proofs.Steps as steps
use Rattle.wjs_labels.proofs.Walks.{AskAlike, joined, settle}
use Rattle.wjs_labels.proofs.Lists.{ClausesAnswer, defaults}

pub answered : (ns : List Node) (a : Around) (i : NodeId) (m n : Node) (b : Bool) → Has ns i m → m ≡ n → FormAnswer ns a n b → StmtAnswer ns a i b
answered ns a i m n b h e w t p = w t (subst (λ (z : Node). HasForm ns z t) e (form_of ns i m h t p.0 p.1))

moved : (a : Around) (u v : Stmt) (b : Bool) → u ≡ v → (IsTrue b ↔ JumpsRight a v) → IsTrue b ↔ JumpsRight a u
moved a u v b e w = (λ h. subst (JumpsRight a) (sym e) (w.0 h), λ j. w.1 (subst (JumpsRight a) e j))

pub loop_right : (ns : List Node) (a : Around) (i : NodeId) (n : Node) (y : NodeId) (b : Bool) → Has ns i n → loop_body n ≡ Some y → StmtAnswer ns (in_loop a) y b → StmtAnswer ns a i b
loop_right ns a i n y b has e w t p =
    let l = loop_of ns i n y has e t p.0 p.1 in
    let same = w l.body l.part in
    (λ k. l.back a (same.0 k), λ j. same.1 (l.into a j))

pub label_right : (ns : List Node) (a : Around) (x : TextId) (y : NodeId) (b : Bool) → LabelAnswer ns a x y b → FormAnswer ns a (nodes.Label x y) b
label_right ns a x y b w t f = moved a t (Label x f.0) b f.1 (w f.0 f.2)

pub world_right : (ns : List Node) (a : Around) (x y : NodeId) (b : Bool) → StmtAnswer ns a y b → FormAnswer ns a (nodes.Within x y) b
world_right ns a x y b w t f = moved a t (Within f.0 f.1) b f.2 (w (Block f.1) f.3)

false_right : (a : Around) (t : Stmt) (b : Bool) → b ≡ false → (JumpsRight a t → IsTrue b) → IsTrue false ↔ JumpsRight a t
false_right a t b e w = (λ no. absurd (cc), λ j. sym e ∙ w j)

pub try_body_wrong : (ns : List Node) (a : Around) (p : NodeId) (h : Option Handler) (o : Option NodeId) (b : Bool) → b ≡ false → StmtAnswer ns a p b → FormAnswer ns a (nodes.Try p h o) false
try_body_wrong ns a p None None b e w t f = absurd f
try_body_wrong ns a p (Some h) None b e w t f = false_right a t b e (λ j. (w (Block f.0) f.3).1 (subst (JumpsRight a) f.2 j).0)
try_body_wrong ns a p None (Some o) b e w t f = false_right a t b e (λ j. (w (Block f.0) f.3).1 (subst (JumpsRight a) f.2 j).0)
try_body_wrong ns a p (Some h) (Some o) b e w t f = false_right a t b e (λ j. (w (Block f.0) f.4).1 (subst (JumpsRight a) f.3 j).0)

pub try_handler_wrong : (ns : List Node) (a : Around) (p : NodeId) (h : Option Handler) (o : Option NodeId) (b : Bool) → b ≡ false → OptionAnswer ns a (option_map (λ (z : Handler). z.block) h) b → FormAnswer ns a (nodes.Try p h o) false
try_handler_wrong ns a p None None b e w t f = absurd f
try_handler_wrong ns a p (Some h) None b e w t f = false_right a t b e (λ j. (w (Block f.1) f.4).1 (subst (JumpsRight a) f.2 j).1)
try_handler_wrong ns a p None (Some o) b e w t f = absurd (cc)
try_handler_wrong ns a p (Some h) (Some o) b e w t f = false_right a t b e (λ j. (w (Block f.1) f.5).1 (subst (JumpsRight a) f.3 j).1)

pub try_right : (ns : List Node) (a : Around) (p : NodeId) (h : Option Handler) (o : Option NodeId) (b c d : Bool) → b ≡ true → c ≡ true → StmtAnswer ns a p b → OptionAnswer ns a (option_map (λ (z : Handler). z.block) h) c → OptionAnswer ns a o d → FormAnswer ns a (nodes.Try p h o) d
try_right ns a p None None b c d eb ec wb wc wd t f = absurd f
try_right ns a p (Some h) None b c d eb ec wb wc wd t f = (λ k. subst (JumpsRight a) (sym f.2) ((wb (Block f.0) f.3).0 eb, (wc (Block f.1) f.4).0 ec), λ j. wd)
try_right ns a p None (Some o) b c d eb ec wb wc wd t f = (λ k. subst (JumpsRight a) (sym f.2) ((wb (Block f.0) f.3).0 eb, (wd (Block f.1) f.4).0 k), λ j. (wd (Block f.1) f.4).1 (subst (JumpsRight a) f.2 j).1)
try_right ns a p (Some h) (Some o) b c d eb ec wb wc wd t f =
    (λ k. subst (JumpsRight a) (sym f.3) ((wb (Block f.0) f.4).0 eb, (wc (Block f.1) f.5).0 ec, (wd (Block f.2) f.6).0 k), λ j. (wd (Block f.2) f.6).1 (subst (JumpsRight a) f.3 j).2)

-- a `switch` with too many defaults, and one whose clauses are tested
pub switch_wrong : (ns : List Node) (a : Around) (list : List Clause) (n : ℕ) → n ≡ count_by (λ (c : Clause). not (is_some c.test)) list → 1 < n → SwitchAnswer ns a list false
switch_wrong ns a list n e more t h = let d = defaults ns t list h in (λ no. absurd (cc), λ j. let few = j.0 in absurd (omega arith))

pub switch_clauses : (ns : List Node) (a : Around) (list : List Clause) (n : ℕ) (b : Bool) → n ≡ count_by (λ (c : Clause). not (is_some c.test)) list → n ≤ 1 → ClausesAnswer ns (in_switch a) list b → SwitchAnswer ns a list b
switch_clauses ns a list n b e few w t h = let d = defaults ns t list h in (λ k. (omega arith, (w t h).0 k), λ j. (w t h).1 j.1)

-- a walk along a chain of `else`
abbrev pub StmtWalk : List Node → Around → ℕ → NodeId → NodeId → Type 0
StmtWalk ns a room i j = steps.StmtWalk ns room i j (AskAlike (JumpsRight a))

-- the answer for the last statement is that for the first
pub walk_answer : (ns : List Node) (a : Around) (room : ℕ) (i j : NodeId) (b : Bool) → StmtWalk ns a room i j → StmtAnswer ns a j b → StmtAnswer ns a i b
walk_answer ns a room i j b walk w = settle (IsPart ns) (JumpsRight a) i j b walk.same w

pub if_wrong : (ns : List Node) (a : Around) (x y : NodeId) (o : Option NodeId) (b : Bool) → b ≡ false → StmtAnswer ns a y b → FormAnswer ns a (nodes.If x y o) false
if_wrong ns a x y None b e w t f = false_right a t b e (λ j. (w f.1 f.3).1 (subst (JumpsRight a) f.2 j))
if_wrong ns a x y (Some z) b e w t f = false_right a t b e (λ j. (w f.1 f.4).1 (subst (JumpsRight a) f.3 j).0)

pub if_right : (ns : List Node) (a : Around) (x y : NodeId) (b : Bool) → StmtAnswer ns a y b → FormAnswer ns a (nodes.If x y None) b
if_right ns a x y b w t f = moved a t (If f.0 f.1) b f.2 (w f.1 f.3)

pub walk_on : (ns : List Node) (a : Around) (room : ℕ) (i j x y z : NodeId) (m : Node) (b : Bool) → Has ns j m → m ≡ nodes.If x y (Some z) → b ≡ true → StmtAnswer ns a y b → StmtWalk ns a (suc room) i j → StmtWalk ns a (suc room) i z
walk_on ns a room i j x y z m b has e is w walk =
    let same = AskAlike (JumpsRight a) in
    steps.walk_on ns room i j x y z m same same same (joined (JumpsRight a)) has e (λ c s other h. let right = (w s h).0 is in (λ k. k.1, λ k. (right, k))) walk
