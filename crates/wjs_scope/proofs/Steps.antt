-- The names that a form declares are those of the statements in it.
use Rattle.std.specs.Prelude.{◌≡◌, ℕ, suc, List, ◌∷◌, ◌++◌, map, option_map, Option, Some, None, Result, Ok, Err, OnOk}
use Rattle.std.proofs.Common.{sym, ap, subst, ◌∙◌}
use Rattle.wjs_base.specs.declared.ids.TextId.{TextId}
use Rattle.wjs_base.specs.declared.ids.NodeId.{NodeId}
use Rattle.wjs_tree.specs.declared.node.Node.{Node}
use Rattle.wjs_tree.specs.declared.node.Node.TheVariants as nodes
use Rattle.wjs_tree.specs.declared.node.Handler.{Handler}
use Rattle.wjs_tree.specs.declared.node.Declarator.{Declarator}
use Rattle.wjs_tree.specs.declared.node.End.{End}
use Rattle.wjs_tree.specs.declared.node.ForInit.{ForInit}
use Rattle.wjs_tree.specs.Trees.{Variables, Init, Stmt, NoVariable, Variable, NoInit, InitExpr, InitVar, Block, Var, If, For, TryCatch, TryFinally, TryBoth, Within}
use Rattle.wjs_tree.specs.Shows.{Has}
use Rattle.wjs_scope.specs.Declarations.{names_declared, all_declared, variable_names, init_names, with_names}
use Rattle.wjs_tree.specs.Forms.{AreVariables, IsInit, HasForm}
use Rattle.wjs_scope.specs.Answers.{StmtAdds, OptionAdds, FormAdds, VariablesAdd, InitAdds}
use Rattle.wjs_tree.proofs.Forms.{form_of}
use Rattle.wjs_tree.proofs.Steps as steps
use Rattle.wjs_scope.proofs.Walks.{AddAlike, with_both}

pub on_ok : {T E : Type 0} (r : Result T E) (P Q : Type 0) → (P → Q) → OnOk r P → OnOk r Q
on_ok (Ok x) P Q f p = f p
on_ok (Err e) P Q f p = tt

pub added_by : (ns : List Node) (i : NodeId) (m n : Node) (v w : List TextId) → Has ns i m → m ≡ n → FormAdds ns n v w → StmtAdds ns i v w
added_by ns i m n v w h e a t p = a t (subst (λ (z : Node). HasForm ns z t) e (form_of ns i m h t p.0 p.1))

moved : (v w : List TextId) (t u : Stmt) → t ≡ u → w ≡ with_names v (names_declared u) → w ≡ with_names v (names_declared t)
moved v w t u e q = q ∙ sym (ap (λ (z : Stmt). with_names v (names_declared z)) e)

-- the names of declarators are those of the variables that they stand for
names_of : (ns : List Node) (t : Variables) (list : List Declarator) → AreVariables ns t list → map (λ (d : Declarator). d.name) list ≡ variable_names t
names_of ns NoVariable list h = ap (map (λ (d : Declarator). d.name)) h.1.0
names_of ns (Variable x e rest) list h = ap (map (λ (d : Declarator). d.name)) h.1.4 ∙ ap (λ z. x ∷ z) (names_of ns rest h.1.1 (h.1.3, h.1.7))

init_adds : (ns : List Node) (t : Init) (init : ForInit) (v w : List TextId) → IsInit ns t init → InitAdds init v w → w ≡ with_names v (init_names t)
init_adds ns NoInit init v w h a = subst (λ (z : ForInit). InitAdds z v w) h.1.0 a
init_adds ns (InitExpr e) init v w h a = subst (λ (z : ForInit). InitAdds z v w) h.1.1 a
init_adds ns (InitVar vs) init v w h a = let q : VariablesAdd h.1.0 v w = subst (λ (z : ForInit). InitAdds z v w) h.1.1 a in q ∙ ap (with_names v) (names_of ns vs h.1.0 (h.0, h.1.2))

pub var_adds : (ns : List Node) (list : List Declarator) (end : End) (v w : List TextId) → VariablesAdd list v w → FormAdds ns (nodes.Var list end) v w
var_adds ns list end v w a t f = moved v w t (Var f.0 end) f.1 (a ∙ ap (with_names v) (names_of ns f.0 list f.2))

pub for_adds : (ns : List Node) (init : ForInit) (o p : Option NodeId) (x : NodeId) (v w z : List TextId) → InitAdds init v w → StmtAdds ns x w z → FormAdds ns (nodes.For init o p x) v z
for_adds ns init o p x v w z b a t f =
    moved v z t (For f.0 f.1 f.2 f.3) f.4
    (a f.3 f.6 ∙ ap (λ q. with_names q (names_declared f.3)) (init_adds ns f.0 init v w f.5 b) ∙ sym (with_both v (init_names f.0) (names_declared f.3)))

pub world_adds : (ns : List Node) (x y : NodeId) (v w : List TextId) → StmtAdds ns y v w → FormAdds ns (nodes.Within x y) v w
world_adds ns x y v w a t f = moved v w t (Within f.0 f.1) f.2 (a (Block f.1) f.3)

pub try_adds : (ns : List Node) (p : NodeId) (h : Option Handler) (o : Option NodeId) (v u w z : List TextId) → StmtAdds ns p v u → OptionAdds ns (option_map (λ (x : Handler). x.block) h) u w → OptionAdds ns o w z → FormAdds ns (nodes.Try p h o) v z
try_adds ns p None None v u w z a b c t f = absurd f
try_adds ns p (Some h) None v u w z a b c t f =
    moved v z t (TryCatch f.0 h.name f.1) f.2 (c ∙ b (Block f.1) f.4 ∙ ap (λ q. with_names q (all_declared f.1)) (a (Block f.0) f.3) ∙ sym (with_both v (all_declared f.0) (all_declared f.1)))
try_adds ns p None (Some o) v u w z a b c t f =
    moved v z t (TryFinally f.0 f.1) f.2 (c (Block f.1) f.4 ∙ ap (λ q. with_names q (all_declared f.1)) (b ∙ a (Block f.0) f.3) ∙ sym (with_both v (all_declared f.0) (all_declared f.1)))
try_adds ns p (Some h) (Some o) v u w z a b c t f =
    moved v z t (TryBoth f.0 h.name f.1 f.2) f.3
    (c (Block f.2) f.6 ∙ ap (λ q. with_names q (all_declared f.2)) (b (Block f.1) f.5 ∙ ap (λ q. with_names q (all_declared f.1)) (a (Block f.0) f.4))
    ∙ sym (with_both (with_names v (all_declared f.0)) (all_declared f.1) (all_declared f.2)) ∙ sym (with_both v (all_declared f.0) (all_declared f.1 ++ all_declared f.2)))

-- a walk along a chain of `else`
abbrev pub StmtWalk : List Node → ℕ → NodeId → List TextId → NodeId → List TextId → Type 0
StmtWalk ns room i v j w = steps.StmtWalk ns room i j (AddAlike names_declared v w)

pub walk_end : (ns : List Node) (room : ℕ) (i j : NodeId) (v w z : List TextId) → StmtWalk ns room i v j w → StmtAdds ns j w z → StmtAdds ns i v z
walk_end ns room i j v w z walk a t h = let u = walk.same.each t h in a u.0 u.1 ∙ sym u.2

pub if_adds : (ns : List Node) (x y : NodeId) (v w : List TextId) → StmtAdds ns y v w → FormAdds ns (nodes.If x y None) v w
if_adds ns x y v w a t f = moved v w t (If f.0 f.1) f.2 (a f.1 f.3)

pub walk_on : (ns : List Node) (room : ℕ) (i j x y z : NodeId) (m : Node) (v w u : List TextId) → Has ns j m → m ≡ nodes.If x y (Some z) → StmtAdds ns y w u → StmtWalk ns (suc room) i v j w → StmtWalk ns (suc room) i v z u
walk_on ns room i j x y z m v w u has e a walk =
    steps.walk_on ns room i j x y z m (AddAlike names_declared v w) (AddAlike names_declared w u) (AddAlike names_declared v u) (λ t s r p q. p ∙ q) has e
    (λ c s other h. with_both w (names_declared s) (names_declared other) ∙ ap (λ q. with_names q (names_declared other)) (sym (a s h))) walk
