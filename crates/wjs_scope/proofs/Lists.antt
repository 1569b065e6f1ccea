-- Names that are added along lists of statements, clauses and elements.
use Rattle.std.specs.Prelude.{◌≡◌, ℕ, ◌+◌, ◌<◌, ◌≤◌, List, ◌++◌, length}
use Rattle.std.proofs.Common.{sym, ap, ◌∙◌, get_or}
use Rattle.wjs_base.specs.declared.ids.TextId.{TextId}
use Rattle.wjs_base.specs.declared.ids.NodeId.{NodeId}
use Rattle.wjs_tree.specs.declared.node.Node.{Node}
use Rattle.wjs_tree.specs.declared.node.Clause.{Clause}
use Rattle.wjs_tree.specs.There.{StmtThere, StmtsThere, ElementThere}
use Rattle.wjs_tree.proofs.Lists as along
use Rattle.wjs_scope.specs.Declarations.{names_declared, all_declared, clauses_declared, elements_declared, with_names}
use Rattle.wjs_scope.specs.Answers.{StmtAdds, StmtsAdds, ClausesAdd, ElementsAdd, ElementAdds}
use Rattle.wjs_scope.proofs.Walks.{AddAlike, with_both}

-- of a list of statements, those from k on are left to add to w
abbrev pub StmtsWalk : List Node → ℕ → List NodeId → List TextId → ℕ → List TextId → Type 0
StmtsWalk ns room list v k w = along.StmtsWalk ns room list k (AddAlike all_declared v w)

pub stmts_here : (ns : List Node) (room : ℕ) (list : List NodeId) (v : List TextId) (k : ℕ) (w : List TextId) (d : NodeId) → k < length list → StmtsWalk ns room list v k w → StmtThere ns room (get_or list k d)
stmts_here ns room list v k w d lt walk = along.stmts_here ns room list k (AddAlike all_declared v w) d lt walk

pub stmts_on : (ns : List Node) (room : ℕ) (list : List NodeId) (v : List TextId) (k : ℕ) (w z : List TextId) (d : NodeId) → k < length list → StmtAdds ns (get_or list k d) w z → StmtsWalk ns room list v k w → StmtsWalk ns room list v (k + 1) z
stmts_on ns room list v k w z d lt a walk =
    along.stmts_on ns room list k (AddAlike all_declared v w) (AddAlike all_declared w z) (AddAlike all_declared v z) d lt (λ t u s p q. p ∙ q)
    (λ s rest h. with_both w (names_declared s) (all_declared rest) ∙ ap (λ q. with_names q (all_declared rest)) (sym (a s h))) walk

pub stmts_done : (ns : List Node) (room : ℕ) (list : List NodeId) (v : List TextId) (k : ℕ) (w : List TextId) → length list ≤ k → StmtsWalk ns room list v k w → StmtsAdds ns list v w
stmts_done ns room list v k w le walk t h = sym (along.stmts_done ns room list k (AddAlike all_declared v w) le walk t h)

-- of a list of clauses
abbrev pub ClausesWalk : List Node → ℕ → List Clause → List TextId → ℕ → List TextId → Type 0
ClausesWalk ns room list v k w = along.ClausesWalk ns room list k (AddAlike clauses_declared v w)

pub clauses_here : (ns : List Node) (room : ℕ) (list : List Clause) (v : List TextId) (k : ℕ) (w : List TextId) (d : Clause) → k < length list → ClausesWalk ns room list v k w → StmtsThere ns room (get_or list k d).body
clauses_here ns room list v k w d lt walk = along.clauses_here ns room list k (AddAlike clauses_declared v w) d lt walk

pub clauses_on : (ns : List Node) (room : ℕ) (list : List Clause) (v : List TextId) (k : ℕ) (w z : List TextId) (d : Clause) → k < length list → StmtsAdds ns (get_or list k d).body w z → ClausesWalk ns room list v k w → ClausesWalk ns room list v (k + 1) z
clauses_on ns room list v k w z d lt a walk =
    along.clauses_on ns room list k (AddAlike clauses_declared v w) (AddAlike clauses_declared w z) (AddAlike clauses_declared v z) d lt (λ t u s p q. p ∙ q)
    (λ first rest h. let e : with_names w (all_declared first ++ clauses_declared rest) ≡ with_names z (clauses_declared rest) = with_both w (all_declared first) (clauses_declared rest) ∙ ap (λ q. with_names q (clauses_declared rest)) (sym (a first h)) in (λ _. e, e)) walk

pub clauses_done : (ns : List Node) (room : ℕ) (list : List Clause) (v : List TextId) (k : ℕ) (w : List TextId) → length list ≤ k → ClausesWalk ns room list v k w → ClausesAdd ns list v w
clauses_done ns room list v k w le walk t h = sym (along.clauses_done ns room list k (AddAlike clauses_declared v w) le walk t h)

-- of the elements of a body
abbrev pub ElementsWalk : List Node → ℕ → List NodeId → List TextId → ℕ → List TextId → Type 0
ElementsWalk ns room list v k w = along.ElementsWalk ns room list k (AddAlike elements_declared v w)

pub elements_here : (ns : List Node) (room : ℕ) (list : List NodeId) (v : List TextId) (k : ℕ) (w : List TextId) (d : NodeId) → k < length list → ElementsWalk ns room list v k w → ElementThere ns room (get_or list k d)
elements_here ns room list v k w d lt walk = along.elements_here ns room list k (AddAlike elements_declared v w) d lt walk

pub elements_on : (ns : List Node) (room : ℕ) (list : List NodeId) (v : List TextId) (k : ℕ) (w z : List TextId) (d : NodeId) → k < length list → ElementAdds ns (get_or list k d) w z → ElementsWalk ns room list v k w → ElementsWalk ns room list v (k + 1) z
elements_on ns room list v k w z d lt a walk =
    along.elements_on ns room list k (AddAlike elements_declared v w) (AddAlike elements_declared w z) (AddAlike elements_declared v z) d lt (λ t u s p q. p ∙ q)
    (λ s rest h. with_both w (names_declared s) (elements_declared rest) ∙ ap (λ q. with_names q (elements_declared rest)) (sym (a.statement s h)))
    (λ x formals body inner rest h. ap (λ q. with_names q (elements_declared rest)) (sym (a.function x formals inner h))) walk

pub elements_done : (ns : List Node) (room : ℕ) (list : List NodeId) (v : List TextId) (k : ℕ) (w : List TextId) → length list ≤ k → ElementsWalk ns room list v k w → ElementsAdd ns list v w
elements_done ns room list v k w le walk t h = sym (along.elements_done ns room list k (AddAlike elements_declared v w) le walk t h)
