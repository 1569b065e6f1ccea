-- What is asked along lists of statements, clauses and elements.
use Rattle.std.specs.Prelude.{◌≡◌, ℕ, ◌+◌, ◌<◌, ◌≤◌, ◌⊎◌, ◌↔◌, Bool, true, false, not, is_some, cond, IsTrue, List, ◌∷◌, length, count_by, None}
use Rattle.std.proofs.Common.{refl, sym, ap, subst, ◌∙◌, inl, inr, arith, get_or}
use Rattle.std.proofs.lemmas.List.Sums.{sum_by-cons}
use Rattle.wjs_base.specs.declared.ids.NodeId.{NodeId}
use Rattle.wjs_tree.specs.declared.node.Node.{Node}
use Rattle.wjs_tree.specs.declared.node.Clause.{Clause}
use Rattle.wjs_tree.specs.Trees.{Expr, Stmts, Clauses, NoClause, Case, Default}
use Rattle.wjs_tree.specs.Jumps.{Around, default_count, AllJumpRight, ClausesJumpRight, ElementsJumpRight}
use Rattle.wjs_tree.specs.Forms.{AreClauses}
use Rattle.wjs_tree.specs.There.{StmtThere, StmtsThere, ElementThere}
use Rattle.wjs_tree.proofs.Lists as along
use Rattle.wjs_labels.specs.Answers.{StmtAnswer, StmtsAnswer, ElementAnswer, ElementsAnswer}
use Rattle.wjs_labels.proofs.Walks.{AskAlike, alike, joined}

-- of a list of statements, those from k on are left to ask
abbrev pub StmtsWalk : List Node → Around → ℕ → List NodeId → ℕ → Type 0
StmtsWalk ns a room list k = along.StmtsWalk ns room list k (AskAlike (AllJumpRight a))

pub stmts_here : (ns : List Node) (a : Around) (room : ℕ) (list : List NodeId) (k : ℕ) (d : NodeId) → k < length list → StmtsWalk ns a room list k → StmtThere ns room (get_or list k d)
stmts_here ns a room list k d lt w = along.stmts_here ns room list k (AskAlike (AllJumpRight a)) d lt w

pub stmts_on : (ns : List Node) (a : Around) (room : ℕ) (list : List NodeId) (k : ℕ) (d : NodeId) (b : Bool) → k < length list → b ≡ true → StmtAnswer ns a (get_or list k d) b → StmtsWalk ns a room list k → StmtsWalk ns a room list (k + 1)
stmts_on ns a room list k d b lt e w walk =
    let same = AskAlike (AllJumpRight a) in
    along.stmts_on ns room list k same same same d lt (joined (AllJumpRight a)) (λ s rest h. let right = (w s h).0 e in (λ j. j.1, λ j. (right, j))) walk

pub stmts_wrong : (ns : List Node) (a : Around) (room : ℕ) (list : List NodeId) (k : ℕ) (d : NodeId) (b : Bool) → k < length list → b ≡ false → StmtAnswer ns a (get_or list k d) b → StmtsWalk ns a room list k → StmtsAnswer ns a list false
stmts_wrong ns a room list k d b lt e w walk t h =
    let u = walk.same.each t h in
    let s = along.stmts_next ns list k d lt u.0 u.1 in
    (λ wrong. absurd (cc), λ j. sym e ∙ (w s.first s.part).1 (subst (AllJumpRight a) s.is (u.2.0 j)).0)

pub stmts_done : (ns : List Node) (a : Around) (room : ℕ) (list : List NodeId) (k : ℕ) → length list ≤ k → StmtsWalk ns a room list k → StmtsAnswer ns a list true
stmts_done ns a room list k le walk t h = let r = along.stmts_done ns room list k (AskAlike (AllJumpRight a)) le walk t h in (λ e. r.1 tt, λ j. refl)

-- whether all clauses jump right
abbrev pub ClausesAnswer : List Node → Around → List Clause → Bool → Type 0
ClausesAnswer ns a list b = (t : Clauses) → AreClauses ns t list → IsTrue b ↔ ClausesJumpRight a t

-- of a list of clauses
abbrev pub ClausesWalk : List Node → Around → ℕ → List Clause → ℕ → Type 0
ClausesWalk ns a room list k = along.ClausesWalk ns room list k (AskAlike (ClausesJumpRight a))

pub clauses_here : (ns : List Node) (a : Around) (room : ℕ) (list : List Clause) (k : ℕ) (d : Clause) → k < length list → ClausesWalk ns a room list k → StmtsThere ns room (get_or list k d).body
clauses_here ns a room list k d lt w = along.clauses_here ns room list k (AskAlike (ClausesJumpRight a)) d lt w

pub clauses_on : (ns : List Node) (a : Around) (room : ℕ) (list : List Clause) (k : ℕ) (d : Clause) (b : Bool) → k < length list → b ≡ true → StmtsAnswer ns a (get_or list k d).body b → ClausesWalk ns a room list k → ClausesWalk ns a room list (k + 1)
clauses_on ns a room list k d b lt e w walk =
    let same = AskAlike (ClausesJumpRight a) in
    along.clauses_on ns room list k same same same d lt (joined (ClausesJumpRight a)) (λ first rest h. let right = (w first h).0 e in let both : (AllJumpRight a first × ClausesJumpRight a rest) ↔ ClausesJumpRight a rest = (λ j. j.1, λ j. (right, j)) in (λ _. both, both)) walk

-- what is asked of clauses is asked of the first
first_right : (a : Around) (t : Clauses) (first : Stmts) (rest : Clauses) → ((e : Expr) × (t ≡ Case e first rest)) ⊎ (t ≡ Default first rest) → ClausesJumpRight a t → AllJumpRight a first
first_right a t first rest (inl c) j = (subst (ClausesJumpRight a) c.1 j).0
first_right a t first rest (inr c) j = (subst (ClausesJumpRight a) c j).0

pub clauses_wrong : (ns : List Node) (a : Around) (room : ℕ) (list : List Clause) (k : ℕ) (d : Clause) (b : Bool) → k < length list → b ≡ false → StmtsAnswer ns a (get_or list k d).body b → ClausesWalk ns a room list k → ClausesAnswer ns a list false
clauses_wrong ns a room list k d b lt e w walk t h =
    let u = walk.same.each t h in
    let s = along.clauses_next ns list k d lt u.0 u.1 in
    (λ wrong. absurd (cc), λ j. sym e ∙ (w s.first s.parts).1 (first_right a u.0 s.first s.rest s.is (u.2.0 j)))

pub clauses_done : (ns : List Node) (a : Around) (room : ℕ) (list : List Clause) (k : ℕ) → length list ≤ k → ClausesWalk ns a room list k → ClausesAnswer ns a list true
clauses_done ns a room list k le walk t h = let r = along.clauses_done ns room list k (AskAlike (ClausesJumpRight a)) le walk t h in (λ e. r.1 tt, λ j. refl)

-- as many defaults as clauses without an expression
pub defaults : (ns : List Node) (t : Clauses) (list : List Clause) → AreClauses ns t list → default_count t ≡ count_by (λ (c : Clause). not (is_some c.test)) list
defaults ns NoClause list h = ap (count_by (λ (c : Clause). not (is_some c.test))) (sym h.1.0)
defaults ns (Case e body rest) list h =
    let r = defaults ns rest h.1.2 (h.1.5, h.1.10) in
    let q = ap (count_by (λ (c : Clause). not (is_some c.test))) h.1.6 in
    omega arith
defaults ns (Default body rest) list h =
    let r = defaults ns rest h.1.1 (h.1.3, h.1.7) in
    let q = ap (count_by (λ (c : Clause). not (is_some c.test))) h.1.4 in
    let one : count_by (λ (c : Clause). not (is_some c.test)) (record { test = None; body = h.1.0 } ∷ h.1.1) ≡ 1 + count_by (λ (c : Clause). not (is_some c.test)) h.1.1
    = sum_by-cons (λ (c : Clause). cond (not (is_some c.test)) 1 0) (record { test = None; body = h.1.0 }) h.1.1 in
    omega arith

-- of the elements of a body
abbrev pub ElementsWalk : List Node → Around → ℕ → List NodeId → ℕ → Type 0
ElementsWalk ns a room list k = along.ElementsWalk ns room list k (AskAlike (ElementsJumpRight a))

pub elements_here : (ns : List Node) (a : Around) (room : ℕ) (list : List NodeId) (k : ℕ) (d : NodeId) → k < length list → ElementsWalk ns a room list k → ElementThere ns room (get_or list k d)
elements_here ns a room list k d lt w = along.elements_here ns room list k (AskAlike (ElementsJumpRight a)) d lt w

pub elements_on : (ns : List Node) (a : Around) (room : ℕ) (list : List NodeId) (k : ℕ) (d : NodeId) (b : Bool) → k < length list → b ≡ true → ElementAnswer ns a (get_or list k d) b → ElementsWalk ns a room list k → ElementsWalk ns a room list (k + 1)
elements_on ns a room list k d b lt e w walk =
    let same = AskAlike (ElementsJumpRight a) in
    along.elements_on ns room list k same same same d lt (joined (ElementsJumpRight a)) (λ s rest h. let right = (w.statement s h).0 e in (λ j. j.1, λ j. (right, j))) (λ x formals body inner rest h. alike (ElementsJumpRight a) rest) walk

pub elements_wrong : (ns : List Node) (a : Around) (room : ℕ) (list : List NodeId) (k : ℕ) (d : NodeId) (b : Bool) → k < length list → b ≡ false → ElementAnswer ns a (get_or list k d) b → ElementsWalk ns a room list k → ElementsAnswer ns a list false
elements_wrong ns a room list k d b lt e w walk t h =
    let u = walk.same.each t h in
    let s = along.elements_next ns list k d lt u.0 u.1 in
    elim s.cases [
      | inl f ↦ (λ wrong. absurd (cc), λ j. sym e ∙ (w.statement f.0 f.1).1 (subst (ElementsJumpRight a) f.2 (u.2.0 j)).0)
      | inr f ↦ (let yes = w.function f.0 f.1 f.3 f.4 in absurd (cc))
    ]

pub elements_done : (ns : List Node) (a : Around) (room : ℕ) (list : List NodeId) (k : ℕ) → length list ≤ k → ElementsWalk ns a room list k → ElementsAnswer ns a list true
elements_done ns a room list k le walk t h = let r = along.elements_done ns room list k (AskAlike (ElementsJumpRight a)) le walk t h in (λ e. r.1 tt, λ j. refl)
