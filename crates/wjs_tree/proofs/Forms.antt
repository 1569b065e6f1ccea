-- A node that stands for a statement has its form, and the body of a loop where it is one.
use Rattle.std.specs.Prelude.{◌≡◌, ℕ, suc, ◌≤◌, is_some, List, ◌∷◌, Some, None}
use Rattle.std.proofs.Common.{refl, sym, subst, ap, ◌∙◌, arith}
use Rattle.wjs_base.specs.declared.ids.TextId.{TextId}
use Rattle.wjs_base.specs.declared.ids.NodeId.{NodeId}
use Rattle.wjs_tree.specs.declared.node.Node.{Node}
use Rattle.wjs_tree.specs.declared.node.Node.TheVariants as nodes
use Rattle.wjs_tree.specs.Trees.{Stmt, Block, Var, Empty, ExprStmt, If, IfElse, DoWhile, While, For, ForIn, ForVarIn, Continue, Break, Return, Throw, Label, Switch, TryCatch, TryFinally, TryBoth, Within}
use Rattle.wjs_tree.specs.Height.{stmt_height}
use Rattle.wjs_tree.specs.Shows.{Has, StmtShows}
use Rattle.wjs_tree.specs.Jumps.{Around, in_loop, is_loop, JumpsRight}
use Rattle.wjs_tree.specs.Forms.{IsPart, HasForm, loop_body}
use Rattle.wjs_tree.specs.There.{StmtThere}

pub form_of : (ns : List Node) (i : NodeId) (n : Node) → Has ns i n → (t : Stmt) (used : List ℕ) → StmtShows ns t i used → HasForm ns n t
form_of ns i n has (Block body) used h = let has_it = h.2 in let same : nodes.Block h.0 ≡ n = cc in subst (λ (m : Node). HasForm ns m (Block body)) same (body, refl, (h.1, h.4))
form_of ns i n has (Var vs end) used h = let has_it = h.2 in let same : nodes.Var h.0 end ≡ n = cc in subst (λ (m : Node). HasForm ns m (Var vs end)) same (vs, refl, (h.1, h.4))
form_of ns i n has Empty used h = let has_it = h.0 in let same : nodes.Empty ≡ n = cc in subst (λ (m : Node). HasForm ns m Empty) same refl
form_of ns i n has (ExprStmt e end) used h = let has_it = h.2 in let same : nodes.Expr h.0 end ≡ n = cc in subst (λ (m : Node). HasForm ns m (ExprStmt e end)) same (e, refl)
form_of ns i n has (If e s) used h = let has_it = h.4 in let same : nodes.If h.0 h.1 None ≡ n = cc in subst (λ (m : Node). HasForm ns m (If e s)) same (e, s, refl, (h.3, h.7))
form_of ns i n has (IfElse e s u) used h = let has_it = h.6 in let same : nodes.If h.0 h.1 (Some h.2) ≡ n = cc in subst (λ (m : Node). HasForm ns m (IfElse e s u)) same (e, s, u, refl, (h.4, h.9), (h.5, h.10))
form_of ns i n has (DoWhile s e end) used h = let has_it = h.4 in let same : nodes.DoWhile h.0 h.1 end ≡ n = cc in subst (λ (m : Node). HasForm ns m (DoWhile s e end)) same (s, e, refl, (h.2, h.6))
form_of ns i n has (While e s) used h = let has_it = h.4 in let same : nodes.While h.0 h.1 ≡ n = cc in subst (λ (m : Node). HasForm ns m (While e s)) same (e, s, refl, (h.3, h.7))
form_of ns i n has (For init test update s) used h = let has_it = h.8 in let same : nodes.For h.0 h.1 h.2 h.3 ≡ n = cc in subst (λ (m : Node). HasForm ns m (For init test update s)) same (init, test, update, s, refl, (h.4, h.10), (h.7, h.13))
form_of ns i n has (ForIn r e s) used h = let has_it = h.6 in let same : nodes.ForIn h.0 h.1 h.2 ≡ n = cc in subst (λ (m : Node). HasForm ns m (ForIn r e s)) same (r, e, s, refl, (h.5, h.10))
form_of ns i n has (ForVarIn x e s) used h = let has_it = h.4 in let same : nodes.ForVarIn x h.0 h.1 ≡ n = cc in subst (λ (m : Node). HasForm ns m (ForVarIn x e s)) same (e, s, refl, (h.3, h.7))
form_of ns i n has (Continue label end) used h = let has_it = h.0 in let same : nodes.Continue label end ≡ n = cc in subst (λ (m : Node). HasForm ns m (Continue label end)) same refl
form_of ns i n has (Break label end) used h = let has_it = h.0 in let same : nodes.Break label end ≡ n = cc in subst (λ (m : Node). HasForm ns m (Break label end)) same refl
form_of ns i n has (Return e end) used h = let has_it = h.2 in let same : nodes.Return h.0 end ≡ n = cc in subst (λ (m : Node). HasForm ns m (Return e end)) same (e, refl)
form_of ns i n has (Throw e end) used h = let has_it = h.2 in let same : nodes.Throw h.0 end ≡ n = cc in subst (λ (m : Node). HasForm ns m (Throw e end)) same (e, refl)
form_of ns i n has (Label x s) used h = let has_it = h.2 in let same : nodes.Label x h.0 ≡ n = cc in subst (λ (m : Node). HasForm ns m (Label x s)) same (s, refl, (h.1, h.4))
form_of ns i n has (Switch e clauses) used h = let has_it = h.4 in let same : nodes.Switch h.0 h.1 ≡ n = cc in subst (λ (m : Node). HasForm ns m (Switch e clauses)) same (e, clauses, refl, (h.3, h.7))
form_of ns i n has (TryCatch b x c) used h = let has_it = h.6 in let same : nodes.Try h.0 (Some (record { name = x; block = h.1 })) None ≡ n = cc in subst (λ (m : Node). HasForm ns m (TryCatch b x c)) same (b, c, refl, (h.0.0 ∷ h.4, (h.2, h.4, h.8, refl, h.9)), (h.1.0 ∷ h.5, (h.3, h.5, h.10, refl, h.11)))
form_of ns i n has (TryFinally b f) used h = let has_it = h.6 in let same : nodes.Try h.0 None (Some h.1) ≡ n = cc in subst (λ (m : Node). HasForm ns m (TryFinally b f)) same (b, f, refl, (h.0.0 ∷ h.4, (h.2, h.4, h.8, refl, h.9)), (h.1.0 ∷ h.5, (h.3, h.5, h.10, refl, h.11)))
form_of ns i n has (TryBoth b x c f) used h = let has_it = h.9 in let same : nodes.Try h.0 (Some (record { name = x; block = h.1 })) (Some h.2) ≡ n = cc in subst (λ (m : Node). HasForm ns m (TryBoth b x c f)) same (b, c, f, refl, (h.0.0 ∷ h.6, (h.3, h.6, h.11, refl, h.12)), (h.1.0 ∷ h.7, (h.4, h.7, h.13, refl, h.14)), (h.2.0 ∷ h.8, (h.5, h.8, h.15, refl, h.16)))
form_of ns i n has (Within e b) used h = let has_it = h.5 in let same : nodes.Within h.0 h.1 ≡ n = cc in subst (λ (m : Node). HasForm ns m (Within e b)) same (e, b, refl, (h.1.0 ∷ h.4, (h.2, h.4, h.8, refl, h.9)))

-- the statement is a loop whose body the node stands for
pub record LoopOf (ns : List Node) (t : Stmt) (i : NodeId) : Type 0 where
  pub body : Stmt
  pub part : IsPart ns body i
  pub lower : suc (stmt_height body) ≤ stmt_height t
  pub into : (a : Around) → JumpsRight a t → JumpsRight (in_loop a) body
  pub back : (a : Around) → JumpsRight (in_loop a) body → JumpsRight a t

-- what a node has by its number it has by its form
same_form : (ns : List Node) (i : NodeId) (m n : Node) → Has ns i m → Has ns i n → loop_body m ≡ loop_body n
same_form ns i m n a b = let same : m ≡ n = cc in ap loop_body same

-- the body that is asked for is the loop's
same_body : (ns : List Node) (t s : Stmt) (i j : NodeId) (us : List ℕ) → Some j ≡ Some i → StmtShows ns s j us → suc (stmt_height s) ≤ stmt_height t
    → ((a : Around) → JumpsRight a t → JumpsRight (in_loop a) s) → ((a : Around) → JumpsRight (in_loop a) s → JumpsRight a t) → LoopOf ns t i
same_body ns t s i j us e shows lower into back =
    let same : j ≡ i = cc in
    record { body = s; part = (us, subst (λ z. StmtShows ns s z us) same shows); lower = lower; into = into; back = back }

pub loop_of : (ns : List Node) (i : NodeId) (n : Node) (y : NodeId) → Has ns i n → loop_body n ≡ Some y → (t : Stmt) (used : List ℕ) → StmtShows ns t i used → LoopOf ns t y
loop_of ns i n y has is (Block body) used h = let none = same_form ns i (nodes.Block h.0) n h.2 has ∙ is in absurd (cc)
loop_of ns i n y has is (Var vs end) used h = let none = same_form ns i (nodes.Var h.0 end) n h.2 has ∙ is in absurd (cc)
loop_of ns i n y has is Empty used h = let none = same_form ns i nodes.Empty n h.0 has ∙ is in absurd (cc)
loop_of ns i n y has is (ExprStmt e end) used h = let none = same_form ns i (nodes.Expr h.0 end) n h.2 has ∙ is in absurd (cc)
loop_of ns i n y has is (If e s) used h = let none = same_form ns i (nodes.If h.0 h.1 None) n h.4 has ∙ is in absurd (cc)
loop_of ns i n y has is (IfElse e s u) used h = let none = same_form ns i (nodes.If h.0 h.1 (Some h.2)) n h.6 has ∙ is in absurd (cc)
loop_of ns i n y has is (DoWhile s e end) used h = same_body ns (DoWhile s e end) s y h.0 h.2 (same_form ns i (nodes.DoWhile h.0 h.1 end) n h.4 has ∙ is) h.6 (omega arith) (λ a j. j) (λ a j. j)
loop_of ns i n y has is (While e s) used h = same_body ns (While e s) s y h.1 h.3 (same_form ns i (nodes.While h.0 h.1) n h.4 has ∙ is) h.7 (omega arith) (λ a j. j) (λ a j. j)
loop_of ns i n y has is (For init test update s) used h = same_body ns (For init test update s) s y h.3 h.7 (same_form ns i (nodes.For h.0 h.1 h.2 h.3) n h.8 has ∙ is) h.13 (omega arith) (λ a j. j) (λ a j. j)
loop_of ns i n y has is (ForIn r e s) used h = same_body ns (ForIn r e s) s y h.2 h.5 (same_form ns i (nodes.ForIn h.0 h.1 h.2) n h.6 has ∙ is) h.10 (omega arith) (λ a j. j) (λ a j. j)
loop_of ns i n y has is (ForVarIn x e s) used h = same_body ns (ForVarIn x e s) s y h.1 h.3 (same_form ns i (nodes.ForVarIn x h.0 h.1) n h.4 has ∙ is) h.7 (omega arith) (λ a j. j) (λ a j. j)
loop_of ns i n y has is (Continue label end) used h = let none = same_form ns i (nodes.Continue label end) n h.0 has ∙ is in absurd (cc)
loop_of ns i n y has is (Break label end) used h = let none = same_form ns i (nodes.Break label end) n h.0 has ∙ is in absurd (cc)
loop_of ns i n y has is (Return e end) used h = let none = same_form ns i (nodes.Return h.0 end) n h.2 has ∙ is in absurd (cc)
loop_of ns i n y has is (Throw e end) used h = let none = same_form ns i (nodes.Throw h.0 end) n h.2 has ∙ is in absurd (cc)
loop_of ns i n y has is (Label x s) used h = let none = same_form ns i (nodes.Label x h.0) n h.2 has ∙ is in absurd (cc)
loop_of ns i n y has is (Switch e clauses) used h = let none = same_form ns i (nodes.Switch h.0 h.1) n h.4 has ∙ is in absurd (cc)
loop_of ns i n y has is (TryCatch b x c) used h = let none = same_form ns i (nodes.Try h.0 (Some (record { name = x; block = h.1 })) None) n h.6 has ∙ is in absurd (cc)
loop_of ns i n y has is (TryFinally b f) used h = let none = same_form ns i (nodes.Try h.0 None (Some h.1)) n h.6 has ∙ is in absurd (cc)
loop_of ns i n y has is (TryBoth b x c f) used h = let none = same_form ns i (nodes.Try h.0 (Some (record { name = x; block = h.1 })) (Some h.2)) n h.9 has ∙ is in absurd (cc)
loop_of ns i n y has is (Within e b) used h = let none = same_form ns i (nodes.Within h.0 h.1) n h.5 has ∙ is in absurd (cc)

-- whether there is such a body tells whether the statement is a loop, unless it is a label's
pub loop_told : (ns : List Node) (i : NodeId) (n : Node) → Has ns i n → ((x : TextId) (y : NodeId) → n ≡ nodes.Label x y → ⊥) → (t : Stmt) (used : List ℕ) → StmtShows ns t i used → is_some (loop_body n) ≡ is_loop t
loop_told ns i n has other (Block body) used h = sym (ap is_some (same_form ns i (nodes.Block h.0) n h.2 has))
loop_told ns i n has other (Var vs end) used h = sym (ap is_some (same_form ns i (nodes.Var h.0 end) n h.2 has))
loop_told ns i n has other Empty used h = sym (ap is_some (same_form ns i nodes.Empty n h.0 has))
loop_told ns i n has other (ExprStmt e end) used h = sym (ap is_some (same_form ns i (nodes.Expr h.0 end) n h.2 has))
loop_told ns i n has other (If e s) used h = sym (ap is_some (same_form ns i (nodes.If h.0 h.1 None) n h.4 has))
loop_told ns i n has other (IfElse e s u) used h = sym (ap is_some (same_form ns i (nodes.If h.0 h.1 (Some h.2)) n h.6 has))
loop_told ns i n has other (DoWhile s e end) used h = sym (ap is_some (same_form ns i (nodes.DoWhile h.0 h.1 end) n h.4 has))
loop_told ns i n has other (While e s) used h = sym (ap is_some (same_form ns i (nodes.While h.0 h.1) n h.4 has))
loop_told ns i n has other (For init test update s) used h = sym (ap is_some (same_form ns i (nodes.For h.0 h.1 h.2 h.3) n h.8 has))
loop_told ns i n has other (ForIn r e s) used h = sym (ap is_some (same_form ns i (nodes.ForIn h.0 h.1 h.2) n h.6 has))
loop_told ns i n has other (ForVarIn x e s) used h = sym (ap is_some (same_form ns i (nodes.ForVarIn x h.0 h.1) n h.4 has))
loop_told ns i n has other (Continue label end) used h = sym (ap is_some (same_form ns i (nodes.Continue label end) n h.0 has))
loop_told ns i n has other (Break label end) used h = sym (ap is_some (same_form ns i (nodes.Break label end) n h.0 has))
loop_told ns i n has other (Return e end) used h = sym (ap is_some (same_form ns i (nodes.Return h.0 end) n h.2 has))
loop_told ns i n has other (Throw e end) used h = sym (ap is_some (same_form ns i (nodes.Throw h.0 end) n h.2 has))
loop_told ns i n has other (Label x s) used h = let there = h.2 in let same : n ≡ nodes.Label x h.0 = cc in absurd (other x h.0 same)
loop_told ns i n has other (Switch e clauses) used h = sym (ap is_some (same_form ns i (nodes.Switch h.0 h.1) n h.4 has))
loop_told ns i n has other (TryCatch b x c) used h = sym (ap is_some (same_form ns i (nodes.Try h.0 (Some (record { name = x; block = h.1 })) None) n h.6 has))
loop_told ns i n has other (TryFinally b f) used h = sym (ap is_some (same_form ns i (nodes.Try h.0 None (Some h.1)) n h.6 has))
loop_told ns i n has other (TryBoth b x c f) used h = sym (ap is_some (same_form ns i (nodes.Try h.0 (Some (record { name = x; block = h.1 })) (Some h.2)) n h.9 has))
loop_told ns i n has other (Within e b) used h = sym (ap is_some (same_form ns i (nodes.Within h.0 h.1) n h.5 has))

-- the body of a loop is lower
pub loop_low : (ns : List Node) (room : ℕ) (i : NodeId) (n : Node) (y : NodeId) → Has ns i n → loop_body n ≡ Some y → StmtThere ns (suc room) i → StmtThere ns room y
loop_low ns room i n y has e there =
    let l = loop_of ns i n y has e there.0 there.1.0 there.1.1 in
    let low = there.2 in let less = l.lower in
    (l.body, l.part, omega arith)
