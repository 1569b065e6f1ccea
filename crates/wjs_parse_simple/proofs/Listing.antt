-- Lists of statements, variables and clauses made of nodes of their own, which loops make longer.
use Rattle.std.proofs.Common.{◌≡◌, ℕ, ◌≤◌, List, [], ◌∷◌, ◌++◌, refl, sym, ap, ◌∙◌, subst, append_assoc}
use Rattle.wjs_tree.specs.declared.tokens.Tok.{Tok}
use Rattle.wjs_tree.specs.declared.node.Node.{Node}
use Rattle.wjs_tree.specs.declared.node.Declarator.{Declarator}
use Rattle.wjs_tree.specs.Trees.{Optional, Variables, NoVariable, Variable}
use Rattle.wjs_tree.specs.Shows.{OptionalShows, VariablesShow}
use Rattle.wjs_tree.proofs.Kept.{variables_kept}
use Rattle.wjs_base.specs.declared.ids.TextId.{TextId}
use Rattle.wjs_parse_expr.specs.declared.functions.Functions.{Functions}
use Rattle.wjs_parse_expr.specs.Table.{Holds}
use Rattle.wjs_parse_simple.specs.Made.{OptionalMade, VariablesMade}
use Rattle.wjs_parse_simple.proofs.Spans.{span_none, span_both}

nil : {A : Type 0} (xs : List A) → xs ++ [] ≡ xs
nil [] = refl
nil (x ∷ xs) = ap (λ z. x ∷ z) (nil xs)

-- ---- variables

abbrev put : Variables → TextId → Optional → Variables
put NoVariable x e = Variable x e NoVariable
put (Variable y f rest) x e = Variable y f (put rest x e)

put_shows : (ns : List Node) (ss : Variables) (list : List Declarator) (us : List ℕ) (e : Optional) (d : Declarator) (vs : List ℕ) → VariablesShow ns ss list us → OptionalShows ns e d.value vs → VariablesShow ns (put ss d.name e) (list ++ d ∷ []) (us ++ vs)
put_shows ns NoVariable list us e d vs h g = (d.value, [], vs, [], ap (λ z. z ++ d ∷ []) h.0, ap (λ z. z ++ vs) h.1 ∙ sym (nil vs), g, (refl, refl))
put_shows ns (Variable y f rest) list us e d vs h g =
    (h.0, h.1 ++ d ∷ [], h.2, h.3 ++ vs, ap (λ z. z ++ d ∷ []) h.4, ap (λ z. z ++ vs) h.5 ∙ append_assoc h.2 h.3 vs, h.6, put_shows ns rest h.1 h.3 e d vs h.7 g)

pub variables_none : (functions : Functions) (ns : List Node) (i : ℕ) (list : List Declarator) → list ≡ [] → VariablesMade functions ns ns i list i
variables_none functions ns i list e = record { trees = NoVariable; used = []; shows = (e, refl); span = span_none functions ns i }

pub variables_more : (toks : List Tok) (functions : Functions) (place room : ℕ) (n0 : List Node) → Holds toks functions place room n0 → (n1 n2 : List Node) (i j k n : ℕ) (list list' : List Declarator) (d : Declarator)
    → VariablesMade functions n0 n1 i list j → j ≤ k → OptionalMade functions n1 n2 k d.value n → list' ≡ list ++ d ∷ [] → VariablesMade functions n0 n2 i list' n
variables_more toks functions place room n0 h n1 n2 i j k n list list' d f jk g e = record {
  trees = put f.trees d.name g.tree;
  used = f.used ++ g.used;
  shows = subst (λ (z : List Declarator). VariablesShow n2 (put f.trees d.name g.tree) z (f.used ++ g.used)) (sym e) (put_shows n2 f.trees list f.used g.tree d g.used (variables_kept n1 n2 g.span.keeps f.trees list f.used f.shows) g.shows);
  span = span_both toks functions place room n0 h n1 n2 i j k n f.used g.used f.span jk g.span;
}

pub variables_same : (functions : Functions) (n0 n1 : List Node) (i n n' : ℕ) (list list' : List Declarator) → VariablesMade functions n0 n1 i list n → list' ≡ list → n' ≡ n → VariablesMade functions n0 n1 i list' n'
variables_same functions n0 n1 i n n' list list' f e e' = subst (λ (z : List Declarator). VariablesMade functions n0 n1 i z n') (sym e) (subst (λ (z : ℕ). VariablesMade functions n0 n1 i list z) (sym e') f)
