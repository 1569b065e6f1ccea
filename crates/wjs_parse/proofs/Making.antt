-- Elements and functions made of nodes of their own.
use Rattle.std.proofs.Common.{◌≡◌, ℕ, ◌<◌, ◌≤◌, ◌⊎◌, inr, List, [], ◌∷◌, ◌++◌, length, Option, Some, refl, sym, ap, ◌∙◌, subst, arith, append_assoc}
use Rattle.wjs_base.specs.declared.ids.TextId.{TextId}
use Rattle.wjs_base.specs.declared.ids.NodeId.{NodeId}
use Rattle.wjs_tree.specs.declared.tokens.Tok.{Tok}
use Rattle.wjs_tree.specs.declared.node.Node.{Node}
use Rattle.wjs_tree.specs.declared.node.Node.TheVariants as nodes
use Rattle.wjs_tree.specs.Trees.{Elements, NoElement, Statement, FunctionDecl, Function}
use Rattle.wjs_tree.specs.Shows.{Has, ElementsShow}
use Rattle.wjs_tree.proofs.Kept.{elements_kept, keeps_self}
use Rattle.wjs_parse_expr.specs.declared.functions.Functions.{Functions}
use Rattle.wjs_tree.specs.Used.{IsUsed, IsOnce}
use Rattle.wjs_parse_expr.specs.Table.{entry_at, Holds, IsOfEntry}
use Rattle.wjs_parse_expr.proofs.Owning.{own_entry}
use Rattle.wjs_parse_simple.specs.Made.{Span, ExprMade, StmtMade}
use Rattle.wjs_parse_simple.proofs.Spans.{Added, span_none, span_wide, span_both, span_top}
use Rattle.wjs_parse.specs.Readings.{Element, Plain, Declared, before, ElementShows}
use Rattle.wjs_parse.specs.Made.{ElementMade, ElementsMade}
use Rattle.wjs_parse.proofs.Items.{before_show}
use Rattle.wjs_parse.proofs.Declarations.{shown}

-- ---- elements one behind another

pub plain_made : (functions : Functions) (old new : List Node) (i n : ℕ) (node : NodeId) → StmtMade functions old new i node n → ElementMade functions old new i node n
plain_made functions old new i n node f = record { tree = Plain f.tree; used = f.used; shows = f.shows; span = f.span }

pub elements_same : (functions : Functions) (n0 n1 : List Node) (i n n' : ℕ) (list list' : List NodeId) → ElementsMade functions n0 n1 i list n → list' ≡ list → n' ≡ n → ElementsMade functions n0 n1 i list' n'
elements_same functions n0 n1 i n n' list list' f e e' = subst (λ (z : List NodeId). ElementsMade functions n0 n1 i z n') (sym e) (subst (λ (z : ℕ). ElementsMade functions n0 n1 i list z) (sym e') f)

pub elements_wide : (functions : Functions) (old new : List Node) (i i' j j' : ℕ) (list : List NodeId) → i' ≤ i → j ≤ j' → ElementsMade functions old new i list j → ElementsMade functions old new i' list j'
elements_wide functions old new i i' j j' list le le' f = record { trees = f.trees; used = f.used; shows = f.shows; span = span_wide functions old new i i' j j' f.used le le' f.span }

pub elements_none : (functions : Functions) (ns : List Node) (i : ℕ) (list : List NodeId) → list ≡ [] → ElementsMade functions ns ns i list i
elements_none functions ns i list e = record { trees = NoElement; used = []; shows = (e, refl); span = span_none functions ns i }

abbrev snoc : Elements → Element → Elements
snoc NoElement e = before e NoElement
snoc (Statement s rest) e = Statement s (snoc rest e)
snoc (FunctionDecl x formals body rest) e = FunctionDecl x formals body (snoc rest e)

nil : {A : Type 0} (xs : List A) → xs ++ [] ≡ xs
nil [] = refl
nil (x ∷ xs) = ap (λ z. x ∷ z) (nil xs)

snoc_shows : (ns : List Node) (es : Elements) (list : List NodeId) (us : List ℕ) (e : Element) (a : NodeId) (vs : List ℕ) → ElementsShow ns es list us → ElementShows ns e a vs → ElementsShow ns (snoc es e) (list ++ a ∷ []) (us ++ vs)
snoc_shows ns NoElement list us e a vs h g =
    subst (λ (z : List NodeId). ElementsShow ns (before e NoElement) (z ++ a ∷ []) (us ++ vs)) (sym h.0)
    (subst (λ (z : List ℕ). ElementsShow ns (before e NoElement) (a ∷ []) z) (nil vs ∙ ap (λ z. z ++ vs) (sym h.1)) (before_show ns e a vs g NoElement [] [] (refl, refl)))
snoc_shows ns (Statement s rest) list us e a vs h g =
    (h.0, h.1 ++ a ∷ [], h.2, h.3 ++ vs, ap (λ z. z ++ a ∷ []) h.4, ap (λ z. z ++ vs) h.5 ∙ append_assoc h.2 h.3 vs, h.6, snoc_shows ns rest h.1 h.3 e a vs h.7 g)
snoc_shows ns (FunctionDecl x formals body rest) list us e a vs h g =
    (h.0, h.1, h.2 ++ a ∷ [], h.3, h.4 ++ vs, ap (λ z. z ++ a ∷ []) h.5, ap (λ z. z ++ vs) h.6 ∙ append_assoc (h.0.0 ∷ h.3) h.4 vs, h.7, h.8, snoc_shows ns rest h.2 h.4 e a vs h.9 g)

pub elements_more : (toks : List Tok) (functions : Functions) (place room : ℕ) (n0 : List Node) → Holds toks functions place room n0 → (n1 n2 : List Node) (i j n : ℕ) (list list' : List NodeId) (a : NodeId)
    → ElementsMade functions n0 n1 i list j → ElementMade functions n1 n2 j a n → list' ≡ list ++ a ∷ [] → ElementsMade functions n0 n2 i list' n
elements_more toks functions place room n0 h n1 n2 i j n list list' a f g e = record {
  trees = snoc f.trees g.tree;
  used = f.used ++ g.used;
  shows = subst (λ (z : List NodeId). ElementsShow n2 (snoc f.trees g.tree) z (f.used ++ g.used)) (sym e) (snoc_shows n2 f.trees list f.used g.tree a g.used (elements_kept n1 n2 g.span.keeps f.trees list f.used f.shows) g.shows);
  span = span_both toks functions place room n0 h n1 n2 i j j n f.used g.used f.span (omega arith) g.span;
}

-- ---- functions

pub function_made : (toks : List Tok) (functions : Functions) (place room : ℕ) (n0 : List Node) → Holds toks functions place room n0 → (n1 n2 : List Node) (i j k n : ℕ) (name : Option TextId) (formals : List TextId) (list : List NodeId) (node : NodeId)
    → i ≤ j → k ≤ n → ElementsMade functions n0 n1 j list k → Added n1 n2 node (nodes.Function name formals list) → ExprMade functions n0 n2 i node n
function_made toks functions place room n0 h n1 n2 i j k n name formals list node ij kn f d = record {
  tree = Function name formals f.trees;
  used = node.0 ∷ f.used;
  shows = (list, f.used, d.has, refl, elements_kept n1 n2 d.keeps f.trees list f.used f.shows);
  span = span_top toks functions place room n0 h n1 n2 i j k n node _ f.used ij f.span kn d;
}

-- a function that was read before, as an element with its name: but for one new node it is made of the function's nodes
pub declaration_made : (toks : List Tok) (functions : Functions) (i room : ℕ) (n0 : List Node) (h : Holds toks functions i room n0) (node : NodeId) (n : ℕ) → entry_at functions i ≡ Some (node, n) → i ≤ n
    → (made : Node) → ((x : TextId) × (formals : List TextId) × (list : List NodeId) × Has n0 node (nodes.Function (Some x) formals list) × (made ≡ nodes.FunctionDecl x formals list))
    → (n1 : List Node) (id : NodeId) → Added n0 n1 id made → ElementMade functions n0 n1 i id n
declaration_made toks functions i room n0 h node n e le made d n1 id a =
    let f = h.entries i node n e in
    let s = shown n0 f.tree node f.used f.reading.is f.shows d.0 d.1 d.2 d.3 in
    let w = own_entry functions n0 i node n f.tree f.used e f.shows f.once in
    let q : f.used ≡ node.0 ∷ s.1 = s.4 in
    record {
      tree = Declared d.0 d.1 s.0;
      used = id.0 ∷ s.1;
      shows = (d.2, s.1, subst (λ (z : Node). Has n1 id z) d.4 a.has, refl, elements_kept n0 n1 a.keeps s.0 d.2 s.1 s.3);
      span = span_top toks functions i room n0 h n0 n1 i i n n id made s.1 (omega arith) (rest f.used s.1 q w.once w.each) (omega arith) a;
    }
  where
    rest : (used us : List ℕ) → used ≡ node.0 ∷ us → IsOnce used → ((k : ℕ) → IsUsed used k → ((length n0 ≤ k) × (k < length n0)) ⊎ IsOfEntry functions n0 i n k) → Span functions n0 n0 i n us
    rest used us q once each =
        let o : IsOnce (node.0 ∷ us) = subst (λ (z : List ℕ). IsOnce z) q once in
        record {
          own = record { once = o.1; each = λ k u. each k (subst (λ (z : List ℕ). IsUsed z k) (sym q) (inr u)) };
          keeps = keeps_self n0;
          forward = le;
        }
