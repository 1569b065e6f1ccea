-- The table of what bodies declare, as far as it has come.
use Rattle.std.specs.Prelude.{◌≡◌, ℕ, zero, suc, ◌+◌, Bool, false, List, [], ◌∷◌, length, Option, Some, None, slice_get, unwrap_or}
use Rattle.std.proofs.Common.{refl, sym, ap, subst, ◌∙◌, inl, inr, arith, length-append}
use Rattle.std.proofs.lemmas.Option.{none-some}
use Rattle.wjs_base.proofs.Lists.{get_pushed}
use Rattle.wjs_base.specs.declared.ids.TextId.{TextId}
use Rattle.wjs_base.specs.declared.ids.NodeId.{NodeId}
use Rattle.wjs_tree.specs.declared.node.Node.{Node}
use Rattle.wjs_tree.specs.declared.node.Node.TheVariants as nodes
use Rattle.wjs_tree.specs.Trees.{Elements, NoElement, Statement, FunctionDecl}
use Rattle.wjs_tree.specs.Shows.{Has}
use Rattle.wjs_tree.specs.Forms.{AreElements}
use Rattle.wjs_scope.specs.declared.declarations.Declarations.{Declarations}
use Rattle.wjs_scope.specs.Declarations.{is_body, formals_of, elements_of, functions_among, variables}
use Rattle.wjs_scope.specs.Bodies.{nothing, node_at, others_in, Declares, DeclaresTo, DeclaresNext, AreDeclared}

-- ---- one row

-- a body's, where its node is known
pub of_body : (ns : List Node) (arguments : Option TextId) (i : NodeId) (node : Node) (d : Declarations) → Has ns i node → ((n : Node) → Has ns i n → d.formals ≡ formals_of n) → ((n : Node) → Has ns i n → d.functions ≡ functions_among ns (elements_of n))
    → ((n : Node) (t : Elements) → Has ns i n → AreElements ns t (elements_of n) → d.variables ≡ variables t)
    → ((n : Node) → Has ns i n → d.others ≡ others_in ns arguments n d.variables) → Declares ns arguments (node_at ns i.0) d
of_body ns arguments i node d has f g v o =
    subst (λ (n : Node). Declares ns arguments n d) (sym (ap (λ (o : Option Node). unwrap_or o nodes.Empty) has))
    (record { formals = f node has; functions = g node has; variables = λ t a. v node t has a; others = o node has })

no_variables : (ns : List Node) (t : Elements) → AreElements ns t [] → [] ≡ variables t
no_variables ns NoElement a = refl
no_variables ns (Statement s rest) a = absurd (let h = a.1.4 in cc)
no_variables ns (FunctionDecl x formals body rest) a = absurd (let h = a.1.5 in cc)

-- that of a node that is no body's
of_none : (ns : List Node) (arguments : Option TextId) (node : Node) → is_body node ≡ false → Declares ns arguments node nothing
of_none ns arguments (nodes.Program list) e = absurd (cc)
of_none ns arguments (nodes.Function name formals list) e = absurd (cc)
of_none ns arguments (nodes.FunctionDecl x formals list) e = absurd (cc)
of_none ns arguments node e = record { formals = refl; functions = refl; variables = λ t a. no_variables ns t a; others = refl }

pub of_other : (ns : List Node) (arguments : Option TextId) (i : NodeId) (node : Node) (b : Bool) (d none : Declarations) → Has ns i node → b ≡ is_body node → b ≡ false → none ≡ nothing → d ≡ none → Declares ns arguments (node_at ns i.0) d
of_other ns arguments i node b d none has e off is same =
    subst (λ (n : Node). Declares ns arguments n d) (sym (ap (λ (o : Option Node). unwrap_or o nodes.Empty) has))
    (subst (λ (z : Declarations). Declares ns arguments node z) (sym (same ∙ is)) (of_none ns arguments node (sym e ∙ off)))

-- ---- the rows

-- one row more
pub next_row : (ns : List Node) (arguments : Option TextId) (i : NodeId) (n : ℕ) (old new : List Declarations) → i.0 ≡ n → DeclaresNext ns arguments i old new → DeclaresTo ns arguments n old → DeclaresTo ns arguments (n + 1) new
next_row ns arguments i n old new same next w =
    let d = next.0 in
    let e = next.2 in
    record {
      long = (let a = ap length e in let b = length-append old (d ∷ []) in let l = w.long in omega arith);
      right = λ k x h. elim (get_pushed old d k x (subst (λ (l : List Declarations). slice_get l k ≡ Some x) e h)) [
        | inl p ↦ w.right k x p
        | inr q ↦ subst (λ (y : Declarations). Declares ns arguments (node_at ns k) y) q.1 (subst (λ (m : ℕ). Declares ns arguments (node_at ns m) d) (sym (q.0 ∙ w.long ∙ sym same)) next.1)
      ];
    }

past : {A B : Type 0} (xs : List A) (ys : List B) (k : ℕ) → length xs ≡ length ys → slice_get xs k ≡ None → slice_get ys k ≡ None
past [] [] k e h = refl
past [] (y ∷ ys) k e h = absurd (omega arith)
past (x ∷ xs) [] k e h = absurd (omega arith)
past (x ∷ xs) (y ∷ ys) zero e h = absurd (none-some x (sym h))
past (x ∷ xs) (y ∷ ys) (suc k) e h = past xs ys k (omega arith) h

-- the rows of all nodes
pub all_rows : (ns : List Node) (arguments : Option TextId) (rows : List Declarations) (none : Declarations) → none ≡ nothing → DeclaresTo ns arguments (length ns) rows → AreDeclared ns arguments (rows, none)
all_rows ns arguments rows none e w = λ k. by k (slice_get rows k) refl
  where
    by : (k : ℕ) (o : Option Declarations) → slice_get rows k ≡ o → Declares ns arguments (node_at ns k) (unwrap_or o none)
    by k (Some d) h = w.right k d h
    by k None h =
        subst (λ (n : Node). Declares ns arguments n none) (sym (ap (λ (o : Option Node). unwrap_or o nodes.Empty) (past rows ns k w.long h)))
        (subst (λ (d : Declarations). Declares ns arguments nodes.Empty d) (sym e) (of_none ns arguments nodes.Empty refl))
