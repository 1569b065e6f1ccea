-- The functions among the elements of a body.
use Rattle.std.specs.Prelude.{◌≡◌, ℕ, ◌+◌, ◌<◌, Bool, true, false, List, [], ◌∷◌, ◌++◌, length, drop, slice_get, Result, Ok, Err, IfOk}
use Rattle.std.proofs.Common.{sym, ap, subst, ◌∙◌, inl, inr, get_or, append_assoc}
use Rattle.std.proofs.lemmas.Option.{slice_get_within}
use Rattle.wjs_base.specs.declared.ids.TextId.{TextId}
use Rattle.wjs_base.specs.declared.ids.NodeId.{NodeId}
use Rattle.wjs_tree.specs.declared.node.Node.{Node}
use Rattle.wjs_tree.specs.Trees.{Elements}
use Rattle.wjs_scope.specs.Declarations.{elements_declared, with_names}
use Rattle.wjs_tree.specs.Forms.{AreElements}
use Rattle.wjs_tree.specs.There.{ElementsThere, ElementThere}
use Rattle.wjs_scope.specs.Answers.{ElementsAdd}
use Rattle.wjs_scope.specs.Declarations.{is_declaration, functions_among, variables}
use Rattle.wjs_tree.proofs.Lists.{behind, elements_first}
use Rattle.wjs_tree.proofs.Steps.{within}

pub element_within : (ns : List Node) (room : ℕ) (i : NodeId) → ElementThere ns room i → i.0 < length ns
element_within ns room i h = elim h [ inl f ↦ within ns i f.0 f.1 | inr f ↦ slice_get_within ns i.0 _ f.3 ]

pub record FunctionsWalk (ns : List Node) (list : List NodeId) (k : ℕ) (found : List NodeId) : Type 0 where
  pub there : ElementsThere ns 200 (drop k list)
  pub same : found ++ functions_among ns (drop k list) ≡ functions_among ns list

pub here : (ns : List Node) (list : List NodeId) (k : ℕ) (found : List NodeId) (d : NodeId) → k < length list → FunctionsWalk ns list k found → (get_or list k d).0 < length ns
here ns list k found d lt w = element_within ns 200 (get_or list k d) (elements_first ns 200 (get_or list k d) (drop (k + 1) list) (subst (ElementsThere ns 200) (behind list k d lt) w.there)).0

declares : (ns : List Node) (i : NodeId) (more : List NodeId) (b : Bool) → is_declaration (slice_get ns i.0) ≡ b → b ≡ true → functions_among ns (i ∷ more) ≡ i ∷ functions_among ns more
declares ns i more b e t = let both : is_declaration (slice_get ns i.0) ≡ true = cc in rw both

skips : (ns : List Node) (i : NodeId) (more : List NodeId) (b : Bool) → is_declaration (slice_get ns i.0) ≡ b → b ≡ false → functions_among ns (i ∷ more) ≡ functions_among ns more
skips ns i more b e t = let both : is_declaration (slice_get ns i.0) ≡ false = cc in rw both

pub with_one : (ns : List Node) (list : List NodeId) (k : ℕ) (found next : List NodeId) (d : NodeId) (b : Bool) → k < length list → b ≡ is_declaration (slice_get ns (get_or list k d).0) → b ≡ true → next ≡ found ++ get_or list k d ∷ [] → FunctionsWalk ns list k found → FunctionsWalk ns list (k + 1) next
with_one ns list k found next d b lt e t n w =
    let same = behind list k d lt in
    let f = ap (λ z. found ++ z) (ap (functions_among ns) same ∙ declares ns (get_or list k d) (drop (k + 1) list) b (sym e) t) in
    record {
      there = (elements_first ns 200 (get_or list k d) (drop (k + 1) list) (subst (ElementsThere ns 200) same w.there)).1;
      same = ap (λ z. z ++ functions_among ns (drop (k + 1) list)) n ∙ append_assoc found (get_or list k d ∷ []) (functions_among ns (drop (k + 1) list)) ∙ sym f ∙ w.same;
    }

pub without : (ns : List Node) (list : List NodeId) (k : ℕ) (found next : List NodeId) (d : NodeId) (b : Bool) → k < length list → b ≡ is_declaration (slice_get ns (get_or list k d).0) → b ≡ false → next ≡ found → FunctionsWalk ns list k found → FunctionsWalk ns list (k + 1) next
without ns list k found next d b lt e t n w =
    let same = behind list k d lt in
    let f = ap (λ z. found ++ z) (ap (functions_among ns) same ∙ skips ns (get_or list k d) (drop (k + 1) list) b (sym e) t) in
    record {
      there = (elements_first ns 200 (get_or list k d) (drop (k + 1) list) (subst (ElementsThere ns 200) same w.there)).1;
      same = ap (λ z. z ++ functions_among ns (drop (k + 1) list)) n ∙ sym f ∙ w.same;
    }

-- the variables of a body are the names that its elements add to none
pub variables_found : {E : Type 0} (ns : List Node) (list : List NodeId) (v w : List TextId) (r : Result (List TextId) E) → v ≡ [] → ElementsAdd ns list v w → IfOk r (λ (z : List TextId). z ≡ w)
    → IfOk r (λ (z : List TextId). (t : Elements) → AreElements ns t list → z ≡ variables t)
variables_found ns list v w (Ok z) none a e = λ t h. e ∙ a t h ∙ ap (λ q. with_names q (elements_declared t)) none
variables_found ns list v w (Err x) none a e = tt
