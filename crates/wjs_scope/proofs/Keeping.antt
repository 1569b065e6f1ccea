-- Places that are put one behind the other.
use Rattle.std.specs.Prelude.{◌≡◌, ℕ, suc, ◌+◌, ◌<◌, List, [], ◌∷◌, ◌++◌, map, length, Option, Some, None, option_map, slice_get}
use Rattle.std.proofs.Common.{refl, sym, ap, subst, ◌∙◌, inl, inr, arith, get_or, append-nil}
use Rattle.std.proofs.lemmas.Bool.{cases_eq}
use Rattle.std.proofs.lemmas.Option.{same_Some, slice_get-map}
use Rattle.wjs_base.specs.declared.ids.TextId.{TextId}
use Rattle.wjs_base.proofs.Lists.{get_front}
use Rattle.wjs_base.specs.declared.ids.NodeId.{NodeId}
use Rattle.wjs_tree.specs.declared.node.Node.{Node}
use Rattle.wjs_tree.specs.Shows.{Has}
use Rattle.wjs_scope.specs.declared.place.Place.{Place}
use Rattle.wjs_scope.specs.declared.levels.Level.{Level}
use Rattle.wjs_scope.specs.Scopes.{Scope, resolve}
use Rattle.wjs_scope.specs.Levels.{Nests, IsNest}
use Rattle.wjs_scope.specs.Visits.{mark_of}
use Rattle.wjs_scope.specs.Places.{Rows, placed_names, place_from, place_at, AddsPlaces}
use Rattle.wjs_scope.proofs.Opening.{one_nest}

-- the places of the nodes before this one are kept
pub record RowsKept (ns : List Node) (marks : List (Option ℕ)) (levels : List Level) (rows : Rows) (left : ℕ) : Type 0 where
  pub long : length rows.0 ≡ left
  pub kept : (i : NodeId) (at : ℕ) (scopes : List Scope) (node : Node) (k : ℕ) (x : TextId) → i.0 < left → mark_of marks i ≡ Some at → Nests levels at scopes → Has ns i node → slice_get (placed_names node) k ≡ Some x → place_at rows i k ≡ Some (resolve scopes x)

get_behind : {T : Type 0} (xs ys : List T) (k : ℕ) → slice_get (xs ++ ys) (length xs + k) ≡ slice_get ys k
get_behind [] ys k = let e : 0 + k ≡ k = omega arith in ap (slice_get ys) e
get_behind (z ∷ xs) ys k = let e : length (z ∷ xs) + k ≡ suc (length xs + k) = omega arith in ap (slice_get (z ∷ (xs ++ ys))) e ∙ get_behind xs ys k

-- a place that is kept stays
from_stays : (o : Option ℕ) (list more : List Place) (k : ℕ) (p : Place) → place_from o list k ≡ Some p → place_from o (list ++ more) k ≡ Some p
from_stays None list more k p h = h
from_stays (Some start) list more k p h = get_front list more (start + k) p h

start_of : (o : Option ℕ) (list : List Place) (k : ℕ) (p : Place) → place_from o list k ≡ Some p → (start : ℕ) × (o ≡ Some start)
start_of None list k p h = absurd (cc)
start_of (Some start) list k p h = (start, refl)

place_stays : (starts more : List ℕ) (list others : List Place) (i : NodeId) (k : ℕ) (p : Place) → place_at (starts, list) i k ≡ Some p → place_at (starts ++ more, list ++ others) i k ≡ Some p
place_stays starts more list others i k p h =
    let s = start_of (slice_get starts i.0) list k p h in
    let same : slice_get (starts ++ more) i.0 ≡ slice_get starts i.0 = get_front starts more i.0 s.0 s.1 ∙ sym s.1 in
    ap (λ o. place_from o (list ++ others) k) same ∙ from_stays (slice_get starts i.0) list others k p h

-- a row more, of the places of a node or of none
pub one_row : (ns : List Node) (marks : List (Option ℕ)) (levels : List Level) (starts next : List ℕ) (list others after : List Place) (left : ℕ) → next ≡ starts ++ length list ∷ [] → after ≡ list ++ others
    → ((i : NodeId) (at : ℕ) (scopes : List Scope) (node : Node) → i.0 ≡ left → mark_of marks i ≡ Some at → Nests levels at scopes → Has ns i node → others ≡ map (resolve scopes) (placed_names node))
    → RowsKept ns marks levels (starts, list) left → RowsKept ns marks levels (next, after) (left + 1)
one_row ns marks levels starts next list others after left e f own w = record {
  long = (let long = w.long in let n = ap length e in let m = length_last starts (length list) in omega arith);
  kept = λ i at scopes node k x lt m n has named. subst (λ (z : List ℕ). place_at (z, after) i k ≡ Some (resolve scopes x)) (sym e) (subst (λ (z : List Place). place_at (starts ++ length list ∷ [], z) i k ≡ Some (resolve scopes x)) (sym f) (elim (cases_eq i.0 left) [
    | inr other ↦ place_stays starts (length list ∷ []) list others i k (resolve scopes x) (w.kept i at scopes node k x (omega arith) m n has named)
    | inl same ↦ here i k scopes node x same (own i at scopes node same m n has) named
  ]));
}
  where
    length_last : (xs : List ℕ) (x : ℕ) → length (xs ++ x ∷ []) ≡ suc (length xs)
    length_last [] x = refl
    length_last (z ∷ xs) x = ap suc (length_last xs x)

    here : (i : NodeId) (k : ℕ) (scopes : List Scope) (node : Node) (x : TextId) → i.0 ≡ left → others ≡ map (resolve scopes) (placed_names node) → slice_get (placed_names node) k ≡ Some x → place_at (starts ++ length list ∷ [], list ++ others) i k ≡ Some (resolve scopes x)
    here i k scopes node x same is named =
        let start : slice_get (starts ++ length list ∷ []) i.0 ≡ Some (length list) = ap (slice_get (starts ++ length list ∷ [])) (let l = w.long in let q : i.0 ≡ length starts + 0 = omega arith in q) ∙ get_behind starts (length list ∷ []) 0 in
        ap (λ o. place_from o (list ++ others) k) start ∙ get_behind list others k ∙ ap (λ (z : List Place). slice_get z k) is ∙ slice_get-map (resolve scopes) (placed_names node) k ∙ ap (option_map (resolve scopes)) named

pub marked_row : (ns : List Node) (marks : List (Option ℕ)) (levels : List Level) (starts next : List ℕ) (list after : List Place) (left at : ℕ) (node : Node) → next ≡ starts ++ length list ∷ [] → get_or marks left None ≡ Some at → IsNest levels at → slice_get ns left ≡ Some node
    → AddsPlaces levels at (placed_names node) list after → RowsKept ns marks levels (starts, list) left → RowsKept ns marks levels (next, after) (left + 1)
marked_row ns marks levels starts next list after left at node e mark nest has adds w =
    one_row ns marks levels starts next list (map (resolve nest.0) (placed_names node)) after left e (adds nest.0 nest.1) own w
  where
    own : (i : NodeId) (b : ℕ) (scopes : List Scope) (n : Node) → i.0 ≡ left → mark_of marks i ≡ Some b → Nests levels b scopes → Has ns i n → map (resolve nest.0) (placed_names node) ≡ map (resolve scopes) (placed_names n)
    own i b scopes n same m nests is =
        let ab : b ≡ at = same_Some b at (sym m ∙ ap (λ k. get_or marks k None) same ∙ mark) in
        let nodes_are : n ≡ node = same_Some n node (sym is ∙ ap (slice_get ns) same ∙ has) in
        let scopes_are : scopes ≡ nest.0 = one_nest levels at scopes nest.0 (subst (λ k. Nests levels k scopes) ab nests) nest.1 in
        cc

pub bare_row : (ns : List Node) (marks : List (Option ℕ)) (levels : List Level) (starts next : List ℕ) (list after : List Place) (left : ℕ) → next ≡ starts ++ length list ∷ [] → get_or marks left None ≡ None → after ≡ list → RowsKept ns marks levels (starts, list) left
    → RowsKept ns marks levels (next, after) (left + 1)
bare_row ns marks levels starts next list after left e none same w =
    one_row ns marks levels starts next list [] after left e (same ∙ sym (append-nil list)) (λ i b scopes n at m nests is. absurd (let o : get_or marks i.0 None ≡ None = ap (λ k. get_or marks k None) at ∙ none in cc)) w
