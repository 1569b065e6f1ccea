-- A Label and a Paren stand right behind their part, so the Labels around a statement are those right behind it.
use Rattle.std.specs.Prelude.{◌≡◌, ℕ, zero, suc, List, [], ◌∷◌, drop, Option, Some, None, slice_get, unwrap_or}
use Rattle.std.specs.Option.{option_map}
use Rattle.std.proofs.Common.{refl, sym, ap, subst, ◌∙◌, arith}
use Rattle.std.proofs.lemmas.Option.{slice_get-map}
use Rattle.wjs_base.specs.declared.ids.NodeId.{NodeId}
use Rattle.wjs_tree.specs.Trees.{Elements}
use Rattle.wjs_tree.specs.Shows.{Has}
use Rattle.wjs_tree.specs.declared.node.Node.{Node as NumberedNode}
use Rattle.wjs_order.specs.Order.{IsNumbered}
use Rattle.wjs_by_content.specs.Values.{Text}
use Rattle.wjs_meaning.specs.Trees.{Node, Tree, node_at, first_labels, labels}
use Rattle.wjs_meaning.specs.Trees as node
use Rattle.wjs_meaning.specs.Reading.{node_in}
use Rattle.wjs_programs.specs.Numbered.{tree_of}
use Rattle.wjs_programs.specs.Numbers.{PartsAreNext, Labelled, LabelsAreAround}
use Rattle.wjs_programs.proofs.Over.{IsOver}
use Rattle.wjs_programs.proofs.Depths.{tree_over, at_over}
use Rattle.wjs_programs.proofs.Whole.{nodes_are}

-- whatever the texts, here none
node_over : (ns : List NumberedNode) (tree : Elements) (body i : NodeId) (n : NumberedNode) → IsNumbered ns tree body → Has ns i n → IsOver i.0 (node_in [] n)
node_over ns tree body i n numbered has =
    tree_over [] tree i.0 (node_in [] n) (subst (λ (z : List Node). slice_get z i.0 ≡ Some (node_in [] n)) (nodes_are [] ns tree body numbered) (slice_get-map (node_in []) ns i.0 ∙ ap (option_map (node_in [])) has))

pub parts_are_next : PartsAreNext
parts_are_next ns tree body i a numbered = (
  λ x has. (let e : i.0 ≡ suc a.0 = (node_over ns tree body i _ numbered has).next in omega arith),
  λ has. (let e : i.0 ≡ suc a.0 = (node_over ns tree body i _ numbered has).next in omega arith),
)

-- ---- labels

first_of : {X : Type 0} (xs : List X) (k : ℕ) (x : X) (rest : List X) → drop k xs ≡ x ∷ rest → (slice_get xs k ≡ Some x) × (drop (suc k) xs ≡ rest)
first_of [] zero x rest h = absurd (cc)
first_of [] (suc k) x rest h = absurd (cc)
first_of (y ∷ xs) zero x rest h = ((cc), (cc))
first_of (y ∷ xs) (suc k) x rest h = first_of xs k x rest h

none_of : {X : Type 0} (xs : List X) (k : ℕ) → drop k xs ≡ [] → slice_get xs k ≡ None
none_of [] zero h = refl
none_of [] (suc k) h = refl
none_of (y ∷ xs) zero h = absurd (cc)
none_of (y ∷ xs) (suc k) h = none_of xs k h

module _ (t : Tree) (over : (k : ℕ) → IsOver k (node_at t k)) where
  right_behind : (k s : ℕ) (name : Text) → node_at t k ≡ node.Label name s → k ≡ suc s
  right_behind k s name e = (subst (IsOver k) e (over k)).next

  one_answer : (a b : List Text) (s : ℕ) → Labelled t s a → Labelled t s b → a ≡ b
  one_answer [] [] s g h = refl
  one_answer [] (y ∷ b) s g h = absurd (g h.0 y h.1)
  one_answer (x ∷ a) [] s g h = absurd (h g.0 x g.1)
  one_answer (x ∷ a) (y ∷ b) s g h =
      let at : g.0 ≡ h.0 = right_behind g.0 s x g.1 ∙ sym (right_behind h.0 s y h.1) in
      let forms : node.Label x s ≡ node.Label y s = sym g.1 ∙ ap (node_at t) at ∙ h.1 in
      let names : x ≡ y = cc in
      let more = one_answer a b h.0 (subst (λ (z : ℕ). Labelled t z a) at g.2) h.2 in
      λ i. names i ∷ more i

  -- the node behind a statement
  behind : (s : ℕ) (n : Node) (rest : List Node) → drop (suc s) t.nodes ≡ n ∷ rest → node_at t (suc s) ≡ n
  behind s n rest h = ap (λ (o : Option Node). unwrap_or o node.Empty) (first_of t.nodes (suc s) n rest h).0

  unlabelled : (s : ℕ) → ((name : Text) → node_at t (suc s) ≡ node.Label name s → ⊥) → Labelled t s []
  unlabelled s other k name e = other name (ap (node_at t) (sym (right_behind k s name e)) ∙ e)

  labelled : (rest : List Node) (s : ℕ) → drop (suc s) t.nodes ≡ rest → Labelled t s (first_labels rest)
  labelled [] s h = unlabelled s (λ name e. (let none = ap (λ (o : Option Node). unwrap_or o node.Empty) (none_of t.nodes (suc s) h) in let both : node.Empty ≡ node.Label name s = sym none ∙ e in absurd (cc)))
  labelled (node.Label name p ∷ rest) s h =
      let here = behind s (node.Label name p) rest h in
      let next = right_behind (suc s) p name here in
      let same : p ≡ s = omega arith in
      (suc s, here ∙ ap (λ (z : ℕ). node.Label name z) same, labelled rest (suc s) (first_of t.nodes (suc s) (node.Label name p) rest h).1)
  labelled (n ∷ rest) s h = unlabelled s (λ name e. (let both : n ≡ node.Label name s = sym (behind s n rest h) ∙ e in absurd (cc)))

pub labels_are_around : LabelsAreAround
labels_are_around texts program s =
    let t = tree_of texts program in
    let over = at_over texts program in
    let here = labelled t over (drop (suc s) t.nodes) s refl in
    (here, λ names h. one_answer t over names (labels t s) s h here)
