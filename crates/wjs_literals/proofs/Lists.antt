-- The lists of a node by content are its own under the table (ECMA-262, 3rd edition, sections 11.1.4, 11.1.5 and 11.2).
use Rattle.std.proofs.Common.{◌≡◌, ℕ, suc, [], ◌∷◌, None, Some, refl, sym, ap, ◌∙◌, drop}
use Rattle.std.specs.Prelude.{map as each, slice_get}
use Rattle.wjs_base.specs.Text.{Table}
use Rattle.wjs_base.specs.declared.ids.NodeId.{NodeId}
use Rattle.wjs_tree.specs.declared.node.Property.{Property}
use Rattle.wjs_tree.specs.declared.node.Node.{Node}
use Rattle.wjs_tree.specs.declared.node.Node.TheVariants as nodes
use Rattle.wjs_meaning.specs.Reading.{node_in, number, numbers, pair_in}
use Rattle.wjs_model.specs.Lists.{items_of, pairs_of, arguments_of}
use Rattle.wjs_step_common.proofs.Parts.{each_at, each_past}
use Rattle.wjs_literals.specs.Arguments.{arguments_in}
use Rattle.wjs_literals.specs.Parts.{items_in, properties_in}

module _ (t : Table) where
  pub items_same : (n : Node) → items_of (node_in t n) ≡ each number (items_in n)
  items_same (nodes.ArrayLit items comma) = refl
  items_same _ = refl

  pairs_same : (n : Node) → pairs_of (node_in t n) ≡ each (pair_in t) (properties_in n)
  pairs_same (nodes.ObjectLit properties comma) = refl
  pairs_same _ = refl

  arguments_same : (n : Node) → arguments_of (node_in t n) ≡ numbers (arguments_in n)
  arguments_same (nodes.Call f args) = refl
  arguments_same (nodes.NewWith f args) = refl
  arguments_same _ = refl

  module _ (n : Node) (i : ℕ) where
    -- the item of a number, and those behind it
    pub items_at : (e : NodeId) → slice_get (items_in n) i ≡ Some (Some e) → drop i (items_of (node_in t n)) ≡ Some e.0 ∷ drop (suc i) (items_of (node_in t n))
    items_at e h = ap (drop i) (items_same n) ∙ each_at number (items_in n) i (Some e) h ∙ sym (ap (λ l. Some e.0 ∷ drop (suc i) l) (items_same n))

    -- the pair of a number, and those behind it
    pub pairs_at : (p : Property) → slice_get (properties_in n) i ≡ Some p → drop i (pairs_of (node_in t n)) ≡ pair_in t p ∷ drop (suc i) (pairs_of (node_in t n))
    pairs_at p h = ap (drop i) (pairs_same n) ∙ each_at (pair_in t) (properties_in n) i p h ∙ sym (ap (λ l. pair_in t p ∷ drop (suc i) l) (pairs_same n))

    pub pairs_past : slice_get (properties_in n) i ≡ None → drop i (pairs_of (node_in t n)) ≡ []
    pairs_past h = ap (drop i) (pairs_same n) ∙ each_past (pair_in t) (properties_in n) i h

    -- the argument of a number, and those behind it
    pub arguments_at : (e : NodeId) → slice_get (arguments_in n) i ≡ Some e → drop i (arguments_of (node_in t n)) ≡ e.0 ∷ drop (suc i) (arguments_of (node_in t n))
    arguments_at e h = ap (drop i) (arguments_same n) ∙ each_at (λ (id : NodeId). id.0) (arguments_in n) i e h ∙ sym (ap (λ l. e.0 ∷ drop (suc i) l) (arguments_same n))

    pub arguments_past : slice_get (arguments_in n) i ≡ None → drop i (arguments_of (node_in t n)) ≡ []
    arguments_past h = ap (drop i) (arguments_same n) ∙ each_past (λ (id : NodeId). id.0) (arguments_in n) i h
