-- The parts of calls, `new` and literals stand where their frame is run, and so does a function expression (ECMA-262, 3rd edition, sections 11.1.4, 11.1.5, 11.2 and 13).
use Rattle.std.proofs.Common.{◌≡◌, ℕ, zero, suc, List, [], ◌∷◌, inl, inr, Option, None, Some, refl, sym, ap, ◌∙◌, subst}
use Rattle.std.specs.Prelude.{slice_get, unwrap_or}
use Rattle.wjs_base.specs.declared.ids.TextId.{TextId}
use Rattle.wjs_base.specs.declared.ids.NodeId.{NodeId}
use Rattle.wjs_store.specs.Meaning.{Meaning}
use Rattle.wjs_tree.specs.declared.node.Property.{Property}
use Rattle.wjs_tree.specs.declared.node.Node.{Node}
use Rattle.wjs_tree.specs.declared.node.Node.TheVariants as nodes
use Rattle.wjs_tree.specs.Shows.{Has}
use Rattle.wjs_scope.specs.Nesting.{Around, option_part, item_parts, property_parts, parts, IsAmong}
use Rattle.wjs_model.specs.declared.config.Config.{Config}
use Rattle.wjs_model.specs.declared.frame.Activation.{Activation as Frame}
use Rattle.wjs_model.specs.Soundness.{StandsHere, IsThere}
use Rattle.wjs_frames.specs.Parts.{node_now}
use Rattle.wjs_frames.proofs.Parting.{among_at, among_left, among_right, among_around, among_is, stands_here}
use Rattle.wjs_calls.specs.Standing.{StandsNamed}
use Rattle.wjs_literals.specs.Arguments.{arguments_in}
use Rattle.wjs_literals.specs.Parts.{items_in, properties_in}

-- ---- what is among the parts of a node

item_among : (items : List (Option NodeId)) (k : ℕ) (j : NodeId) → slice_get items k ≡ Some (Some j) → IsAmong (item_parts items) j
item_among [] k j e = absurd (cc)
item_among (o ∷ items) zero j e = let same : Some j ≡ o = cc in among_left (option_part o) (item_parts items) j (subst (λ (q : Option NodeId). IsAmong (option_part q) j) same (inl refl))
item_among (o ∷ items) (suc k) j e = among_right (option_part o) (item_parts items) j (item_among items k j e)

property_among : (properties : List Property) (k : ℕ) (p : Property) → slice_get properties k ≡ Some p → IsAmong (property_parts properties) p.value
property_among [] k p e = absurd (cc)
property_among (q ∷ properties) zero p e = let same : p ≡ q = cc in inl (ap (λ (x : Property). x.value) same)
property_among (q ∷ properties) (suc k) p e = inr (property_among properties k p e)

argument_among : (n : Node) (k : ℕ) (j : NodeId) → slice_get (arguments_in n) k ≡ Some j → IsAmong (parts n) (j, Around)
argument_among (nodes.Call f args) k j e = inr (among_around args j (among_at args k j e))
argument_among (nodes.NewWith f args) k j e = inr (among_around args j (among_at args k j e))
argument_among _ k j e = absurd (cc)

item_part : (n : Node) (k : ℕ) (j : NodeId) → slice_get (items_in n) k ≡ Some (Some j) → IsAmong (parts n) (j, Around)
item_part (nodes.ArrayLit items comma) k j e = among_around (item_parts items) j (item_among items k j e)
item_part _ k j e = absurd (cc)

property_part : (n : Node) (k : ℕ) (p : Property) → slice_get (properties_in n) k ≡ Some p → IsAmong (parts n) (p.value, Around)
property_part (nodes.ObjectLit properties comma) k p e = among_around (property_parts properties) p.value (property_among properties k p e)
property_part _ k p e = absurd (cc)

-- a node of a program that is a function's
function_at : (ns : List Node) (i : NodeId) (r : Option Node) (name : Option TextId) (formals : List TextId) (elements : List NodeId) → slice_get ns i.0 ≡ r → unwrap_or r nodes.Empty ≡ nodes.Function name formals elements → Has ns i (nodes.Function name formals elements)
function_at ns i None name formals elements e q = absurd (cc)
function_at ns i (Some m) name formals elements e q = e ∙ ap Some q

-- ---- where a frame is run

module _ {S : Type 0} (meaning : S → Meaning) (c : Config S) (f : Frame) (there : IsThere meaning c f) where
  here : (j : NodeId) → IsAmong (parts (node_now meaning c f)) (j, Around) → StandsHere c f j
  here j among = stands_here meaning c f (node_now meaning c f) j there refl among

  pub argument_stands : (k : ℕ) (j : NodeId) → slice_get (arguments_in (node_now meaning c f)) k ≡ Some j → StandsHere c f j
  argument_stands k j e = here j (argument_among (node_now meaning c f) k j e)

  pub item_stands : (k : ℕ) (j : NodeId) → slice_get (items_in (node_now meaning c f)) k ≡ Some (Some j) → StandsHere c f j
  item_stands k j e = here j (item_part (node_now meaning c f) k j e)

  pub property_stands : (k : ℕ) (p : Property) → slice_get (properties_in (node_now meaning c f)) k ≡ Some p → StandsHere c f p.value
  property_stands k p e = here p.value (property_part (node_now meaning c f) k p e)

  -- a function expression
  pub function_stands : (name : Option TextId) (formals : List TextId) (elements : List NodeId) → node_now meaning c f ≡ nodes.Function name formals elements → StandsNamed c.units.items c.heap.arena f.tree f.node f.scope name
  function_stands name formals elements is =
      let s = there.stands.node in
      record {
        function = nodes.Function name formals elements;
        is = refl;
        named = refl;
        stands = s;
        has = function_at s.unit.program.nodes f.node (slice_get s.unit.program.nodes f.node.0) name formals elements refl (sym (among_is c.units.items f.tree f.node s.unit s.found) ∙ is);
      }
