-- Elements stand where their sequence is run; what its frame waits for and how it ends is there.
use Rattle.std.proofs.Common.{◌≡◌, ℕ, zero, suc, true, List, [], ◌∷◌, Some, inl, inr, refl, drop, subst}
use Rattle.wjs_base.specs.Text.{Table}
use Rattle.wjs_base.specs.declared.ids.NodeId.{NodeId}
use Rattle.wjs_base.specs.declared.values.Value.{Value}
use Rattle.wjs_store.specs.Meaning.{Meaning}
use Rattle.wjs_tree.specs.declared.node.Node.{Node}
use Rattle.wjs_tree.specs.declared.node.Node.TheVariants as nodes
use Rattle.wjs_scope.specs.Declarations.{elements_of}
use Rattle.wjs_scope.specs.Nesting.{Around, parts, IsAmong}
use Rattle.wjs_meaning.specs.Reading.{numbers, node_in}
use Rattle.wjs_meaning.specs.Trees as content
use Rattle.wjs_model.specs.declared.config.Config.{Config}
use Rattle.wjs_model.specs.declared.frame.Activation.{Activation as Frame}
use Rattle.wjs_model.specs.Lists.{block_items, program_elements}
use Rattle.wjs_model.specs.Standing.{is_function}
use Rattle.wjs_model.specs.Soundness.{HasValue, HasCompletion, HasPoint, StandsHere, IsThere, Base}
use Rattle.wjs_frames.specs.Following.{Later}
use Rattle.wjs_frames.specs.Parts.{node_now}
use Rattle.wjs_frames.proofs.Parting.{among_around, stands_here, element_here, function_now, point_later}
use Rattle.wjs_effects.specs.declared.elements.Sequence.{Sequence}
use Rattle.wjs_effects.specs.declared.elements.Sequence.TheVariants as kinds
use Rattle.wjs_effects.specs.Sequences.{elements_in, sequence_end, returned, element_point, SequenceStands, NextIs}

-- ---- elements

same_node : (x s : NodeId) → s.0 ≡ x.0 → s ≡ x
same_node x s e = λ i. record { 0 = e i }

among_left_over : (l : List NodeId) (at : ℕ) (s : NodeId) (rest : List ℕ) → drop at (numbers l) ≡ s.0 ∷ rest → IsAmong l s
among_left_over [] zero s rest h = absurd (cc)
among_left_over [] (suc k) s rest h = absurd (cc)
among_left_over (x ∷ l) zero s rest h = inl (same_node x s (cc))
among_left_over (x ∷ l) (suc k) s rest h = inr (among_left_over l k s rest h)

none_left_over : (at : ℕ) (s : NodeId) (rest : List ℕ) → drop at [] ≡ s.0 ∷ rest → ⊥
none_left_over zero s rest k = cc
none_left_over (suc i) s rest k = cc

block_parts : (t : Table) (n : Node) (at : ℕ) (s : NodeId) → NextIs (block_items (node_in t n)) at (Some s) → IsAmong (parts n) (s, Around)
block_parts t (nodes.Block list) at s k = among_around list s (among_left_over list at s _ k)
block_parts t n at s k = absurd (none_left_over at s _ k)

program_parts : (t : Table) (n : Node) (at : ℕ) (s : NodeId) → NextIs (program_elements (node_in t n)) at (Some s) → IsAmong (parts n) (s, Around)
program_parts t (nodes.Program list) at s k = among_around list s (among_left_over list at s _ k)
program_parts t n at s k = absurd (none_left_over at s _ k)

function_element : (t : Table) (n : Node) (at : ℕ) (s : NodeId) → is_function n ≡ true → NextIs (content.elements_of (node_in t n)) at (Some s) → IsAmong (elements_of n) s
function_element t (nodes.Function name formals list) at s e h = among_left_over list at s _ h
function_element t (nodes.FunctionDecl name formals list) at s e h = among_left_over list at s _ h
function_element t n at s e h = absurd (cc)

-- ---- what is waited for, and how a sequence ends

pub point_there : {S : Type 0} (c : Config S) (f : Frame) (kind : Sequence) (next : ℕ) → SequenceStands c f kind → HasPoint c f (element_point kind next)
point_there c f kinds.Block next h = tt
point_there c f kinds.Function next h = h
point_there c f kinds.Program next h = tt

pub end_there : {S : Type 0} (c : Config S) (kind : Sequence) → HasCompletion c (sequence_end kind)
end_there c kinds.Block = tt
end_there c kinds.Function = tt
end_there c kinds.Program = tt

pub returned_there : {S : Type 0} (c : Config S) (kind : Sequence) (v : Value) → HasValue c v → HasCompletion c (returned kind v)
returned_there c kinds.Block v h = h
returned_there c kinds.Function v h = h
returned_there c kinds.Program v h = h

-- ---- configurations

module _ {S : Type 0} (meaning : S → Meaning) (c : Config S) (f : Frame) where
  pub element_stands : (kind : Sequence) (at : ℕ) (s : NodeId) → Base meaning c → IsThere meaning c f → SequenceStands c f kind → ((t : Table) → NextIs (elements_in kind (node_in t (node_now meaning c f))) at (Some s)) → StandsHere c f s
  element_stands kinds.Block at s b h begun e = stands_here meaning c f (node_now meaning c f) s h refl (block_parts c.heap.texts (node_now meaning c f) at s (e c.heap.texts))
  element_stands kinds.Function at s b h begun e =
      let t = c.heap.texts in
      element_here meaning c f s b begun (function_element t begun.function at s begun.is (subst (λ (n : Node). NextIs (content.elements_of (node_in t n)) at (Some s)) (function_now meaning c f begun) (e t)))
  element_stands kinds.Program at s b h begun e = stands_here meaning c f (node_now meaning c f) s h refl (program_parts c.heap.texts (node_now meaning c f) at s (e c.heap.texts))

  -- it stands still after a deed
  pub sequence_later : (kind : Sequence) (new : Config S) → Later meaning c new → SequenceStands c f kind → SequenceStands new f kind
  sequence_later kinds.Block new l h = tt
  sequence_later kinds.Function new l h = point_later meaning c f new (element_point kinds.Function 0) l h
  sequence_later kinds.Program new l h = tt
