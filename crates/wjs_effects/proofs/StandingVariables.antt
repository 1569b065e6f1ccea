-- The initialisers of variables stand where their frame is run.
use Rattle.std.proofs.Common.{◌≡◌, ℕ, zero, suc, List, [], ◌∷◌, ◌++◌, Option, Some, refl}
use Rattle.std.specs.Prelude.{slice_get}
use Rattle.std.specs.Option.{option_and_then}
use Rattle.wjs_base.specs.declared.ids.NodeId.{NodeId}
use Rattle.wjs_store.specs.Meaning.{Meaning}
use Rattle.wjs_tree.specs.declared.node.Declarator.{Declarator}
use Rattle.wjs_tree.specs.declared.node.ForInit.TheVariants as inits
use Rattle.wjs_tree.specs.declared.node.Node.{Node}
use Rattle.wjs_tree.specs.declared.node.Node.TheVariants as nodes
use Rattle.wjs_scope.specs.Nesting.{Around, option_part, initialisers, plain_parts, parts, IsAmong}
use Rattle.wjs_model.specs.declared.config.Config.{Config}
use Rattle.wjs_model.specs.declared.frame.Activation.{Activation as Frame}
use Rattle.wjs_model.specs.Soundness.{IsThere, StandsHere}
use Rattle.wjs_frames.specs.Parts.{node_now}
use Rattle.wjs_frames.proofs.Parting.{among_left, among_right, among_around, stands_here}
use Rattle.wjs_effects.proofs.Parted.{option_among}
use Rattle.wjs_effects.specs.Variables.{declarators_in}

abbrev pub value_of : Option Declarator → Option NodeId
value_of o = option_and_then (λ (d : Declarator). d.value) o

among_initialisers : (ds : List Declarator) (at : ℕ) (e : NodeId) → value_of (slice_get ds at) ≡ Some e → IsAmong (initialisers ds) e
among_initialisers [] at e q = absurd (cc)
among_initialisers (d ∷ ds) zero e q = among_left (option_part d.value) (initialisers ds) e (option_among d.value e q)
among_initialisers (d ∷ ds) (suc at) e q = among_right (option_part d.value) (initialisers ds) e (among_initialisers ds at e q)

variable_among : (n : Node) (at : ℕ) (e : NodeId) → value_of (slice_get (declarators_in n) at) ≡ Some e → IsAmong (parts n) (e, Around)
variable_among (nodes.Var xs end) at e q = among_around (initialisers xs) e (among_initialisers xs at e q)
variable_among (nodes.For (inits.Var xs) t u s) at e q =
    among_around (plain_parts (nodes.For (inits.Var xs) t u s)) e
    (among_left (initialisers xs) (option_part t ++ (option_part u ++ s ∷ [])) e (among_initialisers xs at e q))
variable_among (nodes.For (inits.Expr x) t u s) at e q = absurd (cc)
variable_among (nodes.For inits.Nothing t u s) at e q = absurd (cc)
variable_among n at e q = absurd (cc)

-- the initialiser of a variable of the frame's node
pub initialiser_stands : {S : Type 0} (meaning : S → Meaning) (c : Config S) (f : Frame) (at : ℕ) (e : NodeId) → IsThere meaning c f → value_of (slice_get (declarators_in (node_now meaning c f)) at) ≡ Some e → StandsHere c f e
initialiser_stands meaning c f at e here q = stands_here meaning c f (node_now meaning c f) e here refl (variable_among (node_now meaning c f) at e q)
