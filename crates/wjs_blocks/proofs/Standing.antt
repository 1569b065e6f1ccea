-- The parts of `switch` and `try` stand where their frame is run, and frames that hold something else are there.
use Rattle.std.proofs.Common.{◌≡◌, ◌⊎◌, ℕ, zero, suc, List, [], ◌∷◌, ◌++◌, Option, Some, inl, inr, refl, sym, subst}
use Rattle.std.specs.Prelude.{slice_get}
use Rattle.std.specs.Option.{option_and_then}
use Rattle.wjs_base.specs.declared.ids.ObjId.{ObjId}
use Rattle.wjs_base.specs.declared.ids.WorldId.{WorldId}
use Rattle.wjs_base.specs.declared.values.Value.{Value}
use Rattle.wjs_base.specs.declared.ids.NodeId.{NodeId}
use Rattle.wjs_store.specs.Meaning.{Meaning}
use Rattle.wjs_tree.specs.declared.node.Clause.{Clause}
use Rattle.wjs_tree.specs.declared.node.Node.{Node}
use Rattle.wjs_tree.specs.declared.node.Node.TheVariants as nodes
use Rattle.wjs_arena.specs.Entries.{scope_of}
use Rattle.wjs_scope.specs.Nesting.{Around, option_part, clause_part, clause_parts, parts, IsAmong}
use Rattle.wjs_model.specs.declared.config.Config.{Config}
use Rattle.wjs_model.specs.declared.frame.Completion.{Completion}
use Rattle.wjs_model.specs.declared.frame.Activation.{Activation as Frame}
use Rattle.wjs_model.specs.declared.frame.Held.{Held}
use Rattle.wjs_model.specs.declared.frame.Held.TheVariants as holds
use Rattle.wjs_model.specs.Soundness.{HasObject, HasValue, HasCompletion, HasItems, HasWorld, IsThere, StandsHere}
use Rattle.wjs_model.specs.Standing.{FrameStands, IsShown}
use Rattle.wjs_model.proofs.Standing.{stands_inner, stands_fewer}
use Rattle.wjs_frames.specs.Parts.{node_now}
use Rattle.wjs_frames.proofs.Parting.{among_at, among_left, among_right, among_around, stands_here}
use Rattle.wjs_step_common.specs.Lists.{clauses_in, statements_of_clauses}
use Rattle.wjs_effects.proofs.Parted.{option_among}

-- ---- the statements and cases of a `switch`

either_more : {T : Type 0} (y : T) (xs ys : List T) (x : T) → IsAmong xs x ⊎ IsAmong ys x → IsAmong (y ∷ xs) x ⊎ IsAmong ys x
either_more y xs ys x (inl h) = inl (inr h)
either_more y xs ys x (inr h) = inr h

among_either : {T : Type 0} (xs ys : List T) (x : T) → IsAmong (xs ++ ys) x → IsAmong xs x ⊎ IsAmong ys x
among_either [] ys x h = inr h
among_either (y ∷ xs) ys x (inl e) = inl (inl e)
among_either (y ∷ xs) ys x (inr h) = either_more y xs ys x (among_either xs ys x h)

among_more : (c : Clause) (cs : List Clause) (s : NodeId) → (IsAmong (statements_of_clauses cs) s → IsAmong (clause_parts cs) s) → IsAmong c.body s ⊎ IsAmong (statements_of_clauses cs) s → IsAmong (clause_parts (c ∷ cs)) s
among_more c cs s more (inl h) = among_left (clause_part c) (clause_parts cs) s (among_right (option_part c.test) c.body s h)
among_more c cs s more (inr h) = among_right (clause_part c) (clause_parts cs) s (more h)

among_statements : (cs : List Clause) (s : NodeId) → IsAmong (statements_of_clauses cs) s → IsAmong (clause_parts cs) s
among_statements [] s h = h
among_statements (c ∷ cs) s h = among_more c cs s (among_statements cs s) (among_either c.body (statements_of_clauses cs) s h)

abbrev pub test_of : Option Clause → Option NodeId
test_of o = option_and_then (λ (c : Clause). c.test) o

among_tests : (cs : List Clause) (at : ℕ) (e : NodeId) → test_of (slice_get cs at) ≡ Some e → IsAmong (clause_parts cs) e
among_tests [] at e q = absurd (cc)
among_tests (c ∷ cs) zero e q = among_left (clause_part c) (clause_parts cs) e (among_left (option_part c.test) c.body e (option_among c.test e q))
among_tests (c ∷ cs) (suc at) e q = among_right (clause_part c) (clause_parts cs) e (among_tests cs at e q)

module _ {S : Type 0} (meaning : S → Meaning) (c : Config S) (f : Frame) (here : IsThere meaning c f) where
  -- ---- the parts of a node

  abbrev node : Node
  node = node_now meaning c f

  -- a part of a clause
  clause_among : (n : Node) (j : NodeId) → IsAmong (clause_parts (clauses_in n)) j → IsAmong (parts n) (j, Around)
  clause_among (nodes.Switch value clauses) j h = inr (among_around (clause_parts clauses) j h)
  clause_among _ j h = absurd h

  clause_stands : (j : NodeId) → IsAmong (clause_parts (clauses_in node)) j → StandsHere c f j
  clause_stands j among = stands_here meaning c f node j here refl (clause_among node j among)

  pub case_stands : (at : ℕ) (e : NodeId) → test_of (slice_get (clauses_in node) at) ≡ Some e → StandsHere c f e
  case_stands at e q = clause_stands e (among_tests (clauses_in node) at e q)

  pub clause_statement_stands : (at : ℕ) (s : NodeId) → slice_get (statements_of_clauses (clauses_in node)) at ≡ Some s → StandsHere c f s
  clause_statement_stands at s q = clause_stands s (among_statements (clauses_in node) s (among_at (statements_of_clauses (clauses_in node)) at s q))

  -- ---- frames that hold something else

  module _ (g : Frame) where
    abbrev Here : Frame → Type 0
    Here x = IsThere meaning c x

    holding : (held : List Held) → HasItems c held → g ≡ record f { held = held } → IsThere meaning c g
    holding held h e = subst Here (sym e) (record { scope = here.scope; this = here.this; world = here.world; held = h; stands = record { node = here.stands.node; shown = here.stands.shown } })

    pub holding_value : (v : Value) → HasValue c v → g ≡ record f { held = holds.Value v ∷ f.held } → IsThere meaning c g
    holding_value v h e = holding (holds.Value v ∷ f.held) (h, here.held) e

    pub holding_earlier : (e : Completion) → HasCompletion c e → g ≡ record f { held = holds.Earlier e ∷ f.held } → IsThere meaning c g
    holding_earlier x h e = holding (holds.Earlier x ∷ f.held) (h, here.held) e

  -- ---- frames that are run elsewhere

  -- in a scope inside the frame's, with nothing held
  inner_stands : (scope : ObjId) → scope_of c.heap.arena scope ≡ Some f.scope → FrameStands c.units.items c.heap.arena (record f { scope = scope; held = [] })
  inner_stands scope e = record {
    node = stands_fewer c.units.items c.heap.arena f.tree f.node scope 1 (stands_inner c.units.items c.heap.arena f.tree f.node f.scope scope 0 1 refl e here.stands.node);
    shown = here.stands.shown;
  }

  pub inner_there : (scope : ObjId) (g : Frame) (held : List Held) → HasObject c scope → scope_of c.heap.arena scope ≡ Some f.scope → held ≡ [] → g ≡ record f { scope = scope; held = held } → IsThere meaning c g
  inner_there scope g held h e none same =
      let P : Frame → Type 0 = λ x. IsThere meaning c x in
      let Q : List Held → Type 0 = λ l. IsThere meaning c (record f { scope = scope; held = l }) in
      subst P (sym same) (subst Q (sym none) (record { scope = h; this = here.this; world = here.world; held = tt; stands = inner_stands scope e }))

  -- in another world
  pub within_there : (world : WorldId) → HasWorld meaning c world → IsShown c.heap.arena world → IsThere meaning c (record f { world = world })
  within_there world h shown = record { scope = here.scope; this = here.this; world = h; held = here.held; stands = record { node = here.stands.node; shown = shown } }
