-- The functions that are made stand where their nodes do.
use Rattle.std.proofs.Common.{◌≡◌, ℕ, suc, ◌+◌, true, List, Option, None, Some, length, refl, sym, ap, ◌∙◌, subst, arith}
use Rattle.std.specs.Prelude.{slice_get, unwrap_or}
use Rattle.wjs_base.specs.declared.ids.ObjId.{ObjId}
use Rattle.wjs_base.specs.declared.ids.TextId.{TextId}
use Rattle.wjs_base.specs.declared.ids.NodeId.{NodeId}
use Rattle.wjs_store.specs.Meaning.{Meaning}
use Rattle.wjs_tree.specs.declared.node.Node.{Node}
use Rattle.wjs_tree.specs.declared.node.Node.TheVariants as nodes
use Rattle.wjs_tree.specs.Shows.{Has}
use Rattle.wjs_arena.specs.declared.object.Code.{Code}
use Rattle.wjs_arena.specs.declared.object.Code.TheVariants as code
use Rattle.wjs_arena.specs.declared.object.Object.{Object}
use Rattle.wjs_arena.specs.Entries.{Objects, Keeps, scope_of}
use Rattle.wjs_model.specs.declared.config.Config.{Config}
use Rattle.wjs_model.specs.declared.frame.Activation.{Activation as Frame}
use Rattle.wjs_model.specs.declared.loaded.LoadedProgram.{LoadedProgram as Program}
use Rattle.wjs_model.specs.Soundness.{IsThere}
use Rattle.wjs_model.specs.Standing.{Outwards, is_function, count_of, own_scopes, IsFunction, FunctionStands}
use Rattle.wjs_model.proofs.Standing.{stands_kept, stands_inner, function_kept}
use Rattle.wjs_frames.specs.Following.{Later}
use Rattle.wjs_frames.specs.Parts.{node_now}
use Rattle.wjs_frames.proofs.Parting.{among_is}
use Rattle.wjs_calls.specs.Standing.{StandsNamed}
use Rattle.wjs_calls.proofs.Rows.{same_units}

-- the object of a function stands with its node
pub script_stands : (units : List Program) (arena : Objects) (x : Object) (tree : ℕ) (node : NodeId) (scope : ObjId) → x.code ≡ code.Script tree node → x.scope ≡ Some scope → IsFunction units arena tree node scope 0 → FunctionStands units arena x.code x.scope
script_stands units arena x tree node scope ec es h =
    subst (λ (k : Code). FunctionStands units arena k x.scope) (sym ec) (
    subst (λ (o : Option ObjId). FunctionStands units arena (code.Script tree node) o) (sym es) h)

-- it stands still after a deed
pub function_later : {S : Type 0} (meaning : S → Meaning) (old new : Config S) (tree : ℕ) (node : NodeId) (scope : ObjId) (more : ℕ) → Later meaning old new → IsFunction old.units.items old.heap.arena tree node scope more → IsFunction new.units.items new.heap.arena tree node scope more
function_later meaning old new tree node scope more l h =
    subst (λ (us : List Program). IsFunction us new.heap.arena tree node scope more) (sym (same_units meaning old new l)) (function_kept old.heap.arena new.heap.arena l.arena old.units.items tree node scope more h)

-- a tree has one program
same_program : (units : List Program) (tree : ℕ) (x y : Program) (node : NodeId) (n : Node) → slice_get units tree ≡ Some x → slice_get units tree ≡ Some y → Has x.program.nodes node n → Has y.program.nodes node n
same_program units tree x y node n e q h = let same : x ≡ y = cc in subst (λ (u : Program). Has u.program.nodes node n) same h

-- the node of a named function stands still
named_kept : (units : List Program) (old new : Objects) → Keeps old new → (tree : ℕ) (node : NodeId) (scope : ObjId) (name : Option TextId) → StandsNamed units old tree node scope name → StandsNamed units new tree node scope name
named_kept units old new keeps tree node scope name h =
    let s = stands_kept old new keeps units tree node scope 0 h.stands in
    record { function = h.function; is = h.is; named = h.named; stands = s; has = same_program units tree h.stands.unit s.unit node h.function h.stands.found s.found h.has }

pub named_later : {S : Type 0} (meaning : S → Meaning) (old new : Config S) (tree : ℕ) (node : NodeId) (scope : ObjId) (name : Option TextId) → Later meaning old new → StandsNamed old.units.items old.heap.arena tree node scope name → StandsNamed new.units.items new.heap.arena tree node scope name
named_later meaning old new tree node scope name l h =
    subst (λ (us : List Program). StandsNamed us new.heap.arena tree node scope name) (sym (same_units meaning old new l)) (named_kept old.units.items old.heap.arena new.heap.arena l.arena tree node scope name h)

module _ (units : List Program) (tree : ℕ) (node : NodeId) (scope : ObjId) where
  -- with no name of its own, in the scope itself
  pub stands_nameless : (arena : Objects) → StandsNamed units arena tree node scope None → IsFunction units arena tree node scope 0
  stands_nameless arena h =
      let s = h.stands in
      record {
        function = h.function;
        is = h.is;
        stands = record {
          unit = s.unit;
          found = s.found;
          arguments = s.arguments;
          scopes = s.scopes;
          around = s.around;
          outwards =
              let none : own_scopes h.function ≡ 0 = ap count_of h.named in
              let count : 0 + length s.scopes ≡ (0 + own_scopes h.function) + length s.scopes = omega (arith, none) in
              subst (Outwards arena scope) count s.outwards;
        };
        has = h.has;
      }

  -- with one, in the scope of this name
  pub stands_in_name : (old new : Objects) (inner : ObjId) (name : TextId) → Keeps old new → scope_of new inner ≡ Some scope → StandsNamed units old tree node scope (Some name) → IsFunction units new tree node inner 0
  stands_in_name old new inner name keeps e h =
      let one : own_scopes h.function ≡ 1 = ap count_of h.named in
      let next : 0 + own_scopes h.function ≡ suc 0 = omega (arith, one) in
      let s = stands_inner units new tree node scope inner 0 (0 + own_scopes h.function) next e (stands_kept old new keeps units tree node scope 0 h.stands) in
      record { function = h.function; is = h.is; stands = s; has = same_program units tree h.stands.unit s.unit node h.function h.stands.found s.found h.has }

found_function : (ns : List Node) (i : NodeId) (n : Node) (r : Option Node) → slice_get ns i.0 ≡ r → unwrap_or r nodes.Empty ≡ n → is_function n ≡ true → Has ns i n
found_function ns i n (Some m) e q h = e ∙ ap Some q
found_function ns i n None e q h = absurd (let no : is_function nodes.Empty ≡ true = ap is_function q ∙ h in cc)

-- a function expression stands at the node of its frame
pub named_here : {S : Type 0} (meaning : S → Meaning) (c : Config S) (f : Frame) (name : Option TextId) (formals : List TextId) (list : List NodeId) → IsThere meaning c f → node_now meaning c f ≡ nodes.Function name formals list → StandsNamed c.units.items c.heap.arena f.tree f.node f.scope name
named_here meaning c f name formals list here is =
    let s = here.stands.node in
    let ns = s.unit.program.nodes in
    let n : Node = nodes.Function name formals list in
    record { function = n; is = refl; named = refl; stands = s; has = found_function ns f.node n (slice_get ns f.node.0) refl (sym (among_is c.units.items f.tree f.node s.unit s.found) ∙ is) refl }
