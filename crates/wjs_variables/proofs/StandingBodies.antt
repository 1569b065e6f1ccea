-- Bodies stand at their nodes, inside the scopes that are made for them.
use Rattle.std.proofs.Common.{◌≡◌, ℕ, ◌+◌, Bool, true, false, List, [], ◌∷◌, Option, None, Some, IsTrue, inl, inr, refl, sym, ap, ◌∙◌, subst}
use Rattle.std.specs.Prelude.{All, slice_get, unwrap_or, is_some}
use Rattle.std.specs.FinMap as map
use Rattle.std.proofs.lemmas.List.Elements.{All-nil, All-cons, All-get_or}
use Rattle.std.proofs.lemmas.Option.{slice_get_within, get_or_from_slice_get}
use Rattle.wjs_base.specs.declared.ids.ObjId.{ObjId}
use Rattle.wjs_base.specs.Text.{Table}
use Rattle.wjs_base.specs.declared.ids.NodeId.{NodeId}
use Rattle.wjs_store.specs.Meaning.{Meaning}
use Rattle.wjs_tree.specs.declared.node.Node.{Node}
use Rattle.wjs_tree.specs.declared.node.Node.TheVariants as nodes
use Rattle.wjs_tree.specs.Shows.{Has}
use Rattle.wjs_arena.specs.declared.object.Code.{Code}
use Rattle.wjs_arena.specs.declared.object.Code.TheVariants as code
use Rattle.wjs_arena.specs.Entries.{Entry, Objects, scope_of}
use Rattle.wjs_scope.specs.Bodies.{elements_at}
use Rattle.wjs_scope.specs.Declarations.{elements_of, is_declaration, functions_among}
use Rattle.wjs_scope.specs.Nesting.{IsAmong}
use Rattle.wjs_meaning.specs.Reading.{node_in}
use Rattle.wjs_meaning.specs.Trees as content
use Rattle.wjs_model.specs.declared.config.Config.{Config}
use Rattle.wjs_model.specs.declared.frame.Activation.{Activation as Frame}
use Rattle.wjs_model.specs.declared.loaded.LoadedProgram.{LoadedProgram as Program}
use Rattle.wjs_model.specs.Texts.{PlacesUnit}
use Rattle.wjs_model.specs.Standing.{Stands, own_scopes, IsFunction, FunctionStands}
use Rattle.wjs_model.specs.Soundness.{HasObject, IsThere, Base}
use Rattle.wjs_model.specs.Lists.{program_elements}
use Rattle.wjs_model.proofs.Standing.{stands_fewer, function_begins}
use Rattle.wjs_frames.specs.Following.{Later}
use Rattle.wjs_frames.specs.Parts.{node_now}
use Rattle.wjs_frames.proofs.Parting.{among_is}
use Rattle.wjs_calls.proofs.StandingFunctions.{function_later}

-- ---- programs

-- the elements of a program's node are those of its body
pub same_elements : (t : Table) (n : Node) (list : List NodeId) → n ≡ nodes.Program list → content.elements_of (node_in t n) ≡ program_elements (node_in t n)
same_elements t n list e = rw e refl

module _ (units : List Program) (arena : Objects) where
  -- the body of a program stands in its scope
  body_stands : (tree : ℕ) (scope : ObjId) (u : Program) → slice_get units tree ≡ Some u → Stands units arena tree u.program.body scope 0
  body_stands tree scope u e = record { unit = u; found = e; arguments = None; scopes = []; around = ([], (refl, refl)); outwards = tt }

  -- ---- the functions that a body declares

  module _ (u : Program) (tree : ℕ) (scope : ObjId) (found : slice_get units tree ≡ Some u) where
    one_declared : (x : NodeId) (r : Option Node) → slice_get u.program.nodes x.0 ≡ r → is_declaration r ≡ true → Stands units arena tree x scope 0 → IsFunction units arena tree x scope 0
    one_declared x (Some (nodes.FunctionDecl name formals list)) e d s =
        let same : u ≡ s.unit = (let p = s.found in let q = found in cc) in
        record { function = nodes.FunctionDecl name formals list; is = refl; stands = s; has = subst (λ (v : Program). Has v.program.nodes x (nodes.FunctionDecl name formals list)) same e }
    one_declared x r e d s = absurd (cc)

    both : (x : NodeId) (more : List NodeId) (b : Bool) → is_declaration (slice_get u.program.nodes x.0) ≡ b → Stands units arena tree x scope 0 → All (λ (i : NodeId). IsFunction units arena tree i scope 0) (functions_among u.program.nodes more) → All (λ (i : NodeId). IsFunction units arena tree i scope 0) (functions_among u.program.nodes (x ∷ more))
    both x more true e s h =
        let same : x ∷ functions_among u.program.nodes more ≡ functions_among u.program.nodes (x ∷ more) = rw e refl in
        subst (All (λ (i : NodeId). IsFunction units arena tree i scope 0)) same
        (All-cons (λ (i : NodeId). IsFunction units arena tree i scope 0) x (functions_among u.program.nodes more) (one_declared x (slice_get u.program.nodes x.0) refl e s) h)
    both x more false e s h =
        let same : functions_among u.program.nodes more ≡ functions_among u.program.nodes (x ∷ more) = rw e refl in
        subst (All (λ (i : NodeId). IsFunction units arena tree i scope 0)) same h

    all_declared : (es : List NodeId) → ((i : NodeId) → IsAmong es i → Stands units arena tree i scope 0) → All (λ (i : NodeId). IsFunction units arena tree i scope 0) (functions_among u.program.nodes es)
    all_declared [] h = All-nil (λ (i : NodeId). IsFunction units arena tree i scope 0)
    all_declared (x ∷ es) h = both x es (is_declaration (slice_get u.program.nodes x.0)) refl (h x (inl refl)) (all_declared es (λ i k. h i (inr k)))

    -- where its elements stand
    pub declared_stand : (body : NodeId) (n : Node) (fs : List NodeId) → Has u.program.nodes body n → ((i : NodeId) → IsAmong (elements_of n) i → Stands units arena tree i scope 0) → fs ≡ functions_among u.program.nodes (elements_at u.program.nodes body.0) → All (λ (i : NodeId). IsFunction units arena tree i scope 0) fs
    declared_stand body n fs has h e =
        subst (All (λ (i : NodeId). IsFunction units arena tree i scope 0))
        (ap (λ (r : Option Node). functions_among u.program.nodes (elements_of (unwrap_or r nodes.Empty))) (sym has) ∙ sym e)
        (all_declared (elements_of n) h)

-- ---- configurations

module _ {S : Type 0} (meaning : S → Meaning) where
  -- where a function stands that is there
  pub function_at : (c : Config S) (o : ObjId) (tree : ℕ) (node : NodeId) (scope : ObjId) → Base meaning c → HasObject c o → ((e : Entry) → map.get c.heap.arena o ≡ Some e → e.object.code ≡ code.Script tree node) → ((e : Entry) → map.get c.heap.arena o ≡ Some e → e.object.scope ≡ Some scope) → IsFunction c.units.items c.heap.arena tree node scope 0
  function_at c o tree node scope b h ec es = by (map.get c.heap.arena o) refl h.0
    where
      by : (r : Option Entry) → map.get c.heap.arena o ≡ r → IsTrue (is_some r) → IsFunction c.units.items c.heap.arena tree node scope 0
      by None q t = absurd (cc)
      by (Some e) q t =
          subst (λ (s : Option ObjId). FunctionStands c.units.items c.heap.arena (code.Script tree node) s) (es e q)
          (subst (λ (k : Code). FunctionStands c.units.items c.heap.arena k e.object.scope) (ec e q) (b.functions o e q))

  -- a function's body begins in the scope that is made for it
  pub begun_function : (old new : Config S) (tree : ℕ) (node : NodeId) (scope inner : ObjId) → Later meaning old new → scope_of new.heap.arena inner ≡ Some scope → IsFunction old.units.items old.heap.arena tree node scope 0 → IsFunction new.units.items new.heap.arena tree node inner 1
  begun_function old new tree node scope inner l outer is = function_begins new.units.items new.heap.arena tree node scope inner outer (function_later meaning old new tree node scope 0 l is)

  -- and so its frame is there
  pub begun_there : (old new : Config S) (f : Frame) (tree : ℕ) (node : NodeId) (scope inner : ObjId) → Later meaning old new → IsThere meaning old f → HasObject new inner → scope_of new.heap.arena inner ≡ Some scope → IsFunction old.units.items old.heap.arena tree node scope 0 → IsThere meaning new (record f { tree = tree; node = node; scope = inner })
  begun_there old new f tree node scope inner l h there outer is =
      let k = l.frames f h in
      let begun = begun_function old new tree node scope inner l outer is in
      record {
        scope = there;
        this = k.this;
        world = k.world;
        held = k.held;
        stands = record { node = stands_fewer new.units.items new.heap.arena tree node inner (1 + own_scopes begun.function) begun.stands; shown = k.stands.shown };
      }

  module _ (c : Config S) (f : Frame) where
    -- at the body of its program
    pub at_body : (body : NodeId) → IsThere meaning c f → ((u : Program) → slice_get c.units.items f.tree ≡ Some u → body ≡ u.program.body) → IsThere meaning c (record f { node = body })
    at_body body h is =
        let u = h.stands.node.unit in
        let e = h.stands.node.found in
        record {
          scope = h.scope;
          this = h.this;
          world = h.world;
          held = h.held;
          stands = record {
            node = subst (λ (i : NodeId). Stands c.units.items c.heap.arena f.tree i f.scope 0) (sym (is u e)) (body_stands c.units.items c.heap.arena f.tree f.scope u e);
            shown = h.stands.shown;
          };
        }

    -- which is a program's node
    pub body_is : (body : NodeId) → Base meaning c → (h : IsThere meaning c f) → ((u : Program) → slice_get c.units.items f.tree ≡ Some u → body ≡ u.program.body) → (list : List NodeId) × (node_now meaning c (record f { node = body }) ≡ nodes.Program list) × Has h.stands.node.unit.program.nodes body (nodes.Program list)
    body_is body b h is =
        let u = h.stands.node.unit in
        let e = h.stands.node.found in
        let script = (subst (PlacesUnit c.heap.texts) (get_or_from_slice_get c.units.items f.tree u u e) (All-get_or (PlacesUnit c.heap.texts) c.units.items f.tree u (slice_get_within c.units.items f.tree u e) b.places)).script in
        let has : Has u.program.nodes body (nodes.Program script.list) = subst (λ (i : NodeId). Has u.program.nodes i (nodes.Program script.list)) (sym (is u e)) script.has in
        (script.list, among_is c.units.items f.tree body u e ∙ ap (λ (r : Option Node). unwrap_or r nodes.Empty) has, has)
