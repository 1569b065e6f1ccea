-- What stands at a node stands there still as objects are made, and so do the node's parts.
use Rattle.std.proofs.Common.{◌≡◌, ℕ, zero, suc, ◌+◌, true, List, [], ◌∷◌, ◌++◌, length, Option, None, Some, IsTrue, refl, ap, ◌∙◌, subst, inl, inr, arith}
use Rattle.std.specs.Prelude.{is_some}
use Rattle.std.specs.Option.{option_and_then}
use Rattle.std.specs.FinMap as map
use Rattle.wjs_base.specs.declared.ids.ObjId.{ObjId}
use Rattle.wjs_base.specs.declared.ids.WorldId.{WorldId}
use Rattle.wjs_base.specs.declared.ids.TextId.{TextId}
use Rattle.wjs_base.specs.declared.ids.NodeId.{NodeId}
use Rattle.wjs_tree.specs.declared.node.Node.{Node}
use Rattle.wjs_tree.specs.declared.node.Node.TheVariants as nodes
use Rattle.wjs_tree.specs.Shows.{Has}
use Rattle.wjs_arena.specs.declared.object.Code.{Code}
use Rattle.wjs_arena.specs.declared.object.Code.TheVariants as code
use Rattle.wjs_arena.specs.Entries.{Entry, Objects, Keeps, has, scope_of}
use Rattle.wjs_scope.specs.Scopes.{Scope, own_name, with_own_name, in_function}
use Rattle.wjs_scope.specs.Declarations.{is_body, elements_of}
use Rattle.wjs_scope.specs.Nesting.{Side, Around, Caught, Inside, on_side, parts, IsAmong, Enters, Leads, LeadsTo}
use Rattle.wjs_scope.specs.Places.{IsScript}
use Rattle.wjs_scope.proofs.Bodies.{bodies_are_there}
use Rattle.wjs_model.specs.declared.loaded.LoadedProgram.{LoadedProgram as Program}
use Rattle.wjs_model.specs.declared.point.ExprPoint.{ExprPoint}
use Rattle.wjs_model.specs.declared.point.ExprPoint.TheVariants as expr
use Rattle.wjs_model.specs.declared.point.StmtPoint.{StmtPoint}
use Rattle.wjs_model.specs.declared.point.StmtPoint.TheVariants as stmt
use Rattle.wjs_model.specs.declared.point.CallPoint.{CallPoint}
use Rattle.wjs_model.specs.declared.point.CallPoint.TheVariants as call
use Rattle.wjs_model.specs.declared.point.Point.{Point}
use Rattle.wjs_model.specs.declared.point.Point.TheVariants as points
use Rattle.wjs_model.specs.declared.frame.Activation.{Activation as Frame}
use Rattle.wjs_model.specs.Standing.{Outwards, Stands, is_function, count_of, own_scopes, IsFunction, FunctionStands, IfStands, ExprPointStands, StmtPointStands, CallPointStands, PointStands, FrameStands, IsShown}

-- ---- as objects are made

module _ (old new : Objects) (k : Keeps old new) where
  kept : {A : Type 0} (f : Entry → Option A) (o : ObjId) (a : A) (r : Option Entry) → map.get old o ≡ r → option_and_then f r ≡ Some a
      → option_and_then f (map.get new o) ≡ Some a
  kept f o a None e h = absurd (cc)
  kept f o a (Some x) e h = ap (option_and_then f) (k o x e) ∙ h

  pub has_kept : (o : ObjId) → IsTrue (has old o) → IsTrue (has new o)
  has_kept o h = by (map.get old o) refl h
    where
      by : (r : Option Entry) → map.get old o ≡ r → IsTrue (is_some r) → IsTrue (has new o)
      by None e q = absurd (cc)
      by (Some x) e q = ap is_some (k o x e)

  pub scope_kept : (o outer : ObjId) → scope_of old o ≡ Some outer → scope_of new o ≡ Some outer
  scope_kept o outer h = kept (λ x. x.object.scope) o outer (map.get old o) refl h

  outwards_kept : (n : ℕ) (o : ObjId) → Outwards old o n → Outwards new o n
  outwards_kept zero o h = tt
  outwards_kept (suc n) o h = (h.0, scope_kept o h.0 h.1, outwards_kept n h.0 h.2)

  shown_kept : (w : WorldId) → IsShown old w → IsShown new w
  shown_kept w h = (h.0, kept (λ x. x.object.world) h.0 w (map.get old h.0) refl h.1)

  module _ (units : List Program) where
    pub stands_kept : (tree : ℕ) (node : NodeId) (scope : ObjId) (more : ℕ) → Stands units old tree node scope more → Stands units new tree node scope more
    stands_kept tree node scope more s = record { unit = s.unit; found = s.found; arguments = s.arguments; scopes = s.scopes; around = s.around; outwards = outwards_kept (more + length s.scopes) scope s.outwards }

    pub function_kept : (tree : ℕ) (node : NodeId) (scope : ObjId) (more : ℕ) → IsFunction units old tree node scope more
        → IsFunction units new tree node scope more
    unfolding stands_kept
    function_kept tree node scope more f = record { function = f.function; is = f.is; stands = stands_kept tree node scope (more + own_scopes f.function) f.stands; has = f.has }

    pub code_kept : (c : Code) (scope : Option ObjId) → FunctionStands units old c scope → FunctionStands units new c scope
    code_kept (code.Script tree node) (Some scope) h = function_kept tree _ scope 0 h
    code_kept (code.Script tree node) None h = h
    code_kept code.None scope h = tt
    code_kept (code.Native n) scope h = tt

    pub if_kept : (tree : ℕ) (node : NodeId) (scope : ObjId) (part : Option NodeId) → IfStands units old tree node scope part
        → IfStands units new tree node scope part
    if_kept tree node scope None h = tt
    if_kept tree node scope (Some part) h = stands_kept tree part scope 0 h

    expr_kept : (tree : ℕ) (node : NodeId) (scope : ObjId) (p : ExprPoint) → ExprPointStands units old tree node scope p
        → ExprPointStands units new tree node scope p
    expr_kept tree node scope (expr.IndexBase purpose index) h = stands_kept tree index scope 0 h
    expr_kept tree node scope (expr.BinaryLeft op right) h = stands_kept tree right scope 0 h
    expr_kept tree node scope (expr.CondTest one other) h = (stands_kept tree one scope 0 h.0, stands_kept tree other scope 0 h.1)
    expr_kept tree node scope (expr.AssignTarget sign right) h = stands_kept tree right scope 0 h
    expr_kept tree node scope (expr.CommaLeft right) h = stands_kept tree right scope 0 h
    expr_kept tree node scope p h = tt

    stmt_kept : (tree : ℕ) (node : NodeId) (scope : ObjId) (p : StmtPoint) → StmtPointStands units old tree node scope p
        → StmtPointStands units new tree node scope p
    stmt_kept tree node scope (stmt.IfTest one other) h = (stands_kept tree one scope 0 h.0, if_kept tree node scope other h.1)
    stmt_kept tree node scope (stmt.DoBody test) h = stands_kept tree test scope 0 h
    stmt_kept tree node scope (stmt.WhileTest body) h = stands_kept tree body scope 0 h
    stmt_kept tree node scope (stmt.ForTest update body) h = (if_kept tree node scope update h.0, stands_kept tree body scope 0 h.1)
    stmt_kept tree node scope (stmt.ForBody update) h = if_kept tree node scope update h
    stmt_kept tree node scope (stmt.VisitsObject body) h = stands_kept tree body scope 0 h
    stmt_kept tree node scope (stmt.VisitTarget body) h = stands_kept tree body scope 0 h
    stmt_kept tree node scope (stmt.VisitBody body) h = stands_kept tree body scope 0 h
    stmt_kept tree node scope (stmt.TryBlock last) h = if_kept tree node scope last h
    stmt_kept tree node scope (stmt.TryHandler last) h = if_kept tree node scope last h
    stmt_kept tree node scope (stmt.WithinWorld block) h = stands_kept tree block scope 0 h
    stmt_kept tree node scope p h = tt

    call_kept : (tree : ℕ) (node : NodeId) (scope : ObjId) (p : CallPoint) → CallPointStands units old tree node scope p
        → CallPointStands units new tree node scope p
    call_kept tree node scope (call.BodyElement i) h = function_kept tree node scope 1 h
    call_kept tree node scope (call.BodyValue i) h = function_kept tree node scope 1 h
    call_kept tree node scope p h = tt

    pub point_kept : (tree : ℕ) (node : NodeId) (scope : ObjId) (p : Point) → PointStands units old tree node scope p → PointStands units new tree node scope p
    point_kept tree node scope (points.Expr p) h = expr_kept tree node scope p h
    point_kept tree node scope (points.Stmt p) h = stmt_kept tree node scope p h
    point_kept tree node scope (points.Call p) h = call_kept tree node scope p h
    point_kept tree node scope (points.Native k again i) h = tt

    pub frame_kept : (f : Frame) → FrameStands units old f → FrameStands units new f
    frame_kept f h = record { node = stands_kept f.tree f.node f.scope 0 h.node; shown = shown_kept f.world h.shown }

-- ---- fewer scopes

fewer : (arena : Objects) (o : ObjId) (n : ℕ) → Outwards arena o (suc n) → Outwards arena o n
fewer arena o zero h = tt
fewer arena o (suc n) h = (h.0, h.1, fewer arena h.0 n h.2)

all_fewer : (arena : Objects) (o : ObjId) (k n : ℕ) → Outwards arena o (k + n) → Outwards arena o n
all_fewer arena o zero n h = let e : 0 + n ≡ n = omega arith in subst (Outwards arena o) e h
all_fewer arena o (suc k) n h = let e : suc k + n ≡ suc (k + n) = omega arith in all_fewer arena o k n (fewer arena o (k + n) (subst (Outwards arena o) e h))

pub stands_fewer : (units : List Program) (arena : Objects) (tree : ℕ) (node : NodeId) (scope : ObjId) (more : ℕ) → Stands units arena tree node scope more
    → Stands units arena tree node scope 0
stands_fewer units arena tree node scope more s = record { unit = s.unit; found = s.found; arguments = s.arguments; scopes = s.scopes; around = s.around; outwards = let e : length s.scopes ≡ 0 + length s.scopes = omega arith in subst (Outwards arena scope) e (all_fewer arena scope more (length s.scopes) s.outwards) }

-- ---- a scope inside another

pub stands_inner : (units : List Program) (arena : Objects) (tree : ℕ) (node : NodeId) (scope inner : ObjId) (more next : ℕ) → next ≡ suc more
    → scope_of arena inner ≡ Some scope → Stands units arena tree node scope more → Stands units arena tree node inner next
stands_inner units arena tree node scope inner more next is e s = record { unit = s.unit; found = s.found; arguments = s.arguments; scopes = s.scopes; around = s.around; outwards = let count : suc (more + length s.scopes) ≡ next + length s.scopes = omega (arith, is) in subst (Outwards arena inner) count (scope, e, s.outwards) }

-- inside its own scope the body of a function has begun
pub function_begins : (units : List Program) (arena : Objects) (tree : ℕ) (node : NodeId) (scope inner : ObjId) → scope_of arena inner ≡ Some scope
    → IsFunction units arena tree node scope 0 → IsFunction units arena tree node inner 1
unfolding stands_inner
function_begins units arena tree node scope inner e f = record { function = f.function; is = f.is; stands = stands_inner units arena tree node scope inner (0 + own_scopes f.function) (1 + own_scopes f.function) (omega arith) e f.stands; has = f.has }

-- ---- the parts of a node

leads_more : (ns : List Node) (a : Option TextId) (way : List (NodeId × Side)) (i : NodeId) (scopes : List Scope) (j : NodeId) (found : List Scope) (node : Node) (part : NodeId × Side) (inner : List Scope)
    → Leads ns a i scopes way j found → Has ns j node → IsAmong (parts node) part → Enters ns a node part.1 found inner → Leads ns a i scopes (way ++ part ∷ []) part.0 inner
leads_more ns a [] i scopes j found node part inner l there among enters = (node, inner, subst (λ (z : NodeId). Has ns z node) l.0 there, among, subst (λ z. Enters ns a node part.1 z inner) l.1 enters, (refl, refl))
leads_more ns a (p ∷ way) i scopes j found node part inner l there among enters = (l.0, l.1, l.2, l.3, l.4, leads_more ns a way p.0 l.1 j found node part inner l.5 there among enters)

module _ (units : List Program) (arena : Objects) (tree : ℕ) (node : NodeId) (scope : ObjId) where
  -- a part that stands in the scopes around the node
  pub part_stands : (n : Node) (j : NodeId) (s : Stands units arena tree node scope 0) → Has s.unit.program.nodes node n → IsAmong (parts n) (j, Around)
      → Stands units arena tree j scope 0
  part_stands n j s there among = record {
    unit = s.unit;
    found = s.found;
    arguments = s.arguments;
    scopes = s.scopes;
    around = (s.around.0 ++ (j, Around) ∷ [], leads_more s.unit.program.nodes s.arguments s.around.0 s.unit.program.body [] node s.scopes n (j, Around) s.scopes s.around.1 there among refl);
    outwards = s.outwards;
  }

  -- the block of a `catch`, in a scope with its name
  pub caught_stands : (n : Node) (j : NodeId) (x : TextId) (inner : ObjId) (s : Stands units arena tree node scope 0) → Has s.unit.program.nodes node n
      → IsAmong (parts n) (j, Caught x) → scope_of arena inner ≡ Some scope → Stands units arena tree j inner 0
  caught_stands n j x inner s there among e = record {
    unit = s.unit;
    found = s.found;
    arguments = s.arguments;
    scopes = (x ∷ []) ∷ s.scopes;
    around = (s.around.0 ++ (j, Caught x) ∷ [], leads_more s.unit.program.nodes s.arguments s.around.0 s.unit.program.body [] node s.scopes n (j, Caught x) ((x ∷ []) ∷ s.scopes) s.around.1 there among refl);
    outwards = let count : suc (0 + length s.scopes) ≡ 0 + suc (length s.scopes) = omega arith in subst (Outwards arena inner) count (scope, e, s.outwards);
  }

-- ---- the elements of a function

function_body : (n : Node) → is_function n ≡ true → is_body n ≡ true
function_body (nodes.Function name formals list) e = refl
function_body (nodes.FunctionDecl name formals list) e = refl
function_body n e = absurd (cc)

among_side : (side : Side) (l : List NodeId) (j : NodeId) → IsAmong l j → IsAmong (on_side side l) (j, side)
among_side side [] j h = h
among_side side (x ∷ l) j (inl e) = inl (ap (λ (i : NodeId). (i, side)) e)
among_side side (x ∷ l) j (inr h) = inr (among_side side l j h)

among_elements : (n : Node) (j : NodeId) → is_function n ≡ true → IsAmong (elements_of n) j → IsAmong (parts n) (j, Inside)
among_elements (nodes.Function name formals list) j e h = among_side Inside list j h
among_elements (nodes.FunctionDecl name formals list) j e h = among_side Inside list j h
among_elements n j e h = absurd (cc)

leads_plain : (ns : List Node) (a : Option TextId) (way : List (NodeId × Side)) (i : NodeId) (scopes : List Scope) (j : NodeId) (found : List Scope)
    → Leads ns a i scopes way j found → LeadsTo ns i way j
leads_plain ns a [] i scopes j found l = l.0
leads_plain ns a (p ∷ way) i scopes j found l = (l.0, l.2, l.3, leads_plain ns a way p.0 l.1 j found l.5)

named_length : (o : Option TextId) (scopes : List Scope) → count_of o + length scopes ≡ length (with_own_name o scopes)
named_length None scopes = omega arith
named_length (Some x) scopes = omega arith

-- an element of a function whose body has begun
pub element_stands : (units : List Program) (arena : Objects) (tree : ℕ) (node : NodeId) (scope : ObjId) (j : NodeId) (f : IsFunction units arena tree node scope 1)
    → IsScript f.stands.unit.program.nodes f.stands.unit.program.body → IsAmong (elements_of f.function) j → Stands units arena tree j scope 0
element_stands units arena tree node scope j f script among =
    let s = f.stands in
    let ns = s.unit.program.nodes in
    let body = s.unit.program.body in
    let there = bodies_are_there ns body node f.function script (s.around.0, leads_plain ns s.arguments s.around.0 body [] node s.scopes s.around.1) f.has (function_body f.function f.is) in
    let n = there.0 in
    let same : f.function ≡ n = (let p = there.1 in let q = f.has in cc) in
    let elements = there.3 in
    let inner = in_function ns s.arguments n elements.0 s.scopes in
    let is_function_there = subst (λ (m : Node). is_function m ≡ true) same f.is in
    record {
      unit = s.unit;
      found = s.found;
      arguments = s.arguments;
      scopes = inner;
      around = (s.around.0 ++ (j, Inside) ∷ [], leads_more ns s.arguments s.around.0 body [] node s.scopes n (j, Inside) inner s.around.1 there.1 (among_elements n j is_function_there (subst (λ (m : Node). IsAmong (elements_of m) j) same among)) (elements.0, elements.1, refl));
      outwards =
          let count : (1 + own_scopes n) + length s.scopes ≡ 0 + suc (length (with_own_name (own_name n) s.scopes)) = (let e = named_length (own_name n) s.scopes in omega (arith, e)) in
          subst (Outwards arena scope) count (subst (λ (m : Node). Outwards arena scope ((1 + own_scopes m) + length s.scopes)) same s.outwards);
    }
