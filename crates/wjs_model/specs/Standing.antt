-- Where frames and functions stand: at a node of a program, and inside as many scopes as stand around it.
use Rattle.std.specs.Prelude.{◌≡◌, ℕ, zero, suc, ◌+◌, Bool, true, false, List, length, Option, None, Some, slice_get}
use Rattle.wjs_base.specs.declared.ids.ObjId.{ObjId}
use Rattle.wjs_base.specs.declared.ids.TextId.{TextId}
use Rattle.wjs_base.specs.declared.ids.WorldId.{WorldId}
use Rattle.wjs_base.specs.declared.ids.NodeId.{NodeId}
use Rattle.wjs_tree.specs.declared.node.Node.{Node}
use Rattle.wjs_tree.specs.declared.node.Node.TheVariants as nodes
use Rattle.wjs_tree.specs.Shows.{Has}
use Rattle.wjs_arena.specs.declared.object.Code.{Code}
use Rattle.wjs_arena.specs.declared.object.Code.TheVariants as code
use Rattle.wjs_arena.specs.Entries.{Objects, scope_of, world_of}
use Rattle.wjs_scope.specs.Scopes.{Scope, own_name}
use Rattle.wjs_scope.specs.Nesting.{StandsAmong}
use Rattle.wjs_model.specs.declared.loaded.LoadedProgram.{LoadedProgram as Program}
use Rattle.wjs_model.specs.declared.point.ExprPoint.{ExprPoint}
use Rattle.wjs_model.specs.declared.point.ExprPoint.TheVariants as expr
use Rattle.wjs_model.specs.declared.point.StmtPoint.{StmtPoint}
use Rattle.wjs_model.specs.declared.point.StmtPoint.TheVariants as stmt
use Rattle.wjs_model.specs.declared.point.CallPoint.{CallPoint}
use Rattle.wjs_model.specs.declared.point.CallPoint.TheVariants as call
use Rattle.wjs_model.specs.declared.point.Point.{Point}
use Rattle.wjs_model.specs.declared.point.Point.TheVariants as points
use Rattle.wjs_model.specs.declared.frame.Activation.{Activation as Frame}

-- from a scope so many lead outwards, itself counted
abbrev pub Outwards : Objects → ObjId → ℕ → Type 0
Outwards arena o zero = Unit {0}
Outwards arena o (suc n) = (outer : ObjId) × (scope_of arena o ≡ Some outer) × Outwards arena outer n

-- the node is in the tree of its program, and as many scopes lead outwards as stand around it, and some more
pub record Stands (units : List Program) (arena : Objects) (tree : ℕ) (node : NodeId) (scope : ObjId) (more : ℕ) : Type 0 where
  pub unit : Program
  pub found : slice_get units tree ≡ Some unit
  pub arguments : Option TextId
  pub scopes : List Scope
  pub around : StandsAmong unit.program.nodes arguments unit.program.body node scopes
  pub outwards : Outwards arena scope (more + length scopes)

abbrev pub is_function : Node → Bool
is_function (nodes.Function name formals elements) = true
is_function (nodes.FunctionDecl name formals elements) = true
is_function node = false

-- the scope of a function expression's own name
abbrev pub count_of : Option TextId → ℕ
count_of None = 0
count_of (Some name) = 1

abbrev pub own_scopes : Node → ℕ
own_scopes node = count_of (own_name node)

-- the node is a function's; the scope of its own name counts as one around it, and so do some more
pub record IsFunction (units : List Program) (arena : Objects) (tree : ℕ) (node : NodeId) (scope : ObjId) (more : ℕ) : Type 0 where
  pub function : Node
  pub is : is_function function ≡ true
  pub stands : Stands units arena tree node scope (more + own_scopes function)
  pub has : Has stands.unit.program.nodes node function

-- an object stands for the world
abbrev pub IsShown : Objects → WorldId → Type 0
IsShown arena w = (o : ObjId) × (world_of arena o ≡ Some w)

-- at a point of a frame that runs a node of a tree in a scope: the nodes that come next stand there, and so does the function whose body runs
module _ (units : List Program) (arena : Objects) (tree : ℕ) (node : NodeId) (scope : ObjId) where
  abbrev pub PartStands : NodeId → Type 0
  PartStands part = Stands units arena tree part scope 0

  abbrev pub IfStands : Option NodeId → Type 0
  IfStands None = Unit {0}
  IfStands (Some part) = PartStands part

  abbrev pub ExprPointStands : ExprPoint → Type 0
  ExprPointStands (expr.IndexBase purpose index) = PartStands index
  ExprPointStands (expr.BinaryLeft op right) = PartStands right
  ExprPointStands (expr.CondTest one other) = PartStands one × PartStands other
  ExprPointStands (expr.AssignTarget sign right) = PartStands right
  ExprPointStands (expr.CommaLeft right) = PartStands right
  ExprPointStands _ = Unit {0}

  abbrev pub StmtPointStands : StmtPoint → Type 0
  StmtPointStands (stmt.IfTest one other) = PartStands one × IfStands other
  StmtPointStands (stmt.DoBody test) = PartStands test
  StmtPointStands (stmt.WhileTest body) = PartStands body
  StmtPointStands (stmt.ForTest update body) = IfStands update × PartStands body
  StmtPointStands (stmt.ForBody update) = IfStands update
  StmtPointStands (stmt.VisitsObject body) = PartStands body
  StmtPointStands (stmt.VisitTarget body) = PartStands body
  StmtPointStands (stmt.VisitBody body) = PartStands body
  StmtPointStands (stmt.TryBlock last) = IfStands last
  StmtPointStands (stmt.TryHandler last) = IfStands last
  StmtPointStands (stmt.WithinWorld block) = PartStands block
  StmtPointStands _ = Unit {0}

  abbrev pub CallPointStands : CallPoint → Type 0
  CallPointStands (call.BodyElement i) = IsFunction units arena tree node scope 1
  CallPointStands (call.BodyValue i) = IsFunction units arena tree node scope 1
  CallPointStands _ = Unit {0}

  abbrev pub PointStands : Point → Type 0
  PointStands (points.Expr point) = ExprPointStands point
  PointStands (points.Stmt point) = StmtPointStands point
  PointStands (points.Call point) = CallPointStands point
  PointStands (points.Native k new i) = Unit {0}

module _ (units : List Program) (arena : Objects) where
  -- a script's function has the node of one, and a scope
  abbrev pub FunctionStands : Code → Option ObjId → Type 0
  FunctionStands (code.Script tree node) (Some scope) = IsFunction units arena tree node scope 0
  FunctionStands (code.Script tree node) None = ⊥
  FunctionStands _ scope = Unit {0}

  pub record FrameStands (f : Frame) : Type 0 where
    pub node : Stands units arena f.tree f.node f.scope 0
    pub shown : IsShown arena f.world
