-- The parts of a node that stands for a tree stand for trees, each made of nodes of its own.
use Rattle.std.specs.Prelude.{◌≡◌, ℕ, ◌-◌, ◌≤◌, List, [], ◌∷◌, ◌++◌, Option}
use Rattle.std.proofs.Common.{refl, sym, ap, subst, ◌∙◌, arith, append_assoc, append-nil}
use Rattle.wjs_base.specs.declared.ids.TextId.{TextId}
use Rattle.wjs_base.specs.declared.ids.NodeId.{NodeId}
use Rattle.wjs_tree.specs.declared.node.Node.{Node}
use Rattle.wjs_tree.specs.declared.node.Node.TheVariants as nodes
use Rattle.wjs_tree.specs.declared.node.Property.{Property as Pair}
use Rattle.wjs_tree.specs.declared.node.Declarator.{Declarator}
use Rattle.wjs_tree.specs.declared.node.ForInit.{ForInit}
use Rattle.wjs_tree.specs.declared.node.Clause.{Clause}
use Rattle.wjs_tree.specs.Trees.{Expr, Optional, Arguments, Items, Properties, Variables, Init, Stmt, Stmts, Clauses, Elements, Absent, Present, NoArgument, Argument, NoItem, Hole, Item, LastItem, NoProperty, Property, LastProperty, NoVariable, Variable, NoInit, InitExpr, InitVar, NoStmt, MoreStmts, NoClause, Case, Default, NoElement, Statement, FunctionDecl}
use Rattle.wjs_tree.specs.Height.{height, optional_height, arguments_height, items_height, properties_height, variables_height, init_height, stmt_height, stmts_height, clauses_height, elements_height}
use Rattle.wjs_tree.specs.Shows.{Has, Shows, OptionalShows, ArgumentsShow, ItemsShow, PropertiesShow, VariablesShow, InitShows, StmtShows, StmtsShow, ClausesShow, ElementsShow}
use Rattle.wjs_scope.specs.Nesting.{Side, Around, option_part, item_parts, property_parts, initialisers, init_parts, clause_parts, on_side, parts}
use Rattle.wjs_scope.specs.Visits.{HasElements}

-- the height that is left on a side of a node
abbrev pub left_on : Side → ℕ → ℕ
left_on Around room = room
left_on _ room = room - 1

-- a body of elements within a node of this height
abbrev pub BodyStands : List Node → ℕ → NodeId → List NodeId → List ℕ → Type 0
BodyStands ns room i list used = (t : Elements) × (us : List ℕ) × (used ≡ i.0 ∷ us) × ElementsShow ns t list us × (elements_height t ≤ room)

-- the node stands for a tree of at most this height, made of the nodes of these numbers
pub data Stands (ns : List Node) (room : ℕ) (i : NodeId) (used : List ℕ) : Type 0 where
  AsExpr : (t : Expr) → Shows ns t i used → height t ≤ room → Stands ns room i used
  AsStmt : (t : Stmt) → StmtShows ns t i used → stmt_height t ≤ room → Stands ns room i used
  AsFunction : (x : TextId) (formals : List TextId) (list : List NodeId) → Has ns i (nodes.FunctionDecl x formals list) → BodyStands ns (room - 1) i list used → 1 ≤ room → Stands ns room i used
  AsScript : (list : List NodeId) → Has ns i (nodes.Program list) → BodyStands ns room i list used → 1 ≤ room → Stands ns room i used

-- each of the parts stands for a tree; together they are made of the nodes of these numbers
abbrev pub AllStand : List Node → ℕ → List (NodeId × Side) → List ℕ → Type 0
AllStand ns room [] used = used ≡ []
AllStand ns room (p ∷ more) used = (us vs : List ℕ) × (used ≡ us ++ vs) × Stands ns (left_on p.1 room) p.0 us × AllStand ns room more vs

-- a node and its parts
pub record Splits (ns : List Node) (room : ℕ) (i : NodeId) (used : List ℕ) (node : Node) : Type 0 where
  pub rest : List ℕ
  pub is : used ≡ i.0 ∷ rest
  pub some : 1 ≤ room
  pub elements : HasElements ns node
  pub each : AllStand ns room (parts node) rest

pub one : (ns : List Node) (room : ℕ) (i : NodeId) (side : Side) (us : List ℕ) → Stands ns (left_on side room) i us → AllStand ns room ((i, side) ∷ []) us
one ns room i side us s = (us, [], sym (append-nil us), s, refl)

pub both : (ns : List Node) (room : ℕ) (xs ys : List (NodeId × Side)) (us vs : List ℕ) → AllStand ns room xs us → AllStand ns room ys vs → AllStand ns room (xs ++ ys) (us ++ vs)
both ns room [] ys us vs a b = subst (λ z. AllStand ns room ys (z ++ vs)) (sym a) b
both ns room (p ∷ xs) ys us vs a b = (a.0, a.1 ++ vs, ap (λ z. z ++ vs) a.2 ∙ append_assoc a.0 a.1 vs, a.3, both ns room xs ys a.1 vs a.4 b)

pub expr : (ns : List Node) (room : ℕ) (t : Expr) (i : NodeId) (us : List ℕ) → Shows ns t i us → height t ≤ room → AllStand ns room ((i, Around) ∷ []) us
expr ns room t i us h low = one ns room i Around us (AsExpr t h low)

pub stmt : (ns : List Node) (room : ℕ) (t : Stmt) (i : NodeId) (us : List ℕ) → StmtShows ns t i us → stmt_height t ≤ room → AllStand ns room ((i, Around) ∷ []) us
stmt ns room t i us h low = one ns room i Around us (AsStmt t h low)

pub around : (xs ys : List NodeId) → on_side Around (xs ++ ys) ≡ on_side Around xs ++ on_side Around ys
around [] ys = refl
around (x ∷ xs) ys = ap (λ z. (x, Around) ∷ z) (around xs ys)

-- lists of parts, one behind the other
pub joined : (ns : List Node) (room : ℕ) (xs ys : List NodeId) (us vs : List ℕ) → AllStand ns room (on_side Around xs) us → AllStand ns room (on_side Around ys) vs → AllStand ns room (on_side Around (xs ++ ys)) (us ++ vs)
joined ns room xs ys us vs a b = subst (λ z. AllStand ns room z (us ++ vs)) (sym (around xs ys)) (both ns room (on_side Around xs) (on_side Around ys) us vs a b)

pub optional : (ns : List Node) (room : ℕ) (t : Optional) (o : Option NodeId) (us : List ℕ) → OptionalShows ns t o us → optional_height t ≤ room → AllStand ns room (on_side Around (option_part o)) us
optional ns room Absent o us h low = subst (λ z. AllStand ns room (on_side Around (option_part z)) us) (sym h.0) h.1
optional ns room (Present e) o us h low = subst (λ z. AllStand ns room (on_side Around (option_part z)) us) (sym h.1) (expr ns room e h.0 us h.2 low)

pub arguments : (ns : List Node) (room : ℕ) (t : Arguments) (list : List NodeId) (us : List ℕ) → ArgumentsShow ns t list us → arguments_height t ≤ room → AllStand ns room (on_side Around list) us
arguments ns room NoArgument list us h low = subst (λ z. AllStand ns room (on_side Around z) us) (sym h.0) h.1
arguments ns room (Argument e rest) list us h low = subst (λ z. AllStand ns room (on_side Around z) us) (sym h.4) (h.2, h.3, h.5, AsExpr e h.6 (omega arith), arguments ns room rest h.1 h.3 h.7 (omega arith))

pub items : (ns : List Node) (room : ℕ) (t : Items) (list : List (Option NodeId)) (us : List ℕ) → ItemsShow ns t list us → items_height t ≤ room → AllStand ns room (on_side Around (item_parts list)) us
items ns room NoItem list us h low = subst (λ z. AllStand ns room (on_side Around (item_parts z)) us) (sym h.0) h.1
items ns room (Hole rest) list us h low = subst (λ z. AllStand ns room (on_side Around (item_parts z)) us) (sym h.1) (items ns room rest h.0 us h.2 low)
items ns room (Item e rest) list us h low = subst (λ z. AllStand ns room (on_side Around (item_parts z)) us) (sym h.4) (h.2, h.3, h.5, AsExpr e h.6 (omega arith), items ns room rest h.1 h.3 h.7 (omega arith))
items ns room (LastItem e) list us h low = subst (λ z. AllStand ns room (on_side Around (item_parts z)) us) (sym h.1) (expr ns room e h.0 us h.2 low)

pub properties : (ns : List Node) (room : ℕ) (t : Properties) (list : List Pair) (us : List ℕ) → PropertiesShow ns t list us → properties_height t ≤ room → AllStand ns room (on_side Around (property_parts list)) us
properties ns room NoProperty list us h low = subst (λ z. AllStand ns room (on_side Around (property_parts z)) us) (sym h.0) h.1
properties ns room (Property key e rest) list us h low = subst (λ z. AllStand ns room (on_side Around (property_parts z)) us) (sym h.4) (h.2, h.3, h.5, AsExpr e h.6 (omega arith), properties ns room rest h.1 h.3 h.7 (omega arith))
properties ns room (LastProperty key e) list us h low = subst (λ z. AllStand ns room (on_side Around (property_parts z)) us) (sym h.1) (expr ns room e h.0 us h.2 low)

pub variables : (ns : List Node) (room : ℕ) (t : Variables) (list : List Declarator) (us : List ℕ) → VariablesShow ns t list us → variables_height t ≤ room → AllStand ns room (on_side Around (initialisers list)) us
variables ns room NoVariable list us h low = subst (λ z. AllStand ns room (on_side Around (initialisers z)) us) (sym h.0) h.1
variables ns room (Variable x e rest) list us h low =
    subst (λ z. AllStand ns room (on_side Around (initialisers z)) us) (sym h.4)
    (subst (AllStand ns room (on_side Around (option_part h.0 ++ initialisers h.1))) (sym h.5)
    (joined ns room (option_part h.0) (initialisers h.1) h.2 h.3 (optional ns room e h.0 h.2 h.6 (omega arith)) (variables ns room rest h.1 h.3 h.7 (omega arith))))

pub init : (ns : List Node) (room : ℕ) (t : Init) (f : ForInit) (us : List ℕ) → InitShows ns t f us → init_height t ≤ room → AllStand ns room (on_side Around (init_parts f)) us
init ns room NoInit f us h low = subst (λ z. AllStand ns room (on_side Around (init_parts z)) us) (sym h.0) h.1
init ns room (InitExpr e) f us h low = subst (λ z. AllStand ns room (on_side Around (init_parts z)) us) (sym h.1) (expr ns room e h.0 us h.2 low)
init ns room (InitVar vs) f us h low = subst (λ z. AllStand ns room (on_side Around (init_parts z)) us) (sym h.1) (variables ns room vs h.0 us h.2 low)

pub stmts : (ns : List Node) (room : ℕ) (t : Stmts) (list : List NodeId) (us : List ℕ) → StmtsShow ns t list us → stmts_height t ≤ room → AllStand ns room (on_side Around list) us
stmts ns room NoStmt list us h low = subst (λ z. AllStand ns room (on_side Around z) us) (sym h.0) h.1
stmts ns room (MoreStmts s rest) list us h low = subst (λ z. AllStand ns room (on_side Around z) us) (sym h.4) (h.2, h.3, h.5, AsStmt s h.6 (omega arith), stmts ns room rest h.1 h.3 h.7 (omega arith))

pub clauses : (ns : List Node) (room : ℕ) (t : Clauses) (list : List Clause) (us : List ℕ) → ClausesShow ns t list us → clauses_height t ≤ room → AllStand ns room (on_side Around (clause_parts list)) us
clauses ns room NoClause list us h low = subst (λ z. AllStand ns room (on_side Around (clause_parts z)) us) (sym h.0) h.1
clauses ns room (Case e body rest) list us h low =
    subst (λ z. AllStand ns room (on_side Around (clause_parts z)) us) (sym h.6)
    (subst (AllStand ns room (on_side Around (((h.0 ∷ []) ++ h.1) ++ clause_parts h.2))) (sym (h.7 ∙ sym (append_assoc h.3 h.4 h.5)))
    (joined ns room ((h.0 ∷ []) ++ h.1) (clause_parts h.2) (h.3 ++ h.4) h.5
    (joined ns room (h.0 ∷ []) h.1 h.3 h.4 (expr ns room e h.0 h.3 h.8 (omega arith)) (stmts ns room body h.1 h.4 h.9 (omega arith))) (clauses ns room rest h.2 h.5 h.10 (omega arith))))
clauses ns room (Default body rest) list us h low =
    subst (λ z. AllStand ns room (on_side Around (clause_parts z)) us) (sym h.4)
    (subst (AllStand ns room (on_side Around (h.0 ++ clause_parts h.1))) (sym h.5)
    (joined ns room h.0 (clause_parts h.1) h.2 h.3 (stmts ns room body h.0 h.2 h.6 (omega arith)) (clauses ns room rest h.1 h.3 h.7 (omega arith))))

-- the elements of a body, on the side of a script's or of a function's
pub elements : (ns : List Node) (room : ℕ) (side : Side) (t : Elements) (list : List NodeId) (us : List ℕ) → ElementsShow ns t list us → elements_height t ≤ left_on side room → AllStand ns room (on_side side list) us
elements ns room side NoElement list us h low = subst (λ z. AllStand ns room (on_side side z) us) (sym h.0) h.1
elements ns room side (Statement s rest) list us h low = subst (λ z. AllStand ns room (on_side side z) us) (sym h.4) (h.2, h.3, h.5, AsStmt s h.6 (omega arith), elements ns room side rest h.1 h.3 h.7 (omega arith))
elements ns room side (FunctionDecl x formals body rest) list us h low =
    subst (λ z. AllStand ns room (on_side side z) us) (sym h.5)
    (h.0.0 ∷ h.3, h.4, h.6, AsFunction x formals h.1 h.7 (body, h.3, refl, h.8, omega arith) (omega arith), elements ns room side rest h.2 h.4 h.9 (omega arith))
