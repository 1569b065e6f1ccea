-- What the walk does to the names, of the trees that nodes stand for.
use Rattle.std.specs.Prelude.{◌≡◌, true, List, map, Option, Some, None}
use Rattle.wjs_base.specs.declared.ids.TextId.{TextId}
use Rattle.wjs_base.specs.declared.ids.NodeId.{NodeId}
use Rattle.wjs_tree.specs.declared.node.Node.{Node}
use Rattle.wjs_tree.specs.declared.node.Clause.{Clause}
use Rattle.wjs_tree.specs.declared.node.Declarator.{Declarator}
use Rattle.wjs_tree.specs.declared.node.ForInit.{ForInit}
use Rattle.wjs_tree.specs.declared.node.ForInit.TheVariants as inits
use Rattle.wjs_tree.specs.declared.node.Node.TheVariants as nodes
use Rattle.wjs_tree.specs.Trees.{Stmt, Stmts, Clauses, Elements}
use Rattle.wjs_tree.specs.Shows.{Has}
use Rattle.wjs_scope.specs.Declarations.{names_declared, all_declared, clauses_declared, elements_declared, with_names, is_body, elements_of}
use Rattle.wjs_tree.specs.Forms.{IsPart, AreParts, AreClauses, AreElements, HasForm}
use Rattle.wjs_tree.specs.There.{ElementsThere}

-- the node is a body's, of a script or a function, whose height is at most 200
abbrev pub BodyThere : List Node → NodeId → Type 0
BodyThere ns i = (node : Node) × Has ns i node × (is_body node ≡ true) × ElementsThere ns 200 (elements_of node)

-- to the names v the statement adds what it declares, which gives w
abbrev pub StmtAdds : List Node → NodeId → List TextId → List TextId → Type 0
StmtAdds ns i v w = (t : Stmt) → IsPart ns t i → w ≡ with_names v (names_declared t)

-- the same where there is a node, else nothing
abbrev pub OptionAdds : List Node → Option NodeId → List TextId → List TextId → Type 0
OptionAdds ns None v w = w ≡ v
OptionAdds ns (Some i) v w = StmtAdds ns i v w

abbrev pub StmtsAdds : List Node → List NodeId → List TextId → List TextId → Type 0
StmtsAdds ns list v w = (t : Stmts) → AreParts ns t list → w ≡ with_names v (all_declared t)

abbrev pub ClausesAdd : List Node → List Clause → List TextId → List TextId → Type 0
ClausesAdd ns list v w = (t : Clauses) → AreClauses ns t list → w ≡ with_names v (clauses_declared t)

abbrev pub ElementsAdd : List Node → List NodeId → List TextId → List TextId → Type 0
ElementsAdd ns list v w = (t : Elements) → AreElements ns t list → w ≡ with_names v (elements_declared t)

-- an element that is a function adds nothing
pub record ElementAdds (ns : List Node) (i : NodeId) (v w : List TextId) : Type 0 where
  pub statement : StmtAdds ns i v w
  pub function : (x : TextId) (formals : List TextId) (body : List NodeId) → Has ns i (nodes.FunctionDecl x formals body) → w ≡ v

abbrev pub FormAdds : List Node → Node → List TextId → List TextId → Type 0
FormAdds ns n v w = (t : Stmt) → HasForm ns n t → w ≡ with_names v (names_declared t)

-- the names of the declarators are added
abbrev pub VariablesAdd : List Declarator → List TextId → List TextId → Type 0
VariablesAdd list v w = w ≡ with_names v (map (λ (d : Declarator). d.name) list)

abbrev pub InitAdds : ForInit → List TextId → List TextId → Type 0
InitAdds inits.Nothing v w = w ≡ v
InitAdds (inits.Expr a) v w = w ≡ v
InitAdds (inits.Var list) v w = VariablesAdd list v w
