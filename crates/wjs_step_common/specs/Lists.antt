-- The lists that stand in nodes.
use Rattle.std.specs.Prelude.{List, [], ◌∷◌, ◌++◌, Option, None, Some}
use Rattle.wjs_base.specs.declared.ids.NodeId.{NodeId}
use Rattle.wjs_tree.specs.declared.node.Clause.{Clause}
use Rattle.wjs_tree.specs.declared.node.Node.{Node as NumberedNode}
use Rattle.wjs_tree.specs.declared.node.Node.TheVariants as form
use Rattle.wjs_props.specs.declared.visits.Visit.{Visit}
use Rattle.wjs_model.specs.declared.frame.Held.{Held}
use Rattle.wjs_model.specs.declared.frame.Held.TheVariants as holds

-- the statements of a block
abbrev pub statements_in : NumberedNode → List NodeId
statements_in (form.Block ss) = ss
statements_in node = []

-- the clauses of a `switch`
abbrev pub clauses_in : NumberedNode → List Clause
clauses_in (form.Switch e clauses) = clauses
clauses_in node = []

-- the statements of the clauses
abbrev pub statements_of_clauses : List Clause → List NodeId
statements_of_clauses [] = []
statements_of_clauses (c ∷ cs) = c.body ++ statements_of_clauses cs

-- the first of a list
abbrev pub first_of : {A : Type 0} → List A → Option A
first_of [] = None
first_of (x ∷ xs) = Some x

-- visits as they are held
abbrev pub visits_as_items : List Visit → List Held
visits_as_items [] = []
visits_as_items (v ∷ vs) = holds.Visit (record { object = v.object; name = v.name }) ∷ visits_as_items vs
