-- The lists and names of a node, which its points tell by number, and the parts of a loop. Where the node is of another form there are none.
use Rattle.std.specs.Prelude.{ℕ, List, [], Option, None}
use Rattle.wjs_by_content.specs.Values.{Text}
use Rattle.wjs_meaning.specs.Trees.{Node, Key, InitVar, ArrayLit, ObjectLit, Dot, Call, NewWith, Block, Var, For, ForIn, ForVarIn, Label, Switch, Try, Program}
use Rattle.wjs_meaning.specs.Deeds.{Act, Ret, Normal}
use Rattle.wjs_meaning.specs.Loops.{Taker, TargetNode, VarName}

-- ---- lists

-- the items of an array; an elision is none
abbrev pub items_of : Node → List (Option ℕ)
items_of (ArrayLit items) = items
items_of node = []

-- the pairs of an object
abbrev pub pairs_of : Node → List (Key × ℕ)
pairs_of (ObjectLit pairs) = pairs
pairs_of node = []

-- the arguments of a call or of `new`
abbrev pub arguments_of : Node → List ℕ
arguments_of (Call f args) = args
arguments_of (NewWith f args) = args
arguments_of node = []

-- the `var`s of a statement, or those of a `for`
abbrev pub variables_of : Node → List (Text × Option ℕ)
variables_of (Var xs) = xs
variables_of (For (InitVar xs) t u s) = xs
variables_of node = []

-- the statements of a block
abbrev pub block_items : Node → List ℕ
block_items (Block ss) = ss
block_items node = []

-- the clauses of a `switch`
abbrev pub clauses_of : Node → List (Option ℕ × List ℕ)
clauses_of (Switch e clauses) = clauses
clauses_of node = []

-- the elements of a program
abbrev pub program_elements : Node → List ℕ
program_elements (Program elements) = elements
program_elements node = []

-- ---- names and parts

-- the name of a member behind a dot
abbrev pub if_dot : Node → (Text → Act) → Act
if_dot (Dot e name) go = go name
if_dot node go = Ret Normal

-- a statement's label
abbrev pub if_label : Node → (Text → Act) → Act
if_label (Label name s) go = go name
if_label node go = Ret Normal

-- what takes the names that a `for`-`in` visits
abbrev pub if_visits : Node → (Taker → Act) → Act
if_visits (ForIn t e s) go = go (TargetNode t)
if_visits (ForVarIn name e s) go = go (VarName name)
if_visits node go = Ret Normal

-- the test, the update and the body of a `for`
abbrev pub if_for : Node → (Option ℕ → Option ℕ → ℕ → Act) → Act
if_for (For first t u s) go = go t u s
if_for node go = Ret Normal

-- the name and the block of a `catch`
abbrev pub handler_of : Node → Option (Text × ℕ)
handler_of (Try b handler f) = handler
handler_of node = None
