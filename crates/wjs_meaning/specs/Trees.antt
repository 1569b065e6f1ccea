-- Trees of programs by content: their nodes by number, each with its parts, a child by its number.
use Rattle.std.specs.Prelude.{ℕ, zero, suc, Bool, true, false, List, [], ◌∷◌, drop, Option, None, Some, slice_get, unwrap_or}
use Rattle.wjs_tree.specs.declared.operators.UpdateOperator.{UpdateOperator}
use Rattle.wjs_tree.specs.declared.operators.PrefixOperator.{PrefixOperator}
use Rattle.wjs_tree.specs.declared.operators.BinaryOperator.{BinaryOperator}
use Rattle.wjs_tree.specs.declared.operators.AssignOperator.{AssignOperator}
use Rattle.wjs_by_content.specs.Values.{Text, Whole, same_text}

-- the key of a property: how a word, a text or a reserved word is spelled, or a number (ECMA-262, 3rd edition, section 11.1.5)
pub data Key : Type 0 where
  Spelled : Text → Key
  Numeral : Whole → Key

-- what stands first in the header of a `for` (12.6.3)
pub data Init : Type 0 where
  NoInit : Init
  InitExpr : ℕ → Init
  InitVar : List (Text × Option ℕ) → Init

-- the forms of the language: expressions (11), statements (12), functions (13) and programs (14)
pub data Node : Type 0 where
  Name : Text → Node
  NumberLit : Whole → Node
  TextLit : Text → Node
  This : Node
  ThisWorld : Node
  NullLit : Node
  BoolLit : Bool → Node
  Paren : ℕ → Node
  -- the items, of which one may be left out
  ArrayLit : List (Option ℕ) → Node
  ObjectLit : List (Key × ℕ) → Node
  -- the name, the formals, and the elements of the body
  Function : Option Text → List Text → List ℕ → Node
  Dot : ℕ → Text → Node
  At : ℕ → ℕ → Node
  Call : ℕ → List ℕ → Node
  NewWith : ℕ → List ℕ → Node
  NewBare : ℕ → Node
  Postfix : ℕ → UpdateOperator → Node
  Prefix : PrefixOperator → ℕ → Node
  Binary : ℕ → BinaryOperator → ℕ → Node
  Cond : ℕ → ℕ → ℕ → Node
  Assign : ℕ → AssignOperator → ℕ → Node
  Comma : ℕ → ℕ → Node
  Block : List ℕ → Node
  Var : List (Text × Option ℕ) → Node
  Empty : Node
  Expr : ℕ → Node
  If : ℕ → ℕ → Option ℕ → Node
  DoWhile : ℕ → ℕ → Node
  While : ℕ → ℕ → Node
  For : Init → Option ℕ → Option ℕ → ℕ → Node
  ForIn : ℕ → ℕ → ℕ → Node
  ForVarIn : Text → ℕ → ℕ → Node
  Continue : Option Text → Node
  Break : Option Text → Node
  Return : Option ℕ → Node
  Throw : ℕ → Node
  Label : Text → ℕ → Node
  -- a clause without expression is `default`
  Switch : ℕ → List (Option ℕ × List ℕ) → Node
  Try : ℕ → Option (Text × ℕ) → Option ℕ → Node
  Within : ℕ → ℕ → Node
  FunctionDecl : Text → List Text → List ℕ → Node
  Program : List ℕ → Node

-- where a name is found: in the scope so many scopes outwards, or as a property of the global object (10.1.4)
pub data Place : Type 0 where
  Local : ℕ → Place
  Global : Place

-- one program: its nodes, its body, and where its names are found
pub record Tree : Type 0 where
  pub nodes : List Node
  pub body : ℕ
  -- for each node the places of its own names, in order: of a Name its place, else of the names that its `var` declares
  pub places : List (List Place)

abbrev pub empty_tree : Tree
empty_tree = record { nodes = []; body = 0; places = [] }

-- the program of a number
abbrev pub tree_at : List Tree → ℕ → Tree
tree_at trees k = unwrap_or (slice_get trees k) empty_tree

-- the node of a number
abbrev pub node_at : Tree → ℕ → Node
node_at tree k = unwrap_or (slice_get tree.nodes k) Empty

-- the place of the name of this number among a node's own names
abbrev pub name_place : Tree → ℕ → ℕ → Place
name_place tree k i = unwrap_or (slice_get (unwrap_or (slice_get tree.places k) []) i) Global

-- ---- functions

-- a function's own name
abbrev pub name_of : Node → Option Text
name_of (Function name formals elements) = name
name_of (FunctionDecl name formals elements) = Some name
name_of _ = None

abbrev pub formals_of : Node → List Text
formals_of (Function name formals elements) = formals
formals_of (FunctionDecl name formals elements) = formals
formals_of _ = []

-- the elements of a function's body or a program's
abbrev pub elements_of : Node → List ℕ
elements_of (Function name formals elements) = elements
elements_of (FunctionDecl name formals elements) = elements
elements_of (Program elements) = elements
elements_of _ = []

-- ---- targets

-- a Name, a Dot, an At, or a Paren of a target
abbrev pub is_target_form : Node → (ℕ → Bool) → Bool
is_target_form (Name name) inner = true
is_target_form (Dot e name) inner = true
is_target_form (At e i) inner = true
is_target_form (Paren e) inner = inner e
is_target_form _ inner = false

-- with at most so many Parens
abbrev pub is_target_to : ℕ → Tree → ℕ → Bool
is_target_to zero tree k = false
is_target_to (suc depth) tree k = is_target_form (node_at tree k) (λ e. is_target_to depth tree e)

-- the node is a target; a child's number is below its parent's
abbrev pub is_target : Tree → ℕ → Bool
is_target tree k = is_target_to (suc k) tree k

-- ---- labels

-- the labels of the Labels that come first
abbrev pub first_labels : List Node → List Text
first_labels (Label name s ∷ nodes) = name ∷ first_labels nodes
first_labels _ = []

-- the labels of a statement: those of the Labels that it stands in with no other statement between (12.12); a Label's number
-- is the one behind its statement's
abbrev pub labels : Tree → ℕ → List Text
labels tree s = first_labels (drop (suc s) tree.nodes)

-- whether the text is in the list
abbrev pub has_text : List Text → Text → Bool
has_text [] name = false
has_text (x ∷ xs) name = elim (same_text x name) [ true ↦ true | false ↦ has_text xs name ]
