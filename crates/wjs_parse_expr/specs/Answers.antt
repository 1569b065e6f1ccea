-- What each reader answers: the tree that it reads, and that any other is shorter and stands before a token that may continue it.
use Rattle.std.specs.Prelude.{◌≡◌, ℕ, ◌+◌, ◌-◌, ◌<◌, ◌≤◌, ◌⊎◌, min, Bool, true, false, List, length, Option, Some, None}
use Rattle.std.specs.declared.result.Result.{Result}
use Rattle.std.specs.declared.result.Result.TheVariants.{Ok, Err}
use Rattle.wjs_base.specs.declared.ids.OutOfMemory.{OutOfMemory}
use Rattle.wjs_tree.specs.declared.tokens.Tok.{Tok}
use Rattle.wjs_tree.specs.declared.signs.Sign.TheVariants as signs
use Rattle.wjs_tree.specs.declared.node.Node.{Node}
use Rattle.wjs_tree.specs.declared.node.Spelt.{Spelt}
use Rattle.wjs_tree.specs.declared.node.PropertyKey.{PropertyKey}
use Rattle.wjs_tree.specs.declared.operators.BinaryOperator.{BinaryOperator}
use Rattle.wjs_tree.specs.declared.operators.AssignOperator.{AssignOperator}
use Rattle.wjs_tree.specs.declared.operators.UpdateOperator.{UpdateOperator}
use Rattle.wjs_tree.specs.declared.operators.PrefixOperator.{PrefixOperator}
use Rattle.wjs_tree.specs.Operators.{binary_token, assign_token, update_token, prefix_token, is_update, IsAllowed}
use Rattle.wjs_tree.specs.Trees.{Expr, Arguments, Items as TreeItems, Properties as TreeProperties}
use Rattle.wjs_tree.specs.Levels.{level, is_target, is_bare}
use Rattle.wjs_tree.specs.Children.{AreBelow, ItemsBelow, PropertiesBelow}
use Rattle.wjs_tree.specs.Ends.{token_at, HasToken, HasSign, IsJoined}
use Rattle.wjs_tree.specs.Spelling.{spelt_token, property_token}
use Rattle.wjs_tree.specs.Shows.{Has, Shows, ArgumentsShow, ItemsShow, PropertiesShow, has_tail, has_comma, Keeps}
use Rattle.wjs_parse_expr.specs.declared.functions.Functions.{Functions}
use Rattle.wjs_parse_expr.specs.declared.found.Found.{Found}
use Rattle.wjs_parse_expr.specs.declared.found.ParseFault.{ParseFault}
use Rattle.wjs_parse_expr.specs.declared.found.ParseFault.TheVariants as faults
use Rattle.wjs_parse_expr.specs.declared.parts.Part.{Part}
use Rattle.wjs_parse_expr.specs.declared.parts.Head.{Head}
use Rattle.wjs_parse_expr.specs.declared.parts.Listed.{Listed}
use Rattle.wjs_parse_expr.specs.declared.parts.ListedItems.{ListedItems}
use Rattle.wjs_parse_expr.specs.declared.parts.ListedProperties.{ListedProperties}
use Rattle.wjs_parse_expr.specs.Reach.{reach}
use Rattle.wjs_parse_expr.specs.Readings.{Reading, Continues}
use Rattle.wjs_parse_expr.specs.Table.{Holds, Owns}
use Rattle.wjs_parse_expr.specs.Steps.{Listing, ItemsListing, PropertiesListing, chain_level, InChain, IsHead}

-- where a reading began: the tokens, the functions, the nodes that were there, and the place
pub record Origin : Type 0 where
  pub toks : List Tok
  pub functions : Functions
  pub start : List Node
  pub at : ℕ

abbrev pub from : List Tok → Functions → List Node → ℕ → Origin
from toks functions start at = record { toks = toks; functions = functions; start = start; at = at }

-- The tree is read, and any other reading is shorter and stands before a token that may continue it.
pub record Best (toks : List Tok) (least : ℕ) (no_in : Bool) (room i : ℕ) (t : Expr) (n : ℕ) : Type 0 where
  pub reading : Reading toks least no_in room i t n
  pub longest : (u : Expr) (m : ℕ) → Reading toks least no_in room i u m → ((u ≡ t) × (m ≡ n)) ⊎ ((m < n) × Continues toks least no_in u m)

-- nothing is read
pub record Nothing (toks : List Tok) (least : ℕ) (no_in : Bool) (room i : ℕ) : Type 0 where
  pub none : (u : Expr) (m : ℕ) → Reading toks least no_in room i u m → ⊥

-- the part is the tree, made of nodes of its own
pub record IsPart (o : Origin) (ns : List Node) (p : Part) (t : Expr) : Type 0 where
  pub used : List ℕ
  pub shows : Shows ns t p.node used
  pub own : Owns o.functions o.start ns o.at p.next used
  pub is_target : p.is_target ≡ is_target t

pub record Finds (o : Origin) (toks : List Tok) (least : ℕ) (no_in : Bool) (room i : ℕ) (ns : List Node) (p : Part) : Type 0 where
  pub tree : Expr
  pub part : IsPart o ns p tree
  pub best : Best toks least no_in room i tree p.next

abbrev pub Answers : Origin → List Tok → ℕ → Bool → ℕ → ℕ → List Node → Result (Option Part) OutOfMemory → Type 0
Answers o toks least no_in room i ns (Ok (Some p)) = Finds o toks least no_in room i ns p
Answers o toks least no_in room i ns (Ok None) = Nothing toks least no_in room i
Answers o toks least no_in room i ns (Err e) = Unit {0}

pub record BestHead (toks : List Tok) (no_in : Bool) (room i : ℕ) (t : Expr) (n : ℕ) : Type 0 where
  pub reading : Reading toks 15 no_in room i t n
  pub head : IsHead t
  pub longest : (u : Expr) (m : ℕ) → Reading toks 15 no_in room i u m → IsHead u → ((u ≡ t) × (m ≡ n)) ⊎ ((m < n) × ((is_bare u ≡ true) × (15 < reach no_in (token_at toks m))))

pub record BestChain (toks : List Tok) (calls no_in : Bool) (room i : ℕ) (t : Expr) (n : ℕ) : Type 0 where
  pub reading : Reading toks 15 no_in room i t n
  pub chain : InChain calls t
  pub longest : (u : Expr) (m : ℕ) → Reading toks 15 no_in room i u m → InChain calls u → ((u ≡ t) × (m ≡ n)) ⊎ ((m < n) × Continues toks (min (level u) (chain_level calls)) no_in u m)

-- where a part began, as a step behind it sees it
pub record Begun (functions : Functions) (o : Origin) (ns : List Node) (next : ℕ) : Type 0 where
  pub place : ℕ
  pub room : ℕ
  pub same : functions ≡ o.functions
  pub held : Holds o.toks o.functions place room o.start
  pub keeps : Keeps o.start ns
  pub before : o.at ≤ next

-- What one step from the left part finds. A part of its own grows to one of its own.
pub record Grows (functions : Functions) (S : Expr → ℕ → Expr → ℕ → Type 0) (D : Expr → ℕ → Type 0) (old new : List Node) (left : Part) (p : Part) : Type 0 where
  pub whole : Expr → Expr
  pub part : (o : Origin) (y : Expr) → Begun functions o old left.next → IsPart o old left y → IsPart o new p (whole y)
  pub step : (y : Expr) → S y left.next (whole y) p.next
  pub first : (y y' : Expr) (f' : ℕ) → S y left.next y' f' → ((y' ≡ whole y) × (f' ≡ p.next)) ⊎ ((f' < p.next) × D y' f')

abbrev pub Steps : Functions → (Expr → ℕ → Expr → ℕ → Type 0) → (Expr → ℕ → Type 0) → List Node → List Node → Part → Result (Option Part) OutOfMemory → Type 0
Steps functions S D old new left (Ok (Some p)) = Grows functions S D old new left p
Steps functions S D old new left (Ok None) = (y y' : Expr) (f' : ℕ) → S y left.next y' f' → ⊥
Steps functions S D old new left (Err e) = Unit {0}

-- the arguments up to the closing parenthesis, which are the only ones
pub record Lists (o : Origin) (toks : List Tok) (room i : ℕ) (ns : List Node) (p : Listed) : Type 0 where
  pub trees : Arguments
  pub used : List ℕ
  pub show : ArgumentsShow ns trees p.list used
  pub own : Owns o.functions o.start ns o.at p.next used
  pub listing : Listing toks room i trees p.next
  pub only : (us : Arguments) (m : ℕ) → Listing toks room i us m → (us ≡ trees) × (m ≡ p.next)

abbrev pub ListAnswers : Origin → List Tok → ℕ → ℕ → List Node → Result (Option Listed) OutOfMemory → Type 0
ListAnswers o toks room i ns (Ok (Some p)) = Lists o toks room i ns p
ListAnswers o toks room i ns (Ok None) = (us : Arguments) (m : ℕ) → Listing toks room i us m → ⊥
ListAnswers o toks room i ns (Err e) = Unit {0}

-- the items up to the closing bracket, which are the only ones
pub record FindsItems (o : Origin) (toks : List Tok) (room i : ℕ) (ns : List Node) (p : ListedItems) : Type 0 where
  pub trees : TreeItems
  pub used : List ℕ
  pub show : ItemsShow ns trees p.list used
  pub own : Owns o.functions o.start ns o.at p.next used
  pub tail : p.tail ≡ has_tail trees
  pub listing : ItemsListing toks room i trees p.next
  pub only : (us : TreeItems) (m : ℕ) → ItemsListing toks room i us m → (us ≡ trees) × (m ≡ p.next)

abbrev pub ItemsAnswers : Origin → List Tok → ℕ → ℕ → List Node → Result (Option ListedItems) OutOfMemory → Type 0
ItemsAnswers o toks room i ns (Ok (Some p)) = FindsItems o toks room i ns p
ItemsAnswers o toks room i ns (Ok None) = (us : TreeItems) (m : ℕ) → ItemsListing toks room i us m → ⊥
ItemsAnswers o toks room i ns (Err e) = Unit {0}

-- the properties up to the closing brace, which are the only ones
pub record FindsProperties (o : Origin) (toks : List Tok) (room i : ℕ) (ns : List Node) (p : ListedProperties) : Type 0 where
  pub trees : TreeProperties
  pub used : List ℕ
  pub show : PropertiesShow ns trees p.list used
  pub own : Owns o.functions o.start ns o.at p.next used
  pub comma : p.comma ≡ has_comma trees
  pub listing : PropertiesListing toks room i trees p.next
  pub only : (us : TreeProperties) (m : ℕ) → PropertiesListing toks room i us m → (us ≡ trees) × (m ≡ p.next)

abbrev pub PropertiesAnswers : Origin → List Tok → ℕ → ℕ → List Node → Result (Option ListedProperties) OutOfMemory → Type 0
PropertiesAnswers o toks room i ns (Ok (Some p)) = FindsProperties o toks room i ns p
PropertiesAnswers o toks room i ns (Ok None) = (us : TreeProperties) (m : ℕ) → PropertiesListing toks room i us m → ⊥
PropertiesAnswers o toks room i ns (Err e) = Unit {0}

-- the value of a property, behind its name and a colon
pub record FindsValue (o : Origin) (toks : List Tok) (room i : ℕ) (ns : List Node) (key : PropertyKey) (p : Part) : Type 0 where
  pub name : HasToken toks i (property_token key)
  pub colon : HasSign toks (i + 1) signs.Colon
  pub value : Finds o toks 1 false (room - 1) (i + 2) ns p

abbrev pub ValueAnswers : Origin → List Tok → ℕ → ℕ → List Node → Result (Option (PropertyKey × Part)) OutOfMemory → Type 0
ValueAnswers o toks room i ns (Ok (Some p)) = FindsValue o toks room i ns p.0 p.1
ValueAnswers o toks room i ns (Ok None) = (key : PropertyKey) (u : Expr) (m : ℕ) → HasToken toks i (property_token key) → HasSign toks (i + 1) signs.Colon → Reading toks 1 false (room - 1) (i + 2) u m → ⊥
ValueAnswers o toks room i ns (Err e) = Unit {0}

-- one node that was added
abbrev pub Adds : List Node → List Node → Node → ℕ → Bool → Result (Option Part) OutOfMemory → Type 0
Adds old new node next target (Ok (Some p)) = Has new p.node node × (p.next ≡ next) × (p.is_target ≡ target) × (p.node.0 ≡ length old)
Adds old new node next target (Ok None) = ⊥
Adds old new node next target (Err e) = Unit {0}

-- The longest expression from the place, and the only one that the tokens up to its end spell. No node stands at two places
-- of its tree, and each is new or one of an entry within its tokens.
pub record IsLongest (toks : List Tok) (functions : Functions) (no_in : Bool) (i : ℕ) (old new : List Node) (p : Found) : Type 0 where
  pub tree : Expr
  pub used : List ℕ
  pub shows : Shows new tree p.node used
  pub own : Owns functions old new i p.next used
  pub reading : Reading toks 0 no_in 200 i tree p.next
  pub longest : (u : Expr) (m : ℕ) → Reading toks 0 no_in 200 i u m → m ≤ p.next
  pub only : (u : Expr) → Reading toks 0 no_in 200 i u p.next → u ≡ tree
  -- a shorter one stands only before a token that may continue it
  pub shorter : (u : Expr) (m : ℕ) → Reading toks 0 no_in 200 i u m → ((u ≡ tree) × (m ≡ p.next)) ⊎ ((m < p.next) × Continues toks 0 no_in u m)

abbrev pub NotThere : List Tok → Bool → ℕ → ParseFault → Type 0
NotThere toks no_in i faults.NotAScript = (u : Expr) (m : ℕ) → Reading toks 0 no_in 200 i u m → ⊥
NotThere toks no_in i faults.OutOfMemory = Unit {0}

abbrev pub IsExpression : List Tok → Functions → Bool → ℕ → List Node → List Node → Result Found ParseFault → Type 0
IsExpression toks functions no_in i old new (Ok p) = IsLongest toks functions no_in i old new p
IsExpression toks functions no_in i old new (Err e) = NotThere toks no_in i e

pub record FindsHead (o : Origin) (toks : List Tok) (no_in : Bool) (room i : ℕ) (ns : List Node) (h : Head) : Type 0 where
  pub tree : Expr
  pub part : IsPart o ns h.part tree
  pub is_bare : h.is_bare ≡ is_bare tree
  pub best : BestHead toks no_in room i tree h.part.next

abbrev pub HeadAnswers : Origin → List Tok → Bool → ℕ → ℕ → List Node → Result (Option Head) OutOfMemory → Type 0
HeadAnswers o toks no_in room i ns (Ok (Some h)) = FindsHead o toks no_in room i ns h
HeadAnswers o toks no_in room i ns (Ok None) = (u : Expr) (m : ℕ) → Reading toks 15 no_in room i u m → IsHead u → ⊥
HeadAnswers o toks no_in room i ns (Err e) = Unit {0}

pub record FindsChain (o : Origin) (toks : List Tok) (calls no_in : Bool) (room i : ℕ) (ns : List Node) (h : Head) : Type 0 where
  pub tree : Expr
  pub part : IsPart o ns h.part tree
  pub is_bare : h.is_bare ≡ is_bare tree
  pub best : BestChain toks calls no_in room i tree h.part.next

abbrev pub ChainAnswers : Origin → List Tok → Bool → Bool → ℕ → ℕ → List Node → Result (Option Head) OutOfMemory → Type 0
ChainAnswers o toks calls no_in room i ns (Ok (Some h)) = FindsChain o toks calls no_in room i ns h
ChainAnswers o toks calls no_in room i ns (Ok None) = (u : Expr) (m : ℕ) → Reading toks 15 no_in room i u m → InChain calls u → ⊥
ChainAnswers o toks calls no_in room i ns (Err e) = Unit {0}

-- arguments behind what `new` makes
abbrev pub Given : Origin → List Tok → Head → ℕ → List Node → Result (Option Listed) OutOfMemory → Type 0
Given o toks h room ns (Ok (Some p)) = (h.is_bare ≡ false) × HasSign toks h.part.next signs.OpenParen × Lists o toks room (h.part.next + 1) ns p
Given o toks h room ns (Ok None) = h.is_bare ≡ false → HasSign toks h.part.next signs.OpenParen → (us : Arguments) (m : ℕ) → Listing toks room (h.part.next + 1) us m → ⊥
Given o toks h room ns (Err e) = Unit {0}

-- the longest target
pub record FindsTarget (o : Origin) (toks : List Tok) (no_in : Bool) (room i : ℕ) (ns : List Node) (p : Part) : Type 0 where
  pub tree : Expr
  pub part : IsPart o ns p tree
  pub target : is_target tree ≡ true
  pub reading : Reading toks 15 no_in room i tree p.next
  pub longest : (u : Expr) (m : ℕ) → Reading toks 15 no_in room i u m → is_target u ≡ true → ((u ≡ tree) × (m ≡ p.next)) ⊎ ((m < p.next) × (15 < reach no_in (token_at toks m)))

abbrev pub TargetAnswers : Origin → List Tok → Bool → ℕ → ℕ → List Node → Result (Option Part) OutOfMemory → Type 0
TargetAnswers o toks no_in room i ns (Ok (Some p)) = FindsTarget o toks no_in room i ns p
TargetAnswers o toks no_in room i ns (Ok None) = (u : Expr) (m : ℕ) → Reading toks 15 no_in room i u m → is_target u ≡ true → ⊥
TargetAnswers o toks no_in room i ns (Err e) = Unit {0}

-- the operand of an operator: the longest target, or the longest operand
pub record FindsOperand (o : Origin) (op : PrefixOperator) (toks : List Tok) (no_in : Bool) (room i : ℕ) (ns : List Node) (p : Part) : Type 0 where
  pub tree : Expr
  pub part : IsPart o ns p tree
  pub fits : is_update op ≡ true → is_target tree ≡ true
  pub reading : Reading toks 13 no_in room i tree p.next
  pub longest : (u : Expr) (m : ℕ) → Reading toks 13 no_in room i u m → (is_update op ≡ true → is_target u ≡ true) → ((u ≡ tree) × (m ≡ p.next)) ⊎ ((m < p.next) × Continues toks 13 no_in u m)

abbrev pub OperandAnswers : Origin → PrefixOperator → List Tok → Bool → ℕ → ℕ → List Node → Result (Option Part) OutOfMemory → Type 0
OperandAnswers o op toks no_in room i ns (Ok (Some p)) = FindsOperand o op toks no_in room i ns p
OperandAnswers o op toks no_in room i ns (Ok None) = (u : Expr) (m : ℕ) → Reading toks 13 no_in room i u m → (is_update op ≡ true → is_target u ≡ true) → ⊥
OperandAnswers o op toks no_in room i ns (Err e) = Unit {0}

-- the operator between two operands that stands at a place, and may stand
abbrev pub BinaryAt : List Tok → Bool → ℕ → Option BinaryOperator → Type 0
BinaryAt toks no_in i (Some op) = HasToken toks i (binary_token op) × IsAllowed no_in op
BinaryAt toks no_in i None = (op : BinaryOperator) → HasToken toks i (binary_token op) → IsAllowed no_in op → ⊥

-- the assignment sign at a place
abbrev pub AssignAt : List Tok → ℕ → Option AssignOperator → Type 0
AssignAt toks i (Some op) = HasToken toks i (assign_token op)
AssignAt toks i None = (op : AssignOperator) → HasToken toks i (assign_token op) → ⊥

-- the operator behind a target at a place, on the line of the target
abbrev pub UpdateAt : List Tok → ℕ → Option UpdateOperator → Type 0
UpdateAt toks i (Some op) = HasToken toks i (update_token op) × IsJoined toks i
UpdateAt toks i None = (op : UpdateOperator) → HasToken toks i (update_token op) → IsJoined toks i → ⊥

-- the operator before an operand at a place
abbrev pub PrefixAt : List Tok → ℕ → Option PrefixOperator → Type 0
PrefixAt toks i (Some op) = HasToken toks i (prefix_token op)
PrefixAt toks i None = (op : PrefixOperator) → HasToken toks i (prefix_token op) → ⊥

-- the name behind a dot at a place
abbrev pub SpeltAt : List Tok → ℕ → Option Spelt → Type 0
SpeltAt toks i (Some x) = HasToken toks i (spelt_token x)
SpeltAt toks i None = (x : Spelt) → HasToken toks i (spelt_token x) → ⊥

-- the name of a property at a place
abbrev pub PropertyAt : List Tok → ℕ → Option PropertyKey → Type 0
PropertyAt toks i (Some key) = HasToken toks i (property_token key)
PropertyAt toks i None = (key : PropertyKey) → HasToken toks i (property_token key) → ⊥

-- the function at a place
abbrev pub FunctionAnswers : Origin → List Tok → Bool → ℕ → ℕ → List Node → Option Part → Type 0
FunctionAnswers o toks no_in room i ns (Some p) = Finds o toks 18 no_in room i ns p
FunctionAnswers o toks no_in room i ns None = Nothing toks 18 no_in room i

-- where a part ends, and that its node is there
abbrev pub EndsAt : List Tok → ℕ → List Node → Part → Type 0
EndsAt toks i ns p = (i < p.next) × (p.next ≤ length toks) × (p.node.0 < length ns)

abbrev pub PartEnds : List Tok → ℕ → List Node → Result (Option Part) OutOfMemory → Type 0
PartEnds toks i ns (Ok (Some p)) = EndsAt toks i ns p
PartEnds toks i ns _ = Unit {0}

abbrev pub FunctionEnds : List Tok → ℕ → List Node → Option Part → Type 0
FunctionEnds toks i ns (Some p) = EndsAt toks i ns p
FunctionEnds toks i ns None = Unit {0}

abbrev pub HeadEnds : List Tok → ℕ → List Node → Result (Option Head) OutOfMemory → Type 0
HeadEnds toks i ns (Ok (Some h)) = EndsAt toks i ns h.part
HeadEnds toks i ns _ = Unit {0}

abbrev pub ValueEnds : List Tok → ℕ → List Node → Result (Option (PropertyKey × Part)) OutOfMemory → Type 0
ValueEnds toks i ns (Ok (Some p)) = EndsAt toks i ns p.1
ValueEnds toks i ns _ = Unit {0}

-- where a list ends, and that its nodes are there
abbrev pub ListEnds : List Tok → ℕ → List Node → Result (Option Listed) OutOfMemory → Type 0
ListEnds toks i ns (Ok (Some p)) = (i ≤ p.next) × (p.next < length toks) × AreBelow (length ns) p.list
ListEnds toks i ns _ = Unit {0}

abbrev pub ItemsEnds : List Tok → ℕ → List Node → Result (Option ListedItems) OutOfMemory → Type 0
ItemsEnds toks i ns (Ok (Some p)) = (i ≤ p.next) × (p.next < length toks) × ItemsBelow (length ns) p.list
ItemsEnds toks i ns _ = Unit {0}

abbrev pub PropertiesEnds : List Tok → ℕ → List Node → Result (Option ListedProperties) OutOfMemory → Type 0
PropertiesEnds toks i ns (Ok (Some p)) = (i ≤ p.next) × (p.next < length toks) × PropertiesBelow (length ns) p.list
PropertiesEnds toks i ns _ = Unit {0}
