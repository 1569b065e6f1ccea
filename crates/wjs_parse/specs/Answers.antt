-- What each reader answers: the tree that it reads, and that no other is read there.
use Rattle.std.specs.Prelude.{◌≡◌, ℕ, ◌<◌, ◌≤◌, List, ◌∷◌, length, Option, Some, None}
use Rattle.std.specs.declared.result.Result.{Result}
use Rattle.std.specs.declared.result.Result.TheVariants.{Ok, Err}
use Rattle.wjs_base.specs.declared.ids.TextId.{TextId}
use Rattle.wjs_base.specs.declared.ids.OutOfMemory.{OutOfMemory}
use Rattle.wjs_base.specs.declared.ids.NodeId.{NodeId}
use Rattle.wjs_tree.specs.declared.tokens.Tok.{Tok}
use Rattle.wjs_tree.specs.declared.tokens.Token.TheVariants as tokens
use Rattle.wjs_tree.specs.declared.signs.Sign.TheVariants as signs
use Rattle.wjs_tree.specs.declared.node.Node.{Node}
use Rattle.wjs_tree.specs.declared.node.Node.TheVariants as nodes
use Rattle.wjs_tree.specs.declared.nodes.Program.{Program}
use Rattle.wjs_tree.specs.Trees.{Expr, Elements}
use Rattle.wjs_tree.specs.Used.{IsOnce}
use Rattle.wjs_tree.specs.Children.{AreBelow, ChildrenBelow}
use Rattle.wjs_tree.specs.Ends.{HasToken, HasSign}
use Rattle.wjs_tree.specs.Spelling.{NameStands, FormalsStand}
use Rattle.wjs_tree.specs.Shows.{Has, Shows, ElementsShow, IsBody}
use Rattle.wjs_parse_expr.specs.declared.found.Found.{Found}
use Rattle.wjs_parse_expr.specs.declared.found.ParseFault.{ParseFault}
use Rattle.wjs_parse_expr.specs.declared.found.ParseFault.TheVariants as faults
use Rattle.wjs_parse_expr.specs.declared.functions.Functions.{Functions}
use Rattle.wjs_parse_expr.specs.Readings.{FunctionReading}
use Rattle.wjs_parse_expr.specs.Table.{entry_at}
use Rattle.wjs_parse_stmt.specs.declared.parts.Listed.{Listed}
use Rattle.wjs_parse_stmt.specs.Readings.{ElementsForm}
use Rattle.wjs_parse.specs.declared.formals.ListedFormals.{ListedFormals}
use Rattle.wjs_parse.specs.declared.formals.Head.{Head}
use Rattle.wjs_parse.specs.Readings.{Element, ElementShows, ElementReading, ElementStops, HeaderForm, BodyForm, ProgramReading}

-- the elements up to a token that closes them, which are the only ones
pub record FindsElements (toks : List Tok) (room i : ℕ) (ns : List Node) (p : Listed) : Type 0 where
  pub trees : Elements
  pub used : List ℕ
  pub shows : ElementsShow ns trees p.list used
  pub form : ElementsForm toks room i trees p.next
  pub only : (us : Elements) (m : ℕ) → ElementsForm toks room i us m → (us ≡ trees) × (m ≡ p.next)

abbrev pub ElementsAnswers : List Tok → ℕ → ℕ → List Node → Result (Option Listed) OutOfMemory → Type 0
ElementsAnswers toks room i ns (Ok (Some p)) = FindsElements toks room i ns p
ElementsAnswers toks room i ns (Ok None) = (us : Elements) (m : ℕ) → ElementsForm toks room i us m → ⊥
ElementsAnswers toks room i ns (Err e) = Unit {0}

-- the element, and no other is read unless it could be longer
pub record FindsElement (toks : List Tok) (room i : ℕ) (ns : List Node) (p : Found) : Type 0 where
  pub tree : Element
  pub used : List ℕ
  pub shows : ElementShows ns tree p.node used
  pub reading : ElementReading toks room i tree p.next
  pub only : (u : Element) (m : ℕ) → ElementReading toks room i u m → ElementStops toks m u → (u ≡ tree) × (m ≡ p.next)

abbrev pub ElementAnswers : List Tok → ℕ → ℕ → List Node → Result (Option Found) OutOfMemory → Type 0
ElementAnswers toks room i ns (Ok (Some p)) = FindsElement toks room i ns p
ElementAnswers toks room i ns (Ok None) = (u : Element) (m : ℕ) → ElementReading toks room i u m → ElementStops toks m u → ⊥
ElementAnswers toks room i ns (Err e) = Unit {0}

-- the element with the parts of a function that has a name
abbrev pub DeclaredAnswers : List Node → NodeId → Result (Option Node) OutOfMemory → Type 0
DeclaredAnswers ns i (Ok (Some made)) = (x : TextId) × (formals : List TextId) × (body : List NodeId) × Has ns i (nodes.Function (Some x) formals body) × (made ≡ nodes.FunctionDecl x formals body)
DeclaredAnswers ns i (Ok None) = (x : TextId) (formals : List TextId) (body : List NodeId) → Has ns i (nodes.Function (Some x) formals body) → ⊥
DeclaredAnswers ns i (Err e) = Unit {0}

abbrev pub DeclaredBelow : ℕ → Result (Option Node) OutOfMemory → Type 0
DeclaredBelow n (Ok (Some made)) = ChildrenBelow n made
DeclaredBelow n _ = Unit {0}

-- the name at a place
abbrev pub WordAnswers : List Tok → ℕ → Option TextId → Type 0
WordAnswers toks i (Some x) = HasToken toks i (tokens.Word x)
WordAnswers toks i None = (x : TextId) → HasToken toks i (tokens.Word x) → ⊥

-- the name at a place or none, and no other stands there before an opening parenthesis
abbrev pub NameAnswers : List Tok → ℕ → Option TextId → ℕ → Type 0
NameAnswers toks i name n = NameStands toks name i n × ((x : Option TextId) (m : ℕ) → NameStands toks x i m → HasSign toks m signs.OpenParen → (x ≡ name) × (m ≡ n))

-- the formals, and no others are read before a closing parenthesis
pub record FindsFormals (toks : List Tok) (i : ℕ) (p : ListedFormals) : Type 0 where
  pub stand : FormalsStand toks p.list i p.next
  pub only : (xs : List TextId) (m : ℕ) → FormalsStand toks xs i m → HasSign toks m signs.CloseParen → (xs ≡ p.list) × (m ≡ p.next)

abbrev pub FormalsAnswers : List Tok → ℕ → Result (Option ListedFormals) OutOfMemory → Type 0
FormalsAnswers toks i (Ok (Some p)) = FindsFormals toks i p
FormalsAnswers toks i (Ok None) = (xs : List TextId) (m : ℕ) → FormalsStand toks xs i m → HasSign toks m signs.CloseParen → ⊥
FormalsAnswers toks i (Err e) = Unit {0}

abbrev pub FormalsEnds : List Tok → ℕ → Result (Option ListedFormals) OutOfMemory → Type 0
FormalsEnds toks i (Ok (Some p)) = i ≤ p.next
FormalsEnds toks i _ = Unit {0}

-- the name and the formals of a function, which are the only ones
pub record FindsHeader (toks : List Tok) (i : ℕ) (p : Head) : Type 0 where
  pub form : HeaderForm toks i p.name p.formals p.next
  pub only : (name : Option TextId) (xs : List TextId) (m : ℕ) → HeaderForm toks i name xs m → (name ≡ p.name) × (xs ≡ p.formals) × (m ≡ p.next)

abbrev pub HeaderAnswers : List Tok → ℕ → Result (Option Head) OutOfMemory → Type 0
HeaderAnswers toks i (Ok (Some p)) = FindsHeader toks i p
HeaderAnswers toks i (Ok None) = (name : Option TextId) (xs : List TextId) (m : ℕ) → HeaderForm toks i name xs m → ⊥
HeaderAnswers toks i (Err e) = Unit {0}

abbrev pub HeaderEnds : List Tok → ℕ → Result (Option Head) OutOfMemory → Type 0
HeaderEnds toks i (Ok (Some p)) = i < p.next
HeaderEnds toks i _ = Unit {0}

-- the body of a function, which is the only one
pub record FindsBody (toks : List Tok) (i : ℕ) (ns : List Node) (p : Listed) : Type 0 where
  pub trees : Elements
  pub used : List ℕ
  pub shows : ElementsShow ns trees p.list used
  pub form : BodyForm toks i trees p.next
  pub only : (us : Elements) (m : ℕ) → BodyForm toks i us m → (us ≡ trees) × (m ≡ p.next)

abbrev pub BodyAnswers : List Tok → ℕ → List Node → Result (Option Listed) OutOfMemory → Type 0
BodyAnswers toks i ns (Ok (Some p)) = FindsBody toks i ns p
BodyAnswers toks i ns (Ok None) = (us : Elements) (m : ℕ) → BodyForm toks i us m → ⊥
BodyAnswers toks i ns (Err e) = Unit {0}

abbrev pub BodyEnds : List Tok → ℕ → List Node → Result (Option Listed) OutOfMemory → Type 0
BodyEnds toks i ns (Ok (Some p)) = (i < p.next) × (p.next ≤ length toks) × AreBelow (length ns) p.list
BodyEnds toks i ns _ = Unit {0}

-- the function, which is the only one
pub record FindsFunction (toks : List Tok) (i : ℕ) (ns : List Node) (p : Found) : Type 0 where
  pub tree : Expr
  pub used : List ℕ
  pub shows : Shows ns tree p.node used
  pub reading : FunctionReading toks i tree p.next
  pub only : (u : Expr) (m : ℕ) → FunctionReading toks i u m → (u ≡ tree) × (m ≡ p.next)

abbrev pub FunctionAnswers : List Tok → ℕ → List Node → Result (Option Found) OutOfMemory → Type 0
FunctionAnswers toks i ns (Ok (Some p)) = FindsFunction toks i ns p
FunctionAnswers toks i ns (Ok None) = (u : Expr) (m : ℕ) → FunctionReading toks i u m → ⊥
FunctionAnswers toks i ns (Err e) = Unit {0}

-- where an element or a function ends, and that its node is there
abbrev pub FoundEnds : List Tok → ℕ → List Node → Result (Option Found) OutOfMemory → Type 0
FoundEnds toks i ns (Ok (Some p)) = (i < p.next) × (p.next ≤ length toks) × (p.node.0 < length ns)
FoundEnds toks i ns _ = Unit {0}

-- the program, which is the only one, and no node stands at two places of it
pub record FindsProgram (toks : List Tok) (ns : List Node) (body : NodeId) : Type 0 where
  pub tree : Elements
  pub is : IsBody ns tree body
  pub once : IsOnce (body.0 ∷ is.used)
  pub reading : ProgramReading toks tree
  pub only : (u : Elements) → ProgramReading toks u → u ≡ tree

abbrev pub ProgramAnswers : List Tok → Result Program ParseFault → Type 0
ProgramAnswers toks (Ok p) = FindsProgram toks p.nodes p.body
ProgramAnswers toks (Err faults.NotAScript) = (u : Elements) → ProgramReading toks u → ⊥
ProgramAnswers toks (Err faults.OutOfMemory) = Unit {0}

-- the same of the node alone
abbrev pub WholeAnswers : List Tok → List Node → Result (Option NodeId) OutOfMemory → Type 0
WholeAnswers toks ns (Ok (Some body)) = FindsProgram toks ns body
WholeAnswers toks ns (Ok None) = (u : Elements) → ProgramReading toks u → ⊥
WholeAnswers toks ns (Err e) = Unit {0}

-- the functions begin at or behind the place
abbrev pub AreBehind : Functions → ℕ → Type 0
AreBehind functions place = (q : ℕ) (node : NodeId) (ends : ℕ) → entry_at functions q ≡ Some (node, ends) → place ≤ q
