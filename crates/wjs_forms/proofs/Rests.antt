-- What is still wanted of the tokens from a place on, by the forms that are open: trees for all that comes.
use Rattle.std.proofs.Common.{◌≡◌, ℕ, zero, suc, ◌+◌, ◌≤◌, ◌⊎◌, Bool, true, false, List, [], ◌∷◌, length, Option, Some, None}
use Rattle.wjs_base.specs.declared.ids.TextId.{TextId}
use Rattle.wjs_tree.specs.declared.tokens.Tok.{Tok}
use Rattle.wjs_tree.specs.declared.tokens.Token.TheVariants as tokens
use Rattle.wjs_tree.specs.declared.signs.Sign.TheVariants as signs
use Rattle.wjs_tree.specs.declared.keys.Key.TheVariants as keys
use Rattle.wjs_tree.specs.declared.node.End.{End}
use Rattle.wjs_tree.specs.declared.node.Spelt.{Spelt}
use Rattle.wjs_tree.specs.Trees.{Expr, Optional, Arguments, Items, Properties, Variables, Init, Stmt, Stmts, Clauses, Elements, Absent, Present, NoVariable, Variable}
use Rattle.wjs_tree.specs.Levels.{level, is_target, ends_in_update}
use Rattle.wjs_tree.specs.Formed.{is_open_if, Shaped, OptionalShaped, InitialiserShaped, ArgumentsShaped, ItemsShaped, PropertiesShaped, VariablesShaped, InitShaped, StmtShaped, StmtsShaped, ClausesShaped, ElementsShaped}
use Rattle.wjs_tree.specs.Ends.{HasToken, HasSign, HasKey, IsJoined, Ending, Complete, InName, InExpr, Ends}
use Rattle.wjs_tree.specs.Spelling.{spelt_token, NameStands, FormalsStand, MoreFormalsStand, LabelStands, Stands, OptionalStands, InitialiserStands, ArgumentsStand, MoreArgumentsStand, ItemsStand, PropertiesStand, MoreVariablesStand, InitStands, StmtStands, StmtsStand, ClausesStand, ElementsStand}
use Rattle.wjs_forms.specs.declared.class.Class.TheVariants as classes
use Rattle.wjs_forms.specs.declared.forms.Place.{Place}
use Rattle.wjs_forms.specs.declared.forms.Place.TheVariants as places
use Rattle.wjs_forms.specs.declared.forms.Form.{Form}
use Rattle.wjs_forms.specs.declared.forms.Form.TheVariants as forms
use Rattle.wjs_forms.specs.declared.forms.Control.{Control}
use Rattle.wjs_forms.specs.declared.forms.Control.TheVariants as controls
use Rattle.wjs_forms.specs.States.{State}
use Rattle.wjs_forms.proofs.Runs.{class_here}
use Rattle.wjs_forms.proofs.Endings.{is_suffix_class}
use Rattle.wjs_forms.proofs.Declared.{part_ending, final}

-- What the innermost form wants behind an expression that it holds: whether `in` is no operator there, whether that is an assignment
-- expression, and what comes behind it.
pub record Rests : Type 1 where
  pub bars : Bool
  pub single : Bool
  -- it is a parenthesis, which around a target is one
  pub paren : Bool
  pub fed : Expr → ℕ → Type 0

-- the same below the `new`s that wait for arguments, and how many wait; whether the innermost form holds a list, and what comes behind
-- a statement in it
pub record Nested : Type 1 where
  pub news : ℕ
  pub listed : Bool
  pub done : ℕ → Type 0
  pub core : Rests

abbrev pub least : Bool → ℕ
least true = 1
least false = 0

-- how tightly the operand behind `new`s binds
abbrev pub have_level : ℕ → ℕ
have_level zero = 16
have_level (suc n) = 17

module _ (toks : List Tok) where
  -- an expression that binds as tightly as this, from a place up to another
  pub record Reading (b : Bool) (l i : ℕ) (e : Expr) (n : ℕ) : Type 0 where
    pub binds : l ≤ level e
    pub formed : Shaped b e
    pub stands : Stands toks e i n

  -- what stands behind the expression is no suffix of its last operand
  abbrev pub NoSuffix : ℕ → Expr → Type 0
  NoSuffix n e = is_suffix_class (class_here toks n) ≡ true → ends_in_update e ≡ true

  -- all that a form holds, from a place on, with what comes behind it
  pub record Whole (r : Rests) (i : ℕ) : Type 0 where
    pub tree : Expr
    pub end : ℕ
    pub reading : Reading r.bars (least r.single) i tree end
    pub then : r.fed tree end

  -- before the `)` of a parenthesis the expression is no target
  abbrev pub Sealed : Rests → ℕ → Expr → Type 0
  Sealed r n e = r.paren ≡ true → class_here toks n ≡ classes.CloseParen → is_target e ≡ false

  -- behind an assignment expression, whatever it is with what stands before it
  abbrev pub AssignFed : Rests → ℕ → Type 0
  AssignFed r n = (e : Expr) (j : ℕ) → Reading r.bars (least r.single) j e n → NoSuffix n e → Sealed r n e → Whole r j

  -- an assignment expression
  pub record First (r : Rests) (i : ℕ) : Type 0 where
    pub tree : Expr
    pub end : ℕ
    pub reading : Reading r.bars 1 i tree end
    pub plain : NoSuffix end tree
    pub then : AssignFed r end

  -- behind an operand, whatever it is with the operators and operands before it
  abbrev pub UnaryFed : Rests → ℕ → Type 0
  UnaryFed r n = (e : Expr) (j : ℕ) → Reading r.bars 3 j e n → NoSuffix n e → (f : First r j) × (Sealed r n e → Sealed r f.end f.tree)

  -- an operand behind an operator
  pub record Later (r : Rests) (i : ℕ) : Type 0 where
    pub tree : Expr
    pub end : ℕ
    pub reading : Reading r.bars 13 i tree end
    pub plain : NoSuffix end tree
    pub then : UnaryFed r end

  -- a target just behind `++` or `--`
  pub record Updated (r : Rests) (i : ℕ) : Type 0 where
    pub tree : Expr
    pub end : ℕ
    pub reading : Reading r.bars 16 i tree end
    pub target : is_target tree ≡ true
    pub plain : NoSuffix end tree
    pub then : UnaryFed r end

  -- an operand at a place, where no `new` waits
  abbrev pub WantOver : Rests → Place → ℕ → Type 0
  WantOver r places.Whole i = Whole r i
  WantOver r places.First i = First r i
  WantOver r places.Later i = Later r i
  WantOver r places.Update i = Updated r i

  -- an operand behind `new`s: from the first of them on it is one
  abbrev pub WantNew : Rests → Place → ℕ → ℕ → Type 0
  WantNew r p zero i = WantOver r p i
  WantNew r p (suc k) i = (j : ℕ) → i ≡ j + 1 → HasKey toks j keys.New → WantNew r p k j

  abbrev pub WantRest : Nested → Place → ℕ → Type 0
  WantRest r p i = WantNew r.core p r.news i

  -- behind a primary expression with suffixes, whatever it is
  abbrev pub HaveRest : Nested → Place → Bool → ℕ → Type 0
  HaveRest r p t i = (e : Expr) (j : ℕ) → Reading r.core.bars (have_level r.news) j e i → is_target e ≡ t → WantRest r p j

  -- a statement, and what is behind it
  abbrev pub BodyRest : (ℕ → Type 0) → ℕ → Type 0
  BodyRest done i = (t : Stmt) × (m : ℕ) × StmtShaped t × StmtStands toks t i m × (is_open_if t ≡ true → class_here toks m ≡ classes.Else → ⊥) × done m

  -- the end of a statement that was complete
  abbrev pub CompleteRest : (ℕ → Type 0) → ℕ → Type 0
  CompleteRest done i = (end : End) × (m : ℕ) × Ends toks Complete end i m × done m

  -- the end of a statement behind its expression
  abbrev pub ValueEnd : (ℕ → Type 0) → Expr → ℕ → Type 0
  ValueEnd done e i = (end : End) × (m : ℕ) × Ends toks (InExpr (ends_in_update e)) end i m × done m

  -- statements up to a brace
  abbrev pub BlockRest : (ℕ → Type 0) → ℕ → Type 0
  BlockRest done i = (ss : Stmts) × (k : ℕ) × StmtsShaped ss × StmtsStand toks ss i k × HasSign toks k signs.CloseBrace × done (k + 1)

  -- elements up to a brace
  abbrev pub ElementsRest : (ℕ → Type 0) → ℕ → Type 0
  ElementsRest done i = (es : Elements) × (k : ℕ) × ElementsShaped es × ElementsStand toks es i k × HasSign toks k signs.CloseBrace × done (k + 1)

  abbrev pub ClausesRest : (ℕ → Type 0) → ℕ → Type 0
  ClausesRest done i = (cs : Clauses) × (k : ℕ) × ClausesShaped cs × ClausesStand toks cs i k × HasSign toks k signs.CloseBrace × done (k + 1)

  -- statements of a clause, and further clauses
  abbrev pub ClauseRest : (ℕ → Type 0) → ℕ → Type 0
  ClauseRest done i = (ss : Stmts) × (k : ℕ) × StmtsShaped ss × StmtsStand toks ss i k × ClausesRest done k

  -- `finally` with its block
  abbrev pub FinallyRest : (ℕ → Type 0) → ℕ → Type 0
  FinallyRest done i = HasKey toks i keys.Finally × HasSign toks (i + 1) signs.OpenBrace × BlockRest done (i + 2)

  -- behind the block of a `catch`
  abbrev pub CaughtRest : (ℕ → Type 0) → ℕ → Type 0
  CaughtRest done i = FinallyRest done i ⊎ done i

  abbrev pub CatchCloseRest : (ℕ → Type 0) → ℕ → Type 0
  CatchCloseRest done i = HasSign toks i signs.CloseParen × HasSign toks (i + 1) signs.OpenBrace × BlockRest (CaughtRest done) (i + 2)

  abbrev pub CatchNameRest : (ℕ → Type 0) → ℕ → Type 0
  CatchNameRest done i = (x : TextId) × HasToken toks i (tokens.Word x) × CatchCloseRest done (i + 1)

  abbrev pub CatchOpenRest : (ℕ → Type 0) → ℕ → Type 0
  CatchOpenRest done i = HasSign toks i signs.OpenParen × CatchNameRest done (i + 1)

  -- behind the block of a `try`
  abbrev pub TriedRest : (ℕ → Type 0) → ℕ → Type 0
  TriedRest done i = (HasKey toks i keys.Catch × CatchOpenRest done (i + 1)) ⊎ FinallyRest done i

  -- behind the statement of an `if`
  abbrev pub ThenRest : (ℕ → Type 0) → ℕ → Type 0
  ThenRest done i = (HasKey toks i keys.Else × BodyRest done (i + 1)) ⊎ ((class_here toks i ≡ classes.Else → ⊥) × done i)

  -- an expression in a header, with the parenthesis behind it
  abbrev pub EachRest : (ℕ → Type 0) → ℕ → Type 0
  EachRest done i = (e : Expr) × (m : ℕ) × Shaped false e × Stands toks e i m × HasSign toks m signs.CloseParen × BodyRest done (m + 1)

  -- the condition behind the statement of a `do`
  abbrev pub DoWhileRest : (ℕ → Type 0) → ℕ → Type 0
  DoWhileRest done i = (e : Expr) × (m : ℕ) × Shaped false e × Stands toks e i m × HasSign toks m signs.CloseParen × CompleteRest done (m + 1)

  abbrev pub UpdateRest : (ℕ → Type 0) → ℕ → Type 0
  UpdateRest done i = (o : Optional) × (m : ℕ) × OptionalShaped o × OptionalStands toks o i m × HasSign toks m signs.CloseParen × BodyRest done (m + 1)

  abbrev pub TestRest : (ℕ → Type 0) → ℕ → Type 0
  TestRest done i = (o : Optional) × (m : ℕ) × OptionalShaped o × OptionalStands toks o i m × HasSign toks m signs.Semicolon × UpdateRest done (m + 1)

  -- what stands first in a header, with the rest of it
  abbrev pub InitRest : (ℕ → Type 0) → ℕ → Type 0
  InitRest done i = ((init : Init) × (m : ℕ) × InitShaped init × InitStands toks init i m × HasSign toks m signs.Semicolon × TestRest done (m + 1))
      ⊎ (((t : Expr) × (m : ℕ) × (is_target t ≡ true) × (15 ≤ level t) × Shaped false t × Stands toks t i m × HasKey toks m keys.In × EachRest done (m + 1))
      ⊎ ((x : TextId) × HasKey toks i keys.Var × HasToken toks (i + 1) (tokens.Word x) × HasKey toks (i + 2) keys.In × EachRest done (i + 3)))

  -- variables behind one that ends so, up to where all end
  abbrev pub MoreRest : Bool → (Ending → ℕ → Type 0) → Ending → ℕ → Type 0
  MoreRest b closed prior i = (vs : Variables) × (m : ℕ) × VariablesShaped b vs × MoreVariablesStand toks vs i m × closed (final prior vs) m

  -- behind the name of a variable
  abbrev pub NamedRest : Bool → (Ending → ℕ → Type 0) → ℕ → Type 0
  NamedRest b closed i = (e : Optional) × (m : ℕ) × InitialiserShaped b e × InitialiserStands toks e i m × MoreRest b closed (part_ending e) m

  abbrev pub VarEnd : (ℕ → Type 0) → Ending → ℕ → Type 0
  VarEnd done ending i = (end : End) × (m : ℕ) × Ends toks ending end i m × done m

  abbrev pub HeaderEnd : (ℕ → Type 0) → Ending → ℕ → Type 0
  HeaderEnd done ending i = HasSign toks i signs.Semicolon × TestRest done (i + 1)

  -- arguments behind a first one
  abbrev pub MoreArgumentsRest : (ℕ → Type 0) → ℕ → Type 0
  MoreArgumentsRest done i = (xs : Arguments) × (k : ℕ) × ArgumentsShaped xs × MoreArgumentsStand toks xs i k × HasSign toks k signs.CloseParen × done (k + 1)

  abbrev pub ArgumentsRest : (ℕ → Type 0) → ℕ → Type 0
  ArgumentsRest done i = (xs : Arguments) × (k : ℕ) × ArgumentsShaped xs × ArgumentsStand toks xs i k × HasSign toks k signs.CloseParen × done (k + 1)

  abbrev pub ItemsRest : (ℕ → Type 0) → ℕ → Type 0
  ItemsRest done i = (xs : Items) × (k : ℕ) × ItemsShaped xs × ItemsStand toks xs i k × HasSign toks k signs.CloseBracket × done (k + 1)

  -- behind an item
  abbrev pub ItemRest : (ℕ → Type 0) → ℕ → Type 0
  ItemRest done i = (HasSign toks i signs.CloseBracket × done (i + 1)) ⊎ (HasSign toks i signs.Comma × ItemsRest done (i + 1))

  abbrev pub PropertiesRest : (ℕ → Type 0) → ℕ → Type 0
  PropertiesRest done i = (xs : Properties) × (k : ℕ) × PropertiesShaped xs × PropertiesStand toks xs i k × HasSign toks k signs.CloseBrace × done (k + 1)

  -- behind a property
  abbrev pub PropertyRest : (ℕ → Type 0) → ℕ → Type 0
  PropertyRest done i = (HasSign toks i signs.CloseBrace × done (i + 1)) ⊎ (HasSign toks i signs.Comma × PropertiesRest done (i + 1))

  -- behind a statement of a list
  abbrev pub ListRest : Nested → ℕ → Type 0
  ListRest r i = r.listed ≡ true → r.done i

  -- behind an expression that the form holds
  abbrev pub fed_by : Form → Nested → Expr → ℕ → Type 0
  fed_by (forms.Paren p) r e i = HasSign toks i signs.CloseParen × HaveRest r p (is_target e) (i + 1)
  fed_by (forms.Index p) r e i = HasSign toks i signs.CloseBracket × HaveRest r p true (i + 1)
  fed_by (forms.Arguments p) r e i = MoreArgumentsRest (HaveRest r p false) i
  fed_by (forms.Array p) r e i = ItemRest (HaveRest r p false) i
  fed_by (forms.Object p) r e i = PropertyRest (HaveRest r p false) i
  fed_by forms.Cond r e i = HasSign toks i signs.Colon × WantRest r places.First (i + 1)
  fed_by forms.Value r e i = ValueEnd r.done e i
  fed_by forms.Var r e i = MoreRest false (VarEnd r.done) (InExpr (ends_in_update e)) i
  fed_by forms.ForVar r e i = MoreRest true (HeaderEnd r.done) (InExpr (ends_in_update e)) i
  fed_by forms.ForInit r e i = (HasSign toks i signs.Semicolon × TestRest r.done (i + 1)) ⊎ ((is_target e ≡ true) × HasKey toks i keys.In × EachRest r.done (i + 1))
  fed_by forms.ForTest r e i = HasSign toks i signs.Semicolon × UpdateRest r.done (i + 1)
  fed_by forms.Header r e i = HasSign toks i signs.CloseParen × BodyRest r.done (i + 1)
  fed_by forms.If r e i = HasSign toks i signs.CloseParen × BodyRest (ThenRest r.done) (i + 1)
  fed_by forms.Switch r e i = HasSign toks i signs.CloseParen × HasSign toks (i + 1) signs.OpenBrace × ClausesRest r.done (i + 2)
  fed_by forms.DoWhile r e i = HasSign toks i signs.CloseParen × CompleteRest r.done (i + 1)
  fed_by forms.Within r e i = HasSign toks i signs.OpenBrace × BlockRest r.done (i + 1)
  fed_by forms.CaseHead r e i = HasSign toks i signs.Colon × ListRest r (i + 1)
  fed_by f r e i = Unit {0}

  -- behind a statement in the form
  abbrev pub done_by : Form → Nested → ℕ → Type 0
  done_by forms.Then r i = ThenRest r.done i
  done_by forms.Do r i = HasKey toks i keys.While × HasSign toks (i + 1) signs.OpenParen × DoWhileRest r.done (i + 2)
  done_by forms.Block r i = BlockRest r.done i
  done_by forms.TryBlock r i = BlockRest (TriedRest r.done) i
  done_by forms.CatchBlock r i = BlockRest (CaughtRest r.done) i
  done_by forms.Clauses r i = ClauseRest r.done i
  done_by forms.Declaration r i = ElementsRest (ListRest r) i
  done_by (forms.Function p) r i = ElementsRest (HaveRest r p false) i
  done_by f r i = Unit {0}

  -- what the form holds is an assignment expression
  abbrev pub is_single : Form → Bool
  is_single (forms.Arguments p) = true
  is_single (forms.Array p) = true
  is_single (forms.Object p) = true
  is_single forms.Cond = true
  is_single forms.Var = true
  is_single forms.ForVar = true
  is_single f = false

  abbrev pub is_header : Form → Bool
  is_header forms.ForInit = true
  is_header forms.ForVar = true
  is_header f = false

  abbrev pub is_list : Form → Bool
  is_list forms.Block = true
  is_list forms.TryBlock = true
  is_list forms.CatchBlock = true
  is_list forms.Clauses = true
  is_list forms.Declaration = true
  is_list (forms.Function p) = true
  is_list f = false

  abbrev pub is_paren : Form → Bool
  is_paren (forms.Paren p) = true
  is_paren f = false

  abbrev pub rests_by : Form → Nested → Nested
  rests_by forms.New r = record { news = suc r.news; listed = false; done = λ i. Unit {0}; core = r.core }
  rests_by f r = record { news = 0; listed = is_list f; done = done_by f r; core = record { bars = is_header f; single = is_single f; paren = is_paren f; fed = fed_by f r } }

  -- behind the elements of a program the tokens end
  abbrev pub ProgramRest : ℕ → Type 0
  ProgramRest i = (es : Elements) × ElementsShaped es × ElementsStand toks es i (length toks)

  abbrev pub rests : List Form → Nested
  rests [] = record { news = 0; listed = true; done = ProgramRest; core = record { bars = false; single = false; paren = false; fed = λ e i. Unit {0} } }
  rests (f ∷ s) = rests_by f (rests s)

  -- The same by what is to come next. Where the control doesn't fit the forms nothing is said.
  abbrev pub arguments_rest : List Form → ℕ → Type 0
  arguments_rest (forms.Arguments p ∷ s) i = ArgumentsRest (HaveRest (rests s) p false) i
  arguments_rest s i = Unit {0}

  abbrev pub items_rest : List Form → ℕ → Type 0
  items_rest (forms.Array p ∷ s) i = ItemsRest (HaveRest (rests s) p false) i
  items_rest s i = Unit {0}

  abbrev pub properties_rest : List Form → ℕ → Type 0
  properties_rest (forms.Object p ∷ s) i = PropertiesRest (HaveRest (rests s) p false) i
  properties_rest s i = Unit {0}

  -- behind the name of a property
  abbrev pub colon_rest : List Form → ℕ → Type 0
  colon_rest (forms.Object p ∷ s) i = HasSign toks i signs.Colon × Whole (rests (forms.Object p ∷ s)).core (i + 1)
  colon_rest s i = Unit {0}

  abbrev pub BraceRest : List Form → ℕ → Type 0
  BraceRest s i = HasSign toks i signs.OpenBrace × ListRest (rests s) (i + 1)

  abbrev pub FormalBehindRest : List Form → ℕ → Type 0
  FormalBehindRest s i = (xs : List TextId) × (b : ℕ) × MoreFormalsStand toks xs i b × HasSign toks b signs.CloseParen × BraceRest s (b + 1)

  abbrev pub FormalOrEndRest : List Form → ℕ → Type 0
  FormalOrEndRest s i = (xs : List TextId) × (b : ℕ) × FormalsStand toks xs i b × HasSign toks b signs.CloseParen × BraceRest s (b + 1)

  abbrev pub FormalsRest : List Form → ℕ → Type 0
  FormalsRest s i = HasSign toks i signs.OpenParen × FormalOrEndRest s (i + 1)

  abbrev pub NameOrFormalsRest : List Form → ℕ → Type 0
  NameOrFormalsRest s i = (x : Option TextId) × (a : ℕ) × NameStands toks x i a × FormalsRest s a

  abbrev pub DeclaredNameRest : List Form → ℕ → Type 0
  DeclaredNameRest s i = (x : TextId) × HasToken toks i (tokens.Word x) × FormalsRest s (i + 1)

  -- the name that begins the statement stands just before
  abbrev pub label_rest : List Form → ℕ → Type 0
  label_rest (forms.Value ∷ s) i = (x : TextId) (j : ℕ) → i ≡ j + 1 → HasToken toks j (tokens.Word x) → BodyRest (rests s).done j
  label_rest s i = Unit {0}

  abbrev pub named_rest : List Form → ℕ → Type 0
  named_rest (forms.Var ∷ s) i = NamedRest false (VarEnd (rests s).done) i
  named_rest (forms.ForVar ∷ s) i = NamedRest true (HeaderEnd (rests s).done) i
  named_rest s i = Unit {0}

  abbrev pub NameRest : List Form → ℕ → Type 0
  NameRest s i = (x : TextId) × HasToken toks i (tokens.Word x) × named_rest s (i + 1)

  abbrev pub for_named_rest : List Form → ℕ → Type 0
  for_named_rest (forms.ForVar ∷ s) i = (HasKey toks i keys.In × EachRest (rests s).done (i + 1)) ⊎ NamedRest true (HeaderEnd (rests s).done) i
  for_named_rest s i = Unit {0}

  abbrev pub test_rest : List Form → ℕ → Type 0
  test_rest (forms.ForTest ∷ s) i = TestRest (rests s).done i
  test_rest s i = Unit {0}

  abbrev pub update_rest : List Form → ℕ → Type 0
  update_rest (forms.Header ∷ s) i = UpdateRest (rests s).done i
  update_rest s i = Unit {0}

  abbrev pub clauses_rest : List Form → ℕ → Type 0
  clauses_rest (forms.Clauses ∷ s) i = ClausesRest (rests s).done i
  clauses_rest s i = Unit {0}

  abbrev pub value_rest : List Form → ℕ → Type 0
  value_rest s i = Whole (rests (forms.Value ∷ s)).core i

  abbrev pub RestOf : Control → List Form → ℕ → Type 0
  RestOf (controls.Want p) s i = WantRest (rests s) p i
  RestOf (controls.Have p t) s i = HaveRest (rests s) p t i
  RestOf controls.Behind s i = UnaryFed (rests s).core i
  RestOf (controls.Dot p) s i = (x : Spelt) × HasToken toks i (spelt_token x) × HaveRest (rests s) p true (i + 1)
  RestOf controls.ArgumentOrEnd s i = arguments_rest s i
  RestOf controls.Item s i = items_rest s i
  RestOf controls.KeyOrEnd s i = properties_rest s i
  RestOf controls.KeyColon s i = colon_rest s i
  RestOf controls.NameOrFormals s i = NameOrFormalsRest s i
  RestOf controls.DeclaredName s i = DeclaredNameRest s i
  RestOf controls.Formals s i = FormalsRest s i
  RestOf controls.FormalOrEnd s i = FormalOrEndRest s i
  RestOf controls.FormalBehind s i = FormalBehindRest s i
  RestOf controls.Formal s i = (x : TextId) × HasToken toks i (tokens.Word x) × FormalBehindRest s (i + 1)
  RestOf controls.Brace s i = BraceRest s i
  RestOf controls.List s i = ListRest (rests s) i
  RestOf controls.Body s i = BodyRest (rests s).done i
  RestOf controls.Done s i = (rests s).done i
  RestOf controls.Complete s i = CompleteRest (rests s).done i
  RestOf controls.NameOrLabel s i = label_rest s i
  RestOf controls.Open s i = HasSign toks i signs.OpenParen × WantRest (rests s) places.Whole (i + 1)
  RestOf controls.Name s i = NameRest s i
  RestOf controls.Named s i = named_rest s i
  RestOf controls.ForOpen s i = HasSign toks i signs.OpenParen × InitRest (rests s).done (i + 1)
  RestOf controls.Init s i = InitRest (rests s).done i
  RestOf controls.ForName s i = (x : TextId) × HasToken toks i (tokens.Word x) × for_named_rest s (i + 1)
  RestOf controls.ForNamed s i = for_named_rest s i
  RestOf controls.Test s i = test_rest s i
  RestOf controls.Update s i = update_rest s i
  RestOf controls.LabelOrEnd s i = (x : Option TextId) × (m : ℕ) × LabelStands toks x i m × CompleteRest (rests s).done m
  RestOf controls.ValueOrEnd s i = CompleteRest (rests s).done i ⊎ (IsJoined toks i × value_rest s i)
  RestOf controls.JoinedValue s i = IsJoined toks i × value_rest s i
  RestOf controls.CatchOrFinally s i = TriedRest (rests s).done i
  RestOf controls.CatchOpen s i = CatchOpenRest (rests s).done i
  RestOf controls.CatchName s i = CatchNameRest (rests s).done i
  RestOf controls.CatchClose s i = CatchCloseRest (rests s).done i
  RestOf controls.FinallyOrDone s i = CaughtRest (rests s).done i
  RestOf controls.SwitchBrace s i = HasSign toks i signs.OpenBrace × clauses_rest s (i + 1)
  RestOf controls.ClauseOrEnd s i = clauses_rest s i
  RestOf controls.DefaultColon s i = HasSign toks i signs.Colon × ListRest (rests s) (i + 1)
  RestOf controls.Accepted s i = i ≡ length toks + 1

  abbrev pub Rest : State → ℕ → Type 0
  Rest r i = RestOf r.control r.forms i
