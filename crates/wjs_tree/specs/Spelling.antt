-- Which tokens spell a tree (ECMA-262, 3rd edition, sections 11 to 14).
use Rattle.std.specs.Prelude.{◌≡◌, ℕ, ◌+◌, true, false, List, [], ◌∷◌, Option, Some, None}
use Rattle.wjs_base.specs.declared.ids.TextId.{TextId}
use Rattle.wjs_tree.specs.declared.tokens.Tok.{Tok}
use Rattle.wjs_tree.specs.declared.tokens.Token.{Token}
use Rattle.wjs_tree.specs.declared.tokens.Token.TheVariants as tokens
use Rattle.wjs_tree.specs.declared.signs.Sign.TheVariants as signs
use Rattle.wjs_tree.specs.declared.keys.Key.TheVariants as keys
use Rattle.wjs_tree.specs.declared.node.Spelt.{Spelt}
use Rattle.wjs_tree.specs.declared.node.Spelt.TheVariants as spelts
use Rattle.wjs_tree.specs.declared.node.PropertyKey.{PropertyKey}
use Rattle.wjs_tree.specs.declared.node.PropertyKey.TheVariants as property_keys
use Rattle.wjs_tree.specs.Operators.{update_token, prefix_token, binary_token, assign_token}
use Rattle.wjs_tree.specs.Trees.{Expr, Optional, Arguments, Items, Properties, Variables, Init, Stmt, Stmts, Clauses, Elements, Name, Number, Text, This, ThisWorld, Null, Boolean, Paren, ArrayLit, ObjectLit, Function, Dot, At, Call, NewWith, NewBare, Postfix, Prefix, Binary, Cond, Assign, Comma, Absent, Present, NoArgument, Argument, NoItem, Hole, Item, LastItem, NoProperty, Property, LastProperty, NoVariable, Variable, NoInit, InitExpr, InitVar, Block, Var, Empty, ExprStmt, If, IfElse, DoWhile, While, For, ForIn, ForVarIn, Continue, Break, Return, Throw, Label, Switch, TryCatch, TryFinally, TryBoth, Within, NoStmt, MoreStmts, NoClause, Case, Default, NoElement, Statement, FunctionDecl}
use Rattle.wjs_tree.specs.Levels.{ends_in_update}
use Rattle.wjs_tree.specs.Ends.{HasToken, HasSign, HasKey, IsJoined, Ending, Complete, InName, InExpr, Ends}

-- a name behind a dot (5th edition, section 11.2.1)
abbrev pub spelt_token : Spelt → Token
spelt_token (spelts.Word x) = tokens.Word x
spelt_token (spelts.Key k) = tokens.Key k

-- the name of a property (section 11.1.5)
abbrev pub property_token : PropertyKey → Token
property_token (property_keys.Spelt s) = spelt_token s
property_token (property_keys.Text x) = tokens.Text x
property_token (property_keys.Number n) = tokens.Number n

-- the name of a function expression, which may lack one (section 13)
abbrev pub NameStands : List Tok → Option TextId → ℕ → ℕ → Type 0
NameStands toks None i n = n ≡ i
NameStands toks (Some x) i n = HasToken toks i (tokens.Word x) × (n ≡ i + 1)

-- formals behind a first one
abbrev pub MoreFormalsStand : List Tok → List TextId → ℕ → ℕ → Type 0
MoreFormalsStand toks [] i n = n ≡ i
MoreFormalsStand toks (x ∷ xs) i n = HasSign toks i signs.Comma × HasToken toks (i + 1) (tokens.Word x) × MoreFormalsStand toks xs (i + 2) n

-- formals, separated by commas (section 13)
abbrev pub FormalsStand : List Tok → List TextId → ℕ → ℕ → Type 0
FormalsStand toks [] i n = n ≡ i
FormalsStand toks (x ∷ xs) i n = HasToken toks i (tokens.Word x) × MoreFormalsStand toks xs (i + 1) n

-- the label of a `break` or `continue`, on its line (sections 12.7, 12.8)
abbrev pub LabelStands : List Tok → Option TextId → ℕ → ℕ → Type 0
LabelStands toks None i n = n ≡ i
LabelStands toks (Some x) i n = HasToken toks i (tokens.Word x) × IsJoined toks i × (n ≡ i + 1)

-- how a list of variables ends: in the last name, or in its initialiser
abbrev pub last_ending : Variables → Ending
last_ending NoVariable = Complete
last_ending (Variable x Absent NoVariable) = InName
last_ending (Variable x (Present e) NoVariable) = InExpr (ends_in_update e)
last_ending (Variable x e rest) = last_ending rest

-- how the value of a `return` ends
abbrev pub optional_ending : Optional → Ending
optional_ending Absent = Complete
optional_ending (Present e) = InExpr (ends_in_update e)

-- The tokens from the place i up to, and without, the place n spell the tree.
abbrev mutual
  pub Stands : List Tok → Expr → ℕ → ℕ → Type 0
  Stands toks (Name x) i n = HasToken toks i (tokens.Word x) × (n ≡ i + 1)
  Stands toks (Number k) i n = HasToken toks i (tokens.Number k) × (n ≡ i + 1)
  Stands toks (Text x) i n = HasToken toks i (tokens.Text x) × (n ≡ i + 1)
  Stands toks This i n = HasKey toks i keys.This × (n ≡ i + 1)
  Stands toks ThisWorld i n = HasKey toks i keys.ThisWorld × (n ≡ i + 1)
  Stands toks Null i n = HasKey toks i keys.Null × (n ≡ i + 1)
  Stands toks (Boolean true) i n = HasKey toks i keys.True × (n ≡ i + 1)
  Stands toks (Boolean false) i n = HasKey toks i keys.False × (n ≡ i + 1)
  Stands toks (Paren e) i n = (m : ℕ) × HasSign toks i signs.OpenParen × Stands toks e (i + 1) m × HasSign toks m signs.CloseParen × (n ≡ m + 1)
  Stands toks (ArrayLit xs) i n = (m : ℕ) × HasSign toks i signs.OpenBracket × ItemsStand toks xs (i + 1) m × HasSign toks m signs.CloseBracket × (n ≡ m + 1)
  Stands toks (ObjectLit ps) i n = (m : ℕ) × HasSign toks i signs.OpenBrace × PropertiesStand toks ps (i + 1) m × HasSign toks m signs.CloseBrace × (n ≡ m + 1)
  Stands toks (Function name formals body) i n =
      (a b c : ℕ) × HasKey toks i keys.Function × NameStands toks name (i + 1) a × HasSign toks a signs.OpenParen × FormalsStand toks formals (a + 1) b
      × HasSign toks b signs.CloseParen × HasSign toks (b + 1) signs.OpenBrace × ElementsStand toks body (b + 2) c × HasSign toks c signs.CloseBrace × (n ≡ c + 1)
  Stands toks (Dot e x) i n = (m : ℕ) × Stands toks e i m × HasSign toks m signs.Dot × HasToken toks (m + 1) (spelt_token x) × (n ≡ m + 2)
  Stands toks (At e j) i n = (m k : ℕ) × Stands toks e i m × HasSign toks m signs.OpenBracket × Stands toks j (m + 1) k × HasSign toks k signs.CloseBracket × (n ≡ k + 1)
  Stands toks (Call f xs) i n = (m k : ℕ) × Stands toks f i m × HasSign toks m signs.OpenParen × ArgumentsStand toks xs (m + 1) k × HasSign toks k signs.CloseParen × (n ≡ k + 1)
  Stands toks (NewWith f xs) i n =
      (m k : ℕ) × HasKey toks i keys.New × Stands toks f (i + 1) m × HasSign toks m signs.OpenParen × ArgumentsStand toks xs (m + 1) k × HasSign toks k signs.CloseParen × (n ≡ k + 1)
  Stands toks (NewBare f) i n = HasKey toks i keys.New × Stands toks f (i + 1) n
  Stands toks (Postfix t op) i n = (m : ℕ) × Stands toks t i m × HasToken toks m (update_token op) × IsJoined toks m × (n ≡ m + 1)
  Stands toks (Prefix op e) i n = HasToken toks i (prefix_token op) × Stands toks e (i + 1) n
  Stands toks (Binary a op b) i n = (m : ℕ) × Stands toks a i m × HasToken toks m (binary_token op) × Stands toks b (m + 1) n
  Stands toks (Cond c a b) i n = (m k : ℕ) × Stands toks c i m × HasSign toks m signs.Question × Stands toks a (m + 1) k × HasSign toks k signs.Colon × Stands toks b (k + 1) n
  Stands toks (Assign t op e) i n = (m : ℕ) × Stands toks t i m × HasToken toks m (assign_token op) × Stands toks e (m + 1) n
  Stands toks (Comma a b) i n = (m : ℕ) × Stands toks a i m × HasSign toks m signs.Comma × Stands toks b (m + 1) n

  -- an expression or nothing
  pub OptionalStands : List Tok → Optional → ℕ → ℕ → Type 0
  OptionalStands toks Absent i n = n ≡ i
  OptionalStands toks (Present e) i n = Stands toks e i n

  -- arguments, separated by commas
  pub ArgumentsStand : List Tok → Arguments → ℕ → ℕ → Type 0
  ArgumentsStand toks NoArgument i n = n ≡ i
  ArgumentsStand toks (Argument e rest) i n = (m : ℕ) × Stands toks e i m × MoreArgumentsStand toks rest m n

  -- arguments behind a first one
  pub MoreArgumentsStand : List Tok → Arguments → ℕ → ℕ → Type 0
  MoreArgumentsStand toks NoArgument i n = n ≡ i
  MoreArgumentsStand toks (Argument e rest) i n = (m : ℕ) × HasSign toks i signs.Comma × Stands toks e (i + 1) m × MoreArgumentsStand toks rest m n

  -- items
  pub ItemsStand : List Tok → Items → ℕ → ℕ → Type 0
  ItemsStand toks NoItem i n = n ≡ i
  ItemsStand toks (Hole rest) i n = HasSign toks i signs.Comma × ItemsStand toks rest (i + 1) n
  ItemsStand toks (Item e rest) i n = (m : ℕ) × Stands toks e i m × HasSign toks m signs.Comma × ItemsStand toks rest (m + 1) n
  ItemsStand toks (LastItem e) i n = Stands toks e i n

  -- properties
  pub PropertiesStand : List Tok → Properties → ℕ → ℕ → Type 0
  PropertiesStand toks NoProperty i n = n ≡ i
  PropertiesStand toks (Property key e rest) i n =
      (m : ℕ) × HasToken toks i (property_token key) × HasSign toks (i + 1) signs.Colon × Stands toks e (i + 2) m × HasSign toks m signs.Comma × PropertiesStand toks rest (m + 1) n
  PropertiesStand toks (LastProperty key e) i n = HasToken toks i (property_token key) × HasSign toks (i + 1) signs.Colon × Stands toks e (i + 2) n

  -- variables with their initialisers, separated by commas
  pub VariablesStand : List Tok → Variables → ℕ → ℕ → Type 0
  VariablesStand toks NoVariable i n = n ≡ i
  VariablesStand toks (Variable x e rest) i n = (m : ℕ) × HasToken toks i (tokens.Word x) × InitialiserStands toks e (i + 1) m × MoreVariablesStand toks rest m n

  -- variables behind a first one
  pub MoreVariablesStand : List Tok → Variables → ℕ → ℕ → Type 0
  MoreVariablesStand toks NoVariable i n = n ≡ i
  MoreVariablesStand toks (Variable x e rest) i n =
      (m : ℕ) × HasSign toks i signs.Comma × HasToken toks (i + 1) (tokens.Word x) × InitialiserStands toks e (i + 2) m × MoreVariablesStand toks rest m n

  -- `=` and a value, or nothing
  pub InitialiserStands : List Tok → Optional → ℕ → ℕ → Type 0
  InitialiserStands toks Absent i n = n ≡ i
  InitialiserStands toks (Present e) i n = HasSign toks i signs.Assign × Stands toks e (i + 1) n

  -- what stands first in the header of a `for`
  pub InitStands : List Tok → Init → ℕ → ℕ → Type 0
  InitStands toks NoInit i n = n ≡ i
  InitStands toks (InitExpr e) i n = Stands toks e i n
  InitStands toks (InitVar vs) i n = HasKey toks i keys.Var × VariablesStand toks vs (i + 1) n

  -- a statement with its end
  pub StmtStands : List Tok → Stmt → ℕ → ℕ → Type 0
  StmtStands toks (Block body) i n = (m : ℕ) × HasSign toks i signs.OpenBrace × StmtsStand toks body (i + 1) m × HasSign toks m signs.CloseBrace × (n ≡ m + 1)
  StmtStands toks (Var vs end) i n = (m : ℕ) × HasKey toks i keys.Var × VariablesStand toks vs (i + 1) m × Ends toks (last_ending vs) end m n
  StmtStands toks Empty i n = HasSign toks i signs.Semicolon × (n ≡ i + 1)
  StmtStands toks (ExprStmt e end) i n = (m : ℕ) × Stands toks e i m × Ends toks (InExpr (ends_in_update e)) end m n
  StmtStands toks (If e s) i n =
      (m : ℕ) × HasKey toks i keys.If × HasSign toks (i + 1) signs.OpenParen × Stands toks e (i + 2) m × HasSign toks m signs.CloseParen × StmtStands toks s (m + 1) n
  StmtStands toks (IfElse e s u) i n =
      (m k : ℕ) × HasKey toks i keys.If × HasSign toks (i + 1) signs.OpenParen × Stands toks e (i + 2) m × HasSign toks m signs.CloseParen × StmtStands toks s (m + 1) k
      × HasKey toks k keys.Else × StmtStands toks u (k + 1) n
  StmtStands toks (DoWhile s e end) i n =
      (m k : ℕ) × HasKey toks i keys.Do × StmtStands toks s (i + 1) m × HasKey toks m keys.While × HasSign toks (m + 1) signs.OpenParen × Stands toks e (m + 2) k
      × HasSign toks k signs.CloseParen × Ends toks Complete end (k + 1) n
  StmtStands toks (While e s) i n =
      (m : ℕ) × HasKey toks i keys.While × HasSign toks (i + 1) signs.OpenParen × Stands toks e (i + 2) m × HasSign toks m signs.CloseParen × StmtStands toks s (m + 1) n
  StmtStands toks (For init test update s) i n =
      (a b c : ℕ) × HasKey toks i keys.For × HasSign toks (i + 1) signs.OpenParen × InitStands toks init (i + 2) a × HasSign toks a signs.Semicolon
      × OptionalStands toks test (a + 1) b × HasSign toks b signs.Semicolon × OptionalStands toks update (b + 1) c × HasSign toks c signs.CloseParen × StmtStands toks s (c + 1) n
  StmtStands toks (ForIn t e s) i n =
      (a b : ℕ) × HasKey toks i keys.For × HasSign toks (i + 1) signs.OpenParen × Stands toks t (i + 2) a × HasKey toks a keys.In × Stands toks e (a + 1) b
      × HasSign toks b signs.CloseParen × StmtStands toks s (b + 1) n
  StmtStands toks (ForVarIn x e s) i n =
      (b : ℕ) × HasKey toks i keys.For × HasSign toks (i + 1) signs.OpenParen × HasKey toks (i + 2) keys.Var × HasToken toks (i + 3) (tokens.Word x) × HasKey toks (i + 4) keys.In
      × Stands toks e (i + 5) b × HasSign toks b signs.CloseParen × StmtStands toks s (b + 1) n
  StmtStands toks (Continue label end) i n = (m : ℕ) × HasKey toks i keys.Continue × LabelStands toks label (i + 1) m × Ends toks Complete end m n
  StmtStands toks (Break label end) i n = (m : ℕ) × HasKey toks i keys.Break × LabelStands toks label (i + 1) m × Ends toks Complete end m n
  StmtStands toks (Return Absent end) i n = HasKey toks i keys.Return × Ends toks Complete end (i + 1) n
  StmtStands toks (Return (Present e) end) i n = (m : ℕ) × HasKey toks i keys.Return × IsJoined toks (i + 1) × Stands toks e (i + 1) m × Ends toks (InExpr (ends_in_update e)) end m n
  StmtStands toks (Throw e end) i n = (m : ℕ) × HasKey toks i keys.Throw × IsJoined toks (i + 1) × Stands toks e (i + 1) m × Ends toks (InExpr (ends_in_update e)) end m n
  StmtStands toks (Label x s) i n = HasToken toks i (tokens.Word x) × HasSign toks (i + 1) signs.Colon × StmtStands toks s (i + 2) n
  StmtStands toks (Switch e clauses) i n =
      (m k : ℕ) × HasKey toks i keys.Switch × HasSign toks (i + 1) signs.OpenParen × Stands toks e (i + 2) m × HasSign toks m signs.CloseParen × HasSign toks (m + 1) signs.OpenBrace
      × ClausesStand toks clauses (m + 2) k × HasSign toks k signs.CloseBrace × (n ≡ k + 1)
  StmtStands toks (TryCatch b x c) i n =
      (m k : ℕ) × HasKey toks i keys.Try × HasSign toks (i + 1) signs.OpenBrace × StmtsStand toks b (i + 2) m × HasSign toks m signs.CloseBrace
      × HasKey toks (m + 1) keys.Catch × HasSign toks (m + 2) signs.OpenParen × HasToken toks (m + 3) (tokens.Word x) × HasSign toks (m + 4) signs.CloseParen
      × HasSign toks (m + 5) signs.OpenBrace × StmtsStand toks c (m + 6) k × HasSign toks k signs.CloseBrace × (n ≡ k + 1)
  StmtStands toks (TryFinally b f) i n =
      (m k : ℕ) × HasKey toks i keys.Try × HasSign toks (i + 1) signs.OpenBrace × StmtsStand toks b (i + 2) m × HasSign toks m signs.CloseBrace
      × HasKey toks (m + 1) keys.Finally × HasSign toks (m + 2) signs.OpenBrace × StmtsStand toks f (m + 3) k × HasSign toks k signs.CloseBrace × (n ≡ k + 1)
  StmtStands toks (TryBoth b x c f) i n =
      (m k l : ℕ) × HasKey toks i keys.Try × HasSign toks (i + 1) signs.OpenBrace × StmtsStand toks b (i + 2) m × HasSign toks m signs.CloseBrace
      × HasKey toks (m + 1) keys.Catch × HasSign toks (m + 2) signs.OpenParen × HasToken toks (m + 3) (tokens.Word x) × HasSign toks (m + 4) signs.CloseParen
      × HasSign toks (m + 5) signs.OpenBrace × StmtsStand toks c (m + 6) k × HasSign toks k signs.CloseBrace
      × HasKey toks (k + 1) keys.Finally × HasSign toks (k + 2) signs.OpenBrace × StmtsStand toks f (k + 3) l × HasSign toks l signs.CloseBrace × (n ≡ l + 1)
  StmtStands toks (Within e b) i n =
      (m k : ℕ) × HasKey toks i keys.In × Stands toks e (i + 1) m × HasSign toks m signs.OpenBrace × StmtsStand toks b (m + 1) k × HasSign toks k signs.CloseBrace × (n ≡ k + 1)

  -- statements one behind another
  pub StmtsStand : List Tok → Stmts → ℕ → ℕ → Type 0
  StmtsStand toks NoStmt i n = n ≡ i
  StmtsStand toks (MoreStmts s rest) i n = (m : ℕ) × StmtStands toks s i m × StmtsStand toks rest m n

  -- clauses one behind another
  pub ClausesStand : List Tok → Clauses → ℕ → ℕ → Type 0
  ClausesStand toks NoClause i n = n ≡ i
  ClausesStand toks (Case e body rest) i n =
      (m k : ℕ) × HasKey toks i keys.Case × Stands toks e (i + 1) m × HasSign toks m signs.Colon × StmtsStand toks body (m + 1) k × ClausesStand toks rest k n
  ClausesStand toks (Default body rest) i n = (k : ℕ) × HasKey toks i keys.Default × HasSign toks (i + 1) signs.Colon × StmtsStand toks body (i + 2) k × ClausesStand toks rest k n

  -- elements one behind another (section 14)
  pub ElementsStand : List Tok → Elements → ℕ → ℕ → Type 0
  ElementsStand toks NoElement i n = n ≡ i
  ElementsStand toks (Statement s rest) i n = (m : ℕ) × StmtStands toks s i m × ElementsStand toks rest m n
  ElementsStand toks (FunctionDecl x formals body rest) i n =
      (b c : ℕ) × HasKey toks i keys.Function × HasToken toks (i + 1) (tokens.Word x) × HasSign toks (i + 2) signs.OpenParen × FormalsStand toks formals (i + 3) b
      × HasSign toks b signs.CloseParen × HasSign toks (b + 1) signs.OpenBrace × ElementsStand toks body (b + 2) c × HasSign toks c signs.CloseBrace × ElementsStand toks rest (c + 1) n
