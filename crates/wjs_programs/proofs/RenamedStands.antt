-- Tokens with other numbers for their texts spell the tree with those numbers.
use Rattle.std.specs.Prelude.{◌≡◌, ℕ, ◌+◌, true, false, List, [], ◌∷◌, Option, Some, None, length}
use Rattle.std.proofs.Common.{refl, sym, subst}
use Rattle.std.proofs.lemmas.List.{length-map}
use Rattle.wjs_base.specs.declared.ids.TextId.{TextId}
use Rattle.wjs_tree.specs.declared.tokens.Tok.{Tok}
use Rattle.wjs_tree.specs.declared.tokens.Token.TheVariants as tokens
use Rattle.wjs_tree.specs.declared.signs.Sign.{Sign}
use Rattle.wjs_tree.specs.declared.signs.Sign.TheVariants as signs
use Rattle.wjs_tree.specs.declared.keys.Key.{Key}
use Rattle.wjs_tree.specs.declared.keys.Key.TheVariants as keys
use Rattle.wjs_tree.specs.Trees.{Expr, Optional, Arguments, Items, Properties, Variables, Init, Stmt, Stmts, Clauses, Elements, Name, Number, Text, This, ThisWorld, Null, Boolean, Paren, ArrayLit, ObjectLit, Function, Dot, At, Call, NewWith, NewBare, Postfix, Prefix, Binary, Cond, Assign, Comma, Absent, Present, NoArgument, Argument, NoItem, Hole, Item, LastItem, NoProperty, Property, LastProperty, NoVariable, Variable, NoInit, InitExpr, InitVar, Block, Var, Empty, ExprStmt, If, IfElse, DoWhile, While, For, ForIn, ForVarIn, Continue, Break, Return, Throw, Label, Switch, TryCatch, TryFinally, TryBoth, Within, NoStmt, MoreStmts, NoClause, Case, Default, NoElement, Statement, FunctionDecl}
use Rattle.wjs_tree.specs.Levels.{ends_in_update}
use Rattle.wjs_tree.specs.Ends.{HasToken, HasSign, HasKey, Complete, InExpr}
use Rattle.wjs_tree.specs.Spelling.{Stands, OptionalStands, ArgumentsStand, MoreArgumentsStand, ItemsStand, PropertiesStand, VariablesStand, MoreVariablesStand, InitialiserStands, InitStands, StmtStands, StmtsStand, ClausesStand, ElementsStand, NameStands, FormalsStand, MoreFormalsStand, LabelStands, last_ending}
use Rattle.wjs_parse.specs.Readings.{ProgramReading}
use Rattle.wjs_programs.proofs.Renaming.{tok_renamed, toks_renamed, name_renamed, names_renamed, renamed, optional_renamed, arguments_renamed, items_renamed, properties_renamed, variables_renamed, init_renamed, stmt_renamed, stmts_renamed, clauses_renamed, elements_renamed}
use Rattle.wjs_programs.proofs.RenamedTokens.{has, has_update, has_prefix, has_binary, has_assign, has_spelt, has_property, joined, ends_renamed}
use Rattle.wjs_programs.proofs.RenamedLevels.{same_ending, same_last}
use Rattle.wjs_programs.proofs.RenamedForms.{program_formed}

module _ (r : TextId → TextId) (toks : List Tok) where
  word : (i : ℕ) (x : TextId) → HasToken toks i (tokens.Word x) → HasToken (toks_renamed r toks) i (tokens.Word (r x))
  word i x h = has r toks i (tokens.Word x) h

  sign : (i : ℕ) (s : Sign) → HasSign toks i s → HasSign (toks_renamed r toks) i s
  sign i s h = has r toks i (tokens.Sign s) h

  key : (i : ℕ) (k : Key) → HasKey toks i k → HasKey (toks_renamed r toks) i k
  key i k h = has r toks i (tokens.Key k) h

  name_stands : (name : Option TextId) (i n : ℕ) → NameStands toks name i n → NameStands (toks_renamed r toks) (name_renamed r name) i n
  name_stands None i n h = h
  name_stands (Some x) i n h = (word i x h.0, h.1)

  label_stands : (label : Option TextId) (i n : ℕ) → LabelStands toks label i n → LabelStands (toks_renamed r toks) (name_renamed r label) i n
  label_stands None i n h = h
  label_stands (Some x) i n h = (word i x h.0, joined r toks i h.1, h.2)

  more_formals_stand : (formals : List TextId) (i n : ℕ) → MoreFormalsStand toks formals i n → MoreFormalsStand (toks_renamed r toks) (names_renamed r formals) i n
  more_formals_stand [] i n h = h
  more_formals_stand (x ∷ xs) i n h = (sign i signs.Comma h.0, word (i + 1) x h.1, more_formals_stand xs (i + 2) n h.2)

  formals_stand : (formals : List TextId) (i n : ℕ) → FormalsStand toks formals i n → FormalsStand (toks_renamed r toks) (names_renamed r formals) i n
  formals_stand [] i n h = h
  formals_stand (x ∷ xs) i n h = (word i x h.0, more_formals_stand xs (i + 1) n h.1)

  mutual
    stands : (t : Expr) (i n : ℕ) → Stands toks t i n → Stands (toks_renamed r toks) (renamed r t) i n
    stands (Name x) i n h = (word i x h.0, h.1)
    stands (Number k) i n h = (has r toks i (tokens.Number k) h.0, h.1)
    stands (Text x) i n h = (has r toks i (tokens.Text x) h.0, h.1)
    stands This i n h = (key i keys.This h.0, h.1)
    stands ThisWorld i n h = (key i keys.ThisWorld h.0, h.1)
    stands Null i n h = (key i keys.Null h.0, h.1)
    stands (Boolean true) i n h = (key i keys.True h.0, h.1)
    stands (Boolean false) i n h = (key i keys.False h.0, h.1)
    stands (Paren e) i n h = (h.0, sign i signs.OpenParen h.1, stands e (i + 1) h.0 h.2, sign h.0 signs.CloseParen h.3, h.4)
    stands (ArrayLit xs) i n h = (h.0, sign i signs.OpenBracket h.1, items_stand xs (i + 1) h.0 h.2, sign h.0 signs.CloseBracket h.3, h.4)
    stands (ObjectLit ps) i n h = (h.0, sign i signs.OpenBrace h.1, properties_stand ps (i + 1) h.0 h.2, sign h.0 signs.CloseBrace h.3, h.4)
    stands (Function name formals body) i n h = (
      h.0,
      h.1,
      h.2,
      key i keys.Function h.3,
      name_stands name (i + 1) h.0 h.4,
      sign h.0 signs.OpenParen h.5,
      formals_stand formals (h.0 + 1) h.1 h.6,
      sign h.1 signs.CloseParen h.7,
      sign (h.1 + 1) signs.OpenBrace h.8,
      elements_stand body (h.1 + 2) h.2 h.9,
      sign h.2 signs.CloseBrace h.10,
      h.11,
    )
    stands (Dot e x) i n h = (h.0, stands e i h.0 h.1, sign h.0 signs.Dot h.2, has_spelt r toks (h.0 + 1) x h.3, h.4)
    stands (At e j) i n h = (h.0, h.1, stands e i h.0 h.2, sign h.0 signs.OpenBracket h.3, stands j (h.0 + 1) h.1 h.4, sign h.1 signs.CloseBracket h.5, h.6)
    stands (Call f xs) i n h = (h.0, h.1, stands f i h.0 h.2, sign h.0 signs.OpenParen h.3, arguments_stand xs (h.0 + 1) h.1 h.4, sign h.1 signs.CloseParen h.5, h.6)
    stands (NewWith f xs) i n h = (h.0, h.1, key i keys.New h.2, stands f (i + 1) h.0 h.3, sign h.0 signs.OpenParen h.4, arguments_stand xs (h.0 + 1) h.1 h.5, sign h.1 signs.CloseParen h.6, h.7)
    stands (NewBare f) i n h = (key i keys.New h.0, stands f (i + 1) n h.1)
    stands (Postfix t op) i n h = (h.0, stands t i h.0 h.1, has_update r toks h.0 op h.2, joined r toks h.0 h.3, h.4)
    stands (Prefix op e) i n h = (has_prefix r toks i op h.0, stands e (i + 1) n h.1)
    stands (Binary a op b) i n h = (h.0, stands a i h.0 h.1, has_binary r toks h.0 op h.2, stands b (h.0 + 1) n h.3)
    stands (Cond c a b) i n h = (h.0, h.1, stands c i h.0 h.2, sign h.0 signs.Question h.3, stands a (h.0 + 1) h.1 h.4, sign h.1 signs.Colon h.5, stands b (h.1 + 1) n h.6)
    stands (Assign t op e) i n h = (h.0, stands t i h.0 h.1, has_assign r toks h.0 op h.2, stands e (h.0 + 1) n h.3)
    stands (Comma a b) i n h = (h.0, stands a i h.0 h.1, sign h.0 signs.Comma h.2, stands b (h.0 + 1) n h.3)

    optional_stands : (t : Optional) (i n : ℕ) → OptionalStands toks t i n → OptionalStands (toks_renamed r toks) (optional_renamed r t) i n
    optional_stands Absent i n h = h
    optional_stands (Present e) i n h = stands e i n h

    arguments_stand : (t : Arguments) (i n : ℕ) → ArgumentsStand toks t i n → ArgumentsStand (toks_renamed r toks) (arguments_renamed r t) i n
    arguments_stand NoArgument i n h = h
    arguments_stand (Argument e rest) i n h = (h.0, stands e i h.0 h.1, more_arguments_stand rest h.0 n h.2)

    more_arguments_stand : (t : Arguments) (i n : ℕ) → MoreArgumentsStand toks t i n → MoreArgumentsStand (toks_renamed r toks) (arguments_renamed r t) i n
    more_arguments_stand NoArgument i n h = h
    more_arguments_stand (Argument e rest) i n h = (h.0, sign i signs.Comma h.1, stands e (i + 1) h.0 h.2, more_arguments_stand rest h.0 n h.3)

    items_stand : (t : Items) (i n : ℕ) → ItemsStand toks t i n → ItemsStand (toks_renamed r toks) (items_renamed r t) i n
    items_stand NoItem i n h = h
    items_stand (Hole rest) i n h = (sign i signs.Comma h.0, items_stand rest (i + 1) n h.1)
    items_stand (Item e rest) i n h = (h.0, stands e i h.0 h.1, sign h.0 signs.Comma h.2, items_stand rest (h.0 + 1) n h.3)
    items_stand (LastItem e) i n h = stands e i n h

    properties_stand : (t : Properties) (i n : ℕ) → PropertiesStand toks t i n → PropertiesStand (toks_renamed r toks) (properties_renamed r t) i n
    properties_stand NoProperty i n h = h
    properties_stand (Property k e rest) i n h =
        (h.0, has_property r toks i k h.1, sign (i + 1) signs.Colon h.2, stands e (i + 2) h.0 h.3, sign h.0 signs.Comma h.4, properties_stand rest (h.0 + 1) n h.5)
    properties_stand (LastProperty k e) i n h = (has_property r toks i k h.0, sign (i + 1) signs.Colon h.1, stands e (i + 2) n h.2)

    variables_stand : (t : Variables) (i n : ℕ) → VariablesStand toks t i n → VariablesStand (toks_renamed r toks) (variables_renamed r t) i n
    variables_stand NoVariable i n h = h
    variables_stand (Variable x e rest) i n h = (h.0, word i x h.1, initialiser_stands e (i + 1) h.0 h.2, more_variables_stand rest h.0 n h.3)

    more_variables_stand : (t : Variables) (i n : ℕ) → MoreVariablesStand toks t i n → MoreVariablesStand (toks_renamed r toks) (variables_renamed r t) i n
    more_variables_stand NoVariable i n h = h
    more_variables_stand (Variable x e rest) i n h = (h.0, sign i signs.Comma h.1, word (i + 1) x h.2, initialiser_stands e (i + 2) h.0 h.3, more_variables_stand rest h.0 n h.4)

    initialiser_stands : (t : Optional) (i n : ℕ) → InitialiserStands toks t i n → InitialiserStands (toks_renamed r toks) (optional_renamed r t) i n
    initialiser_stands Absent i n h = h
    initialiser_stands (Present e) i n h = (sign i signs.Assign h.0, stands e (i + 1) n h.1)

    init_stands : (t : Init) (i n : ℕ) → InitStands toks t i n → InitStands (toks_renamed r toks) (init_renamed r t) i n
    init_stands NoInit i n h = h
    init_stands (InitExpr e) i n h = stands e i n h
    init_stands (InitVar vs) i n h = (key i keys.Var h.0, variables_stand vs (i + 1) n h.1)

    stmt_stands : (t : Stmt) (i n : ℕ) → StmtStands toks t i n → StmtStands (toks_renamed r toks) (stmt_renamed r t) i n
    stmt_stands (Block body) i n h = (h.0, sign i signs.OpenBrace h.1, stmts_stand body (i + 1) h.0 h.2, sign h.0 signs.CloseBrace h.3, h.4)
    stmt_stands (Var vs end) i n h = (h.0, key i keys.Var h.1, variables_stand vs (i + 1) h.0 h.2, ends_renamed r toks (last_ending vs) _ end h.0 n (same_last r vs) h.3)
    stmt_stands Empty i n h = (sign i signs.Semicolon h.0, h.1)
    stmt_stands (ExprStmt e end) i n h = (h.0, stands e i h.0 h.1, ends_renamed r toks (InExpr (ends_in_update e)) _ end h.0 n (same_ending r e) h.2)
    stmt_stands (If e s) i n h = (h.0, key i keys.If h.1, sign (i + 1) signs.OpenParen h.2, stands e (i + 2) h.0 h.3, sign h.0 signs.CloseParen h.4, stmt_stands s (h.0 + 1) n h.5)
    stmt_stands (IfElse e s u) i n h = (
      h.0,
      h.1,
      key i keys.If h.2,
      sign (i + 1) signs.OpenParen h.3,
      stands e (i + 2) h.0 h.4,
      sign h.0 signs.CloseParen h.5,
      stmt_stands s (h.0 + 1) h.1 h.6,
      key h.1 keys.Else h.7,
      stmt_stands u (h.1 + 1) n h.8,
    )
    stmt_stands (DoWhile s e end) i n h = (
      h.0,
      h.1,
      key i keys.Do h.2,
      stmt_stands s (i + 1) h.0 h.3,
      key h.0 keys.While h.4,
      sign (h.0 + 1) signs.OpenParen h.5,
      stands e (h.0 + 2) h.1 h.6,
      sign h.1 signs.CloseParen h.7,
      ends_renamed r toks Complete Complete end (h.1 + 1) n refl h.8,
    )
    stmt_stands (While e s) i n h = (h.0, key i keys.While h.1, sign (i + 1) signs.OpenParen h.2, stands e (i + 2) h.0 h.3, sign h.0 signs.CloseParen h.4, stmt_stands s (h.0 + 1) n h.5)
    stmt_stands (For first test update s) i n h = (
      h.0,
      h.1,
      h.2,
      key i keys.For h.3,
      sign (i + 1) signs.OpenParen h.4,
      init_stands first (i + 2) h.0 h.5,
      sign h.0 signs.Semicolon h.6,
      optional_stands test (h.0 + 1) h.1 h.7,
      sign h.1 signs.Semicolon h.8,
      optional_stands update (h.1 + 1) h.2 h.9,
      sign h.2 signs.CloseParen h.10,
      stmt_stands s (h.2 + 1) n h.11,
    )
    stmt_stands (ForIn t e s) i n h = (
      h.0,
      h.1,
      key i keys.For h.2,
      sign (i + 1) signs.OpenParen h.3,
      stands t (i + 2) h.0 h.4,
      key h.0 keys.In h.5,
      stands e (h.0 + 1) h.1 h.6,
      sign h.1 signs.CloseParen h.7,
      stmt_stands s (h.1 + 1) n h.8,
    )
    stmt_stands (ForVarIn x e s) i n h = (
      h.0,
      key i keys.For h.1,
      sign (i + 1) signs.OpenParen h.2,
      key (i + 2) keys.Var h.3,
      word (i + 3) x h.4,
      key (i + 4) keys.In h.5,
      stands e (i + 5) h.0 h.6,
      sign h.0 signs.CloseParen h.7,
      stmt_stands s (h.0 + 1) n h.8,
    )
    stmt_stands (Continue label end) i n h = (h.0, key i keys.Continue h.1, label_stands label (i + 1) h.0 h.2, ends_renamed r toks Complete Complete end h.0 n refl h.3)
    stmt_stands (Break label end) i n h = (h.0, key i keys.Break h.1, label_stands label (i + 1) h.0 h.2, ends_renamed r toks Complete Complete end h.0 n refl h.3)
    stmt_stands (Return Absent end) i n h = (key i keys.Return h.0, ends_renamed r toks Complete Complete end (i + 1) n refl h.1)
    stmt_stands (Return (Present e) end) i n h =
        (h.0, key i keys.Return h.1, joined r toks (i + 1) h.2, stands e (i + 1) h.0 h.3, ends_renamed r toks (InExpr (ends_in_update e)) _ end h.0 n (same_ending r e) h.4)
    stmt_stands (Throw e end) i n h =
        (h.0, key i keys.Throw h.1, joined r toks (i + 1) h.2, stands e (i + 1) h.0 h.3, ends_renamed r toks (InExpr (ends_in_update e)) _ end h.0 n (same_ending r e) h.4)
    stmt_stands (Label x s) i n h = (word i x h.0, sign (i + 1) signs.Colon h.1, stmt_stands s (i + 2) n h.2)
    stmt_stands (Switch e list) i n h = (
      h.0,
      h.1,
      key i keys.Switch h.2,
      sign (i + 1) signs.OpenParen h.3,
      stands e (i + 2) h.0 h.4,
      sign h.0 signs.CloseParen h.5,
      sign (h.0 + 1) signs.OpenBrace h.6,
      clauses_stand list (h.0 + 2) h.1 h.7,
      sign h.1 signs.CloseBrace h.8,
      h.9,
    )
    stmt_stands (TryCatch b x c) i n h = (
      h.0,
      h.1,
      key i keys.Try h.2,
      sign (i + 1) signs.OpenBrace h.3,
      stmts_stand b (i + 2) h.0 h.4,
      sign h.0 signs.CloseBrace h.5,
      key (h.0 + 1) keys.Catch h.6,
      sign (h.0 + 2) signs.OpenParen h.7,
      word (h.0 + 3) x h.8,
      sign (h.0 + 4) signs.CloseParen h.9,
      sign (h.0 + 5) signs.OpenBrace h.10,
      stmts_stand c (h.0 + 6) h.1 h.11,
      sign h.1 signs.CloseBrace h.12,
      h.13,
    )
    stmt_stands (TryFinally b f) i n h = (
      h.0,
      h.1,
      key i keys.Try h.2,
      sign (i + 1) signs.OpenBrace h.3,
      stmts_stand b (i + 2) h.0 h.4,
      sign h.0 signs.CloseBrace h.5,
      key (h.0 + 1) keys.Finally h.6,
      sign (h.0 + 2) signs.OpenBrace h.7,
      stmts_stand f (h.0 + 3) h.1 h.8,
      sign h.1 signs.CloseBrace h.9,
      h.10,
    )
    stmt_stands (TryBoth b x c f) i n h = (
      h.0,
      h.1,
      h.2,
      key i keys.Try h.3,
      sign (i + 1) signs.OpenBrace h.4,
      stmts_stand b (i + 2) h.0 h.5,
      sign h.0 signs.CloseBrace h.6,
      key (h.0 + 1) keys.Catch h.7,
      sign (h.0 + 2) signs.OpenParen h.8,
      word (h.0 + 3) x h.9,
      sign (h.0 + 4) signs.CloseParen h.10,
      sign (h.0 + 5) signs.OpenBrace h.11,
      stmts_stand c (h.0 + 6) h.1 h.12,
      sign h.1 signs.CloseBrace h.13,
      key (h.1 + 1) keys.Finally h.14,
      sign (h.1 + 2) signs.OpenBrace h.15,
      stmts_stand f (h.1 + 3) h.2 h.16,
      sign h.2 signs.CloseBrace h.17,
      h.18,
    )
    stmt_stands (Within e b) i n h =
        (h.0, h.1, key i keys.In h.2, stands e (i + 1) h.0 h.3, sign h.0 signs.OpenBrace h.4, stmts_stand b (h.0 + 1) h.1 h.5, sign h.1 signs.CloseBrace h.6, h.7)

    stmts_stand : (t : Stmts) (i n : ℕ) → StmtsStand toks t i n → StmtsStand (toks_renamed r toks) (stmts_renamed r t) i n
    stmts_stand NoStmt i n h = h
    stmts_stand (MoreStmts s rest) i n h = (h.0, stmt_stands s i h.0 h.1, stmts_stand rest h.0 n h.2)

    clauses_stand : (t : Clauses) (i n : ℕ) → ClausesStand toks t i n → ClausesStand (toks_renamed r toks) (clauses_renamed r t) i n
    clauses_stand NoClause i n h = h
    clauses_stand (Case e body rest) i n h =
        (h.0, h.1, key i keys.Case h.2, stands e (i + 1) h.0 h.3, sign h.0 signs.Colon h.4, stmts_stand body (h.0 + 1) h.1 h.5, clauses_stand rest h.1 n h.6)
    clauses_stand (Default body rest) i n h = (h.0, key i keys.Default h.1, sign (i + 1) signs.Colon h.2, stmts_stand body (i + 2) h.0 h.3, clauses_stand rest h.0 n h.4)

    elements_stand : (t : Elements) (i n : ℕ) → ElementsStand toks t i n → ElementsStand (toks_renamed r toks) (elements_renamed r t) i n
    elements_stand NoElement i n h = h
    elements_stand (Statement s rest) i n h = (h.0, stmt_stands s i h.0 h.1, elements_stand rest h.0 n h.2)
    elements_stand (FunctionDecl x formals body rest) i n h = (
      h.0,
      h.1,
      key i keys.Function h.2,
      word (i + 1) x h.3,
      sign (i + 2) signs.OpenParen h.4,
      formals_stand formals (i + 3) h.0 h.5,
      sign h.0 signs.CloseParen h.6,
      sign (h.0 + 1) signs.OpenBrace h.7,
      elements_stand body (h.0 + 2) h.1 h.8,
      sign h.1 signs.CloseBrace h.9,
      elements_stand rest (h.1 + 1) n h.10,
    )

  -- different texts keep different numbers
  pub reading_renamed : ((x y : TextId) → r x ≡ r y → x ≡ y) → (body : Elements) → ProgramReading toks body → ProgramReading (toks_renamed r toks) (elements_renamed r body)
  reading_renamed injective body h = record {
    formed = program_formed r injective body h.formed;
    stands = subst (λ n. ElementsStand (toks_renamed r toks) (elements_renamed r body) 0 n) (sym (length-map toks (tok_renamed r))) (elements_stand body 0 (length toks) h.stands);
  }
