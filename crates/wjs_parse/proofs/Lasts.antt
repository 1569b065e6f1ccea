-- Behind a tree another may begin: no tree ends in a dot.
use Rattle.std.proofs.Common.{◌≡◌, ℕ, ◌+◌, true, false, List, Option, Some, None, sym, subst, arith}
use Rattle.wjs_base.specs.declared.ids.TextId.{TextId}
use Rattle.wjs_tree.specs.declared.tokens.Tok.{Tok}
use Rattle.wjs_tree.specs.declared.tokens.Token.TheVariants as tokens
use Rattle.wjs_tree.specs.declared.signs.Sign.{Sign}
use Rattle.wjs_tree.specs.declared.signs.Sign.TheVariants as signs
use Rattle.wjs_tree.specs.declared.keys.Key.{Key}
use Rattle.wjs_tree.specs.declared.keys.Key.TheVariants as keys
use Rattle.wjs_tree.specs.declared.node.End.{End}
use Rattle.wjs_tree.specs.declared.node.End.TheVariants as ends
use Rattle.wjs_tree.specs.declared.node.Spelt.{Spelt}
use Rattle.wjs_tree.specs.declared.node.Spelt.TheVariants as spelts
use Rattle.wjs_tree.specs.declared.operators.UpdateOperator.{UpdateOperator}
use Rattle.wjs_tree.specs.declared.operators.UpdateOperator.TheVariants as updates
use Rattle.wjs_tree.specs.Operators.{update_token}
use Rattle.wjs_tree.specs.Trees.{Expr, Optional, Variables, Stmt, Name, Number, Text, This, ThisWorld, Null, Boolean, Paren, ArrayLit, ObjectLit, Function, Dot, At, Call, NewWith, NewBare, Postfix, Prefix, Binary, Cond, Assign, Comma, Absent, Present, NoVariable, Variable, Block, Var, Empty, ExprStmt, If, IfElse, DoWhile, While, For, ForIn, ForVarIn, Continue, Break, Return, Throw, Label, Switch, TryCatch, TryFinally, TryBoth, Within}
use Rattle.wjs_tree.specs.Levels.{ends_in_update}
use Rattle.wjs_tree.specs.Ends.{HasToken, HasSign, HasKey, Ending, Complete, InExpr, Ends}
use Rattle.wjs_tree.specs.Spelling.{Stands, InitialiserStands, VariablesStand, MoreVariablesStand, LabelStands, StmtStands, spelt_token, last_ending}
use Rattle.wjs_parse_expr.specs.Table.{MayBegin}
use Rattle.wjs_parse_expr.proofs.Places.{behind, behind_sign, behind_key}
use Rattle.wjs_parse.specs.Readings.{Element, Plain, Declared, ElementStands}

spelt_no_dot : (x : Spelt) → spelt_token x ≡ tokens.Sign signs.Dot → ⊥
spelt_no_dot (spelts.Word x) e = cc
spelt_no_dot (spelts.Key k) e = cc

update_no_dot : (op : UpdateOperator) → update_token op ≡ tokens.Sign signs.Dot → ⊥
update_no_dot updates.Increment e = cc
update_no_dot updates.Decrement e = cc

module _ (toks : List Tok) where
  last_word : (x : TextId) (p n : ℕ) → HasToken toks p (tokens.Word x) → n ≡ p + 1 → MayBegin toks n
  last_word x p n h e = behind toks p n (tokens.Word x) e h (λ d. cc)

  last_key : (key : Key) (p n : ℕ) → HasKey toks p key → n ≡ p + 1 → MayBegin toks n
  last_key key p n h e = behind toks p n (tokens.Key key) e h (λ d. cc)

  last_sign : (sign : Sign) (p n : ℕ) → (sign ≡ signs.Dot → ⊥) → HasSign toks p sign → n ≡ p + 1 → MayBegin toks n
  last_sign sign p n other h e = behind toks p n (tokens.Sign sign) e h (λ d. other (cc))

  same : (i n : ℕ) → MayBegin toks i → n ≡ i → MayBegin toks n
  same i n b e = subst (λ (z : ℕ). MayBegin toks z) (sym e) b

  behind_expr : (t : Expr) (i n : ℕ) → Stands toks t i n → MayBegin toks n
  behind_expr (Name x) i n s = last_word x i n s.0 s.1
  behind_expr (Number x) i n s = behind toks i n (tokens.Number x) s.1 s.0 (λ d. cc)
  behind_expr (Text x) i n s = behind toks i n (tokens.Text x) s.1 s.0 (λ d. cc)
  behind_expr This i n s = last_key keys.This i n s.0 s.1
  behind_expr ThisWorld i n s = last_key keys.ThisWorld i n s.0 s.1
  behind_expr Null i n s = last_key keys.Null i n s.0 s.1
  behind_expr (Boolean true) i n s = last_key keys.True i n s.0 s.1
  behind_expr (Boolean false) i n s = last_key keys.False i n s.0 s.1
  behind_expr (Paren e) i n s = last_sign signs.CloseParen s.0 n (λ d. cc) s.3 s.4
  behind_expr (ArrayLit xs) i n s = last_sign signs.CloseBracket s.0 n (λ d. cc) s.3 s.4
  behind_expr (ObjectLit ps) i n s = last_sign signs.CloseBrace s.0 n (λ d. cc) s.3 s.4
  behind_expr (Function name formals body) i n s = last_sign signs.CloseBrace s.2 n (λ d. cc) s.10 s.11
  behind_expr (Dot e x) i n s = behind toks (s.0 + 1) n (spelt_token x) (let q = s.4 in omega arith) s.3 (spelt_no_dot x)
  behind_expr (At e j) i n s = last_sign signs.CloseBracket s.1 n (λ d. cc) s.5 s.6
  behind_expr (Call f xs) i n s = last_sign signs.CloseParen s.1 n (λ d. cc) s.5 s.6
  behind_expr (NewWith f xs) i n s = last_sign signs.CloseParen s.1 n (λ d. cc) s.6 s.7
  behind_expr (NewBare f) i n s = behind_expr f (i + 1) n s.1
  behind_expr (Postfix t op) i n s = behind toks s.0 n (update_token op) s.4 s.2 (update_no_dot op)
  behind_expr (Prefix op e) i n s = behind_expr e (i + 1) n s.1
  behind_expr (Binary a op b) i n s = behind_expr b (s.0 + 1) n s.3
  behind_expr (Cond c a b) i n s = behind_expr b (s.1 + 1) n s.6
  behind_expr (Assign t op e) i n s = behind_expr e (s.0 + 1) n s.3
  behind_expr (Comma a b) i n s = behind_expr b (s.0 + 1) n s.3

  behind_end : (ending : Ending) (end : End) (i n : ℕ) → MayBegin toks i → Ends toks ending end i n → MayBegin toks n
  behind_end ending ends.Written i n b s = last_sign signs.Semicolon i n (λ d. cc) s.0 s.1
  behind_end ending ends.Inserted i n b s = same i n b s.1

  behind_initialiser : (e : Optional) (i n : ℕ) → MayBegin toks i → InitialiserStands toks e i n → MayBegin toks n
  behind_initialiser Absent i n b s = same i n b s
  behind_initialiser (Present e) i n b s = behind_expr e (i + 1) n s.1

  behind_more_variables : (vs : Variables) (i n : ℕ) → MayBegin toks i → MoreVariablesStand toks vs i n → MayBegin toks n
  behind_more_variables NoVariable i n b s = same i n b s
  behind_more_variables (Variable x e rest) i n b s =
      behind_more_variables rest s.0 n (behind_initialiser e (i + 2) s.0 (last_word x (i + 1) (i + 2) s.2 (omega arith)) s.3) s.4

  behind_variables : (vs : Variables) (i n : ℕ) → MayBegin toks i → VariablesStand toks vs i n → MayBegin toks n
  behind_variables NoVariable i n b s = same i n b s
  behind_variables (Variable x e rest) i n b s = behind_more_variables rest s.0 n (behind_initialiser e (i + 1) s.0 (last_word x i (i + 1) s.1 (omega arith)) s.2) s.3

  behind_label : (label : Option TextId) (i n : ℕ) → MayBegin toks i → LabelStands toks label i n → MayBegin toks n
  behind_label None i n b s = same i n b s
  behind_label (Some x) i n b s = last_word x i n s.0 s.2

  behind_stmt : (s : Stmt) (i n : ℕ) → StmtStands toks s i n → MayBegin toks n
  behind_stmt (Block body) i n s = last_sign signs.CloseBrace s.0 n (λ d. cc) s.3 s.4
  behind_stmt (Var vs end) i n s = behind_end (last_ending vs) end s.0 n (behind_variables vs (i + 1) s.0 (behind_key toks i keys.Var s.1) s.2) s.3
  behind_stmt Empty i n s = last_sign signs.Semicolon i n (λ d. cc) s.0 s.1
  behind_stmt (ExprStmt e end) i n s = behind_end (InExpr (ends_in_update e)) end s.0 n (behind_expr e i s.0 s.1) s.2
  behind_stmt (If e t) i n s = behind_stmt t (s.0 + 1) n s.5
  behind_stmt (IfElse e t u) i n s = behind_stmt u (s.1 + 1) n s.8
  behind_stmt (DoWhile t e end) i n s = behind_end Complete end (s.1 + 1) n (behind_sign toks s.1 signs.CloseParen s.7 (λ d. cc)) s.8
  behind_stmt (While e t) i n s = behind_stmt t (s.0 + 1) n s.5
  behind_stmt (For init test update t) i n s = behind_stmt t (s.2 + 1) n s.11
  behind_stmt (ForIn t e u) i n s = behind_stmt u (s.1 + 1) n s.8
  behind_stmt (ForVarIn x e t) i n s = behind_stmt t (s.0 + 1) n s.8
  behind_stmt (Continue label end) i n s = behind_end Complete end s.0 n (behind_label label (i + 1) s.0 (behind_key toks i keys.Continue s.1) s.2) s.3
  behind_stmt (Break label end) i n s = behind_end Complete end s.0 n (behind_label label (i + 1) s.0 (behind_key toks i keys.Break s.1) s.2) s.3
  behind_stmt (Return Absent end) i n s = behind_end Complete end (i + 1) n (behind_key toks i keys.Return s.0) s.1
  behind_stmt (Return (Present e) end) i n s = behind_end (InExpr (ends_in_update e)) end s.0 n (behind_expr e (i + 1) s.0 s.3) s.4
  behind_stmt (Throw e end) i n s = behind_end (InExpr (ends_in_update e)) end s.0 n (behind_expr e (i + 1) s.0 s.3) s.4
  behind_stmt (Label x t) i n s = behind_stmt t (i + 2) n s.2
  behind_stmt (Switch e clauses) i n s = last_sign signs.CloseBrace s.1 n (λ d. cc) s.8 s.9
  behind_stmt (TryCatch b x c) i n s = last_sign signs.CloseBrace s.1 n (λ d. cc) s.12 s.13
  behind_stmt (TryFinally b f) i n s = last_sign signs.CloseBrace s.1 n (λ d. cc) s.9 s.10
  behind_stmt (TryBoth b x c f) i n s = last_sign signs.CloseBrace s.2 n (λ d. cc) s.17 s.18
  behind_stmt (Within e b) i n s = last_sign signs.CloseBrace s.1 n (λ d. cc) s.6 s.7

  pub behind_element : (e : Element) (i n : ℕ) → ElementStands toks e i n → MayBegin toks n
  behind_element (Plain s) i n h = behind_stmt s i n h
  behind_element (Declared x formals body) i n h = behind_expr (Function (Some x) formals body) i n h
