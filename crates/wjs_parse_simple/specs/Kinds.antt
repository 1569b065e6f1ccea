-- Which statement begins with which tokens.
use Rattle.std.specs.Prelude.{Option, Some}
use Rattle.wjs_base.specs.declared.ids.TextId.{TextId}
use Rattle.wjs_tree.specs.declared.tokens.Token.{Token}
use Rattle.wjs_tree.specs.declared.tokens.Token.TheVariants as tokens
use Rattle.wjs_tree.specs.declared.signs.Sign.{Sign}
use Rattle.wjs_tree.specs.declared.signs.Sign.TheVariants as signs
use Rattle.wjs_tree.specs.declared.keys.Key.{Key}
use Rattle.wjs_tree.specs.declared.keys.Key.TheVariants as keys
use Rattle.wjs_tree.specs.Trees.{Stmt, Block, Var, Empty, ExprStmt, If, IfElse, DoWhile, While, For, ForIn, ForVarIn, Continue, Break, Return, Throw, Label, Switch, TryCatch, TryFinally, TryBoth, Within}
use Rattle.wjs_parse_simple.specs.declared.kind.Kind.{Kind}
use Rattle.wjs_parse_simple.specs.declared.kind.Kind.TheVariants as kinds

abbrev pub key_kind : Key → Kind
key_kind keys.Var = kinds.Variables
key_kind keys.If = kinds.If
key_kind keys.Do = kinds.Do
key_kind keys.While = kinds.While
key_kind keys.For = kinds.For
key_kind keys.Continue = kinds.Continue
key_kind keys.Break = kinds.Break
key_kind keys.Return = kinds.Return
key_kind keys.Throw = kinds.Throw
key_kind keys.Switch = kinds.Switch
key_kind keys.Try = kinds.Try
key_kind keys.In = kinds.Within
key_kind keys.Function = kinds.Nothing
key_kind _ = kinds.Plain

abbrev pub sign_kind : Sign → Kind
sign_kind signs.OpenBrace = kinds.Block
sign_kind signs.Semicolon = kinds.Empty
sign_kind _ = kinds.Plain

abbrev pub colon_kind : TextId → Sign → Kind
colon_kind x signs.Colon = kinds.Label x
colon_kind x _ = kinds.Plain

-- a name before a colon is a label
abbrev pub word_kind : TextId → Option Token → Kind
word_kind x (Some (tokens.Sign s)) = colon_kind x s
word_kind x _ = kinds.Plain

-- the kind of a statement by its first two tokens
abbrev pub kind_of : Option Token → Option Token → Kind
kind_of (Some (tokens.Key k)) next = key_kind k
kind_of (Some (tokens.Sign s)) next = sign_kind s
kind_of (Some (tokens.Word x)) next = word_kind x next
kind_of _ next = kinds.Plain

-- the kind of a statement by its form
abbrev pub kind_of_stmt : Stmt → Kind
kind_of_stmt (Block body) = kinds.Block
kind_of_stmt (Var vs end) = kinds.Variables
kind_of_stmt Empty = kinds.Empty
kind_of_stmt (ExprStmt e end) = kinds.Plain
kind_of_stmt (If e s) = kinds.If
kind_of_stmt (IfElse e s u) = kinds.If
kind_of_stmt (DoWhile s e end) = kinds.Do
kind_of_stmt (While e s) = kinds.While
kind_of_stmt (For init test update s) = kinds.For
kind_of_stmt (ForIn t e s) = kinds.For
kind_of_stmt (ForVarIn x e s) = kinds.For
kind_of_stmt (Continue label end) = kinds.Continue
kind_of_stmt (Break label end) = kinds.Break
kind_of_stmt (Return e end) = kinds.Return
kind_of_stmt (Throw e end) = kinds.Throw
kind_of_stmt (Label x s) = kinds.Label x
kind_of_stmt (Switch e clauses) = kinds.Switch
kind_of_stmt (TryCatch b x c) = kinds.Try
kind_of_stmt (TryFinally b f) = kinds.Try
kind_of_stmt (TryBoth b x c f) = kinds.Try
kind_of_stmt (Within e b) = kinds.Within
