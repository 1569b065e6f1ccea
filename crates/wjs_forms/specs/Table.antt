-- What a token does within an expression (ECMA-262, 3rd edition, section 11).
use Rattle.std.specs.Prelude.{Bool, true, false, Option, Some, None}
use Rattle.wjs_forms.specs.declared.class.Class.{Class}
use Rattle.wjs_forms.specs.declared.class.Class.TheVariants as classes
use Rattle.wjs_forms.specs.declared.forms.Place.{Place}
use Rattle.wjs_forms.specs.declared.forms.Place.TheVariants as places
use Rattle.wjs_forms.specs.declared.forms.Form.{Form}
use Rattle.wjs_forms.specs.declared.forms.Form.TheVariants as forms
use Rattle.wjs_forms.specs.declared.forms.Control.{Control}
use Rattle.wjs_forms.specs.declared.forms.Control.TheVariants as controls
use Rattle.wjs_forms.specs.declared.forms.Move.{Move}
use Rattle.wjs_forms.specs.declared.forms.Move.TheVariants as moves

abbrev pub unless : Bool → Move → Move
unless true m = moves.Refuse
unless false m = m

-- the move, where the token is the one named
abbrev pub on_colon : Class → Move → Move
on_colon classes.Colon m = m
on_colon _ m = moves.Refuse

abbrev pub on_semicolon : Class → Move → Move
on_semicolon classes.Semicolon m = m
on_semicolon _ m = moves.Refuse

abbrev pub on_open_paren : Class → Move → Move
on_open_paren classes.OpenParen m = m
on_open_paren _ m = moves.Refuse

abbrev pub on_close_paren : Class → Move → Move
on_close_paren classes.CloseParen m = m
on_close_paren _ m = moves.Refuse

abbrev pub on_close_bracket : Class → Move → Move
on_close_bracket classes.CloseBracket m = m
on_close_bracket _ m = moves.Refuse

abbrev pub on_open_brace : Class → Move → Move
on_open_brace classes.OpenBrace m = m
on_open_brace _ m = moves.Refuse

abbrev pub on_close_brace : Class → Move → Move
on_close_brace classes.CloseBrace m = m
on_close_brace _ m = moves.Refuse

abbrev pub on_word : Class → Move → Move
on_word classes.Word m = m
on_word _ m = moves.Refuse

abbrev pub after_update : Place → Bool
after_update places.Update = true
after_update _ = false

-- no operator stands behind `new`, `++` and `--`
abbrev pub bars_operator : Place → Option Form → Bool
bars_operator p (Some forms.New) = true
bars_operator p top = after_update p

-- the first token of an operand at the place
abbrev pub operand : Class → Place → Option Form → Move
operand classes.Word p top = moves.Stay (controls.Have p true)
operand classes.Literal p top = moves.Stay (controls.Have p false)
operand classes.Constant p top = moves.Stay (controls.Have p false)
operand classes.OpenParen p top = moves.Push (forms.Paren p) (controls.Want places.Whole)
operand classes.OpenBracket p top = moves.Push (forms.Array p) controls.Item
operand classes.OpenBrace p top = moves.Push (forms.Object p) controls.KeyOrEnd
operand classes.Function p top = moves.Push (forms.Function p) controls.NameOrFormals
operand classes.New p top = moves.Push forms.New (controls.Want p)
operand classes.Update p top = unless (bars_operator p top) (moves.Stay (controls.Want places.Update))
operand classes.Sum p top = unless (bars_operator p top) (moves.Stay (controls.Want places.Later))
operand classes.SignBefore p top = unless (bars_operator p top) (moves.Stay (controls.Want places.Later))
operand classes.KeyBefore p top = unless (bars_operator p top) (moves.Stay (controls.Want places.Later))
operand _ p top = moves.Refuse

-- the token that ends what the form on top holds; whether it ends a statement is looked at once more
abbrev pub ends : Option Form → Class → Move
ends (Some forms.Value) k = moves.Again controls.Complete
ends (Some forms.Var) k = moves.Again controls.Complete
ends (Some forms.Cond) k = on_colon k (moves.Pop (controls.Want places.First))
ends (Some (forms.Paren p)) k = on_close_paren k (moves.Pop (controls.Have p false))
ends (Some (forms.Index p)) k = on_close_bracket k (moves.Pop (controls.Have p true))
ends (Some (forms.Arguments p)) k = on_close_paren k (moves.Pop (controls.Have p false))
ends (Some (forms.Array p)) k = on_close_bracket k (moves.Pop (controls.Have p false))
ends (Some (forms.Object p)) k = on_close_brace k (moves.Pop (controls.Have p false))
ends (Some forms.If) k = on_close_paren k (moves.Swap forms.Then controls.Body)
ends (Some forms.Header) k = on_close_paren k (moves.Pop controls.Body)
ends (Some forms.Switch) k = on_close_paren k (moves.Swap forms.Clauses controls.SwitchBrace)
ends (Some forms.DoWhile) k = on_close_paren k (moves.Pop controls.Complete)
ends (Some forms.ForInit) k = on_semicolon k (moves.Swap forms.ForTest controls.Test)
ends (Some forms.ForVar) k = on_semicolon k (moves.Swap forms.ForTest controls.Test)
ends (Some forms.ForTest) k = on_semicolon k (moves.Swap forms.Header controls.Update)
ends (Some forms.Within) k = on_open_brace k (moves.Swap forms.Block controls.List)
ends (Some forms.CaseHead) k = on_colon k (moves.Pop controls.List)
ends top k = moves.Refuse

-- no `in` is an operator where the first part of a header is read (the grammar's suffix NoIn)
abbrev pub bars_in : Option Form → Bool
bars_in (Some forms.ForInit) = true
bars_in (Some forms.ForVar) = true
bars_in top = false

abbrev pub comma : Option Form → Move
comma (Some forms.Cond) = moves.Refuse
comma (Some (forms.Array p)) = moves.Stay controls.Item
comma (Some (forms.Object p)) = moves.Stay controls.KeyOrEnd
comma (Some forms.Var) = moves.Stay controls.Name
comma (Some forms.ForVar) = moves.Stay controls.Name
comma top = moves.Stay (controls.Want places.First)

-- behind an operand that gets no suffix and isn't behind `new`
abbrev pub behind_top : Class → Option Form → Move
behind_top classes.In top = unless (bars_in top) (moves.Stay (controls.Want places.Later))
behind_top classes.Operator top = moves.Stay (controls.Want places.Later)
behind_top classes.Instanceof top = moves.Stay (controls.Want places.Later)
behind_top classes.Sum top = moves.Stay (controls.Want places.Later)
behind_top classes.Question top = moves.Push forms.Cond (controls.Want places.First)
behind_top classes.Assign top = moves.Refuse
behind_top classes.AssignWith top = moves.Refuse
behind_top classes.Comma top = comma top
behind_top k top = ends top k

-- behind an operand that gets no suffix: a `new` behind which no arguments came ends there
abbrev pub behind : Option Form → Class → Move
behind (Some forms.New) k = moves.Again controls.Behind
behind top k = behind_top k top

-- `(` behind a primary expression with suffixes: the innermost `new` takes it
abbrev pub call : Place → Option Form → Move
call p (Some forms.New) = moves.Swap (forms.Arguments p) controls.ArgumentOrEnd
call p top = moves.Push (forms.Arguments p) controls.ArgumentOrEnd

-- `++` or `--` behind a target: on its line a suffix
abbrev pub postfix : Bool → Place → Option Form → Move
postfix true p top = unless (after_update p) (moves.Stay controls.Behind)
postfix false p top = behind top classes.Update

-- an assignment sign behind a target: it must be all of its assignment expression
abbrev pub assigns : Place → Move
assigns places.Whole = moves.Stay (controls.Want places.First)
assigns places.First = moves.Stay (controls.Want places.First)
assigns _ = moves.Refuse

-- `in` behind a target: in a header it may be what visits properties
abbrev pub target_in : Place → Option Form → Move
target_in places.Whole (Some forms.ForInit) = moves.Swap forms.Header (controls.Want places.Whole)
target_in p top = behind top classes.In

-- `)` behind a target: it is one in parentheses too
abbrev pub target_closed : Place → Option Form → Move
target_closed places.Whole (Some (forms.Paren p)) = moves.Pop (controls.Have p true)
target_closed p top = behind top classes.CloseParen

-- behind a target
abbrev pub target : Class → Bool → Place → Option Form → Move
target classes.Update joined p top = postfix joined p top
target classes.Assign joined p top = assigns p
target classes.AssignWith joined p top = assigns p
target classes.In joined p top = target_in p top
target classes.CloseParen joined p top = target_closed p top
target k joined p top = behind top k

-- the token is no suffix, and no `new` waits for arguments: behind `++` and `--` stands a target
abbrev pub bare_top : Bool → Class → Bool → Place → Option Form → Move
bare_top true k joined p top = target k joined p top
bare_top false k joined p top = unless (after_update p) (behind top k)

-- the token is no suffix: a `new` behind which no arguments came ends
abbrev pub bare : Option Form → Class → Bool → Place → Bool → Move
bare (Some forms.New) k joined p is_target = unless (after_update p) (moves.Again controls.Behind)
bare top k joined p is_target = bare_top is_target k joined p top

-- behind a primary expression with suffixes
abbrev pub have : Class → Bool → Place → Bool → Option Form → Move
have classes.Dot joined p is_target top = moves.Stay (controls.Dot p)
have classes.OpenBracket joined p is_target top = moves.Push (forms.Index p) (controls.Want places.Whole)
have classes.OpenParen joined p is_target top = call p top
have k joined p is_target top = bare top k joined p is_target
