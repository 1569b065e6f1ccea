-- What a token does, whatever is to come next (ECMA-262, 3rd edition, sections 7.9 and 11 to 14).
use Rattle.std.specs.Prelude.{Bool, true, false, Option, Some, None}
use Rattle.wjs_forms.specs.declared.class.Class.{Class}
use Rattle.wjs_forms.specs.declared.class.Class.TheVariants as classes
use Rattle.wjs_forms.specs.declared.forms.Place.{Place}
use Rattle.wjs_forms.specs.declared.forms.Place.TheVariants as places
use Rattle.wjs_forms.specs.declared.forms.Form.{Form}
use Rattle.wjs_forms.specs.declared.forms.Form.TheVariants as forms
use Rattle.wjs_forms.specs.declared.forms.Control.{Control}
use Rattle.wjs_forms.specs.declared.forms.Control.TheVariants as controls
use Rattle.wjs_forms.specs.declared.forms.Move.{Move}
use Rattle.wjs_forms.specs.declared.forms.Move.TheVariants as moves
use Rattle.wjs_forms.specs.Classes.{is_name}
use Rattle.wjs_forms.specs.Table.{on_colon, on_semicolon, on_open_paren, on_close_paren, on_open_brace, on_word, operand, ends, behind, have}

-- the token that begins what a form holds also opens the form
abbrev pub opened : Form → Move → Move
opened f (moves.Stay c) = moves.Push f c
opened f (moves.Push g c) = moves.PushTwo f g c
opened f _ = moves.Refuse

-- the first token of an expression that the form holds
abbrev pub value : Form → Class → Move
value f k = opened f (operand k places.Whole (Some f))

-- the first token of a statement (section 12)
abbrev pub statement : Class → Move
statement classes.OpenBrace = moves.Push forms.Block controls.List
statement classes.Semicolon = moves.Stay controls.Done
statement classes.Word = moves.Push forms.Value controls.NameOrLabel
statement classes.Var = moves.Push forms.Var controls.Name
statement classes.If = moves.Push forms.If controls.Open
statement classes.Do = moves.Push forms.Do controls.Body
statement classes.While = moves.Push forms.Header controls.Open
statement classes.For = moves.Stay controls.ForOpen
statement classes.Continue = moves.Stay controls.LabelOrEnd
statement classes.Break = moves.Stay controls.LabelOrEnd
statement classes.Return = moves.Stay controls.ValueOrEnd
statement classes.Throw = moves.Stay controls.JoinedValue
statement classes.Switch = moves.Push forms.Switch controls.Open
statement classes.Try = moves.Push forms.TryBlock controls.Brace
statement classes.In = moves.Push forms.Within (controls.Want places.Whole)
statement classes.Function = moves.Refuse
statement k = value forms.Value k

-- the end of the tokens ends the program alone
abbrev pub at_end : Option Form → Move
at_end None = moves.Stay controls.Accepted
at_end top = moves.Refuse

-- `}` ends a list
abbrev pub closes : Option Form → Move
closes (Some forms.Block) = moves.Pop controls.Done
closes (Some forms.Clauses) = moves.Pop controls.Done
closes (Some forms.Declaration) = moves.Pop controls.List
closes (Some forms.TryBlock) = moves.Pop controls.CatchOrFinally
closes (Some forms.CatchBlock) = moves.Pop controls.FinallyOrDone
closes (Some (forms.Function p)) = moves.Pop (controls.Have p false)
closes top = moves.Refuse

-- a function is declared among the elements of a program or function (section 14)
abbrev pub declares : Option Form → Move
declares None = moves.Push forms.Declaration controls.DeclaredName
declares (Some forms.Declaration) = moves.Push forms.Declaration controls.DeclaredName
declares (Some (forms.Function p)) = moves.Push forms.Declaration controls.DeclaredName
declares top = moves.Refuse

-- the move, among the clauses of a `switch`
abbrev pub in_clauses : Option Form → Move → Move
in_clauses (Some forms.Clauses) m = m
in_clauses top m = moves.Refuse

-- in a list of statements or elements
abbrev pub listed : Class → Option Form → Move
listed classes.End top = at_end top
listed classes.CloseBrace top = closes top
listed classes.Case top = in_clauses top (moves.Push forms.CaseHead (controls.Want places.Whole))
listed classes.Default top = in_clauses top (moves.Stay controls.DefaultColon)
listed classes.Function top = declares top
listed k top = statement k

-- behind the statement of an `if`
abbrev pub else_or_done : Class → Move
else_or_done classes.Else = moves.Pop controls.Body
else_or_done _ = moves.Again controls.Done

-- behind the statement of a `do`
abbrev pub on_while : Class → Move
on_while classes.While = moves.Swap forms.DoWhile controls.Open
on_while _ = moves.Refuse

-- behind a statement
abbrev pub done : Option Form → Class → Move
done (Some forms.Then) k = else_or_done k
done (Some forms.Do) k = on_while k
done top k = listed k top

-- an end may be inserted behind a line end: a token that continues the statement was taken before
abbrev pub inserted : Bool → Option Form → Class → Move
inserted true top k = moves.Refuse
inserted false top k = done top k

-- the end of a statement (section 7.9)
abbrev pub complete : Class → Bool → Option Form → Move
complete classes.Semicolon joined top = moves.Stay controls.Done
complete classes.CloseBrace joined top = done top classes.CloseBrace
complete classes.End joined top = done top classes.End
complete k joined top = inserted joined top k

-- `)`, `]` or `}` ends the literal or the arguments on top, which are an operand
abbrev pub ends_operand : Option Form → Move
ends_operand (Some (forms.Arguments p)) = moves.Pop (controls.Have p false)
ends_operand (Some (forms.Array p)) = moves.Pop (controls.Have p false)
ends_operand (Some (forms.Object p)) = moves.Pop (controls.Have p false)
ends_operand top = moves.Refuse

abbrev pub argument_or_end : Class → Option Form → Move
argument_or_end classes.CloseParen top = ends_operand top
argument_or_end k top = operand k places.First top

abbrev pub item : Class → Option Form → Move
item classes.CloseBracket top = ends_operand top
item classes.Comma top = moves.Stay controls.Item
item k top = operand k places.First top

abbrev pub named_key : Bool → Move
named_key true = moves.Stay controls.KeyColon
named_key false = moves.Refuse

abbrev pub key_or_end : Class → Option Form → Move
key_or_end classes.CloseBrace top = ends_operand top
key_or_end classes.Literal top = moves.Stay controls.KeyColon
key_or_end k top = named_key (is_name k)

abbrev pub dotted : Bool → Place → Move
dotted true p = moves.Stay (controls.Have p true)
dotted false p = moves.Refuse

abbrev pub name_or_formals : Class → Move
name_or_formals classes.Word = moves.Stay controls.Formals
name_or_formals classes.OpenParen = moves.Stay controls.FormalOrEnd
name_or_formals _ = moves.Refuse

abbrev pub formal_or_end : Class → Move
formal_or_end classes.Word = moves.Stay controls.FormalBehind
formal_or_end classes.CloseParen = moves.Stay controls.Brace
formal_or_end _ = moves.Refuse

abbrev pub formal_behind : Class → Move
formal_behind classes.Comma = moves.Stay controls.Formal
formal_behind classes.CloseParen = moves.Stay controls.Brace
formal_behind _ = moves.Refuse

abbrev pub name_or_label : Class → Bool → Option Form → Move
name_or_label classes.Colon joined top = moves.Pop controls.Body
name_or_label k joined top = have k joined places.Whole true top

abbrev pub named : Class → Option Form → Move
named classes.Assign top = moves.Stay (controls.Want places.First)
named classes.Comma top = moves.Stay controls.Name
named k top = ends top k

abbrev pub init : Class → Move
init classes.Semicolon = moves.Push forms.ForTest controls.Test
init classes.Var = moves.Push forms.ForVar controls.ForName
init k = value forms.ForInit k

abbrev pub for_named : Class → Option Form → Move
for_named classes.In top = moves.Swap forms.Header (controls.Want places.Whole)
for_named k top = named k top

abbrev pub test : Class → Option Form → Move
test classes.Semicolon top = moves.Swap forms.Header controls.Update
test k top = operand k places.Whole top

abbrev pub update : Class → Option Form → Move
update classes.CloseParen top = moves.Pop controls.Body
update k top = operand k places.Whole top

-- the label of a jump stands on its line
abbrev pub label : Bool → Option Form → Move
label true top = moves.Stay controls.Complete
label false top = done top classes.Word

abbrev pub label_or_end : Class → Bool → Option Form → Move
label_or_end classes.Word joined top = label joined top
label_or_end k joined top = complete k joined top

abbrev pub joined_value : Bool → Class → Move
joined_value true k = value forms.Value k
joined_value false k = moves.Refuse

-- the value of a `return` stands on its line
abbrev pub joined_value_or_end : Bool → Option Form → Class → Move
joined_value_or_end true top k = value forms.Value k
joined_value_or_end false top k = done top k

abbrev pub value_or_end : Class → Bool → Option Form → Move
value_or_end classes.Semicolon joined top = moves.Stay controls.Done
value_or_end classes.CloseBrace joined top = done top classes.CloseBrace
value_or_end classes.End joined top = done top classes.End
value_or_end k joined top = joined_value_or_end joined top k

abbrev pub catch_or_finally : Class → Move
catch_or_finally classes.Catch = moves.Stay controls.CatchOpen
catch_or_finally classes.Finally = moves.Push forms.Block controls.Brace
catch_or_finally _ = moves.Refuse

abbrev pub finally_or_done : Class → Option Form → Move
finally_or_done classes.Finally top = moves.Push forms.Block controls.Brace
finally_or_done k top = done top k

abbrev pub clause_or_end : Class → Move
clause_or_end classes.CloseBrace = moves.Pop controls.Done
clause_or_end classes.Case = moves.Push forms.CaseHead (controls.Want places.Whole)
clause_or_end classes.Default = moves.Stay controls.DefaultColon
clause_or_end _ = moves.Refuse

-- What a token does that is of the class, with the form on top; `joined` says that no line ends before the token.
abbrev pub move : Class → Bool → Control → Option Form → Move
move k joined (controls.Want p) top = operand k p top
move k joined (controls.Have p is_target) top = have k joined p is_target top
move k joined controls.Behind top = behind top k
move k joined (controls.Dot p) top = dotted (is_name k) p
move k joined controls.ArgumentOrEnd top = argument_or_end k top
move k joined controls.Item top = item k top
move k joined controls.KeyOrEnd top = key_or_end k top
move k joined controls.KeyColon top = on_colon k (moves.Stay (controls.Want places.First))
move k joined controls.NameOrFormals top = name_or_formals k
move k joined controls.DeclaredName top = on_word k (moves.Stay controls.Formals)
move k joined controls.Formals top = on_open_paren k (moves.Stay controls.FormalOrEnd)
move k joined controls.FormalOrEnd top = formal_or_end k
move k joined controls.FormalBehind top = formal_behind k
move k joined controls.Formal top = on_word k (moves.Stay controls.FormalBehind)
move k joined controls.Brace top = on_open_brace k (moves.Stay controls.List)
move k joined controls.List top = listed k top
move k joined controls.Body top = statement k
move k joined controls.Done top = done top k
move k joined controls.Complete top = complete k joined top
move k joined controls.NameOrLabel top = name_or_label k joined top
move k joined controls.Open top = on_open_paren k (moves.Stay (controls.Want places.Whole))
move k joined controls.Name top = on_word k (moves.Stay controls.Named)
move k joined controls.Named top = named k top
move k joined controls.ForOpen top = on_open_paren k (moves.Stay controls.Init)
move k joined controls.Init top = init k
move k joined controls.ForName top = on_word k (moves.Stay controls.ForNamed)
move k joined controls.ForNamed top = for_named k top
move k joined controls.Test top = test k top
move k joined controls.Update top = update k top
move k joined controls.LabelOrEnd top = label_or_end k joined top
move k joined controls.ValueOrEnd top = value_or_end k joined top
move k joined controls.JoinedValue top = joined_value joined k
move k joined controls.CatchOrFinally top = catch_or_finally k
move k joined controls.CatchOpen top = on_open_paren k (moves.Stay controls.CatchName)
move k joined controls.CatchName top = on_word k (moves.Stay controls.CatchClose)
move k joined controls.CatchClose top = on_close_paren k (moves.Push forms.CatchBlock controls.Brace)
move k joined controls.FinallyOrDone top = finally_or_done k top
move k joined controls.SwitchBrace top = on_open_brace k (moves.Stay controls.ClauseOrEnd)
move k joined controls.ClauseOrEnd top = clause_or_end k
move k joined controls.DefaultColon top = on_colon k (moves.Stay controls.List)
move k joined controls.Accepted top = moves.Refuse
