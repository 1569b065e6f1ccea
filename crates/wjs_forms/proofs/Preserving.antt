-- A token keeps what is to come next in fit with the forms.
use Rattle.std.proofs.Common.{◌≡◌, Bool, true, false, not, List, [], ◌∷◌, Option, Some, refl, sym, ap, ◌∙◌, subst}
use Rattle.wjs_tree.specs.declared.tokens.Tok.{Tok}
use Rattle.wjs_tree.specs.declared.tokens.Token.{Token}
use Rattle.wjs_forms.specs.declared.class.Class.{Class}
use Rattle.wjs_forms.specs.declared.class.Class.TheVariants as classes
use Rattle.wjs_forms.specs.declared.forms.Place.{Place}
use Rattle.wjs_forms.specs.declared.forms.Place.TheVariants as places
use Rattle.wjs_forms.specs.declared.forms.Form.{Form}
use Rattle.wjs_forms.specs.declared.forms.Form.TheVariants as forms
use Rattle.wjs_forms.specs.declared.forms.Control.{Control}
use Rattle.wjs_forms.specs.declared.forms.Control.TheVariants as controls
use Rattle.wjs_forms.specs.declared.forms.Move.{Move}
use Rattle.wjs_forms.specs.declared.forms.Move.TheVariants as moves
use Rattle.wjs_forms.specs.Classes.{class_of, is_name}
use Rattle.wjs_forms.specs.Table.{unless, on_colon, on_semicolon, on_open_paren, on_close_paren, on_close_bracket, on_open_brace, on_close_brace, on_word, operand, ends, behind_top, behind, comma, bare_top, bare, target, target_in, target_closed, postfix, assigns, call, have, bars_operator, bars_in, after_update}
use Rattle.wjs_forms.specs.Moves.{opened, value, statement, closes, declares, in_clauses, listed, done, complete, named_key, dotted}
use Rattle.wjs_forms.specs.States.{State, state, start, top, act, below, step, step_tok, reach, Accepts}
use Rattle.wjs_forms.specs.Spells.{IsReached}
use Rattle.wjs_forms.proofs.Tops.{Again, unless_is}
use Rattle.wjs_forms.proofs.Standing.{Is, token_is}
use Rattle.wjs_forms.proofs.Fitting.{Stmts, Elems, Holds, Clausal, Lists, OnArguments, OnArray, OnObject, OnBody, OnBrace, OnValue, OnVariables, OnForVar, OnTest, OnUpdate, Fits, FitsIn, elems_stmts, elems_lists, clausal_stmts, clausal_lists, lists_stmts}
use Rattle.wjs_forms.proofs.Completing.{completes, function_body, declaration_body, condition_holds}
use Rattle.wjs_forms.proofs.Folding.{then_some}

-- what is looked at below the innermost form
-- the state behind the move
is : (a r : State) → Some a ≡ Some r → FitsIn a → FitsIn r
is a r e h = subst FitsIn (let q : a ≡ r = cc in q) h

colon_is : (k : Class) (m : Move) (s : List Form) (g : Again) (r : State) → act (on_colon k m) s g ≡ Some r → act m s g ≡ Some r
colon_is classes.Colon m s g r h = h
colon_is _ m s g r h = cc

semicolon_is : (k : Class) (m : Move) (s : List Form) (g : Again) (r : State) → act (on_semicolon k m) s g ≡ Some r → act m s g ≡ Some r
semicolon_is classes.Semicolon m s g r h = h
semicolon_is _ m s g r h = cc

open_paren_is : (k : Class) (m : Move) (s : List Form) (g : Again) (r : State) → act (on_open_paren k m) s g ≡ Some r → act m s g ≡ Some r
open_paren_is classes.OpenParen m s g r h = h
open_paren_is _ m s g r h = cc

close_paren_is : (k : Class) (m : Move) (s : List Form) (g : Again) (r : State) → act (on_close_paren k m) s g ≡ Some r → act m s g ≡ Some r
close_paren_is classes.CloseParen m s g r h = h
close_paren_is _ m s g r h = cc

close_bracket_is : (k : Class) (m : Move) (s : List Form) (g : Again) (r : State) → act (on_close_bracket k m) s g ≡ Some r → act m s g ≡ Some r
close_bracket_is classes.CloseBracket m s g r h = h
close_bracket_is _ m s g r h = cc

open_brace_is : (k : Class) (m : Move) (s : List Form) (g : Again) (r : State) → act (on_open_brace k m) s g ≡ Some r → act m s g ≡ Some r
open_brace_is classes.OpenBrace m s g r h = h
open_brace_is _ m s g r h = cc

close_brace_is : (k : Class) (m : Move) (s : List Form) (g : Again) (r : State) → act (on_close_brace k m) s g ≡ Some r → act m s g ≡ Some r
close_brace_is classes.CloseBrace m s g r h = h
close_brace_is _ m s g r h = cc

word_is : (k : Class) (m : Move) (s : List Form) (g : Again) (r : State) → act (on_word k m) s g ≡ Some r → act m s g ≡ Some r
word_is classes.Word m s g r h = h
word_is _ m s g r h = cc

operand_fits : (k : Class) (p : Place) (o : Option Form) (s : List Form) (g : Again) (r : State) → Holds s → act (operand k p o) s g ≡ Some r → FitsIn r
operand_fits classes.Word p o s g r w h = is (state (controls.Have p true) s) r h w
operand_fits classes.Literal p o s g r w h = is (state (controls.Have p false) s) r h w
operand_fits classes.Constant p o s g r w h = is (state (controls.Have p false) s) r h w
operand_fits classes.OpenParen p o s g r w h = is (state (controls.Want places.Whole) (forms.Paren p ∷ s)) r h w
operand_fits classes.OpenBracket p o s g r w h = is (state controls.Item (forms.Array p ∷ s)) r h w
operand_fits classes.OpenBrace p o s g r w h = is (state controls.KeyOrEnd (forms.Object p ∷ s)) r h w
operand_fits classes.Function p o s g r w h = is (state controls.NameOrFormals (forms.Function p ∷ s)) r h w
operand_fits classes.New p o s g r w h = is (state (controls.Want p) (forms.New ∷ s)) r h w
operand_fits classes.Update p o s g r w h = is (state (controls.Want places.Update) s) r (unless_is (bars_operator p o) (moves.Stay (controls.Want places.Update)) s g r h) w
operand_fits classes.Sum p o s g r w h = is (state (controls.Want places.Later) s) r (unless_is (bars_operator p o) (moves.Stay (controls.Want places.Later)) s g r h) w
operand_fits classes.SignBefore p o s g r w h = is (state (controls.Want places.Later) s) r (unless_is (bars_operator p o) (moves.Stay (controls.Want places.Later)) s g r h) w
operand_fits classes.KeyBefore p o s g r w h = is (state (controls.Want places.Later) s) r (unless_is (bars_operator p o) (moves.Stay (controls.Want places.Later)) s g r h) w
operand_fits _ p o s g r w h = cc

opened_unless : (f : Form) (b : Bool) (c : Control) (s : List Form) (g : Again) (r : State) → act (opened f (unless b (moves.Stay c))) s g ≡ Some r → Some (state c (f ∷ s)) ≡ Some r
opened_unless f true c s g r h = cc
opened_unless f false c s g r h = h

value_fits : (f : Form) (k : Class) (s : List Form) (g : Again) (r : State) → Holds (f ∷ s) → act (value f k) s g ≡ Some r → FitsIn r
value_fits f classes.Word s g r w h = is (state (controls.Have places.Whole true) (f ∷ s)) r h w
value_fits f classes.Literal s g r w h = is (state (controls.Have places.Whole false) (f ∷ s)) r h w
value_fits f classes.Constant s g r w h = is (state (controls.Have places.Whole false) (f ∷ s)) r h w
value_fits f classes.OpenParen s g r w h = is (state (controls.Want places.Whole) (forms.Paren places.Whole ∷ f ∷ s)) r h w
value_fits f classes.OpenBracket s g r w h = is (state controls.Item (forms.Array places.Whole ∷ f ∷ s)) r h w
value_fits f classes.OpenBrace s g r w h = is (state controls.KeyOrEnd (forms.Object places.Whole ∷ f ∷ s)) r h w
value_fits f classes.Function s g r w h = is (state controls.NameOrFormals (forms.Function places.Whole ∷ f ∷ s)) r h w
value_fits f classes.New s g r w h = is (state (controls.Want places.Whole) (forms.New ∷ f ∷ s)) r h w
value_fits f classes.Update s g r w h = is (state (controls.Want places.Update) (f ∷ s)) r (opened_unless f (bars_operator places.Whole (Some f)) (controls.Want places.Update) s g r h) w
value_fits f classes.Sum s g r w h = is (state (controls.Want places.Later) (f ∷ s)) r (opened_unless f (bars_operator places.Whole (Some f)) (controls.Want places.Later) s g r h) w
value_fits f classes.SignBefore s g r w h = is (state (controls.Want places.Later) (f ∷ s)) r (opened_unless f (bars_operator places.Whole (Some f)) (controls.Want places.Later) s g r h) w
value_fits f classes.KeyBefore s g r w h = is (state (controls.Want places.Later) (f ∷ s)) r (opened_unless f (bars_operator places.Whole (Some f)) (controls.Want places.Later) s g r h) w
value_fits f _ s g r w h = cc

statement_fits : (k : Class) (s : List Form) (g : Again) (r : State) → Stmts s → act (statement k) s g ≡ Some r → FitsIn r
statement_fits classes.OpenBrace s g r w h = is (state controls.List (forms.Block ∷ s)) r h w
statement_fits classes.Semicolon s g r w h = is (state controls.Done s) r h w
statement_fits classes.Word s g r w h = is (state controls.NameOrLabel (forms.Value ∷ s)) r h w
statement_fits classes.Var s g r w h = is (state controls.Name (forms.Var ∷ s)) r h w
statement_fits classes.If s g r w h = is (state controls.Open (forms.If ∷ s)) r h w
statement_fits classes.Do s g r w h = is (state controls.Body (forms.Do ∷ s)) r h w
statement_fits classes.While s g r w h = is (state controls.Open (forms.Header ∷ s)) r h w
statement_fits classes.For s g r w h = is (state controls.ForOpen s) r h w
statement_fits classes.Continue s g r w h = is (state controls.LabelOrEnd s) r h w
statement_fits classes.Break s g r w h = is (state controls.LabelOrEnd s) r h w
statement_fits classes.Return s g r w h = is (state controls.ValueOrEnd s) r h w
statement_fits classes.Throw s g r w h = is (state controls.JoinedValue s) r h w
statement_fits classes.Switch s g r w h = is (state controls.Open (forms.Switch ∷ s)) r h w
statement_fits classes.Try s g r w h = is (state controls.Brace (forms.TryBlock ∷ s)) r h w
statement_fits classes.In s g r w h = is (state (controls.Want places.Whole) (forms.Within ∷ s)) r h w
statement_fits classes.Function s g r w h = cc
statement_fits k s g r w h = value_fits forms.Value k s g r w h

closes_fits : (s : List Form) (g : Again) (r : State) → Lists s → act (closes (top s)) s g ≡ Some r → FitsIn r
closes_fits [] g r w h = cc
closes_fits (forms.Block ∷ s) g r w h = is (state controls.Done s) r h w
closes_fits (forms.Clauses ∷ s) g r w h = is (state controls.Done s) r h w
closes_fits (forms.Declaration ∷ s) g r w h = is (state controls.List s) r h (elems_lists s w)
closes_fits (forms.TryBlock ∷ s) g r w h = is (state controls.CatchOrFinally s) r h w
closes_fits (forms.CatchBlock ∷ s) g r w h = is (state controls.FinallyOrDone s) r h w
closes_fits (forms.Function p ∷ s) g r w h = is (state (controls.Have p false) s) r h w
closes_fits (_ ∷ s) g r w h = cc

declares_fits : (s : List Form) (g : Again) (r : State) → Lists s → act (declares (top s)) s g ≡ Some r → FitsIn r
declares_fits [] g r w h = is (state controls.DeclaredName (forms.Declaration ∷ [])) r h tt
declares_fits (forms.Declaration ∷ s) g r w h = is (state controls.DeclaredName (forms.Declaration ∷ forms.Declaration ∷ s)) r h w
declares_fits (forms.Function p ∷ s) g r w h = is (state controls.DeclaredName (forms.Declaration ∷ forms.Function p ∷ s)) r h w
declares_fits (_ ∷ s) g r w h = cc

case_fits : (s : List Form) (g : Again) (r : State) → Lists s → act (in_clauses (top s) (moves.Push forms.CaseHead (controls.Want places.Whole))) s g ≡ Some r → FitsIn r
case_fits [] g r w h = cc
case_fits (forms.Clauses ∷ s) g r w h = is (state (controls.Want places.Whole) (forms.CaseHead ∷ forms.Clauses ∷ s)) r h w
case_fits (_ ∷ s) g r w h = cc

default_fits : (s : List Form) (g : Again) (r : State) → Lists s → act (in_clauses (top s) (moves.Stay controls.DefaultColon)) s g ≡ Some r → FitsIn r
default_fits [] g r w h = cc
default_fits (forms.Clauses ∷ s) g r w h = is (state controls.DefaultColon (forms.Clauses ∷ s)) r h w
default_fits (_ ∷ s) g r w h = cc

listed_fits : (k : Class) (s : List Form) (g : Again) (r : State) → (k ≡ classes.End → ⊥) → Lists s → act (listed k (top s)) s g ≡ Some r → FitsIn r
listed_fits classes.End s g r e w h = absurd (e refl)
listed_fits classes.CloseBrace s g r e w h = closes_fits s g r w h
listed_fits classes.Case s g r e w h = case_fits s g r w h
listed_fits classes.Default s g r e w h = default_fits s g r w h
listed_fits classes.Function s g r e w h = declares_fits s g r w h
listed_fits k s g r e w h = statement_fits k s g r (lists_stmts s w) h

else_fits : (k : Class) (j : Bool) (s : List Form) (r : State) → Stmts s → (step k j s controls.Done ≡ Some r → FitsIn r) → step k j (forms.Then ∷ s) controls.Done ≡ Some r → FitsIn r
else_fits classes.Else j s r w f h = is (state controls.Body s) r h w
else_fits _ j s r w f h = f h

while_fits : (k : Class) (j : Bool) (s : List Form) (r : State) → Stmts s → step k j (forms.Do ∷ s) controls.Done ≡ Some r → FitsIn r
while_fits classes.While j s r w h = is (state controls.Open (forms.DoWhile ∷ s)) r h w
while_fits _ j s r w h = cc

done_fits : (s : List Form) (k : Class) (j : Bool) (r : State) → (k ≡ classes.End → ⊥) → Stmts s → step k j s controls.Done ≡ Some r → FitsIn r
done_fits [] k j r e w h = listed_fits k [] (λ d. below k j [] d) r e w h
done_fits (forms.Then ∷ s) k j r e w h = else_fits k j s r w (λ q. done_fits s k j r e w q) h
done_fits (forms.Do ∷ s) k j r e w h = while_fits k j s r w h
done_fits (forms.Block ∷ s) k j r e w h = listed_fits k (forms.Block ∷ s) (λ d. below k j (forms.Block ∷ s) d) r e w h
done_fits (forms.TryBlock ∷ s) k j r e w h = listed_fits k (forms.TryBlock ∷ s) (λ d. below k j (forms.TryBlock ∷ s) d) r e w h
done_fits (forms.CatchBlock ∷ s) k j r e w h = listed_fits k (forms.CatchBlock ∷ s) (λ d. below k j (forms.CatchBlock ∷ s) d) r e w h
done_fits (forms.Clauses ∷ s) k j r e w h = listed_fits k (forms.Clauses ∷ s) (λ d. below k j (forms.Clauses ∷ s) d) r e w h
done_fits (forms.Declaration ∷ s) k j r e w h = listed_fits k (forms.Declaration ∷ s) (λ d. below k j (forms.Declaration ∷ s) d) r e w h
done_fits (forms.Function p ∷ s) k j r e w h = listed_fits k (forms.Function p ∷ s) (λ d. below k j (forms.Function p ∷ s) d) r e w h
done_fits (_ ∷ s) k j r e w h = absurd w

complete_fits : (k : Class) (j : Bool) (s : List Form) (r : State) → (k ≡ classes.End → ⊥) → Stmts s → step k j s controls.Complete ≡ Some r → FitsIn r
complete_fits classes.Semicolon j s r e w h = is (state controls.Done s) r h w
complete_fits classes.CloseBrace j s r e w h = done_fits s classes.CloseBrace j r e w h
complete_fits classes.End j s r e w h = absurd (e refl)
complete_fits k true s r e w h = cc
complete_fits k false s r e w h = done_fits s k false r e w h

-- the token that ends what the form holds
ends_fits : (f : Form) (s : List Form) (k : Class) (j : Bool) (r : State) → (k ≡ classes.End → ⊥) → Holds (f ∷ s) → act (ends (Some f) k) (f ∷ s) (λ d. below k j (f ∷ s) d) ≡ Some r → FitsIn r
ends_fits forms.Value s k j r e w h = complete_fits k j s r e w h
ends_fits forms.Var s k j r e w h = complete_fits k j s r e w h
ends_fits forms.Cond s k j r e w h = is (state (controls.Want places.First) s) r (colon_is k (moves.Pop (controls.Want places.First)) (forms.Cond ∷ s) (λ d. below k j (forms.Cond ∷ s) d) r h) w
ends_fits (forms.Paren p) s k j r e w h = is (state (controls.Have p false) s) r (close_paren_is k (moves.Pop (controls.Have p false)) (forms.Paren p ∷ s) (λ d. below k j (forms.Paren p ∷ s) d) r h) w
ends_fits (forms.Index p) s k j r e w h = is (state (controls.Have p true) s) r (close_bracket_is k (moves.Pop (controls.Have p true)) (forms.Index p ∷ s) (λ d. below k j (forms.Index p ∷ s) d) r h) w
ends_fits (forms.Arguments p) s k j r e w h = is (state (controls.Have p false) s) r (close_paren_is k (moves.Pop (controls.Have p false)) (forms.Arguments p ∷ s) (λ d. below k j (forms.Arguments p ∷ s) d) r h) w
ends_fits (forms.Array p) s k j r e w h = is (state (controls.Have p false) s) r (close_bracket_is k (moves.Pop (controls.Have p false)) (forms.Array p ∷ s) (λ d. below k j (forms.Array p ∷ s) d) r h) w
ends_fits (forms.Object p) s k j r e w h = is (state (controls.Have p false) s) r (close_brace_is k (moves.Pop (controls.Have p false)) (forms.Object p ∷ s) (λ d. below k j (forms.Object p ∷ s) d) r h) w
ends_fits forms.If s k j r e w h = is (state controls.Body (forms.Then ∷ s)) r (close_paren_is k (moves.Swap forms.Then controls.Body) (forms.If ∷ s) (λ d. below k j (forms.If ∷ s) d) r h) w
ends_fits forms.Header s k j r e w h = is (state controls.Body s) r (close_paren_is k (moves.Pop controls.Body) (forms.Header ∷ s) (λ d. below k j (forms.Header ∷ s) d) r h) w
ends_fits forms.Switch s k j r e w h = is (state controls.SwitchBrace (forms.Clauses ∷ s)) r (close_paren_is k (moves.Swap forms.Clauses controls.SwitchBrace) (forms.Switch ∷ s) (λ d. below k j (forms.Switch ∷ s) d) r h) w
ends_fits forms.DoWhile s k j r e w h = is (state controls.Complete s) r (close_paren_is k (moves.Pop controls.Complete) (forms.DoWhile ∷ s) (λ d. below k j (forms.DoWhile ∷ s) d) r h) w
ends_fits forms.ForInit s k j r e w h = is (state controls.Test (forms.ForTest ∷ s)) r (semicolon_is k (moves.Swap forms.ForTest controls.Test) (forms.ForInit ∷ s) (λ d. below k j (forms.ForInit ∷ s) d) r h) w
ends_fits forms.ForVar s k j r e w h = is (state controls.Test (forms.ForTest ∷ s)) r (semicolon_is k (moves.Swap forms.ForTest controls.Test) (forms.ForVar ∷ s) (λ d. below k j (forms.ForVar ∷ s) d) r h) w
ends_fits forms.ForTest s k j r e w h = is (state controls.Update (forms.Header ∷ s)) r (semicolon_is k (moves.Swap forms.Header controls.Update) (forms.ForTest ∷ s) (λ d. below k j (forms.ForTest ∷ s) d) r h) w
ends_fits forms.Within s k j r e w h = is (state controls.List (forms.Block ∷ s)) r (open_brace_is k (moves.Swap forms.Block controls.List) (forms.Within ∷ s) (λ d. below k j (forms.Within ∷ s) d) r h) w
ends_fits forms.CaseHead s k j r e w h = is (state controls.List s) r (colon_is k (moves.Pop controls.List) (forms.CaseHead ∷ s) (λ d. below k j (forms.CaseHead ∷ s) d) r h) (clausal_lists s w)
ends_fits _ s k j r e w h = cc

comma_fits : (f : Form) (s : List Form) (g : Again) (r : State) → Holds (f ∷ s) → act (comma (Some f)) (f ∷ s) g ≡ Some r → FitsIn r
comma_fits forms.Cond s g r w h = cc
comma_fits (forms.Array p) s g r w h = is (state controls.Item (forms.Array p ∷ s)) r h w
comma_fits (forms.Object p) s g r w h = is (state controls.KeyOrEnd (forms.Object p ∷ s)) r h w
comma_fits forms.Var s g r w h = is (state controls.Name (forms.Var ∷ s)) r h w
comma_fits forms.ForVar s g r w h = is (state controls.Name (forms.ForVar ∷ s)) r h w
comma_fits f s g r w h = is (state (controls.Want places.First) (f ∷ s)) r h w

behind_top_fits : (k : Class) (j : Bool) (f : Form) (s : List Form) (r : State) → (k ≡ classes.End → ⊥) → Holds (f ∷ s) → act (behind_top k (Some f)) (f ∷ s) (λ d. below k j (f ∷ s) d) ≡ Some r → FitsIn r
behind_top_fits classes.In j f s r e w h = is (state (controls.Want places.Later) (f ∷ s)) r (unless_is (bars_in (Some f)) (moves.Stay (controls.Want places.Later)) (f ∷ s) (λ d. below classes.In j (f ∷ s) d) r h) w
behind_top_fits classes.Operator j f s r e w h = is (state (controls.Want places.Later) (f ∷ s)) r h w
behind_top_fits classes.Instanceof j f s r e w h = is (state (controls.Want places.Later) (f ∷ s)) r h w
behind_top_fits classes.Sum j f s r e w h = is (state (controls.Want places.Later) (f ∷ s)) r h w
behind_top_fits classes.Question j f s r e w h = is (state (controls.Want places.First) (forms.Cond ∷ f ∷ s)) r h w
behind_top_fits classes.Assign j f s r e w h = cc
behind_top_fits classes.AssignWith j f s r e w h = cc
behind_top_fits classes.Comma j f s r e w h = comma_fits f s (λ d. below classes.Comma j (f ∷ s) d) r w h
behind_top_fits k j f s r e w h = ends_fits f s k j r e w h

behind_fits : (s : List Form) (k : Class) (j : Bool) (r : State) → (k ≡ classes.End → ⊥) → Holds s → step k j s controls.Behind ≡ Some r → FitsIn r
behind_fits [] k j r e w h = absurd w
behind_fits (forms.New ∷ s) k j r e w h = behind_fits s k j r e w h
behind_fits (f ∷ s) k j r e w h = behind_top_fits k j f s r e w h

call_fits : (s : List Form) (p : Place) (g : Again) (r : State) → Holds s → act (call p (top s)) s g ≡ Some r → FitsIn r
call_fits [] p g r w h = absurd w
call_fits (forms.New ∷ s) p g r w h = is (state controls.ArgumentOrEnd (forms.Arguments p ∷ s)) r h w
call_fits (f ∷ s) p g r w h = is (state controls.ArgumentOrEnd (forms.Arguments p ∷ f ∷ s)) r h w

assigns_fits : (p : Place) (s : List Form) (g : Again) (r : State) → Holds s → act (assigns p) s g ≡ Some r → FitsIn r
assigns_fits places.Whole s g r w h = is (state (controls.Want places.First) s) r h w
assigns_fits places.First s g r w h = is (state (controls.Want places.First) s) r h w
assigns_fits places.Later s g r w h = cc
assigns_fits places.Update s g r w h = cc

in_fits : (j : Bool) (p : Place) (s : List Form) (r : State) → Holds s → act (target_in p (top s)) s (λ d. below classes.In j s d) ≡ Some r → FitsIn r
in_fits j places.Whole [] r w h = absurd w
in_fits j places.Whole (forms.ForInit ∷ s) r w h = is (state (controls.Want places.Whole) (forms.Header ∷ s)) r h w
in_fits j places.Whole (f ∷ s) r w h = behind_fits (f ∷ s) classes.In j r (λ q. cc) w h
in_fits j p s r w h = behind_fits s classes.In j r (λ q. cc) w h

closed_fits : (j : Bool) (p : Place) (s : List Form) (r : State) → Holds s → act (target_closed p (top s)) s (λ d. below classes.CloseParen j s d) ≡ Some r → FitsIn r
closed_fits j places.Whole [] r w h = absurd w
closed_fits j places.Whole (forms.Paren q ∷ s) r w h = is (state (controls.Have q true) s) r h w
closed_fits j places.Whole (f ∷ s) r w h = behind_fits (f ∷ s) classes.CloseParen j r (λ q. cc) w h
closed_fits j p s r w h = behind_fits s classes.CloseParen j r (λ q. cc) w h

target_fits : (k : Class) (j : Bool) (p : Place) (s : List Form) (r : State) → (k ≡ classes.End → ⊥) → Holds s → act (target k j p (top s)) s (λ d. below k j s d) ≡ Some r → FitsIn r
target_fits classes.Update true p s r e w h = is (state controls.Behind s) r (unless_is (after_update p) (moves.Stay controls.Behind) s (λ d. below classes.Update true s d) r h) w
target_fits classes.Update false p s r e w h = behind_fits s classes.Update false r e w h
target_fits classes.Assign j p s r e w h = assigns_fits p s (λ d. below classes.Assign j s d) r w h
target_fits classes.AssignWith j p s r e w h = assigns_fits p s (λ d. below classes.AssignWith j s d) r w h
target_fits classes.In j p s r e w h = in_fits j p s r w h
target_fits classes.CloseParen j p s r e w h = closed_fits j p s r w h
target_fits k j p s r e w h = behind_fits s k j r e w h

bare_top_fits : (t : Bool) (k : Class) (j : Bool) (p : Place) (s : List Form) (r : State) → (k ≡ classes.End → ⊥) → Holds s → act (bare_top t k j p (top s)) s (λ d. below k j s d) ≡ Some r → FitsIn r
bare_top_fits true k j p s r e w h = target_fits k j p s r e w h
bare_top_fits false k j p s r e w h = behind_fits s k j r e w (unless_is (after_update p) (behind (top s) k) s (λ d. below k j s d) r h)

bare_fits : (s : List Form) (k : Class) (j : Bool) (p : Place) (t : Bool) (r : State) → (k ≡ classes.End → ⊥) → Holds s → act (bare (top s) k j p t) s (λ d. below k j s d) ≡ Some r → FitsIn r
bare_fits [] k j p t r e w h = absurd w
bare_fits (forms.New ∷ s) k j p t r e w h = behind_fits s k j r e w (unless_is (after_update p) (moves.Again controls.Behind) (forms.New ∷ s) (λ d. below k j (forms.New ∷ s) d) r h)
bare_fits (f ∷ s) k j p t r e w h = bare_top_fits t k j p (f ∷ s) r e w h

have_fits : (k : Class) (j : Bool) (p : Place) (t : Bool) (s : List Form) (r : State) → (k ≡ classes.End → ⊥) → Holds s → step k j s (controls.Have p t) ≡ Some r → FitsIn r
have_fits classes.Dot j p t s r e w h = is (state (controls.Dot p) s) r h w
have_fits classes.OpenBracket j p t s r e w h = is (state (controls.Want places.Whole) (forms.Index p ∷ s)) r h w
have_fits classes.OpenParen j p t s r e w h = call_fits s p (λ d. below classes.OpenParen j s d) r w h
have_fits k j p t s r e w h = bare_fits s k j p t r e w h

dotted_fits : (b : Bool) (p : Place) (s : List Form) (g : Again) (r : State) → Holds s → act (dotted b p) s g ≡ Some r → FitsIn r
dotted_fits true p s g r w h = is (state (controls.Have p true) s) r h w
dotted_fits false p s g r w h = cc

argument_fits : (s : List Form) (k : Class) (j : Bool) (r : State) → OnArguments s → step k j s controls.ArgumentOrEnd ≡ Some r → FitsIn r
argument_fits [] k j r w h = absurd w
argument_fits (forms.Arguments p ∷ s) classes.CloseParen j r w h = is (state (controls.Have p false) s) r h w
argument_fits (forms.Arguments p ∷ s) k j r w h = operand_fits k places.First (Some (forms.Arguments p)) (forms.Arguments p ∷ s) (λ d. below k j (forms.Arguments p ∷ s) d) r w h
argument_fits (_ ∷ s) k j r w h = absurd w

item_fits : (s : List Form) (k : Class) (j : Bool) (r : State) → OnArray s → step k j s controls.Item ≡ Some r → FitsIn r
item_fits [] k j r w h = absurd w
item_fits (forms.Array p ∷ s) classes.CloseBracket j r w h = is (state (controls.Have p false) s) r h w
item_fits (forms.Array p ∷ s) classes.Comma j r w h = is (state controls.Item (forms.Array p ∷ s)) r h w
item_fits (forms.Array p ∷ s) k j r w h = operand_fits k places.First (Some (forms.Array p)) (forms.Array p ∷ s) (λ d. below k j (forms.Array p ∷ s) d) r w h
item_fits (_ ∷ s) k j r w h = absurd w

named_key_fits : (b : Bool) (s : List Form) (g : Again) (r : State) → OnObject s → act (named_key b) s g ≡ Some r → FitsIn r
named_key_fits true s g r w h = is (state controls.KeyColon s) r h w
named_key_fits false s g r w h = cc

key_fits : (s : List Form) (k : Class) (j : Bool) (r : State) → OnObject s → step k j s controls.KeyOrEnd ≡ Some r → FitsIn r
key_fits [] k j r w h = absurd w
key_fits (forms.Object p ∷ s) classes.CloseBrace j r w h = is (state (controls.Have p false) s) r h w
key_fits (forms.Object p ∷ s) classes.Literal j r w h = is (state controls.KeyColon (forms.Object p ∷ s)) r h w
key_fits (forms.Object p ∷ s) k j r w h = named_key_fits (is_name k) (forms.Object p ∷ s) (λ d. below k j (forms.Object p ∷ s) d) r w h
key_fits (_ ∷ s) k j r w h = absurd w

object_holds : (s : List Form) → OnObject s → Holds s
object_holds [] w = absurd w
object_holds (forms.Object p ∷ s) w = w
object_holds (_ ∷ s) w = absurd w

body_brace : (s : List Form) → OnBody s → OnBrace s
body_brace [] h = absurd h
body_brace (forms.Function p ∷ s) h = h
body_brace (forms.Declaration ∷ s) h = h
body_brace (_ ∷ s) h = absurd h

brace_lists : (s : List Form) → OnBrace s → Lists s
brace_lists [] h = absurd h
brace_lists (forms.Block ∷ s) h = h
brace_lists (forms.TryBlock ∷ s) h = h
brace_lists (forms.CatchBlock ∷ s) h = h
brace_lists (forms.Function p ∷ s) h = h
brace_lists (forms.Declaration ∷ s) h = h
brace_lists (_ ∷ s) h = absurd h

function_fits : (k : Class) (j : Bool) (s : List Form) (r : State) → OnBody s → step k j s controls.NameOrFormals ≡ Some r → FitsIn r
function_fits classes.Word j s r w h = is (state controls.Formals s) r h w
function_fits classes.OpenParen j s r w h = is (state controls.FormalOrEnd s) r h w
function_fits _ j s r w h = cc

formal_fits : (k : Class) (j : Bool) (s : List Form) (r : State) → OnBody s → step k j s controls.FormalOrEnd ≡ Some r → FitsIn r
formal_fits classes.Word j s r w h = is (state controls.FormalBehind s) r h w
formal_fits classes.CloseParen j s r w h = is (state controls.Brace s) r h (body_brace s w)
formal_fits _ j s r w h = cc

formal_behind_fits : (k : Class) (j : Bool) (s : List Form) (r : State) → OnBody s → step k j s controls.FormalBehind ≡ Some r → FitsIn r
formal_behind_fits classes.Comma j s r w h = is (state controls.Formal s) r h w
formal_behind_fits classes.CloseParen j s r w h = is (state controls.Brace s) r h (body_brace s w)
formal_behind_fits _ j s r w h = cc

label_fits : (s : List Form) (k : Class) (j : Bool) (r : State) → (k ≡ classes.End → ⊥) → OnValue s → step k j s controls.NameOrLabel ≡ Some r → FitsIn r
label_fits [] k j r e w h = absurd w
label_fits (forms.Value ∷ s) classes.Colon j r e w h = is (state controls.Body s) r h w
label_fits (forms.Value ∷ s) k j r e w h = have_fits k j places.Whole true (forms.Value ∷ s) r e w h
label_fits (_ ∷ s) k j r e w h = absurd w

variables_hold : (s : List Form) → OnVariables s → Holds s
variables_hold [] h = absurd h
variables_hold (forms.Var ∷ s) h = h
variables_hold (forms.ForVar ∷ s) h = h
variables_hold (_ ∷ s) h = absurd h

named_ends_fits : (s : List Form) (k : Class) (j : Bool) (r : State) → (k ≡ classes.End → ⊥) → OnVariables s → act (ends (top s) k) s (λ d. below k j s d) ≡ Some r → FitsIn r
named_ends_fits [] k j r e w h = absurd w
named_ends_fits (forms.Var ∷ s) k j r e w h = ends_fits forms.Var s k j r e w h
named_ends_fits (forms.ForVar ∷ s) k j r e w h = ends_fits forms.ForVar s k j r e w h
named_ends_fits (_ ∷ s) k j r e w h = absurd w

named_fits : (k : Class) (j : Bool) (s : List Form) (r : State) → (k ≡ classes.End → ⊥) → OnVariables s → step k j s controls.Named ≡ Some r → FitsIn r
named_fits classes.Assign j s r e w h = is (state (controls.Want places.First) s) r h (variables_hold s w)
named_fits classes.Comma j s r e w h = is (state controls.Name s) r h w
named_fits k j s r e w h = named_ends_fits s k j r e w h

for_named_fits : (s : List Form) (k : Class) (j : Bool) (r : State) → (k ≡ classes.End → ⊥) → OnForVar s → step k j s controls.ForNamed ≡ Some r → FitsIn r
for_named_fits [] k j r e w h = absurd w
for_named_fits (forms.ForVar ∷ s) classes.In j r e w h = is (state (controls.Want places.Whole) (forms.Header ∷ s)) r h w
for_named_fits (forms.ForVar ∷ s) k j r e w h = named_fits k j (forms.ForVar ∷ s) r e w h
for_named_fits (_ ∷ s) k j r e w h = absurd w

init_fits : (k : Class) (j : Bool) (s : List Form) (r : State) → Stmts s → step k j s controls.Init ≡ Some r → FitsIn r
init_fits classes.Semicolon j s r w h = is (state controls.Test (forms.ForTest ∷ s)) r h w
init_fits classes.Var j s r w h = is (state controls.ForName (forms.ForVar ∷ s)) r h w
init_fits k j s r w h = value_fits forms.ForInit k s (λ d. below k j s d) r w h

test_fits : (s : List Form) (k : Class) (j : Bool) (r : State) → OnTest s → step k j s controls.Test ≡ Some r → FitsIn r
test_fits [] k j r w h = absurd w
test_fits (forms.ForTest ∷ s) classes.Semicolon j r w h = is (state controls.Update (forms.Header ∷ s)) r h w
test_fits (forms.ForTest ∷ s) k j r w h = operand_fits k places.Whole (Some forms.ForTest) (forms.ForTest ∷ s) (λ d. below k j (forms.ForTest ∷ s) d) r w h
test_fits (_ ∷ s) k j r w h = absurd w

update_fits : (s : List Form) (k : Class) (j : Bool) (r : State) → OnUpdate s → step k j s controls.Update ≡ Some r → FitsIn r
update_fits [] k j r w h = absurd w
update_fits (forms.Header ∷ s) classes.CloseParen j r w h = is (state controls.Body s) r h w
update_fits (forms.Header ∷ s) k j r w h = operand_fits k places.Whole (Some forms.Header) (forms.Header ∷ s) (λ d. below k j (forms.Header ∷ s) d) r w h
update_fits (_ ∷ s) k j r w h = absurd w

jump_fits : (k : Class) (j : Bool) (s : List Form) (r : State) → (k ≡ classes.End → ⊥) → Stmts s → step k j s controls.LabelOrEnd ≡ Some r → FitsIn r
jump_fits classes.Word true s r e w h = is (state controls.Complete s) r h w
jump_fits classes.Word false s r e w h = done_fits s classes.Word false r e w h
jump_fits k j s r e w h = complete_fits k j s r e w h

return_fits : (k : Class) (j : Bool) (s : List Form) (r : State) → (k ≡ classes.End → ⊥) → Stmts s → step k j s controls.ValueOrEnd ≡ Some r → FitsIn r
return_fits classes.Semicolon j s r e w h = is (state controls.Done s) r h w
return_fits classes.CloseBrace j s r e w h = done_fits s classes.CloseBrace j r e w h
return_fits classes.End j s r e w h = absurd (e refl)
return_fits k true s r e w h = value_fits forms.Value k s (λ d. below k true s d) r w h
return_fits k false s r e w h = done_fits s k false r e w h

throw_fits : (k : Class) (j : Bool) (s : List Form) (r : State) → Stmts s → step k j s controls.JoinedValue ≡ Some r → FitsIn r
throw_fits k true s r w h = value_fits forms.Value k s (λ d. below k true s d) r w h
throw_fits k false s r w h = cc

tried_fits : (k : Class) (j : Bool) (s : List Form) (r : State) → Stmts s → step k j s controls.CatchOrFinally ≡ Some r → FitsIn r
tried_fits classes.Catch j s r w h = is (state controls.CatchOpen s) r h w
tried_fits classes.Finally j s r w h = is (state controls.Brace (forms.Block ∷ s)) r h w
tried_fits _ j s r w h = cc

caught_fits : (k : Class) (j : Bool) (s : List Form) (r : State) → (k ≡ classes.End → ⊥) → Stmts s → step k j s controls.FinallyOrDone ≡ Some r → FitsIn r
caught_fits classes.Finally j s r e w h = is (state controls.Brace (forms.Block ∷ s)) r h w
caught_fits k j s r e w h = done_fits s k j r e w h

clause_fits : (s : List Form) (k : Class) (j : Bool) (r : State) → Clausal s → step k j s controls.ClauseOrEnd ≡ Some r → FitsIn r
clause_fits [] k j r w h = absurd w
clause_fits (forms.Clauses ∷ s) classes.CloseBrace j r w h = is (state controls.Done s) r h w
clause_fits (forms.Clauses ∷ s) classes.Case j r w h = is (state (controls.Want places.Whole) (forms.CaseHead ∷ forms.Clauses ∷ s)) r h w
clause_fits (forms.Clauses ∷ s) classes.Default j r w h = is (state controls.DefaultColon (forms.Clauses ∷ s)) r h w
clause_fits (forms.Clauses ∷ s) _ j r w h = cc
clause_fits (_ ∷ s) k j r w h = absurd w

keeps : (c : Control) (s : List Form) (k : Class) (j : Bool) (r : State) → (k ≡ classes.End → ⊥) → Fits c s → step k j s c ≡ Some r → FitsIn r
keeps (controls.Want p) s k j r e w h = operand_fits k p (top s) s (λ d. below k j s d) r w h
keeps (controls.Have p t) s k j r e w h = have_fits k j p t s r e w h
keeps controls.Behind s k j r e w h = behind_fits s k j r e w h
keeps (controls.Dot p) s k j r e w h = dotted_fits (is_name k) p s (λ d. below k j s d) r w h
keeps controls.ArgumentOrEnd s k j r e w h = argument_fits s k j r w h
keeps controls.Item s k j r e w h = item_fits s k j r w h
keeps controls.KeyOrEnd s k j r e w h = key_fits s k j r w h
keeps controls.KeyColon s k j r e w h = is (state (controls.Want places.First) s) r (colon_is k (moves.Stay (controls.Want places.First)) s (λ d. below k j s d) r h) (object_holds s w)
keeps controls.NameOrFormals s k j r e w h = function_fits k j s r (function_body s w) h
keeps controls.DeclaredName s k j r e w h = is (state controls.Formals s) r (word_is k (moves.Stay controls.Formals) s (λ d. below k j s d) r h) (declaration_body s w)
keeps controls.Formals s k j r e w h = is (state controls.FormalOrEnd s) r (open_paren_is k (moves.Stay controls.FormalOrEnd) s (λ d. below k j s d) r h) w
keeps controls.FormalOrEnd s k j r e w h = formal_fits k j s r w h
keeps controls.FormalBehind s k j r e w h = formal_behind_fits k j s r w h
keeps controls.Formal s k j r e w h = is (state controls.FormalBehind s) r (word_is k (moves.Stay controls.FormalBehind) s (λ d. below k j s d) r h) w
keeps controls.Brace s k j r e w h = is (state controls.List s) r (open_brace_is k (moves.Stay controls.List) s (λ d. below k j s d) r h) (brace_lists s w)
keeps controls.List s k j r e w h = listed_fits k s (λ d. below k j s d) r e w h
keeps controls.Body s k j r e w h = statement_fits k s (λ d. below k j s d) r w h
keeps controls.Done s k j r e w h = done_fits s k j r e w h
keeps controls.Complete s k j r e w h = complete_fits k j s r e w h
keeps controls.NameOrLabel s k j r e w h = label_fits s k j r e w h
keeps controls.Open s k j r e w h = is (state (controls.Want places.Whole) s) r (open_paren_is k (moves.Stay (controls.Want places.Whole)) s (λ d. below k j s d) r h) (condition_holds s w)
keeps controls.Name s k j r e w h = is (state controls.Named s) r (word_is k (moves.Stay controls.Named) s (λ d. below k j s d) r h) w
keeps controls.Named s k j r e w h = named_fits k j s r e w h
keeps controls.ForOpen s k j r e w h = is (state controls.Init s) r (open_paren_is k (moves.Stay controls.Init) s (λ d. below k j s d) r h) w
keeps controls.Init s k j r e w h = init_fits k j s r w h
keeps controls.ForName s k j r e w h = is (state controls.ForNamed s) r (word_is k (moves.Stay controls.ForNamed) s (λ d. below k j s d) r h) w
keeps controls.ForNamed s k j r e w h = for_named_fits s k j r e w h
keeps controls.Test s k j r e w h = test_fits s k j r w h
keeps controls.Update s k j r e w h = update_fits s k j r w h
keeps controls.LabelOrEnd s k j r e w h = jump_fits k j s r e w h
keeps controls.ValueOrEnd s k j r e w h = return_fits k j s r e w h
keeps controls.JoinedValue s k j r e w h = throw_fits k j s r w h
keeps controls.CatchOrFinally s k j r e w h = tried_fits k j s r w h
keeps controls.CatchOpen s k j r e w h = is (state controls.CatchName s) r (open_paren_is k (moves.Stay controls.CatchName) s (λ d. below k j s d) r h) w
keeps controls.CatchName s k j r e w h = is (state controls.CatchClose s) r (word_is k (moves.Stay controls.CatchClose) s (λ d. below k j s d) r h) w
keeps controls.CatchClose s k j r e w h = is (state controls.Brace (forms.CatchBlock ∷ s)) r (close_paren_is k (moves.Push forms.CatchBlock controls.Brace) s (λ d. below k j s d) r h) w
keeps controls.FinallyOrDone s k j r e w h = caught_fits k j s r e w h
keeps controls.SwitchBrace s k j r e w h = is (state controls.ClauseOrEnd s) r (open_brace_is k (moves.Stay controls.ClauseOrEnd) s (λ d. below k j s d) r h) w
keeps controls.ClauseOrEnd s k j r e w h = clause_fits s k j r w h
keeps controls.DefaultColon s k j r e w h = is (state controls.List s) r (colon_is k (moves.Stay controls.List) s (λ d. below k j s d) r h) (clausal_lists s w)
keeps controls.Accepted s k j r e w h = absurd w

no_end : (t : Token) → class_of t ≡ classes.End → ⊥
no_end t e = subst (λ (z : Class). Is z t) e (token_is t)

reached_fits : (toks : List Tok) (s r : State) → FitsIn s → reach toks s ≡ Some r → FitsIn r
reached_fits [] s r w h = is s r h w
reached_fits (t ∷ ts) s r w h =
    let q = then_some (step_tok t s) (λ z. reach ts z) r h in
    reached_fits ts q.0 r (keeps s.control s.forms (class_of t.token) (not t.after_line) q.0 (no_end t.token) w q.1) q.2

pub goes_on : (toks : List Tok) (s : State) → IsReached toks s → (more : List Tok) × Accepts s more
goes_on toks s h = completes s.control s.forms (reached_fits toks start s tt h)
