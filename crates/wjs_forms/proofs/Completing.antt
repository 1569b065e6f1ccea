-- From each state that fits some tokens lead to an end.
use Rattle.std.proofs.Common.{◌≡◌, ℕ, Bool, true, false, List, [], ◌∷◌, Option, Some, None, refl, sym, ap, ◌∙◌, subst}
use Rattle.wjs_base.specs.declared.ids.TextId.{TextId}
use Rattle.wjs_tree.specs.declared.tokens.Tok.{Tok}
use Rattle.wjs_tree.specs.declared.tokens.Token.{Token}
use Rattle.wjs_tree.specs.declared.tokens.Token.TheVariants as tokens
use Rattle.wjs_tree.specs.declared.signs.Sign.TheVariants as signs
use Rattle.wjs_tree.specs.declared.keys.Key.TheVariants as keys
use Rattle.wjs_forms.specs.declared.class.Class.{Class}
use Rattle.wjs_forms.specs.declared.class.Class.TheVariants as classes
use Rattle.wjs_forms.specs.declared.forms.Place.{Place}
use Rattle.wjs_forms.specs.declared.forms.Place.TheVariants as places
use Rattle.wjs_forms.specs.declared.forms.Form.{Form}
use Rattle.wjs_forms.specs.declared.forms.Form.TheVariants as forms
use Rattle.wjs_forms.specs.declared.forms.Control.{Control}
use Rattle.wjs_forms.specs.declared.forms.Control.TheVariants as controls
use Rattle.wjs_forms.specs.Classes.{class_of}
use Rattle.wjs_forms.specs.States.{State, state, step, step_tok, and_then, reach, MayEnd, Accepts}
use Rattle.wjs_forms.proofs.Fitting.{Stmts, Elems, Holds, Clausal, Lists, OnArguments, OnArray, OnObject, OnFunction, OnDeclaration, OnBody, OnBrace, OnValue, OnCondition, OnVariables, OnForVar, OnTest, OnUpdate, Fits, FitsIn, elems_stmts, clausal_stmts, lists_stmts}

-- some tokens lead to an end
abbrev pub CanEnd : Control → List Form → Type 0
CanEnd c s = (more : List Tok) × Accepts (state c s) more

-- a token on the line of the one before
abbrev tok : Token → Tok
tok t = record { token = t; byte = 0; line = 0; after_line = false }

a_name : TextId
a_name = record { 0 = 0 }

before : (t : Token) (c d : Control) (s r : List Form) → step (class_of t) true s c ≡ Some (state d r) → CanEnd d r → CanEnd c s
before t c d s r e w = (tok t ∷ w.0, (w.1.0, ap (λ (z : Option State). and_then z (λ q. reach w.0 q)) e ∙ w.1.1, w.1.2))

word : (c d : Control) (s r : List Form) → step classes.Word true s c ≡ Some (state d r) → CanEnd d r → CanEnd c s
word c d s r e w = before (tokens.Word a_name) c d s r e w

close_paren : (c d : Control) (s r : List Form) → step classes.CloseParen true s c ≡ Some (state d r) → CanEnd d r → CanEnd c s
close_paren c d s r e w = before (tokens.Sign signs.CloseParen) c d s r e w

open_paren : (c d : Control) (s r : List Form) → step classes.OpenParen true s c ≡ Some (state d r) → CanEnd d r → CanEnd c s
open_paren c d s r e w = before (tokens.Sign signs.OpenParen) c d s r e w

open_brace : (c d : Control) (s r : List Form) → step classes.OpenBrace true s c ≡ Some (state d r) → CanEnd d r → CanEnd c s
open_brace c d s r e w = before (tokens.Sign signs.OpenBrace) c d s r e w

close_brace : (c d : Control) (s r : List Form) → step classes.CloseBrace true s c ≡ Some (state d r) → CanEnd d r → CanEnd c s
close_brace c d s r e w = before (tokens.Sign signs.CloseBrace) c d s r e w

semicolon : (c d : Control) (s r : List Form) → step classes.Semicolon true s c ≡ Some (state d r) → CanEnd d r → CanEnd c s
semicolon c d s r e w = before (tokens.Sign signs.Semicolon) c d s r e w

colon : (c d : Control) (s r : List Form) → step classes.Colon true s c ≡ Some (state d r) → CanEnd d r → CanEnd c s
colon c d s r e w = before (tokens.Sign signs.Colon) c d s r e w

by_place : (p : Place) (P : Place → Type 0) → P places.Whole → P places.First → P places.Later → P places.Update → P p
by_place places.Whole P a b c d = a
by_place places.First P a b c d = b
by_place places.Later P a b c d = c
by_place places.Update P a b c d = d

-- behind an empty statement
empty : (s : List Form) → CanEnd controls.Done s → CanEnd controls.Body s
empty s w = semicolon controls.Body controls.Done s s refl w

-- `finally { }`
finally : (c : Control) (s : List Form) → step classes.Finally true s c ≡ Some (state controls.Brace (forms.Block ∷ s)) → CanEnd controls.Done s → CanEnd c s
finally c s e w = before (tokens.Key keys.Finally) c controls.Brace s (forms.Block ∷ s) e
    (open_brace controls.Brace controls.List (forms.Block ∷ s) (forms.Block ∷ s) refl (close_brace controls.List controls.Done (forms.Block ∷ s) s refl w))

-- a property makes a target of what stands before it
dotted : (p : Place) (t : Bool) (s : List Form) → CanEnd (controls.Have p true) s → CanEnd (controls.Have p t) s
dotted p t s w = before (tokens.Sign signs.Dot) (controls.Have p t) (controls.Dot p) s s refl (word (controls.Dot p) (controls.Have p true) s s refl w)

-- the header of a `for` from its second part on
header : (s : List Form) → CanEnd controls.Done s → CanEnd controls.Update (forms.Header ∷ s)
header s w = close_paren controls.Update controls.Body (forms.Header ∷ s) s refl (empty s w)

test_header : (s : List Form) → CanEnd controls.Done s → CanEnd controls.Test (forms.ForTest ∷ s)
test_header s w = semicolon controls.Test controls.Update (forms.ForTest ∷ s) (forms.Header ∷ s) refl (header s w)

-- the clauses of a `switch`
no_clauses : (s : List Form) → CanEnd controls.Done s → CanEnd controls.SwitchBrace (forms.Clauses ∷ s)
no_clauses s w = open_brace controls.SwitchBrace controls.ClauseOrEnd (forms.Clauses ∷ s) (forms.Clauses ∷ s) refl (close_brace controls.ClauseOrEnd controls.Done (forms.Clauses ∷ s) s refl w)

-- the statement of an `if`, and of its `else`
with_else : (s : List Form) → CanEnd controls.Done s → CanEnd controls.Done (forms.Then ∷ s)
with_else s w = before (tokens.Key keys.Else) controls.Done controls.Body (forms.Then ∷ s) s refl (empty s w)

-- `)` behind a target in a form that is no parenthesis
closes : (p : Place) (f : Form) (d : Control) (s r : List Form) → ((q : Place) → step classes.CloseParen true (f ∷ s) (controls.Have q true) ≡ Some (state d r)) → CanEnd d r → CanEnd (controls.Have p true) (f ∷ s)
closes p f d s r e w = close_paren (controls.Have p true) d (f ∷ s) r (e p) w

mutual
  pub done_ends : (s : List Form) → Stmts s → CanEnd controls.Done s
  done_ends [] h = ([], (state controls.Done [], refl, (state controls.Accepted [], refl)))
  done_ends (forms.Then ∷ s) h = with_else s (done_ends s h)
  done_ends (forms.Do ∷ s) h = before (tokens.Key keys.While) controls.Done controls.Open (forms.Do ∷ s) (forms.DoWhile ∷ s) refl
      (open_paren controls.Open (controls.Want places.Whole) (forms.DoWhile ∷ s) (forms.DoWhile ∷ s) refl
      (word (controls.Want places.Whole) (controls.Have places.Whole true) (forms.DoWhile ∷ s) (forms.DoWhile ∷ s) refl
      (close_paren (controls.Have places.Whole true) controls.Complete (forms.DoWhile ∷ s) s refl (semicolon controls.Complete controls.Done s s refl (done_ends s h)))))
  done_ends (forms.Block ∷ s) h = close_brace controls.Done controls.Done (forms.Block ∷ s) s refl (done_ends s h)
  done_ends (forms.Clauses ∷ s) h = close_brace controls.Done controls.Done (forms.Clauses ∷ s) s refl (done_ends s h)
  done_ends (forms.TryBlock ∷ s) h = close_brace controls.Done controls.CatchOrFinally (forms.TryBlock ∷ s) s refl (finally controls.CatchOrFinally s refl (done_ends s h))
  done_ends (forms.CatchBlock ∷ s) h = close_brace controls.Done controls.FinallyOrDone (forms.CatchBlock ∷ s) s refl (finally controls.FinallyOrDone s refl (done_ends s h))
  done_ends (forms.Declaration ∷ s) h = close_brace controls.Done controls.List (forms.Declaration ∷ s) s refl (semicolon controls.List controls.Done s s refl (done_ends s (elems_stmts s h)))
  done_ends (forms.Function p ∷ s) h = close_brace controls.Done (controls.Have p false) (forms.Function p ∷ s) s refl (have_ends s p false h)
  done_ends (_ ∷ s) h = absurd h

  pub have_ends : (s : List Form) (p : Place) (t : Bool) → Holds s → CanEnd (controls.Have p t) s
  have_ends [] p t h = absurd h
  have_ends (forms.New ∷ s) p t h = open_paren (controls.Have p t) controls.ArgumentOrEnd (forms.New ∷ s) (forms.Arguments p ∷ s) refl
      (close_paren controls.ArgumentOrEnd (controls.Have p false) (forms.Arguments p ∷ s) s refl (have_ends s p false h))
  have_ends (forms.Paren q ∷ s) p t h = dotted p t (forms.Paren q ∷ s) (by_place p (λ z. CanEnd (controls.Have z true) (forms.Paren q ∷ s))
      (close_paren (controls.Have places.Whole true) (controls.Have q true) (forms.Paren q ∷ s) s refl (have_ends s q true h))
      (close_paren (controls.Have places.First true) (controls.Have q false) (forms.Paren q ∷ s) s refl (have_ends s q false h))
      (close_paren (controls.Have places.Later true) (controls.Have q false) (forms.Paren q ∷ s) s refl (have_ends s q false h))
      (close_paren (controls.Have places.Update true) (controls.Have q false) (forms.Paren q ∷ s) s refl (have_ends s q false h)))
  have_ends (forms.Index q ∷ s) p t h = dotted p t (forms.Index q ∷ s) (before (tokens.Sign signs.CloseBracket) (controls.Have p true) (controls.Have q true) (forms.Index q ∷ s) s refl (have_ends s q true h))
  have_ends (forms.Arguments q ∷ s) p t h = dotted p t (forms.Arguments q ∷ s)
      (closes p (forms.Arguments q) (controls.Have q false) s s (λ z. by_place z (λ y. step classes.CloseParen true (forms.Arguments q ∷ s) (controls.Have y true) ≡ Some (state (controls.Have q false) s)) refl refl refl refl) (have_ends s q false h))
  have_ends (forms.Array q ∷ s) p t h = dotted p t (forms.Array q ∷ s) (before (tokens.Sign signs.CloseBracket) (controls.Have p true) (controls.Have q false) (forms.Array q ∷ s) s refl (have_ends s q false h))
  have_ends (forms.Object q ∷ s) p t h = dotted p t (forms.Object q ∷ s) (close_brace (controls.Have p true) (controls.Have q false) (forms.Object q ∷ s) s refl (have_ends s q false h))
  have_ends (forms.Cond ∷ s) p t h = dotted p t (forms.Cond ∷ s) (colon (controls.Have p true) (controls.Want places.First) (forms.Cond ∷ s) s refl
      (word (controls.Want places.First) (controls.Have places.First true) s s refl (have_ends s places.First true h)))
  have_ends (forms.Value ∷ s) p t h = dotted p t (forms.Value ∷ s) (semicolon (controls.Have p true) controls.Done (forms.Value ∷ s) s refl (done_ends s h))
  have_ends (forms.Var ∷ s) p t h = dotted p t (forms.Var ∷ s) (semicolon (controls.Have p true) controls.Done (forms.Var ∷ s) s refl (done_ends s h))
  have_ends (forms.ForVar ∷ s) p t h = dotted p t (forms.ForVar ∷ s) (semicolon (controls.Have p true) controls.Test (forms.ForVar ∷ s) (forms.ForTest ∷ s) refl (test_header s (done_ends s h)))
  have_ends (forms.ForInit ∷ s) p t h = dotted p t (forms.ForInit ∷ s) (semicolon (controls.Have p true) controls.Test (forms.ForInit ∷ s) (forms.ForTest ∷ s) refl (test_header s (done_ends s h)))
  have_ends (forms.ForTest ∷ s) p t h = dotted p t (forms.ForTest ∷ s) (semicolon (controls.Have p true) controls.Update (forms.ForTest ∷ s) (forms.Header ∷ s) refl (header s (done_ends s h)))
  have_ends (forms.Header ∷ s) p t h = dotted p t (forms.Header ∷ s)
      (closes p forms.Header controls.Body s s (λ z. by_place z (λ y. step classes.CloseParen true (forms.Header ∷ s) (controls.Have y true) ≡ Some (state controls.Body s)) refl refl refl refl) (empty s (done_ends s h)))
  have_ends (forms.If ∷ s) p t h = dotted p t (forms.If ∷ s)
      (closes p forms.If controls.Body s (forms.Then ∷ s) (λ z. by_place z (λ y. step classes.CloseParen true (forms.If ∷ s) (controls.Have y true) ≡ Some (state controls.Body (forms.Then ∷ s))) refl refl refl refl)
      (empty (forms.Then ∷ s) (with_else s (done_ends s h))))
  have_ends (forms.Switch ∷ s) p t h = dotted p t (forms.Switch ∷ s)
      (closes p forms.Switch controls.SwitchBrace s (forms.Clauses ∷ s) (λ z. by_place z (λ y. step classes.CloseParen true (forms.Switch ∷ s) (controls.Have y true) ≡ Some (state controls.SwitchBrace (forms.Clauses ∷ s))) refl refl refl refl)
      (no_clauses s (done_ends s h)))
  have_ends (forms.DoWhile ∷ s) p t h = dotted p t (forms.DoWhile ∷ s)
      (closes p forms.DoWhile controls.Complete s s (λ z. by_place z (λ y. step classes.CloseParen true (forms.DoWhile ∷ s) (controls.Have y true) ≡ Some (state controls.Complete s)) refl refl refl refl)
      (semicolon controls.Complete controls.Done s s refl (done_ends s h)))
  have_ends (forms.Within ∷ s) p t h = dotted p t (forms.Within ∷ s) (open_brace (controls.Have p true) controls.List (forms.Within ∷ s) (forms.Block ∷ s) refl (close_brace controls.List controls.Done (forms.Block ∷ s) s refl (done_ends s h)))
  have_ends (forms.CaseHead ∷ s) p t h = dotted p t (forms.CaseHead ∷ s) (colon (controls.Have p true) controls.List (forms.CaseHead ∷ s) s refl (semicolon controls.List controls.Done s s refl (done_ends s (clausal_stmts s h))))
  have_ends (_ ∷ s) p t h = absurd h

-- an operator behind an operand
operator : (s : List Form) → Holds s → (r : List Form) × Holds r × (step classes.Sum true s controls.Behind ≡ Some (state (controls.Want places.Later) r))
operator [] h = absurd h
operator (forms.New ∷ s) h = operator s h
operator (f ∷ s) h = (f ∷ s, h, refl)

want_ends : (p : Place) (s : List Form) → Holds s → CanEnd (controls.Want p) s
want_ends p s h = word (controls.Want p) (controls.Have p true) s s refl (have_ends s p true h)

behind_ends : (s : List Form) → Holds s → CanEnd controls.Behind s
behind_ends s h = let w = operator s h in before (tokens.Sign signs.Plus) controls.Behind (controls.Want places.Later) s w.0 w.2 (want_ends places.Later w.0 w.1)

body_ends : (s : List Form) → OnBody s → CanEnd controls.List s
body_ends [] h = absurd h
body_ends (forms.Function p ∷ s) h = close_brace controls.List (controls.Have p false) (forms.Function p ∷ s) s refl (have_ends s p false h)
body_ends (forms.Declaration ∷ s) h = semicolon controls.List controls.Done (forms.Declaration ∷ s) (forms.Declaration ∷ s) refl (done_ends (forms.Declaration ∷ s) h)
body_ends (_ ∷ s) h = absurd h

brace_ends : (s : List Form) → CanEnd controls.List s → CanEnd controls.Brace s
brace_ends s w = open_brace controls.Brace controls.List s s refl w

brace_stmts : (s : List Form) → OnBrace s → Stmts s
brace_stmts [] h = absurd h
brace_stmts (forms.Block ∷ s) h = h
brace_stmts (forms.TryBlock ∷ s) h = h
brace_stmts (forms.CatchBlock ∷ s) h = h
brace_stmts (forms.Function p ∷ s) h = h
brace_stmts (forms.Declaration ∷ s) h = h
brace_stmts (_ ∷ s) h = absurd h

list_ends : (s : List Form) → Stmts s → CanEnd controls.List s
list_ends s h = semicolon controls.List controls.Done s s refl (done_ends s h)

behind_formal : (s : List Form) → OnBody s → CanEnd controls.FormalBehind s
behind_formal s h = close_paren controls.FormalBehind controls.Brace s s refl (brace_ends s (body_ends s h))

formals_end : (s : List Form) → OnBody s → CanEnd controls.Formals s
formals_end s h = open_paren controls.Formals controls.FormalOrEnd s s refl (close_paren controls.FormalOrEnd controls.Brace s s refl (brace_ends s (body_ends s h)))

pub function_body : (s : List Form) → OnFunction s → OnBody s
function_body [] h = absurd h
function_body (forms.Function p ∷ s) h = h
function_body (_ ∷ s) h = absurd h

pub declaration_body : (s : List Form) → OnDeclaration s → OnBody s
declaration_body [] h = absurd h
declaration_body (forms.Declaration ∷ s) h = h
declaration_body (_ ∷ s) h = absurd h

pub condition_holds : (s : List Form) → OnCondition s → Holds s
condition_holds [] h = absurd h
condition_holds (forms.If ∷ s) h = h
condition_holds (forms.Header ∷ s) h = h
condition_holds (forms.Switch ∷ s) h = h
condition_holds (forms.DoWhile ∷ s) h = h
condition_holds (_ ∷ s) h = absurd h

named_ends : (s : List Form) → OnVariables s → CanEnd controls.Named s
named_ends [] h = absurd h
named_ends (forms.Var ∷ s) h = semicolon controls.Named controls.Done (forms.Var ∷ s) s refl (done_ends s h)
named_ends (forms.ForVar ∷ s) h = semicolon controls.Named controls.Test (forms.ForVar ∷ s) (forms.ForTest ∷ s) refl (test_header s (done_ends s h))
named_ends (_ ∷ s) h = absurd h

arguments_end : (s : List Form) → OnArguments s → CanEnd controls.ArgumentOrEnd s
arguments_end [] h = absurd h
arguments_end (forms.Arguments p ∷ s) h = close_paren controls.ArgumentOrEnd (controls.Have p false) (forms.Arguments p ∷ s) s refl (have_ends s p false h)
arguments_end (_ ∷ s) h = absurd h

items_end : (s : List Form) → OnArray s → CanEnd controls.Item s
items_end [] h = absurd h
items_end (forms.Array p ∷ s) h = before (tokens.Sign signs.CloseBracket) controls.Item (controls.Have p false) (forms.Array p ∷ s) s refl (have_ends s p false h)
items_end (_ ∷ s) h = absurd h

keys_end : (s : List Form) → OnObject s → CanEnd controls.KeyOrEnd s
keys_end [] h = absurd h
keys_end (forms.Object p ∷ s) h = close_brace controls.KeyOrEnd (controls.Have p false) (forms.Object p ∷ s) s refl (have_ends s p false h)
keys_end (_ ∷ s) h = absurd h

colon_ends : (s : List Form) → OnObject s → CanEnd controls.KeyColon s
colon_ends [] h = absurd h
colon_ends (forms.Object p ∷ s) h = colon controls.KeyColon (controls.Want places.First) (forms.Object p ∷ s) (forms.Object p ∷ s) refl (want_ends places.First (forms.Object p ∷ s) h)
colon_ends (_ ∷ s) h = absurd h

label_ends : (s : List Form) → OnValue s → CanEnd controls.NameOrLabel s
label_ends [] h = absurd h
label_ends (forms.Value ∷ s) h = semicolon controls.NameOrLabel controls.Done (forms.Value ∷ s) s refl (done_ends s h)
label_ends (_ ∷ s) h = absurd h

for_named_ends : (s : List Form) → OnForVar s → CanEnd controls.ForNamed s
for_named_ends [] h = absurd h
for_named_ends (forms.ForVar ∷ s) h = semicolon controls.ForNamed controls.Test (forms.ForVar ∷ s) (forms.ForTest ∷ s) refl (test_header s (done_ends s h))
for_named_ends (_ ∷ s) h = absurd h

test_ends : (s : List Form) → OnTest s → CanEnd controls.Test s
test_ends [] h = absurd h
test_ends (forms.ForTest ∷ s) h = test_header s (done_ends s h)
test_ends (_ ∷ s) h = absurd h

update_ends : (s : List Form) → OnUpdate s → CanEnd controls.Update s
update_ends [] h = absurd h
update_ends (forms.Header ∷ s) h = header s (done_ends s h)
update_ends (_ ∷ s) h = absurd h

clauses_end : (s : List Form) → Clausal s → CanEnd controls.ClauseOrEnd s
clauses_end [] h = absurd h
clauses_end (forms.Clauses ∷ s) h = close_brace controls.ClauseOrEnd controls.Done (forms.Clauses ∷ s) s refl (done_ends s h)
clauses_end (_ ∷ s) h = absurd h

init_ends : (s : List Form) → Stmts s → CanEnd controls.Init s
init_ends s h = semicolon controls.Init controls.Test s (forms.ForTest ∷ s) refl (test_header s (done_ends s h))

catch_close_ends : (s : List Form) → Stmts s → CanEnd controls.CatchClose s
catch_close_ends s h = close_paren controls.CatchClose controls.Brace s (forms.CatchBlock ∷ s) refl (brace_ends (forms.CatchBlock ∷ s) (list_ends (forms.CatchBlock ∷ s) h))

catch_name_ends : (s : List Form) → Stmts s → CanEnd controls.CatchName s
catch_name_ends s h = word controls.CatchName controls.CatchClose s s refl (catch_close_ends s h)

value_ends : (s : List Form) → Stmts s → CanEnd controls.JoinedValue s
value_ends s h = word controls.JoinedValue (controls.Have places.Whole true) s (forms.Value ∷ s) refl (have_ends (forms.Value ∷ s) places.Whole true h)

pub completes : (c : Control) (s : List Form) → Fits c s → CanEnd c s
completes (controls.Want p) s h = want_ends p s h
completes (controls.Have p t) s h = have_ends s p t h
completes controls.Behind s h = behind_ends s h
completes (controls.Dot p) s h = word (controls.Dot p) (controls.Have p true) s s refl (have_ends s p true h)
completes controls.ArgumentOrEnd s h = arguments_end s h
completes controls.Item s h = items_end s h
completes controls.KeyOrEnd s h = keys_end s h
completes controls.KeyColon s h = colon_ends s h
completes controls.NameOrFormals s h = word controls.NameOrFormals controls.Formals s s refl (formals_end s (function_body s h))
completes controls.DeclaredName s h = word controls.DeclaredName controls.Formals s s refl (formals_end s (declaration_body s h))
completes controls.Formals s h = formals_end s h
completes controls.FormalOrEnd s h = word controls.FormalOrEnd controls.FormalBehind s s refl (behind_formal s h)
completes controls.FormalBehind s h = behind_formal s h
completes controls.Formal s h = word controls.Formal controls.FormalBehind s s refl (behind_formal s h)
completes controls.Brace s h = brace_ends s (list_ends s (brace_stmts s h))
completes controls.List s h = list_ends s (lists_stmts s h)
completes controls.Body s h = empty s (done_ends s h)
completes controls.Done s h = done_ends s h
completes controls.Complete s h = semicolon controls.Complete controls.Done s s refl (done_ends s h)
completes controls.NameOrLabel s h = label_ends s h
completes controls.Open s h = open_paren controls.Open (controls.Want places.Whole) s s refl (want_ends places.Whole s (condition_holds s h))
completes controls.Name s h = word controls.Name controls.Named s s refl (named_ends s h)
completes controls.Named s h = named_ends s h
completes controls.ForOpen s h = open_paren controls.ForOpen controls.Init s s refl (init_ends s h)
completes controls.Init s h = init_ends s h
completes controls.ForName s h = word controls.ForName controls.ForNamed s s refl (for_named_ends s h)
completes controls.ForNamed s h = for_named_ends s h
completes controls.Test s h = test_ends s h
completes controls.Update s h = update_ends s h
completes controls.LabelOrEnd s h = semicolon controls.LabelOrEnd controls.Done s s refl (done_ends s h)
completes controls.ValueOrEnd s h = semicolon controls.ValueOrEnd controls.Done s s refl (done_ends s h)
completes controls.JoinedValue s h = value_ends s h
completes controls.CatchOrFinally s h = finally controls.CatchOrFinally s refl (done_ends s h)
completes controls.CatchOpen s h = open_paren controls.CatchOpen controls.CatchName s s refl (catch_name_ends s h)
completes controls.CatchName s h = catch_name_ends s h
completes controls.CatchClose s h = catch_close_ends s h
completes controls.FinallyOrDone s h = finally controls.FinallyOrDone s refl (done_ends s h)
completes controls.SwitchBrace s h = open_brace controls.SwitchBrace controls.ClauseOrEnd s s refl (clauses_end s h)
completes controls.ClauseOrEnd s h = clauses_end s h
completes controls.DefaultColon s h = colon controls.DefaultColon controls.List s s refl (list_ends s (clausal_stmts s h))
completes controls.Accepted s h = absurd h
