-- Which forms may be open, and what may come next within them.
use Rattle.std.proofs.Common.{◌≡◌, Bool, true, false, List, [], ◌∷◌, Option, Some, None, refl, sym, ap, ◌∙◌, subst}
use Rattle.wjs_forms.specs.declared.class.Class.{Class}
use Rattle.wjs_forms.specs.declared.class.Class.TheVariants as classes
use Rattle.wjs_forms.specs.declared.forms.Place.{Place}
use Rattle.wjs_forms.specs.declared.forms.Place.TheVariants as places
use Rattle.wjs_forms.specs.declared.forms.Form.{Form}
use Rattle.wjs_forms.specs.declared.forms.Form.TheVariants as forms
use Rattle.wjs_forms.specs.declared.forms.Control.{Control}
use Rattle.wjs_forms.specs.declared.forms.Control.TheVariants as controls
use Rattle.wjs_forms.specs.States.{State}

abbrev mutual
  -- a statement may end, or a list of them stand, in the innermost form
  pub Stmts : List Form → Type 0
  Stmts [] = Unit {0}
  Stmts (forms.Block ∷ s) = Stmts s
  Stmts (forms.TryBlock ∷ s) = Stmts s
  Stmts (forms.CatchBlock ∷ s) = Stmts s
  Stmts (forms.Clauses ∷ s) = Stmts s
  Stmts (forms.Then ∷ s) = Stmts s
  Stmts (forms.Do ∷ s) = Stmts s
  Stmts (forms.Declaration ∷ s) = Elems s
  Stmts (forms.Function p ∷ s) = Holds s
  Stmts _ = ⊥

  -- elements may stand in it
  pub Elems : List Form → Type 0
  Elems [] = Unit {0}
  Elems (forms.Declaration ∷ s) = Elems s
  Elems (forms.Function p ∷ s) = Holds s
  Elems _ = ⊥

  -- it holds an expression
  pub Holds : List Form → Type 0
  Holds (forms.New ∷ s) = Holds s
  Holds (forms.Paren p ∷ s) = Holds s
  Holds (forms.Index p ∷ s) = Holds s
  Holds (forms.Arguments p ∷ s) = Holds s
  Holds (forms.Array p ∷ s) = Holds s
  Holds (forms.Object p ∷ s) = Holds s
  Holds (forms.Cond ∷ s) = Holds s
  Holds (forms.Value ∷ s) = Stmts s
  Holds (forms.Var ∷ s) = Stmts s
  Holds (forms.ForVar ∷ s) = Stmts s
  Holds (forms.ForInit ∷ s) = Stmts s
  Holds (forms.ForTest ∷ s) = Stmts s
  Holds (forms.Header ∷ s) = Stmts s
  Holds (forms.If ∷ s) = Stmts s
  Holds (forms.Switch ∷ s) = Stmts s
  Holds (forms.DoWhile ∷ s) = Stmts s
  Holds (forms.Within ∷ s) = Stmts s
  Holds (forms.CaseHead ∷ s) = Clausal s
  Holds _ = ⊥

  -- it has the clauses of a `switch`
  pub Clausal : List Form → Type 0
  Clausal (forms.Clauses ∷ s) = Stmts s
  Clausal _ = ⊥

-- a list stands in it
abbrev pub Lists : List Form → Type 0
Lists (forms.Then ∷ s) = ⊥
Lists (forms.Do ∷ s) = ⊥
Lists s = Stmts s

abbrev pub OnArguments : List Form → Type 0
OnArguments (forms.Arguments p ∷ s) = Holds s
OnArguments _ = ⊥

abbrev pub OnArray : List Form → Type 0
OnArray (forms.Array p ∷ s) = Holds s
OnArray _ = ⊥

abbrev pub OnObject : List Form → Type 0
OnObject (forms.Object p ∷ s) = Holds s
OnObject _ = ⊥

abbrev pub OnFunction : List Form → Type 0
OnFunction (forms.Function p ∷ s) = Holds s
OnFunction _ = ⊥

abbrev pub OnDeclaration : List Form → Type 0
OnDeclaration (forms.Declaration ∷ s) = Elems s
OnDeclaration _ = ⊥

-- a function, declared or not
abbrev pub OnBody : List Form → Type 0
OnBody (forms.Function p ∷ s) = Holds s
OnBody (forms.Declaration ∷ s) = Elems s
OnBody _ = ⊥

-- what a brace opens
abbrev pub OnBrace : List Form → Type 0
OnBrace (forms.Block ∷ s) = Stmts s
OnBrace (forms.TryBlock ∷ s) = Stmts s
OnBrace (forms.CatchBlock ∷ s) = Stmts s
OnBrace (forms.Function p ∷ s) = Holds s
OnBrace (forms.Declaration ∷ s) = Elems s
OnBrace _ = ⊥

abbrev pub OnValue : List Form → Type 0
OnValue (forms.Value ∷ s) = Stmts s
OnValue _ = ⊥

-- a condition in parentheses
abbrev pub OnCondition : List Form → Type 0
OnCondition (forms.If ∷ s) = Stmts s
OnCondition (forms.Header ∷ s) = Stmts s
OnCondition (forms.Switch ∷ s) = Stmts s
OnCondition (forms.DoWhile ∷ s) = Stmts s
OnCondition _ = ⊥

abbrev pub OnVariables : List Form → Type 0
OnVariables (forms.Var ∷ s) = Stmts s
OnVariables (forms.ForVar ∷ s) = Stmts s
OnVariables _ = ⊥

abbrev pub OnForVar : List Form → Type 0
OnForVar (forms.ForVar ∷ s) = Stmts s
OnForVar _ = ⊥

abbrev pub OnTest : List Form → Type 0
OnTest (forms.ForTest ∷ s) = Stmts s
OnTest _ = ⊥

abbrev pub OnUpdate : List Form → Type 0
OnUpdate (forms.Header ∷ s) = Stmts s
OnUpdate _ = ⊥

-- what is to come next fits the forms; behind the end nothing comes
abbrev pub Fits : Control → List Form → Type 0
Fits (controls.Want p) s = Holds s
Fits (controls.Have p t) s = Holds s
Fits controls.Behind s = Holds s
Fits (controls.Dot p) s = Holds s
Fits controls.ArgumentOrEnd s = OnArguments s
Fits controls.Item s = OnArray s
Fits controls.KeyOrEnd s = OnObject s
Fits controls.KeyColon s = OnObject s
Fits controls.NameOrFormals s = OnFunction s
Fits controls.DeclaredName s = OnDeclaration s
Fits controls.Formals s = OnBody s
Fits controls.FormalOrEnd s = OnBody s
Fits controls.FormalBehind s = OnBody s
Fits controls.Formal s = OnBody s
Fits controls.Brace s = OnBrace s
Fits controls.List s = Lists s
Fits controls.NameOrLabel s = OnValue s
Fits controls.Open s = OnCondition s
Fits controls.Name s = OnVariables s
Fits controls.Named s = OnVariables s
Fits controls.ForName s = OnForVar s
Fits controls.ForNamed s = OnForVar s
Fits controls.Test s = OnTest s
Fits controls.Update s = OnUpdate s
Fits controls.SwitchBrace s = Clausal s
Fits controls.ClauseOrEnd s = Clausal s
Fits controls.DefaultColon s = Clausal s
Fits controls.Accepted s = ⊥
Fits _ s = Stmts s

abbrev pub FitsIn : State → Type 0
FitsIn r = Fits r.control r.forms

pub elems_stmts : (s : List Form) → Elems s → Stmts s
elems_stmts [] h = tt
elems_stmts (forms.Declaration ∷ s) h = h
elems_stmts (forms.Function p ∷ s) h = h
elems_stmts (_ ∷ s) h = absurd h

pub elems_lists : (s : List Form) → Elems s → Lists s
elems_lists [] h = tt
elems_lists (forms.Declaration ∷ s) h = h
elems_lists (forms.Function p ∷ s) h = h
elems_lists (_ ∷ s) h = absurd h

pub clausal_stmts : (s : List Form) → Clausal s → Stmts s
clausal_stmts [] h = absurd h
clausal_stmts (forms.Clauses ∷ s) h = h
clausal_stmts (_ ∷ s) h = absurd h

pub clausal_lists : (s : List Form) → Clausal s → Lists s
clausal_lists [] h = absurd h
clausal_lists (forms.Clauses ∷ s) h = h
clausal_lists (_ ∷ s) h = absurd h

pub lists_stmts : (s : List Form) → Lists s → Stmts s
lists_stmts [] h = tt
lists_stmts (forms.Then ∷ s) h = absurd h
lists_stmts (forms.Do ∷ s) h = absurd h
lists_stmts (_ ∷ s) h = h
