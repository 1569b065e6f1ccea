-- What begins a part does the same where the part may also be missing, or is one of several.
use Rattle.std.proofs.Common.{◌≡◌, ℕ, ◌+◌, ◌⊎◌, inl, inr, Bool, true, false, List, [], ◌∷◌, Option, Some, None, refl, sym, ap, ◌∙◌, subst}
use Rattle.wjs_base.proofs.Options.{none_there}
use Rattle.wjs_tree.specs.declared.tokens.Tok.{Tok}
use Rattle.wjs_tree.specs.declared.tokens.Token.{Token}
use Rattle.wjs_tree.specs.declared.tokens.Token.TheVariants as tokens
use Rattle.wjs_tree.specs.declared.operators.PrefixOperator.{PrefixOperator}
use Rattle.wjs_tree.specs.declared.operators.PrefixOperator.TheVariants as prefixes
use Rattle.wjs_tree.specs.declared.signs.Sign.TheVariants as signs
use Rattle.wjs_tree.specs.declared.keys.Key.TheVariants as keys
use Rattle.wjs_tree.specs.Operators.{prefix_token}
use Rattle.wjs_tree.specs.Trees.{Expr, Name, Number, Text, This, ThisWorld, Null, Boolean, Paren, ArrayLit, ObjectLit, Function, Dot, At, Call, NewWith, NewBare, Postfix, Prefix, Binary, Cond, Assign, Comma}
use Rattle.wjs_tree.specs.Levels.{starts_with_brace}
use Rattle.wjs_tree.specs.Ends.{token_at, HasToken}
use Rattle.wjs_tree.specs.Spelling.{Stands}
use Rattle.wjs_forms.specs.declared.class.Class.{Class}
use Rattle.wjs_forms.specs.declared.class.Class.TheVariants as classes
use Rattle.wjs_forms.specs.declared.forms.Place.{Place}
use Rattle.wjs_forms.specs.declared.forms.Place.TheVariants as places
use Rattle.wjs_forms.specs.declared.forms.Form.{Form}
use Rattle.wjs_forms.specs.declared.forms.Form.TheVariants as forms
use Rattle.wjs_forms.specs.declared.forms.Control.TheVariants as controls
use Rattle.wjs_forms.specs.Classes.{class_of, class_at}
use Rattle.wjs_forms.specs.States.{State, state, step, step_at, Runs, halts, goes}
use Rattle.wjs_forms.proofs.Runs.{class_here, joined_here, lift, lift_here, step_on, no_step}

-- a list of statements or elements is open innermost
abbrev pub holds_list : List Form → Bool
holds_list [] = true
holds_list (forms.Block ∷ rest) = true
holds_list (forms.TryBlock ∷ rest) = true
holds_list (forms.CatchBlock ∷ rest) = true
holds_list (forms.Clauses ∷ rest) = true
holds_list (forms.Declaration ∷ rest) = true
holds_list (forms.Function p ∷ rest) = true
holds_list _ = false

-- a list of elements is
abbrev pub holds_elements : List Form → Bool
holds_elements [] = true
holds_elements (forms.Declaration ∷ rest) = true
holds_elements (forms.Function p ∷ rest) = true
holds_elements _ = false

pub elements_list : (s : List Form) → holds_elements s ≡ true → holds_list s ≡ true
elements_list [] h = refl
elements_list (forms.Declaration ∷ rest) h = refl
elements_list (forms.Function p ∷ rest) h = refl
elements_list (f ∷ rest) h = cc

item_step : (k : Class) (j : Bool) (p : Place) (s : List Form) (r : State) → step k j (forms.Array p ∷ s) (controls.Want places.First) ≡ Some r → step k j (forms.Array p ∷ s) controls.Item ≡ Some r
item_step classes.CloseBracket j p s r h = cc
item_step classes.Comma j p s r h = cc
item_step _ j p s r h = h

pub item_runs : (toks : List Tok) (i : ℕ) (p : Place) (s : List Form) → Runs toks i (state (controls.Want places.First) (forms.Array p ∷ s)) → Runs toks i (state controls.Item (forms.Array p ∷ s))
item_runs toks i p s run = lift toks i _ _ (λ k j r h. item_step k j p s r h) run

argument_step : (k : Class) (j : Bool) (p : Place) (s : List Form) (r : State) → step k j (forms.Arguments p ∷ s) (controls.Want places.First) ≡ Some r → step k j (forms.Arguments p ∷ s) controls.ArgumentOrEnd ≡ Some r
argument_step classes.CloseParen j p s r h = cc
argument_step _ j p s r h = h

pub argument_runs : (toks : List Tok) (i : ℕ) (p : Place) (s : List Form) → Runs toks i (state (controls.Want places.First) (forms.Arguments p ∷ s)) → Runs toks i (state controls.ArgumentOrEnd (forms.Arguments p ∷ s))
argument_runs toks i p s run = lift toks i _ _ (λ k j r h. argument_step k j p s r h) run

test_step : (k : Class) (j : Bool) (s : List Form) (r : State) → step k j (forms.ForTest ∷ s) (controls.Want places.Whole) ≡ Some r → step k j (forms.ForTest ∷ s) controls.Test ≡ Some r
test_step classes.Semicolon j s r h = cc
test_step _ j s r h = h

pub test_runs : (toks : List Tok) (i : ℕ) (s : List Form) → Runs toks i (state (controls.Want places.Whole) (forms.ForTest ∷ s)) → Runs toks i (state controls.Test (forms.ForTest ∷ s))
test_runs toks i s run = lift toks i _ _ (λ k j r h. test_step k j s r h) run

update_step : (k : Class) (j : Bool) (s : List Form) (r : State) → step k j (forms.Header ∷ s) (controls.Want places.Whole) ≡ Some r → step k j (forms.Header ∷ s) controls.Update ≡ Some r
update_step classes.CloseParen j s r h = cc
update_step _ j s r h = h

pub update_runs : (toks : List Tok) (i : ℕ) (s : List Form) → Runs toks i (state (controls.Want places.Whole) (forms.Header ∷ s)) → Runs toks i (state controls.Update (forms.Header ∷ s))
update_runs toks i s run = lift toks i _ _ (λ k j r h. update_step k j s r h) run

init_step : (k : Class) (j : Bool) (s : List Form) (r : State) → step k j (forms.ForInit ∷ s) (controls.Want places.Whole) ≡ Some r → step k j s controls.Init ≡ Some r
init_step classes.Semicolon j s r h = cc
init_step classes.Var j s r h = cc
init_step _ j s r h = h

pub init_runs : (toks : List Tok) (i : ℕ) (s : List Form) → Runs toks i (state (controls.Want places.Whole) (forms.ForInit ∷ s)) → Runs toks i (state controls.Init s)
init_runs toks i s run = lift toks i _ _ (λ k j r h. init_step k j s r h) run

for_named_step : (k : Class) (j : Bool) (s : List Form) (r : State) → step k j (forms.ForVar ∷ s) controls.Named ≡ Some r → step k j (forms.ForVar ∷ s) controls.ForNamed ≡ Some r
for_named_step classes.In j s r h = cc
for_named_step _ j s r h = h

pub for_named_runs : (toks : List Tok) (i : ℕ) (s : List Form) → Runs toks i (state controls.Named (forms.ForVar ∷ s)) → Runs toks i (state controls.ForNamed (forms.ForVar ∷ s))
for_named_runs toks i s run = lift toks i _ _ (λ k j r h. for_named_step k j s r h) run

body_step : (k : Class) (j : Bool) (s : List Form) (r : State) → step k j s controls.Body ≡ Some r → step k j s controls.List ≡ Some r
body_step classes.End j s r h = cc
body_step classes.CloseBrace j s r h = cc
body_step classes.Case j s r h = cc
body_step classes.Default j s r h = cc
body_step classes.Function j s r h = cc
body_step _ j s r h = h

-- a statement in a list
pub body_runs : (toks : List Tok) (i : ℕ) (s : List Form) → Runs toks i (state controls.Body s) → Runs toks i (state controls.List s)
body_runs toks i s run = lift toks i _ _ (λ k j r h. body_step k j s r h) run

list_step : (k : Class) (j : Bool) (s : List Form) (r : State) → holds_list s ≡ true → step k j s controls.List ≡ Some r → step k j s controls.Done ≡ Some r
list_step k j [] r l h = h
list_step k j (forms.Then ∷ rest) r l h = cc
list_step k j (forms.Do ∷ rest) r l h = cc
list_step k j (f ∷ rest) r l h = h

-- behind a statement in a list
pub list_runs : (toks : List Tok) (i : ℕ) (s : List Form) → holds_list s ≡ true → Runs toks i (state controls.List s) → Runs toks i (state controls.Done s)
list_runs toks i s l run = lift toks i _ _ (λ k j r h. list_step k j s r l h) run

-- no `else` stands in a list
pub list_else : (toks : List Tok) (i : ℕ) (s : List Form) → Runs toks i (state controls.List s) → class_here toks i ≡ classes.Else → ⊥
list_else toks i s run = no_step toks i (state controls.List s) classes.Else (λ j. refl) run

no_colon : (s : List Form) (j : Bool) → step classes.Colon j s controls.Done ≡ None
no_colon [] j = refl
no_colon (forms.Then ∷ rest) j = no_colon rest j
no_colon (f ∷ rest) j = refl

no_finally : (s : List Form) (j : Bool) → step classes.Finally j s controls.Done ≡ None
no_finally [] j = refl
no_finally (forms.Then ∷ rest) j = no_finally rest j
no_finally (f ∷ rest) j = refl

label_step : (k : Class) (j : Bool) (s : List Form) (r : State) → step k j (forms.Value ∷ s) (controls.Have places.Whole true) ≡ Some r → step k j (forms.Value ∷ s) controls.NameOrLabel ≡ Some r
label_step classes.Colon true s r h = cc
label_step classes.Colon false s r h = absurd (none_there _ r (no_colon s false) h)
label_step _ j s r h = h

-- behind a name that begins an expression
label_runs : (toks : List Tok) (i : ℕ) (s : List Form) → Runs toks i (state (controls.Have places.Whole true) (forms.Value ∷ s)) → Runs toks i (state controls.NameOrLabel (forms.Value ∷ s))
label_runs toks i s run = lift toks i _ _ (λ k j r h. label_step k j s r h) run

then_step : (k : Class) (j : Bool) (s : List Form) (r : State) → (k ≡ classes.Else → ⊥) → step k j s controls.Done ≡ Some r → step k j (forms.Then ∷ s) controls.Done ≡ Some r
then_step classes.Else j s r bar h = absurd (bar refl)
then_step _ j s r bar h = h

-- behind an `if` that gets no `else`
pub then_runs : (toks : List Tok) (i : ℕ) (s : List Form) → (class_here toks i ≡ classes.Else → ⊥) → Runs toks i (state controls.Done s) → Runs toks i (state controls.Done (forms.Then ∷ s))
then_runs toks i s bar run = lift_here toks i (state controls.Done s) (state controls.Done (forms.Then ∷ s)) (λ r h. then_step (class_here toks i) (joined_here toks i) s r bar h) run

finally_step : (k : Class) (j : Bool) (s : List Form) (r : State) → step k j s controls.Done ≡ Some r → step k j s controls.FinallyOrDone ≡ Some r
finally_step classes.Finally j s r h = absurd (none_there _ r (no_finally s j) h)
finally_step _ j s r h = h

pub finally_runs : (toks : List Tok) (i : ℕ) (s : List Form) → Runs toks i (state controls.Done s) → Runs toks i (state controls.FinallyOrDone s)
finally_runs toks i s run = lift toks i _ _ (λ k j r h. finally_step k j s r h) run

jump_step : (k : Class) (j : Bool) (s : List Form) (r : State) → step k j s controls.Complete ≡ Some r → step k j s controls.LabelOrEnd ≡ Some r
jump_step classes.Word true s r h = cc
jump_step classes.Word false s r h = h
jump_step _ j s r h = h

-- a jump without label
pub jump_runs : (toks : List Tok) (i : ℕ) (s : List Form) → Runs toks i (state controls.Complete s) → Runs toks i (state controls.LabelOrEnd s)
jump_runs toks i s run = lift toks i _ _ (λ k j r h. jump_step k j s r h) run

return_step : (k : Class) (j : Bool) (s : List Form) (r : State) → step k j s controls.Complete ≡ Some r → step k j s controls.ValueOrEnd ≡ Some r
return_step classes.Semicolon j s r h = h
return_step classes.CloseBrace j s r h = h
return_step classes.End j s r h = h
return_step _ true s r h = cc
return_step _ false s r h = h

-- a `return` without value
pub return_runs : (toks : List Tok) (i : ℕ) (s : List Form) → Runs toks i (state controls.Complete s) → Runs toks i (state controls.ValueOrEnd s)
return_runs toks i s run = lift toks i _ _ (λ k j r h. return_step k j s r h) run

value_step : (k : Class) (s : List Form) (r : State) → step k true (forms.Value ∷ s) (controls.Want places.Whole) ≡ Some r → step k true s controls.ValueOrEnd ≡ Some r
value_step classes.Semicolon s r h = cc
value_step classes.CloseBrace s r h = cc
value_step classes.End s r h = cc
value_step _ s r h = h

joined_step : (k : Class) (s : List Form) (r : State) → step k true (forms.Value ∷ s) (controls.Want places.Whole) ≡ Some r → step k true s controls.JoinedValue ≡ Some r
joined_step classes.Semicolon s r h = cc
joined_step _ s r h = h

at_joined : (k : Class) (j : Bool) (s t : State) (r : State) → j ≡ true → ((r : State) → step k true s.forms s.control ≡ Some r → step k true t.forms t.control ≡ Some r) → step k j s.forms s.control ≡ Some r → step k j t.forms t.control ≡ Some r
at_joined k true s t r e f h = f r h
at_joined k false s t r e f h = cc

-- the value of a `return`
pub value_runs : (toks : List Tok) (i : ℕ) (s : List Form) → joined_here toks i ≡ true → Runs toks i (state (controls.Want places.Whole) (forms.Value ∷ s)) → Runs toks i (state controls.ValueOrEnd s)
value_runs toks i s e run = lift_here toks i (state (controls.Want places.Whole) (forms.Value ∷ s)) (state controls.ValueOrEnd s) (λ r h. at_joined (class_here toks i) (joined_here toks i) (state (controls.Want places.Whole) (forms.Value ∷ s)) (state controls.ValueOrEnd s) r e (λ q w. value_step (class_here toks i) s q w) h) run

pub joined_runs : (toks : List Tok) (i : ℕ) (s : List Form) → joined_here toks i ≡ true → Runs toks i (state (controls.Want places.Whole) (forms.Value ∷ s)) → Runs toks i (state controls.JoinedValue s)
joined_runs toks i s e run = lift_here toks i (state (controls.Want places.Whole) (forms.Value ∷ s)) (state controls.JoinedValue s) (λ r h. at_joined (class_here toks i) (joined_here toks i) (state (controls.Want places.Whole) (forms.Value ∷ s)) (state controls.JoinedValue s) r e (λ q w. joined_step (class_here toks i) s q w) h) run

-- `{` and `function`
abbrev pub is_brace : Class → Bool
is_brace classes.OpenBrace = true
is_brace classes.Function = true
is_brace _ = false

pub prefix_brace : (op : PrefixOperator) → is_brace (class_of (prefix_token op)) ≡ false
prefix_brace prefixes.Delete = refl
prefix_brace _ = refl

first_is : (toks : List Tok) (i : ℕ) (token : Token) → HasToken toks i token → is_brace (class_of token) ≡ false → is_brace (class_here toks i) ≡ false
first_is toks i token h e = subst (λ (z : Option Token). is_brace (class_at z) ≡ false) (sym h) e

-- an expression that doesn't start with a brace
pub no_brace : (toks : List Tok) (e : Expr) (i n : ℕ) → Stands toks e i n → starts_with_brace e ≡ false → is_brace (class_here toks i) ≡ false
no_brace toks (Name x) i n h b = first_is toks i _ h.0 refl
no_brace toks (Number x) i n h b = first_is toks i _ h.0 refl
no_brace toks (Text x) i n h b = first_is toks i _ h.0 refl
no_brace toks This i n h b = first_is toks i _ h.0 refl
no_brace toks ThisWorld i n h b = first_is toks i _ h.0 refl
no_brace toks Null i n h b = first_is toks i _ h.0 refl
no_brace toks (Boolean true) i n h b = first_is toks i _ h.0 refl
no_brace toks (Boolean false) i n h b = first_is toks i _ h.0 refl
no_brace toks (Paren e) i n h b = first_is toks i _ h.1 refl
no_brace toks (ArrayLit e) i n h b = first_is toks i _ h.1 refl
no_brace toks (ObjectLit e) i n h b = cc
no_brace toks (Function x y z) i n h b = cc
no_brace toks (Dot e x) i n h b = no_brace toks e i h.0 h.1 b
no_brace toks (At e j) i n h b = no_brace toks e i h.0 h.2 b
no_brace toks (Call e xs) i n h b = no_brace toks e i h.0 h.2 b
no_brace toks (NewWith e xs) i n h b = first_is toks i _ h.2 refl
no_brace toks (NewBare e) i n h b = first_is toks i _ h.0 refl
no_brace toks (Postfix e op) i n h b = no_brace toks e i h.0 h.1 b
no_brace toks (Prefix op e) i n h b = first_is toks i _ h.0 (prefix_brace op)
no_brace toks (Binary l op r) i n h b = no_brace toks l i h.0 h.1 b
no_brace toks (Cond c l r) i n h b = no_brace toks c i h.0 h.2 b
no_brace toks (Assign l op r) i n h b = no_brace toks l i h.0 h.1 b
no_brace toks (Comma l r) i n h b = no_brace toks l i h.0 h.1 b

begin_step : (k : Class) (j : Bool) (s : List Form) (r : State) → is_brace k ≡ false → (k ≡ classes.Word → ⊥) → step k j (forms.Value ∷ s) (controls.Want places.Whole) ≡ Some r → step k j s controls.Body ≡ Some r
begin_step classes.OpenBrace j s r b w h = cc
begin_step classes.Function j s r b w h = cc
begin_step classes.Word j s r b w h = absurd (w refl)
begin_step classes.Semicolon j s r b w h = cc
begin_step classes.Var j s r b w h = cc
begin_step classes.If j s r b w h = cc
begin_step classes.Do j s r b w h = cc
begin_step classes.While j s r b w h = cc
begin_step classes.For j s r b w h = cc
begin_step classes.Continue j s r b w h = cc
begin_step classes.Break j s r b w h = cc
begin_step classes.Return j s r b w h = cc
begin_step classes.Throw j s r b w h = cc
begin_step classes.Switch j s r b w h = cc
begin_step classes.Try j s r b w h = cc
begin_step classes.In j s r b w h = cc
begin_step _ j s r b w h = h

word_step : (k : Class) (j : Bool) (s : List Form) (r : State) → k ≡ classes.Word → step k j (forms.Value ∷ s) (controls.Want places.Whole) ≡ Some r → r ≡ state (controls.Have places.Whole true) (forms.Value ∷ s)
word_step classes.Word j s r e h = cc
word_step _ j s r e h = cc

label_word : (k : Class) (j : Bool) (s : List Form) → k ≡ classes.Word → step k j s controls.Body ≡ Some (state controls.NameOrLabel (forms.Value ∷ s))
label_word classes.Word j s e = refl
label_word _ j s e = cc

-- whether a class is that of a name
word_or_not : (k : Class) → (k ≡ classes.Word) ⊎ (k ≡ classes.Word → ⊥)
word_or_not classes.Word = inl refl
word_or_not _ = inr (λ e. cc)

word_begins : (toks : List Tok) (i : ℕ) (s : List Form) (token : Token) (r : State) → is_brace (class_here toks i) ≡ false → HasToken toks i token → step_at toks i (state (controls.Want places.Whole) (forms.Value ∷ s)) ≡ Some r
    → Runs toks (i + 1) r → (class_here toks i ≡ classes.Word) ⊎ (class_here toks i ≡ classes.Word → ⊥) → Runs toks i (state controls.Body s)
word_begins toks i s token r b h e run (inl w) =
    goes token (state controls.NameOrLabel (forms.Value ∷ s)) h (label_word (class_here toks i) (joined_here toks i) s w)
    (label_runs toks (i + 1) s (subst (Runs toks (i + 1)) (word_step (class_here toks i) (joined_here toks i) s r w e) run))
word_begins toks i s token r b h e run (inr w) = goes token r h (begin_step (class_here toks i) (joined_here toks i) s r b w e) run

no_end : (toks : List Tok) (i : ℕ) (s : List Form) (r : State) → token_at toks i ≡ None → step_at toks i (state (controls.Want places.Whole) (forms.Value ∷ s)) ≡ Some r → ⊥
no_end toks i s r h e =
    let q = subst (λ (z : Option Token). step (class_at z) (joined_here toks i) (forms.Value ∷ s) (controls.Want places.Whole) ≡ Some r) h e in
    none_there None r refl q

-- an expression that is a statement
pub begin_runs : (toks : List Tok) (i : ℕ) (s : List Form) → is_brace (class_here toks i) ≡ false → Runs toks i (state (controls.Want places.Whole) (forms.Value ∷ s)) → Runs toks i (state controls.Body s)
begin_runs toks i s b (halts r none e) = absurd (no_end toks i s r none e)
begin_runs toks i s b (goes token r h e run) = word_begins toks i s token r b h e run (word_or_not (class_here toks i))
