-- Where a statement ends.
use Rattle.std.proofs.Common.{◌≡◌, ℕ, ◌+◌, ◌⊎◌, inl, inr, Bool, true, false, not, ◌&&◌, List, [], ◌∷◌, Option, Some, None, slice_get, refl, sym, ap, ◌∙◌, subst}
use Rattle.std.proofs.lemmas.Bool.{or_parts}
use Rattle.wjs_tree.specs.declared.tokens.Tok.{Tok}
use Rattle.wjs_tree.specs.declared.tokens.Token.{Token}
use Rattle.wjs_tree.specs.declared.tokens.Token.TheVariants as tokens
use Rattle.wjs_tree.specs.declared.signs.Sign.TheVariants as signs
use Rattle.wjs_tree.specs.declared.keys.Key.TheVariants as keys
use Rattle.wjs_tree.specs.declared.node.End.{End}
use Rattle.wjs_tree.specs.declared.node.End.TheVariants as ends
use Rattle.wjs_tree.specs.Trees.{Expr}
use Rattle.wjs_tree.specs.Levels.{ends_in_update}
use Rattle.wjs_tree.specs.Ends.{token_at, HasToken, HasSign, is_joined, is_operator, is_suffix, continues_name, continues, Ending, Complete, InName, InExpr, Offends, CanInsert, Ends}
use Rattle.wjs_forms.specs.declared.class.Class.{Class}
use Rattle.wjs_forms.specs.declared.class.Class.TheVariants as classes
use Rattle.wjs_forms.specs.declared.forms.Place.{Place}
use Rattle.wjs_forms.specs.declared.forms.Place.TheVariants as places
use Rattle.wjs_forms.specs.declared.forms.Form.{Form}
use Rattle.wjs_forms.specs.declared.forms.Form.TheVariants as forms
use Rattle.wjs_forms.specs.declared.forms.Control.TheVariants as controls
use Rattle.wjs_forms.specs.Classes.{class_of, class_at}
use Rattle.wjs_forms.specs.States.{State, state, step, step_at, Runs}
use Rattle.wjs_forms.proofs.Runs.{class_here, joined_here, step_on, lift_here}
use Rattle.wjs_forms.proofs.Follows.{Follows}

-- what continues any expression
abbrev pub is_operator_class : Class → Bool
is_operator_class classes.Question = true
is_operator_class classes.Comma = true
is_operator_class classes.Operator = true
is_operator_class classes.Sum = true
is_operator_class classes.In = true
is_operator_class classes.Instanceof = true
is_operator_class classes.Assign = true
is_operator_class classes.AssignWith = true
is_operator_class _ = false

abbrev pub is_suffix_class : Class → Bool
is_suffix_class classes.OpenParen = true
is_suffix_class classes.OpenBracket = true
is_suffix_class classes.Dot = true
is_suffix_class _ = false

abbrev pub continues_name_class : Class → Bool
continues_name_class classes.Assign = true
continues_name_class classes.Comma = true
continues_name_class _ = false

pub operator_class : (t : Token) → is_operator t ≡ is_operator_class (class_of t)
operator_class (tokens.Word x) = refl
operator_class (tokens.Number x) = refl
operator_class (tokens.Text x) = refl
operator_class (tokens.Sign signs.OpenBrace) = refl
operator_class (tokens.Sign _) = refl
operator_class (tokens.Key keys.Break) = refl
operator_class (tokens.Key _) = refl

pub suffix_class : (t : Token) → is_suffix t ≡ is_suffix_class (class_of t)
suffix_class (tokens.Word x) = refl
suffix_class (tokens.Number x) = refl
suffix_class (tokens.Text x) = refl
suffix_class (tokens.Sign signs.OpenBrace) = refl
suffix_class (tokens.Sign _) = refl
suffix_class (tokens.Key keys.Break) = refl
suffix_class (tokens.Key _) = refl

pub name_class : (t : Token) → continues_name t ≡ continues_name_class (class_of t)
name_class (tokens.Word x) = refl
name_class (tokens.Number x) = refl
name_class (tokens.Text x) = refl
name_class (tokens.Sign signs.OpenBrace) = refl
name_class (tokens.Sign _) = refl
name_class (tokens.Key keys.Break) = refl
name_class (tokens.Key _) = refl

-- a token of the class ends what ends so
abbrev pub Ended : Ending → Class → Type 0
Ended Complete k = Unit {0}
Ended InName k = continues_name_class k ≡ false
Ended (InExpr update) k = (is_operator_class k ≡ false) × (is_suffix_class k ≡ true → update ≡ true)

update_of_suffix : (a update : Bool) → (a && not update) ≡ false → a ≡ true → update ≡ true
update_of_suffix a true h g = refl
update_of_suffix true false h g = cc
update_of_suffix false false h g = cc

offending_ended : (ending : Ending) (t : Token) → continues ending t ≡ false → Ended ending (class_of t)
offending_ended Complete t h = tt
offending_ended InName t h = sym (name_class t) ∙ h
offending_ended (InExpr update) t h =
    let w = or_parts (is_operator t) (is_suffix t && not update) h in
    (sym (operator_class t) ∙ w.0, λ g. update_of_suffix (is_suffix t) update w.1 (suffix_class t ∙ g))

at_end_ended : (ending : Ending) → Ended ending classes.End
at_end_ended Complete = tt
at_end_ended InName = refl
at_end_ended (InExpr update) = (refl, λ g. let w : false ≡ true = g in cc)

brace_ended : (ending : Ending) → Ended ending classes.CloseBrace
brace_ended Complete = tt
brace_ended InName = refl
brace_ended (InExpr update) = (refl, λ g. let w : false ≡ true = g in cc)

semicolon_ended : (ending : Ending) → Ended ending classes.Semicolon
semicolon_ended Complete = tt
semicolon_ended InName = refl
semicolon_ended (InExpr update) = (refl, λ g. let w : false ≡ true = g in cc)

ended_at : (toks : List Tok) (m : ℕ) (ending : Ending) (o : Option Token) → token_at toks m ≡ o → Ended ending (class_at o) → Ended ending (class_here toks m)
ended_at toks m ending o h e = subst (λ (z : Option Token). Ended ending (class_at z)) (sym h) e

inserted_ended : (toks : List Tok) (m : ℕ) (ending : Ending) → CanInsert toks ending m → Ended ending (class_here toks m)
inserted_ended toks m ending (inl h) = ended_at toks m ending None h (at_end_ended ending)
inserted_ended toks m ending (inr (inl h)) = ended_at toks m ending (Some (tokens.Sign signs.CloseBrace)) h (brace_ended ending)
inserted_ended toks m ending (inr (inr o)) = ended_at toks m ending (Some o.token) o.stands (offending_ended ending o.token o.stops)

-- the token where a statement ends
pub ended_here : (toks : List Tok) (ending : Ending) (end : End) (m n : ℕ) → Ends toks ending end m n → Ended ending (class_here toks m)
ended_here toks ending ends.Written m n h = ended_at toks m ending (Some (tokens.Sign signs.Semicolon)) h.0 (semicolon_ended ending)
ended_here toks ending ends.Inserted m n h = inserted_ended toks m ending h.0

-- a token behind a line end, where the statement was complete
complete_step : (k : Class) (s : List Form) (r : State) → (k ≡ classes.Semicolon → ⊥) → step k false s controls.Done ≡ Some r → step k false s controls.Complete ≡ Some r
complete_step classes.Semicolon s r bar h = absurd (bar refl)
complete_step _ s r bar h = h

semicolon_sign : (t : Token) → class_of t ≡ classes.Semicolon → t ≡ tokens.Sign signs.Semicolon
semicolon_sign (tokens.Word x) h = cc
semicolon_sign (tokens.Number x) h = cc
semicolon_sign (tokens.Text x) h = cc
semicolon_sign (tokens.Sign signs.Semicolon) h = refl
semicolon_sign (tokens.Sign _) h = cc
semicolon_sign (tokens.Key keys.Break) h = cc
semicolon_sign (tokens.Key _) h = cc

offending_step : (toks : List Tok) (m : ℕ) (ending : Ending) (s : List Form) (r : State) (o : Offends toks ending m) → step_at toks m (state controls.Done s) ≡ Some r → step_at toks m (state controls.Complete s) ≡ Some r
offending_step toks m ending s r o h =
    subst (λ (j : Bool). step (class_here toks m) j s controls.Complete ≡ Some r) (sym o.after_line)
    (complete_step (class_here toks m) s r (λ q. o.no_semicolon (semicolon_sign o.token (sym (ap class_at o.stands) ∙ q)))
    (subst (λ (j : Bool). step (class_here toks m) j s controls.Done ≡ Some r) o.after_line h))

-- the class that stands there
class_step : (toks : List Tok) (m : ℕ) (k : Class) (s t : State) (r : State) → class_here toks m ≡ k → ((j : Bool) → step k j s.forms s.control ≡ step k j t.forms t.control) → step_at toks m s ≡ Some r → step_at toks m t ≡ Some r
class_step toks m k s t r e f h =
    subst (λ (z : Class). step z (joined_here toks m) t.forms t.control ≡ Some r) (sym e)
    (sym (f (joined_here toks m)) ∙ subst (λ (z : Class). step z (joined_here toks m) s.forms s.control ≡ Some r) e h)

inserted_step : (toks : List Tok) (m : ℕ) (ending : Ending) (s : List Form) (r : State) → CanInsert toks ending m → step_at toks m (state controls.Done s) ≡ Some r → step_at toks m (state controls.Complete s) ≡ Some r
inserted_step toks m ending s r (inl e) h = class_step toks m classes.End (state controls.Done s) (state controls.Complete s) r (ap class_at e) (λ j. refl) h
inserted_step toks m ending s r (inr (inl e)) h = class_step toks m classes.CloseBrace (state controls.Done s) (state controls.Complete s) r (ap class_at e) (λ j. refl) h
inserted_step toks m ending s r (inr (inr o)) h = offending_step toks m ending s r o h

-- a statement that was complete ends
pub complete_runs : (toks : List Tok) (ending : Ending) (end : End) (m n : ℕ) (s : List Form) → Ends toks ending end m n → Runs toks n (state controls.Done s) → Runs toks m (state controls.Complete s)
complete_runs toks ending ends.Written m n s h run =
    step_on toks m (tokens.Sign signs.Semicolon) _ (state controls.Done s) h.0 refl (subst (λ (z : ℕ). Runs toks z (state controls.Done s)) h.1 run)
complete_runs toks ending ends.Inserted m n s h run =
    lift_here toks m (state controls.Done s) (state controls.Complete s) (λ r e. inserted_step toks m ending s r h.0 e)
    (subst (λ (z : ℕ). Runs toks z (state controls.Done s)) h.1 run)

-- an expression that is all up to the end of its statement
value_step : (k : Class) (j : Bool) (s : List Form) (r : State) → is_operator_class k ≡ false → step k j s controls.Complete ≡ Some r → step k j (forms.Value ∷ s) controls.Behind ≡ Some r
value_step classes.Question j s r bar h = cc
value_step classes.Comma j s r bar h = cc
value_step classes.Operator j s r bar h = cc
value_step classes.Sum j s r bar h = cc
value_step classes.In j s r bar h = cc
value_step classes.Instanceof j s r bar h = cc
value_step classes.Assign j s r bar h = cc
value_step classes.AssignWith j s r bar h = cc
value_step _ j s r bar h = h

pub value_runs : (toks : List Tok) (update : Bool) (end : End) (m n : ℕ) (s : List Form) → Ends toks (InExpr update) end m n → Runs toks n (state controls.Done s) → Runs toks m (state controls.Behind (forms.Value ∷ s))
value_runs toks update end m n s h run =
    lift_here toks m (state controls.Complete s) (state controls.Behind (forms.Value ∷ s)) (λ r e. value_step (class_here toks m) (joined_here toks m) s r (ended_here toks (InExpr update) end m n h).0 e)
    (complete_runs toks (InExpr update) end m n s h run)

-- the last variable of a statement
variable_step : (k : Class) (j : Bool) (s : List Form) (r : State) → is_operator_class k ≡ false → step k j s controls.Complete ≡ Some r → step k j (forms.Var ∷ s) controls.Behind ≡ Some r
variable_step classes.Question j s r bar h = cc
variable_step classes.Comma j s r bar h = cc
variable_step classes.Operator j s r bar h = cc
variable_step classes.Sum j s r bar h = cc
variable_step classes.In j s r bar h = cc
variable_step classes.Instanceof j s r bar h = cc
variable_step classes.Assign j s r bar h = cc
variable_step classes.AssignWith j s r bar h = cc
variable_step _ j s r bar h = h

pub variable_runs : (toks : List Tok) (update : Bool) (end : End) (m n : ℕ) (s : List Form) → Ends toks (InExpr update) end m n → Runs toks n (state controls.Done s) → Runs toks m (state controls.Behind (forms.Var ∷ s))
variable_runs toks update end m n s h run =
    lift_here toks m (state controls.Complete s) (state controls.Behind (forms.Var ∷ s)) (λ r e. variable_step (class_here toks m) (joined_here toks m) s r (ended_here toks (InExpr update) end m n h).0 e)
    (complete_runs toks (InExpr update) end m n s h run)

named_step : (k : Class) (j : Bool) (s : List Form) (r : State) → continues_name_class k ≡ false → step k j s controls.Complete ≡ Some r → step k j (forms.Var ∷ s) controls.Named ≡ Some r
named_step classes.Assign j s r bar h = cc
named_step classes.Comma j s r bar h = cc
named_step _ j s r bar h = h

pub named_runs : (toks : List Tok) (end : End) (m n : ℕ) (s : List Form) → Ends toks InName end m n → Runs toks n (state controls.Done s) → Runs toks m (state controls.Named (forms.Var ∷ s))
named_runs toks end m n s h run =
    lift_here toks m (state controls.Complete s) (state controls.Named (forms.Var ∷ s)) (λ r e. named_step (class_here toks m) (joined_here toks m) s r (ended_here toks InName end m n h) e)
    (complete_runs toks InName end m n s h run)

-- what is no suffix, unless behind `++` or `--`, may follow
pub suffix_follows : (k : Class) (s : List Form) (f : Form) (e : Expr) → (is_suffix_class k ≡ true → ends_in_update e ≡ true) → Follows k places.First (f ∷ s) e
suffix_follows classes.OpenParen s f e h = h refl
suffix_follows classes.OpenBracket s f e h = h refl
suffix_follows classes.Dot s f e h = h refl
suffix_follows _ s f e h = tt

pub ended_follows_value : (k : Class) (s : List Form) (e : Expr) → Ended (InExpr (ends_in_update e)) k → Follows k places.Whole (forms.Value ∷ s) e
ended_follows_value classes.OpenParen s e h = h.1 refl
ended_follows_value classes.OpenBracket s e h = h.1 refl
ended_follows_value classes.Dot s e h = h.1 refl
ended_follows_value _ s e h = tt
