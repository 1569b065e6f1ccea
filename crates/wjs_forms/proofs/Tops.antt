-- What the innermost form lets a token do.
use Rattle.std.proofs.Common.{◌≡◌, ℕ, ◌+◌, ◌≤◌, ◌⊎◌, inl, inr, Bool, true, false, List, [], ◌∷◌, Option, Some, None, refl, sym, ap, ◌∙◌, subst}
use Rattle.wjs_tree.specs.declared.tokens.Tok.{Tok}
use Rattle.wjs_tree.specs.declared.operators.BinaryOperator.{BinaryOperator}
use Rattle.wjs_tree.specs.declared.operators.BinaryOperator.TheVariants as binaries
use Rattle.wjs_tree.specs.Operators.{binary_token, IsAllowed}
use Rattle.wjs_forms.specs.declared.class.Class.{Class}
use Rattle.wjs_forms.specs.declared.class.Class.TheVariants as classes
use Rattle.wjs_forms.specs.declared.forms.Place.{Place}
use Rattle.wjs_forms.specs.declared.forms.Place.TheVariants as places
use Rattle.wjs_forms.specs.declared.forms.Form.{Form}
use Rattle.wjs_forms.specs.declared.forms.Form.TheVariants as forms
use Rattle.wjs_forms.specs.declared.forms.Control.{Control}
use Rattle.wjs_forms.specs.declared.forms.Control.TheVariants as controls
use Rattle.wjs_forms.specs.declared.forms.Move.{Move}
use Rattle.wjs_forms.specs.declared.forms.Move.TheVariants as moves
use Rattle.wjs_forms.specs.Classes.{class_of}
use Rattle.wjs_forms.specs.Table.{unless, after_update, bars_operator, bars_in, behind, behind_top, bare, bare_top, call, target_in}
use Rattle.wjs_forms.specs.States.{State, state, top, act, below, step}

-- a `new` is open innermost, whose arguments may come
abbrev pub is_new : List Form → Bool
is_new (forms.New ∷ rest) = true
is_new _ = false

-- the expression is of the first part of a header, below its `new`s
abbrev pub no_in : List Form → Bool
no_in (forms.New ∷ rest) = no_in rest
no_in (forms.ForInit ∷ rest) = true
no_in (forms.ForVar ∷ rest) = true
no_in _ = false

-- what is done with a token that is looked at again
abbrev pub Again : Type 0
Again = Control → Option State

pub unless_false : (b : Bool) (m : Move) (s : List Form) (g : Again) (r : State) → act (unless b m) s g ≡ Some r → b ≡ false
unless_false true m s g r h = cc
unless_false false m s g r h = refl

pub unless_is : (b : Bool) (m : Move) (s : List Form) (g : Again) (r : State) → act (unless b m) s g ≡ Some r → act m s g ≡ Some r
unless_is true m s g r h = cc
unless_is false m s g r h = h

pub behind_is : (s : List Form) → is_new s ≡ false → (k : Class) → behind (top s) k ≡ behind_top k (top s)
behind_is [] h k = refl
behind_is (forms.New ∷ rest) h k = cc
behind_is (f ∷ rest) h k = refl

pub bare_is : (s : List Form) → is_new s ≡ false → (k : Class) (j : Bool) (p : Place) (t : Bool) → bare (top s) k j p t ≡ bare_top t k j p (top s)
bare_is [] h k j p t = refl
bare_is (forms.New ∷ rest) h k j p t = cc
bare_is (f ∷ rest) h k j p t = refl

pub call_is : (s : List Form) → is_new s ≡ false → (p : Place) → call p (top s) ≡ moves.Push (forms.Arguments p) controls.ArgumentOrEnd
call_is [] h p = refl
call_is (forms.New ∷ rest) h p = cc
call_is (f ∷ rest) h p = refl

pub no_bar : (s : List Form) → is_new s ≡ false → (p : Place) → after_update p ≡ false → bars_operator p (top s) ≡ false
no_bar [] h p u = u
no_bar (forms.New ∷ rest) h p u = cc
no_bar (f ∷ rest) h p u = u

no_in_top : (s : List Form) → is_new s ≡ false → bars_in (top s) ≡ no_in s
no_in_top [] h = refl
no_in_top (forms.New ∷ rest) h = cc
no_in_top (forms.ForInit ∷ rest) h = refl
no_in_top (forms.ForVar ∷ rest) h = refl
no_in_top (f ∷ rest) h = refl

pub behind_step : (k : Class) (j : Bool) (s : List Form) → is_new s ≡ false → step k j s controls.Behind ≡ act (behind_top k (top s)) s (λ d. below k j s d)
behind_step k j s h = ap (λ (z : Move). act z s (λ d. below k j s d)) (behind_is s h k)

in_allowed : (b : Bool) → IsAllowed b binaries.In → b ≡ false
in_allowed true h = absurd h
in_allowed false h = refl

-- an operator leads to a further operand
pub operator_step : (op : BinaryOperator) (j : Bool) (s : List Form) → is_new s ≡ false → IsAllowed (no_in s) op → step (class_of (binary_token op)) j s controls.Behind ≡ Some (state (controls.Want places.Later) s)
operator_step binaries.In j s h a =
    behind_step classes.In j s h ∙ in_step (bars_in (top s)) (no_in_top s h ∙ in_allowed (no_in s) a)
  where
    in_step : (b : Bool) → b ≡ false → act (unless b (moves.Stay (controls.Want places.Later))) s (λ d. below classes.In j s d) ≡ Some (state (controls.Want places.Later) s)
    in_step true e = cc
    in_step false e = refl
operator_step op j s h a = behind_step (class_of (binary_token op)) j s h
