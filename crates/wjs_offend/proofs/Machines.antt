-- The steps of the machine's loop.
use Rattle.std.proofs.Common.{◌≡◌, ◌<◌, Bool, List, [], ◌∷◌, length, Option, None, refl, sym, ap, ◌∙◌, subst, arith}
use Rattle.wjs_forms.specs.declared.class.Class.{Class}
use Rattle.wjs_forms.specs.declared.forms.Form.{Form}
use Rattle.wjs_forms.specs.declared.forms.Control.{Control}
use Rattle.wjs_forms.specs.declared.forms.Move.{Move}
use Rattle.wjs_forms.specs.declared.forms.Move.TheVariants as moves
use Rattle.wjs_forms.specs.Moves.{move}
use Rattle.wjs_forms.specs.States.{State, top, act, below, step}
use Rattle.wjs_offend.specs.Taking.{Answers}

-- what the move makes of the forms
abbrev pub made : Class → Bool → Move → List Form → Option State
made k joined m forms = act m forms (λ d. below k joined forms d)

pub begins : (k : Class) (joined : Bool) (c : Control) (s : List Form) (o : Option Form) (m : Move) → o ≡ top s → m ≡ move k joined c o → made k joined m s ≡ step k joined s c
begins k joined c s o m e f = ap (λ (z : Move). made k joined z s) (f ∙ ap (λ (z : Option Form). move k joined c z) e)

-- the form on top ends, and the token is looked at again
pub again : (k : Class) (joined : Bool) (c : Control) (s rest : List Form) (f : Form) (o : Option Form) (m n : Move) (r : Option State) → n ≡ moves.Again c → s ≡ f ∷ rest → o ≡ top rest → m ≡ move k joined c o → made k joined n s ≡ r → made k joined m rest ≡ r
again k joined c s rest f o m n r is e t w h =
    begins k joined c rest o m t w ∙ sym (ap (λ (z : List Form). made k joined (moves.Again c) z) e) ∙ sym (ap (λ (z : Move). made k joined z s) is) ∙ h

pub none_below : (k : Class) (joined : Bool) (c : Control) (s : List Form) (n : Move) (r : Option State) → n ≡ moves.Again c → s ≡ [] → made k joined n s ≡ r → r ≡ None
none_below k joined c s n r is e h = sym h ∙ ap (λ (z : Move). made k joined z s) is ∙ ap (λ (z : List Form). made k joined (moves.Again c) z) e

-- a move that doesn't look again
act_same : (m : Move) (s : List Form) (f g : Control → Option State) → ((c : Control) → m ≡ moves.Again c → ⊥) → act m s f ≡ act m s g
act_same (moves.Again c) s f g other = absurd (other c refl)
act_same moves.Refuse s f g other = refl
act_same _ s f g other = refl

pub ends : (k : Class) (joined : Bool) (m : Move) (s : List Form) (r : Option State) (taken : Bool) (new : State) → ((c : Control) → m ≡ moves.Again c → ⊥) → made k joined m s ≡ r → Answers (act m s (λ d. None)) taken new → Answers r taken new
ends k joined m s r taken new other h a = subst (λ (z : Option State). Answers z taken new) (act_same m s (λ d. None) (λ d. below k joined s d) other ∙ h) a

pub shorter : (s rest : List Form) (f : Form) → s ≡ f ∷ rest → length rest < length s
shorter s rest f e = let q = ap length e in omega arith
