-- The states of the machine, and its runs.
use Rattle.std.specs.Prelude.{◌≡◌, ℕ, ◌+◌, Bool, true, false, not, List, [], ◌∷◌, ◌++◌, Option, Some, None, slice_get}
use Rattle.wjs_tree.specs.declared.tokens.Tok.{Tok}
use Rattle.wjs_tree.specs.declared.tokens.Token.{Token}
use Rattle.wjs_tree.specs.Ends.{token_at, HasToken, is_joined}
use Rattle.wjs_forms.specs.declared.class.Class.{Class}
use Rattle.wjs_forms.specs.declared.class.Class.TheVariants as classes
use Rattle.wjs_forms.specs.declared.forms.Form.{Form}
use Rattle.wjs_forms.specs.declared.forms.Control.{Control}
use Rattle.wjs_forms.specs.declared.forms.Control.TheVariants as controls
use Rattle.wjs_forms.specs.declared.forms.Move.{Move}
use Rattle.wjs_forms.specs.declared.forms.Move.TheVariants as moves
use Rattle.wjs_forms.specs.Classes.{class_of, class_at}
use Rattle.wjs_forms.specs.Moves.{move}

-- what is to come next, and the open forms, the innermost first
pub record State : Type 0 where
  pub control : Control
  pub forms : List Form

abbrev pub state : Control → List Form → State
state c forms = record { control = c; forms = forms }

-- nothing of the program was read
abbrev pub start : State
start = state controls.List []

abbrev pub top : List Form → Option Form
top [] = None
top (f ∷ rest) = Some f

abbrev pub swapped : Form → Control → List Form → Option State
swapped g c [] = None
swapped g c (f ∷ rest) = Some (state c (g ∷ rest))

abbrev pub popped : Control → List Form → Option State
popped c [] = None
popped c (f ∷ rest) = Some (state c rest)

-- the state behind a move; `again` looks at the token below the innermost form
abbrev pub act : Move → List Form → (Control → Option State) → Option State
act moves.Refuse forms again = None
act (moves.Stay c) forms again = Some (state c forms)
act (moves.Push f c) forms again = Some (state c (f ∷ forms))
act (moves.PushTwo f g c) forms again = Some (state c (g ∷ f ∷ forms))
act (moves.Swap f c) forms again = swapped f c forms
act (moves.Pop c) forms again = popped c forms
act (moves.Again c) forms again = again c

-- the state behind a token that is looked at below the innermost form
abbrev pub below : Class → Bool → List Form → Control → Option State
below k joined [] c = None
below k joined (f ∷ rest) c = act (move k joined c (top rest)) rest (λ d. below k joined rest d)

-- the state behind a token, if any program goes on with it; `joined` says that no line ends before it
abbrev pub step : Class → Bool → List Form → Control → Option State
step k joined forms c = act (move k joined c (top forms)) forms (λ d. below k joined forms d)

-- the state behind a token of a script
abbrev pub step_tok : Tok → State → Option State
step_tok t s = step (class_of t.token) (not t.after_line) s.forms s.control

-- the state behind the token at the place, or behind the end
abbrev pub step_at : List Tok → ℕ → State → Option State
step_at toks i s = step (class_at (token_at toks i)) (is_joined (slice_get toks i)) s.forms s.control

abbrev pub and_then : Option State → (State → Option State) → Option State
and_then None f = None
and_then (Some s) f = f s

-- the state behind tokens
abbrev pub reach : List Tok → State → Option State
reach [] s = Some s
reach (t ∷ ts) s = and_then (step_tok t s) (λ r. reach ts r)

-- the end of the tokens may stand here
abbrev pub MayEnd : State → Type 0
MayEnd s = (r : State) × (step classes.End true s.forms s.control ≡ Some r)

-- the tokens lead from the state to where they may end
abbrev pub Accepts : State → List Tok → Type 0
Accepts s ts = (r : State) × (reach ts s ≡ Some r) × MayEnd r

-- The tokens from the place on lead from the state to their end.
pub data Runs (toks : List Tok) : ℕ → State → Type 0 where
  halts : {i : ℕ} {s : State} (r : State) → token_at toks i ≡ None → step_at toks i s ≡ Some r → Runs toks i s
  goes : {i : ℕ} {s : State} (token : Token) (r : State) → HasToken toks i token → step_at toks i s ≡ Some r → Runs toks (i + 1) r → Runs toks i s
