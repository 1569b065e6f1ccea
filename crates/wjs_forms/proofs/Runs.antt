-- Runs of the machine over the tokens of a script.
use Rattle.std.proofs.Common.{◌≡◌, ℕ, ◌+◌, Bool, List, Option, Some, None, slice_get, refl, sym, ap, ◌∙◌, subst}
use Rattle.wjs_base.proofs.Options.{same_there, none_there}
use Rattle.wjs_tree.specs.declared.tokens.Tok.{Tok}
use Rattle.wjs_tree.specs.declared.tokens.Token.{Token}
use Rattle.wjs_tree.specs.Ends.{token_at, HasToken, is_joined}
use Rattle.wjs_forms.specs.declared.class.Class.{Class}
use Rattle.wjs_forms.specs.Classes.{class_of, class_at}
use Rattle.wjs_forms.specs.States.{State, step, step_at, Runs, halts, goes}

-- the class of the token at the place
abbrev pub class_here : List Tok → ℕ → Class
class_here toks i = class_at (token_at toks i)

-- whether no line ends before it
abbrev pub joined_here : List Tok → ℕ → Bool
joined_here toks i = is_joined (slice_get toks i)

step_at_token : (toks : List Tok) (i : ℕ) (token : Token) (s r : State) → HasToken toks i token → step (class_of token) (joined_here toks i) s.forms s.control ≡ Some r → step_at toks i s ≡ Some r
step_at_token toks i token s r h e =
    subst (λ (z : Option Token). step (class_at z) (joined_here toks i) s.forms s.control ≡ Some r) (sym h) e

-- a token leads on
pub step_on : (toks : List Tok) (i : ℕ) (token : Token) (s r : State) → HasToken toks i token → step (class_of token) (joined_here toks i) s.forms s.control ≡ Some r → Runs toks (i + 1) r → Runs toks i s
step_on toks i token s r h e rest = goes token r h (step_at_token toks i token s r h e) rest

-- what the next token does in one state, it does in another
pub lift : (toks : List Tok) (i : ℕ) (s t : State) → ((k : Class) (j : Bool) (r : State) → step k j s.forms s.control ≡ Some r → step k j t.forms t.control ≡ Some r) → Runs toks i s → Runs toks i t
lift toks i s t f (halts r none e) = halts r none (f _ _ r e)
lift toks i s t f (goes token r h e rest) = goes token r h (f _ _ r e) rest

-- the same, of the class and the line end that stand there
pub lift_here : (toks : List Tok) (i : ℕ) (s t : State) → ((r : State) → step_at toks i s ≡ Some r → step_at toks i t ≡ Some r) → Runs toks i s → Runs toks i t
lift_here toks i s t f (halts r none e) = halts r none (f r e)
lift_here toks i s t f (goes token r h e rest) = goes token r h (f r e) rest

-- the first step of a run
first_step : (toks : List Tok) (i : ℕ) (s : State) → Runs toks i s → (r : State) × (step_at toks i s ≡ Some r)
first_step toks i s (halts r none e) = (r, e)
first_step toks i s (goes token r h e rest) = (r, e)

-- what is behind a token whose step is known
pub after : (toks : List Tok) (i : ℕ) (token : Token) (s r : State) → HasToken toks i token → step (class_of token) (joined_here toks i) s.forms s.control ≡ Some r → Runs toks i s → Runs toks (i + 1) r
after toks i token s r h e (halts q none f) = absurd (none_there _ token none h)
after toks i token s r h e (goes t q g f rest) = subst (Runs toks (i + 1)) (same_there (step_at toks i s) q r f (step_at_token toks i token s r h e)) rest

-- of the token's class the machine's step is none
pub no_step : (toks : List Tok) (i : ℕ) (s : State) (k : Class) → ((j : Bool) → step k j s.forms s.control ≡ None) → Runs toks i s → class_here toks i ≡ k → ⊥
no_step toks i s k f run h =
    let w = first_step toks i s run in
    none_there _ w.0 (subst (λ (z : Class). step z (joined_here toks i) s.forms s.control ≡ None) (sym h) (f (joined_here toks i))) w.1
