-- Runs over the places of tokens, and over lists of tokens.
use Rattle.std.proofs.Common.{◌≡◌, ℕ, ◌+◌, ◌<◌, ◌≤◌, ◌⊎◌, inl, inr, Bool, true, false, List, [], ◌∷◌, ◌++◌, length, drop, take, Option, Some, None, slice_get, refl, sym, ap, ◌∙◌, subst, arith}
use Rattle.std.specs.Option.{option_map}
use Rattle.std.proofs.lemmas.Option.{slice_get_within, slice_get_past, slice_get_cases, get_or_from_slice_get}
use Rattle.std.proofs.lemmas.List.{drop_more, drop_all}
use Rattle.wjs_tree.specs.declared.tokens.Tok.{Tok}
use Rattle.wjs_tree.specs.declared.tokens.Token.{Token}
use Rattle.wjs_tree.specs.Ends.{token_at, HasToken, is_joined}
use Rattle.wjs_forms.specs.declared.class.Class.TheVariants as classes
use Rattle.wjs_forms.specs.declared.forms.Control.TheVariants as controls
use Rattle.wjs_forms.specs.Classes.{class_at}
use Rattle.wjs_forms.specs.States.{State, state, start, step, step_tok, step_at, and_then, reach, MayEnd, Accepts, Runs, halts, goes}
use Rattle.wjs_forms.specs.Spells.{Spells}
use Rattle.wjs_forms.proofs.Taken.{elements}

-- the step of a token, or of the end
abbrev step_of : Option Tok → State → Option State
step_of o s = step (class_at (option_map (λ t. t.token) o)) (is_joined o) s.forms s.control

-- what is left from a place on, where a token stands there
left_token : (toks : List Tok) (i : ℕ) (t : Tok) → slice_get toks i ≡ Some t → drop i toks ≡ t ∷ drop (i + 1) toks
left_token toks i t h = drop_more toks i t (slice_get_within toks i t h) ∙ ap (λ (z : Tok). z ∷ drop (i + 1) toks) (get_or_from_slice_get toks i t t h)

none_some : (o : Option Tok) (t : Tok) → o ≡ None → o ≡ Some t → ⊥
none_some o t p q = cc

past : (toks : List Tok) (i : ℕ) → slice_get toks i ≡ None → length toks ≤ i
past toks i h = elim (slice_get_cases toks i).1 [ inl w ↦ absurd (none_some _ w.0 h w.2) | inr w ↦ w.0 ]

-- and where none does
left_end : (toks : List Tok) (i : ℕ) → slice_get toks i ≡ None → drop i toks ≡ []
left_end toks i h = drop_all i toks (past toks i h)

no_token : (o : Option Tok) → option_map (λ (t : Tok). t.token) o ≡ None → o ≡ None
no_token None h = refl
no_token (Some t) h = cc

a_token : (o : Option Tok) (token : Token) → option_map (λ (t : Tok). t.token) o ≡ Some token → (t : Tok) × (o ≡ Some t)
a_token None token h = cc
a_token (Some t) token h = (t, refl)

-- where no token stands, and where one does
pub past_end : (toks : List Tok) (i : ℕ) → token_at toks i ≡ None → length toks ≤ i
past_end toks i h = past toks i (no_token (slice_get toks i) h)

pub within : (toks : List Tok) (i : ℕ) (token : Token) → HasToken toks i token → i < length toks
within toks i token h = let w = a_token (slice_get toks i) token h in slice_get_within toks i w.0 w.1

step_along : (toks : List Tok) (i : ℕ) (o : Option Tok) (s r : State) → slice_get toks i ≡ o → step_at toks i s ≡ Some r → step_of o s ≡ Some r
step_along toks i o s r h e = subst (λ (z : Option Tok). step_of z s ≡ Some r) h e

step_back : (toks : List Tok) (i : ℕ) (o : Option Tok) (s r : State) → slice_get toks i ≡ o → step_of o s ≡ Some r → step_at toks i s ≡ Some r
step_back toks i o s r h e = subst (λ (z : Option Tok). step_of z s ≡ Some r) (sym h) e

runs_accepts : (toks : List Tok) (i : ℕ) (s : State) → Runs toks i s → Accepts s (drop i toks)
runs_accepts toks i s (halts r none e) =
    let h = no_token (slice_get toks i) none in
    subst (Accepts s) (sym (left_end toks i h)) (s, refl, (r, step_along toks i None s r h e))
runs_accepts toks i s (goes token r h e run) =
    let w = a_token (slice_get toks i) token h in
    let later = runs_accepts toks (i + 1) r run in
    subst (Accepts s) (sym (left_token toks i w.0 w.1))
    (later.0, ap (λ (z : Option State). and_then z (λ q. reach (drop (i + 1) toks) q)) (step_along toks i (Some w.0) s r w.1 e) ∙ later.1, later.2)

-- a step that leads on
pub then_some : (o : Option State) (f : State → Option State) (r : State) → and_then o f ≡ Some r → (q : State) × (o ≡ Some q) × (f q ≡ Some r)
then_some None f r h = cc
then_some (Some q) f r h = (q, refl, h)

nil_cons : (t : Tok) (ts : List Tok) → [] ≡ t ∷ ts → ⊥
nil_cons t ts h = cc

first_same : (t u : Tok) (ts us : List Tok) → t ∷ ts ≡ u ∷ us → (t ≡ u) × (ts ≡ us)
first_same t u ts us h = (let q : t ≡ u = cc in q, let q : ts ≡ us = cc in q)

-- the first of what is left stands at the place
left_first : (toks : List Tok) (i : ℕ) (t : Tok) (ts : List Tok) → drop i toks ≡ t ∷ ts → (slice_get toks i ≡ Some t) × (drop (i + 1) toks ≡ ts)
left_first toks i t ts h = pick (slice_get toks i) refl
  where
    pick : (o : Option Tok) → slice_get toks i ≡ o → (slice_get toks i ≡ Some t) × (drop (i + 1) toks ≡ ts)
    pick None e = absurd (nil_cons t ts (sym (left_end toks i e) ∙ h))
    pick (Some u) e = let w = first_same u t _ ts (sym (left_token toks i u e) ∙ h) in (e ∙ ap Some w.0, w.1)

left_none : (toks : List Tok) (i : ℕ) → drop i toks ≡ [] → slice_get toks i ≡ None
left_none toks i h = pick (slice_get toks i) refl
  where
    pick : (o : Option Tok) → slice_get toks i ≡ o → slice_get toks i ≡ None
    pick None e = e
    pick (Some u) e = absurd (nil_cons u _ (sym h ∙ left_token toks i u e))

same_some : (a b : State) → Some a ≡ Some b → a ≡ b
same_some a b h = cc

pub accepts_runs : (toks : List Tok) (ts : List Tok) (i : ℕ) (s : State) → drop i toks ≡ ts → Accepts s ts → Runs toks i s
accepts_runs toks [] i s h a =
    let none = left_none toks i h in
    let end = subst MayEnd (sym (same_some s a.0 a.1)) a.2 in
    halts end.0 (ap (option_map (λ (t : Tok). t.token)) none) (step_back toks i None s end.0 none end.1)
accepts_runs toks (t ∷ ts) i s h a =
    let w = left_first toks i t ts h in
    let q = then_some (step_tok t s) (λ r. reach ts r) a.0 a.1 in
    goes t.token q.0 (ap (option_map (λ (t : Tok). t.token)) w.0) (step_back toks i (Some t) s q.0 w.0 q.1) (accepts_runs toks ts (i + 1) q.0 w.1 (a.0, q.2, a.2))

-- the end of a program
ends_here : (toks : List Tok) → Runs toks (length toks) start
ends_here toks =
    let none = slice_get_past toks (length toks) (omega arith) in
    halts (state controls.Accepted []) (ap (option_map (λ (t : Tok). t.token)) none) (step_back toks (length toks) None start (state controls.Accepted []) none refl)

pub spelled_is_taken : (toks : List Tok) → Spells toks → Accepts start toks
spelled_is_taken toks w = runs_accepts toks 0 start (elements toks w.body [] 0 (length toks) refl w.shaped w.stands (ends_here toks))
