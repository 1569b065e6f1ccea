-- What may stand behind an operand, so that no longer one is meant.
use Rattle.std.proofs.Common.{◌≡◌, ℕ, ◌+◌, ◌≤◌, ◌⊎◌, inl, inr, Bool, true, false, not, ◌&&◌, ◌||◌, List, [], ◌∷◌, Option, Some, None, slice_get, refl, sym, ap, ◌∙◌, subst, arith}
use Rattle.wjs_tree.specs.declared.tokens.Tok.{Tok}
use Rattle.wjs_tree.specs.declared.tokens.Token.{Token}
use Rattle.wjs_tree.specs.declared.tokens.Token.TheVariants as tokens
use Rattle.wjs_tree.specs.declared.signs.Sign.TheVariants as signs
use Rattle.wjs_tree.specs.declared.keys.Key.TheVariants as keys
use Rattle.wjs_tree.specs.declared.operators.BinaryOperator.{BinaryOperator}
use Rattle.wjs_tree.specs.declared.operators.BinaryOperator.TheVariants as binaries
use Rattle.wjs_tree.specs.Operators.{binary_token, binary_level}
use Rattle.wjs_tree.specs.Trees.{Expr, Name, Dot, At, Paren, Call, NewWith, NewBare, Postfix, Prefix, Binary, Cond, Assign, Comma}
use Rattle.wjs_tree.specs.Levels.{level, is_target, is_bare, ends_in_update}
use Rattle.wjs_tree.specs.Formed.{Shaped}
use Rattle.wjs_tree.specs.Ends.{token_at, HasToken, is_joined, is_operator, is_suffix, continues_name}
use Rattle.wjs_forms.specs.declared.class.Class.{Class}
use Rattle.wjs_forms.specs.declared.class.Class.TheVariants as classes
use Rattle.wjs_forms.specs.declared.forms.Place.{Place}
use Rattle.wjs_forms.specs.declared.forms.Place.TheVariants as places
use Rattle.wjs_forms.specs.declared.forms.Form.{Form}
use Rattle.wjs_forms.specs.declared.forms.Form.TheVariants as forms
use Rattle.wjs_forms.specs.declared.forms.Control.TheVariants as controls
use Rattle.wjs_forms.specs.declared.forms.Move.{Move}
use Rattle.wjs_forms.specs.Classes.{class_of, class_at}
use Rattle.wjs_forms.specs.Table.{unless, after_update, behind, bare, bare_top, target}
use Rattle.wjs_forms.specs.States.{State, state, top, act, below, step, step_at, Runs}
use Rattle.wjs_forms.proofs.Runs.{class_here, joined_here, lift_here}
use Rattle.wjs_forms.proofs.Tops.{is_new, behind_is, bare_is, behind_step}

-- how tightly an operand at the place binds at least
abbrev pub Binds : Place → Expr → Type 0
Binds places.Whole e = Unit {0}
Binds places.First e = 1 ≤ level e
Binds places.Later e = 3 ≤ level e
Binds places.Update e = 16 ≤ level e

-- behind `new`: a member expression, or another `new`
abbrev pub BindsNew : List Form → Expr → Type 0
BindsNew s e = is_new s ≡ true → (17 ≤ level e) ⊎ (is_bare e ≡ true)

-- where all of a parenthesis is a target, `)` makes the parenthesis one
abbrev pub Shut : Place → List Form → Expr → Type 0
Shut places.Whole (forms.Paren p ∷ rest) e = is_target e ≡ false
Shut _ s e = Unit {0}

-- A token of the class is no suffix, unless the expression ends in `++` or `--`.
abbrev pub Follows : Class → Place → List Form → Expr → Type 0
Follows classes.OpenParen p s e = ends_in_update e ≡ true
Follows classes.OpenBracket p s e = ends_in_update e ≡ true
Follows classes.Dot p s e = ends_in_update e ≡ true
Follows classes.CloseParen p s e = Shut p s e
Follows _ p s e = Unit {0}

-- behind `++` and `--` stands a target, and no `new` just before it
abbrev pub Places : Place → List Form → Expr → Type 0
Places p s e = p ≡ places.Update → (is_target e ≡ true) × (is_new s ≡ false)

-- The operand e at the place is taken from i to n: behind a primary expression with suffixes come further ones, and behind
-- any what is no suffix.
pub record Taking (toks : List Tok) (p : Place) (s : List Form) (e : Expr) (i n : ℕ) : Type 0 where
  pub chain : 16 ≤ level e → Runs toks n (state (controls.Have p (is_target e)) s) → Runs toks i (state (controls.Want p) s)
  pub other : Places p s e → Follows (class_here toks n) p s e → Runs toks n (state controls.Behind s) → Runs toks i (state (controls.Want p) s)

pub binary_low : (op : BinaryOperator) → binary_level op ≤ 12
binary_low binaries.Multiply = omega arith
binary_low _ = omega arith

pub binary_high : (op : BinaryOperator) → 3 ≤ binary_level op
binary_high binaries.Multiply = omega arith
binary_high _ = omega arith

pub binds_high : (p : Place) (e : Expr) → 16 ≤ level e → Binds p e
binds_high places.Whole e h = tt
binds_high places.First e h = omega arith
binds_high places.Later e h = omega arith
binds_high places.Update e h = h

pub binds_up : (p : Place) (e l : Expr) → level e ≤ level l → Binds p e → Binds p l
binds_up places.Whole e l h b = tt
binds_up places.First e l h b = omega arith
binds_up places.Later e l h b = omega arith
binds_up places.Update e l h b = omega arith

pub new_free : (s : List Form) (l : Expr) → is_new s ≡ false → BindsNew s l
new_free s l h w = absurd (let q : true ≡ false = sym w ∙ h in cc)

-- what binds less tightly than a call stands behind no `new`, unless it is one
pub low_new : (s : List Form) (e : Expr) → level e ≤ 16 → is_bare e ≡ false → BindsNew s e → is_new s ≡ false
low_new s e l b h = pick (is_new s) h
  where
    pick : (v : Bool) → (v ≡ true → (17 ≤ level e) ⊎ (is_bare e ≡ true)) → v ≡ false
    pick true f = elim (f refl) [ inl high ↦ absurd (omega arith) | inr w ↦ absurd (let q : true ≡ false = sym w ∙ b in cc) ]
    pick false f = refl

-- what binds less tightly than a target stands not just behind `++` and `--`
pub low_place : (p : Place) (e : Expr) → level e ≤ 15 → Binds p e → after_update p ≡ false
low_place places.Whole e l h = refl
low_place places.First e l h = refl
low_place places.Later e l h = refl
low_place places.Update e l h = absurd (omega arith)

not_update : (p : Place) → after_update p ≡ false → p ≡ places.Update → ⊥
not_update places.Whole h e = cc
not_update places.First h e = cc
not_update places.Later h e = cc
not_update places.Update h e = cc

pub places_low : (p : Place) (s : List Form) (e : Expr) → after_update p ≡ false → Places p s e
places_low p s e h u = absurd (not_update p h u)

-- a target binds as tightly as a call
pub target_high : (b : Bool) (e : Expr) → is_target e ≡ true → Shaped b e → 16 ≤ level e
target_high b (Name x) g f = omega arith
target_high b (Paren e) g f = omega arith
target_high b (Dot e x) g f = let h = f.0 in omega arith
target_high b (At e j) g f = let h = f.0 in omega arith
target_high b (Call e xs) g f = cc
target_high b (NewWith e xs) g f = cc
target_high b (NewBare e) g f = cc
target_high b (Postfix e op) g f = cc
target_high b (Prefix op e) g f = cc
target_high b (Binary l op r) g f = cc
target_high b (Cond c l r) g f = cc
target_high b (Assign l op r) g f = cc
target_high b (Comma l r) g f = cc
target_high b _ g f = cc

-- a primary expression with suffixes ends in no `++` or `--`
chain_end : (e : Expr) → 15 ≤ level e → ends_in_update e ≡ false
chain_end (Postfix e op) h = absurd (omega arith)
chain_end (Prefix op e) h = absurd (omega arith)
chain_end (Binary l op r) h = absurd (let q = binary_low op in omega arith)
chain_end (Cond c l r) h = absurd (omega arith)
chain_end (Assign l op r) h = absurd (omega arith)
chain_end (Comma l r) h = absurd (omega arith)
chain_end _ h = refl

abbrev pub is_whole : Place → Bool
is_whole places.Whole = true
is_whole _ = false

shut_low : (q : Place) (s : List Form) (l : Expr) → is_whole q ≡ false → Shut q s l
shut_low places.Whole s l h = absurd (let w : true ≡ false = h in cc)
shut_low places.First s l h = tt
shut_low places.Later s l h = tt
shut_low places.Update s l h = tt

-- what follows an expression follows its last part
pub follows_part : (k : Class) (p q : Place) (s : List Form) (e l : Expr) → is_whole q ≡ false → ends_in_update l ≡ ends_in_update e → Follows k p s e → Follows k q s l
follows_part classes.OpenParen p q s e l w h f = h ∙ f
follows_part classes.OpenBracket p q s e l w h f = h ∙ f
follows_part classes.Dot p q s e l w h f = h ∙ f
follows_part classes.CloseParen p q s e l w h f = shut_low q s l w
follows_part _ p q s e l w h f = tt

shut_new : (p : Place) (s : List Form) (e : Expr) → Shut p (forms.New ∷ s) e
shut_new places.Whole s e = tt
shut_new places.First s e = tt
shut_new places.Later s e = tt
shut_new places.Update s e = tt

-- behind `new f` stands no suffix
pub follows_new : (k : Class) (p : Place) (s : List Form) (f : Expr) → Follows k p s (NewBare f) → Follows k p (forms.New ∷ s) f
follows_new classes.OpenParen p s f h = absurd (let q : false ≡ true = h in cc)
follows_new classes.OpenBracket p s f h = absurd (let q : false ≡ true = h in cc)
follows_new classes.Dot p s f h = absurd (let q : false ≡ true = h in cc)
follows_new classes.CloseParen p s f h = shut_new p s f
follows_new _ p s f h = tt

-- a token that stands at the place
pub follows_token : (toks : List Tok) (n : ℕ) (token : Token) (p : Place) (s : List Form) (e : Expr) → HasToken toks n token → Follows (class_of token) p s e → Follows (class_here toks n) p s e
follows_token toks n token p s e h f = subst (λ (z : Option Token). Follows (class_at z) p s e) (sym h) f

pub follows_operator : (op : BinaryOperator) (p : Place) (s : List Form) (e : Expr) → Follows (class_of (binary_token op)) p s e
follows_operator binaries.Multiply p s e = tt
follows_operator _ p s e = tt

-- behind an operand no `++` or `--` goes on where it has no target before it on its line
no_postfix : (s : List Form) (r : State) → is_new s ≡ false → step classes.Update true s controls.Behind ≡ Some r → ⊥
no_postfix [] r n h = cc
no_postfix (forms.New ∷ rest) r n h = cc
no_postfix (f ∷ rest) r n h = cc

in_target : (j : Bool) (p : Place) (s : List Form) (r : State) → is_new s ≡ false → step classes.In j s controls.Behind ≡ Some r → act (target classes.In j p (top s)) s (λ d. below classes.In j s d) ≡ Some r
in_target j places.Whole [] r n h = h
in_target j places.Whole (forms.ForInit ∷ rest) r n h = absurd (let q : None ≡ Some r = h in cc)
in_target j places.Whole (f ∷ rest) r n h = h
in_target j p s r n h = h

closed_target : (j : Bool) (p : Place) (s : List Form) (e : Expr) (r : State) → is_target e ≡ true → Shut p s e → step classes.CloseParen j s controls.Behind ≡ Some r → act (target classes.CloseParen j p (top s)) s (λ d. below classes.CloseParen j s d) ≡ Some r
closed_target j places.Whole [] e r g u h = h
closed_target j places.Whole (forms.Paren q ∷ rest) e r g u h = absurd (let q : true ≡ false = sym g ∙ u in cc)
closed_target j places.Whole (f ∷ rest) e r g u h = h
closed_target j p s e r g u h = h

refused : (k : Class) (j : Bool) (s : List Form) (r : State) → (step k j s controls.Behind ≡ None) → step k j s controls.Behind ≡ Some r → ⊥
refused k j s r p q = cc

-- behind a target a token that is no suffix does what it does behind any operand
target_step : (k : Class) (j : Bool) (p : Place) (s : List Form) (e : Expr) (r : State) → is_new s ≡ false → is_target e ≡ true → ends_in_update e ≡ false → Follows k p s e → step k j s controls.Behind ≡ Some r
    → act (target k j p (top s)) s (λ d. below k j s d) ≡ Some r
target_step classes.Update true p s e r n g u f h = absurd (no_postfix s r n h)
target_step classes.Update false p s e r n g u f h = h
target_step classes.Assign j p s e r n g u f h = absurd (refused classes.Assign j s r (behind_step classes.Assign j s n) h)
target_step classes.AssignWith j p s e r n g u f h = absurd (refused classes.AssignWith j s r (behind_step classes.AssignWith j s n) h)
target_step classes.In j p s e r n g u f h = in_target j p s r n h
target_step classes.CloseParen j p s e r n g u f h = closed_target j p s e r g f h
target_step _ j p s e r n g u f h = h

-- the same, whether a target or not
bare_step : (k : Class) (j : Bool) (p : Place) (s : List Form) (e : Expr) (r : State) (t : Bool) → is_target e ≡ t → is_new s ≡ false → Places p s e → ends_in_update e ≡ false → Follows k p s e
    → step k j s controls.Behind ≡ Some r → act (bare_top t k j p (top s)) s (λ d. below k j s d) ≡ Some r
bare_step k j p s e r true g n q u f h = target_step k j p s e r n g u f h
bare_step k j places.Whole s e r false g n q u f h = h
bare_step k j places.First s e r false g n q u f h = h
bare_step k j places.Later s e r false g n q u f h = h
bare_step k j places.Update s e r false g n q u f h = absurd (let w = (q refl).0 in let z : true ≡ false = sym w ∙ g in cc)

-- a token that is no suffix
plain_step : (k : Class) (j : Bool) (p : Place) (s : List Form) (e : Expr) (r : State) → Places p s e → ends_in_update e ≡ false → Follows k p s e → step k j s controls.Behind ≡ Some r
    → act (bare (top s) k j p (is_target e)) s (λ d. below k j s d) ≡ Some r
plain_step k j places.Whole (forms.New ∷ rest) e r q u f h = h
plain_step k j places.First (forms.New ∷ rest) e r q u f h = h
plain_step k j places.Later (forms.New ∷ rest) e r q u f h = h
plain_step k j places.Update (forms.New ∷ rest) e r q u f h = absurd (let w : true ≡ false = (q refl).1 in cc)
plain_step k j p [] e r q u f h = bare_step k j p [] e r (is_target e) refl refl q u f h
plain_step k j p (x ∷ rest) e r q u f h = bare_step k j p (x ∷ rest) e r (is_target e) refl refl q u f h

have_step : (k : Class) (j : Bool) (p : Place) (s : List Form) (e : Expr) (r : State) → Places p s e → ends_in_update e ≡ false → Follows k p s e → step k j s controls.Behind ≡ Some r
    → step k j s (controls.Have p (is_target e)) ≡ Some r
have_step classes.OpenParen j p s e r q u f h = absurd (let w : true ≡ false = sym f ∙ u in cc)
have_step classes.OpenBracket j p s e r q u f h = absurd (let w : true ≡ false = sym f ∙ u in cc)
have_step classes.Dot j p s e r q u f h = absurd (let w : true ≡ false = sym f ∙ u in cc)
have_step k j p s e r q u f h = plain_step k j p s e r q u f h

-- behind a primary expression with suffixes stands no further one
chain_other : (toks : List Tok) (p : Place) (s : List Form) (e : Expr) (i n : ℕ) → 16 ≤ level e → (Runs toks n (state (controls.Have p (is_target e)) s) → Runs toks i (state (controls.Want p) s))
    → Places p s e → Follows (class_here toks n) p s e → Runs toks n (state controls.Behind s) → Runs toks i (state (controls.Want p) s)
chain_other toks p s e i n l chain q f run =
    chain (lift_here toks n (state controls.Behind s) (state (controls.Have p (is_target e)) s)
    (λ r h. have_step (class_here toks n) (joined_here toks n) p s e r q (chain_end e (omega arith)) f h) run)

pub by_chain : (toks : List Tok) (p : Place) (s : List Form) (e : Expr) (i n : ℕ) → 16 ≤ level e → (Runs toks n (state (controls.Have p (is_target e)) s) → Runs toks i (state (controls.Want p) s)) → Taking toks p s e i n
by_chain toks p s e i n l chain = record { chain = λ h. chain; other = chain_other toks p s e i n l chain }
