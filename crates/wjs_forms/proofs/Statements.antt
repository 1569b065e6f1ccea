-- Statements are taken: each form from its parts.
use Rattle.std.proofs.Common.{◌≡◌, ℕ, ◌+◌, ◌≤◌, Bool, true, false, List, [], ◌∷◌, Option, Some, None, refl, sym, ap, ◌∙◌, subst, arith}
use Rattle.wjs_base.specs.declared.ids.TextId.{TextId}
use Rattle.wjs_tree.specs.declared.tokens.Tok.{Tok}
use Rattle.wjs_tree.specs.declared.tokens.Token.{Token}
use Rattle.wjs_tree.specs.declared.tokens.Token.TheVariants as tokens
use Rattle.wjs_tree.specs.declared.signs.Sign.{Sign}
use Rattle.wjs_tree.specs.declared.signs.Sign.TheVariants as signs
use Rattle.wjs_tree.specs.declared.keys.Key.{Key}
use Rattle.wjs_tree.specs.declared.keys.Key.TheVariants as keys
use Rattle.wjs_tree.specs.declared.node.End.{End}
use Rattle.wjs_tree.specs.Trees.{Expr}
use Rattle.wjs_tree.specs.Levels.{level, is_target, ends_in_update, starts_with_brace}
use Rattle.wjs_tree.specs.Formed.{Shaped}
use Rattle.wjs_tree.specs.Ends.{HasToken, HasSign, HasKey, IsJoined, Complete, InExpr, Ends}
use Rattle.wjs_tree.specs.Spelling.{NameStands, FormalsStand, MoreFormalsStand, LabelStands, Stands}
use Rattle.wjs_forms.specs.declared.class.Class.{Class}
use Rattle.wjs_forms.specs.declared.class.Class.TheVariants as classes
use Rattle.wjs_forms.specs.declared.forms.Place.{Place}
use Rattle.wjs_forms.specs.declared.forms.Place.TheVariants as places
use Rattle.wjs_forms.specs.declared.forms.Form.{Form}
use Rattle.wjs_forms.specs.declared.forms.Form.TheVariants as forms
use Rattle.wjs_forms.specs.declared.forms.Control.{Control}
use Rattle.wjs_forms.specs.declared.forms.Control.TheVariants as controls
use Rattle.wjs_forms.specs.Classes.{class_of}
use Rattle.wjs_forms.specs.States.{State, state, step, Runs}
use Rattle.wjs_forms.proofs.Runs.{class_here, joined_here, step_on}
use Rattle.wjs_forms.proofs.Follows.{Follows, Shut, Taking, places_low, target_high, follows_token}
use Rattle.wjs_forms.proofs.Endings.{ended_here, complete_runs, value_runs, ended_follows_value}
use Rattle.wjs_forms.proofs.Operands.{moved}
use Rattle.wjs_forms.proofs.Beginnings.{no_brace, begin_runs, jump_runs, return_runs, value_runs as return_value_runs, joined_runs, then_runs}

module _ (toks : List Tok) where
  -- a sign leads on
  pub on_sign : (i : ℕ) (sign : Sign) (s r : State) → HasSign toks i sign → ((j : Bool) → step (class_of (tokens.Sign sign)) j s.forms s.control ≡ Some r) → Runs toks (i + 1) r → Runs toks i s
  on_sign i sign s r h f run = step_on toks i (tokens.Sign sign) s r h (f (joined_here toks i)) run

  -- a key leads on
  pub on_key : (i : ℕ) (key : Key) (s r : State) → HasKey toks i key → ((j : Bool) → step (class_of (tokens.Key key)) j s.forms s.control ≡ Some r) → Runs toks (i + 1) r → Runs toks i s
  on_key i key s r h f run = step_on toks i (tokens.Key key) s r h (f (joined_here toks i)) run

  -- a name leads on
  pub on_word : (i : ℕ) (x : TextId) (s r : State) → HasToken toks i (tokens.Word x) → ((j : Bool) → step classes.Word j s.forms s.control ≡ Some r) → Runs toks (i + 1) r → Runs toks i s
  on_word i x s r h f run = step_on toks i (tokens.Word x) s r h (f (joined_here toks i)) run

  -- an expression and the sign behind it, which makes no target of it
  pub closed_by : (i m : ℕ) (sign : Sign) (e : Expr) (s : List Form) (r : State) → HasSign toks m sign → Follows (class_of (tokens.Sign sign)) places.Whole s e → ((j : Bool) → step (class_of (tokens.Sign sign)) j s controls.Behind ≡ Some r)
      → Taking toks places.Whole s e i m → Runs toks (m + 1) r → Runs toks i (state (controls.Want places.Whole) s)
  closed_by i m sign e s r h w f x run = x.other (places_low places.Whole s e refl) (follows_token toks m (tokens.Sign sign) places.Whole s e h w) (on_sign m sign (state controls.Behind s) r h f run)

  -- formals behind a first one, up to the parenthesis that closes them
  more_formals : (xs : List TextId) (i n : ℕ) (s : List Form) → MoreFormalsStand toks xs i n → HasSign toks n signs.CloseParen → Runs toks (n + 1) (state controls.Brace s) → Runs toks i (state controls.FormalBehind s)
  more_formals [] i n s h c run = moved toks _ n i h (on_sign n signs.CloseParen _ (state controls.Brace s) c (λ j. refl) run)
  more_formals (x ∷ xs) i n s h c run =
      on_sign i signs.Comma _ (state controls.Formal s) h.0 (λ j. refl)
      (on_word (i + 1) x _ (state controls.FormalBehind s) h.1 (λ j. refl) (moved toks _ (i + 2) (i + 1 + 1) (omega arith) (more_formals xs (i + 2) n s h.2 c run)))

  formals : (xs : List TextId) (i n : ℕ) (s : List Form) → FormalsStand toks xs i n → HasSign toks n signs.CloseParen → Runs toks (n + 1) (state controls.Brace s) → Runs toks i (state controls.FormalOrEnd s)
  formals [] i n s h c run = moved toks _ n i h (on_sign n signs.CloseParen _ (state controls.Brace s) c (λ j. refl) run)
  formals (x ∷ xs) i n s h c run = on_word i x _ (state controls.FormalBehind s) h.0 (λ j. refl) (more_formals xs (i + 1) n s h.1 c run)

  -- the head of a function from the parenthesis on, up to the brace that opens its body
  pub head : (xs : List TextId) (i n : ℕ) (c : Control) (s : List Form) → ((j : Bool) → step classes.OpenParen j s c ≡ Some (state controls.FormalOrEnd s)) → HasSign toks i signs.OpenParen → FormalsStand toks xs (i + 1) n
      → HasSign toks n signs.CloseParen → HasSign toks (n + 1) signs.OpenBrace → Runs toks (n + 2) (state controls.List s) → Runs toks i (state c s)
  head xs i n c s f o h p b run =
      on_sign i signs.OpenParen _ (state controls.FormalOrEnd s) o f
      (formals xs (i + 1) n s h p (on_sign (n + 1) signs.OpenBrace _ (state controls.List s) b (λ j. refl) (moved toks _ (n + 2) (n + 1 + 1) (omega arith) run)))

  -- the name of a function expression, if it has one, before the parenthesis
  pub name : (x : Option TextId) (i n : ℕ) (s : List Form) → NameStands toks x i n → Runs toks n (state controls.NameOrFormals s) → Runs toks n (state controls.Formals s) → Runs toks i (state controls.NameOrFormals s)
  name None i n s h bare run = moved toks _ n i h bare
  name (Some x) i n s h bare run = on_word i x _ (state controls.Formals s) h.0 (λ j. refl) (moved toks _ n (i + 1) h.1 run)

  -- an expression with the end of its statement
  to_end : (e : Expr) (end : End) (i m n : ℕ) (s : List Form) → Ends toks (InExpr (ends_in_update e)) end m n → Taking toks places.Whole (forms.Value ∷ s) e i m → Runs toks n (state controls.Done s)
      → Runs toks i (state (controls.Want places.Whole) (forms.Value ∷ s))
  to_end e end i m n s h x run =
      x.other (places_low places.Whole (forms.Value ∷ s) e refl) (ended_follows_value (class_here toks m) s e (ended_here toks (InExpr (ends_in_update e)) end m n h)) (value_runs toks (ends_in_update e) end m n s h run)

  pub expression : (e : Expr) (end : End) (i m n : ℕ) (s : List Form) → starts_with_brace e ≡ false → Stands toks e i m → Ends toks (InExpr (ends_in_update e)) end m n → Taking toks places.Whole (forms.Value ∷ s) e i m
      → Runs toks n (state controls.Done s) → Runs toks i (state controls.Body s)
  expression e end i m n s b h w x run = begin_runs toks i s (no_brace toks e i m h b) (to_end e end i m n s w x run)

  label : (x : Option TextId) (i m : ℕ) (s : List Form) → LabelStands toks x i m → Runs toks m (state controls.Complete s) → Runs toks i (state controls.LabelOrEnd s)
  label None i m s h run = jump_runs toks i s (moved toks _ m i h run)
  label (Some x) i m s h run =
      step_on toks i (tokens.Word x) _ (state controls.Complete s) h.0 (subst (λ (j : Bool). step classes.Word j s controls.LabelOrEnd ≡ Some (state controls.Complete s)) (sym h.1) refl) (moved toks _ m (i + 1) h.2 run)

  pub jump : (key : Key) (x : Option TextId) (end : End) (i m n : ℕ) (s : List Form) → ((j : Bool) → step (class_of (tokens.Key key)) j s controls.Body ≡ Some (state controls.LabelOrEnd s)) → HasKey toks i key → LabelStands toks x (i + 1) m
      → Ends toks Complete end m n → Runs toks n (state controls.Done s) → Runs toks i (state controls.Body s)
  jump key x end i m n s f k h w run = on_key i key _ (state controls.LabelOrEnd s) k f (label x (i + 1) m s h (complete_runs toks Complete end m n s w run))

  pub bare_return : (end : End) (i n : ℕ) (s : List Form) → HasKey toks i keys.Return → Ends toks Complete end (i + 1) n → Runs toks n (state controls.Done s) → Runs toks i (state controls.Body s)
  bare_return end i n s k w run = on_key i keys.Return _ (state controls.ValueOrEnd s) k (λ j. refl) (return_runs toks (i + 1) s (complete_runs toks Complete end (i + 1) n s w run))

  pub return : (e : Expr) (end : End) (i m n : ℕ) (s : List Form) → HasKey toks i keys.Return → IsJoined toks (i + 1) → Ends toks (InExpr (ends_in_update e)) end m n → Taking toks places.Whole (forms.Value ∷ s) e (i + 1) m
      → Runs toks n (state controls.Done s) → Runs toks i (state controls.Body s)
  return e end i m n s k j w x run = on_key i keys.Return _ (state controls.ValueOrEnd s) k (λ z. refl) (return_value_runs toks (i + 1) s j (to_end e end (i + 1) m n s w x run))

  pub throw : (e : Expr) (end : End) (i m n : ℕ) (s : List Form) → HasKey toks i keys.Throw → IsJoined toks (i + 1) → Ends toks (InExpr (ends_in_update e)) end m n → Taking toks places.Whole (forms.Value ∷ s) e (i + 1) m
      → Runs toks n (state controls.Done s) → Runs toks i (state controls.Body s)
  throw e end i m n s k j w x run = on_key i keys.Throw _ (state controls.JoinedValue s) k (λ z. refl) (joined_runs toks (i + 1) s j (to_end e end (i + 1) m n s w x run))

  -- a key and a condition in parentheses, which the form holds
  pub guarded : (key : Key) (f : Form) (e : Expr) (i m : ℕ) (s : List Form) (from to : State) → ((j : Bool) → step (class_of (tokens.Key key)) j from.forms from.control ≡ Some (state controls.Open (f ∷ s)))
      → ((j : Bool) → step classes.CloseParen j (f ∷ s) controls.Behind ≡ Some to) → Shut places.Whole (f ∷ s) e → HasKey toks i key → HasSign toks (i + 1) signs.OpenParen → HasSign toks m signs.CloseParen
      → Taking toks places.Whole (f ∷ s) e (i + 2) m → Runs toks (m + 1) to → Runs toks i from
  guarded key f e i m s from to g c w k o p x run = on_key i key from (state controls.Open (f ∷ s)) k g
      (on_sign (i + 1) signs.OpenParen _ (state (controls.Want places.Whole) (f ∷ s)) o (λ j. refl)
      (moved toks _ (i + 2) (i + 1 + 1) (omega arith) (closed_by (i + 2) m signs.CloseParen e (f ∷ s) to p w c x run)))
