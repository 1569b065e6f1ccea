-- The tokens before the parts of a statement.
use Rattle.std.proofs.Common.{◌≡◌, ℕ, ◌+◌, Bool, true, false, List, [], ◌∷◌, Option, Some, None, refl, sym, ap, ◌∙◌, subst, arith}
use Rattle.wjs_base.specs.declared.ids.TextId.{TextId}
use Rattle.wjs_tree.specs.declared.tokens.Tok.{Tok}
use Rattle.wjs_tree.specs.declared.tokens.Token.TheVariants as tokens
use Rattle.wjs_tree.specs.declared.signs.Sign.{Sign}
use Rattle.wjs_tree.specs.declared.signs.Sign.TheVariants as signs
use Rattle.wjs_tree.specs.declared.keys.Key.{Key}
use Rattle.wjs_tree.specs.declared.keys.Key.TheVariants as keys
use Rattle.wjs_tree.specs.declared.node.PropertyKey.{PropertyKey}
use Rattle.wjs_tree.specs.declared.node.PropertyKey.TheVariants as property_keys
use Rattle.wjs_tree.specs.declared.node.Spelt.TheVariants as spelts
use Rattle.wjs_tree.specs.Trees.{Expr}
use Rattle.wjs_tree.specs.Levels.{is_target}
use Rattle.wjs_tree.specs.Formed.{Shaped}
use Rattle.wjs_tree.specs.Ends.{HasToken, HasSign, HasKey}
use Rattle.wjs_tree.specs.Spelling.{property_token, FormalsStand}
use Rattle.wjs_forms.specs.declared.class.Class.TheVariants as classes
use Rattle.wjs_forms.specs.declared.forms.Place.{Place}
use Rattle.wjs_forms.specs.declared.forms.Place.TheVariants as places
use Rattle.wjs_forms.specs.declared.forms.Form.{Form}
use Rattle.wjs_forms.specs.declared.forms.Form.TheVariants as forms
use Rattle.wjs_forms.specs.declared.forms.Control.{Control}
use Rattle.wjs_forms.specs.declared.forms.Control.TheVariants as controls
use Rattle.wjs_forms.specs.Classes.{class_of, class_at}
use Rattle.wjs_forms.specs.States.{State, state, step, Runs}
use Rattle.wjs_forms.proofs.Runs.{class_here, step_on}
use Rattle.wjs_forms.proofs.Follows.{Taking, target_high}
use Rattle.wjs_forms.proofs.Operands.{moved}
use Rattle.wjs_forms.proofs.Beginnings.{init_runs}
use Rattle.wjs_forms.proofs.Statements.{on_sign, on_key, on_word, closed_by}

pub place_sign : (toks : List Tok) (i j : ℕ) (sign : Sign) → i ≡ j → HasSign toks i sign → HasSign toks j sign
place_sign toks i j sign e h = subst (λ (z : ℕ). HasSign toks z sign) e h

pub place_word : (toks : List Tok) (i j : ℕ) (x : TextId) → i ≡ j → HasToken toks i (tokens.Word x) → HasToken toks j (tokens.Word x)
place_word toks i j x e h = subst (λ (z : ℕ). HasToken toks z (tokens.Word x)) e h

pub place_formals : (toks : List Tok) (xs : List TextId) (i j n : ℕ) → i ≡ j → FormalsStand toks xs i n → FormalsStand toks xs j n
place_formals toks xs i j n e h = subst (λ (z : ℕ). FormalsStand toks xs z n) e h

-- another key than `else`
pub not_else : (toks : List Tok) (i : ℕ) (key : Key) → HasKey toks i key → (class_of (tokens.Key key) ≡ classes.Else → ⊥) → class_here toks i ≡ classes.Else → ⊥
not_else toks i key h bar q = bar (sym (ap class_at h) ∙ q)

property_name : (key : PropertyKey) (j : Bool) (p : Place) (s : List Form) → step (class_of (property_token key)) j (forms.Object p ∷ s) controls.KeyOrEnd ≡ Some (state controls.KeyColon (forms.Object p ∷ s))
property_name (property_keys.Spelt (spelts.Word x)) j p s = refl
property_name (property_keys.Spelt (spelts.Key keys.Break)) j p s = refl
property_name (property_keys.Spelt (spelts.Key _)) j p s = refl
property_name (property_keys.Text x) j p s = refl
property_name (property_keys.Number n) j p s = refl

module _ (toks : List Tok) where
  -- the name of a property and its colon
  pub property : (key : PropertyKey) (p : Place) (s : List Form) (i : ℕ) → HasToken toks i (property_token key) → HasSign toks (i + 1) signs.Colon → Runs toks (i + 2) (state (controls.Want places.First) (forms.Object p ∷ s))
      → Runs toks i (state controls.KeyOrEnd (forms.Object p ∷ s))
  property key p s i h c run = step_on toks i (property_token key) _ (state controls.KeyColon (forms.Object p ∷ s)) h (property_name key _ p s)
      (on_sign toks (i + 1) signs.Colon _ (state (controls.Want places.First) (forms.Object p ∷ s)) c (λ j. refl) (moved toks _ (i + 2) (i + 1 + 1) (omega arith) run))

  -- `for (`
  pub for_head : (i : ℕ) (s : List Form) → HasKey toks i keys.For → HasSign toks (i + 1) signs.OpenParen → Runs toks (i + 2) (state controls.Init s) → Runs toks i (state controls.Body s)
  for_head i s k o run = on_key toks i keys.For _ (state controls.ForOpen s) k (λ j. refl)
      (on_sign toks (i + 1) signs.OpenParen _ (state controls.Init s) o (λ j. refl) (moved toks _ (i + 2) (i + 1 + 1) (omega arith) run))

  -- a target, `in`, an expression and `)`
  pub each : (t e : Expr) (s : List Form) (i a b : ℕ) → is_target t ≡ true → Shaped false t → HasKey toks a keys.In → HasSign toks b signs.CloseParen → Taking toks places.Whole (forms.ForInit ∷ s) t i a
      → Taking toks places.Whole (forms.Header ∷ s) e (a + 1) b → Runs toks (b + 1) (state controls.Body s) → Runs toks i (state controls.Init s)
  each t e s i a b g f k c x y run = init_runs toks i s
      (x.chain (target_high false t g f) (subst (λ (z : Bool). Runs toks a (state (controls.Have places.Whole z) (forms.ForInit ∷ s))) (sym g)
      (on_key toks a keys.In _ (state (controls.Want places.Whole) (forms.Header ∷ s)) k (λ j. refl) (closed_by toks (a + 1) b signs.CloseParen e (forms.Header ∷ s) (state controls.Body s) c tt (λ j. refl) y run))))

  -- `var`, a name, `in`, an expression and `)`; the header begins at i
  pub each_var : (x : TextId) (e : Expr) (s : List Form) (i b : ℕ) → HasKey toks (i + 2) keys.Var → HasToken toks (i + 3) (tokens.Word x) → HasKey toks (i + 4) keys.In → HasSign toks b signs.CloseParen
      → Taking toks places.Whole (forms.Header ∷ s) e (i + 5) b → Runs toks (b + 1) (state controls.Body s) → Runs toks (i + 2) (state controls.Init s)
  each_var x e s i b v w k c y run = on_key toks (i + 2) keys.Var _ (state controls.ForName (forms.ForVar ∷ s)) v (λ j. refl)
      (moved toks _ (i + 3) (i + 2 + 1) (omega arith) (on_word toks (i + 3) x _ (state controls.ForNamed (forms.ForVar ∷ s)) w (λ j. refl)
      (moved toks _ (i + 4) (i + 3 + 1) (omega arith) (on_key toks (i + 4) keys.In _ (state (controls.Want places.Whole) (forms.Header ∷ s)) k (λ j. refl)
      (moved toks _ (i + 5) (i + 4 + 1) (omega arith) (closed_by toks (i + 5) b signs.CloseParen e (forms.Header ∷ s) (state controls.Body s) c tt (λ j. refl) y run))))))

  -- `try {`
  pub try_head : (i : ℕ) (s : List Form) → HasKey toks i keys.Try → HasSign toks (i + 1) signs.OpenBrace → Runs toks (i + 2) (state controls.List (forms.TryBlock ∷ s)) → Runs toks i (state controls.Body s)
  try_head i s k o run = on_key toks i keys.Try _ (state controls.Brace (forms.TryBlock ∷ s)) k (λ j. refl)
      (on_sign toks (i + 1) signs.OpenBrace _ (state controls.List (forms.TryBlock ∷ s)) o (λ j. refl) (moved toks _ (i + 2) (i + 1 + 1) (omega arith) run))

  -- `catch (`, a name and `) {`
  pub catch_head : (x : TextId) (i : ℕ) (s : List Form) → HasKey toks i keys.Catch → HasSign toks (i + 1) signs.OpenParen → HasToken toks (i + 2) (tokens.Word x) → HasSign toks (i + 3) signs.CloseParen → HasSign toks (i + 4) signs.OpenBrace
      → Runs toks (i + 5) (state controls.List (forms.CatchBlock ∷ s)) → Runs toks i (state controls.CatchOrFinally s)
  catch_head x i s k o w p b run = on_key toks i keys.Catch _ (state controls.CatchOpen s) k (λ j. refl)
      (on_sign toks (i + 1) signs.OpenParen _ (state controls.CatchName s) o (λ j. refl)
      (moved toks _ (i + 2) (i + 1 + 1) (omega arith) (on_word toks (i + 2) x _ (state controls.CatchClose s) w (λ j. refl)
      (moved toks _ (i + 3) (i + 2 + 1) (omega arith) (on_sign toks (i + 3) signs.CloseParen _ (state controls.Brace (forms.CatchBlock ∷ s)) p (λ j. refl)
      (moved toks _ (i + 4) (i + 3 + 1) (omega arith) (on_sign toks (i + 4) signs.OpenBrace _ (state controls.List (forms.CatchBlock ∷ s)) b (λ j. refl) (moved toks _ (i + 5) (i + 4 + 1) (omega arith) run))))))))

  -- `finally {`
  pub finally_head : (i : ℕ) (c : Control) (s : List Form) → ((j : Bool) → step classes.Finally j s c ≡ Some (state controls.Brace (forms.Block ∷ s))) → HasKey toks i keys.Finally → HasSign toks (i + 1) signs.OpenBrace
      → Runs toks (i + 2) (state controls.List (forms.Block ∷ s)) → Runs toks i (state c s)
  finally_head i c s f k o run = on_key toks i keys.Finally _ (state controls.Brace (forms.Block ∷ s)) k f
      (on_sign toks (i + 1) signs.OpenBrace _ (state controls.List (forms.Block ∷ s)) o (λ j. refl) (moved toks _ (i + 2) (i + 1 + 1) (omega arith) run))

-- where a clause or the brace behind the last may stand: behind the first brace, or in a clause
abbrev pub clause_control : Bool → Control
clause_control true = controls.ClauseOrEnd
clause_control false = controls.List

pub clause_end : (first : Bool) (j : Bool) (s : List Form) → step classes.CloseBrace j (forms.Clauses ∷ s) (clause_control first) ≡ Some (state controls.Done s)
clause_end true j s = refl
clause_end false j s = refl

pub clause_case : (first : Bool) (j : Bool) (s : List Form) → step classes.Case j (forms.Clauses ∷ s) (clause_control first) ≡ Some (state (controls.Want places.Whole) (forms.CaseHead ∷ forms.Clauses ∷ s))
clause_case true j s = refl
clause_case false j s = refl

pub clause_default : (first : Bool) (j : Bool) (s : List Form) → step classes.Default j (forms.Clauses ∷ s) (clause_control first) ≡ Some (state controls.DefaultColon (forms.Clauses ∷ s))
clause_default true j s = refl
clause_default false j s = refl
