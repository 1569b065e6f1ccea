-- Operands are taken: each form from its parts.
use Rattle.std.proofs.Common.{◌≡◌, ℕ, ◌+◌, ◌≤◌, Bool, true, false, List, [], ◌∷◌, Option, Some, None, refl, sym, ap, ◌∙◌, subst, arith}
use Rattle.wjs_base.specs.declared.ids.TextId.{TextId}
use Rattle.wjs_tree.specs.declared.tokens.Tok.{Tok}
use Rattle.wjs_tree.specs.declared.tokens.Token.{Token}
use Rattle.wjs_tree.specs.declared.tokens.Token.TheVariants as tokens
use Rattle.wjs_tree.specs.declared.signs.Sign.TheVariants as signs
use Rattle.wjs_tree.specs.declared.keys.Key.{Key}
use Rattle.wjs_tree.specs.declared.keys.Key.TheVariants as keys
use Rattle.wjs_tree.specs.declared.node.Spelt.{Spelt}
use Rattle.wjs_tree.specs.declared.node.Spelt.TheVariants as spelts
use Rattle.wjs_tree.specs.declared.operators.UpdateOperator.{UpdateOperator}
use Rattle.wjs_tree.specs.declared.operators.UpdateOperator.TheVariants as updates
use Rattle.wjs_tree.specs.declared.operators.PrefixOperator.{PrefixOperator}
use Rattle.wjs_tree.specs.declared.operators.PrefixOperator.TheVariants as prefixes
use Rattle.wjs_tree.specs.declared.operators.BinaryOperator.{BinaryOperator}
use Rattle.wjs_tree.specs.declared.operators.AssignOperator.{AssignOperator}
use Rattle.wjs_tree.specs.declared.operators.AssignOperator.TheVariants as assigns
use Rattle.wjs_tree.specs.Operators.{update_token, prefix_token, binary_token, assign_token, is_update, IsAllowed}
use Rattle.wjs_tree.specs.Trees.{Expr, Arguments, Paren, Dot, At, Call, NewWith, NewBare, Postfix, Prefix, Binary, Cond, Assign, Comma}
use Rattle.wjs_tree.specs.Levels.{level, is_target}
use Rattle.wjs_tree.specs.Formed.{Shaped}
use Rattle.wjs_tree.specs.Ends.{HasToken, HasSign, HasKey, IsJoined}
use Rattle.wjs_tree.specs.Spelling.{spelt_token}
use Rattle.wjs_forms.specs.declared.class.Class.{Class}
use Rattle.wjs_forms.specs.declared.class.Class.TheVariants as classes
use Rattle.wjs_forms.specs.declared.forms.Place.{Place}
use Rattle.wjs_forms.specs.declared.forms.Place.TheVariants as places
use Rattle.wjs_forms.specs.declared.forms.Form.{Form}
use Rattle.wjs_forms.specs.declared.forms.Form.TheVariants as forms
use Rattle.wjs_forms.specs.declared.forms.Control.TheVariants as controls
use Rattle.wjs_forms.specs.declared.forms.Move.{Move}
use Rattle.wjs_forms.specs.declared.forms.Move.TheVariants as moves
use Rattle.wjs_forms.specs.Classes.{class_of, is_name}
use Rattle.wjs_forms.specs.Table.{unless, after_update, assigns as assign_move}
use Rattle.wjs_forms.specs.Moves.{dotted}
use Rattle.wjs_forms.specs.States.{State, state, top, act, below, step, Runs}
use Rattle.wjs_forms.proofs.Runs.{joined_here, class_here, step_on, lift_here}
use Rattle.wjs_forms.proofs.Tops.{is_new, no_in, bare_is, call_is, no_bar, behind_step, operator_step}
use Rattle.wjs_forms.proofs.Follows.{Places, Follows, Taking, is_whole, places_low, target_high, follows_part, follows_new, follows_token, follows_operator, by_chain}

-- a run from a place that is said otherwise
pub moved : (toks : List Tok) (s : State) (n m : ℕ) → n ≡ m → Runs toks n s → Runs toks m s
moved toks s n m e run = subst (λ (z : ℕ). Runs toks z s) e run

-- each key is a name behind a dot
key_is_name : (k : Key) → is_name (class_of (tokens.Key k)) ≡ true
key_is_name keys.Break = refl
key_is_name _ = refl

pub spelt_is_name : (x : Spelt) → is_name (class_of (spelt_token x)) ≡ true
spelt_is_name (spelts.Word w) = refl
spelt_is_name (spelts.Key k) = key_is_name k

dot_step : (x : Spelt) (j : Bool) (p : Place) (s : List Form) → step (class_of (spelt_token x)) j s (controls.Dot p) ≡ Some (state (controls.Have p true) s)
dot_step x j p s = ap (λ (z : Bool). act (dotted z p) s (λ d. below (class_of (spelt_token x)) j s d)) (spelt_is_name x)

call_step : (j : Bool) (p : Place) (t : Bool) (s : List Form) → is_new s ≡ false → step classes.OpenParen j s (controls.Have p t) ≡ Some (state controls.ArgumentOrEnd (forms.Arguments p ∷ s))
call_step j p t s bar = ap (λ (z : Move). act z s (λ d. below classes.OpenParen j s d)) (call_is s bar p)

update_step : (p : Place) (s : List Form) → is_new s ≡ false → after_update p ≡ false → step classes.Update true s (controls.Have p true) ≡ Some (state controls.Behind s)
update_step p s bar u = ap (λ (z : Move). act z s (λ d. below classes.Update true s d)) (bare_is s bar classes.Update true p true)
    ∙ ap (λ (z : Bool). act (unless z (moves.Stay controls.Behind)) s (λ d. below classes.Update true s d)) u

postfix_step : (op : UpdateOperator) (j : Bool) (p : Place) (s : List Form) → j ≡ true → is_new s ≡ false → after_update p ≡ false → step (class_of (update_token op)) j s (controls.Have p true) ≡ Some (state controls.Behind s)
postfix_step updates.Increment j p s e bar u = subst (λ (z : Bool). step classes.Update z s (controls.Have p true) ≡ Some (state controls.Behind s)) (sym e) (update_step p s bar u)
postfix_step updates.Decrement j p s e bar u = subst (λ (z : Bool). step classes.Update z s (controls.Have p true) ≡ Some (state controls.Behind s)) (sym e) (update_step p s bar u)

-- the place of the operand behind an operator before it
abbrev pub prefix_place : PrefixOperator → Place
prefix_place prefixes.Increment = places.Update
prefix_place prefixes.Decrement = places.Update
prefix_place _ = places.Later

update_prefix : (op : PrefixOperator) → prefix_place op ≡ places.Update → is_update op ≡ true
update_prefix prefixes.Increment h = refl
update_prefix prefixes.Decrement h = refl
update_prefix _ h = cc

prefix_not_whole : (op : PrefixOperator) → is_whole (prefix_place op) ≡ false
prefix_not_whole prefixes.Increment = refl
prefix_not_whole _ = refl

prefix_step : (op : PrefixOperator) (j : Bool) (p : Place) (s : List Form) → is_new s ≡ false → after_update p ≡ false → step (class_of (prefix_token op)) j s (controls.Want p) ≡ Some (state (controls.Want (prefix_place op)) s)
prefix_step prefixes.Increment j p s bar u = ap (λ (z : Bool). act (unless z (moves.Stay (controls.Want places.Update))) s (λ d. below classes.Update j s d)) (no_bar s bar p u)
prefix_step prefixes.Decrement j p s bar u = ap (λ (z : Bool). act (unless z (moves.Stay (controls.Want places.Update))) s (λ d. below classes.Update j s d)) (no_bar s bar p u)
prefix_step op j p s bar u = ap (λ (z : Bool). act (unless z (moves.Stay (controls.Want places.Later))) s (λ d. below (class_of (prefix_token op)) j s d)) (no_bar s bar p u)

assign_step : (op : AssignOperator) (j : Bool) (p : Place) (s : List Form) → is_new s ≡ false → assign_move p ≡ moves.Stay (controls.Want places.First) → step (class_of (assign_token op)) j s (controls.Have p true) ≡ Some (state (controls.Want places.First) s)
assign_step assigns.Plain j p s bar m = ap (λ (z : Move). act z s (λ d. below classes.Assign j s d)) (bare_is s bar classes.Assign j p true ∙ m)
assign_step op j p s bar m = ap (λ (z : Move). act z s (λ d. below classes.AssignWith j s d)) (bare_is s bar classes.AssignWith j p true ∙ m)

module _ (toks : List Tok) (p : Place) (s : List Form) (i n : ℕ) where
  -- one token
  pub one_token : (e : Expr) (token : Token) → 16 ≤ level e → HasToken toks i token → ((j : Bool) → step (class_of token) j s (controls.Want p) ≡ Some (state (controls.Have p (is_target e)) s)) → n ≡ i + 1 → Taking toks p s e i n
  one_token e token l h f q = by_chain toks p s e i n l (λ run. step_on toks i token _ _ h (f (joined_here toks i)) (moved toks _ n (i + 1) q run))

  pub paren : (e : Expr) (m : ℕ) (b : Bool) → HasSign toks i signs.OpenParen → HasSign toks m signs.CloseParen → n ≡ m + 1 → Shaped b e → Taking toks places.Whole (forms.Paren p ∷ s) e (i + 1) m → Taking toks p s (Paren e) i n
  paren e m b o c q f x = by_chain toks p s (Paren e) i n (omega arith) (λ run.
      step_on toks i (tokens.Sign signs.OpenParen) _ (state (controls.Want places.Whole) (forms.Paren p ∷ s)) o refl (inside (is_target e) refl (moved toks _ n (m + 1) q run)))
    where
      inside : (t : Bool) → is_target e ≡ t → Runs toks (m + 1) (state (controls.Have p t) s) → Runs toks (i + 1) (state (controls.Want places.Whole) (forms.Paren p ∷ s))
      inside true g run = x.chain (target_high b e g f)
          (subst (λ (z : Bool). Runs toks m (state (controls.Have places.Whole z) (forms.Paren p ∷ s))) (sym g) (step_on toks m (tokens.Sign signs.CloseParen) _ _ c refl run))
      inside false g run = x.other (places_low places.Whole (forms.Paren p ∷ s) e refl) (follows_token toks m (tokens.Sign signs.CloseParen) places.Whole (forms.Paren p ∷ s) e c g) (step_on toks m (tokens.Sign signs.CloseParen) _ _ c refl run)

  pub dot : (e : Expr) (x : Spelt) (m : ℕ) → 16 ≤ level e → HasSign toks m signs.Dot → HasToken toks (m + 1) (spelt_token x) → n ≡ m + 2 → Taking toks p s e i m → Taking toks p s (Dot e x) i n
  dot e x m l d h q t = by_chain toks p s (Dot e x) i n (omega arith) (λ run.
      t.chain l (step_on toks m (tokens.Sign signs.Dot) _ (state (controls.Dot p) s) d refl
      (step_on toks (m + 1) (spelt_token x) _ _ h (dot_step x _ p s) (moved toks _ n (m + 1 + 1) (omega arith) run))))

  pub index : (e l : Expr) (m k : ℕ) → 16 ≤ level e → HasSign toks m signs.OpenBracket → HasSign toks k signs.CloseBracket → n ≡ k + 1 → Taking toks p s e i m → Taking toks places.Whole (forms.Index p ∷ s) l (m + 1) k → Taking toks p s (At e l) i n
  index e l m k h o c q x y = by_chain toks p s (At e l) i n (omega arith) (λ run.
      x.chain h (step_on toks m (tokens.Sign signs.OpenBracket) _ (state (controls.Want places.Whole) (forms.Index p ∷ s)) o refl
      (y.other (places_low places.Whole (forms.Index p ∷ s) l refl) (follows_token toks k (tokens.Sign signs.CloseBracket) places.Whole (forms.Index p ∷ s) l c tt)
      (step_on toks k (tokens.Sign signs.CloseBracket) _ _ c refl (moved toks _ n (k + 1) q run)))))

  pub call : (e : Expr) (xs : Arguments) (m k : ℕ) → is_new s ≡ false → 16 ≤ level e → HasSign toks m signs.OpenParen → n ≡ k + 1 → Taking toks p s e i m
      → (Runs toks (k + 1) (state (controls.Have p false) s) → Runs toks (m + 1) (state controls.ArgumentOrEnd (forms.Arguments p ∷ s))) → Taking toks p s (Call e xs) i n
  call e xs m k bar l o q x args = by_chain toks p s (Call e xs) i n (omega arith) (λ run.
      x.chain l (step_on toks m (tokens.Sign signs.OpenParen) _ _ o (call_step _ p (is_target e) s bar) (args (moved toks _ n (k + 1) q run))))

  pub new_with : (e : Expr) (xs : Arguments) (m k : ℕ) → 17 ≤ level e → HasKey toks i keys.New → HasSign toks m signs.OpenParen → n ≡ k + 1 → Taking toks p (forms.New ∷ s) e (i + 1) m
      → (Runs toks (k + 1) (state (controls.Have p false) s) → Runs toks (m + 1) (state controls.ArgumentOrEnd (forms.Arguments p ∷ s))) → Taking toks p s (NewWith e xs) i n
  new_with e xs m k l h o q x args = by_chain toks p s (NewWith e xs) i n (omega arith) (λ run.
      step_on toks i (tokens.Key keys.New) _ (state (controls.Want p) (forms.New ∷ s)) h refl
      (x.chain (omega arith) (step_on toks m (tokens.Sign signs.OpenParen) _ (state controls.ArgumentOrEnd (forms.Arguments p ∷ s)) o refl (args (moved toks _ n (k + 1) q run)))))

  pub new_bare : (e : Expr) → after_update p ≡ false → HasKey toks i keys.New → Taking toks p (forms.New ∷ s) e (i + 1) n → Taking toks p s (NewBare e) i n
  new_bare e u h x = record {
    chain = λ l. absurd (omega arith);
    other = λ q f run. step_on toks i (tokens.Key keys.New) _ (state (controls.Want p) (forms.New ∷ s)) h refl
        (x.other (places_low p (forms.New ∷ s) e u) (follows_new (class_here toks n) p s e f) (lift_here toks n (state controls.Behind s) (state controls.Behind (forms.New ∷ s)) (λ r w. w) run));
  }

  pub postfix : (e : Expr) (op : UpdateOperator) (m : ℕ) (b : Bool) → after_update p ≡ false → is_new s ≡ false → is_target e ≡ true → Shaped b e → HasToken toks m (update_token op) → IsJoined toks m → n ≡ m + 1 → Taking toks p s e i m
      → Taking toks p s (Postfix e op) i n
  postfix e op m b u bar g f h j q x = record {
    chain = λ l. absurd (omega arith);
    other = λ w z run. x.chain (target_high b e g f) (subst (λ (t : Bool). Runs toks m (state (controls.Have p t) s)) (sym g)
        (step_on toks m (update_token op) _ _ h (postfix_step op _ p s j bar u) (moved toks _ n (m + 1) q run)));
  }

  pub prefix : (op : PrefixOperator) (e : Expr) → after_update p ≡ false → is_new s ≡ false → (is_update op ≡ true → is_target e ≡ true) → HasToken toks i (prefix_token op) → Taking toks (prefix_place op) s e (i + 1) n → Taking toks p s (Prefix op e) i n
  prefix op e u bar g h x = record {
    chain = λ l. absurd (omega arith);
    other = λ w f run. step_on toks i (prefix_token op) _ _ h (prefix_step op _ p s bar u)
        (x.other (λ q. (g (update_prefix op q), bar)) (follows_part (class_here toks n) p (prefix_place op) s (Prefix op e) e (prefix_not_whole op) refl f) run);
  }

  pub binary : (a : Expr) (op : BinaryOperator) (b : Expr) (m : ℕ) → level (Binary a op b) ≤ 12 → after_update p ≡ false → is_new s ≡ false → IsAllowed (no_in s) op → HasToken toks m (binary_token op) → Taking toks p s a i m
      → Taking toks places.Later s b (m + 1) n → Taking toks p s (Binary a op b) i n
  binary a op b m low u bar ok h x y = record {
    chain = λ l. absurd (omega arith);
    other = λ w f run. x.other (places_low p s a u) (follows_token toks m (binary_token op) p s a h (follows_operator op p s a))
        (step_on toks m (binary_token op) _ _ h (operator_step op _ s bar ok)
        (y.other (places_low places.Later s b refl) (follows_part (class_here toks n) p places.Later s (Binary a op b) b refl refl f) run));
  }

  pub cond : (c a b : Expr) (m k : ℕ) → after_update p ≡ false → is_new s ≡ false → HasSign toks m signs.Question → HasSign toks k signs.Colon → Taking toks p s c i m → Taking toks places.First (forms.Cond ∷ s) a (m + 1) k
      → Taking toks places.First s b (k + 1) n → Taking toks p s (Cond c a b) i n
  cond c a b m k u bar h d x y z = record {
    chain = λ l. absurd (omega arith);
    other = λ w f run. x.other (places_low p s c u) (follows_token toks m (tokens.Sign signs.Question) p s c h tt)
        (step_on toks m (tokens.Sign signs.Question) _ _ h (behind_step classes.Question _ s bar)
        (y.other (places_low places.First (forms.Cond ∷ s) a refl) (follows_token toks k (tokens.Sign signs.Colon) places.First (forms.Cond ∷ s) a d tt)
        (step_on toks k (tokens.Sign signs.Colon) _ _ d refl
        (z.other (places_low places.First s b refl) (follows_part (class_here toks n) p places.First s (Cond c a b) b refl refl f) run))));
  }

  pub assign : (t : Expr) (op : AssignOperator) (e : Expr) (m : ℕ) (b : Bool) → assign_move p ≡ moves.Stay (controls.Want places.First) → is_new s ≡ false → is_target t ≡ true → Shaped b t → HasToken toks m (assign_token op)
      → Taking toks p s t i m → Taking toks places.First s e (m + 1) n → Taking toks p s (Assign t op e) i n
  assign t op e m b v bar g f h x y = record {
    chain = λ l. absurd (omega arith);
    other = λ w z run. x.chain (target_high b t g f) (subst (λ (o : Bool). Runs toks m (state (controls.Have p o) s)) (sym g)
        (step_on toks m (assign_token op) _ _ h (assign_step op _ p s bar v)
        (y.other (places_low places.First s e refl) (follows_part (class_here toks n) p places.First s (Assign t op e) e refl refl z) run)));
  }

  pub comma : (a b : Expr) (m : ℕ) → after_update p ≡ false → ((j : Bool) → step classes.Comma j s controls.Behind ≡ Some (state (controls.Want places.First) s)) → HasSign toks m signs.Comma → Taking toks p s a i m
      → Taking toks places.First s b (m + 1) n → Taking toks p s (Comma a b) i n
  comma a b m u base h x y = record {
    chain = λ l. absurd (omega arith);
    other = λ w f run. x.other (places_low p s a u) (follows_token toks m (tokens.Sign signs.Comma) p s a h tt)
        (step_on toks m (tokens.Sign signs.Comma) _ _ h (base _)
        (y.other (places_low places.First s b refl) (follows_part (class_here toks n) p places.First s (Comma a b) b refl refl f) run));
  }
