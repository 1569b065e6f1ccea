-- A choice or an assignment behind an operand.
use Rattle.std.proofs.Common.{◌≡◌, ℕ, ◌+◌, ◌<◌, ◌≤◌, ◌⊎◌, inl, inr, Bool, true, false, List, Option, Some, None, refl, sym, ap, ◌∙◌, subst, arith}
use Rattle.wjs_tree.specs.declared.signs.Sign.TheVariants as signs
use Rattle.wjs_tree.specs.declared.tokens.Tok.{Tok}
use Rattle.wjs_tree.specs.declared.node.Node.{Node}
use Rattle.wjs_parse_expr.specs.declared.parts.Part.{Part}
use Rattle.wjs_tree.specs.Trees.{Expr, Name, Paren, Dot, At, Binary, Cond, Assign, Comma}
use Rattle.wjs_parse_expr.specs.Reach.{reach, token_reach}
use Rattle.wjs_tree.specs.Levels.{level, is_target}
use Rattle.wjs_tree.specs.Formed.{WellFormed}
use Rattle.wjs_parse_expr.specs.Readings.{Reading, Continues}
use Rattle.wjs_tree.specs.Ends.{token_at, HasSign}
use Rattle.wjs_tree.specs.Shows.{Keeps}
use Rattle.wjs_parse_expr.specs.Answers.{Finds, Begun, Grows, Steps}
use Rattle.wjs_parse_expr.specs.Steps.{CondStep, AssignStep}
use Rattle.wjs_parse_expr.proofs.Reach.{assign_reach, binary_bounds}
use Rattle.wjs_tree.specs.Operators.{assign_token}
use Rattle.wjs_parse_expr.specs.Answers.{Origin}
use Rattle.wjs_parse_expr.proofs.Readings.{edge_low, lower}
use Rattle.wjs_tree.proofs.Forward.{forward}
use Rattle.std.specs.Option.{unwrap_or}
use Rattle.std.specs.declared.result.Result.TheVariants.{Ok}
use Rattle.wjs_parse_expr.proofs.OneStep.{IsStep, stays, goes}

-- a choice, or an assignment to a is_target
pub record RightStep (toks : List Tok) (no_in : Bool) (room : ℕ) (y : Expr) (f : ℕ) (y' : Expr) (f' : ℕ) : Type 0 where
  pub kind : CondStep toks no_in room y f y' f' ⊎ ((is_target y ≡ true) × AssignStep toks no_in room y f y' f')

RightParts : List Tok → Bool → ℕ → ℕ → Expr → ℕ → Type 0
RightParts toks no_in room i t n = Reading toks 3 no_in room i t n ⊎ ((x : Expr) × (e : ℕ) × Reading toks 3 no_in room i x e × RightStep toks no_in room x e t n)

operand : (toks : List Tok) (no_in : Bool) (room i : ℕ) (t : Expr) (n : ℕ) → 3 ≤ level t → Reading toks 1 no_in room i t n → RightParts toks no_in room i t n
unfolding RightParts
operand toks no_in room i t n h r = inl (record { level = h; formed = r.formed; height = r.height; stands = r.stands })

right_parts : (toks : List Tok) (no_in : Bool) (room i : ℕ) (t : Expr) (n : ℕ) → Reading toks 1 no_in room i t n → RightParts toks no_in room i t n
unfolding RightParts
right_parts toks no_in room i (Cond c a b) n r =
    inr (
      c,
      r.stands.0,
      record { level = r.formed.0; formed = r.formed.3; height = (let h = r.height in omega arith); stands = r.stands.2 },
      record {
        kind = inl (record {
          yes = a;
          no = b;
          colon = r.stands.1;
          is = refl;
          sign = r.stands.3;
          below = (let h = r.height in omega arith);
          yes_reading = record { level = r.formed.1; formed = r.formed.4; height = (let h = r.height in omega arith); stands = r.stands.4 };
          colon_sign = r.stands.5;
          no_reading = record { level = r.formed.2; formed = r.formed.5; height = (let h = r.height in omega arith); stands = r.stands.6 };
        });
      },
    )
right_parts toks no_in room i (Assign t op e) n r =
    inr (
      t,
      r.stands.0,
      record { level = (let l = r.formed.1 in omega arith); formed = r.formed.3; height = (let h = r.height in omega arith); stands = r.stands.1 },
      record {
        kind = inr (
          r.formed.0,
          record {
            op = op;
            value = e;
            is = refl;
            sign = r.stands.2;
            below = (let h = r.height in omega arith);
            reading = record { level = r.formed.2; formed = r.formed.4; height = (let h = r.height in omega arith); stands = r.stands.3 };
          },
        );
      },
    )
right_parts toks no_in room i (Comma a b) n r = absurd (let l = r.level in omega arith)
right_parts toks no_in room i (Dot e x) n r = operand toks no_in room i _ n (let f = r.formed.0 in omega arith) r
right_parts toks no_in room i (At e x) n r = operand toks no_in room i _ n (let f = r.formed.0 in omega arith) r
right_parts toks no_in room i (Binary a op b) n r =
    operand toks no_in room i _ n (let l = binary_bounds op in omega arith) r
right_parts toks no_in room i t n r = operand toks no_in room i t n (omega arith) r

-- a is_target has a high level
pub target_level : (no_in : Bool) (t : Expr) → is_target t ≡ true → WellFormed no_in t → 15 ≤ level t
target_level no_in (Name x) h w = omega arith
target_level no_in (Paren e) h w = omega arith
target_level no_in (Dot e x) h w = let l = w.0 in omega arith
target_level no_in (At e j) h w = let l = w.0 in omega arith
target_level no_in _ h w = cc

right_grows : (toks : List Tok) (no_in : Bool) (room i : ℕ) (y : Expr) (p : ℕ) (y' : Expr) (p' : ℕ) → Reading toks 3 no_in room i y p
    → CondStep toks no_in room y p y' p' ⊎ ((is_target y ≡ true) × AssignStep toks no_in room y p y' p') → Reading toks 1 no_in room i y' p'
right_grows toks no_in room i y p y' p' r (inl s) =
    subst (λ (u : Expr). Reading toks 1 no_in room i u p') (sym s.is)
    (record {
      level = omega arith;
      formed = (r.level, s.yes_reading.level, s.no_reading.level, r.formed, s.yes_reading.formed, s.no_reading.formed);
      height = (let h = r.height in let h1 = s.yes_reading.height in let h2 = s.no_reading.height in let w = s.below in omega arith);
      stands = (p, s.colon, r.stands, s.sign, s.yes_reading.stands, s.colon_sign, s.no_reading.stands);
    })
right_grows toks no_in room i y p y' p' r (inr (isTarget, s)) =
    subst (λ (u : Expr). Reading toks 1 no_in room i u p') (sym s.is)
    (record {
      level = omega arith;
      formed = (isTarget, target_level no_in y isTarget r.formed, s.reading.level, r.formed, s.reading.formed);
      height = (let h = r.height in let h1 = s.reading.height in let w = s.below in omega arith);
      stands = (p, r.stands, s.sign, s.reading.stands);
    })

right_reach : (toks : List Tok) (no_in : Bool) (room : ℕ) (y : Expr) (p : ℕ) (y' : Expr) (p' : ℕ) → CondStep toks no_in room y p y' p' ⊎ ((is_target y ≡ true) × AssignStep toks no_in room y p y' p')
    → (2 ≤ reach no_in (token_at toks p)) × (reach no_in (token_at toks p) ≤ 3)
right_reach toks no_in room y p y' p' (inl s) = let e : reach no_in (token_at toks p) ≡ 3 = ap (reach no_in) s.sign in omega arith
right_reach toks no_in room y p y' p' (inr (isTarget, s)) =
    let e : reach no_in (token_at toks p) ≡ token_reach no_in (assign_token s.op) = ap (reach no_in) s.sign in
    let q = assign_reach no_in s.op in omega arith

right_forward : (toks : List Tok) (no_in : Bool) (room : ℕ) (y : Expr) (p : ℕ) (y' : Expr) (p' : ℕ) → CondStep toks no_in room y p y' p' ⊎ ((is_target y ≡ true) × AssignStep toks no_in room y p y' p') → p < p'
right_forward toks no_in room y p y' p' (inl s) = omega (arith, forward toks s.yes (p + 1) s.colon s.yes_reading.stands, forward toks s.no (s.colon + 1) p' s.no_reading.stands)
right_forward toks no_in room y p y' p' (inr (isTarget, s)) = omega (arith, forward toks s.value (p + 1) p' s.reading.stands)

pub right_step : (toks : List Tok) (no_in : Bool) (room i : ℕ) → IsStep toks no_in room i 3 1 (RightStep toks no_in room)
unfolding RightParts
right_step toks no_in room i = record {
  parts = λ t n r. right_parts toks no_in room i t n r;
  lifts = λ t n r. lower toks 3 1 no_in room i t n (omega arith) r;
  lower = omega arith;
  no_step = λ y p y' p' d s. (let e = right_reach toks no_in room y p y' p' s.kind in omega arith);
  starts = λ y p y' p' r s. (let e = right_reach toks no_in room y p y' p' s.kind in (omega arith, (let h = edge_low y in omega arith), λ q. absurd (omega arith)));
  grows = λ y p y' p' r s. right_grows toks no_in room i y p y' p' r s.kind;
  forward = λ y p y' p' s. right_forward toks no_in room y p y' p' s.kind;
}

-- `?` is no assignment sign
not_both : (toks : List Tok) (no_in : Bool) (room : ℕ) (y : Expr) (p : ℕ) (y' : Expr) (p' : ℕ) → HasSign toks p signs.Question → AssignStep toks no_in room y p y' p' → ⊥
not_both toks no_in room y p y' p' q s =
    let e : reach false (token_at toks p) ≡ 3 = ap (reach false) q in
    let k : reach false (token_at toks p) ≡ token_reach false (assign_token s.op) = ap (reach false) s.sign in
    let a = assign_reach false s.op in omega arith

no_choice_no_assignment : (toks : List Tok) (no_in : Bool) (room : ℕ) (y : Expr) (p : ℕ) (y' : Expr) (p' : ℕ)
    → (CondStep toks no_in room y p y' p' → ⊥) → (is_target y ≡ true → AssignStep toks no_in room y p y' p' → ⊥) → CondStep toks no_in room y p y' p' ⊎ ((is_target y ≡ true) × AssignStep toks no_in room y p y' p') → ⊥
no_choice_no_assignment toks no_in room y p y' p' a b (inl s) = a s
no_choice_no_assignment toks no_in room y p y' p' a b (inr (isTarget, s)) = b isTarget s

module _ (o : Origin) (toks : List Tok) (no_in : Bool) (room i : ℕ) (old new : List Node) (left : Part) where
  -- neither stands there
  is_operand : (f : Finds o toks 3 no_in room i old left) → Keeps old new
      → ((y' : Expr) (f' : ℕ) → CondStep toks no_in room f.tree left.next y' f' → ⊥)
      → (is_target f.tree ≡ true → (y' : Expr) (f' : ℕ) → AssignStep toks no_in room f.tree left.next y' f' → ⊥)
      → Finds o toks 1 no_in room i new left
  is_operand f k no_choice no_assign =
      stays o toks no_in room i 3 1 (RightStep toks no_in room) (right_step toks no_in room i) old new left k f
      (λ y' f' s. no_choice_no_assignment toks no_in room f.tree left.next y' f' (no_choice y' f') (λ h. no_assign h y' f') s.kind)

  first_choice : (f : Finds o toks 3 no_in room i old left) (p : Part) (g : Grows o.functions (CondStep toks no_in room) (Continues toks 1 no_in) old new left p) → HasSign toks left.next signs.Question
      → (t' : Expr) (n' : ℕ) → CondStep toks no_in room f.tree left.next t' n' ⊎ ((is_target f.tree ≡ true) × AssignStep toks no_in room f.tree left.next t' n')
      → ((t' ≡ g.whole f.tree) × (n' ≡ p.next)) ⊎ ((n' < p.next) × Continues toks 1 no_in t' n')
  first_choice f p g q t' n' (inl s) = g.first f.tree t' n' s
  first_choice f p g q t' n' (inr (isTarget, s)) = absurd (not_both toks no_in room f.tree left.next t' n' q s)

  pub with_choice : Begun o.functions o old left.next → Finds o toks 3 no_in room i old left → Keeps old new → HasSign toks left.next signs.Question
      → (found : Option Part) → Steps o.functions (CondStep toks no_in room) (Continues toks 1 no_in) old new left (Ok found)
      → (r : Part) → r ≡ unwrap_or found left → Finds o toks 1 no_in room i new r
  with_choice b f k q None none r e =
      subst (λ (p : Part). Finds o toks 1 no_in room i new p) (sym e)
      (is_operand f k (λ y' f' s. none f.tree y' f' s) (λ h y' f' s. not_both toks no_in room f.tree left.next y' f' q s))
  with_choice b f k q (Some p) g r e =
      subst (λ (p : Part). Finds o toks 1 no_in room i new p) (sym e)
      (goes o toks no_in room i 3 1 (RightStep toks no_in room) (right_step toks no_in room i) old new left p f (g.whole f.tree)
      (g.part o f.tree b f.part) (record { kind = inl (g.step f.tree) }) (λ t' n' s. first_choice f p g q t' n' s.kind))

  first_assignment : (f : Finds o toks 3 no_in room i old left) (p : Part) (g : Grows o.functions (AssignStep toks no_in room) (Continues toks 1 no_in) old new left p) → (HasSign toks left.next signs.Question → ⊥)
      → (t' : Expr) (n' : ℕ) → CondStep toks no_in room f.tree left.next t' n' ⊎ ((is_target f.tree ≡ true) × AssignStep toks no_in room f.tree left.next t' n')
      → ((t' ≡ g.whole f.tree) × (n' ≡ p.next)) ⊎ ((n' < p.next) × Continues toks 1 no_in t' n')
  first_assignment f p g q t' n' (inl s) = absurd (q s.sign)
  first_assignment f p g q t' n' (inr (isTarget, s)) = g.first f.tree t' n' s

  pub with_assignment : Begun o.functions o old left.next → Finds o toks 3 no_in room i old left → Keeps old new → (HasSign toks left.next signs.Question → ⊥) → left.is_target ≡ true
      → (found : Option Part) → Steps o.functions (AssignStep toks no_in room) (Continues toks 1 no_in) old new left (Ok found)
      → (r : Part) → r ≡ unwrap_or found left → Finds o toks 1 no_in room i new r
  with_assignment b f k q isTarget None none r e =
      subst (λ (p : Part). Finds o toks 1 no_in room i new p) (sym e) (is_operand f k (λ y' f' s. q s.sign) (λ h y' f' s. none f.tree y' f' s))
  with_assignment b f k q isTarget (Some p) g r e =
      subst (λ (p : Part). Finds o toks 1 no_in room i new p) (sym e)
      (goes o toks no_in room i 3 1 (RightStep toks no_in room) (right_step toks no_in room i) old new left p f (g.whole f.tree)
      (g.part o f.tree b f.part) (record { kind = inr (sym f.part.is_target ∙ isTarget, g.step f.tree) }) (λ t' n' s. first_assignment f p g q t' n' s.kind))

  pub no_target : (f : Finds o toks 3 no_in room i old left) → Keeps old new → (HasSign toks left.next signs.Question → ⊥) → left.is_target ≡ false → Finds o toks 1 no_in room i new left
  no_target f k q not = is_operand f k (λ y' f' s. q s.sign) (λ h y' f' s. absurd (let e = f.part.is_target in cc))
