-- Left operands that grow by operators of one level.
use Rattle.std.proofs.Common.{◌≡◌, ℕ, zero, suc, ◌+◌, ◌≤◌, Bool, List, inl, inr, refl, subst, arith}
use Rattle.std.proofs.lemmas.Bool.{cases_lt}
use Rattle.wjs_tree.specs.declared.tokens.Tok.{Tok}
use Rattle.wjs_tree.specs.Trees.{Expr, Dot, At, Binary}
use Rattle.wjs_tree.specs.Operators.{binary_level}
use Rattle.wjs_tree.specs.Levels.{level}
use Rattle.wjs_parse_expr.specs.Readings.{Reading}
use Rattle.wjs_parse_expr.specs.Steps.{BinaryStep}
use Rattle.wjs_parse_expr.proofs.Chain.{Chain, one_more}
use Rattle.wjs_parse_expr.proofs.Chain.Chain.{done}

abbrev Parts : List Tok → ℕ → Bool → ℕ → ℕ → Expr → ℕ → Type 0
Parts toks least no_in room i t n = (x : Expr) × (e : ℕ) × Reading toks (least + 1) no_in room i x e × Chain (BinaryStep toks least no_in room) t n x e

whole : (toks : List Tok) (least : ℕ) (no_in : Bool) (room i : ℕ) (t : Expr) (n : ℕ) → least + 1 ≤ level t → Reading toks least no_in room i t n → Parts toks least no_in room i t n
whole toks least no_in room i t n h r = (t, n, record { level = h; formed = r.formed; height = r.height; stands = r.stands }, done)

pub parts : (toks : List Tok) (least : ℕ) (no_in : Bool) (room i : ℕ) → 3 ≤ least → least ≤ 12 → (t : Expr) (n : ℕ) → Reading toks least no_in room i t n → Parts toks least no_in room i t n
parts toks least no_in room i lo hi (Binary a op b) n r =
    elim (cases_lt least (level (Binary a op b))) [
      | inl lt ↦ whole toks least no_in room i (Binary a op b) n (omega arith) r
      | inr le ↦
          (let at : binary_level op ≡ least = (let l = r.level in omega arith) in
          let h = r.height in
          let b1 = r.formed.1 in
          let b2 = r.formed.2 in
          let left : Reading toks least no_in room i a r.stands.0 = record { level = omega arith; formed = r.formed.3; height = omega arith; stands = r.stands.1 } in
          let p = parts toks least no_in room i lo hi a r.stands.0 left in (
            p.0,
            p.1,
            p.2,
            one_more (Binary a op b) n p.3 (record {
              op = op;
              right = b;
              is = refl;
              sign = r.stands.2;
              allowed = r.formed.0;
              binds = at;
              below = omega arith;
              reading = record { level = omega arith; formed = r.formed.4; height = omega arith; stands = r.stands.3 };
            }),
          ))
    ]
parts toks least no_in room i lo hi (Dot e x) n r = whole toks least no_in room i _ n (let h = r.level in let f = r.formed.0 in omega arith) r
parts toks least no_in room i lo hi (At e x) n r = whole toks least no_in room i _ n (let h = r.level in let f = r.formed.0 in omega arith) r
parts toks least no_in room i lo hi t n r = whole toks least no_in room i t n (let h = r.level in omega arith) r

-- where no operand is read, nothing is read that begins with one
pub no_operand : (toks : List Tok) (no_in : Bool) (room i k least : ℕ) → 3 ≤ least → least + k ≡ 13 → ((u : Expr) (m : ℕ) → Reading toks 13 no_in room i u m → ⊥) → (u : Expr) (m : ℕ) → Reading toks least no_in room i u m → ⊥
no_operand toks no_in room i zero least lo e none u m r = none u m (subst (λ (n : ℕ). Reading toks n no_in room i u m) (omega (arith, e)) r)
no_operand toks no_in room i (suc k) least lo e none u m r =
    let p = parts toks least no_in room i lo (omega (arith, e)) u m r in
    no_operand toks no_in room i k (least + 1) (omega arith) (omega (arith, e)) none p.0 p.1 p.2
