-- The loops over operators of one level, commas and suffixes.
use Rattle.std.proofs.Common.{◌≡◌, ℕ, ◌+◌, ◌≤◌, Bool, List, Some, refl, sym, ap, subst, arith}
use Rattle.wjs_tree.specs.declared.tokens.Token.{Token}
use Rattle.wjs_tree.specs.declared.tokens.Tok.{Tok}
use Rattle.wjs_tree.specs.Trees.{Expr, Dot, At, Binary, Comma}
use Rattle.wjs_parse_expr.specs.Reach.{reach, token_reach}
use Rattle.wjs_tree.specs.Levels.{level}
use Rattle.wjs_parse_expr.specs.Readings.{Reading}
use Rattle.wjs_tree.specs.Ends.{token_at}
use Rattle.wjs_parse_expr.specs.Steps.{BinaryStep, CommaStep}
use Rattle.wjs_parse_expr.proofs.Reach.{binary_reach, binary_bounds}
use Rattle.wjs_tree.specs.Operators.{binary_token}
use Rattle.wjs_tree.proofs.Forward.{forward}
use Rattle.wjs_parse_expr.proofs.Readings.{edge_low, lower}
use Rattle.wjs_parse_expr.proofs.Chain.{Chain, one_more}
use Rattle.wjs_parse_expr.proofs.Chain.Chain.{done}
use Rattle.wjs_parse_expr.proofs.BinaryChain.{parts}
use Rattle.wjs_parse_expr.proofs.Growth.{IsLoop}

-- the reach of the token at a place
reach_at : (toks : List Tok) (no_in : Bool) (p : ℕ) (t : Token) → token_at toks p ≡ Some t → reach no_in (token_at toks p) ≡ token_reach no_in t
reach_at toks no_in p t e = ap (reach no_in) e

binary_grows : (toks : List Tok) (no_in : Bool) (room i least : ℕ) → 3 ≤ least → least ≤ 12 → (y : Expr) (p : ℕ) (y' : Expr) (p' : ℕ)
    → Reading toks least no_in room i y p → BinaryStep toks least no_in room y p y' p' → Reading toks least no_in room i y' p'
binary_grows toks no_in room i least lo hi y p y' p' r s =
    subst (λ (u : Expr). Reading toks least no_in room i u p') (sym s.is)
    (let b = s.binds in
    let l = r.level in
    let l' = s.reading.level in
    record {
      level = omega arith;
      formed = (s.allowed, omega arith, omega arith, r.formed, s.reading.formed);
      height = (let h = r.height in let h' = s.reading.height in let w = s.below in omega arith);
      stands = (p, r.stands, s.sign, s.reading.stands);
    })

pub binary_loop : (toks : List Tok) (no_in : Bool) (room i least : ℕ) → 3 ≤ least → least ≤ 12 → IsLoop toks no_in room i (least + 1) least (BinaryStep toks least no_in room)
binary_loop toks no_in room i least lo hi = record {
  parts = λ t n r. parts toks least no_in room i lo hi t n r;
  lifts = λ t n r. lower toks (least + 1) least no_in room i t n (omega arith) r;
  lower = omega arith;
  no_step = λ y p y' p' d s. (let e = reach_at toks no_in p (binary_token s.op) s.sign in let rb = binary_reach no_in s.op s.allowed in let b = s.binds in omega arith);
  starts = λ y p y' p' r s. (let e = reach_at toks no_in p (binary_token s.op) s.sign in let rb = binary_reach no_in s.op s.allowed in let u = binary_bounds s.op in let b = s.binds in (omega arith, (let h = edge_low y in omega arith), λ q. absurd (omega arith)));
  grows = binary_grows toks no_in room i least lo hi;
  forward = λ y p y' p' s. (let h = forward toks s.right (p + 1) p' s.reading.stands in omega arith);
}

CommaParts : List Tok → Bool → ℕ → ℕ → Expr → ℕ → Type 0
CommaParts toks no_in room i t n = (x : Expr) × (e : ℕ) × Reading toks 1 no_in room i x e × Chain (CommaStep toks no_in room) t n x e

one : (toks : List Tok) (no_in : Bool) (room i : ℕ) (t : Expr) (n : ℕ) → 1 ≤ level t → Reading toks 0 no_in room i t n → CommaParts toks no_in room i t n
unfolding CommaParts
one toks no_in room i t n h r = (t, n, record { level = h; formed = r.formed; height = r.height; stands = r.stands }, done)

comma_parts : (toks : List Tok) (no_in : Bool) (room i : ℕ) (t : Expr) (n : ℕ) → Reading toks 0 no_in room i t n → CommaParts toks no_in room i t n
unfolding CommaParts
comma_parts toks no_in room i (Comma a b) n r =
    (let left : Reading toks 0 no_in room i a r.stands.0 = record { level = omega arith; formed = r.formed.1; height = (let h = r.height in omega arith); stands = r.stands.1 } in
    let p = comma_parts toks no_in room i a r.stands.0 left in (
      p.0,
      p.1,
      p.2,
      one_more (Comma a b) n p.3 (record {
        right = b;
        is = refl;
        sign = r.stands.2;
        below = (let h = r.height in omega arith);
        reading = record { level = r.formed.0; formed = r.formed.2; height = (let h = r.height in omega arith); stands = r.stands.3 };
      }),
    ))
comma_parts toks no_in room i (Dot e x) n r = one toks no_in room i _ n (let f = r.formed.0 in omega arith) r
comma_parts toks no_in room i (At e x) n r = one toks no_in room i _ n (let f = r.formed.0 in omega arith) r
comma_parts toks no_in room i (Binary a op b) n r =
    one toks no_in room i _ n (let l = binary_bounds op in omega arith) r
comma_parts toks no_in room i t n r = one toks no_in room i t n (omega arith) r

comma_grows : (toks : List Tok) (no_in : Bool) (room i : ℕ) (y : Expr) (p : ℕ) (y' : Expr) (p' : ℕ)
    → Reading toks 0 no_in room i y p → CommaStep toks no_in room y p y' p' → Reading toks 0 no_in room i y' p'
comma_grows toks no_in room i y p y' p' r s =
    subst (λ (u : Expr). Reading toks 0 no_in room i u p') (sym s.is)
    (record {
      level = omega arith;
      formed = (s.reading.level, r.formed, s.reading.formed);
      height = (let h = r.height in let h' = s.reading.height in let w = s.below in omega arith);
      stands = (p, r.stands, s.sign, s.reading.stands);
    })

pub comma_loop : (toks : List Tok) (no_in : Bool) (room i : ℕ) → IsLoop toks no_in room i 1 0 (CommaStep toks no_in room)
unfolding CommaParts
comma_loop toks no_in room i = record {
  parts = λ t n r. comma_parts toks no_in room i t n r;
  lifts = λ t n r. lower toks 1 0 no_in room i t n (omega arith) r;
  lower = omega arith;
  no_step = λ y p y' p' d s. (let e = reach_at toks no_in p _ s.sign in omega arith);
  starts = λ y p y' p' r s. (let e = reach_at toks no_in p _ s.sign in (omega arith, (let h = edge_low y in omega arith), λ q. absurd (omega arith)));
  grows = comma_grows toks no_in room i;
  forward = λ y p y' p' s. (let h = forward toks s.right (p + 1) p' s.reading.stands in omega arith);
}
