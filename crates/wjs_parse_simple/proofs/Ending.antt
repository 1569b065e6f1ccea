-- An expression before the end of its statement is the longest one.
use Rattle.std.proofs.Common.{◌≡◌, ℕ, ◌+◌, ◌-◌, ◌<◌, ◌≤◌, ◌⊎◌, inl, inr, Bool, true, false, not, ◌&&◌, ◌||◌, nat_le, cond, List, Some, refl, sym, ap, ◌∙◌, arith}
use Rattle.std.specs.Prelude.{slice_get}
use Rattle.wjs_tree.specs.declared.tokens.Token.{Token}
use Rattle.wjs_tree.specs.declared.tokens.Token.TheVariants as tokens
use Rattle.wjs_tree.specs.declared.signs.Sign.{Sign}
use Rattle.wjs_tree.specs.declared.signs.Sign.TheVariants as signs
use Rattle.wjs_tree.specs.declared.keys.Key.{Key}
use Rattle.wjs_tree.specs.declared.keys.Key.TheVariants as keys
use Rattle.wjs_tree.specs.declared.tokens.Tok.{Tok}
use Rattle.wjs_tree.specs.declared.node.Spelt.{Spelt}
use Rattle.wjs_tree.specs.declared.node.Spelt.TheVariants as spelts
use Rattle.wjs_tree.specs.declared.node.End.{End}
use Rattle.wjs_tree.specs.declared.node.End.TheVariants as ends
use Rattle.wjs_tree.specs.declared.operators.UpdateOperator.{UpdateOperator}
use Rattle.wjs_tree.specs.declared.operators.UpdateOperator.TheVariants as updates
use Rattle.wjs_tree.specs.Operators.{update_token}
use Rattle.wjs_tree.specs.Trees.{Expr, Name, Number, Text, This, ThisWorld, Null, Boolean, Paren, ArrayLit, ObjectLit, Function, Dot, At, Call, NewWith, NewBare, Postfix, Prefix, Binary, Cond, Assign, Comma}
use Rattle.wjs_tree.specs.Levels.{level, ends_in_update}
use Rattle.wjs_tree.specs.Formed.{WellFormed}
use Rattle.wjs_tree.specs.Spelling.{Stands, spelt_token}
use Rattle.wjs_tree.specs.Ends.{token_at, HasSign, is_joined, is_operator, is_suffix, continues, Ending, InExpr, CanInsert, Offends, Ends}
use Rattle.wjs_tree.proofs.Levels.{new_level}
use Rattle.wjs_parse_expr.specs.Reach.{reach, token_reach, sign_reach, key_reach}
use Rattle.wjs_parse_expr.specs.Readings.{Continues, edge}
use Rattle.wjs_parse_expr.proofs.Readings.{edge_high}
use Rattle.wjs_parse_simple.specs.Readings.{is_update_token, update_before}

-- what continues a statement, by reaches
sign_operator : (s : Sign) → is_operator (tokens.Sign s) ≡ (nat_le 1 (sign_reach s) && nat_le (sign_reach s) 13)
sign_operator signs.Question = refl
sign_operator _ = refl

key_operator : (k : Key) → is_operator (tokens.Key k) ≡ (nat_le 1 (key_reach false k) && nat_le (key_reach false k) 13)
key_operator keys.In = refl
key_operator _ = refl

operator_reach : (t : Token) → is_operator t ≡ (nat_le 1 (token_reach false t) && nat_le (token_reach false t) 13)
operator_reach (tokens.Sign s) = sign_operator s
operator_reach (tokens.Key k) = key_operator k
operator_reach (tokens.Word x) = refl
operator_reach (tokens.Text x) = refl
operator_reach (tokens.Number x) = refl

sign_suffix : (s : Sign) → is_suffix (tokens.Sign s) ≡ nat_le 17 (sign_reach s)
sign_suffix signs.Dot = refl
sign_suffix _ = refl

key_suffix : (k : Key) → is_suffix (tokens.Key k) ≡ nat_le 17 (key_reach false k)
key_suffix keys.In = refl
key_suffix _ = refl

suffix_reach : (t : Token) → is_suffix t ≡ nat_le 17 (token_reach false t)
suffix_reach (tokens.Sign s) = sign_suffix s
suffix_reach (tokens.Key k) = key_suffix k
suffix_reach (tokens.Word x) = refl
suffix_reach (tokens.Text x) = refl
suffix_reach (tokens.Number x) = refl

-- no token has these reaches
sign_gap : (s : Sign) → (sign_reach s ≡ 14 → ⊥) × (sign_reach s ≡ 16 → ⊥)
sign_gap signs.Dot = omega arith
sign_gap _ = omega arith

key_gap : (k : Key) → (key_reach false k ≡ 14 → ⊥) × (key_reach false k ≡ 16 → ⊥)
key_gap keys.In = omega arith
key_gap _ = omega arith

token_gap : (t : Token) → (token_reach false t ≡ 14 → ⊥) × (token_reach false t ≡ 16 → ⊥)
token_gap (tokens.Sign s) = sign_gap s
token_gap (tokens.Key k) = key_gap k
token_gap (tokens.Word x) = omega arith
token_gap (tokens.Text x) = omega arith
token_gap (tokens.Number x) = omega arith

-- what the test of continuing says
goes_on : ℕ → Bool → Bool
goes_on r update = (nat_le 1 r && nat_le r 13) || (nat_le 17 r && not update)

stopped : (r : ℕ) (update : Bool) → goes_on r update ≡ false → ((1 ≤ r → r ≤ 13 → ⊥) × (17 ≤ r → update ≡ true))
unfolding goes_on
stopped r true h = ((λ a b. grind arith), λ a. refl)
stopped r false h = ((λ a b. grind arith), λ a. absurd (grind arith))

by_reach : (t : Token) (update : Bool) → continues (InExpr update) t ≡ false → goes_on (token_reach false t) update ≡ false
unfolding goes_on
by_reach t update h = let a = operator_reach t in let b = suffix_reach t in cc

high_edge : (e : Expr) → ends_in_update e ≡ true → edge e ≡ 14
high_edge e h = ap (λ (b : Bool). cond b 14 18) h

-- before an offending token no longer expression stands
no_longer : (toks : List Tok) (least : ℕ) (e : Expr) (m : ℕ) → Continues toks least false e m → Offends toks (InExpr (ends_in_update e)) m → ⊥
no_longer toks least e m c o =
    let r : reach false (token_at toks m) ≡ token_reach false o.token = ap (reach false) o.stands in
    let st = stopped (token_reach false o.token) (ends_in_update e) (by_reach o.token (ends_in_update e) o.stops) in
    let gap = token_gap o.token in
    let lo = c.0 in
    let hi = c.1 in
    either r lo hi gap st
  where
    either : reach false (token_at toks m) ≡ token_reach false o.token → least < reach false (token_at toks m) → reach false (token_at toks m) ≤ edge e
        → (token_reach false o.token ≡ 14 → ⊥) × (token_reach false o.token ≡ 16 → ⊥)
        → ((1 ≤ token_reach false o.token → token_reach false o.token ≤ 13 → ⊥) × (17 ≤ token_reach false o.token → ends_in_update e ≡ true)) → ⊥
    either r lo hi gap st =
        let not_13 : 13 < token_reach false o.token = omega (arith, st.0) in
        let not_15 : token_reach false o.token ≡ 15 → ⊥ = (λ q. let j : is_joined (slice_get toks m) ≡ true = c.2 (r ∙ q) in let l = o.after_line in cc) in
        let big : 17 ≤ token_reach false o.token = omega (arith, gap.0, gap.1, not_15) in
        let last : edge e ≡ 14 = high_edge e (st.1 big) in
        omega arith

no_reach : (toks : List Tok) (least : ℕ) (e : Expr) (m : ℕ) → Continues toks least false e m → reach false (token_at toks m) ≡ 0 → ⊥
no_reach toks least e m c q = let z = c.0 in omega arith

-- where an expression's statement ends, nothing continues it
pub end_shuts : (toks : List Tok) (least : ℕ) (e : Expr) (end : End) (m n : ℕ) → Ends toks (InExpr (ends_in_update e)) end m n → Continues toks least false e m → ⊥
end_shuts toks least e ends.Written m n d c = no_reach toks least e m c (ap (reach false) d.0)
end_shuts toks least e ends.Inserted m n d c = inserted d.0
  where
    inserted : CanInsert toks (InExpr (ends_in_update e)) m → ⊥
    inserted (inl none) = no_reach toks least e m c (ap (reach false) none)
    inserted (inr (inl brace)) = no_reach toks least e m c (ap (reach false) brace)
    inserted (inr (inr o)) = no_longer toks least e m c o

-- an expression that nothing continues is the one that is read
pub same_expr : (toks : List Tok) (least : ℕ) (no_in : Bool) (e t : Expr) (m n : ℕ) → (Continues toks least no_in e m → ⊥) → ((e ≡ t) × (m ≡ n)) ⊎ ((m < n) × Continues toks least no_in e m) → (e ≡ t) × (m ≡ n)
same_expr toks least no_in e t m n shut (inl same) = same
same_expr toks least no_in e t m n shut (inr l) = absurd (shut l.1)

-- nothing is continued by a token of reach 0
pub reach_shuts : (toks : List Tok) (least : ℕ) (no_in : Bool) (e : Expr) (m : ℕ) → reach no_in (token_at toks m) ≡ 0 → Continues toks least no_in e m → ⊥
reach_shuts toks least no_in e m q c = let z = c.0 in omega arith

-- one place has one end
no_semicolon : (toks : List Tok) (ending : Ending) (m : ℕ) → HasSign toks m signs.Semicolon → CanInsert toks ending m → ⊥
no_semicolon toks ending m h (inl none) = cc
no_semicolon toks ending m h (inr (inl brace)) = let e : Some (tokens.Sign signs.Semicolon) ≡ Some (tokens.Sign signs.CloseBrace) = sym h ∙ brace in cc
no_semicolon toks ending m h (inr (inr o)) = o.no_semicolon (let e : Some o.token ≡ Some (tokens.Sign signs.Semicolon) = sym o.stands ∙ h in cc)

pub one_end : (toks : List Tok) (ending : Ending) (m n k : ℕ) (w v : End) → Ends toks ending w m n → Ends toks ending v m k → (w ≡ v) × (n ≡ k)
one_end toks ending m n k ends.Written ends.Written a b = (refl, a.1 ∙ sym b.1)
one_end toks ending m n k ends.Inserted ends.Inserted a b = (refl, a.1 ∙ sym b.1)
one_end toks ending m n k ends.Written ends.Inserted a b = absurd (no_semicolon toks ending m a.0 b.0)
one_end toks ending m n k ends.Inserted ends.Written a b = absurd (no_semicolon toks ending m b.0 a.0)

-- whether the last token of an expression is `++` or `--`
last_is : (toks : List Tok) (m n : ℕ) (x : Token) → n ≡ m + 1 → token_at toks m ≡ Some x → update_before toks n ≡ is_update_token (Some x)
last_is toks m n x e at =
    let q : n - 1 ≡ m = omega arith in
    ap (λ (z : ℕ). is_update_token (token_at toks z)) q ∙ ap is_update_token at

update_is : (op : UpdateOperator) → is_update_token (Some (update_token op)) ≡ true
update_is updates.Increment = refl
update_is updates.Decrement = refl

spelt_no_update : (x : Spelt) → is_update_token (Some (spelt_token x)) ≡ false
spelt_no_update (spelts.Word x) = refl
spelt_no_update (spelts.Key k) = refl

not_update : (no_in : Bool) (t : Expr) → 15 ≤ level t → WellFormed no_in t → ends_in_update t ≡ false
not_update no_in t h w = by_edge (ends_in_update t) (edge_high no_in t h w)
  where
    by_edge : (b : Bool) → ◌≡◌ {A = ℕ} (cond b 14 18) 18 → b ≡ false
    by_edge true q = absurd (omega arith)
    by_edge false q = refl

pub last_update : (toks : List Tok) (no_in : Bool) (t : Expr) (i n : ℕ) → WellFormed no_in t → Stands toks t i n → update_before toks n ≡ ends_in_update t
last_update toks no_in (Name x) i n w s = last_is toks i n (tokens.Word x) s.1 s.0
last_update toks no_in (Number x) i n w s = last_is toks i n (tokens.Number x) s.1 s.0
last_update toks no_in (Text x) i n w s = last_is toks i n (tokens.Text x) s.1 s.0
last_update toks no_in This i n w s = last_is toks i n (tokens.Key keys.This) s.1 s.0
last_update toks no_in ThisWorld i n w s = last_is toks i n (tokens.Key keys.ThisWorld) s.1 s.0
last_update toks no_in Null i n w s = last_is toks i n (tokens.Key keys.Null) s.1 s.0
last_update toks no_in (Boolean true) i n w s = last_is toks i n (tokens.Key keys.True) s.1 s.0
last_update toks no_in (Boolean false) i n w s = last_is toks i n (tokens.Key keys.False) s.1 s.0
last_update toks no_in (Paren e) i n w s = last_is toks s.0 n (tokens.Sign signs.CloseParen) s.4 s.3
last_update toks no_in (ArrayLit e) i n w s = last_is toks s.0 n (tokens.Sign signs.CloseBracket) s.4 s.3
last_update toks no_in (ObjectLit e) i n w s = last_is toks s.0 n (tokens.Sign signs.CloseBrace) s.4 s.3
last_update toks no_in (Function x y z) i n w s = last_is toks s.2 n (tokens.Sign signs.CloseBrace) s.11 s.10
last_update toks no_in (Dot e x) i n w s = last_is toks (s.0 + 1) n (spelt_token x) (let z = s.4 in omega arith) s.3 ∙ spelt_no_update x
last_update toks no_in (At e j) i n w s = last_is toks s.1 n (tokens.Sign signs.CloseBracket) s.6 s.5
last_update toks no_in (Call f xs) i n w s = last_is toks s.1 n (tokens.Sign signs.CloseParen) s.6 s.5
last_update toks no_in (NewWith f xs) i n w s = last_is toks s.1 n (tokens.Sign signs.CloseParen) s.7 s.6
last_update toks no_in (NewBare f) i n w s = last_update toks no_in f (i + 1) n w.1 s.1 ∙ not_update no_in f (new_level f w.0) w.1
last_update toks no_in (Postfix t x) i n w s = last_is toks s.0 n (update_token x) s.4 s.2 ∙ update_is x
last_update toks no_in (Prefix x e) i n w s = last_update toks no_in e (i + 1) n w.2 s.1
last_update toks no_in (Binary a op b) i n w s = last_update toks no_in b (s.0 + 1) n w.4 s.3
last_update toks no_in (Cond c a b) i n w s = last_update toks no_in b (s.1 + 1) n w.5 s.6
last_update toks no_in (Assign t op e) i n w s = last_update toks no_in e (s.0 + 1) n w.4 s.3
last_update toks no_in (Comma a b) i n w s = last_update toks no_in b (s.0 + 1) n w.2 s.3
