-- Places where a tree may begin.
use Rattle.std.proofs.Common.{◌≡◌, ℕ, ◌+◌, List, refl, subst, arith}
use Rattle.wjs_tree.specs.declared.tokens.Token.{Token}
use Rattle.wjs_tree.specs.declared.tokens.Token.TheVariants as tokens
use Rattle.wjs_tree.specs.declared.tokens.Tok.{Tok}
use Rattle.wjs_tree.specs.declared.signs.Sign.{Sign}
use Rattle.wjs_tree.specs.declared.signs.Sign.TheVariants as signs
use Rattle.wjs_tree.specs.declared.keys.Key.{Key}
use Rattle.wjs_tree.specs.declared.keys.Key.TheVariants as keys
use Rattle.wjs_tree.specs.declared.operators.BinaryOperator.{BinaryOperator}
use Rattle.wjs_tree.specs.declared.operators.BinaryOperator.TheVariants as binaries
use Rattle.wjs_tree.specs.declared.operators.AssignOperator.{AssignOperator}
use Rattle.wjs_tree.specs.declared.operators.AssignOperator.TheVariants as assigns
use Rattle.wjs_tree.specs.declared.operators.PrefixOperator.{PrefixOperator}
use Rattle.wjs_tree.specs.declared.operators.PrefixOperator.TheVariants as prefixes
use Rattle.wjs_tree.specs.Operators.{binary_token, assign_token, prefix_token}
use Rattle.wjs_tree.specs.Ends.{token_at, HasToken, HasSign, HasKey}
use Rattle.wjs_parse_expr.specs.Table.{MayBegin}
use Rattle.wjs_parse_expr.proofs.Readings.{same_token}

pub behind : (toks : List Tok) (p q : ℕ) (token : Token) → q ≡ p + 1 → HasToken toks p token → (token ≡ tokens.Sign signs.Dot → ⊥) → MayBegin toks q
behind toks p q token e h none = record {
  undotted = λ dot f d k. none (same_token (token_at toks p) token (tokens.Sign signs.Dot) h (let g : dot ≡ p = omega arith in subst (λ (z : ℕ). HasSign toks z signs.Dot) g d));
}

pub behind_sign : (toks : List Tok) (p : ℕ) (sign : Sign) → HasSign toks p sign → (sign ≡ signs.Dot → ⊥) → MayBegin toks (p + 1)
behind_sign toks p sign h none = behind toks p (p + 1) (tokens.Sign sign) refl h (λ e. none (cc))

pub behind_key : (toks : List Tok) (p : ℕ) (key : Key) → HasKey toks p key → MayBegin toks (p + 1)
behind_key toks p key h = behind toks p (p + 1) (tokens.Key key) refl h (λ e. cc)

pub behind_binary : (toks : List Tok) (p : ℕ) (op : BinaryOperator) → HasToken toks p (binary_token op) → MayBegin toks (p + 1)
behind_binary toks p op h = behind toks p (p + 1) (binary_token op) refl h (no_dot op)
  where
    no_dot : (op : BinaryOperator) → binary_token op ≡ tokens.Sign signs.Dot → ⊥
    no_dot binaries.Multiply e = cc
    no_dot _ e = cc

pub behind_assign : (toks : List Tok) (p : ℕ) (op : AssignOperator) → HasToken toks p (assign_token op) → MayBegin toks (p + 1)
behind_assign toks p op h = behind toks p (p + 1) (assign_token op) refl h (no_dot op)
  where
    no_dot : (op : AssignOperator) → assign_token op ≡ tokens.Sign signs.Dot → ⊥
    no_dot assigns.Plain e = cc
    no_dot _ e = cc

pub behind_prefix : (toks : List Tok) (p : ℕ) (op : PrefixOperator) → HasToken toks p (prefix_token op) → MayBegin toks (p + 1)
behind_prefix toks p op h = behind toks p (p + 1) (prefix_token op) refl h (no_dot op)
  where
    no_dot : (op : PrefixOperator) → prefix_token op ≡ tokens.Sign signs.Dot → ⊥
    no_dot prefixes.Delete e = cc
    no_dot _ e = cc

-- where no `function` stands, a tree may begin
pub no_function : (toks : List Tok) (p : ℕ) → (HasKey toks p keys.Function → ⊥) → MayBegin toks p
no_function toks p none = record { undotted = λ dot e d k. none k }

pub first : (toks : List Tok) → MayBegin toks 0
first toks = record { undotted = λ dot e d k. absurd (omega arith) }
