-- The tokens that begin statements.
use Rattle.std.proofs.Common.{◌≡◌, ℕ, ◌+◌, Bool, true, false, List, Option, Some, None, refl, ap, ◌∙◌, subst}
use Rattle.wjs_base.specs.declared.ids.TextId.{TextId}
use Rattle.wjs_tree.specs.declared.tokens.Token.{Token}
use Rattle.wjs_tree.specs.declared.tokens.Token.TheVariants as tokens
use Rattle.wjs_tree.specs.declared.signs.Sign.{Sign}
use Rattle.wjs_tree.specs.declared.signs.Sign.TheVariants as signs
use Rattle.wjs_tree.specs.declared.keys.Key.{Key}
use Rattle.wjs_tree.specs.declared.keys.Key.TheVariants as keys
use Rattle.wjs_tree.specs.declared.tokens.Tok.{Tok}
use Rattle.wjs_tree.specs.declared.operators.UpdateOperator.{UpdateOperator}
use Rattle.wjs_tree.specs.declared.operators.UpdateOperator.TheVariants as updates
use Rattle.wjs_tree.specs.declared.operators.PrefixOperator.{PrefixOperator}
use Rattle.wjs_tree.specs.declared.operators.PrefixOperator.TheVariants as prefixes
use Rattle.wjs_tree.specs.declared.operators.BinaryOperator.{BinaryOperator}
use Rattle.wjs_tree.specs.declared.operators.BinaryOperator.TheVariants as binaries
use Rattle.wjs_tree.specs.declared.operators.AssignOperator.{AssignOperator}
use Rattle.wjs_tree.specs.declared.operators.AssignOperator.TheVariants as assigns
use Rattle.wjs_tree.specs.Operators.{update_token, prefix_token, binary_token, assign_token}
use Rattle.wjs_tree.specs.Trees.{Expr, Name, Number, Text, This, ThisWorld, Null, Boolean, Paren, ArrayLit, ObjectLit, Function, Dot, At, Call, NewWith, NewBare, Postfix, Prefix, Binary, Cond, Assign, Comma}
use Rattle.wjs_tree.specs.Levels.{starts_with_brace}
use Rattle.wjs_tree.specs.Spelling.{Stands}
use Rattle.wjs_tree.specs.Ends.{HasToken, HasSign}
use Rattle.wjs_parse_expr.proofs.Beginnings.{can_begin}
use Rattle.wjs_parse_expr.proofs.Readings.{same_token}
use Rattle.wjs_parse_simple.specs.declared.kind.Kind.TheVariants as kinds
use Rattle.wjs_parse_simple.specs.Kinds.{kind_of, key_kind, sign_kind, word_kind, colon_kind}

-- `{` and `function`
abbrev pub is_brace : Token → Bool
is_brace (tokens.Sign signs.OpenBrace) = true
is_brace (tokens.Key keys.Function) = true
is_brace _ = false

prefix_brace : (op : PrefixOperator) → is_brace (prefix_token op) ≡ false
prefix_brace prefixes.Delete = refl
prefix_brace _ = refl

-- an expression starts with a brace as its first token says
pub record Opening (toks : List Tok) (i : ℕ) (e : Expr) : Type 0 where
  pub token : Token
  pub stands : HasToken toks i token
  pub begins : can_begin token ≡ true
  pub brace : is_brace token ≡ starts_with_brace e

with_first : (toks : List Tok) (i : ℕ) (e : Expr) (t : Token) → HasToken toks i t → can_begin t ≡ true → is_brace t ≡ starts_with_brace e → Opening toks i e
with_first toks i e t h b s = record { token = t; stands = h; begins = b; brace = s }

as_left : (toks : List Tok) (i : ℕ) (e l : Expr) → starts_with_brace l ≡ starts_with_brace e → Opening toks i l → Opening toks i e
as_left toks i e l h o = record { token = o.token; stands = o.stands; begins = o.begins; brace = o.brace ∙ h }

prefix_begins : (op : PrefixOperator) → can_begin (prefix_token op) ≡ true
prefix_begins prefixes.Delete = refl
prefix_begins _ = refl

pub opening : (toks : List Tok) (e : Expr) (i n : ℕ) → Stands toks e i n → Opening toks i e
opening toks (Name x) i n h = with_first toks i _ (tokens.Word x) h.0 refl refl
opening toks (Number x) i n h = with_first toks i _ (tokens.Number x) h.0 refl refl
opening toks (Text x) i n h = with_first toks i _ (tokens.Text x) h.0 refl refl
opening toks This i n h = with_first toks i _ (tokens.Key keys.This) h.0 refl refl
opening toks ThisWorld i n h = with_first toks i _ (tokens.Key keys.ThisWorld) h.0 refl refl
opening toks Null i n h = with_first toks i _ (tokens.Key keys.Null) h.0 refl refl
opening toks (Boolean true) i n h = with_first toks i _ (tokens.Key keys.True) h.0 refl refl
opening toks (Boolean false) i n h = with_first toks i _ (tokens.Key keys.False) h.0 refl refl
opening toks (Paren e) i n h = with_first toks i _ (tokens.Sign signs.OpenParen) h.1 refl refl
opening toks (ArrayLit e) i n h = with_first toks i _ (tokens.Sign signs.OpenBracket) h.1 refl refl
opening toks (ObjectLit e) i n h = with_first toks i _ (tokens.Sign signs.OpenBrace) h.1 refl refl
opening toks (Function x y z) i n h = with_first toks i _ (tokens.Key keys.Function) h.3 refl refl
opening toks (Dot e x) i n h = as_left toks i _ e refl (opening toks e i h.0 h.1)
opening toks (At e j) i n h = as_left toks i _ e refl (opening toks e i h.0 h.2)
opening toks (Call f xs) i n h = as_left toks i _ f refl (opening toks f i h.0 h.2)
opening toks (NewWith f xs) i n h = with_first toks i _ (tokens.Key keys.New) h.2 refl refl
opening toks (NewBare f) i n h = with_first toks i _ (tokens.Key keys.New) h.0 refl refl
opening toks (Postfix t s) i n h = as_left toks i _ t refl (opening toks t i h.0 h.1)
opening toks (Prefix s e) i n h = with_first toks i _ (prefix_token s) h.0 (prefix_begins s) (prefix_brace s)
opening toks (Binary a op b) i n h = as_left toks i _ a refl (opening toks a i h.0 h.1)
opening toks (Cond c a b) i n h = as_left toks i _ c refl (opening toks c i h.0 h.2)
opening toks (Assign t op e) i n h = as_left toks i _ t refl (opening toks t i h.0 h.1)
opening toks (Comma a b) i n h = as_left toks i _ a refl (opening toks a i h.0 h.1)

-- a tree that begins with another token
other_first : (toks : List Tok) (i : ℕ) (x : TextId) (t : Token) → HasToken toks i (tokens.Word x) → HasToken toks i t → (tokens.Word x ≡ t → ⊥) → ⊥
other_first toks i x t h g nay = nay (same_token _ (tokens.Word x) t h g)

-- behind the name stands a colon, and the longer tree would want another token there
longer_name : (toks : List Tok) (i m : ℕ) (t : Token) → m ≡ i + 1 → HasSign toks (i + 1) signs.Colon → HasToken toks m t → (tokens.Sign signs.Colon ≡ t → ⊥) → ⊥
longer_name toks i m t e c h nay = nay (same_token _ (tokens.Sign signs.Colon) t c (subst (λ (z : ℕ). HasToken toks z t) e h))

binary_colon : (op : BinaryOperator) → tokens.Sign signs.Colon ≡ binary_token op → ⊥
binary_colon binaries.Multiply h = cc
binary_colon _ h = cc

assign_colon : (op : AssignOperator) → tokens.Sign signs.Colon ≡ assign_token op → ⊥
assign_colon assigns.Plain h = cc
assign_colon _ h = cc

update_colon : (op : UpdateOperator) → tokens.Sign signs.Colon ≡ update_token op → ⊥
update_colon updates.Increment h = cc
update_colon updates.Decrement h = cc

prefix_word : (x : TextId) (op : PrefixOperator) → tokens.Word x ≡ prefix_token op → ⊥
prefix_word x prefixes.Delete h = cc
prefix_word x _ h = cc

-- an expression that begins with a name before a colon is the name
pub only_name : (toks : List Tok) (x : TextId) (e : Expr) (i n : ℕ) → HasToken toks i (tokens.Word x) → HasSign toks (i + 1) signs.Colon → Stands toks e i n → n ≡ i + 1
only_name toks x (Name y) i n h c s = s.1
only_name toks x (Number y) i n h c s = absurd (other_first toks i x _ h s.0 (λ q. cc))
only_name toks x (Text y) i n h c s = absurd (other_first toks i x _ h s.0 (λ q. cc))
only_name toks x This i n h c s = absurd (other_first toks i x _ h s.0 (λ q. cc))
only_name toks x ThisWorld i n h c s = absurd (other_first toks i x _ h s.0 (λ q. cc))
only_name toks x Null i n h c s = absurd (other_first toks i x _ h s.0 (λ q. cc))
only_name toks x (Boolean true) i n h c s = absurd (other_first toks i x _ h s.0 (λ q. cc))
only_name toks x (Boolean false) i n h c s = absurd (other_first toks i x _ h s.0 (λ q. cc))
only_name toks x (Paren e) i n h c s = absurd (other_first toks i x _ h s.1 (λ q. cc))
only_name toks x (ArrayLit e) i n h c s = absurd (other_first toks i x _ h s.1 (λ q. cc))
only_name toks x (ObjectLit e) i n h c s = absurd (other_first toks i x _ h s.1 (λ q. cc))
only_name toks x (Function a y z) i n h c s = absurd (other_first toks i x _ h s.3 (λ q. cc))
only_name toks x (NewWith f xs) i n h c s = absurd (other_first toks i x _ h s.2 (λ q. cc))
only_name toks x (NewBare f) i n h c s = absurd (other_first toks i x _ h s.0 (λ q. cc))
only_name toks x (Prefix op e) i n h c s = absurd (other_first toks i x _ h s.0 (prefix_word x op))
only_name toks x (Dot e y) i n h c s = absurd (longer_name toks i s.0 _ (only_name toks x e i s.0 h c s.1) c s.2 (λ q. cc))
only_name toks x (At e j) i n h c s = absurd (longer_name toks i s.0 _ (only_name toks x e i s.0 h c s.2) c s.3 (λ q. cc))
only_name toks x (Call f xs) i n h c s = absurd (longer_name toks i s.0 _ (only_name toks x f i s.0 h c s.2) c s.3 (λ q. cc))
only_name toks x (Postfix t op) i n h c s = absurd (longer_name toks i s.0 _ (only_name toks x t i s.0 h c s.1) c s.2 (update_colon op))
only_name toks x (Binary a op b) i n h c s = absurd (longer_name toks i s.0 _ (only_name toks x a i s.0 h c s.1) c s.2 (binary_colon op))
only_name toks x (Cond p a b) i n h c s = absurd (longer_name toks i s.0 _ (only_name toks x p i s.0 h c s.2) c s.3 (λ q. cc))
only_name toks x (Assign t op e) i n h c s = absurd (longer_name toks i s.0 _ (only_name toks x t i s.0 h c s.1) c s.2 (assign_colon op))
only_name toks x (Comma a b) i n h c s = absurd (longer_name toks i s.0 _ (only_name toks x a i s.0 h c s.1) c s.2 (λ q. cc))

-- the kinds of statements that expressions are
plain_sign : (s : Sign) → can_begin (tokens.Sign s) ≡ true → is_brace (tokens.Sign s) ≡ false → sign_kind s ≡ kinds.Plain
plain_sign signs.OpenBrace b h = cc
plain_sign signs.Semicolon b h = cc
plain_sign _ b h = refl

plain_key : (k : Key) → can_begin (tokens.Key k) ≡ true → is_brace (tokens.Key k) ≡ false → key_kind k ≡ kinds.Plain
plain_key keys.Var b h = cc
plain_key keys.If b h = cc
plain_key keys.Do b h = cc
plain_key keys.While b h = cc
plain_key keys.For b h = cc
plain_key keys.Continue b h = cc
plain_key keys.Break b h = cc
plain_key keys.Return b h = cc
plain_key keys.Throw b h = cc
plain_key keys.Switch b h = cc
plain_key keys.Try b h = cc
plain_key keys.In b h = cc
plain_key keys.Function b h = cc
plain_key _ b h = refl

plain_colon : (x : TextId) (s : Sign) → (s ≡ signs.Colon → ⊥) → colon_kind x s ≡ kinds.Plain
plain_colon x signs.Colon nay = absurd (nay refl)
plain_colon x _ nay = refl

plain_word : (x : TextId) (o : Option Token) → (o ≡ Some (tokens.Sign signs.Colon) → ⊥) → word_kind x o ≡ kinds.Plain
plain_word x None nay = refl
plain_word x (Some (tokens.Sign s)) nay = plain_colon x s (λ e. nay (ap (λ z. Some (tokens.Sign z)) e))
plain_word x (Some (tokens.Key k)) nay = refl
plain_word x (Some (tokens.Word y)) nay = refl
plain_word x (Some (tokens.Text y)) nay = refl
plain_word x (Some (tokens.Number y)) nay = refl

pub plain_token : (t : Token) (o : Option Token) → can_begin t ≡ true → is_brace t ≡ false → ((x : TextId) → t ≡ tokens.Word x → o ≡ Some (tokens.Sign signs.Colon) → ⊥) → kind_of (Some t) o ≡ kinds.Plain
plain_token (tokens.Sign s) o b h nay = plain_sign s b h
plain_token (tokens.Key k) o b h nay = plain_key k b h
plain_token (tokens.Word x) o b h nay = plain_word x o (nay x refl)
plain_token (tokens.Text x) o b h nay = refl
plain_token (tokens.Number x) o b h nay = refl
