-- What stands at a place, by its class.
use Rattle.std.proofs.Common.{◌≡◌, ℕ, ◌+◌, ◌≤◌, Bool, true, false, List, Option, None, refl, sym, subst, arith}
use Rattle.wjs_base.specs.declared.ids.TextId.{TextId}
use Rattle.wjs_tree.specs.declared.tokens.Tok.{Tok}
use Rattle.wjs_tree.specs.declared.tokens.Token.{Token}
use Rattle.wjs_tree.specs.declared.tokens.Token.TheVariants as tokens
use Rattle.wjs_tree.specs.declared.signs.Sign.{Sign}
use Rattle.wjs_tree.specs.declared.signs.Sign.TheVariants as signs
use Rattle.wjs_tree.specs.declared.keys.Key.{Key}
use Rattle.wjs_tree.specs.declared.keys.Key.TheVariants as keys
use Rattle.wjs_tree.specs.declared.node.Spelt.{Spelt}
use Rattle.wjs_tree.specs.declared.node.Spelt.TheVariants as spelts
use Rattle.wjs_tree.specs.declared.node.PropertyKey.{PropertyKey}
use Rattle.wjs_tree.specs.declared.node.PropertyKey.TheVariants as property_keys
use Rattle.wjs_tree.specs.declared.operators.UpdateOperator.{UpdateOperator}
use Rattle.wjs_tree.specs.declared.operators.UpdateOperator.TheVariants as updates
use Rattle.wjs_tree.specs.declared.operators.PrefixOperator.{PrefixOperator}
use Rattle.wjs_tree.specs.declared.operators.PrefixOperator.TheVariants as prefixes
use Rattle.wjs_tree.specs.declared.operators.BinaryOperator.{BinaryOperator}
use Rattle.wjs_tree.specs.declared.operators.BinaryOperator.TheVariants as binaries
use Rattle.wjs_tree.specs.declared.operators.AssignOperator.{AssignOperator}
use Rattle.wjs_tree.specs.declared.operators.AssignOperator.TheVariants as assigns
use Rattle.wjs_tree.specs.Operators.{update_token, prefix_token, binary_token, assign_token, is_update, IsAllowed}
use Rattle.wjs_tree.specs.Trees.{Expr, Name, Number, Text, This, ThisWorld, Null, Boolean}
use Rattle.wjs_tree.specs.Levels.{level, is_target}
use Rattle.wjs_tree.specs.Formed.{Shaped}
use Rattle.wjs_tree.specs.Ends.{token_at, HasToken, HasKey}
use Rattle.wjs_tree.specs.Spelling.{spelt_token, property_token, Stands}
use Rattle.wjs_forms.specs.declared.class.Class.{Class}
use Rattle.wjs_forms.specs.declared.class.Class.TheVariants as classes
use Rattle.wjs_forms.specs.Classes.{class_of, is_name}
use Rattle.wjs_forms.proofs.Runs.{class_here}

-- a primary expression of one token, which is no target
pub record Primary (t : Token) : Type 0 where
  pub tree : Expr
  pub binds : 17 ≤ level tree
  pub no_target : is_target tree ≡ false
  pub formed : (b : Bool) → Shaped b tree
  pub stands : (toks : List Tok) (i : ℕ) → HasToken toks i t → Stands toks tree i (i + 1)

-- a token of the class
abbrev pub Is : Class → Token → Type 0
Is classes.Word t = (x : TextId) × (t ≡ tokens.Word x)
Is classes.Literal t = Primary t × (key : PropertyKey) × (t ≡ property_token key)
Is classes.Constant t = Primary t
Is classes.OpenParen t = t ≡ tokens.Sign signs.OpenParen
Is classes.CloseParen t = t ≡ tokens.Sign signs.CloseParen
Is classes.OpenBracket t = t ≡ tokens.Sign signs.OpenBracket
Is classes.CloseBracket t = t ≡ tokens.Sign signs.CloseBracket
Is classes.OpenBrace t = t ≡ tokens.Sign signs.OpenBrace
Is classes.CloseBrace t = t ≡ tokens.Sign signs.CloseBrace
Is classes.Dot t = t ≡ tokens.Sign signs.Dot
Is classes.Semicolon t = t ≡ tokens.Sign signs.Semicolon
Is classes.Comma t = t ≡ tokens.Sign signs.Comma
Is classes.Question t = t ≡ tokens.Sign signs.Question
Is classes.Colon t = t ≡ tokens.Sign signs.Colon
Is classes.Update t = ((op : UpdateOperator) × (t ≡ update_token op)) × ((op : PrefixOperator) × (t ≡ prefix_token op) × (is_update op ≡ true))
Is classes.Sum t = ((op : BinaryOperator) × (t ≡ binary_token op) × ((b : Bool) → IsAllowed b op)) × ((op : PrefixOperator) × (t ≡ prefix_token op) × (is_update op ≡ false))
Is classes.SignBefore t = (op : PrefixOperator) × (t ≡ prefix_token op) × (is_update op ≡ false)
Is classes.KeyBefore t = (op : PrefixOperator) × (t ≡ prefix_token op) × (is_update op ≡ false)
Is classes.Operator t = (op : BinaryOperator) × (t ≡ binary_token op) × ((b : Bool) → IsAllowed b op)
Is classes.Instanceof t = t ≡ tokens.Key keys.Instanceof
Is classes.In t = t ≡ tokens.Key keys.In
Is classes.Assign t = t ≡ tokens.Sign signs.Assign
Is classes.AssignWith t = (op : AssignOperator) × (t ≡ assign_token op)
Is classes.Function t = t ≡ tokens.Key keys.Function
Is classes.New t = t ≡ tokens.Key keys.New
Is classes.Var t = t ≡ tokens.Key keys.Var
Is classes.If t = t ≡ tokens.Key keys.If
Is classes.Do t = t ≡ tokens.Key keys.Do
Is classes.While t = t ≡ tokens.Key keys.While
Is classes.For t = t ≡ tokens.Key keys.For
Is classes.Continue t = t ≡ tokens.Key keys.Continue
Is classes.Break t = t ≡ tokens.Key keys.Break
Is classes.Return t = t ≡ tokens.Key keys.Return
Is classes.Throw t = t ≡ tokens.Key keys.Throw
Is classes.Switch t = t ≡ tokens.Key keys.Switch
Is classes.Try t = t ≡ tokens.Key keys.Try
Is classes.Case t = t ≡ tokens.Key keys.Case
Is classes.Default t = t ≡ tokens.Key keys.Default
Is classes.Catch t = t ≡ tokens.Key keys.Catch
Is classes.Finally t = t ≡ tokens.Key keys.Finally
Is classes.Else t = t ≡ tokens.Key keys.Else
Is classes.Reserved t = Unit {0}
Is classes.End t = ⊥

allowed_add : (b : Bool) → IsAllowed b binaries.Add
allowed_add true = tt
allowed_add false = tt

allowed_subtract : (b : Bool) → IsAllowed b binaries.Subtract
allowed_subtract true = tt
allowed_subtract false = tt

key_primary : (k : Key) (e : Expr) → 17 ≤ level e → is_target e ≡ false → ((b : Bool) → Shaped b e) → ((toks : List Tok) (i : ℕ) → HasKey toks i k → Stands toks e i (i + 1)) → Primary (tokens.Key k)
key_primary k e l n f s = record { tree = e; binds = l; no_target = n; formed = f; stands = s }

sign_is : (s : Sign) → Is (class_of (tokens.Sign s)) (tokens.Sign s)
sign_is signs.OpenBrace = refl
sign_is signs.CloseBrace = refl
sign_is signs.OpenParen = refl
sign_is signs.CloseParen = refl
sign_is signs.OpenBracket = refl
sign_is signs.CloseBracket = refl
sign_is signs.Dot = refl
sign_is signs.Semicolon = refl
sign_is signs.Comma = refl
sign_is signs.Less = (binaries.Less, refl, elim [ true ↦ tt | false ↦ tt ])
sign_is signs.Greater = (binaries.Greater, refl, elim [ true ↦ tt | false ↦ tt ])
sign_is signs.LessEqual = (binaries.LessEqual, refl, elim [ true ↦ tt | false ↦ tt ])
sign_is signs.GreaterEqual = (binaries.GreaterEqual, refl, elim [ true ↦ tt | false ↦ tt ])
sign_is signs.Equal = (binaries.Equal, refl, elim [ true ↦ tt | false ↦ tt ])
sign_is signs.NotEqual = (binaries.NotEqual, refl, elim [ true ↦ tt | false ↦ tt ])
sign_is signs.StrictEqual = (binaries.StrictEqual, refl, elim [ true ↦ tt | false ↦ tt ])
sign_is signs.StrictNotEqual = (binaries.StrictNotEqual, refl, elim [ true ↦ tt | false ↦ tt ])
sign_is signs.Plus = ((binaries.Add, refl, allowed_add), (prefixes.Plus, refl, refl))
sign_is signs.Minus = ((binaries.Subtract, refl, allowed_subtract), (prefixes.Minus, refl, refl))
sign_is signs.Multiply = (binaries.Multiply, refl, elim [ true ↦ tt | false ↦ tt ])
sign_is signs.Divide = (binaries.Divide, refl, elim [ true ↦ tt | false ↦ tt ])
sign_is signs.Remainder = (binaries.Remainder, refl, elim [ true ↦ tt | false ↦ tt ])
sign_is signs.Increment = ((updates.Increment, refl), (prefixes.Increment, refl, refl))
sign_is signs.Decrement = ((updates.Decrement, refl), (prefixes.Decrement, refl, refl))
sign_is signs.ShiftLeft = (binaries.ShiftLeft, refl, elim [ true ↦ tt | false ↦ tt ])
sign_is signs.ShiftRight = (binaries.ShiftRight, refl, elim [ true ↦ tt | false ↦ tt ])
sign_is signs.ShiftRightUnsigned = (binaries.ShiftRightUnsigned, refl, elim [ true ↦ tt | false ↦ tt ])
sign_is signs.BitAnd = (binaries.BitAnd, refl, elim [ true ↦ tt | false ↦ tt ])
sign_is signs.BitOr = (binaries.BitOr, refl, elim [ true ↦ tt | false ↦ tt ])
sign_is signs.BitXor = (binaries.BitXor, refl, elim [ true ↦ tt | false ↦ tt ])
sign_is signs.Not = (prefixes.Not, refl, refl)
sign_is signs.BitNot = (prefixes.BitNot, refl, refl)
sign_is signs.And = (binaries.And, refl, elim [ true ↦ tt | false ↦ tt ])
sign_is signs.Or = (binaries.Or, refl, elim [ true ↦ tt | false ↦ tt ])
sign_is signs.Question = refl
sign_is signs.Colon = refl
sign_is signs.Assign = refl
sign_is signs.PlusAssign = (assigns.Add, refl)
sign_is signs.MinusAssign = (assigns.Subtract, refl)
sign_is signs.MultiplyAssign = (assigns.Multiply, refl)
sign_is signs.DivideAssign = (assigns.Divide, refl)
sign_is signs.RemainderAssign = (assigns.Remainder, refl)
sign_is signs.ShiftLeftAssign = (assigns.ShiftLeft, refl)
sign_is signs.ShiftRightAssign = (assigns.ShiftRight, refl)
sign_is signs.ShiftRightUnsignedAssign = (assigns.ShiftRightUnsigned, refl)
sign_is signs.BitAndAssign = (assigns.BitAnd, refl)
sign_is signs.BitOrAssign = (assigns.BitOr, refl)
sign_is signs.BitXorAssign = (assigns.BitXor, refl)

key_is : (k : Key) → Is (class_of (tokens.Key k)) (tokens.Key k)
key_is keys.This = key_primary keys.This This (omega arith) refl (λ b. tt) (λ toks i h. (h, refl))
key_is keys.ThisWorld = key_primary keys.ThisWorld ThisWorld (omega arith) refl (λ b. tt) (λ toks i h. (h, refl))
key_is keys.Null = key_primary keys.Null Null (omega arith) refl (λ b. tt) (λ toks i h. (h, refl))
key_is keys.True = key_primary keys.True (Boolean true) (omega arith) refl (λ b. tt) (λ toks i h. (h, refl))
key_is keys.False = key_primary keys.False (Boolean false) (omega arith) refl (λ b. tt) (λ toks i h. (h, refl))
key_is keys.Delete = (prefixes.Delete, refl, refl)
key_is keys.Void = (prefixes.Void, refl, refl)
key_is keys.Typeof = (prefixes.Typeof, refl, refl)
key_is keys.Instanceof = refl
key_is keys.In = refl
key_is keys.Function = refl
key_is keys.New = refl
key_is keys.Var = refl
key_is keys.If = refl
key_is keys.Do = refl
key_is keys.While = refl
key_is keys.For = refl
key_is keys.Continue = refl
key_is keys.Break = refl
key_is keys.Return = refl
key_is keys.Throw = refl
key_is keys.Switch = refl
key_is keys.Try = refl
key_is keys.Case = refl
key_is keys.Default = refl
key_is keys.Catch = refl
key_is keys.Finally = refl
key_is keys.Else = refl
key_is _ = tt

pub token_is : (t : Token) → Is (class_of t) t
token_is (tokens.Word x) = (x, refl)
token_is (tokens.Number x) = (record { tree = Number x; binds = omega arith; no_target = refl; formed = λ b. tt; stands = λ toks i h. (h, refl) }, property_keys.Number x, refl)
token_is (tokens.Text x) = (record { tree = Text x; binds = omega arith; no_target = refl; formed = λ b. tt; stands = λ toks i h. (h, refl) }, property_keys.Text x, refl)
token_is (tokens.Sign s) = sign_is s
token_is (tokens.Key k) = key_is k

-- a name behind a dot
pub name_is : (t : Token) → is_name (class_of t) ≡ true → (x : Spelt) × (t ≡ spelt_token x)
name_is (tokens.Word x) h = (spelts.Word x, refl)
name_is (tokens.Number x) h = cc
name_is (tokens.Text x) h = cc
name_is (tokens.Sign signs.OpenBrace) h = cc
name_is (tokens.Sign _) h = cc
name_is (tokens.Key k) h = (spelts.Key k, refl)

-- what stands at a place: a token of the class, or none
abbrev pub Has : List Tok → ℕ → Class → Type 0
Has toks i classes.End = token_at toks i ≡ None
Has toks i k = (t : Token) × HasToken toks i t × (class_of t ≡ k) × Is k t

pub has_token : (toks : List Tok) (i : ℕ) (t : Token) → HasToken toks i t → (k : Class) → class_of t ≡ k → Has toks i k
has_token toks i t h classes.End e = absurd (subst (λ (z : Class). Is z t) e (token_is t))
has_token toks i t h classes.Word e = (t, h, e, subst (λ (z : Class). Is z t) e (token_is t))
has_token toks i t h k e = (t, h, e, subst (λ (z : Class). Is z t) e (token_is t))
