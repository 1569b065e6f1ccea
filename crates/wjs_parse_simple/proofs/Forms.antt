-- A statement is of the kind that its first tokens tell.
use Rattle.std.proofs.Common.{◌≡◌, ℕ, ◌+◌, Bool, true, false, ◌||◌, List, Option, Some, None, refl, sym, ap, ◌∙◌, subst, arith}
use Rattle.wjs_base.specs.declared.ids.TextId.{TextId}
use Rattle.wjs_tree.specs.declared.tokens.Token.{Token}
use Rattle.wjs_tree.specs.declared.tokens.Token.TheVariants as tokens
use Rattle.wjs_tree.specs.declared.signs.Sign.{Sign}
use Rattle.wjs_tree.specs.declared.signs.Sign.TheVariants as signs
use Rattle.wjs_tree.specs.declared.keys.Key.{Key}
use Rattle.wjs_tree.specs.declared.keys.Key.TheVariants as keys
use Rattle.wjs_tree.specs.declared.tokens.Tok.{Tok}
use Rattle.wjs_tree.specs.declared.node.End.{End}
use Rattle.wjs_tree.specs.declared.node.End.TheVariants as ends
use Rattle.wjs_tree.specs.Trees.{Expr, Absent, Present, Stmt, Block, Var, Empty, ExprStmt, If, IfElse, DoWhile, While, For, ForIn, ForVarIn, Continue, Break, Return, Throw, Label, Switch, TryCatch, TryFinally, TryBoth, Within}
use Rattle.wjs_tree.specs.Levels.{starts_with_brace, ends_in_update}
use Rattle.wjs_tree.specs.Formed.{StmtFormed}
use Rattle.wjs_tree.specs.Spelling.{Stands, StmtStands}
use Rattle.wjs_tree.specs.Ends.{token_at, HasToken, HasSign, HasKey, InExpr, Ends}
use Rattle.wjs_parse_expr.proofs.Beginnings.{can_begin}
use Rattle.wjs_parse_expr.proofs.Readings.{same_token}
use Rattle.wjs_parse_simple.specs.declared.kind.Kind.{Kind}
use Rattle.wjs_parse_simple.specs.declared.kind.Kind.TheVariants as kinds
use Rattle.wjs_parse_simple.specs.Kinds.{kind_of, key_kind, sign_kind, word_kind, colon_kind, kind_of_stmt}
use Rattle.wjs_parse_simple.specs.Readings.{StmtReading, Stops, is_closer}
use Rattle.wjs_parse_simple.specs.Answers.{KindIs}
use Rattle.wjs_parse_simple.proofs.Starts.{opening, only_name, plain_token}

-- before an end stands no colon
no_colon : (toks : List Tok) (x : TextId) (e : Expr) (end : End) (i m n : ℕ) → HasToken toks i (tokens.Word x) → HasSign toks (i + 1) signs.Colon → Stands toks e i m → Ends toks (InExpr (ends_in_update e)) end m n → (HasSign toks n signs.Colon → ⊥) → ⊥
no_colon toks x e ends.Written i m n h c s d nay =
    let z : HasSign toks (i + 1) signs.Semicolon = subst (λ (k : ℕ). HasSign toks k signs.Semicolon) (only_name toks x e i m h c s) d.0 in
    let q : tokens.Sign signs.Colon ≡ tokens.Sign signs.Semicolon = same_token _ _ _ c z in cc
no_colon toks x e ends.Inserted i m n h c s d nay =
    nay (subst (λ (k : ℕ). HasSign toks k signs.Colon) (let q = only_name toks x e i m h c s in let r = d.1 in let z : i + 1 ≡ n = omega arith in z) c)

expr_kind : (toks : List Tok) (e : Expr) (end : End) (i m n : ℕ) → starts_with_brace e ≡ false → Stands toks e i m → Ends toks (InExpr (ends_in_update e)) end m n → (HasSign toks n signs.Colon → ⊥) → kind_of (token_at toks i) (token_at toks (i + 1)) ≡ kinds.Plain
expr_kind toks e end i m n b s d nay =
    let o = opening toks e i m s in
    ap (λ z. kind_of z (token_at toks (i + 1))) o.stands
    ∙ plain_token o.token (token_at toks (i + 1)) o.begins (o.brace ∙ b) (λ x q c. no_colon toks x e end i m n (subst (λ (t : Token). HasToken toks i t) q o.stands) c s d nay)

at_key : (toks : List Tok) (i : ℕ) (k : Key) → HasKey toks i k → kind_of (token_at toks i) (token_at toks (i + 1)) ≡ key_kind k
at_key toks i k h = ap (λ z. kind_of z (token_at toks (i + 1))) h

at_sign : (toks : List Tok) (i : ℕ) (s : Sign) → HasSign toks i s → kind_of (token_at toks i) (token_at toks (i + 1)) ≡ sign_kind s
at_sign toks i s h = ap (λ z. kind_of z (token_at toks (i + 1))) h

-- the kind by the tokens is the kind by the form, where no longer statement stands
same_kind : (toks : List Tok) (u : Stmt) (i n : ℕ) → StmtFormed u → StmtStands toks u i n → (HasSign toks n signs.Colon → ⊥) → kind_of (token_at toks i) (token_at toks (i + 1)) ≡ kind_of_stmt u
same_kind toks (Block body) i n f s nay = at_sign toks i _ s.1
same_kind toks (Var vs end) i n f s nay = at_key toks i _ s.1
same_kind toks Empty i n f s nay = at_sign toks i _ s.0
same_kind toks (ExprStmt e end) i n f s nay = expr_kind toks e end i s.0 n f.0 s.1 s.2 nay
same_kind toks (If e b) i n f s nay = at_key toks i _ s.1
same_kind toks (IfElse e a b) i n f s nay = at_key toks i _ s.2
same_kind toks (DoWhile b e end) i n f s nay = at_key toks i _ s.2
same_kind toks (While e b) i n f s nay = at_key toks i _ s.1
same_kind toks (For init test update b) i n f s nay = at_key toks i _ s.3
same_kind toks (ForIn t e b) i n f s nay = at_key toks i _ s.2
same_kind toks (ForVarIn x e b) i n f s nay = at_key toks i _ s.1
same_kind toks (Continue label end) i n f s nay = at_key toks i _ s.1
same_kind toks (Break label end) i n f s nay = at_key toks i _ s.1
same_kind toks (Return Absent end) i n f s nay = at_key toks i _ s.0
same_kind toks (Return (Present e) end) i n f s nay = at_key toks i _ s.1
same_kind toks (Throw e end) i n f s nay = at_key toks i _ s.1
same_kind toks (Label x b) i n f s nay = ap (λ z. kind_of z (token_at toks (i + 1))) s.0 ∙ ap (word_kind x) s.1
same_kind toks (Switch e clauses) i n f s nay = at_key toks i _ s.2
same_kind toks (TryCatch a x b) i n f s nay = at_key toks i _ s.2
same_kind toks (TryFinally a b) i n f s nay = at_key toks i _ s.2
same_kind toks (TryBoth a x b c) i n f s nay = at_key toks i _ s.3
same_kind toks (Within e b) i n f s nay = at_key toks i _ s.2

-- the tokens that a kind tells
abbrev pub KindTokens : Option Token → Option Token → Kind → Type 0
KindTokens a b kinds.Block = a ≡ Some (tokens.Sign signs.OpenBrace)
KindTokens a b kinds.Variables = a ≡ Some (tokens.Key keys.Var)
KindTokens a b kinds.Empty = a ≡ Some (tokens.Sign signs.Semicolon)
KindTokens a b kinds.If = a ≡ Some (tokens.Key keys.If)
KindTokens a b kinds.Do = a ≡ Some (tokens.Key keys.Do)
KindTokens a b kinds.While = a ≡ Some (tokens.Key keys.While)
KindTokens a b kinds.For = a ≡ Some (tokens.Key keys.For)
KindTokens a b kinds.Continue = a ≡ Some (tokens.Key keys.Continue)
KindTokens a b kinds.Break = a ≡ Some (tokens.Key keys.Break)
KindTokens a b kinds.Return = a ≡ Some (tokens.Key keys.Return)
KindTokens a b kinds.Throw = a ≡ Some (tokens.Key keys.Throw)
KindTokens a b (kinds.Label x) = (a ≡ Some (tokens.Word x)) × (b ≡ Some (tokens.Sign signs.Colon))
KindTokens a b kinds.Switch = a ≡ Some (tokens.Key keys.Switch)
KindTokens a b kinds.Try = a ≡ Some (tokens.Key keys.Try)
KindTokens a b kinds.Within = a ≡ Some (tokens.Key keys.In)
KindTokens a b kinds.Nothing = a ≡ Some (tokens.Key keys.Function)
KindTokens a b kinds.Plain = Unit {0}

key_right : (k : Key) (b : Option Token) → KindTokens (Some (tokens.Key k)) b (key_kind k)
key_right keys.Var b = refl
key_right keys.If b = refl
key_right keys.Do b = refl
key_right keys.While b = refl
key_right keys.For b = refl
key_right keys.Continue b = refl
key_right keys.Break b = refl
key_right keys.Return b = refl
key_right keys.Throw b = refl
key_right keys.Switch b = refl
key_right keys.Try b = refl
key_right keys.In b = refl
key_right keys.Function b = refl
key_right _ b = tt

sign_right : (s : Sign) (b : Option Token) → KindTokens (Some (tokens.Sign s)) b (sign_kind s)
sign_right signs.OpenBrace b = refl
sign_right signs.Semicolon b = refl
sign_right _ b = tt

colon_right : (x : TextId) (s : Sign) → KindTokens (Some (tokens.Word x)) (Some (tokens.Sign s)) (colon_kind x s)
colon_right x signs.Colon = (refl, refl)
colon_right x _ = tt

kind_right : (a b : Option Token) → KindTokens a b (kind_of a b)
kind_right None b = tt
kind_right (Some (tokens.Key k)) b = key_right k b
kind_right (Some (tokens.Sign s)) b = sign_right s b
kind_right (Some (tokens.Word x)) None = tt
kind_right (Some (tokens.Word x)) (Some (tokens.Sign s)) = colon_right x s
kind_right (Some (tokens.Word x)) (Some (tokens.Key k)) = tt
kind_right (Some (tokens.Word x)) (Some (tokens.Word y)) = tt
kind_right (Some (tokens.Word x)) (Some (tokens.Text y)) = tt
kind_right (Some (tokens.Word x)) (Some (tokens.Number y)) = tt
kind_right (Some (tokens.Text x)) b = tt
kind_right (Some (tokens.Number x)) b = tt

-- the tokens of a kind stand at its place
pub told : (toks : List Tok) (i : ℕ) (kind : Kind) → KindIs toks i kind → KindTokens (token_at toks i) (token_at toks (i + 1)) kind
told toks i kind h = subst (λ (k : Kind). KindTokens (token_at toks i) (token_at toks (i + 1)) k) h (kind_right (token_at toks i) (token_at toks (i + 1)))

-- no expression statement begins with `function` (section 12.4)
pub told_no_function : (toks : List Tok) (i : ℕ) → KindIs toks i kinds.Plain → HasKey toks i keys.Function → ⊥
told_no_function toks i h k = let e : kinds.Nothing ≡ kinds.Plain = subst (λ (o : Option Token). kind_of o (token_at toks (i + 1)) ≡ kinds.Plain) k h in cc

-- the form that a kind tells
pub of_kind : (toks : List Tok) (room i : ℕ) (kind : Kind) → KindIs toks i kind → (u : Stmt) (m : ℕ) → StmtReading toks room i u m → Stops toks m u → kind_of_stmt u ≡ kind
of_kind toks room i kind h u m r s = sym (same_kind toks u i m r.formed r.stands s.no_colon) ∙ h

-- ---- the tokens that may begin a statement

abbrev stmt_token : Token → Bool
stmt_token (tokens.Key keys.Var) = true
stmt_token (tokens.Key keys.If) = true
stmt_token (tokens.Key keys.Do) = true
stmt_token (tokens.Key keys.While) = true
stmt_token (tokens.Key keys.For) = true
stmt_token (tokens.Key keys.Continue) = true
stmt_token (tokens.Key keys.Break) = true
stmt_token (tokens.Key keys.Return) = true
stmt_token (tokens.Key keys.Throw) = true
stmt_token (tokens.Key keys.Switch) = true
stmt_token (tokens.Key keys.Try) = true
stmt_token (tokens.Key keys.In) = true
stmt_token (tokens.Sign signs.Semicolon) = true
stmt_token _ = false

abbrev pub can_start : Token → Bool
can_start t = can_begin t || stmt_token t

begin_start : (t : Token) → can_begin t ≡ true → can_start t ≡ true
begin_start t h = ap (λ b. b || stmt_token t) h

abbrev pub Starting : List Tok → ℕ → Type 0
Starting toks i = (t : Token) × HasToken toks i t × (can_start t ≡ true)

expr_starting : (toks : List Tok) (e : Expr) (i m : ℕ) → Stands toks e i m → Starting toks i
expr_starting toks e i m s = let o = opening toks e i m s in (o.token, o.stands, begin_start o.token o.begins)

pub starting : (toks : List Tok) (u : Stmt) (i n : ℕ) → StmtStands toks u i n → Starting toks i
starting toks (Block body) i n s = (_, s.1, refl)
starting toks (Var vs end) i n s = (_, s.1, refl)
starting toks Empty i n s = (_, s.0, refl)
starting toks (ExprStmt e end) i n s = expr_starting toks e i s.0 s.1
starting toks (If e b) i n s = (_, s.1, refl)
starting toks (IfElse e a b) i n s = (_, s.2, refl)
starting toks (DoWhile b e end) i n s = (_, s.2, refl)
starting toks (While e b) i n s = (_, s.1, refl)
starting toks (For init test update b) i n s = (_, s.3, refl)
starting toks (ForIn t e b) i n s = (_, s.2, refl)
starting toks (ForVarIn x e b) i n s = (_, s.1, refl)
starting toks (Continue label end) i n s = (_, s.1, refl)
starting toks (Break label end) i n s = (_, s.1, refl)
starting toks (Return Absent end) i n s = (_, s.0, refl)
starting toks (Return (Present e) end) i n s = (_, s.1, refl)
starting toks (Throw e end) i n s = (_, s.1, refl)
starting toks (Label x b) i n s = (_, s.0, refl)
starting toks (Switch e clauses) i n s = (_, s.2, refl)
starting toks (TryCatch a x b) i n s = (_, s.2, refl)
starting toks (TryFinally a b) i n s = (_, s.2, refl)
starting toks (TryBoth a x b c) i n s = (_, s.3, refl)
starting toks (Within e b) i n s = (_, s.2, refl)

sign_closes : (s : Sign) → is_closer (Some (tokens.Sign s)) ≡ true → can_start (tokens.Sign s) ≡ false
sign_closes signs.CloseBrace h = refl
sign_closes _ h = cc

key_closes : (k : Key) → is_closer (Some (tokens.Key k)) ≡ true → can_start (tokens.Key k) ≡ false
key_closes keys.Case h = refl
key_closes keys.Default h = refl
key_closes _ h = cc

token_closes : (t : Token) → is_closer (Some t) ≡ true → can_start t ≡ false
token_closes (tokens.Sign s) h = sign_closes s h
token_closes (tokens.Key k) h = key_closes k h
token_closes (tokens.Word x) h = cc
token_closes (tokens.Text x) h = cc
token_closes (tokens.Number x) h = cc

-- no statement begins where a list of statements is closed
pub no_start : (toks : List Tok) (u : Stmt) (i n : ℕ) → is_closer (token_at toks i) ≡ true → StmtStands toks u i n → ⊥
no_start toks u i n h s =
    let t = starting toks u i n s in
    let c : is_closer (Some t.0) ≡ true = sym (ap is_closer t.1) ∙ h in
    let f = token_closes t.0 c in let g = t.2 in cc

-- a token that begins a statement ends the one before it
pub start_stops : (toks : List Tok) (m : ℕ) (u : Stmt) → Starting toks m → Stops toks m u
start_stops toks m u t = record {
  no_else = λ h. absurd (nay (tokens.Key keys.Else) h refl);
  no_finally = λ h. nay (tokens.Key keys.Finally) h refl;
  no_colon = λ h. nay (tokens.Sign signs.Colon) h refl;
}
  where
    nay : (x : Token) → HasToken toks m x → can_start x ≡ false → ⊥
    nay x h f = let q : t.0 ≡ x = same_token _ t.0 x t.1 h in let z : can_start t.0 ≡ can_start x = ap can_start q in let g = t.2 in cc

-- and so does one that closes the list
pub close_stops : (toks : List Tok) (m : ℕ) (u : Stmt) → is_closer (token_at toks m) ≡ true → Stops toks m u
close_stops toks m u c = record {
  no_else = λ h. absurd (nay (tokens.Key keys.Else) h refl);
  no_finally = λ h. nay (tokens.Key keys.Finally) h refl;
  no_colon = λ h. nay (tokens.Sign signs.Colon) h refl;
}
  where
    nay : (x : Token) → HasToken toks m x → is_closer (Some x) ≡ false → ⊥
    nay x h f = let q : is_closer (token_at toks m) ≡ is_closer (Some x) = ap is_closer h in cc
