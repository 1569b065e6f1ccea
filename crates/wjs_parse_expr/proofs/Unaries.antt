-- Operators behind a is_target and before an operand.
use Rattle.std.proofs.Common.{◌≡◌, ℕ, ◌+◌, ◌-◌, ◌<◌, ◌≤◌, ◌⊎◌, inl, inr, Bool, true, false, List, ◌∷◌, Option, Some, None, refl, sym, ap, ◌∙◌, subst, arith, length}
use Rattle.std.specs.Prelude.{slice_get}
use Rattle.wjs_base.specs.declared.ids.NodeId.{NodeId}
use Rattle.wjs_tree.specs.declared.tokens.Token.{Token}
use Rattle.wjs_tree.specs.declared.tokens.Token.TheVariants as tokens
use Rattle.wjs_tree.specs.declared.signs.Sign.TheVariants as signs
use Rattle.wjs_tree.specs.declared.tokens.Tok.{Tok}
use Rattle.wjs_tree.specs.declared.node.Node.{Node}
use Rattle.wjs_tree.specs.declared.node.Node.TheVariants as nodes
use Rattle.wjs_parse_expr.specs.declared.parts.Part.{Part}
use Rattle.wjs_tree.specs.Trees.{Expr, Name, Number, Text, This, ThisWorld, Null, Boolean, ArrayLit, ObjectLit, Function, Paren, Dot, At, Call, NewWith, NewBare, Postfix, Prefix, Binary, Cond, Assign, Comma}
use Rattle.wjs_parse_expr.specs.Reach.{reach}
use Rattle.wjs_tree.specs.Levels.{level, is_target}
use Rattle.wjs_parse_expr.specs.Readings.{edge, Reading, Continues}
use Rattle.wjs_tree.specs.Formed.{WellFormed}
use Rattle.wjs_tree.specs.Spelling.{Stands}
use Rattle.wjs_tree.specs.Ends.{token_at, is_joined}
use Rattle.wjs_tree.specs.Shows.{Keeps, Has}
use Rattle.wjs_parse_expr.specs.Answers.{Nothing, Finds, Begun, from, Answers, FindsOperand, OperandAnswers, TargetAnswers}
use Rattle.wjs_tree.proofs.Kept.{kept, keeps_self}
use Rattle.wjs_parse_expr.proofs.Reach.{binary_bounds, reach_max, update_reach, same_update_token, same_prefix_token}
use Rattle.wjs_tree.specs.declared.operators.UpdateOperator.{UpdateOperator}
use Rattle.wjs_tree.specs.declared.operators.PrefixOperator.{PrefixOperator}
use Rattle.wjs_tree.specs.declared.operators.PrefixOperator.TheVariants as prefixes
use Rattle.wjs_tree.specs.Operators.{update_token, prefix_token, prefix_of, is_update}
use Rattle.std.specs.Prelude.{is_some}
use Rattle.wjs_parse_expr.proofs.Beginnings.{can_begin}
use Rattle.wjs_parse_expr.specs.Answers.{Origin}
use Rattle.std.proofs.lemmas.Option.{slice_get_within}
use Rattle.wjs_parse_expr.specs.declared.functions.Functions.{Functions}
use Rattle.wjs_parse_expr.specs.Table.{Holds}
use Rattle.wjs_parse_expr.proofs.Owning.{own_wide, own_top, own_left}
use Rattle.wjs_parse_expr.proofs.Readings.{edge_high, same_token, lower}
use Rattle.wjs_tree.specs.declared.keys.Key.TheVariants as keys
use Rattle.wjs_parse_expr.proofs.Assignments.{target_level}
use Rattle.std.specs.declared.result.Result.{Result}
use Rattle.std.specs.declared.result.Result.TheVariants.{Ok, Err}
use Rattle.wjs_base.specs.declared.ids.OutOfMemory.{OutOfMemory}
use Rattle.wjs_parse_expr.proofs.OneStep.{IsStep, stays, goes}

-- `++` or `--` on the line of its is_target
pub record PostfixStep (toks : List Tok) (y : Expr) (f : ℕ) (y' : Expr) (f' : ℕ) : Type 0 where
  pub op : UpdateOperator
  pub is : y' ≡ Postfix y op
  pub target : is_target y ≡ true
  pub sign : token_at toks f ≡ Some (update_token op)
  pub joined : is_joined (slice_get toks f) ≡ true
  pub ends : f' ≡ f + 1

PostfixParts : List Tok → Bool → ℕ → ℕ → Expr → ℕ → Type 0
PostfixParts toks no_in room i t n = Reading toks 15 no_in room i t n ⊎ ((x : Expr) × (e : ℕ) × Reading toks 15 no_in room i x e × PostfixStep toks x e t n)

base : (toks : List Tok) (no_in : Bool) (room i : ℕ) (t : Expr) (n : ℕ) → 15 ≤ level t → Reading toks 14 no_in room i t n → PostfixParts toks no_in room i t n
unfolding PostfixParts
base toks no_in room i t n h r = inl (record { level = h; formed = r.formed; height = r.height; stands = r.stands })

-- a is_target's level
pub target_16 : (no_in : Bool) (t : Expr) → is_target t ≡ true → WellFormed no_in t → 16 ≤ level t
target_16 no_in (Name x) h w = omega arith
target_16 no_in (Paren e) h w = omega arith
target_16 no_in (Dot e x) h w = let l = w.0 in omega arith
target_16 no_in (At e j) h w = let l = w.0 in omega arith
target_16 no_in _ h w = cc

postfix_parts : (toks : List Tok) (no_in : Bool) (room i : ℕ) (t : Expr) (n : ℕ) → Reading toks 14 no_in room i t n → PostfixParts toks no_in room i t n
unfolding PostfixParts
postfix_parts toks no_in room i (Postfix t s) n r =
    inr (
      t,
      r.stands.0,
      record { level = target_level no_in t r.formed.0 r.formed.2; formed = r.formed.2; height = r.height; stands = r.stands.1 },
      record { op = s; is = refl; target = r.formed.0; sign = r.stands.2; joined = r.stands.3; ends = r.stands.4 },
    )
postfix_parts toks no_in room i (Dot e x) n r = base toks no_in room i _ n (let f = r.formed.0 in omega arith) r
postfix_parts toks no_in room i (At e x) n r = base toks no_in room i _ n (let f = r.formed.0 in omega arith) r
postfix_parts toks no_in room i (Binary a op b) n r =
    absurd (let b = binary_bounds op in let l = r.level in omega arith)
postfix_parts toks no_in room i t n r = base toks no_in room i t n (let l = r.level in omega arith) r

postfix_reach : (toks : List Tok) (no_in : Bool) (y : Expr) (p : ℕ) (y' : Expr) (p' : ℕ) → PostfixStep toks y p y' p' → reach no_in (token_at toks p) ≡ 15
postfix_reach toks no_in y p y' p' s = ap (reach no_in) s.sign ∙ update_reach no_in s.op

postfix_grows : (toks : List Tok) (no_in : Bool) (room i : ℕ) (y : Expr) (p : ℕ) (y' : Expr) (p' : ℕ) → Reading toks 15 no_in room i y p → PostfixStep toks y p y' p' → Reading toks 14 no_in room i y' p'
postfix_grows toks no_in room i y p y' p' r s =
    subst (λ (u : Expr). Reading toks 14 no_in room i u p') (sym s.is)
    (record {
      level = omega arith;
      formed = (s.target, target_level no_in y s.target r.formed, r.formed);
      height = r.height;
      stands = (p, r.stands, s.sign, s.joined, s.ends);
    })

pub postfix_step : (toks : List Tok) (no_in : Bool) (room i : ℕ) → IsStep toks no_in room i 15 14 (PostfixStep toks)
unfolding PostfixParts
postfix_step toks no_in room i = record {
  parts = λ t n r. postfix_parts toks no_in room i t n r;
  lifts = λ t n r. lower toks 15 14 no_in room i t n (omega arith) r;
  lower = omega arith;
  no_step = λ y p y' p' d s. (let e = postfix_reach toks no_in y p y' p' s in omega arith);
  starts = λ y p y' p' r s. (let e = postfix_reach toks no_in y p y' p' s in (omega arith, (let h = edge_high no_in y r.level r.formed in omega arith), λ q. s.joined));
  grows = λ y p y' p' r s. postfix_grows toks no_in room i y p y' p' r s;
  forward = λ y p y' p' s. (let e = s.ends in omega arith);
}

-- nothing stands behind the base
pub no_postfix : (o : Origin) (toks : List Tok) (no_in : Bool) (room i : ℕ) (ns : List Node) (left : Part) → Finds o toks 15 no_in room i ns left
    → (left.is_target ≡ true → (op : UpdateOperator) → token_at toks left.next ≡ Some (update_token op) → is_joined (slice_get toks left.next) ≡ true → ⊥) → Finds o toks 14 no_in room i ns left
no_postfix o toks no_in room i ns left f none =
    stays o toks no_in room i 15 14 (PostfixStep toks) (postfix_step toks no_in room i) ns ns left (keeps_self ns) f
    (λ y' f' s. none (f.part.is_target ∙ s.target) s.op s.sign s.joined)

pub with_postfix : (o : Origin) (toks : List Tok) (no_in : Bool) (room i : ℕ) (old new : List Node) (left : Part) (op : UpdateOperator) (node : NodeId) → Begun o.functions o old left.next → (f : Finds o toks 15 no_in room i old left) → Keeps old new
    → token_at toks left.next ≡ Some (update_token op) → left.is_target ≡ true → is_joined (slice_get toks left.next) ≡ true → Has new node (nodes.Postfix left.node op) → node.0 ≡ length old
    → Finds o toks 14 no_in room i new (record { node = node; next = left.next + 1; is_target = false })
with_postfix o toks no_in room i old new left op node b f k sign isTarget joined has fresh =
    goes o toks no_in room i 15 14 (PostfixStep toks) (postfix_step toks no_in room i) old new left (record { node = node; next = left.next + 1; is_target = false }) f (Postfix f.tree op)
    (record {
      used = node.0 ∷ f.part.used;
      shows = (left.node, f.part.used, has, refl, kept old new k f.tree left.node f.part.used f.part.shows);
      own = own_left o.functions o old left.next b new (left.next + 1) node f.part.used k fresh (slice_get_within new node.0 _ has) (omega arith) f.part.own;
      is_target = refl;
    })
    (record { op = op; is = refl; target = sym f.part.is_target ∙ isTarget; sign = sign; joined = joined; ends = refl })
    (λ t' n' s. inl (let e : s.op ≡ op = same_update_token _ s.op op s.sign sign in let a = s.is in cc, s.ends))

-- the first token of a tree
abbrev pub First : List Tok → ℕ → Type 0
First toks i = (x : Token) × (token_at toks i ≡ Some x) × (can_begin x ≡ true)

prefix_begins : (op : PrefixOperator) → can_begin (prefix_token op) ≡ true
prefix_begins prefixes.Delete = refl
prefix_begins _ = refl

pub begins : (toks : List Tok) (t : Expr) (i n : ℕ) → Stands toks t i n → First toks i
begins toks (Name x) i n h = (tokens.Word x, h.0, refl)
begins toks (Number x) i n h = (tokens.Number x, h.0, refl)
begins toks (Text x) i n h = (tokens.Text x, h.0, refl)
begins toks This i n h = (tokens.Key keys.This, h.0, refl)
begins toks ThisWorld i n h = (tokens.Key keys.ThisWorld, h.0, refl)
begins toks Null i n h = (tokens.Key keys.Null, h.0, refl)
begins toks (Boolean true) i n h = (tokens.Key keys.True, h.0, refl)
begins toks (Boolean false) i n h = (tokens.Key keys.False, h.0, refl)
begins toks (Paren e) i n h = (tokens.Sign signs.OpenParen, h.1, refl)
begins toks (ArrayLit e) i n h = (tokens.Sign signs.OpenBracket, h.1, refl)
begins toks (ObjectLit e) i n h = (tokens.Sign signs.OpenBrace, h.1, refl)
begins toks (Function x y z) i n h = (tokens.Key keys.Function, h.3, refl)
begins toks (Dot e x) i n h = begins toks e i h.0 h.1
begins toks (At e j) i n h = begins toks e i h.0 h.2
begins toks (Call f xs) i n h = begins toks f i h.0 h.2
begins toks (NewWith f xs) i n h = (tokens.Key keys.New, h.2, refl)
begins toks (NewBare f) i n h = (tokens.Key keys.New, h.0, refl)
begins toks (Postfix t s) i n h = begins toks t i h.0 h.1
begins toks (Prefix s e) i n h = (prefix_token s, h.0, prefix_begins s)
begins toks (Binary a op b) i n h = begins toks a i h.0 h.1
begins toks (Cond c a b) i n h = begins toks c i h.0 h.2
begins toks (Assign t op e) i n h = begins toks t i h.0 h.1
begins toks (Comma a b) i n h = begins toks a i h.0 h.1

pub none_begins : (toks : List Tok) (least : ℕ) (no_in : Bool) (room i : ℕ) → token_at toks i ≡ None → Nothing toks least no_in room i
none_begins toks least no_in room i e = record { none = λ u m r. absurd (let b = begins toks u i m r.stands in let q = b.1 in cc) }

-- no tree begins with a token that begins none
pub never_begins : (toks : List Tok) (t : Expr) (i n : ℕ) (x : Token) → Stands toks t i n → token_at toks i ≡ Some x → can_begin x ≡ false → ⊥
never_begins toks t i n x h e f = let b = begins toks t i n h in let q : b.0 ≡ x = same_token _ b.0 x b.1 e in let z : can_begin b.0 ≡ can_begin x = ap can_begin q in let c = b.2 in cc

-- a tree of a high level begins with no operator
abbrev is_prefix : Token → Bool
is_prefix x = is_some (prefix_of x)

prefix_is : (op : PrefixOperator) → is_prefix (prefix_token op) ≡ true
prefix_is prefixes.Delete = refl
prefix_is _ = refl

-- another token is no operator before an operand
plain : (x : Token) (op : PrefixOperator) → x ≡ prefix_token op → is_prefix x ≡ false → ⊥
plain x op e h = let q : is_prefix x ≡ is_prefix (prefix_token op) = ap is_prefix e in let z = prefix_is op in cc

high : (toks : List Tok) (no_in : Bool) (t : Expr) (i n : ℕ) (op : PrefixOperator) → 14 ≤ level t → WellFormed no_in t → Stands toks t i n → token_at toks i ≡ Some (prefix_token op) → ⊥
high toks no_in (Name a) i n op l w s e = plain (tokens.Word a) op (same_token _ (tokens.Word a) (prefix_token op) s.0 e) refl
high toks no_in (Number a) i n op l w s e = plain (tokens.Number a) op (same_token _ (tokens.Number a) (prefix_token op) s.0 e) refl
high toks no_in (Text a) i n op l w s e = plain (tokens.Text a) op (same_token _ (tokens.Text a) (prefix_token op) s.0 e) refl
high toks no_in This i n op l w s e = plain (tokens.Key keys.This) op (same_token _ (tokens.Key keys.This) (prefix_token op) s.0 e) refl
high toks no_in ThisWorld i n op l w s e = plain (tokens.Key keys.ThisWorld) op (same_token _ (tokens.Key keys.ThisWorld) (prefix_token op) s.0 e) refl
high toks no_in Null i n op l w s e = plain (tokens.Key keys.Null) op (same_token _ (tokens.Key keys.Null) (prefix_token op) s.0 e) refl
high toks no_in (Boolean true) i n op l w s e = plain (tokens.Key keys.True) op (same_token _ (tokens.Key keys.True) (prefix_token op) s.0 e) refl
high toks no_in (Boolean false) i n op l w s e = plain (tokens.Key keys.False) op (same_token _ (tokens.Key keys.False) (prefix_token op) s.0 e) refl
high toks no_in (Paren a) i n op l w s e = plain (tokens.Sign signs.OpenParen) op (same_token _ (tokens.Sign signs.OpenParen) (prefix_token op) s.1 e) refl
high toks no_in (ArrayLit a) i n op l w s e = plain (tokens.Sign signs.OpenBracket) op (same_token _ (tokens.Sign signs.OpenBracket) (prefix_token op) s.1 e) refl
high toks no_in (ObjectLit a) i n op l w s e = plain (tokens.Sign signs.OpenBrace) op (same_token _ (tokens.Sign signs.OpenBrace) (prefix_token op) s.1 e) refl
high toks no_in (Function x y z) i n op l w s e = plain (tokens.Key keys.Function) op (same_token _ (tokens.Key keys.Function) (prefix_token op) s.3 e) refl
high toks no_in (Dot a y) i n op l w s e = high toks no_in a i s.0 op (let h = w.0 in omega arith) w.1 s.1 e
high toks no_in (At a y) i n op l w s e = high toks no_in a i s.0 op (let h = w.0 in omega arith) w.1 s.2 e
high toks no_in (Call a y) i n op l w s e = high toks no_in a i s.0 op (let h = w.0 in omega arith) w.1 s.2 e
high toks no_in (NewWith a y) i n op l w s e = plain (tokens.Key keys.New) op (same_token _ (tokens.Key keys.New) (prefix_token op) s.2 e) refl
high toks no_in (NewBare a) i n op l w s e = plain (tokens.Key keys.New) op (same_token _ (tokens.Key keys.New) (prefix_token op) s.0 e) refl
high toks no_in (Postfix a y) i n op l w s e = high toks no_in a i s.0 op (let h = w.1 in omega arith) w.2 s.1 e
high toks no_in (Binary a x b) i n op l w s e = absurd (let u = binary_bounds x in omega arith)
high toks no_in _ i n op l w s e = absurd (omega arith)

-- operators before an operand
not_prefixed : (toks : List Tok) (no_in : Bool) (room i : ℕ) → ((op : PrefixOperator) → token_at toks i ≡ Some (prefix_token op) → ⊥) → (t : Expr) (n : ℕ) → Reading toks 13 no_in room i t n → Reading toks 14 no_in room i t n
not_prefixed toks no_in room i none (Prefix s a) n r = absurd (none s r.stands.0)
not_prefixed toks no_in room i none (Binary a op b) n r = absurd (let b = binary_bounds op in let l = r.level in omega arith)
not_prefixed toks no_in room i none (Dot a y) n r = record { level = (let f = r.formed.0 in omega arith); formed = r.formed; height = r.height; stands = r.stands }
not_prefixed toks no_in room i none (At a y) n r = record { level = (let f = r.formed.0 in omega arith); formed = r.formed; height = r.height; stands = r.stands }
not_prefixed toks no_in room i none t n r = record { level = (let l = r.level in omega arith); formed = r.formed; height = r.height; stands = r.stands }

lower_same : (toks : List Tok) (no_in : Bool) (t : Expr) (n : ℕ) (y : Expr) (f : ℕ) (a b : ℕ) → b ≤ a → ((t ≡ y) × (n ≡ f)) ⊎ ((n < f) × Continues toks a no_in t n) → ((t ≡ y) × (n ≡ f)) ⊎ ((n < f) × Continues toks b no_in t n)
lower_same toks no_in t n y f a b le (inl e) = inl e
lower_same toks no_in t n y f a b le (inr l) = inr (l.0, ((let h = l.1.0 in omega arith), l.1.1, l.1.2))

pub either_postfix : (o : Origin) (toks : List Tok) (no_in : Bool) (room i : ℕ) (ns : List Node) → ((op : PrefixOperator) → token_at toks i ≡ Some (prefix_token op) → ⊥)
    → (r : Result (Option Part) OutOfMemory) → Answers o toks 14 no_in room i ns r → Answers o toks 13 no_in room i ns r
either_postfix o toks no_in room i ns none (Ok (Some p)) f = record {
  tree = f.tree;
  part = f.part;
  best = record {
    reading = lower toks 14 13 no_in room i f.tree p.next (omega arith) f.best.reading;
    longest = λ u m r. lower_same toks no_in u m f.tree p.next 14 13 (omega arith) (f.best.longest u m (not_prefixed toks no_in room i none u m r));
  };
}
either_postfix o toks no_in room i ns none (Ok None) f = record { none = λ u m r. f.none u m (not_prefixed toks no_in room i none u m r) }
either_postfix o toks no_in room i ns none (Err d) f = tt

-- what stands behind an operator before an operand
Behind : List Tok → Bool → ℕ → ℕ → PrefixOperator → Expr → ℕ → Type 0
Behind toks no_in room i op t n = (e : Expr) × (t ≡ Prefix op e) × (0 < room) × Reading toks 13 no_in (room - 1) (i + 1) e n × (is_update op ≡ true → is_target e ≡ true)

same_behind : (toks : List Tok) (no_in : Bool) (room i : ℕ) (s op : PrefixOperator) (t : Expr) (n : ℕ) → s ≡ op → Behind toks no_in room i s t n → Behind toks no_in room i op t n
same_behind toks no_in room i s op t n e h = subst (λ (z : PrefixOperator). Behind toks no_in room i z t n) e h

prefixed : (toks : List Tok) (no_in : Bool) (room i : ℕ) (op : PrefixOperator) → token_at toks i ≡ Some (prefix_token op) → (t : Expr) (n : ℕ) → Reading toks 13 no_in room i t n → Behind toks no_in room i op t n
unfolding Behind same_behind
prefixed toks no_in room i op e (Prefix s a) n r =
    same_behind toks no_in room i s op (Prefix s a) n (same_prefix_token _ s op r.stands.0 e) (
      a,
      refl,
      (let k = r.height in omega arith),
      record { level = r.formed.0; formed = r.formed.2; height = (let k = r.height in omega arith); stands = r.stands.1 },
      r.formed.1,
    )
prefixed toks no_in room i op e (Binary a x b) n r = absurd (let u = binary_bounds x in let l = r.level in omega arith)
prefixed toks no_in room i op e (Dot a y) n r = absurd (high toks no_in (Dot a y) i n op (let f = r.formed.0 in omega arith) r.formed r.stands e)
prefixed toks no_in room i op e (At a y) n r = absurd (high toks no_in (At a y) i n op (let f = r.formed.0 in omega arith) r.formed r.stands e)
prefixed toks no_in room i op e t n r = absurd (high toks no_in t i n op (let l = r.level in omega arith) r.formed r.stands e)

pub prefix_no_room : (toks : List Tok) (no_in : Bool) (room i : ℕ) (op : PrefixOperator) → token_at toks i ≡ Some (prefix_token op) → room ≡ 0 → Nothing toks 13 no_in room i
unfolding Behind
prefix_no_room toks no_in room i op e z = record { none = λ u m r. (let b = prefixed toks no_in room i op e u m r in let k = b.2 in omega arith) }

pub prefix_none : (toks : List Tok) (no_in : Bool) (room i : ℕ) (op : PrefixOperator) → token_at toks i ≡ Some (prefix_token op)
    → ((u : Expr) (m : ℕ) → Reading toks 13 no_in (room - 1) (i + 1) u m → (is_update op ≡ true → is_target u ≡ true) → ⊥) → Nothing toks 13 no_in room i
unfolding Behind
prefix_none toks no_in room i op e f = record { none = λ u m r. (let b = prefixed toks no_in room i op e u m r in f b.0 m b.3 b.4) }

prefix_same : (toks : List Tok) (no_in : Bool) (op : PrefixOperator) (u e y : Expr) (m f : ℕ) → u ≡ Prefix op e → ((e ≡ y) × (m ≡ f)) ⊎ ((m < f) × Continues toks 13 no_in e m) → ((u ≡ Prefix op y) × (m ≡ f)) ⊎ ((m < f) × Continues toks 13 no_in u m)
prefix_same toks no_in op u e y m f q (inl s) = inl (let a = s.0 in cc, s.1)
prefix_same toks no_in op u e y m f q (inr l) = inr (l.0, (l.1.0, (let z : edge u ≡ edge e = ap edge q in let w = l.1.1 in omega arith), l.1.2))

pub prefix_found : (functions : Functions) (start : List Node) (place tall : ℕ) (toks : List Tok) (no_in : Bool) (room i : ℕ) (op : PrefixOperator) (old new : List Node) (part : Part) (node : NodeId) → Holds toks functions place tall start → token_at toks i ≡ Some (prefix_token op) → 0 < room
    → FindsOperand (from toks functions start (i + 1)) op toks no_in (room - 1) (i + 1) old part → Keeps start old → Keeps old new → Has new node (nodes.Prefix op part.node) → node.0 ≡ length old
    → Finds (from toks functions start i) toks 13 no_in room i new (record { node = node; next = part.next; is_target = false })
unfolding Behind
prefix_found functions start place tall toks no_in room i op old new part node held e below f ks k has fresh = record {
  tree = Prefix op f.tree;
  part = record {
    used = node.0 ∷ f.part.used;
    shows = (part.node, f.part.used, has, refl, kept old new k f.tree part.node f.part.used f.part.shows);
    own = own_top toks functions start place tall held old new i part.next part.next node f.part.used ks k fresh (slice_get_within new node.0 _ has) (omega arith)
        (own_wide functions start old old (i + 1) i part.next part.next f.part.used (keeps_self old) (omega arith) (omega arith) f.part.own);
    is_target = refl;
  };
  best = record {
    reading = record {
      level = omega arith;
      formed = (f.reading.level, f.fits, f.reading.formed);
      height = (let q = f.reading.height in omega arith);
      stands = (e, f.reading.stands);
    };
    longest = λ u m r. (let b = prefixed toks no_in room i op e u m r in prefix_same toks no_in op u b.0 f.tree m part.next b.1 (f.longest b.0 m b.3 b.4));
  };
}

-- the operand of another operator
pub plain_operand : (o : Origin) (toks : List Tok) (no_in : Bool) (room i : ℕ) (op : PrefixOperator) (ns : List Node) → is_update op ≡ false
    → (r : Result (Option Part) OutOfMemory) → Answers o toks 13 no_in room i ns r → OperandAnswers o op toks no_in room i ns r
plain_operand o toks no_in room i op ns not (Ok (Some p)) f = record {
  tree = f.tree;
  part = f.part;
  fits = λ z. absurd (cc);
  reading = f.best.reading;
  longest = λ u m r z. f.best.longest u m r;
}
plain_operand o toks no_in room i op ns not (Ok None) f = λ u m r z. f.none u m r
plain_operand o toks no_in room i op ns not (Err d) f = tt

-- the target of `++` or `--`
as_target : (toks : List Tok) (no_in : Bool) (room i : ℕ) (u : Expr) (m : ℕ) → is_target u ≡ true → Reading toks 13 no_in room i u m → Reading toks 15 no_in room i u m
as_target toks no_in room i u m h r = record { level = target_level no_in u h r.formed; formed = r.formed; height = r.height; stands = r.stands }

target_same : (toks : List Tok) (no_in : Bool) (u : Expr) (m : ℕ) (t : Expr) (n : ℕ) → 15 ≤ level u → WellFormed no_in u → ((u ≡ t) × (m ≡ n)) ⊎ ((m < n) × (15 < reach no_in (token_at toks m))) → ((u ≡ t) × (m ≡ n)) ⊎ ((m < n) × Continues toks 13 no_in u m)
target_same toks no_in u m t n h w (inl s) = inl s
target_same toks no_in u m t n h w (inr l) =
    inr (l.0, ((let k = l.1 in omega arith), (let e = edge_high no_in u h w in let z = reach_max no_in (token_at toks m) in omega arith), λ q. absurd (let k = l.1 in omega arith)))

pub target_operand : (o : Origin) (toks : List Tok) (no_in : Bool) (room i : ℕ) (op : PrefixOperator) (ns : List Node) → is_update op ≡ true
    → (r : Result (Option Part) OutOfMemory) → TargetAnswers o toks no_in room i ns r → OperandAnswers o op toks no_in room i ns r
target_operand o toks no_in room i op ns is (Ok (Some p)) f = record {
  tree = f.tree;
  part = f.part;
  fits = λ z. f.target;
  reading = lower toks 15 13 no_in room i f.tree p.next (omega arith) f.reading;
  longest = λ u m r z. target_same toks no_in u m f.tree p.next (as_target toks no_in room i u m (z is) r).level r.formed (f.longest u m (as_target toks no_in room i u m (z is) r) (z is));
}
target_operand o toks no_in room i op ns is (Ok None) f = λ u m r z. f u m (as_target toks no_in room i u m (z is) r) (z is)
target_operand o toks no_in room i op ns is (Err d) f = tt
