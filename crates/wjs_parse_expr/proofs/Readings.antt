-- Readings have a height, and are readings at lower levels; parts stay where nodes are added.
use Rattle.std.proofs.Common.{◌≡◌, ℕ, ◌<◌, ◌≤◌, Bool, true, false, not, cond, List, Option, Some, None, refl, length, arith}
use Rattle.std.specs.Prelude.{slice_get}
use Rattle.std.specs.Option.{option_map}
use Rattle.std.proofs.lemmas.Option.{slice_get_within}
use Rattle.wjs_base.specs.declared.ids.NodeId.{NodeId}
use Rattle.wjs_tree.specs.declared.tokens.Token.{Token}
use Rattle.wjs_tree.specs.declared.tokens.Tok.{Tok}
use Rattle.wjs_tree.specs.declared.node.Node.{Node}
use Rattle.wjs_tree.specs.Trees.{Expr, Name, Number, Text, This, ThisWorld, Null, Boolean, Paren, ArrayLit, ObjectLit, Function, Dot, At, Call, NewWith, NewBare, Postfix, Prefix, Binary, Cond, Assign, Comma}
use Rattle.wjs_tree.specs.Levels.{level, ends_in_update}
use Rattle.wjs_tree.specs.Height.{height}
use Rattle.wjs_tree.specs.Formed.{WellFormed}
use Rattle.wjs_tree.specs.Ends.{token_at}
use Rattle.wjs_tree.specs.Shows.{Shows, Keeps}
use Rattle.wjs_tree.proofs.Kept.{kept}
use Rattle.wjs_parse_expr.specs.declared.parts.Part.{Part}
use Rattle.wjs_parse_expr.specs.Readings.{Reading, edge}
use Rattle.wjs_parse_expr.specs.Answers.{Origin, IsPart}
use Rattle.wjs_parse_expr.proofs.Owning.{own_later}
use Rattle.wjs_parse_expr.proofs.Reach.{binary_bounds}

pub lower : (toks : List Tok) (least least' : ℕ) (no_in : Bool) (room i : ℕ) (t : Expr) (n : ℕ) → least' ≤ least → Reading toks least no_in room i t n → Reading toks least' no_in room i t n
lower toks least least' no_in room i t n h r = record { level = (let k = r.level in omega arith); formed = r.formed; height = r.height; stands = r.stands }

pub same_token : (o : Option Token) (a b : Token) → o ≡ Some a → o ≡ Some b → a ≡ b
same_token o a b p q = cc

got : (o : Option Tok) (x : Token) → option_map (λ t. t.token) o ≡ Some x → (t : Tok) × (o ≡ Some t)
got None x h = cc
got (Some t) x h = (t, refl)

pub token_within : (toks : List Tok) (i : ℕ) (x : Token) → token_at toks i ≡ Some x → i < length toks
token_within toks i x h = let g = got (slice_get toks i) x h in slice_get_within toks i g.0 g.1

pub height_positive : (t : Expr) → 1 ≤ height t
height_positive (Dot e x) = height_positive e
height_positive (At e j) = omega (arith, height_positive e)
height_positive (Call f xs) = omega (arith, height_positive f)
height_positive (Postfix t s) = height_positive t
height_positive (Binary a op b) = omega (arith, height_positive a)
height_positive (Cond c a b) = omega (arith, height_positive c)
height_positive (Assign t op e) = omega (arith, height_positive t)
height_positive (Comma a b) = omega (arith, height_positive a)
height_positive _ = omega arith

pub not_false : (b : Bool) → not b ≡ false → b ≡ true
not_false true h = refl
not_false false h = cc

pub not_true : (b : Bool) → not b ≡ true → b ≡ false
not_true true h = cc
not_true false h = refl

either_edge : (b : Bool) → 14 ≤ cond b 14 18
either_edge true = omega arith
either_edge false = omega arith

pub edge_low : (t : Expr) → 14 ≤ edge t
edge_low t = either_edge (ends_in_update t)

-- no sign stands at the end of a tree of a high level
pub edge_high : (no_in : Bool) (t : Expr) → 15 ≤ level t → WellFormed no_in t → edge t ≡ 18
edge_high no_in (Postfix t s) h w = absurd (omega arith)
edge_high no_in (Prefix s e) h w = absurd (omega arith)
edge_high no_in (Binary a op b) h w = absurd (let l = binary_bounds op in omega arith)
edge_high no_in (Cond c a b) h w = absurd (omega arith)
edge_high no_in (Assign t op e) h w = absurd (omega arith)
edge_high no_in (Comma a b) h w = absurd (omega arith)
edge_high no_in _ h w = refl

pub part_kept : (o : Origin) (old new : List Node) → Keeps old new → (p : Part) (t : Expr) → IsPart o old p t → IsPart o new p t
part_kept o old new k p t s = record {
  used = s.used;
  shows = kept old new k t p.node s.used s.shows;
  own = own_later o.functions o.start old new o.at p.next p.next s.used k (omega arith) s.own;
  is_target = s.is_target;
}

-- a node that stands for a tree is there
pub shows_within : (ns : List Node) (t : Expr) (i : NodeId) (used : List ℕ) → Shows ns t i used → i.0 < length ns
shows_within ns (Name x) i used h = slice_get_within ns i.0 _ h.0
shows_within ns (Number k) i used h = slice_get_within ns i.0 _ h.0
shows_within ns (Text x) i used h = slice_get_within ns i.0 _ h.0
shows_within ns This i used h = slice_get_within ns i.0 _ h.0
shows_within ns ThisWorld i used h = slice_get_within ns i.0 _ h.0
shows_within ns Null i used h = slice_get_within ns i.0 _ h.0
shows_within ns (Boolean b) i used h = slice_get_within ns i.0 _ h.0
shows_within ns (Paren e) i used h = slice_get_within ns i.0 _ h.2
shows_within ns (ArrayLit xs) i used h = slice_get_within ns i.0 _ h.2
shows_within ns (ObjectLit ps) i used h = slice_get_within ns i.0 _ h.2
shows_within ns (Function name formals body) i used h = slice_get_within ns i.0 _ h.2
shows_within ns (Dot e x) i used h = slice_get_within ns i.0 _ h.2
shows_within ns (At e j) i used h = slice_get_within ns i.0 _ h.4
shows_within ns (Call f xs) i used h = slice_get_within ns i.0 _ h.4
shows_within ns (NewWith f xs) i used h = slice_get_within ns i.0 _ h.4
shows_within ns (NewBare f) i used h = slice_get_within ns i.0 _ h.2
shows_within ns (Postfix t op) i used h = slice_get_within ns i.0 _ h.2
shows_within ns (Prefix op e) i used h = slice_get_within ns i.0 _ h.2
shows_within ns (Binary l op r) i used h = slice_get_within ns i.0 _ h.4
shows_within ns (Cond c x y) i used h = slice_get_within ns i.0 _ h.6
shows_within ns (Assign t op e) i used h = slice_get_within ns i.0 _ h.4
shows_within ns (Comma l r) i used h = slice_get_within ns i.0 _ h.4
