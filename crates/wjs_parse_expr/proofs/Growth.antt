-- A left part that a loop lets grow.
use Rattle.std.proofs.Common.{ℕ, ◌<◌, Bool, List, ◌≤◌, arith}
use Rattle.wjs_tree.specs.declared.tokens.Tok.{Tok}
use Rattle.wjs_tree.specs.declared.node.Node.{Node}
use Rattle.wjs_parse_expr.specs.declared.parts.Part.{Part}
use Rattle.wjs_tree.specs.Trees.{Expr}
use Rattle.wjs_parse_expr.specs.Readings.{Reading, Continues}
use Rattle.wjs_tree.specs.Shows.{Keeps}
use Rattle.wjs_parse_expr.specs.Answers.{Origin, IsPart, Finds, Begun, Grows}
use Rattle.wjs_parse_expr.proofs.Chain.{Chain, Ahead, Apart, begin, go_on, finish}
use Rattle.wjs_parse_expr.proofs.Readings.{part_kept}

-- Arguments of the level are trees of the base level that grow by steps.
pub record IsLoop (toks : List Tok) (no_in : Bool) (room i base least : ℕ) (S : Expr → ℕ → Expr → ℕ → Type 0) : Type 0 where
  pub parts : (t : Expr) (n : ℕ) → Reading toks least no_in room i t n → (x : Expr) × (e : ℕ) × Reading toks base no_in room i x e × Chain S t n x e
  pub lifts : (t : Expr) (n : ℕ) → Reading toks base no_in room i t n → Reading toks least no_in room i t n
  pub lower : least ≤ base
  pub no_step : (y : Expr) (p : ℕ) (y' : Expr) (p' : ℕ) → Continues toks base no_in y p → S y p y' p' → ⊥
  pub starts : (y : Expr) (p : ℕ) (y' : Expr) (p' : ℕ) → Reading toks least no_in room i y p → S y p y' p' → Continues toks least no_in y p
  pub grows : (y : Expr) (p : ℕ) (y' : Expr) (p' : ℕ) → Reading toks least no_in room i y p → S y p y' p' → Reading toks least no_in room i y' p'
  pub forward : (y : Expr) (p : ℕ) (y' : Expr) (p' : ℕ) → S y p y' p' → p < p'

-- what the loop keeps of the left part
pub record Growing (o : Origin) (toks : List Tok) (no_in : Bool) (room i base least : ℕ) (S : Expr → ℕ → Expr → ℕ → Type 0) (ns : List Node) (left : Part) : Type 0 where
  pub tree : Expr
  pub part : IsPart o ns left tree
  pub reading : Reading toks least no_in room i tree left.next
  pub ahead : Ahead S (λ t n. Reading toks least no_in room i t n) (Continues toks least no_in) (Continues toks base no_in) tree left.next

module _ (o : Origin) (toks : List Tok) (no_in : Bool) (room i base least : ℕ) (S : Expr → ℕ → Expr → ℕ → Type 0) (loop : IsLoop toks no_in room i base least S) where
  Class : Expr → ℕ → Type 0
  Class t n = Reading toks least no_in room i t n

  apart : Apart S (λ t n. Reading toks least no_in room i t n) (Continues toks least no_in) (Continues toks base no_in)
  apart = record { weaker = λ y p d. (let h = loop.lower in omega arith, d.1, d.2); no_step = loop.no_step }

  pub at_begin : (ns : List Node) (left : Part) → Finds o toks base no_in room i ns left → Growing o toks no_in room i base least S ns left
  at_begin ns left f = record {
    tree = f.tree;
    part = f.part;
    reading = loop.lifts f.tree left.next f.best.reading;
    ahead = begin S (λ t n. Reading toks least no_in room i t n) (Continues toks least no_in) (Continues toks base no_in) (λ t n. Reading toks base no_in room i t n) f.tree left.next apart loop.parts f.best.longest;
  }

  pub at_step : (old new : List Node) (left p : Part) → Begun o.functions o old left.next → Growing o toks no_in room i base least S old left → Grows o.functions S (Continues toks base no_in) old new left p → Growing o toks no_in room i base least S new p
  at_step old new left p b g s =
      let step = s.step g.tree in
      record {
        tree = s.whole g.tree;
        part = s.part o g.tree b g.part;
        reading = loop.grows g.tree left.next (s.whole g.tree) p.next g.reading step;
        ahead = go_on S (λ t n. Reading toks least no_in room i t n) (Continues toks least no_in) (Continues toks base no_in) g.tree left.next (s.whole g.tree) p.next apart
            (loop.forward g.tree left.next (s.whole g.tree) p.next step) (loop.starts g.tree left.next (s.whole g.tree) p.next g.reading step) (s.first g.tree) g.ahead;
      }

  pub at_end : (old new : List Node) (left : Part) → Keeps old new → Growing o toks no_in room i base least S old left → ((y y' : Expr) (f' : ℕ) → S y left.next y' f' → ⊥) → Finds o toks least no_in room i new left
  at_end old new left k g none = record {
    tree = g.tree;
    part = part_kept o old new k left g.tree g.part;
    best = record {
      reading = g.reading;
      longest = finish S (λ t n. Reading toks least no_in room i t n) (Continues toks least no_in) (Continues toks base no_in) g.tree left.next (none g.tree) g.ahead;
    };
  }

  -- where nothing is read further in, nothing is read
  pub nothing : ((u : Expr) (m : ℕ) → Reading toks base no_in room i u m → ⊥) → (u : Expr) (m : ℕ) → Reading toks least no_in room i u m → ⊥
  nothing none u m r = let p = loop.parts u m r in none p.0 p.1 p.2
