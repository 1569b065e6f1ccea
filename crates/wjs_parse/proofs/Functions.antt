-- Functions and their bodies.
use Rattle.std.proofs.Common.{◌≡◌, ℕ, ◌+◌, ◌≤◌, Bool, true, List, ◌∷◌, Option, refl, sym, ap, ◌∙◌, subst, arith}
use Rattle.std.specs.Prelude.{◌↔◌, IsTrue}
use Rattle.wjs_base.specs.declared.ids.TextId.{TextId}
use Rattle.wjs_base.specs.declared.ids.NodeId.{NodeId}
use Rattle.wjs_tree.specs.declared.signs.Sign.TheVariants as signs
use Rattle.wjs_tree.specs.declared.tokens.Tok.{Tok}
use Rattle.wjs_tree.specs.declared.node.Node.{Node}
use Rattle.wjs_tree.specs.declared.node.Node.TheVariants as nodes
use Rattle.wjs_tree.specs.Trees.{Expr, Elements, Function}
use Rattle.wjs_tree.specs.Jumps.{outermost, ElementsJumpRight}
use Rattle.wjs_tree.specs.Ends.{HasSign}
use Rattle.wjs_tree.specs.Spelling.{ElementsStand}
use Rattle.wjs_tree.specs.Shows.{Has, ElementsShow, Keeps}
use Rattle.wjs_tree.proofs.Kept.{elements_kept}
use Rattle.wjs_labels.specs.Forms.{AreElements}
use Rattle.wjs_labels.specs.Answers.{ElementsThere, ElementsAnswer}
use Rattle.wjs_parse_expr.specs.Readings.{FunctionReading}
use Rattle.wjs_parse_stmt.specs.declared.parts.Listed.{Listed}
use Rattle.wjs_parse_simple.specs.Readings.{is_closer}
use Rattle.wjs_parse_stmt.specs.Readings.{ElementsForm}
use Rattle.wjs_parse.specs.declared.formals.Head.{Head}
use Rattle.wjs_parse.specs.Readings.{HeaderForm, BodyForm}
use Rattle.wjs_parse.specs.Answers.{FindsElements, FindsHeader, FindsBody, FindsFunction}

-- ---- bodies

-- elements that are read are there for the test of their jumps
pub elements_there : (toks : List Tok) (room i : ℕ) (ns : List Node) (p : Listed) (list : List NodeId) → FindsElements toks room i ns p → room ≤ 200 → list ≡ p.list → ElementsThere ns 200 list
elements_there toks room i ns p list f low e = (f.trees, subst (λ (z : List NodeId). AreElements ns f.trees z) (sym e) (f.used, f.shows), (let h = f.form.height in omega arith))

pub jumps_of : (toks : List Tok) (room i : ℕ) (ns : List Node) (p : Listed) (list : List NodeId) (function b : Bool) (f : FindsElements toks room i ns p) → list ≡ p.list → ElementsAnswer ns (outermost function) list b → IsTrue b ↔ ElementsJumpRight (outermost function) f.trees
jumps_of toks room i ns p list function b f e a = subst (λ (z : List NodeId). ElementsAnswer ns (outermost function) z b) e a f.trees (f.used, f.shows)

module _ (toks : List Tok) (i : ℕ) where
  body_elements : (us : Elements) (m : ℕ) (g : BodyForm toks i us m) → ElementsForm toks 199 i us g.close
  body_elements us m g = record { formed = g.formed; height = g.height; stands = g.stands; closes = ap is_closer g.closes }

  pub body_none : ((us : Elements) (m : ℕ) → ElementsForm toks 199 i us m → ⊥) → (us : Elements) (m : ℕ) → BodyForm toks i us m → ⊥
  body_none none us m g = none us g.close (body_elements us m g)

  module _ (ns : List Node) (p : Listed) (f : FindsElements toks 199 i ns p) where
    pub body_open : (HasSign toks p.next signs.CloseBrace → ⊥) → (us : Elements) (m : ℕ) → BodyForm toks i us m → ⊥
    body_open nay us m g = nay (subst (λ (z : ℕ). HasSign toks z signs.CloseBrace) (f.only us g.close (body_elements us m g)).1 g.closes)

    pub body_astray : (ElementsJumpRight (outermost true) f.trees → ⊥) → (us : Elements) (m : ℕ) → BodyForm toks i us m → ⊥
    body_astray nay us m g = nay (subst (λ (z : Elements). ElementsJumpRight (outermost true) z) (f.only us g.close (body_elements us m g)).0 g.jumps)

    pub body_found : HasSign toks p.next signs.CloseBrace → ElementsJumpRight (outermost true) f.trees → (q : Listed) → q.list ≡ p.list → q.next ≡ p.next + 1 → FindsBody toks i ns q
    body_found closes jumps q list next = record {
      trees = f.trees;
      used = f.used;
      shows = subst (λ (z : List NodeId). ElementsShow ns f.trees z f.used) (sym list) f.shows;
      form = record { close = p.next; formed = f.form.formed; jumps = jumps; height = f.form.height; stands = f.form.stands; closes = closes; ends = next };
      only = λ us m g. (let a = f.only us g.close (body_elements us m g) in (a.0, g.ends ∙ ap (λ z. z + 1) a.1 ∙ sym next));
    }

-- ---- functions

parts : (toks : List Tok) (i : ℕ) (u : Expr) (m : ℕ) → FunctionReading toks i u m
    → (name : Option TextId) × (xs : List TextId) × (body : Elements) × (b : ℕ) × (u ≡ Function name xs body) × HeaderForm toks i name xs b × BodyForm toks b body m
parts toks i (Function name xs body) m r =
    let s = r.reading.stands in
    let h = r.reading.height in (
      name,
      xs,
      body,
      s.1 + 2,
      refl,
      record { opening = s.0; close = s.1; key = s.3; name_stands = s.4; opens = s.5; formals_stand = s.6; closes = s.7; brace = s.8; ends = refl },
      record { close = s.2; formed = r.reading.formed.0; jumps = r.reading.formed.1; height = omega arith; stands = s.9; closes = s.10; ends = s.11 },
    )
parts toks i _ m r = absurd (let h = r.is in cc)

whole : (toks : List Tok) (i : ℕ) (name : Option TextId) (xs : List TextId) (body : Elements) (b m : ℕ) → HeaderForm toks i name xs b → BodyForm toks b body m → FunctionReading toks i (Function name xs body) m
whole toks i name xs body b m h g = record {
  is = refl;
  reading = record {
    level = omega arith;
    formed = (g.formed, g.jumps);
    height = (let l = g.height in omega arith);
    stands = (h.opening, h.close, g.close, h.key, h.name_stands, h.opens, h.formals_stand, h.closes, h.brace, subst (λ (z : ℕ). ElementsStand toks body z g.close) h.ends g.stands, g.closes, g.ends);
  };
}

module _ (toks : List Tok) (i : ℕ) where
  pub function_headless : ((name : Option TextId) (xs : List TextId) (m : ℕ) → HeaderForm toks i name xs m → ⊥) → (u : Expr) (m : ℕ) → FunctionReading toks i u m → ⊥
  function_headless none u m r = let a = parts toks i u m r in none a.0 a.1 a.3 a.5

  module _ (p : Head) (f : FindsHeader toks i p) where
    pub function_bodiless : ((us : Elements) (m : ℕ) → BodyForm toks p.next us m → ⊥) → (u : Expr) (m : ℕ) → FunctionReading toks i u m → ⊥
    function_bodiless none u m r =
        let a = parts toks i u m r in
        let h = f.only a.0 a.1 a.3 a.5 in
        none a.2 m (subst (λ (z : ℕ). BodyForm toks z a.2 m) h.2 a.6)

    pub function_found : (ns : List Node) (q : Listed) → FindsBody toks p.next ns q → (new : List Node) (id : NodeId) → Keeps ns new → Has new id (nodes.Function p.name p.formals q.list) → FindsFunction toks i new (record { node = id; next = q.next })
    function_found ns q g new id k has = record {
      tree = Function p.name p.formals g.trees;
      used = id.0 ∷ g.used;
      shows = (q.list, g.used, has, refl, elements_kept ns new k g.trees q.list g.used g.shows);
      reading = whole toks i p.name p.formals g.trees p.next q.next f.form g.form;
      only = λ u m r.
          (let a = parts toks i u m r in
          let h = f.only a.0 a.1 a.3 a.5 in
          let b = g.only a.2 m (subst (λ (z : ℕ). BodyForm toks z a.2 m) h.2 a.6) in
          let x = h.0 in
          let y = h.1 in
          let z = b.0 in
          let e = a.4 in (cc, b.1));
    }
