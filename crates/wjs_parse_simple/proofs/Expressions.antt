-- Expressions as parts of statements.
use Rattle.std.proofs.Common.{◌≡◌, ℕ, ◌+◌, Bool, false, List, [], Some, None, refl, sym, ap, ◌∙◌, subst, arith}
use Rattle.wjs_tree.specs.declared.tokens.Token.TheVariants as tokens
use Rattle.wjs_tree.specs.declared.signs.Sign.{Sign}
use Rattle.wjs_tree.specs.declared.signs.Sign.TheVariants as signs
use Rattle.wjs_tree.specs.declared.tokens.Tok.{Tok}
use Rattle.wjs_tree.specs.declared.node.Node.{Node}
use Rattle.wjs_tree.specs.declared.node.End.{End}
use Rattle.wjs_tree.specs.Trees.{Expr, Optional, Absent, Present}
use Rattle.wjs_tree.specs.Levels.{ends_in_update}
use Rattle.wjs_tree.specs.Ends.{HasSign, InExpr, Ends}
use Rattle.wjs_parse_expr.specs.declared.parts.Part.{Part}
use Rattle.wjs_parse_expr.specs.Reach.{reach, sign_reach}
use Rattle.wjs_parse_expr.specs.Answers.{Origin, Finds}
use Rattle.wjs_parse_expr.proofs.Beginnings.{can_begin}
use Rattle.wjs_parse_expr.proofs.Unaries.{never_begins}
use Rattle.wjs_parse_simple.specs.declared.parts.Spot.{Spot}
use Rattle.wjs_parse_simple.specs.declared.parts.Ended.{Ended}
use Rattle.wjs_parse_simple.specs.Readings.{UpTo, TestForm, MaybeForm, ValueForm, update_before}
use Rattle.wjs_parse_simple.specs.Answers.{FindsExpr, FindsMaybe, FindsValue}
use Rattle.wjs_parse_simple.proofs.Ending.{end_shuts, same_expr, reach_shuts, one_end, last_update}

module _ (o : Origin) (toks : List Tok) (room i : ℕ) (ns : List Node) (p : Part) (f : Finds o toks 0 false room i ns p) where
  -- up to a sign
  same_up_to : (sign : Sign) → sign_reach sign ≡ 0 → (u : Expr) (m : ℕ) → UpTo toks sign room i u m → (u ≡ f.tree) × (m ≡ p.next)
  same_up_to sign low u m g = same_expr toks 0 false u f.tree m p.next (reach_shuts toks 0 false u m (ap (reach false) g.closes ∙ low)) (f.best.longest u m g.reading)

  pub up_to_found : (sign : Sign) → sign_reach sign ≡ 0 → HasSign toks p.next sign → FindsExpr (UpTo toks sign room i) ns (record { node = p.node; next = p.next })
  up_to_found sign low close = record {
    tree = f.tree;
    used = f.part.used;
    shows = f.part.shows;
    form = record { reading = f.best.reading; closes = close };
    only = λ u m g. same_up_to sign low u m g;
  }

  pub up_to_open : (sign : Sign) → sign_reach sign ≡ 0 → (HasSign toks p.next sign → ⊥) → (u : Expr) (m : ℕ) → UpTo toks sign room i u m → ⊥
  up_to_open sign low nay u m g = nay (subst (λ (z : ℕ). HasSign toks z sign) (same_up_to sign low u m g).1 g.closes)

  -- with the end of its statement
  same_value : (u : Expr) (end : End) (m : ℕ) (g : ValueForm toks room i u end m) → (u ≡ f.tree) × (g.place ≡ p.next)
  same_value u end m g = same_expr toks 0 false u f.tree g.place p.next (end_shuts toks 0 u end g.place m g.ends) (f.best.longest u g.place g.reading)

  here : (u : Expr) (end : End) (m : ℕ) (g : ValueForm toks room i u end m) → Ends toks (InExpr (ends_in_update f.tree)) end p.next m
  here u end m g =
      let s = same_value u end m g in
      subst (λ (z : ℕ). Ends toks (InExpr (ends_in_update f.tree)) end z m) s.1 (subst (λ (e : Expr). Ends toks (InExpr (ends_in_update e)) end g.place m) s.0 g.ends)

  ending : (update : Bool) → update ≡ update_before toks p.next → update ≡ ends_in_update f.tree
  ending update h = h ∙ last_update toks false f.tree i p.next f.best.reading.formed f.best.reading.stands

  pub value_found : (update : Bool) (e : Ended) → update ≡ update_before toks p.next → Ends toks (InExpr update) e.end p.next e.next → FindsValue toks room i ns (record { node = p.node; end = e.end; next = e.next })
  value_found update e h d =
      let d2 = subst (λ (b : Bool). Ends toks (InExpr b) e.end p.next e.next) (ending update h) d in
      record {
        tree = f.tree;
        used = f.part.used;
        shows = f.part.shows;
        form = record { place = p.next; reading = f.best.reading; ends = d2 };
        only = λ u end m g.
            (let a = one_end toks (InExpr (ends_in_update f.tree)) p.next m e.next end e.end (here u end m g) d2 in
            ((same_value u end m g).0, a.0, a.1));
      }

  pub value_open : (update : Bool) → update ≡ update_before toks p.next → ((end : End) (n : ℕ) → Ends toks (InExpr update) end p.next n → ⊥) → (u : Expr) (end : End) (m : ℕ) → ValueForm toks room i u end m → ⊥
  value_open update h nay u end m g = nay end m (subst (λ (b : Bool). Ends toks (InExpr b) end p.next m) (sym (ending update h)) (here u end m g))

-- in parentheses
pub test_found : (toks : List Tok) (room i : ℕ) (ns : List Node) (p : Spot) → HasSign toks i signs.OpenParen → FindsExpr (UpTo toks signs.CloseParen room (i + 1)) ns p → FindsExpr (TestForm toks room i) ns (record { node = p.node; next = p.next + 1 })
test_found toks room i ns p opened f = record {
  tree = f.tree;
  used = f.used;
  shows = f.shows;
  form = record { close = p.next; opens = opened; reading = f.form.reading; closes = f.form.closes; ends = refl };
  only = λ u m g. (let a = f.only u g.close (record { reading = g.reading; closes = g.closes }) in (a.0, g.ends ∙ ap (λ z. z + 1) a.1));
}

pub test_none : (toks : List Tok) (room i : ℕ) → ((u : Expr) (m : ℕ) → UpTo toks signs.CloseParen room (i + 1) u m → ⊥) → (u : Expr) (m : ℕ) → TestForm toks room i u m → ⊥
test_none toks room i nay u m g = nay u g.close (record { reading = g.reading; closes = g.closes })

-- perhaps none
pub maybe_absent : (toks : List Tok) (sign : Sign) (room i : ℕ) (ns : List Node) → can_begin (tokens.Sign sign) ≡ false → HasSign toks i sign → FindsMaybe (MaybeForm toks sign room i) ns (record { node = None; next = i })
maybe_absent toks sign room i ns never h = record {
  tree = Absent;
  used = [];
  shows = (refl, refl);
  form = record { formed = tt; height = omega arith; stands = refl; closes = h };
  only = λ u m g. one u m g;
}
  where
    one : (u : Optional) (m : ℕ) → MaybeForm toks sign room i u m → (u ≡ Absent) × (m ≡ i)
    one Absent m g = (refl, g.stands)
    one (Present e) m g = absurd (never_begins toks e i m (tokens.Sign sign) g.stands h never)

up_to_form : (toks : List Tok) (sign : Sign) (room i : ℕ) (e : Expr) (m : ℕ) → MaybeForm toks sign room i (Present e) m → UpTo toks sign room i e m
up_to_form toks sign room i e m g = record { reading = record { level = omega arith; formed = g.formed; height = g.height; stands = g.stands }; closes = g.closes }

pub maybe_present : (toks : List Tok) (sign : Sign) (room i : ℕ) (ns : List Node) (p : Spot) → (HasSign toks i sign → ⊥) → FindsExpr (UpTo toks sign room i) ns p → FindsMaybe (MaybeForm toks sign room i) ns (record { node = Some p.node; next = p.next })
maybe_present toks sign room i ns p not f = record {
  tree = Present f.tree;
  used = f.used;
  shows = (p.node, refl, f.shows);
  form = record { formed = f.form.reading.formed; height = f.form.reading.height; stands = f.form.reading.stands; closes = f.form.closes };
  only = λ u m g. one u m g;
}
  where
    one : (u : Optional) (m : ℕ) → MaybeForm toks sign room i u m → (u ≡ Present f.tree) × (m ≡ p.next)
    one Absent m g = absurd (not (subst (λ (z : ℕ). HasSign toks z sign) g.stands g.closes))
    one (Present e) m g = let a = f.only e m (up_to_form toks sign room i e m g) in (ap Present a.0, a.1)

pub maybe_none : (toks : List Tok) (sign : Sign) (room i : ℕ) → (HasSign toks i sign → ⊥) → ((u : Expr) (m : ℕ) → UpTo toks sign room i u m → ⊥) → (u : Optional) (m : ℕ) → MaybeForm toks sign room i u m → ⊥
maybe_none toks sign room i not nay Absent m g = not (subst (λ (z : ℕ). HasSign toks z sign) g.stands g.closes)
maybe_none toks sign room i not nay (Present e) m g = nay e m (up_to_form toks sign room i e m g)
