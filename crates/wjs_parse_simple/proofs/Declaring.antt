-- Variables, which a loop reads one by one.
use Rattle.std.proofs.Common.{◌≡◌, ℕ, ◌+◌, ◌≤◌, Bool, List, [], ◌∷◌, ◌++◌, Option, Some, None, refl, sym, ap, ◌∙◌, subst, arith, append_assoc}
use Rattle.wjs_base.specs.declared.ids.TextId.{TextId}
use Rattle.wjs_base.specs.declared.ids.NodeId.{NodeId}
use Rattle.wjs_tree.specs.declared.tokens.Token.TheVariants as tokens
use Rattle.wjs_tree.specs.declared.signs.Sign.TheVariants as signs
use Rattle.wjs_tree.specs.declared.tokens.Tok.{Tok}
use Rattle.wjs_tree.specs.declared.node.Node.{Node}
use Rattle.wjs_tree.specs.declared.node.Declarator.{Declarator}
use Rattle.wjs_tree.specs.Trees.{Expr, Optional, Absent, Present, Variables, NoVariable, Variable}
use Rattle.wjs_tree.specs.Height.{variables_height}
use Rattle.wjs_tree.specs.Formed.{AreSome, VariablesFormed}
use Rattle.wjs_tree.specs.Children.{OptionBelow, DeclaratorsBelow}
use Rattle.wjs_tree.specs.Ends.{token_at, HasToken, HasSign, InExpr}
use Rattle.wjs_tree.specs.Spelling.{Stands, InitialiserStands, VariablesStand, MoreVariablesStand, last_ending}
use Rattle.wjs_tree.specs.Shows.{VariablesShow, Keeps}
use Rattle.wjs_tree.proofs.Kept.{optional_kept, keeps_self, keeps_both}
use Rattle.wjs_parse_expr.specs.declared.parts.Part.{Part}
use Rattle.wjs_parse_expr.specs.Reach.{reach}
use Rattle.wjs_parse_expr.specs.Readings.{Reading}
use Rattle.wjs_parse_expr.specs.Answers.{Origin, Finds, Nothing}
use Rattle.wjs_parse_expr.proofs.Readings.{same_token}
use Rattle.wjs_parse_simple.specs.declared.parts.Declared.{Declared}
use Rattle.wjs_parse_simple.specs.declared.parts.ListedVariables.{ListedVariables}
use Rattle.wjs_parse_simple.specs.declared.parts.Stop.TheVariants as stops
use Rattle.wjs_parse_simple.specs.Readings.{ending_of, value_ending, update_before, VariableForm, VariablesForm, Shut, ShutList}
use Rattle.wjs_parse_simple.specs.Lists.{FindsVariable, FindsVariables}
use Rattle.wjs_parse_simple.proofs.Ending.{same_expr, last_update}

-- ---- one variable

same_word : (toks : List Tok) (i : ℕ) (x y : TextId) → HasToken toks i (tokens.Word x) → HasToken toks i (tokens.Word y) → x ≡ y
same_word toks i x y a b = let e : tokens.Word x ≡ tokens.Word y = same_token _ _ _ a b in cc

pub bare_variable : (toks : List Tok) (no_in : Bool) (room i : ℕ) (ns : List Node) (x : TextId) → HasToken toks i (tokens.Word x) → (HasSign toks (i + 1) signs.Assign → ⊥)
    → FindsVariable toks no_in room i ns (record { declarator = record { name = x; value = None }; next = i + 1; stop = stops.InName })
bare_variable toks no_in room i ns x h nay = record {
  tree = Absent;
  used = [];
  shows = (refl, refl);
  ending = refl;
  form = record { name = h; formed = tt; height = omega arith; stands = refl };
  only = λ y u m g s. one y u m g;
}
  where
    one : (y : TextId) (u : Optional) (m : ℕ) → VariableForm toks no_in room i y u m → (y ≡ x) × (u ≡ Absent) × (m ≡ i + 1)
    one y Absent m g = (same_word toks i y x g.name h, refl, g.stands)
    one y (Present e) m g = absurd (nay g.stands.0)

value_reading : (toks : List Tok) (no_in : Bool) (room i : ℕ) (y : TextId) (e : Expr) (m : ℕ) → VariableForm toks no_in room i y (Present e) m → Reading toks 1 no_in room (i + 2) e m
value_reading toks no_in room i y e m g =
    let q : (i + 1) + 1 ≡ i + 2 = omega arith in
    record { level = g.formed.0; formed = g.formed.1; height = g.height; stands = subst (λ (z : ℕ). Stands toks e z m) q g.stands.1 }

pub value_variable : (o : Origin) (toks : List Tok) (no_in : Bool) (room i : ℕ) (ns : List Node) (x : TextId) (p : Part) (update : Bool) → HasToken toks i (tokens.Word x) → HasSign toks (i + 1) signs.Assign → Finds o toks 1 no_in room (i + 2) ns p → update ≡ update_before toks p.next
    → FindsVariable toks no_in room i ns (record { declarator = record { name = x; value = Some p.node }; next = p.next; stop = stops.InExpr update })
value_variable o toks no_in room i ns x p update h assign f e = record {
  tree = Present f.tree;
  used = f.part.used;
  shows = (p.node, refl, f.part.shows);
  ending = ap InExpr (e ∙ last_update toks no_in f.tree (i + 2) p.next f.best.reading.formed f.best.reading.stands);
  form = record { name = h; formed = (f.best.reading.level, f.best.reading.formed); height = f.best.reading.height; stands = (assign, (let q : i + 2 ≡ (i + 1) + 1 = omega arith in subst (λ (z : ℕ). Stands toks f.tree z p.next) q f.best.reading.stands)) };
  only = λ y u m g s. one y u m g s;
}
  where
    one : (y : TextId) (u : Optional) (m : ℕ) → VariableForm toks no_in room i y u m → Shut toks no_in u m → (y ≡ x) × (u ≡ Present f.tree) × (m ≡ p.next)
    one y Absent m g s = absurd (s (subst (λ (z : ℕ). HasSign toks z signs.Assign) (sym g.stands) assign))
    one y (Present v) m g s =
        let a = same_expr toks 1 no_in v f.tree m p.next s (f.best.longest v m (value_reading toks no_in room i y v m g)) in
        (same_word toks i y x g.name h, ap Present a.0, a.1)

pub value_missing : (toks : List Tok) (no_in : Bool) (room i : ℕ) → HasSign toks (i + 1) signs.Assign → Nothing toks 1 no_in room (i + 2) → (y : TextId) (u : Optional) (m : ℕ) → VariableForm toks no_in room i y u m → Shut toks no_in u m → ⊥
value_missing toks no_in room i assign f y Absent m g s = s (subst (λ (z : ℕ). HasSign toks z signs.Assign) (sym g.stands) assign)
value_missing toks no_in room i assign f y (Present v) m g s = f.none v m (value_reading toks no_in room i y v m g)

-- ---- one behind another

-- a variable at a place, and those behind it
pub record VariableTail (toks : List Tok) (no_in : Bool) (room q : ℕ) (x : TextId) (e : Optional) (rest : Variables) (m k : ℕ) : Type 0 where
  pub form : VariableForm toks no_in room q x e m
  pub rest_formed : VariablesFormed no_in rest
  pub rest_height : variables_height rest ≤ room
  pub rest_stands : MoreVariablesStand toks rest m k
  pub shut : ShutList toks no_in (Variable x e rest) k

-- The variables before the last one are read, and each list goes through them.
pub record Declaring (toks : List Tok) (no_in : Bool) (room at : ℕ) (ns : List Node) (list : List Declarator) (last : Declared) : Type 0 where
  pub place : ℕ
  pub found : FindsVariable toks no_in room place ns last
  pub wrap : Variables → Variables
  pub used : List ℕ
  pub show : (ns' : List Node) → Keeps ns ns' → (rest : Variables) (more : List Declarator) (vs : List ℕ) → VariablesShow ns' rest more vs → VariablesShow ns' (wrap rest) (list ++ more) (used ++ vs)
  pub some : (rest : Variables) → AreSome rest → AreSome (wrap rest)
  pub formed : (rest : Variables) → VariablesFormed no_in rest → VariablesFormed no_in (wrap rest)
  pub height : (rest : Variables) → variables_height rest ≤ room → variables_height (wrap rest) ≤ room
  pub whole : (x : TextId) (e : Optional) (rest : Variables) (m k : ℕ) → HasToken toks place (tokens.Word x) → InitialiserStands toks e (place + 1) m → MoreVariablesStand toks rest m k → VariablesStand toks (wrap (Variable x e rest)) at k
  pub ending : (rest : Variables) → AreSome rest → last_ending (wrap rest) ≡ last_ending rest
  pub ahead : (us : Variables) (k : ℕ) → VariablesForm toks no_in room at us k → ShutList toks no_in us k → (x : TextId) × (e : Optional) × (rest : Variables) × (m : ℕ) × (us ≡ wrap (Variable x e rest)) × VariableTail toks no_in room place x e rest m k

module _ (toks : List Tok) (no_in : Bool) (room at : ℕ) where
  first_tail : (us : Variables) (k : ℕ) → VariablesForm toks no_in room at us k → ShutList toks no_in us k → (x : TextId) × (e : Optional) × (rest : Variables) × (m : ℕ) × (us ≡ Variable x e rest) × VariableTail toks no_in room at x e rest m k
  first_tail NoVariable k g s = absurd g.some
  first_tail (Variable x e rest) k g s = (
    x,
    e,
    rest,
    g.stands.0,
    refl,
    record {
      form = record { name = g.stands.1; formed = g.formed.0; height = (let h = g.height in omega arith); stands = g.stands.2 };
      rest_formed = g.formed.1;
      rest_height = (let h = g.height in omega arith);
      rest_stands = g.stands.3;
      shut = s;
    },
  )

  pub declaring_start : (ns : List Node) (list : List Declarator) (last : Declared) → list ≡ [] → FindsVariable toks no_in room at ns last → Declaring toks no_in room at ns list last
  declaring_start ns list last e f = record {
    place = at;
    found = f;
    wrap = λ rest. rest;
    used = [];
    show = λ ns' k rest more vs h. subst (λ (z : List Declarator). VariablesShow ns' rest (z ++ more) vs) (sym e) h;
    some = λ rest h. h;
    formed = λ rest h. h;
    height = λ rest h. h;
    whole = λ x v rest m k h s r. (m, h, s, r);
    ending = λ rest h. refl;
    ahead = λ us k g s. first_tail us k g s;
  }

  comma_shuts : (e : Optional) (m : ℕ) → HasSign toks m signs.Comma → Shut toks no_in e m
  comma_shuts Absent m c = λ h. (let q : tokens.Sign signs.Comma ≡ tokens.Sign signs.Assign = same_token _ _ _ c h in cc)
  comma_shuts (Present e) m c = λ h. (let q : reach no_in (token_at toks m) ≡ 1 = ap (reach no_in) c in let z = h.0 in omega arith)

  tail_shut : (q : ℕ) (x : TextId) (e : Optional) (rest : Variables) (m k : ℕ) → VariableTail toks no_in room q x e rest m k → Shut toks no_in e m
  tail_shut q x e NoVariable m k t = subst (λ (z : ℕ). Shut toks no_in e z) t.rest_stands t.shut.shut
  tail_shut q x e (Variable y v rest) m k t = comma_shuts e m t.rest_stands.1

  module _ (ns : List Node) (list : List Declarator) (last : Declared) (d : Declaring toks no_in room at ns list last) where
    same_last : (x : TextId) (e : Optional) (rest : Variables) (m k : ℕ) → VariableTail toks no_in room d.place x e rest m k → (x ≡ last.declarator.name) × (e ≡ d.found.tree) × (m ≡ last.next)
    same_last x e rest m k t = d.found.only x e m t.form (tail_shut d.place x e rest m k t)

    the_last : Variables → Variables
    the_last rest = Variable last.declarator.name d.found.tree rest

    closing : (us : Variables) (x : TextId) (e : Optional) (rest : Variables) (m k : ℕ) → (HasSign toks last.next signs.Comma → ⊥) → us ≡ d.wrap (Variable x e rest) → VariableTail toks no_in room d.place x e rest m k → (x ≡ last.declarator.name) × (e ≡ d.found.tree) × (m ≡ last.next)
        → (us ≡ d.wrap (the_last NoVariable)) × (k ≡ last.next)
    unfolding the_last
    closing us x e NoVariable m k nay is t s = (is ∙ ap (λ z. d.wrap (Variable z e NoVariable)) s.0 ∙ ap (λ z. d.wrap (Variable last.declarator.name z NoVariable)) s.1, t.rest_stands ∙ s.2)
    closing us x e (Variable y v rest) m k nay is t s = absurd (nay (subst (λ (z : ℕ). HasSign toks z signs.Comma) s.2 t.rest_stands.1))

    pub declaring_end : (p : ListedVariables) → (HasSign toks last.next signs.Comma → ⊥) → p.list ≡ list ++ last.declarator ∷ [] → p.next ≡ last.next → p.stop ≡ last.stop → FindsVariables toks no_in room at ns p
    unfolding the_last
    declaring_end p nay made next stop = record {
      trees = d.wrap (the_last NoVariable);
      used = d.used ++ (d.found.used ++ []);
      shows = subst (λ (z : List Declarator). VariablesShow ns (d.wrap (the_last NoVariable)) z (d.used ++ (d.found.used ++ []))) (sym made)
          (d.show ns (keeps_self ns) (the_last NoVariable) (last.declarator ∷ []) (d.found.used ++ []) (last.declarator.value, [], d.found.used, [], refl, refl, d.found.shows, (refl, refl)));
      ending = ap ending_of stop ∙ d.found.ending ∙ one_ending last.declarator.name d.found.tree ∙ sym (d.ending (the_last NoVariable) tt);
      form = record {
        some = d.some (the_last NoVariable) tt;
        formed = d.formed (the_last NoVariable) (d.found.form.formed, tt);
        height = d.height (the_last NoVariable) (let h = d.found.form.height in omega arith);
        stands = subst (λ (z : ℕ). VariablesStand toks (d.wrap (the_last NoVariable)) at z) (sym next) (d.whole last.declarator.name d.found.tree NoVariable last.next last.next d.found.form.name d.found.form.stands refl);
      };
      only = λ us m g s.
          (let a = d.ahead us m g s in
          let b = same_last a.0 a.1 a.2 a.3 m a.5 in
          let c = closing us a.0 a.1 a.2 a.3 m nay a.4 a.5 b in
          (c.0, c.1 ∙ sym next));
    }
      where
        one_ending : (x : TextId) (e : Optional) → value_ending e ≡ last_ending (Variable x e NoVariable)
        one_ending x Absent = refl
        one_ending x (Present e) = refl

    onward : (us : Variables) (x : TextId) (e : Optional) (rest : Variables) (m k : ℕ) → HasSign toks last.next signs.Comma → us ≡ d.wrap (Variable x e rest) → VariableTail toks no_in room d.place x e rest m k → (x ≡ last.declarator.name) × (e ≡ d.found.tree) × (m ≡ last.next)
        → (y : TextId) × (v : Optional) × (more : Variables) × (n : ℕ) × (us ≡ d.wrap (the_last (Variable y v more))) × VariableTail toks no_in room (last.next + 1) y v more n k
    unfolding the_last
    onward us x e NoVariable m k comma is t s = absurd (t.shut.no_comma (subst (λ (z : ℕ). HasSign toks z signs.Comma) (sym (t.rest_stands ∙ s.2)) comma))
    onward us x e (Variable y v more) m k comma is t s =
        let q : m + 2 ≡ (m + 1) + 1 = omega arith in (
          y,
          v,
          more,
          t.rest_stands.0,
          is ∙ ap (λ z. d.wrap (Variable z e (Variable y v more))) s.0 ∙ ap (λ z. d.wrap (Variable last.declarator.name z (Variable y v more))) s.1,
          subst (λ (z : ℕ). VariableTail toks no_in room (z + 1) y v more t.rest_stands.0 k) s.2
              (record {
                form = record { name = t.rest_stands.2; formed = t.rest_formed.0; height = (let h = t.rest_height in omega arith); stands = subst (λ (z : ℕ). InitialiserStands toks v z t.rest_stands.0) q t.rest_stands.3 };
                rest_formed = t.rest_formed.1;
                rest_height = (let h = t.rest_height in omega arith);
                rest_stands = t.rest_stands.4;
                shut = record { no_comma = t.shut.no_comma; shut = t.shut.shut };
              }),
        )

    pub declaring_more : (ns' : List Node) (more : Declared) (list' : List Declarator) → HasSign toks last.next signs.Comma → Keeps ns ns' → FindsVariable toks no_in room (last.next + 1) ns' more → list' ≡ list ++ last.declarator ∷ [] → Declaring toks no_in room at ns' list' more
    unfolding the_last
    declaring_more ns' more list' comma k f made = record {
      place = last.next + 1;
      found = f;
      wrap = λ rest. d.wrap (the_last rest);
      used = d.used ++ d.found.used;
      show = λ ns2 k2 rest tail vs h.
          subst (λ (z : List Declarator). VariablesShow ns2 (d.wrap (the_last rest)) (z ++ tail) ((d.used ++ d.found.used) ++ vs)) (sym made)
          (rw (append_assoc, append_assoc)
          (d.show ns2 (keeps_both ns ns' ns2 k k2) (the_last rest) (last.declarator ∷ tail) (d.found.used ++ vs) (last.declarator.value, tail, d.found.used, vs, refl, refl, optional_kept ns ns2 (keeps_both ns ns' ns2 k k2) d.found.tree last.declarator.value d.found.used d.found.shows, h)));
      some = λ rest h. d.some (the_last rest) tt;
      formed = λ rest h. d.formed (the_last rest) (d.found.form.formed, h);
      height = λ rest h. d.height (the_last rest) (let z = d.found.form.height in omega arith);
      whole = λ x e rest m n h s r.
          (let q : (last.next + 1) + 1 ≡ last.next + 2 = omega arith in
          d.whole last.declarator.name d.found.tree (Variable x e rest) last.next n d.found.form.name d.found.form.stands (m, comma, h, subst (λ (z : ℕ). InitialiserStands toks e z m) q s, r));
      ending = λ rest h. d.ending (the_last rest) tt ∙ more_ending last.declarator.name d.found.tree rest h;
      ahead = λ us m g s.
          (let a = d.ahead us m g s in
          onward us a.0 a.1 a.2 a.3 m comma a.4 a.5 (same_last a.0 a.1 a.2 a.3 m a.5));
    }
      where
        more_ending : (x : TextId) (e : Optional) (rest : Variables) → AreSome rest → last_ending (Variable x e rest) ≡ last_ending rest
        more_ending x e NoVariable h = absurd h
        more_ending x Absent (Variable y v rest) h = refl
        more_ending x (Present e) (Variable y v rest) h = refl

    pub declaring_none : (ns' : List Node) → HasSign toks last.next signs.Comma → ((x : TextId) (u : Optional) (m : ℕ) → VariableForm toks no_in room (last.next + 1) x u m → Shut toks no_in u m → ⊥) → (us : Variables) (m : ℕ) → VariablesForm toks no_in room at us m → ShutList toks no_in us m → ⊥
    declaring_none ns' comma none us m g s =
        let a = d.ahead us m g s in
        let b = onward us a.0 a.1 a.2 a.3 m comma a.4 a.5 (same_last a.0 a.1 a.2 a.3 m a.5) in
        none b.0 b.1 b.3 b.5.form (tail_shut (last.next + 1) b.0 b.1 b.2 b.3 m b.5)

  pub declaring_nothing : ((x : TextId) (u : Optional) (m : ℕ) → VariableForm toks no_in room at x u m → Shut toks no_in u m → ⊥) → (us : Variables) (m : ℕ) → VariablesForm toks no_in room at us m → ShutList toks no_in us m → ⊥
  declaring_nothing none us m g s = let a = first_tail us m g s in none a.0 a.1 a.3 a.5.form (tail_shut at a.0 a.1 a.2 a.3 m a.5)

-- children
option_more : (n m : ℕ) (o : Option NodeId) → n ≤ m → OptionBelow n o → OptionBelow m o
option_more n m None le h = tt
option_more n m (Some a) le h = omega arith

pub declarators_last : (n m : ℕ) (list : List Declarator) (d : Declarator) → n ≤ m → OptionBelow n d.value → DeclaratorsBelow n list → DeclaratorsBelow m (list ++ d ∷ [])
declarators_last n m [] d le b h = (option_more n m d.value le b, tt)
declarators_last n m (x ∷ rest) d le b h = (option_more n m x.value le h.0, declarators_last n m rest d le b h.1)

pub declarators_more : (n m : ℕ) (list : List Declarator) → n ≤ m → DeclaratorsBelow n list → DeclaratorsBelow m list
declarators_more n m [] le h = tt
declarators_more n m (x ∷ rest) le h = (option_more n m x.value le h.0, declarators_more n m rest le h.1)
