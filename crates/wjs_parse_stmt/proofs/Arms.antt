-- Clauses of a `switch`.
use Rattle.std.proofs.Common.{◌≡◌, ℕ, ◌+◌, ◌-◌, ◌<◌, ◌≤◌, true, false, List, [], ◌∷◌, ◌++◌, Option, Some, None, refl, sym, ap, ◌∙◌, subst, arith, append_assoc}
use Rattle.wjs_base.specs.declared.ids.NodeId.{NodeId}
use Rattle.wjs_tree.specs.declared.tokens.Token.{Token}
use Rattle.wjs_tree.specs.declared.signs.Sign.TheVariants as signs
use Rattle.wjs_tree.specs.declared.keys.Key.TheVariants as keys
use Rattle.wjs_tree.specs.declared.tokens.Tok.{Tok}
use Rattle.wjs_tree.specs.declared.node.Node.{Node}
use Rattle.wjs_tree.specs.declared.node.Node.TheVariants as nodes
use Rattle.wjs_tree.specs.declared.node.Clause.{Clause}
use Rattle.wjs_tree.specs.Trees.{Expr, Optional, Absent, Present, Stmt, Switch, Stmts, Clauses, NoClause, Case, Default}
use Rattle.wjs_tree.specs.Height.{stmts_height, clauses_height}
use Rattle.wjs_tree.specs.Formed.{StmtsFormed, ClausesFormed}
use Rattle.wjs_tree.specs.Children.{OptionBelow, AreBelow, ClausesBelow}
use Rattle.wjs_tree.specs.Ends.{token_at, HasToken, HasSign, HasKey}
use Rattle.wjs_tree.specs.Spelling.{Stands, StmtsStand, ClausesStand}
use Rattle.wjs_tree.specs.Shows.{Has, OptionalShows, StmtsShow, ClausesShow, Keeps}
use Rattle.wjs_tree.proofs.Kept.{kept, optional_kept, stmts_kept, clauses_kept, keeps_self, keeps_both}
use Rattle.wjs_parse_expr.proofs.Readings.{same_token}
use Rattle.wjs_parse_simple.specs.declared.kind.Kind.TheVariants as kinds
use Rattle.wjs_parse_simple.specs.declared.parts.Spot.{Spot}
use Rattle.wjs_parse_simple.specs.declared.parts.Maybe.{Maybe}
use Rattle.wjs_parse_stmt.specs.declared.parts.Listed.{Listed}
use Rattle.wjs_parse_stmt.specs.declared.parts.Arm.{Arm}
use Rattle.wjs_parse_stmt.specs.declared.parts.ListedClauses.{ListedClauses}
use Rattle.wjs_parse_simple.specs.Kinds.{kind_of_stmt}
use Rattle.wjs_parse_simple.specs.Readings.{StmtReading, Stops, TestForm, UpTo, is_closer}
use Rattle.wjs_parse_stmt.specs.Readings.{StmtsForm, ClauseHead, ClauseForm, ClausesForm}
use Rattle.wjs_parse_simple.specs.Answers.{KindIs, FindsStmt, FindsExpr, FindsMaybe}
use Rattle.wjs_parse_stmt.specs.Answers.{FindsStmts}
use Rattle.wjs_parse_stmt.specs.Branches.{FindsArm, FindsClauses}
use Rattle.wjs_tree.proofs.Forward.{forward}
use Rattle.wjs_parse_simple.proofs.Forms.{told, of_kind}

two_keys : (toks : List Tok) (i : ℕ) (a b : Token) → HasToken toks i a → HasToken toks i b → (a ≡ b → ⊥) → ⊥
two_keys toks i a b h g nay = nay (same_token _ a b h g)

-- ---- the head of a clause

pub default_found : (toks : List Tok) (room i : ℕ) (ns : List Node) → HasKey toks i keys.Default → HasSign toks (i + 1) signs.Colon → FindsMaybe (ClauseHead toks room i) ns (record { node = None; next = i + 2 })
default_found toks room i ns k c = record {
  tree = Absent;
  used = [];
  shows = (refl, refl);
  form = (k, c, refl);
  only = λ u m g. one u m g;
}
  where
    one : (u : Optional) (m : ℕ) → ClauseHead toks room i u m → (u ≡ Absent) × (m ≡ i + 2)
    one Absent m g = (refl, g.2)
    one (Present e) m g = absurd (two_keys toks i _ _ k g.1 (λ q. cc))

pub default_open : (toks : List Tok) (room i : ℕ) → HasKey toks i keys.Default → (HasSign toks (i + 1) signs.Colon → ⊥) → (u : Optional) (m : ℕ) → ClauseHead toks room i u m → ⊥
default_open toks room i k nay Absent m g = nay g.1
default_open toks room i k nay (Present e) m g = two_keys toks i _ _ k g.1 (λ q. cc)

pub head_none : (toks : List Tok) (room i : ℕ) → (HasKey toks i keys.Default → ⊥) → (HasKey toks i keys.Case → ⊥) → (u : Optional) (m : ℕ) → ClauseHead toks room i u m → ⊥
head_none toks room i d c Absent m g = d g.0
head_none toks room i d c (Present e) m g = c g.1

pub case_found : (toks : List Tok) (room i : ℕ) (ns : List Node) (p : Spot) → HasKey toks i keys.Case → FindsExpr (UpTo toks signs.Colon room (i + 1)) ns p → FindsMaybe (ClauseHead toks room i) ns (record { node = Some p.node; next = p.next + 1 })
case_found toks room i ns p k f = record {
  tree = Present f.tree;
  used = f.used;
  shows = (p.node, refl, f.shows);
  form = (p.next, k, f.form, refl);
  only = λ u m g. one u m g;
}
  where
    one : (u : Optional) (m : ℕ) → ClauseHead toks room i u m → (u ≡ Present f.tree) × (m ≡ p.next + 1)
    one Absent m g = absurd (two_keys toks i _ _ k g.0 (λ q. cc))
    one (Present e) m g = let a = f.only e g.0 g.2 in (ap Present a.0, g.3 ∙ ap (λ z. z + 1) a.1)

pub case_none : (toks : List Tok) (room i : ℕ) → HasKey toks i keys.Case → ((u : Expr) (m : ℕ) → UpTo toks signs.Colon room (i + 1) u m → ⊥) → (u : Optional) (m : ℕ) → ClauseHead toks room i u m → ⊥
case_none toks room i k none Absent m g = two_keys toks i _ _ k g.0 (λ q. cc)
case_none toks room i k none (Present e) m g = none e g.0 g.2

head_forward : (toks : List Tok) (room i : ℕ) (o : Optional) (n : ℕ) → ClauseHead toks room i o n → i < n
head_forward toks room i Absent n g = let e = g.2 in omega arith
head_forward toks room i (Present v) n g = let w = forward toks v (i + 1) g.0 g.2.reading.stands in let e = g.3 in omega arith

pub head_ahead : (toks : List Tok) (room i : ℕ) (ns : List Node) (h : Maybe) → FindsMaybe (ClauseHead toks room i) ns h → i < h.next
head_ahead toks room i ns h f = head_forward toks room i f.tree h.next f.form

-- ---- a clause

pub arm_found : (toks : List Tok) (room i : ℕ) (ns new : List Node) (h : Maybe) (b : Listed) (p : Arm) → FindsMaybe (ClauseHead toks room i) ns h → Keeps ns new → FindsStmts toks room h.next new b → p.clause.test ≡ h.node → p.clause.body ≡ b.list → p.next ≡ b.next → FindsArm toks room i new p
arm_found toks room i ns new h b p f k g test body next = record {
  test = f.tree;
  body = g.trees;
  test_used = f.used;
  body_used = g.used;
  test_shows = subst (λ (z : Option NodeId). OptionalShows new f.tree z f.used) (sym test) (optional_kept ns new k f.tree h.node f.used f.shows);
  body_shows = subst (λ (z : List NodeId). StmtsShow new g.trees z g.used) (sym body) g.shows;
  form = record { place = h.next; head = f.form; body = subst (λ (z : ℕ). StmtsForm toks room h.next g.trees z) (sym next) g.form };
  only = λ o us m x.
      (let a = f.only o x.place x.head in
      let c = g.only us m (subst (λ (z : ℕ). StmtsForm toks room z us m) a.1 x.body) in
      (a.0, c.0, c.1 ∙ sym next));
}

pub arm_headless : (toks : List Tok) (room i : ℕ) → ((o : Optional) (m : ℕ) → ClauseHead toks room i o m → ⊥) → (o : Optional) (us : Stmts) (m : ℕ) → ClauseForm toks room i o us m → ⊥
arm_headless toks room i none o us m x = none o x.place x.head

pub arm_bodiless : (toks : List Tok) (room i : ℕ) (ns : List Node) (h : Maybe) → FindsMaybe (ClauseHead toks room i) ns h → ((us : Stmts) (m : ℕ) → StmtsForm toks room h.next us m → ⊥) → (o : Optional) (us : Stmts) (m : ℕ) → ClauseForm toks room i o us m → ⊥
arm_bodiless toks room i ns h f none o us m x = none us m (subst (λ (z : ℕ). StmtsForm toks room z us m) (f.only o x.place x.head).1 x.body)

-- ---- one behind another

-- a clause before others
abbrev pub before : Optional → Stmts → Clauses → Clauses
before Absent body rest = Default body rest
before (Present e) body rest = Case e body rest

-- The clauses before a place are read, and each list goes through them.
pub record GatheredArms (toks : List Tok) (room at : ℕ) (ns : List Node) (list : List Clause) (place : ℕ) : Type 0 where
  pub wrap : Clauses → Clauses
  pub used : List ℕ
  pub show : (ns' : List Node) → Keeps ns ns' → (rest : Clauses) (more : List Clause) (vs : List ℕ) → ClausesShow ns' rest more vs → ClausesShow ns' (wrap rest) (list ++ more) (used ++ vs)
  pub formed : (rest : Clauses) → ClausesFormed rest → ClausesFormed (wrap rest)
  pub height : (rest : Clauses) → clauses_height rest ≤ room → clauses_height (wrap rest) ≤ room
  pub whole : (rest : Clauses) (k : ℕ) → ClausesStand toks rest place k → ClausesStand toks (wrap rest) at k
  pub ahead : (us : Clauses) (k : ℕ) → ClausesForm toks room at us k → (rest : Clauses) × (us ≡ wrap rest) × ClausesForm toks room place rest k

append_nil : {A : Type 0} (xs : List A) → xs ++ [] ≡ xs
append_nil [] = refl
append_nil (x ∷ xs) = ap (λ z. x ∷ z) (append_nil xs)

-- what stands behind a clause closes its statements
arm_closed : (toks : List Tok) (rest : Clauses) (m k : ℕ) → ClausesStand toks rest m k → HasSign toks k signs.CloseBrace → is_closer (token_at toks m) ≡ true
arm_closed toks NoClause m k s c = ap is_closer (subst (λ (z : ℕ). HasSign toks z signs.CloseBrace) s c)
arm_closed toks (Case e body rest) m k s c = ap is_closer s.2
arm_closed toks (Default body rest) m k s c = ap is_closer s.1

-- a first clause and the others
pub record FirstArm (toks : List Tok) (room place : ℕ) (us : Clauses) (k : ℕ) : Type 0 where
  pub test : Optional
  pub body : Stmts
  pub more : Clauses
  pub next : ℕ
  pub is : us ≡ before test body more
  pub form : ClauseForm toks room place test body next
  pub rest : ClausesForm toks room next more k

module _ (toks : List Tok) (room at : ℕ) where
  pub arms_start : (ns : List Node) (list : List Clause) → list ≡ [] → GatheredArms toks room at ns list at
  arms_start ns list e = record {
    wrap = λ rest. rest;
    used = [];
    show = λ ns' k rest more vs h. subst (λ (z : List Clause). ClausesShow ns' rest (z ++ more) vs) (sym e) h;
    formed = λ rest h. h;
    height = λ rest h. h;
    whole = λ rest k s. s;
    ahead = λ us k g. (us, refl, g);
  }

  end_here : (place : ℕ) → HasSign toks place signs.CloseBrace → (rest : Clauses) (k : ℕ) → ClausesForm toks room place rest k → (rest ≡ NoClause) × (k ≡ place)
  end_here place close NoClause k g = (refl, g.stands)
  end_here place close (Case e body rest) k g = absurd (two_keys toks place _ _ close g.stands.2 (λ q. cc))
  end_here place close (Default body rest) k g = absurd (two_keys toks place _ _ close g.stands.1 (λ q. cc))

  pub arms_end : (ns : List Node) (list : List Clause) (place : ℕ) (p : ListedClauses) → GatheredArms toks room at ns list place → HasSign toks place signs.CloseBrace → p.list ≡ list → p.next ≡ place → FindsClauses toks room at ns p
  arms_end ns list place p l close made next = record {
    trees = l.wrap NoClause;
    used = l.used ++ [];
    shows = subst (λ (z : List Clause). ClausesShow ns (l.wrap NoClause) z (l.used ++ [])) (append_nil list ∙ sym made) (l.show ns (keeps_self ns) NoClause [] [] (refl, refl));
    form = record {
      formed = l.formed NoClause tt;
      height = l.height NoClause (omega arith);
      stands = subst (λ (z : ℕ). ClausesStand toks (l.wrap NoClause) at z) (sym next) (l.whole NoClause place refl);
      closes = subst (λ (z : ℕ). HasSign toks z signs.CloseBrace) (sym next) close;
    };
    only = λ us m g.
        (let a = l.ahead us m g in
        let c = end_here place close a.0 m a.2 in
        (a.1 ∙ ap l.wrap c.0, c.1 ∙ sym next));
  }

  some_arm : (place : ℕ) → (HasSign toks place signs.CloseBrace → ⊥) → (us : Clauses) (k : ℕ) → ClausesForm toks room place us k → FirstArm toks room place us k
  some_arm place go NoClause k g = absurd (go (subst (λ (z : ℕ). HasSign toks z signs.CloseBrace) g.stands g.closes))
  some_arm place go (Case e body rest) k g = record {
    test = Present e;
    body = body;
    more = rest;
    next = g.stands.1;
    is = refl;
    form = record {
      place = g.stands.0 + 1;
      head = (g.stands.0, g.stands.2, record { reading = record { level = omega arith; formed = g.formed.0; height = (let h = g.height in omega arith); stands = g.stands.3 }; closes = g.stands.4 }, refl);
      body = record { formed = g.formed.1; height = (let h = g.height in omega arith); stands = g.stands.5; closes = arm_closed toks rest g.stands.1 k g.stands.6 g.closes };
    };
    rest = record { formed = g.formed.2; height = (let h = g.height in omega arith); stands = g.stands.6; closes = g.closes };
  }
  some_arm place go (Default body rest) k g = record {
    test = Absent;
    body = body;
    more = rest;
    next = g.stands.0;
    is = refl;
    form = record {
      place = place + 2;
      head = (g.stands.1, g.stands.2, refl);
      body = record { formed = g.formed.0; height = (let h = g.height in omega arith); stands = g.stands.3; closes = arm_closed toks rest g.stands.0 k g.stands.4 g.closes };
    };
    rest = record { formed = g.formed.1; height = (let h = g.height in omega arith); stands = g.stands.4; closes = g.closes };
  }

  module _ (ns : List Node) (list : List Clause) (place : ℕ) (l : GatheredArms toks room at ns list place) (go : HasSign toks place signs.CloseBrace → ⊥) where
    pub arms_none : ((o : Optional) (us : Stmts) (m : ℕ) → ClauseForm toks room place o us m → ⊥) → (us : Clauses) (m : ℕ) → ClausesForm toks room at us m → ⊥
    arms_none none us m g = let a = l.ahead us m g in let b = some_arm place go a.0 m a.2 in none b.test b.body b.next b.form

    pub arms_more : (ns' : List Node) (p : Arm) (list' : List Clause) → Keeps ns ns' → FindsArm toks room place ns' p → list' ≡ list ++ p.clause ∷ [] → GatheredArms toks room at ns' list' p.next
    arms_more ns' p list' k f made = record {
      wrap = λ rest. l.wrap (before f.test f.body rest);
      used = l.used ++ (f.test_used ++ f.body_used);
      show = λ ns2 k2 rest more vs h.
          subst (λ (z : List Clause). ClausesShow ns2 (l.wrap (before f.test f.body rest)) (z ++ more) ((l.used ++ (f.test_used ++ f.body_used)) ++ vs)) (sym made)
          (rw (append_assoc, append_assoc, append_assoc)
          (l.show ns2 (keeps_both ns ns' ns2 k k2) (before f.test f.body rest) (p.clause ∷ more) (f.test_used ++ (f.body_used ++ vs))
          (shown ns2 f.test p.clause f.test_used (optional_kept ns' ns2 k2 f.test p.clause.test f.test_used f.test_shows) (stmts_kept ns' ns2 k2 f.body p.clause.body f.body_used f.body_shows) rest more vs h)));
      formed = λ rest h. l.formed (before f.test f.body rest) (forms f.test f.form.head f.form.body.formed rest h);
      height = λ rest h. l.height (before f.test f.body rest) (tall f.test f.form.head f.form.body.height rest h);
      whole = λ rest n s. l.whole (before f.test f.body rest) n (spelled f.test f.form.head f.form.body.stands rest n s);
      ahead = λ us n g. onward us n g;
    }
      where
        shown : (ns2 : List Node) (o : Optional) (c : Clause) (us : List ℕ) → OptionalShows ns2 o c.test us → StmtsShow ns2 f.body c.body f.body_used → (rest : Clauses) (more : List Clause) (vs : List ℕ) → ClausesShow ns2 rest more vs
            → ClausesShow ns2 (before o f.body rest) (c ∷ more) (us ++ (f.body_used ++ vs))
        shown ns2 Absent c us s b rest more vs h = (c.body, more, f.body_used, vs, ap (λ z. record { test = z; body = c.body } ∷ more) s.0, ap (λ z. z ++ (f.body_used ++ vs)) s.1, b, h)
        shown ns2 (Present e) c us s b rest more vs h = (s.0, c.body, more, us, f.body_used, vs, ap (λ z. record { test = z; body = c.body } ∷ more) s.1, refl, s.2, b, h)

        forms : (o : Optional) → ClauseHead toks room place o f.form.place → StmtsFormed f.body → (rest : Clauses) → ClausesFormed rest → ClausesFormed (before o f.body rest)
        forms Absent h b rest r = (b, r)
        forms (Present e) h b rest r = (h.2.reading.formed, b, r)

        tall : (o : Optional) → ClauseHead toks room place o f.form.place → stmts_height f.body ≤ room → (rest : Clauses) → clauses_height rest ≤ room → clauses_height (before o f.body rest) ≤ room
        tall Absent h b rest r = omega arith
        tall (Present e) h b rest r = let z = h.2.reading.height in omega arith

        spelled : (o : Optional) → ClauseHead toks room place o f.form.place → StmtsStand toks f.body f.form.place p.next → (rest : Clauses) (n : ℕ) → ClausesStand toks rest p.next n → ClausesStand toks (before o f.body rest) place n
        spelled Absent h b rest n r = (p.next, h.0, h.1, subst (λ (z : ℕ). StmtsStand toks f.body z p.next) h.2 b, r)
        spelled (Present e) h b rest n r = (h.0, p.next, h.1, h.2.reading.stands, h.2.closes, subst (λ (z : ℕ). StmtsStand toks f.body z p.next) h.3 b, r)

        onward : (us : Clauses) (n : ℕ) → ClausesForm toks room at us n → (rest : Clauses) × (us ≡ l.wrap (before f.test f.body rest)) × ClausesForm toks room p.next rest n
        onward us n g =
            let a = l.ahead us n g in
            let b = some_arm place go a.0 n a.2 in
            let s = f.only b.test b.body b.next b.form in
            (b.more, a.1 ∙ ap l.wrap b.is ∙ ap (λ z. l.wrap (before z b.body b.more)) s.0 ∙ ap (λ z. l.wrap (before f.test z b.more)) s.1, subst (λ (z : ℕ). ClausesForm toks room z b.more n) s.2 b.rest)

-- ---- `switch`

record SwitchForm (toks : List Tok) (room i : ℕ) (u : Stmt) (n : ℕ) : Type 0 where
  value : Expr
  clauses : Clauses
  place : ℕ
  close : ℕ
  is : u ≡ Switch value clauses
  test : TestForm toks (room - 1) (i + 1) value place
  opens : HasSign toks place signs.OpenBrace
  form : ClausesForm toks (room - 1) (place + 1) clauses close
  ends : n ≡ close + 1

only_switch : (toks : List Tok) (room i : ℕ) (u : Stmt) (m : ℕ) → kind_of_stmt u ≡ kinds.Switch → StmtReading toks room i u m → SwitchForm toks room i u m
only_switch toks room i (Switch e clauses) m k r =
    let two : (i + 1) + 1 ≡ i + 2 = omega arith in
    let q : (r.stands.0 + 1) + 1 ≡ r.stands.0 + 2 = omega arith in
    record {
      value = e;
      clauses = clauses;
      place = r.stands.0 + 1;
      close = r.stands.1;
      is = refl;
      test = record { close = r.stands.0; opens = r.stands.3; reading = record { level = omega arith; formed = r.formed.0; height = (let h = r.height in omega arith); stands = subst (λ (z : ℕ). Stands toks e z r.stands.0) (sym two) r.stands.4 }; closes = r.stands.5; ends = refl };
      opens = r.stands.6;
      form = record { formed = r.formed.1; height = (let h = r.height in omega arith); stands = subst (λ (z : ℕ). ClausesStand toks clauses z r.stands.1) (sym q) r.stands.7; closes = r.stands.8 };
      ends = r.stands.9;
    }
only_switch toks room i _ m k r = absurd cc

module _ (toks : List Tok) (room i : ℕ) (kind : KindIs toks i kinds.Switch) where
  switch_form : (u : Stmt) (m : ℕ) → StmtReading toks room i u m → Stops toks m u → SwitchForm toks room i u m
  switch_form u m r s = only_switch toks room i u m (of_kind toks room i _ kind u m r s) r

  pub switch_no_test : ((u : Expr) (m : ℕ) → TestForm toks (room - 1) (i + 1) u m → ⊥) → (u : Stmt) (m : ℕ) → StmtReading toks room i u m → Stops toks m u → ⊥
  switch_no_test none u m r s = let x = switch_form u m r s in none x.value x.place x.test

  module _ (ns : List Node) (p : Spot) (f : FindsExpr (TestForm toks (room - 1) (i + 1)) ns p) where
    same_place : (u : Stmt) (m : ℕ) (x : SwitchForm toks room i u m) → ClausesForm toks (room - 1) (p.next + 1) x.clauses x.close
    same_place u m x = subst (λ (z : ℕ). ClausesForm toks (room - 1) (z + 1) x.clauses x.close) (f.only x.value x.place x.test).1 x.form

    pub switch_open : (HasSign toks p.next signs.OpenBrace → ⊥) → (u : Stmt) (m : ℕ) → StmtReading toks room i u m → Stops toks m u → ⊥
    switch_open nay u m r s = let x = switch_form u m r s in nay (subst (λ (z : ℕ). HasSign toks z signs.OpenBrace) (f.only x.value x.place x.test).1 x.opens)

    pub switch_none : ((us : Clauses) (m : ℕ) → ClausesForm toks (room - 1) (p.next + 1) us m → ⊥) → (u : Stmt) (m : ℕ) → StmtReading toks room i u m → Stops toks m u → ⊥
    switch_none none u m r s = let x = switch_form u m r s in none x.clauses x.close (same_place u m x)

    pub switch_found : (ns' new : List Node) (q : ListedClauses) (node : NodeId) → 0 < room → HasSign toks p.next signs.OpenBrace → Keeps ns ns' → FindsClauses toks (room - 1) (p.next + 1) ns' q → Keeps ns' new → Has new node (nodes.Switch p.node q.list)
        → FindsStmt toks room i new (record { node = node; next = q.next + 1; is_open = false })
    switch_found ns' new q node below opened k g k2 has =
        let two : (i + 1) + 1 ≡ i + 2 = omega arith in
        let e : p.next ≡ f.form.close + 1 = f.form.ends in
        let e2 : p.next + 1 ≡ f.form.close + 2 = omega arith in
        record {
          stmt = Switch f.tree g.trees;
          used = node.0 ∷ (f.used ++ g.used);
          shows = (p.node, q.list, f.used, g.used, has, refl, kept ns new (keeps_both ns ns' new k k2) f.tree p.node f.used f.shows, clauses_kept ns' new k2 g.trees q.list g.used g.shows);
          is_open = refl;
          reading = record {
            formed = (f.form.reading.formed, g.form.formed);
            height = (let h = f.form.reading.height in let h2 = g.form.height in omega arith);
            stands = (
              f.form.close,
              q.next,
              told toks i _ kind,
              f.form.opens,
              subst (λ (z : ℕ). Stands toks f.tree z f.form.close) two f.form.reading.stands,
              f.form.closes,
              subst (λ (z : ℕ). HasSign toks z signs.OpenBrace) e opened,
              subst (λ (z : ℕ). ClausesStand toks g.trees z q.next) e2 g.form.stands,
              g.form.closes,
              refl,
            );
          };
          only = λ u m r s.
              (let x = switch_form u m r s in
              let a = f.only x.value x.place x.test in
              let b = g.only x.clauses x.close (same_place u m x) in
              (x.is ∙ ap (λ z. Switch z x.clauses) a.0 ∙ ap (Switch f.tree) b.0, x.ends ∙ ap (λ z. z + 1) b.1));
        }

-- children
are_more : (n m : ℕ) (list : List NodeId) → n ≤ m → AreBelow n list → AreBelow m list
are_more n m [] le h = tt
are_more n m (a ∷ rest) le h = ((let q = h.0 in omega arith), are_more n m rest le h.1)

option_more : (n m : ℕ) (o : Option NodeId) → n ≤ m → OptionBelow n o → OptionBelow m o
option_more n m None le h = tt
option_more n m (Some a) le h = omega arith

pub clauses_last : (n m : ℕ) (list : List Clause) (c : Clause) → n ≤ m → OptionBelow m c.test → AreBelow m c.body → ClausesBelow n list → ClausesBelow m (list ++ c ∷ [])
clauses_last n m [] c le t b h = (t, b, tt)
clauses_last n m (x ∷ rest) c le t b h = (option_more n m x.test le h.0, are_more n m x.body le h.1, clauses_last n m rest c le t b h.2)
