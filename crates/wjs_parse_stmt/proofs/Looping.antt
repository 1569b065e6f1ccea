-- `for`.
use Rattle.std.proofs.Common.{◌≡◌, ℕ, ◌+◌, ◌-◌, ◌<◌, ◌≤◌, ◌⊎◌, inl, inr, Bool, true, false, List, [], ◌∷◌, ◌++◌, Option, Some, None, refl, sym, ap, ◌∙◌, subst, arith}
use Rattle.wjs_base.specs.declared.ids.TextId.{TextId}
use Rattle.wjs_base.specs.declared.ids.NodeId.{NodeId}
use Rattle.wjs_tree.specs.declared.tokens.Token.{Token}
use Rattle.wjs_tree.specs.declared.tokens.Token.TheVariants as tokens
use Rattle.wjs_tree.specs.declared.signs.Sign.TheVariants as signs
use Rattle.wjs_tree.specs.declared.keys.Key.TheVariants as keys
use Rattle.wjs_tree.specs.declared.tokens.Tok.{Tok}
use Rattle.wjs_tree.specs.declared.node.Node.{Node}
use Rattle.wjs_tree.specs.declared.node.Node.TheVariants as nodes
use Rattle.wjs_tree.specs.declared.node.ForInit.TheVariants as inits
use Rattle.wjs_tree.specs.Trees.{Expr, Optional, Absent, Present, Variables, Init, NoInit, InitExpr, InitVar, Stmt, For, ForIn, ForVarIn}
use Rattle.wjs_tree.specs.Levels.{level, is_target}
use Rattle.wjs_tree.specs.Formed.{WellFormed, is_open_if}
use Rattle.wjs_tree.specs.Ends.{token_at, HasToken, HasSign, HasKey}
use Rattle.wjs_tree.specs.Spelling.{Stands, VariablesStand}
use Rattle.wjs_tree.specs.Shows.{Has, Keeps}
use Rattle.wjs_tree.proofs.Kept.{kept, stmt_kept, optional_kept, variables_kept, keeps_both}
use Rattle.wjs_parse_expr.specs.Readings.{Reading}
use Rattle.wjs_parse_expr.proofs.Readings.{same_token}
use Rattle.wjs_parse_simple.specs.declared.kind.Kind.TheVariants as kinds
use Rattle.wjs_parse_simple.specs.declared.parts.Piece.{Piece}
use Rattle.wjs_parse_simple.specs.declared.parts.Spot.{Spot}
use Rattle.wjs_parse_simple.specs.declared.parts.Maybe.{Maybe}
use Rattle.wjs_parse_stmt.specs.declared.parts.Rest.{Rest}
use Rattle.wjs_parse_simple.specs.declared.parts.ListedVariables.{ListedVariables}
use Rattle.wjs_parse_simple.specs.Kinds.{kind_of_stmt}
use Rattle.wjs_parse_simple.specs.Readings.{StmtReading, Stops, UpTo, MaybeForm, VariablesForm, ShutList}
use Rattle.wjs_parse_stmt.specs.Readings.{RestForm}
use Rattle.wjs_parse_simple.specs.Answers.{KindIs, FindsStmt, FindsExpr, FindsMaybe}
use Rattle.wjs_parse_stmt.specs.Branches.{FindsRest, FindsFirst}
use Rattle.wjs_parse_simple.specs.Lists.{FindsVariables}
use Rattle.wjs_parse_simple.proofs.Forms.{told, of_kind}
use Rattle.wjs_tree.specs.Formed.{InitFormed, AreSome}
use Rattle.wjs_tree.specs.Height.{init_height}
use Rattle.wjs_tree.specs.Spelling.{InitStands, MoreVariablesStand}
use Rattle.wjs_tree.specs.Trees.{NoVariable, Variable, Dot, At, Call, NewWith, NewBare, Postfix, Prefix, Binary, Cond, Assign, Comma}
use Rattle.wjs_tree.specs.Children.{OptionBelow}
use Rattle.wjs_tree.proofs.Levels.{new_level}
use Rattle.wjs_parse_expr.specs.declared.parts.Part.{Part}
use Rattle.wjs_parse_expr.specs.Reach.{reach}
use Rattle.wjs_parse_expr.specs.Answers.{Origin, Finds, Nothing}
use Rattle.wjs_parse_expr.proofs.Reach.{binary_bounds}
use Rattle.wjs_parse_expr.proofs.Assignments.{target_level}
use Rattle.wjs_parse_expr.proofs.Unaries.{never_begins}
use Rattle.wjs_parse_simple.specs.Readings.{last_value, Shut}
use Rattle.wjs_parse_simple.proofs.Ending.{same_expr, reach_shuts}

clash : (toks : List Tok) (i : ℕ) (a b : Token) → HasToken toks i a → HasToken toks i b → (a ≡ b → ⊥) → ⊥
clash toks i a b h g nay = nay (same_token _ a b h g)

same_stops : (toks : List Tok) (m : ℕ) (u s : Stmt) → is_open_if s ≡ is_open_if u → Stops toks m u → Stops toks m s
same_stops toks m u s e t = record { no_else = λ h. e ∙ t.no_else h; no_finally = t.no_finally; no_colon = t.no_colon }

-- ---- both other parts of the header, and the statement

module _ (toks : List Tok) (room i : ℕ) (a : List Node) (p : Maybe) (f : FindsMaybe (MaybeForm toks signs.Semicolon room (i + 1)) a p) where
  second_there : (o q : Optional) (u : Stmt) (m : ℕ) (x : RestForm toks room i o q u m) → MaybeForm toks signs.CloseParen room (p.next + 1) q x.second
  second_there o q u m x = subst (λ (z : ℕ). MaybeForm toks signs.CloseParen room (z + 1) q x.second) (f.only o x.first x.test_form).1 x.update_form

  pub rest_no_update : ((q : Optional) (m : ℕ) → MaybeForm toks signs.CloseParen room (p.next + 1) q m → ⊥) → (o : Optional) (q : Optional) (u : Stmt) (m : ℕ) → RestForm toks room i o q u m → Stops toks m u → ⊥
  rest_no_update none o q u m x s = none q x.second (second_there o q u m x)

  module _ (b : List Node) (h : Maybe) (g : FindsMaybe (MaybeForm toks signs.CloseParen room (p.next + 1)) b h) where
    body_there : (o q : Optional) (u : Stmt) (m : ℕ) (x : RestForm toks room i o q u m) → StmtReading toks room (h.next + 1) u m
    body_there o q u m x = subst (λ (z : ℕ). StmtReading toks room (z + 1) u m) (g.only q x.second (second_there o q u m x)).1 x.body

    pub rest_no_body : ((u : Stmt) (m : ℕ) → StmtReading toks room (h.next + 1) u m → Stops toks m u → ⊥) → (o : Optional) (q : Optional) (u : Stmt) (m : ℕ) → RestForm toks room i o q u m → Stops toks m u → ⊥
    rest_no_body none o q u m x s = none u m (body_there o q u m x) s

    pub rest_found : (c : List Node) (r : Piece) → Keeps a b → Keeps b c → HasSign toks i signs.Semicolon → FindsStmt toks room (h.next + 1) c r
        → FindsRest toks room i c (record { test = p.node; update = h.node; node = r.node; next = r.next; is_open = r.is_open })
    rest_found c r k k2 semi l = record {
      test = f.tree;
      update = g.tree;
      stmt = l.stmt;
      test_used = f.used;
      update_used = g.used;
      stmt_used = l.used;
      test_shows = optional_kept a c (keeps_both a b c k k2) f.tree p.node f.used f.shows;
      update_shows = optional_kept b c k2 g.tree h.node g.used g.shows;
      stmt_shows = l.shows;
      is_open = l.is_open;
      form = record { first = p.next; second = h.next; opens = semi; test_form = f.form; update_form = g.form; body = l.reading };
      only = λ o q u m x s.
          (let d = l.only u m (body_there o q u m x) s in
          ((f.only o x.first x.test_form).0, (g.only q x.second (second_there o q u m x)).0, d.0, d.1));
    }

pub rest_no_test : (toks : List Tok) (room i : ℕ) → ((q : Optional) (m : ℕ) → MaybeForm toks signs.Semicolon room (i + 1) q m → ⊥) → (o : Optional) (q : Optional) (u : Stmt) (m : ℕ) → RestForm toks room i o q u m → Stops toks m u → ⊥
rest_no_test toks room i none o q u m x s = none o x.first x.test_form

pub rest_unopened : (toks : List Tok) (room i : ℕ) → (HasSign toks i signs.Semicolon → ⊥) → (o : Optional) (q : Optional) (u : Stmt) (m : ℕ) → RestForm toks room i o q u m → Stops toks m u → ⊥
rest_unopened toks room i none o q u m x s = none x.opens

-- ---- the forms of `for`

record LoopForm (toks : List Tok) (room i : ℕ) (u : Stmt) (n : ℕ) : Type 0 where
  init : Init
  test : Optional
  update : Optional
  body : Stmt
  place : ℕ
  is : u ≡ For init test update body
  opens : HasSign toks (i + 1) signs.OpenParen
  formed : InitFormed init
  height : init_height init ≤ room - 1
  stands : InitStands toks init (i + 2) place
  rest : RestForm toks (room - 1) place test update body n
  stops : Stops toks n body

record EachForm (toks : List Tok) (room i : ℕ) (u : Stmt) (n : ℕ) : Type 0 where
  first : Expr
  object : Expr
  body : Stmt
  place : ℕ
  close : ℕ
  is : u ≡ ForIn first object body
  opens : HasSign toks (i + 1) signs.OpenParen
  target : is_target first ≡ true
  reading : Reading toks 15 false (room - 1) (i + 2) first place
  inside : HasKey toks place keys.In
  form : UpTo toks signs.CloseParen (room - 1) (place + 1) object close
  then : StmtReading toks (room - 1) (close + 1) body n
  stops : Stops toks n body

record EachVariable (toks : List Tok) (room i : ℕ) (u : Stmt) (n : ℕ) : Type 0 where
  name : TextId
  object : Expr
  body : Stmt
  close : ℕ
  is : u ≡ ForVarIn name object body
  opens : HasSign toks (i + 1) signs.OpenParen
  var : HasKey toks (i + 2) keys.Var
  word : HasToken toks (i + 3) (tokens.Word name)
  inside : HasKey toks (i + 4) keys.In
  form : UpTo toks signs.CloseParen (room - 1) (i + 5) object close
  then : StmtReading toks (room - 1) (close + 1) body n
  stops : Stops toks n body

abbrev ForShape : List Tok → ℕ → ℕ → Stmt → ℕ → Type 0
ForShape toks room i u n = LoopForm toks room i u n ⊎ (EachForm toks room i u n ⊎ EachVariable toks room i u n)

only_for : (toks : List Tok) (room i : ℕ) (u : Stmt) (m : ℕ) → kind_of_stmt u ≡ kinds.For → StmtReading toks room i u m → Stops toks m u → ForShape toks room i u m
only_for toks room i (For init test update b) m k r s = inl (record {
  init = init;
  test = test;
  update = update;
  body = b;
  place = r.stands.0;
  is = refl;
  opens = r.stands.4;
  formed = r.formed.0;
  height = (let h = r.height in omega arith);
  stands = r.stands.5;
  rest = record {
    first = r.stands.1;
    second = r.stands.2;
    opens = r.stands.6;
    test_form = record { formed = r.formed.1; height = (let h = r.height in omega arith); stands = r.stands.7; closes = r.stands.8 };
    update_form = record { formed = r.formed.2; height = (let h = r.height in omega arith); stands = r.stands.9; closes = r.stands.10 };
    body = record { formed = r.formed.3; height = (let h = r.height in omega arith); stands = r.stands.11 };
  };
  stops = same_stops toks m (For init test update b) b refl s;
})
only_for toks room i (ForIn t e b) m k r s = inr (inl (record {
  first = t;
  object = e;
  body = b;
  place = r.stands.0;
  close = r.stands.1;
  is = refl;
  opens = r.stands.3;
  target = r.formed.0;
  reading = record { level = r.formed.1; formed = r.formed.2; height = (let h = r.height in omega arith); stands = r.stands.4 };
  inside = r.stands.5;
  form = record { reading = record { level = omega arith; formed = r.formed.3; height = (let h = r.height in omega arith); stands = r.stands.6 }; closes = r.stands.7 };
  then = record { formed = r.formed.4; height = (let h = r.height in omega arith); stands = r.stands.8 };
  stops = same_stops toks m (ForIn t e b) b refl s;
}))
only_for toks room i (ForVarIn x e b) m k r s = inr (inr (record {
  name = x;
  object = e;
  body = b;
  close = r.stands.0;
  is = refl;
  opens = r.stands.2;
  var = r.stands.3;
  word = r.stands.4;
  inside = r.stands.5;
  form = record { reading = record { level = omega arith; formed = r.formed.0; height = (let h = r.height in omega arith); stands = r.stands.6 }; closes = r.stands.7 };
  then = record { formed = r.formed.1; height = (let h = r.height in omega arith); stands = r.stands.8 };
  stops = same_stops toks m (ForVarIn x e b) b refl s;
}))
only_for toks room i _ m k r s = absurd cc

-- where `in` may stand makes no difference to what binds tightly
free_in : (b c : Bool) (t : Expr) → 15 ≤ level t → WellFormed b t → WellFormed c t
free_in b c (Dot e x) h w = (w.0, free_in b c e (let z = w.0 in omega arith) w.1)
free_in b c (At e j) h w = (w.0, free_in b c e (let z = w.0 in omega arith) w.1, w.2)
free_in b c (Call f xs) h w = (w.0, free_in b c f (let z = w.0 in omega arith) w.1, w.2)
free_in b c (NewWith f xs) h w = (w.0, free_in b c f (let z = w.0 in omega arith) w.1, w.2)
free_in b c (NewBare f) h w = (w.0, free_in b c f (new_level f w.0) w.1)
free_in b c (Postfix t s) h w = absurd (omega arith)
free_in b c (Prefix s e) h w = absurd (omega arith)
free_in b c (Binary x op y) h w = absurd (let l = binary_bounds op in omega arith)
free_in b c (Cond x y z) h w = absurd (omega arith)
free_in b c (Assign t op e) h w = absurd (omega arith)
free_in b c (Comma x y) h w = absurd (omega arith)
free_in b c _ h w = w

module _ (toks : List Tok) (room i : ℕ) (kind : KindIs toks i kinds.For) where
  for_shape : (u : Stmt) (m : ℕ) → StmtReading toks room i u m → Stops toks m u → ForShape toks room i u m
  for_shape u m r s = only_for toks room i u m (of_kind toks room i _ kind u m r s) r s

  pub for_unopened : (HasSign toks (i + 1) signs.OpenParen → ⊥) → (u : Stmt) (m : ℕ) → StmtReading toks room i u m → Stops toks m u → ⊥
  for_unopened nay u m r s = pick (for_shape u m r s)
    where
      pick : ForShape toks room i u m → ⊥
      pick (inl x) = nay x.opens
      pick (inr (inl x)) = nay x.opens
      pick (inr (inr x)) = nay x.opens

  -- an expression behind `(` begins with no `var`
  no_var : (e : Expr) (n : ℕ) → HasKey toks (i + 2) keys.Var → Stands toks e (i + 2) n → ⊥
  no_var e n v s = never_begins toks e (i + 2) n (tokens.Key keys.Var) s v refl

  -- variables before `;` aren't followed by `in`
  no_in_behind : (vs : Variables) (n : ℕ) → VariablesStand toks vs (i + 3) n → HasSign toks n signs.Semicolon → AreSome vs → HasKey toks (i + 4) keys.In → ⊥
  no_in_behind NoVariable n s c some h = some
  no_in_behind (Variable x Absent rest) n s c some h =
      let e : s.0 ≡ i + 4 = (let z = s.2 in omega arith) in behind rest (subst (λ (z : ℕ). MoreVariablesStand toks rest z n) e s.3)
    where
      behind : (rest : Variables) → MoreVariablesStand toks rest (i + 4) n → ⊥
      behind NoVariable q = clash toks (i + 4) _ _ h (subst (λ (z : ℕ). HasSign toks z signs.Semicolon) q c) (λ z. cc)
      behind (Variable y v more) q = clash toks (i + 4) _ _ h q.1 (λ z. cc)
  no_in_behind (Variable x (Present e) rest) n s c some h =
      let q : (i + 3) + 1 ≡ i + 4 = omega arith in clash toks (i + 4) _ _ h (subst (λ (z : ℕ). HasSign toks z signs.Assign) q s.2.0) (λ z. cc)

  -- with `var` and `in`
  module _ (var : HasKey toks (i + 2) keys.Var) (inside : HasKey toks (i + 4) keys.In) where
    only_each : (u : Stmt) (m : ℕ) → ForShape toks room i u m → EachVariable toks room i u m
    only_each u m (inl x) = absurd (pick x.init x.formed x.stands)
      where
        pick : (init : Init) → InitFormed init → InitStands toks init (i + 2) x.place → ⊥
        pick NoInit w s = clash toks (i + 2) _ _ var (subst (λ (z : ℕ). HasSign toks z signs.Semicolon) s x.rest.opens) (λ z. cc)
        pick (InitExpr e) w s = no_var e x.place var s
        pick (InitVar vs) w s = let q : (i + 2) + 1 ≡ i + 3 = omega arith in no_in_behind vs x.place (subst (λ (z : ℕ). VariablesStand toks vs z x.place) q s.1) x.rest.opens w.0 inside
    only_each u m (inr (inl x)) = absurd (no_var x.first x.place var x.reading.stands)
    only_each u m (inr (inr x)) = x

    pub each_unnamed : ((x : TextId) → HasToken toks (i + 3) (tokens.Word x) → ⊥) → (u : Stmt) (m : ℕ) → StmtReading toks room i u m → Stops toks m u → ⊥
    each_unnamed none u m r s = let x = only_each u m (for_shape u m r s) in none x.name x.word

    pub each_no_object : ((u : Expr) (m : ℕ) → UpTo toks signs.CloseParen (room - 1) (i + 5) u m → ⊥) → (u : Stmt) (m : ℕ) → StmtReading toks room i u m → Stops toks m u → ⊥
    each_no_object none u m r s = let x = only_each u m (for_shape u m r s) in none x.object x.close x.form

    module _ (a : List Node) (p : Spot) (f : FindsExpr (UpTo toks signs.CloseParen (room - 1) (i + 5)) a p) where
      then_there : (u : Stmt) (m : ℕ) (x : EachVariable toks room i u m) → StmtReading toks (room - 1) (p.next + 1) x.body m
      then_there u m x = subst (λ (z : ℕ). StmtReading toks (room - 1) (z + 1) x.body m) (f.only x.object x.close x.form).1 x.then

      pub each_no_body : ((u : Stmt) (m : ℕ) → StmtReading toks (room - 1) (p.next + 1) u m → Stops toks m u → ⊥) → (u : Stmt) (m : ℕ) → StmtReading toks room i u m → Stops toks m u → ⊥
      each_no_body none u m r s = let x = only_each u m (for_shape u m r s) in none x.body m (then_there u m x) x.stops

      pub each_found : (b new : List Node) (name : TextId) (q : Piece) (node : NodeId) → 0 < room → HasSign toks (i + 1) signs.OpenParen → HasToken toks (i + 3) (tokens.Word name) → Keeps a b → FindsStmt toks (room - 1) (p.next + 1) b q → Keeps b new → Has new node (nodes.ForVarIn name p.node q.node)
          → FindsStmt toks room i new (record { node = node; next = q.next; is_open = q.is_open })
      each_found b new name q node below opened word k g k2 has = record {
        stmt = ForVarIn name f.tree g.stmt;
        used = node.0 ∷ (f.used ++ g.used);
        shows = (p.node, q.node, f.used, g.used, has, refl, kept a new (keeps_both a b new k k2) f.tree p.node f.used f.shows, stmt_kept b new k2 g.stmt q.node g.used g.shows);
        is_open = g.is_open;
        reading = record {
          formed = (f.form.reading.formed, g.reading.formed);
          height = (let h = f.form.reading.height in let h2 = g.reading.height in omega arith);
          stands = (p.next, told toks i _ kind, opened, var, word, inside, f.form.reading.stands, f.form.closes, g.reading.stands);
        };
        only = λ u m r s.
            (let x = only_each u m (for_shape u m r s) in
            let c = f.only x.object x.close x.form in
            let d = g.only x.body m (then_there u m x) x.stops in
            let e : tokens.Word x.name ≡ tokens.Word name = same_token _ _ _ x.word word in
            let n : x.name ≡ name = cc in
            (x.is ∙ ap (λ z. ForVarIn z x.object x.body) n ∙ ap (λ z. ForVarIn name z x.body) c.0 ∙ ap (ForVarIn name f.tree) d.0, d.1));
      }

  -- with `var` and no `in`
  module _ (var : HasKey toks (i + 2) keys.Var) (outside : HasKey toks (i + 4) keys.In → ⊥) where
    record VarLoop (u : Stmt) (n : ℕ) : Type 0 where
      variables : Variables
      test : Optional
      update : Optional
      body : Stmt
      place : ℕ
      is : u ≡ For (InitVar variables) test update body
      form : VariablesForm toks true (room - 1) (i + 3) variables place
      shut : ShutList toks true variables place
      rest : RestForm toks (room - 1) place test update body n
      stops : Stops toks n body

    semicolon_shuts : (e : Optional) (n : ℕ) → HasSign toks n signs.Semicolon → Shut toks true e n
    semicolon_shuts Absent n c = λ h. clash toks n _ _ c h (λ z. cc)
    semicolon_shuts (Present e) n c = λ h. reach_shuts toks 1 true e n (ap (reach true) c) h

    only_variables : (u : Stmt) (m : ℕ) → ForShape toks room i u m → VarLoop u m
    only_variables u m (inl x) = pick x.init refl x.formed x.height x.stands
      where
        pick : (init : Init) → x.init ≡ init → InitFormed init → init_height init ≤ room - 1 → InitStands toks init (i + 2) x.place → VarLoop u m
        pick NoInit e w h s = absurd (clash toks (i + 2) _ _ var (subst (λ (z : ℕ). HasSign toks z signs.Semicolon) s x.rest.opens) (λ z. cc))
        pick (InitExpr v) e w h s = absurd (no_var v x.place var s)
        pick (InitVar vs) e w h s =
            let q : (i + 2) + 1 ≡ i + 3 = omega arith in
            record {
              variables = vs;
              test = x.test;
              update = x.update;
              body = x.body;
              place = x.place;
              is = x.is ∙ ap (λ z. For z x.test x.update x.body) e;
              form = record { some = w.0; formed = w.1; height = h; stands = subst (λ (z : ℕ). VariablesStand toks vs z x.place) q s.1 };
              shut = record { no_comma = λ c. clash toks x.place _ _ x.rest.opens c (λ z. cc); shut = semicolon_shuts (last_value vs) x.place x.rest.opens };
              rest = x.rest;
              stops = x.stops;
            }
    only_variables u m (inr (inl x)) = absurd (no_var x.first x.place var x.reading.stands)
    only_variables u m (inr (inr x)) = absurd (outside x.inside)

    pub variables_none : ((us : Variables) (m : ℕ) → VariablesForm toks true (room - 1) (i + 3) us m → ShutList toks true us m → ⊥) → (u : Stmt) (m : ℕ) → StmtReading toks room i u m → Stops toks m u → ⊥
    variables_none none u m r s = let x = only_variables u m (for_shape u m r s) in none x.variables x.place x.form x.shut

    module _ (a : List Node) (p : ListedVariables) (f : FindsVariables toks true (room - 1) (i + 3) a p) where
      rest_there : (u : Stmt) (m : ℕ) (x : VarLoop u m) → RestForm toks (room - 1) p.next x.test x.update x.body m
      rest_there u m x = subst (λ (z : ℕ). RestForm toks (room - 1) z x.test x.update x.body m) (f.only x.variables x.place x.form x.shut).1 x.rest

      pub variables_no_rest : ((o : Optional) (q : Optional) (u : Stmt) (m : ℕ) → RestForm toks (room - 1) p.next o q u m → Stops toks m u → ⊥) → (u : Stmt) (m : ℕ) → StmtReading toks room i u m → Stops toks m u → ⊥
      variables_no_rest none u m r s = let x = only_variables u m (for_shape u m r s) in none x.test x.update x.body m (rest_there u m x) x.stops

      pub variables_found : (b new : List Node) (q : Rest) (node : NodeId) → 0 < room → HasSign toks (i + 1) signs.OpenParen → Keeps a b → FindsRest toks (room - 1) p.next b q → Keeps b new → Has new node (nodes.For (inits.Var p.list) q.test q.update q.node)
          → FindsStmt toks room i new (record { node = node; next = q.next; is_open = q.is_open })
      variables_found b new q node below opened k g k2 has =
          let e : i + 3 ≡ (i + 2) + 1 = omega arith in
          record {
            stmt = For (InitVar f.trees) g.test g.update g.stmt;
            used = node.0 ∷ (f.used ++ (g.test_used ++ (g.update_used ++ g.stmt_used)));
            shows = (inits.Var p.list, q.test, q.update, q.node, f.used, g.test_used, g.update_used, g.stmt_used, has, refl, (p.list, refl, variables_kept a new (keeps_both a b new k k2) f.trees p.list f.used f.shows), optional_kept b new k2 g.test q.test g.test_used g.test_shows, optional_kept b new k2 g.update q.update g.update_used g.update_shows, stmt_kept b new k2 g.stmt q.node g.stmt_used g.stmt_shows);
            is_open = g.is_open;
            reading = record {
              formed = ((f.form.some, f.form.formed), g.form.test_form.formed, g.form.update_form.formed, g.form.body.formed);
              height = (let h = f.form.height in let h1 = g.form.test_form.height in let h2 = g.form.update_form.height in let h3 = g.form.body.height in omega arith);
              stands = (p.next, g.form.first, g.form.second, told toks i _ kind, opened, (var, subst (λ (z : ℕ). VariablesStand toks f.trees z p.next) e f.form.stands), g.form.opens, g.form.test_form.stands, g.form.test_form.closes, g.form.update_form.stands, g.form.update_form.closes, g.form.body.stands);
            };
            only = λ u m r s.
                (let x = only_variables u m (for_shape u m r s) in
                let c = f.only x.variables x.place x.form x.shut in
                let d = g.only x.test x.update x.body m (rest_there u m x) x.stops in
                ((let x1 = x.is in let x2 = c.0 in let x3 = d.0 in let x4 = d.1 in let x5 = d.2 in cc), d.3));
          }

  -- without `var`
  module _ (bare : HasKey toks (i + 2) keys.Var → ⊥) where
    -- from `;`
    unstarted_rest : HasSign toks (i + 2) signs.Semicolon → (u : Stmt) (m : ℕ) → ForShape toks room i u m
        → (o : Optional) × (q : Optional) × (b : Stmt) × (u ≡ For NoInit o q b) × RestForm toks (room - 1) (i + 2) o q b m × Stops toks m b
    unstarted_rest semi u m (inl x) = pick x.init refl x.stands
      where
        pick : (init : Init) → x.init ≡ init → InitStands toks init (i + 2) x.place → (o : Optional) × (q : Optional) × (b : Stmt) × (u ≡ For NoInit o q b) × RestForm toks (room - 1) (i + 2) o q b m × Stops toks m b
        pick NoInit e s = (x.test, x.update, x.body, x.is ∙ ap (λ z. For z x.test x.update x.body) e, subst (λ (z : ℕ). RestForm toks (room - 1) z x.test x.update x.body m) s x.rest, x.stops)
        pick (InitExpr v) e s = absurd (never_begins toks v (i + 2) x.place (tokens.Sign signs.Semicolon) s semi refl)
        pick (InitVar vs) e s = absurd (bare s.0)
    unstarted_rest semi u m (inr (inl x)) = absurd (never_begins toks x.first (i + 2) x.place (tokens.Sign signs.Semicolon) x.reading.stands semi refl)
    unstarted_rest semi u m (inr (inr x)) = absurd (bare x.var)

    pub unstarted_none : HasSign toks (i + 2) signs.Semicolon → ((o : Optional) (q : Optional) (u : Stmt) (m : ℕ) → RestForm toks (room - 1) (i + 2) o q u m → Stops toks m u → ⊥) → (u : Stmt) (m : ℕ) → StmtReading toks room i u m → Stops toks m u → ⊥
    unstarted_none semi none u m r s = let x = unstarted_rest semi u m (for_shape u m r s) in none x.0 x.1 x.2 m x.4 x.5

    pub unstarted_found : HasSign toks (i + 2) signs.Semicolon → (b new : List Node) (q : Rest) (node : NodeId) → 0 < room → HasSign toks (i + 1) signs.OpenParen → FindsRest toks (room - 1) (i + 2) b q → Keeps b new → Has new node (nodes.For inits.Nothing q.test q.update q.node)
        → FindsStmt toks room i new (record { node = node; next = q.next; is_open = q.is_open })
    unstarted_found semi b new q node below opened g k2 has = record {
      stmt = For NoInit g.test g.update g.stmt;
      used = node.0 ∷ ([] ++ (g.test_used ++ (g.update_used ++ g.stmt_used)));
      shows = (inits.Nothing, q.test, q.update, q.node, [], g.test_used, g.update_used, g.stmt_used, has, refl, (refl, refl), optional_kept b new k2 g.test q.test g.test_used g.test_shows, optional_kept b new k2 g.update q.update g.update_used g.update_shows, stmt_kept b new k2 g.stmt q.node g.stmt_used g.stmt_shows);
      is_open = g.is_open;
      reading = record {
        formed = (tt, g.form.test_form.formed, g.form.update_form.formed, g.form.body.formed);
        height = (let h1 = g.form.test_form.height in let h2 = g.form.update_form.height in let h3 = g.form.body.height in omega arith);
        stands = (i + 2, g.form.first, g.form.second, told toks i _ kind, opened, refl, g.form.opens, g.form.test_form.stands, g.form.test_form.closes, g.form.update_form.stands, g.form.update_form.closes, g.form.body.stands);
      };
      only = λ u m r s.
          (let x = unstarted_rest semi u m (for_shape u m r s) in
          let d = g.only x.0 x.1 x.2 m x.4 x.5 in
          ((let x1 = x.3 in let x3 = d.0 in let x4 = d.1 in let x5 = d.2 in cc), d.3));
    }

    -- the first expression
    as_first : (t : Expr) (n : ℕ) → Reading toks 15 false (room - 1) (i + 2) t n → Reading toks 0 true (room - 1) (i + 2) t n
    as_first t n r = record { level = omega arith; formed = free_in false true t r.level r.formed; height = r.height; stands = r.stands }

    pub first_none : (HasSign toks (i + 2) signs.Semicolon → ⊥) → Nothing toks 0 true (room - 1) (i + 2) → (u : Stmt) (m : ℕ) → StmtReading toks room i u m → Stops toks m u → ⊥
    first_none nay f u m r s = pick (for_shape u m r s)
      where
        start : (x : LoopForm toks room i u m) (init : Init) → InitFormed init → init_height init ≤ room - 1 → InitStands toks init (i + 2) x.place → ⊥
        start x NoInit w h q = nay (subst (λ (z : ℕ). HasSign toks z signs.Semicolon) q x.rest.opens)
        start x (InitExpr e) w h q = f.none e x.place (record { level = omega arith; formed = w; height = h; stands = q })
        start x (InitVar vs) w h q = bare q.0

        pick : ForShape toks room i u m → ⊥
        pick (inl x) = start x x.init x.formed x.height x.stands
        pick (inr (inl x)) = f.none x.first x.place (as_first x.first x.place x.reading)
        pick (inr (inr x)) = bare x.var

    module _ (a : List Node) (p : Part) (f : FindsFirst toks (room - 1) (i + 2) a p) where
      same_first : (t : Expr) (n : ℕ) → reach true (token_at toks n) ≡ 0 → Reading toks 0 true (room - 1) (i + 2) t n → (t ≡ f.tree) × (n ≡ p.next)
      same_first t n low r = same_expr toks 0 true t f.tree n p.next (reach_shuts toks 0 true t n low) (f.best.longest t n r)

      -- a loop that starts with an expression
      record ExprLoop (u : Stmt) (n : ℕ) : Type 0 where
        test : Optional
        update : Optional
        body : Stmt
        is : u ≡ For (InitExpr f.tree) test update body
        rest : RestForm toks (room - 1) p.next test update body n
        stops : Stops toks n body

      expr_loop : (u : Stmt) (m : ℕ) (x : LoopForm toks room i u m) (init : Init) → x.init ≡ init → InitFormed init → init_height init ≤ room - 1 → InitStands toks init (i + 2) x.place → ExprLoop u m
      expr_loop u m x NoInit e w h q = absurd (never_begins toks f.tree (i + 2) p.next (tokens.Sign signs.Semicolon) f.best.reading.stands (subst (λ (z : ℕ). HasSign toks z signs.Semicolon) q x.rest.opens) refl)
      expr_loop u m x (InitExpr v) e w h q =
          let c = same_first v x.place (ap (reach true) x.rest.opens) (record { level = omega arith; formed = w; height = h; stands = q }) in
          record {
            test = x.test;
            update = x.update;
            body = x.body;
            is = x.is ∙ ap (λ z. For z x.test x.update x.body) e ∙ ap (λ z. For (InitExpr z) x.test x.update x.body) c.0;
            rest = subst (λ (z : ℕ). RestForm toks (room - 1) z x.test x.update x.body m) c.1 x.rest;
            stops = x.stops;
          }
      expr_loop u m x (InitVar vs) e w h q = absurd (bare q.0)

      only_loop : (HasKey toks p.next keys.In → ⊥) → (u : Stmt) (m : ℕ) → ForShape toks room i u m → ExprLoop u m
      only_loop nay u m (inl x) = expr_loop u m x x.init refl x.formed x.height x.stands
      only_loop nay u m (inr (inl x)) = absurd (nay (subst (λ (z : ℕ). HasKey toks z keys.In) (same_first x.first x.place (ap (reach true) x.inside) (as_first x.first x.place x.reading)).1 x.inside))
      only_loop nay u m (inr (inr x)) = absurd (bare x.var)

      pub started_none : (HasKey toks p.next keys.In → ⊥) → ((o : Optional) (q : Optional) (u : Stmt) (m : ℕ) → RestForm toks (room - 1) p.next o q u m → Stops toks m u → ⊥) → (u : Stmt) (m : ℕ) → StmtReading toks room i u m → Stops toks m u → ⊥
      started_none nay none u m r s = let x = only_loop nay u m (for_shape u m r s) in none x.test x.update x.body m x.rest x.stops

      pub started_found : (HasKey toks p.next keys.In → ⊥) → (b new : List Node) (q : Rest) (node : NodeId) → 0 < room → HasSign toks (i + 1) signs.OpenParen → Keeps a b → FindsRest toks (room - 1) p.next b q → Keeps b new → Has new node (nodes.For (inits.Expr p.node) q.test q.update q.node)
          → FindsStmt toks room i new (record { node = node; next = q.next; is_open = q.is_open })
      started_found nay b new q node below opened k g k2 has = record {
        stmt = For (InitExpr f.tree) g.test g.update g.stmt;
        used = node.0 ∷ (f.used ++ (g.test_used ++ (g.update_used ++ g.stmt_used)));
        shows = (inits.Expr p.node, q.test, q.update, q.node, f.used, g.test_used, g.update_used, g.stmt_used, has, refl, (p.node, refl, kept a new (keeps_both a b new k k2) f.tree p.node f.used f.shows), optional_kept b new k2 g.test q.test g.test_used g.test_shows, optional_kept b new k2 g.update q.update g.update_used g.update_shows, stmt_kept b new k2 g.stmt q.node g.stmt_used g.stmt_shows);
        is_open = g.is_open;
        reading = record {
          formed = (f.best.reading.formed, g.form.test_form.formed, g.form.update_form.formed, g.form.body.formed);
          height = (let h = f.best.reading.height in let h1 = g.form.test_form.height in let h2 = g.form.update_form.height in let h3 = g.form.body.height in omega arith);
          stands = (p.next, g.form.first, g.form.second, told toks i _ kind, opened, f.best.reading.stands, g.form.opens, g.form.test_form.stands, g.form.test_form.closes, g.form.update_form.stands, g.form.update_form.closes, g.form.body.stands);
        };
        only = λ u m r s.
            (let x = only_loop nay u m (for_shape u m r s) in
            let d = g.only x.test x.update x.body m x.rest x.stops in
            ((let x1 = x.is in let x3 = d.0 in let x4 = d.1 in let x5 = d.2 in cc), d.3));
      }

      -- with `in`
      record InLoop (u : Stmt) (n : ℕ) : Type 0 where
        object : Expr
        body : Stmt
        close : ℕ
        is : u ≡ ForIn f.tree object body
        target : is_target f.tree ≡ true
        form : UpTo toks signs.CloseParen (room - 1) (p.next + 1) object close
        then : StmtReading toks (room - 1) (close + 1) body n
        stops : Stops toks n body

      no_loop : HasKey toks p.next keys.In → (u : Stmt) (m : ℕ) (x : LoopForm toks room i u m) (init : Init) → InitFormed init → init_height init ≤ room - 1 → InitStands toks init (i + 2) x.place → ⊥
      no_loop inside u m x NoInit w h q = never_begins toks f.tree (i + 2) p.next (tokens.Sign signs.Semicolon) f.best.reading.stands (subst (λ (z : ℕ). HasSign toks z signs.Semicolon) q x.rest.opens) refl
      no_loop inside u m x (InitExpr v) w h q =
          let c = same_first v x.place (ap (reach true) x.rest.opens) (record { level = omega arith; formed = w; height = h; stands = q }) in
          clash toks p.next _ _ inside (subst (λ (z : ℕ). HasSign toks z signs.Semicolon) c.1 x.rest.opens) (λ z. cc)
      no_loop inside u m x (InitVar vs) w h q = bare q.0

      only_in : HasKey toks p.next keys.In → (u : Stmt) (m : ℕ) → ForShape toks room i u m → InLoop u m
      only_in inside u m (inl x) = absurd (no_loop inside u m x x.init x.formed x.height x.stands)
      only_in inside u m (inr (inl x)) =
          let c = same_first x.first x.place (ap (reach true) x.inside) (as_first x.first x.place x.reading) in
          record {
            object = x.object;
            body = x.body;
            close = x.close;
            is = x.is ∙ ap (λ z. ForIn z x.object x.body) c.0;
            target = sym (ap is_target c.0) ∙ x.target;
            form = subst (λ (z : ℕ). UpTo toks signs.CloseParen (room - 1) (z + 1) x.object x.close) c.1 x.form;
            then = x.then;
            stops = x.stops;
          }
      only_in inside u m (inr (inr x)) = absurd (bare x.var)

      pub in_no_target : HasKey toks p.next keys.In → p.is_target ≡ false → (u : Stmt) (m : ℕ) → StmtReading toks room i u m → Stops toks m u → ⊥
      in_no_target inside nay u m r s = let x = only_in inside u m (for_shape u m r s) in let t = f.target in let q = x.target in cc

      pub in_no_object : HasKey toks p.next keys.In → ((u : Expr) (m : ℕ) → UpTo toks signs.CloseParen (room - 1) (p.next + 1) u m → ⊥) → (u : Stmt) (m : ℕ) → StmtReading toks room i u m → Stops toks m u → ⊥
      in_no_object inside none u m r s = let x = only_in inside u m (for_shape u m r s) in none x.object x.close x.form

      module _ (b : List Node) (o : Spot) (g : FindsExpr (UpTo toks signs.CloseParen (room - 1) (p.next + 1)) b o) where
        in_then : (u : Stmt) (m : ℕ) (x : InLoop u m) → StmtReading toks (room - 1) (o.next + 1) x.body m
        in_then u m x = subst (λ (z : ℕ). StmtReading toks (room - 1) (z + 1) x.body m) (g.only x.object x.close x.form).1 x.then

        pub in_no_body : HasKey toks p.next keys.In → ((u : Stmt) (m : ℕ) → StmtReading toks (room - 1) (o.next + 1) u m → Stops toks m u → ⊥) → (u : Stmt) (m : ℕ) → StmtReading toks room i u m → Stops toks m u → ⊥
        in_no_body inside none u m r s = let x = only_in inside u m (for_shape u m r s) in none x.body m (in_then u m x) x.stops

        pub in_found : HasKey toks p.next keys.In → p.is_target ≡ true → (c new : List Node) (q : Piece) (node : NodeId) → 0 < room → HasSign toks (i + 1) signs.OpenParen → Keeps a b → Keeps b c → FindsStmt toks (room - 1) (o.next + 1) c q → Keeps c new → Has new node (nodes.ForIn p.node o.node q.node)
            → FindsStmt toks room i new (record { node = node; next = q.next; is_open = q.is_open })
        in_found inside target c new q node below opened k k2 l k3 has =
            let t : is_target f.tree ≡ true = sym f.target ∙ target in
            let lev = target_level true f.tree t f.best.reading.formed in
            record {
              stmt = ForIn f.tree g.tree l.stmt;
              used = node.0 ∷ (f.used ++ (g.used ++ l.used));
              shows = (p.node, o.node, q.node, f.used, g.used, l.used, has, refl, kept a new (keeps_both a c new (keeps_both a b c k k2) k3) f.tree p.node f.used f.shows, kept b new (keeps_both b c new k2 k3) g.tree o.node g.used g.shows, stmt_kept c new k3 l.stmt q.node l.used l.shows);
              is_open = l.is_open;
              reading = record {
                formed = (t, lev, free_in true false f.tree lev f.best.reading.formed, g.form.reading.formed, l.reading.formed);
                height = (let h = f.best.reading.height in let h1 = g.form.reading.height in let h2 = l.reading.height in omega arith);
                stands = (p.next, o.next, told toks i _ kind, opened, f.best.reading.stands, inside, g.form.reading.stands, g.form.closes, l.reading.stands);
              };
              only = λ u m r s.
                  (let x = only_in inside u m (for_shape u m r s) in
                  let y = g.only x.object x.close x.form in
                  let z = l.only x.body m (in_then u m x) x.stops in
                  (x.is ∙ ap (λ w. ForIn f.tree w x.body) y.0 ∙ ap (ForIn f.tree g.tree) z.0, z.1));
            }

-- where `;` stands, no `var` does
pub no_var_there : (toks : List Tok) (i : ℕ) → HasSign toks (i + 2) signs.Semicolon → HasKey toks (i + 2) keys.Var → ⊥
no_var_there toks i s v = clash toks (i + 2) _ _ s v (λ z. cc)

-- the first expression as it was found
pub first_found : (o : Origin) (toks : List Tok) (room i : ℕ) (ns : List Node) (p : Part) → Finds o toks 0 true room i ns p → FindsFirst toks room i ns p
first_found o toks room i ns p f = record { tree = f.tree; used = f.part.used; shows = f.part.shows; target = f.part.is_target; best = f.best }

-- children
pub option_more : (n m : ℕ) (o : Option NodeId) → n ≤ m → OptionBelow n o → OptionBelow m o
option_more n m None le h = tt
option_more n m (Some a) le h = omega arith
