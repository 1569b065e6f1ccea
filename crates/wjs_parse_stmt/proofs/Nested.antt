-- `while`, `do`, labels and `in`.
use Rattle.std.proofs.Common.{◌≡◌, ℕ, ◌+◌, ◌-◌, ◌<◌, ◌≤◌, false, List, ◌∷◌, ◌++◌, refl, sym, ap, ◌∙◌, subst, arith}
use Rattle.wjs_base.specs.declared.ids.TextId.{TextId}
use Rattle.wjs_base.specs.declared.ids.NodeId.{NodeId}
use Rattle.wjs_tree.specs.declared.tokens.Token.TheVariants as tokens
use Rattle.wjs_tree.specs.declared.signs.Sign.TheVariants as signs
use Rattle.wjs_tree.specs.declared.keys.Key.TheVariants as keys
use Rattle.wjs_tree.specs.declared.tokens.Tok.{Tok}
use Rattle.wjs_tree.specs.declared.node.Node.{Node}
use Rattle.wjs_tree.specs.declared.node.Node.TheVariants as nodes
use Rattle.wjs_tree.specs.declared.node.End.{End}
use Rattle.wjs_tree.specs.Trees.{Expr, Stmts, Stmt, DoWhile, While, Label, Within}
use Rattle.wjs_tree.specs.Height.{height}
use Rattle.wjs_tree.specs.Formed.{WellFormed, is_open_if}
use Rattle.wjs_tree.specs.Ends.{HasSign, HasKey, Complete, Ends}
use Rattle.wjs_tree.specs.Spelling.{Stands, StmtStands}
use Rattle.wjs_tree.specs.Shows.{Has, Keeps}
use Rattle.wjs_tree.proofs.Kept.{kept, stmt_kept, stmts_kept, keeps_both}
use Rattle.wjs_parse_simple.specs.declared.kind.Kind.TheVariants as kinds
use Rattle.wjs_parse_simple.specs.declared.parts.Piece.{Piece}
use Rattle.wjs_parse_simple.specs.declared.parts.Spot.{Spot}
use Rattle.wjs_parse_simple.specs.declared.parts.Ended.{Ended}
use Rattle.wjs_parse_simple.specs.Kinds.{kind_of_stmt}
use Rattle.wjs_parse_simple.specs.Readings.{StmtReading, Stops, TestForm, UpTo}
use Rattle.wjs_parse_stmt.specs.Readings.{BlockForm}
use Rattle.wjs_parse_simple.specs.Answers.{KindIs, FindsStmt, FindsExpr}
use Rattle.wjs_parse_stmt.specs.Answers.{FindsBlock}
use Rattle.wjs_parse_simple.proofs.Forms.{told, of_kind, start_stops}
use Rattle.wjs_parse_simple.proofs.Ending.{one_end}

two : (i : ℕ) → (i + 1) + 1 ≡ i + 2
two i = omega arith

-- an expression in parentheses behind a key
test_form : (toks : List Tok) (room i : ℕ) (e : Expr) (close : ℕ) → HasSign toks (i + 1) signs.OpenParen → WellFormed false e → height e ≤ room → Stands toks e (i + 2) close → HasSign toks close signs.CloseParen → TestForm toks room (i + 1) e (close + 1)
test_form toks room i e close o w h s c = record { close = close; opens = o; reading = record { level = omega arith; formed = w; height = h; stands = subst (λ (z : ℕ). Stands toks e z close) (sym (two i)) s }; closes = c; ends = refl }

same_stops : (toks : List Tok) (m : ℕ) (u s : Stmt) → is_open_if s ≡ is_open_if u → Stops toks m u → Stops toks m s
same_stops toks m u s e t = record { no_else = λ h. e ∙ t.no_else h; no_finally = t.no_finally; no_colon = t.no_colon }

-- ---- `while`

record WhileForm (toks : List Tok) (room i : ℕ) (u : Stmt) (n : ℕ) : Type 0 where
  value : Expr
  body : Stmt
  place : ℕ
  is : u ≡ While value body
  test : TestForm toks (room - 1) (i + 1) value place
  reading : StmtReading toks (room - 1) place body n
  stops : Stops toks n body

only_while : (toks : List Tok) (room i : ℕ) (u : Stmt) (m : ℕ) → kind_of_stmt u ≡ kinds.While → StmtReading toks room i u m → Stops toks m u → WhileForm toks room i u m
only_while toks room i (While e b) m k r s = record {
  value = e;
  body = b;
  place = r.stands.0 + 1;
  is = refl;
  test = test_form toks (room - 1) i e r.stands.0 r.stands.2 r.formed.0 (let h = r.height in omega arith) r.stands.3 r.stands.4;
  reading = record { formed = r.formed.1; height = (let h = r.height in omega arith); stands = r.stands.5 };
  stops = same_stops toks m (While e b) b refl s;
}
only_while toks room i _ m k r s = absurd cc

module _ (toks : List Tok) (room i : ℕ) (kind : KindIs toks i kinds.While) where
  while_form : (u : Stmt) (m : ℕ) → StmtReading toks room i u m → Stops toks m u → WhileForm toks room i u m
  while_form u m r s = only_while toks room i u m (of_kind toks room i _ kind u m r s) r s

  pub while_no_test : ((u : Expr) (m : ℕ) → TestForm toks (room - 1) (i + 1) u m → ⊥) → (u : Stmt) (m : ℕ) → StmtReading toks room i u m → Stops toks m u → ⊥
  while_no_test none u m r s = let x = while_form u m r s in none x.value x.place x.test

  module _ (a : List Node) (p : Spot) (f : FindsExpr (TestForm toks (room - 1) (i + 1)) a p) where
    pub while_no_body : ((u : Stmt) (m : ℕ) → StmtReading toks (room - 1) p.next u m → Stops toks m u → ⊥) → (u : Stmt) (m : ℕ) → StmtReading toks room i u m → Stops toks m u → ⊥
    while_no_body none u m r s = let x = while_form u m r s in none x.body m (subst (λ (z : ℕ). StmtReading toks (room - 1) z x.body m) (f.only x.value x.place x.test).1 x.reading) x.stops

    pub while_found : (b new : List Node) (q : Piece) (node : NodeId) → 0 < room → Keeps a b → FindsStmt toks (room - 1) p.next b q → Keeps b new → Has new node (nodes.While p.node q.node) → FindsStmt toks room i new (record { node = node; next = q.next; is_open = q.is_open })
    while_found b new q node below k g k2 has =
        let e : p.next ≡ f.form.close + 1 = f.form.ends in
        record {
          stmt = While f.tree g.stmt;
          used = node.0 ∷ (f.used ++ g.used);
          shows = (p.node, q.node, f.used, g.used, has, refl, kept a new (keeps_both a b new k k2) f.tree p.node f.used f.shows, stmt_kept b new k2 g.stmt q.node g.used g.shows);
          is_open = g.is_open;
          reading = record {
            formed = (f.form.reading.formed, g.reading.formed);
            height = (let h = f.form.reading.height in let h2 = g.reading.height in omega arith);
            stands = (f.form.close, told toks i _ kind, f.form.opens, subst (λ (z : ℕ). Stands toks f.tree z f.form.close) (two i) f.form.reading.stands, f.form.closes, subst (λ (z : ℕ). StmtStands toks g.stmt z q.next) e g.reading.stands);
          };
          only = λ u m r s.
              (let x = while_form u m r s in
              let c = f.only x.value x.place x.test in
              let d = g.only x.body m (subst (λ (z : ℕ). StmtReading toks (room - 1) z x.body m) c.1 x.reading) x.stops in
              (x.is ∙ ap (λ z. While z x.body) c.0 ∙ ap (While f.tree) d.0, d.1));
        }

-- ---- `do`

record DoForm (toks : List Tok) (room i : ℕ) (u : Stmt) (n : ℕ) : Type 0 where
  body : Stmt
  value : Expr
  end : End
  middle : ℕ
  place : ℕ
  is : u ≡ DoWhile body value end
  reading : StmtReading toks (room - 1) (i + 1) body middle
  stops : Stops toks middle body
  key : HasKey toks middle keys.While
  test : TestForm toks (room - 1) (middle + 1) value place
  ends : Ends toks Complete end place n

only_do : (toks : List Tok) (room i : ℕ) (u : Stmt) (m : ℕ) → kind_of_stmt u ≡ kinds.Do → StmtReading toks room i u m → DoForm toks room i u m
only_do toks room i (DoWhile b e end) m k r = record {
  body = b;
  value = e;
  end = end;
  middle = r.stands.0;
  place = r.stands.1 + 1;
  is = refl;
  reading = record { formed = r.formed.0; height = (let h = r.height in omega arith); stands = r.stands.3 };
  stops = start_stops toks r.stands.0 b (tokens.Key keys.While, r.stands.4, refl);
  key = r.stands.4;
  test = test_form toks (room - 1) r.stands.0 e r.stands.1 r.stands.5 r.formed.1 (let h = r.height in omega arith) r.stands.6 r.stands.7;
  ends = r.stands.8;
}
only_do toks room i _ m k r = absurd cc

module _ (toks : List Tok) (room i : ℕ) (kind : KindIs toks i kinds.Do) where
  do_form : (u : Stmt) (m : ℕ) → StmtReading toks room i u m → Stops toks m u → DoForm toks room i u m
  do_form u m r s = only_do toks room i u m (of_kind toks room i _ kind u m r s) r

  pub do_no_body : ((u : Stmt) (m : ℕ) → StmtReading toks (room - 1) (i + 1) u m → Stops toks m u → ⊥) → (u : Stmt) (m : ℕ) → StmtReading toks room i u m → Stops toks m u → ⊥
  do_no_body none u m r s = let x = do_form u m r s in none x.body x.middle x.reading x.stops

  module _ (a : List Node) (p : Piece) (f : FindsStmt toks (room - 1) (i + 1) a p) where
    same_middle : (u : Stmt) (m : ℕ) (x : DoForm toks room i u m) → (x.body ≡ f.stmt) × (x.middle ≡ p.next)
    same_middle u m x = f.only x.body x.middle x.reading x.stops

    pub do_no_while : (HasKey toks p.next keys.While → ⊥) → (u : Stmt) (m : ℕ) → StmtReading toks room i u m → Stops toks m u → ⊥
    do_no_while nay u m r s = let x = do_form u m r s in nay (subst (λ (z : ℕ). HasKey toks z keys.While) (same_middle u m x).1 x.key)

    test_there : (u : Stmt) (m : ℕ) (x : DoForm toks room i u m) → TestForm toks (room - 1) (p.next + 1) x.value x.place
    test_there u m x = subst (λ (z : ℕ). TestForm toks (room - 1) (z + 1) x.value x.place) (same_middle u m x).1 x.test

    pub do_no_test : ((u : Expr) (m : ℕ) → TestForm toks (room - 1) (p.next + 1) u m → ⊥) → (u : Stmt) (m : ℕ) → StmtReading toks room i u m → Stops toks m u → ⊥
    do_no_test none u m r s = let x = do_form u m r s in none x.value x.place (test_there u m x)

    module _ (b : List Node) (q : Spot) (g : FindsExpr (TestForm toks (room - 1) (p.next + 1)) b q) where
      end_there : (u : Stmt) (m : ℕ) (x : DoForm toks room i u m) → Ends toks Complete x.end q.next m
      end_there u m x = subst (λ (z : ℕ). Ends toks Complete x.end z m) (g.only x.value x.place (test_there u m x)).1 x.ends

      pub do_no_end : ((end : End) (n : ℕ) → Ends toks Complete end q.next n → ⊥) → (u : Stmt) (m : ℕ) → StmtReading toks room i u m → Stops toks m u → ⊥
      do_no_end none u m r s = let x = do_form u m r s in none x.end m (end_there u m x)

      pub do_found : (new : List Node) (e : Ended) (node : NodeId) → 0 < room → Keeps a b → HasKey toks p.next keys.While → Ends toks Complete e.end q.next e.next → Keeps b new → Has new node (nodes.DoWhile p.node q.node e.end)
          → FindsStmt toks room i new (record { node = node; next = e.next; is_open = false })
      do_found new e node below k key d k2 has =
          let c : q.next ≡ g.form.close + 1 = g.form.ends in
          record {
            stmt = DoWhile f.stmt g.tree e.end;
            used = node.0 ∷ (f.used ++ g.used);
            shows = (p.node, q.node, f.used, g.used, has, refl, stmt_kept a new (keeps_both a b new k k2) f.stmt p.node f.used f.shows, kept b new k2 g.tree q.node g.used g.shows);
            is_open = refl;
            reading = record {
              formed = (f.reading.formed, g.form.reading.formed);
              height = (let h = f.reading.height in let h2 = g.form.reading.height in omega arith);
              stands = (p.next, g.form.close, told toks i _ kind, f.reading.stands, key, g.form.opens, subst (λ (z : ℕ). Stands toks g.tree z g.form.close) (two p.next) g.form.reading.stands, g.form.closes, subst (λ (z : ℕ). Ends toks Complete e.end z e.next) c d);
            };
            only = λ u m r s.
                (let x = do_form u m r s in
                let y = same_middle u m x in
                let z = g.only x.value x.place (test_there u m x) in
                let w = one_end toks Complete q.next m e.next x.end e.end (end_there u m x) d in
                ((let x1 = x.is in let x2 = y.0 in let x3 = z.0 in let x4 = w.0 in cc), w.1));
          }

-- ---- labels

record LabelForm (toks : List Tok) (room i : ℕ) (x : TextId) (u : Stmt) (n : ℕ) : Type 0 where
  body : Stmt
  is : u ≡ Label x body
  reading : StmtReading toks (room - 1) (i + 2) body n
  stops : Stops toks n body

only_label : (toks : List Tok) (room i : ℕ) (x : TextId) (u : Stmt) (m : ℕ) → kind_of_stmt u ≡ kinds.Label x → StmtReading toks room i u m → Stops toks m u → LabelForm toks room i x u m
only_label toks room i x (Label y b) m k r s = record {
  body = b;
  is = (let e : kinds.Label y ≡ kinds.Label x = k in let z : y ≡ x = cc in ap (λ w. Label w b) z);
  reading = record { formed = r.formed; height = (let h = r.height in omega arith); stands = r.stands.2 };
  stops = same_stops toks m (Label y b) b refl s;
}
only_label toks room i x _ m k r s = absurd cc

module _ (toks : List Tok) (room i : ℕ) (x : TextId) (kind : KindIs toks i (kinds.Label x)) where
  label_form : (u : Stmt) (m : ℕ) → StmtReading toks room i u m → Stops toks m u → LabelForm toks room i x u m
  label_form u m r s = only_label toks room i x u m (of_kind toks room i _ kind u m r s) r s

  pub label_none : ((u : Stmt) (m : ℕ) → StmtReading toks (room - 1) (i + 2) u m → Stops toks m u → ⊥) → (u : Stmt) (m : ℕ) → StmtReading toks room i u m → Stops toks m u → ⊥
  label_none none u m r s = let y = label_form u m r s in none y.body m y.reading y.stops

  pub label_found : (a new : List Node) (p : Piece) (node : NodeId) → 0 < room → FindsStmt toks (room - 1) (i + 2) a p → Keeps a new → Has new node (nodes.Label x p.node) → FindsStmt toks room i new (record { node = node; next = p.next; is_open = p.is_open })
  label_found a new p node below f k has =
      let t = told toks i _ kind in
      record {
        stmt = Label x f.stmt;
        used = node.0 ∷ f.used;
        shows = (p.node, f.used, has, refl, stmt_kept a new k f.stmt p.node f.used f.shows);
        is_open = f.is_open;
        reading = record { formed = f.reading.formed; height = (let h = f.reading.height in omega arith); stands = (t.0, t.1, f.reading.stands) };
        only = λ u m r s. (let y = label_form u m r s in let z = f.only y.body m y.reading y.stops in (y.is ∙ ap (Label x) z.0, z.1));
      }

-- ---- `in`

record WithinForm (toks : List Tok) (room i : ℕ) (u : Stmt) (n : ℕ) : Type 0 where
  value : Expr
  body : Stmts
  place : ℕ
  is : u ≡ Within value body
  form : UpTo toks signs.OpenBrace (room - 1) (i + 1) value place
  block : BlockForm toks (room - 1) place body n

only_within : (toks : List Tok) (room i : ℕ) (u : Stmt) (m : ℕ) → kind_of_stmt u ≡ kinds.Within → StmtReading toks room i u m → WithinForm toks room i u m
only_within toks room i (Within e b) m k r = record {
  value = e;
  body = b;
  place = r.stands.0;
  is = refl;
  form = record { reading = record { level = omega arith; formed = r.formed.0; height = (let h = r.height in omega arith); stands = r.stands.3 }; closes = r.stands.4 };
  block = record { close = r.stands.1; opens = r.stands.4; formed = r.formed.1; height = (let h = r.height in omega arith); stands = r.stands.5; closes = r.stands.6; ends = r.stands.7 };
}
only_within toks room i _ m k r = absurd cc

module _ (toks : List Tok) (room i : ℕ) (kind : KindIs toks i kinds.Within) where
  within_form : (u : Stmt) (m : ℕ) → StmtReading toks room i u m → Stops toks m u → WithinForm toks room i u m
  within_form u m r s = only_within toks room i u m (of_kind toks room i _ kind u m r s) r

  pub within_no_world : ((u : Expr) (m : ℕ) → UpTo toks signs.OpenBrace (room - 1) (i + 1) u m → ⊥) → (u : Stmt) (m : ℕ) → StmtReading toks room i u m → Stops toks m u → ⊥
  within_no_world none u m r s = let x = within_form u m r s in none x.value x.place x.form

  module _ (a : List Node) (p : Spot) (f : FindsExpr (UpTo toks signs.OpenBrace (room - 1) (i + 1)) a p) where
    block_there : (u : Stmt) (m : ℕ) (x : WithinForm toks room i u m) → BlockForm toks (room - 1) p.next x.body m
    block_there u m x = subst (λ (z : ℕ). BlockForm toks (room - 1) z x.body m) (f.only x.value x.place x.form).1 x.block

    pub within_no_block : ((us : Stmts) (m : ℕ) → BlockForm toks (room - 1) p.next us m → ⊥) → (u : Stmt) (m : ℕ) → StmtReading toks room i u m → Stops toks m u → ⊥
    within_no_block none u m r s = let x = within_form u m r s in none x.body m (block_there u m x)

    pub within_found : (b new : List Node) (q : Spot) (node : NodeId) → 0 < room → Keeps a b → FindsBlock toks (room - 1) p.next b q → Keeps b new → Has new node (nodes.Within p.node q.node) → FindsStmt toks room i new (record { node = node; next = q.next; is_open = false })
    within_found b new q node below k g k2 has = record {
      stmt = Within f.tree g.trees;
      used = node.0 ∷ (f.used ++ (q.node.0 ∷ g.used));
      shows = (p.node, q.node, g.list, f.used, g.used, has, refl, kept a new (keeps_both a b new k k2) f.tree p.node f.used f.shows, k2.same q.node.0 _ g.has, stmts_kept b new k2 g.trees g.list g.used g.shows);
      is_open = refl;
      reading = record {
        formed = (f.form.reading.formed, g.form.formed);
        height = (let h = f.form.reading.height in let h2 = g.form.height in omega arith);
        stands = (p.next, g.form.close, told toks i _ kind, f.form.reading.stands, f.form.closes, g.form.stands, g.form.closes, g.form.ends);
      };
      only = λ u m r s.
          (let x = within_form u m r s in
          let c = f.only x.value x.place x.form in
          let d = g.only x.body m (block_there u m x) in
          (x.is ∙ ap (λ z. Within z x.body) c.0 ∙ ap (Within f.tree) d.0, d.1));
    }
