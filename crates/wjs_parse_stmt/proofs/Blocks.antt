-- Statements one behind another, and blocks.
use Rattle.std.proofs.Common.{◌≡◌, ℕ, ◌+◌, ◌-◌, ◌<◌, ◌≤◌, true, false, List, [], ◌∷◌, ◌++◌, refl, sym, ap, ◌∙◌, subst, arith, append_assoc}
use Rattle.wjs_base.specs.declared.ids.NodeId.{NodeId}
use Rattle.wjs_tree.specs.declared.signs.Sign.TheVariants as signs
use Rattle.wjs_tree.specs.declared.tokens.Tok.{Tok}
use Rattle.wjs_tree.specs.declared.node.Node.{Node}
use Rattle.wjs_tree.specs.declared.node.Node.TheVariants as nodes
use Rattle.wjs_tree.specs.Trees.{Stmt, Stmts, NoStmt, MoreStmts, Block}
use Rattle.wjs_tree.specs.Height.{stmts_height}
use Rattle.wjs_tree.specs.Formed.{StmtsFormed}
use Rattle.wjs_tree.specs.Ends.{token_at, HasSign}
use Rattle.wjs_tree.specs.Spelling.{StmtsStand}
use Rattle.wjs_tree.specs.Shows.{Has, StmtsShow, Keeps}
use Rattle.wjs_tree.proofs.Kept.{stmt_kept, stmts_kept, keeps_self, keeps_both}
use Rattle.wjs_parse_simple.specs.declared.kind.Kind.TheVariants as kinds
use Rattle.wjs_parse_simple.specs.declared.parts.Piece.{Piece}
use Rattle.wjs_parse_simple.specs.declared.parts.Spot.{Spot}
use Rattle.wjs_parse_stmt.specs.declared.parts.Listed.{Listed}
use Rattle.wjs_parse_simple.specs.Kinds.{kind_of_stmt}
use Rattle.wjs_parse_simple.specs.Readings.{StmtReading, Stops, is_closer}
use Rattle.wjs_parse_stmt.specs.Readings.{StmtsForm, BlockForm}
use Rattle.wjs_parse_simple.specs.Answers.{KindIs, FindsStmt}
use Rattle.wjs_parse_stmt.specs.Answers.{FindsStmts, FindsBlock}
use Rattle.wjs_parse_simple.proofs.Forms.{of_kind, starting, no_start, start_stops, close_stops}

-- The statements before a place are read, and each list goes through them.
pub record Gathered (toks : List Tok) (room at : ℕ) (ns : List Node) (list : List NodeId) (place : ℕ) : Type 0 where
  pub wrap : Stmts → Stmts
  pub used : List ℕ
  pub show : (ns' : List Node) → Keeps ns ns' → (rest : Stmts) (more : List NodeId) (vs : List ℕ) → StmtsShow ns' rest more vs → StmtsShow ns' (wrap rest) (list ++ more) (used ++ vs)
  pub formed : (rest : Stmts) → StmtsFormed rest → StmtsFormed (wrap rest)
  pub height : (rest : Stmts) → stmts_height rest ≤ room → stmts_height (wrap rest) ≤ room
  pub whole : (rest : Stmts) (k : ℕ) → StmtsStand toks rest place k → StmtsStand toks (wrap rest) at k
  pub ahead : (us : Stmts) (k : ℕ) → StmtsForm toks room at us k → (rest : Stmts) × (us ≡ wrap rest) × StmtsForm toks room place rest k

append_nil : {A : Type 0} (xs : List A) → xs ++ [] ≡ xs
append_nil [] = refl
append_nil (x ∷ xs) = ap (λ z. x ∷ z) (append_nil xs)

module _ (toks : List Tok) (room at : ℕ) where
  pub list_start : (ns : List Node) (list : List NodeId) → list ≡ [] → Gathered toks room at ns list at
  list_start ns list e = record {
    wrap = λ rest. rest;
    used = [];
    show = λ ns' k rest more vs h. subst (λ (z : List NodeId). StmtsShow ns' rest (z ++ more) vs) (sym e) h;
    formed = λ rest h. h;
    height = λ rest h. h;
    whole = λ rest k s. s;
    ahead = λ us k g. (us, refl, g);
  }

  end_here : (place : ℕ) → is_closer (token_at toks place) ≡ true → (rest : Stmts) (k : ℕ) → StmtsForm toks room place rest k → (rest ≡ NoStmt) × (k ≡ place)
  end_here place close NoStmt k g = (refl, g.stands)
  end_here place close (MoreStmts s rest) k g = absurd (no_start toks s place g.stands.0 close g.stands.1)

  pub list_end : (ns : List Node) (list : List NodeId) (place : ℕ) (p : Listed) → Gathered toks room at ns list place → is_closer (token_at toks place) ≡ true → p.list ≡ list → p.next ≡ place → FindsStmts toks room at ns p
  list_end ns list place p l close made next = record {
    trees = l.wrap NoStmt;
    used = l.used ++ [];
    shows = subst (λ (z : List NodeId). StmtsShow ns (l.wrap NoStmt) z (l.used ++ [])) (append_nil list ∙ sym made) (l.show ns (keeps_self ns) NoStmt [] [] (refl, refl));
    form = record {
      formed = l.formed NoStmt tt;
      height = l.height NoStmt (omega arith);
      stands = subst (λ (z : ℕ). StmtsStand toks (l.wrap NoStmt) at z) (sym next) (l.whole NoStmt place refl);
      closes = subst (λ (z : ℕ). is_closer (token_at toks z) ≡ true) (sym next) close;
    };
    only = λ us m g.
        (let a = l.ahead us m g in
        let c = end_here place close a.0 m a.2 in
        (a.1 ∙ ap l.wrap c.0, c.1 ∙ sym next));
  }

  -- what stands behind a statement in a list ends it
  stopped : (s : Stmt) (rest : Stmts) (m k : ℕ) → StmtsStand toks rest m k → is_closer (token_at toks k) ≡ true → Stops toks m s
  stopped s NoStmt m k st close = close_stops toks m s (subst (λ (z : ℕ). is_closer (token_at toks z) ≡ true) st close)
  stopped s (MoreStmts t rest) m k st close = start_stops toks m s (starting toks t m st.0 st.1)

  -- a list that isn't closed has a statement
  some_stmt : (place : ℕ) → is_closer (token_at toks place) ≡ false → (rest : Stmts) (k : ℕ) → StmtsForm toks room place rest k
      → (s : Stmt) × (more : Stmts) × (m : ℕ) × (rest ≡ MoreStmts s more) × StmtReading toks room place s m × Stops toks m s × StmtsForm toks room m more k
  some_stmt place go NoStmt k g = absurd (let q : is_closer (token_at toks k) ≡ is_closer (token_at toks place) = ap (λ (z : ℕ). is_closer (token_at toks z)) g.stands in let c = g.closes in cc)
  some_stmt place go (MoreStmts s more) k g = (
    s,
    more,
    g.stands.0,
    refl,
    record { formed = g.formed.0; height = (let h = g.height in omega arith); stands = g.stands.1 },
    stopped s more g.stands.0 k g.stands.2 g.closes,
    record { formed = g.formed.1; height = (let h = g.height in omega arith); stands = g.stands.2; closes = g.closes },
  )

  module _ (ns : List Node) (list : List NodeId) (place : ℕ) (l : Gathered toks room at ns list place) (go : is_closer (token_at toks place) ≡ false) where
    pub list_none : ((u : Stmt) (m : ℕ) → StmtReading toks room place u m → Stops toks m u → ⊥) → (us : Stmts) (m : ℕ) → StmtsForm toks room at us m → ⊥
    list_none none us m g = let a = l.ahead us m g in let b = some_stmt place go a.0 m a.2 in none b.0 b.2 b.4 b.5

    onward : (ns' : List Node) (p : Piece) (f : FindsStmt toks room place ns' p) (us : Stmts) (k : ℕ) → StmtsForm toks room at us k → (more : Stmts) × (us ≡ l.wrap (MoreStmts f.stmt more)) × StmtsForm toks room p.next more k
    onward ns' p f us k g =
        let a = l.ahead us k g in
        let b = some_stmt place go a.0 k a.2 in
        let s = f.only b.0 b.2 b.4 b.5 in
        (b.1, a.1 ∙ ap l.wrap b.3 ∙ ap (λ z. l.wrap (MoreStmts z b.1)) s.0, subst (λ (z : ℕ). StmtsForm toks room z b.1 k) s.1 b.6)

    pub list_more : (ns' : List Node) (p : Piece) (list' : List NodeId) → Keeps ns ns' → FindsStmt toks room place ns' p → list' ≡ list ++ p.node ∷ [] → Gathered toks room at ns' list' p.next
    list_more ns' p list' k f made = record {
      wrap = λ rest. l.wrap (MoreStmts f.stmt rest);
      used = l.used ++ f.used;
      show = λ ns2 k2 rest more vs h.
          subst (λ (z : List NodeId). StmtsShow ns2 (l.wrap (MoreStmts f.stmt rest)) (z ++ more) ((l.used ++ f.used) ++ vs)) (sym made)
          (rw (append_assoc, append_assoc)
          (l.show ns2 (keeps_both ns ns' ns2 k k2) (MoreStmts f.stmt rest) (p.node ∷ more) (f.used ++ vs) (p.node, more, f.used, vs, refl, refl, stmt_kept ns' ns2 k2 f.stmt p.node f.used f.shows, h)));
      formed = λ rest h. l.formed (MoreStmts f.stmt rest) (f.reading.formed, h);
      height = λ rest h. l.height (MoreStmts f.stmt rest) (let z = f.reading.height in omega arith);
      whole = λ rest n s. l.whole (MoreStmts f.stmt rest) n (p.next, f.reading.stands, s);
      ahead = λ us n g. onward ns' p f us n g;
    }

-- ---- blocks

block_list : (toks : List Tok) (room i : ℕ) (us : Stmts) (m : ℕ) (g : BlockForm toks room i us m) → StmtsForm toks (room - 1) (i + 1) us g.close
block_list toks room i us m g = record { formed = g.formed; height = (let h = g.height in omega arith); stands = g.stands; closes = ap is_closer g.closes }

pub block_found : (toks : List Tok) (room i : ℕ) (ns new : List Node) (p : Listed) (node : NodeId) → 0 < room → HasSign toks i signs.OpenBrace → FindsStmts toks (room - 1) (i + 1) ns p → HasSign toks p.next signs.CloseBrace → Keeps ns new → Has new node (nodes.Block p.list)
    → FindsBlock toks room i new (record { node = node; next = p.next + 1 })
block_found toks room i ns new p node below opened f closed k has = record {
  trees = f.trees;
  list = p.list;
  used = f.used;
  has = has;
  shows = stmts_kept ns new k f.trees p.list f.used f.shows;
  form = record { close = p.next; opens = opened; formed = f.form.formed; height = (let h = f.form.height in omega arith); stands = f.form.stands; closes = closed; ends = refl };
  only = λ us m g. (let a = f.only us g.close (block_list toks room i us m g) in (a.0, g.ends ∙ ap (λ z. z + 1) a.1));
}

pub block_none : (toks : List Tok) (room i : ℕ) → ((us : Stmts) (m : ℕ) → StmtsForm toks (room - 1) (i + 1) us m → ⊥) → (us : Stmts) (m : ℕ) → BlockForm toks room i us m → ⊥
block_none toks room i none us m g = none us g.close (block_list toks room i us m g)

pub block_open : (toks : List Tok) (room i : ℕ) (ns : List Node) (p : Listed) → FindsStmts toks (room - 1) (i + 1) ns p → (HasSign toks p.next signs.CloseBrace → ⊥) → (us : Stmts) (m : ℕ) → BlockForm toks room i us m → ⊥
block_open toks room i ns p f nay us m g = nay (subst (λ (z : ℕ). HasSign toks z signs.CloseBrace) (f.only us g.close (block_list toks room i us m g)).1 g.closes)

-- a block as a statement
record BracedForm (toks : List Tok) (room i : ℕ) (u : Stmt) (n : ℕ) : Type 0 where
  body : Stmts
  is : u ≡ Block body
  form : BlockForm toks room i body n

only_block : (toks : List Tok) (room i : ℕ) (u : Stmt) (m : ℕ) → kind_of_stmt u ≡ kinds.Block → StmtReading toks room i u m → BracedForm toks room i u m
only_block toks room i (Block body) m k r = record {
  body = body;
  is = refl;
  form = record { close = r.stands.0; opens = r.stands.1; formed = r.formed; height = (let h = r.height in omega arith); stands = r.stands.2; closes = r.stands.3; ends = r.stands.4 };
}
only_block toks room i _ m k r = absurd cc

pub braced_found : (toks : List Tok) (room i : ℕ) (ns : List Node) (p : Spot) → KindIs toks i kinds.Block → FindsBlock toks room i ns p → FindsStmt toks room i ns (record { node = p.node; next = p.next; is_open = false })
braced_found toks room i ns p k f = record {
  stmt = Block f.trees;
  used = p.node.0 ∷ f.used;
  shows = (f.list, f.used, f.has, refl, f.shows);
  is_open = refl;
  reading = record { formed = f.form.formed; height = (let h = f.form.height in omega arith); stands = (f.form.close, f.form.opens, f.form.stands, f.form.closes, f.form.ends) };
  only = λ u m r s.
      (let x = only_block toks room i u m (of_kind toks room i _ k u m r s) r in
      let a = f.only x.body m x.form in
      (x.is ∙ ap Block a.0, a.1));
}

pub braced_none : (toks : List Tok) (room i : ℕ) → KindIs toks i kinds.Block → ((us : Stmts) (m : ℕ) → BlockForm toks room i us m → ⊥) → (u : Stmt) (m : ℕ) → StmtReading toks room i u m → Stops toks m u → ⊥
braced_none toks room i k none u m r s = let x = only_block toks room i u m (of_kind toks room i _ k u m r s) r in none x.body m x.form
