-- `try`.
use Rattle.std.proofs.Common.{◌≡◌, ℕ, ◌+◌, ◌-◌, ◌<◌, ◌≤◌, ◌⊎◌, inl, inr, false, List, ◌∷◌, ◌++◌, Some, None, refl, sym, subst, arith}
use Rattle.wjs_base.specs.declared.ids.TextId.{TextId}
use Rattle.wjs_base.specs.declared.ids.NodeId.{NodeId}
use Rattle.wjs_tree.specs.declared.tokens.Token.{Token}
use Rattle.wjs_tree.specs.declared.tokens.Token.TheVariants as tokens
use Rattle.wjs_tree.specs.declared.signs.Sign.TheVariants as signs
use Rattle.wjs_tree.specs.declared.keys.Key.TheVariants as keys
use Rattle.wjs_tree.specs.declared.tokens.Tok.{Tok}
use Rattle.wjs_tree.specs.declared.node.Node.{Node}
use Rattle.wjs_tree.specs.declared.node.Node.TheVariants as nodes
use Rattle.wjs_tree.specs.Trees.{Stmts, Stmt, TryCatch, TryFinally, TryBoth}
use Rattle.wjs_tree.specs.Height.{stmts_height}
use Rattle.wjs_tree.specs.Formed.{StmtsFormed}
use Rattle.wjs_tree.specs.Ends.{HasToken, HasSign, HasKey}
use Rattle.wjs_tree.specs.Spelling.{StmtsStand}
use Rattle.wjs_tree.specs.Shows.{Has, Keeps}
use Rattle.wjs_tree.proofs.Kept.{stmts_kept, keeps_both}
use Rattle.wjs_parse_expr.proofs.Readings.{same_token}
use Rattle.wjs_parse_simple.specs.declared.kind.Kind.TheVariants as kinds
use Rattle.wjs_parse_simple.specs.declared.parts.Spot.{Spot}
use Rattle.wjs_parse_stmt.specs.declared.parts.Handled.{Handled}
use Rattle.wjs_parse_simple.specs.Kinds.{kind_of_stmt}
use Rattle.wjs_parse_simple.specs.Readings.{StmtReading, Stops}
use Rattle.wjs_parse_stmt.specs.Readings.{BlockForm, HandlerForm}
use Rattle.wjs_parse_simple.specs.Answers.{KindIs, FindsStmt}
use Rattle.wjs_parse_stmt.specs.Answers.{FindsBlock}
use Rattle.wjs_parse_stmt.specs.Branches.{FindsHandler}
use Rattle.wjs_parse_simple.proofs.Forms.{told, of_kind}

-- ---- `catch`

pub handler_found : (toks : List Tok) (room i : ℕ) (ns : List Node) (x : TextId) (p : Spot) → HasKey toks i keys.Catch → HasSign toks (i + 1) signs.OpenParen → HasToken toks (i + 2) (tokens.Word x) → HasSign toks (i + 3) signs.CloseParen → FindsBlock toks room (i + 4) ns p
    → FindsHandler toks room i ns (record { handler = record { name = x; block = p.node }; next = p.next })
handler_found toks room i ns x p key opened name closed f = record {
  trees = f.trees;
  list = f.list;
  used = f.used;
  has = f.has;
  shows = f.shows;
  form = record { key = key; opens = opened; name = name; closes = closed; block = f.form };
  only = λ y us m g.
      (let a = f.only us m g.block in
      let e : tokens.Word y ≡ tokens.Word x = same_token _ _ _ g.name name in
      let z : y ≡ x = cc in (z, a.0, a.1));
}

pub handler_no_block : (toks : List Tok) (room i : ℕ) → ((us : Stmts) (m : ℕ) → BlockForm toks room (i + 4) us m → ⊥) → (y : TextId) (us : Stmts) (m : ℕ) → HandlerForm toks room i y us m → ⊥
handler_no_block toks room i none y us m g = none us m g.block

pub handler_unnamed : (toks : List Tok) (room i : ℕ) → ((y : TextId) → HasToken toks (i + 2) (tokens.Word y) → ⊥) → (y : TextId) (us : Stmts) (m : ℕ) → HandlerForm toks room i y us m → ⊥
handler_unnamed toks room i none y us m g = none y g.name

pub handler_unopened : (toks : List Tok) (room i : ℕ) → (HasSign toks (i + 1) signs.OpenParen → ⊥) → (y : TextId) (us : Stmts) (m : ℕ) → HandlerForm toks room i y us m → ⊥
handler_unopened toks room i none y us m g = none g.opens

pub handler_unclosed : (toks : List Tok) (room i : ℕ) → (HasSign toks (i + 3) signs.CloseParen → ⊥) → (y : TextId) (us : Stmts) (m : ℕ) → HandlerForm toks room i y us m → ⊥
handler_unclosed toks room i none y us m g = none g.closes

-- ---- `try`

record CatchForm (toks : List Tok) (room i : ℕ) (u : Stmt) (n : ℕ) : Type 0 where
  body : Stmts
  name : TextId
  caught : Stmts
  place : ℕ
  is : u ≡ TryCatch body name caught
  block : BlockForm toks (room - 1) (i + 1) body place
  handler : HandlerForm toks (room - 1) place name caught n

record FinallyForm (toks : List Tok) (room i : ℕ) (u : Stmt) (n : ℕ) : Type 0 where
  body : Stmts
  last : Stmts
  place : ℕ
  is : u ≡ TryFinally body last
  block : BlockForm toks (room - 1) (i + 1) body place
  key : HasKey toks place keys.Finally
  final : BlockForm toks (room - 1) (place + 1) last n

record BothForm (toks : List Tok) (room i : ℕ) (u : Stmt) (n : ℕ) : Type 0 where
  body : Stmts
  name : TextId
  caught : Stmts
  last : Stmts
  place : ℕ
  middle : ℕ
  is : u ≡ TryBoth body name caught last
  block : BlockForm toks (room - 1) (i + 1) body place
  handler : HandlerForm toks (room - 1) place name caught middle
  key : HasKey toks middle keys.Finally
  final : BlockForm toks (room - 1) (middle + 1) last n

abbrev TryForm : List Tok → ℕ → ℕ → Stmt → ℕ → Type 0
TryForm toks room i u n = CatchForm toks room i u n ⊎ (FinallyForm toks room i u n ⊎ BothForm toks room i u n)

-- a block by its parts
block_at : (toks : List Tok) (room i j close : ℕ) (b : Stmts) → j ≡ i + 1 → HasSign toks i signs.OpenBrace → StmtsFormed b → stmts_height b + 1 ≤ room → StmtsStand toks b j close → HasSign toks close signs.CloseBrace → BlockForm toks room i b (close + 1)
block_at toks room i j close b e o w h s c = record { close = close; opens = o; formed = w; height = h; stands = subst (λ (z : ℕ). StmtsStand toks b z close) e s; closes = c; ends = refl }

-- `catch` by its parts, behind a brace
handler_at : (toks : List Tok) (room m k : ℕ) (x : TextId) (b : Stmts) → HasKey toks (m + 1) keys.Catch → HasSign toks (m + 2) signs.OpenParen → HasToken toks (m + 3) (tokens.Word x) → HasSign toks (m + 4) signs.CloseParen → HasSign toks (m + 5) signs.OpenBrace
    → StmtsFormed b → stmts_height b + 1 ≤ room → StmtsStand toks b (m + 6) k → HasSign toks k signs.CloseBrace → HandlerForm toks room (m + 1) x b (k + 1)
handler_at toks room m k x b key o name c o2 w h s c2 =
    let e1 : m + 2 ≡ (m + 1) + 1 = omega arith in
    let e2 : m + 3 ≡ (m + 1) + 2 = omega arith in
    let e3 : m + 4 ≡ (m + 1) + 3 = omega arith in
    let e4 : m + 5 ≡ (m + 1) + 4 = omega arith in
    let e5 : m + 6 ≡ ((m + 1) + 4) + 1 = omega arith in
    record {
      key = key;
      opens = subst (λ (z : ℕ). HasSign toks z signs.OpenParen) e1 o;
      name = subst (λ (z : ℕ). HasToken toks z (tokens.Word x)) e2 name;
      closes = subst (λ (z : ℕ). HasSign toks z signs.CloseParen) e3 c;
      block = block_at toks room ((m + 1) + 4) (m + 6) k b e5 (subst (λ (z : ℕ). HasSign toks z signs.OpenBrace) e4 o2) w h s c2;
    }

-- the last block by its parts, behind a brace
final_at : (toks : List Tok) (room m k : ℕ) (b : Stmts) → HasSign toks (m + 2) signs.OpenBrace → StmtsFormed b → stmts_height b + 1 ≤ room → StmtsStand toks b (m + 3) k → HasSign toks k signs.CloseBrace → BlockForm toks room ((m + 1) + 1) b (k + 1)
final_at toks room m k b o w h s c =
    let e1 : m + 2 ≡ (m + 1) + 1 = omega arith in
    let e2 : m + 3 ≡ ((m + 1) + 1) + 1 = omega arith in
    block_at toks room ((m + 1) + 1) (m + 3) k b e2 (subst (λ (z : ℕ). HasSign toks z signs.OpenBrace) e1 o) w h s c

only_try : (toks : List Tok) (room i : ℕ) (u : Stmt) (m : ℕ) → kind_of_stmt u ≡ kinds.Try → StmtReading toks room i u m → TryForm toks room i u m
only_try toks room i (TryCatch b x c) m k r =
    let e : i + 2 ≡ (i + 1) + 1 = omega arith in
    inl (record {
      body = b;
      name = x;
      caught = c;
      place = r.stands.0 + 1;
      is = refl;
      block = block_at toks (room - 1) (i + 1) (i + 2) r.stands.0 b e r.stands.3 r.formed.0 (let h = r.height in omega arith) r.stands.4 r.stands.5;
      handler = subst (λ (z : ℕ). HandlerForm toks (room - 1) (r.stands.0 + 1) x c z) (sym r.stands.13)
          (handler_at toks (room - 1) r.stands.0 r.stands.1 x c r.stands.6 r.stands.7 r.stands.8 r.stands.9 r.stands.10 r.formed.1 (let h = r.height in omega arith) r.stands.11 r.stands.12);
    })
only_try toks room i (TryFinally b f) m k r =
    let e : i + 2 ≡ (i + 1) + 1 = omega arith in
    inr (inl (record {
      body = b;
      last = f;
      place = r.stands.0 + 1;
      is = refl;
      block = block_at toks (room - 1) (i + 1) (i + 2) r.stands.0 b e r.stands.3 r.formed.0 (let h = r.height in omega arith) r.stands.4 r.stands.5;
      key = r.stands.6;
      final = subst (λ (z : ℕ). BlockForm toks (room - 1) ((r.stands.0 + 1) + 1) f z) (sym r.stands.10) (final_at toks (room - 1) r.stands.0 r.stands.1 f r.stands.7 r.formed.1 (let h = r.height in omega arith) r.stands.8 r.stands.9);
    }))
only_try toks room i (TryBoth b x c f) m k r =
    let e : i + 2 ≡ (i + 1) + 1 = omega arith in
    inr (inr (record {
      body = b;
      name = x;
      caught = c;
      last = f;
      place = r.stands.0 + 1;
      middle = r.stands.1 + 1;
      is = refl;
      block = block_at toks (room - 1) (i + 1) (i + 2) r.stands.0 b e r.stands.4 r.formed.0 (let h = r.height in omega arith) r.stands.5 r.stands.6;
      handler = handler_at toks (room - 1) r.stands.0 r.stands.1 x c r.stands.7 r.stands.8 r.stands.9 r.stands.10 r.stands.11 r.formed.1 (let h = r.height in omega arith) r.stands.12 r.stands.13;
      key = r.stands.14;
      final = subst (λ (z : ℕ). BlockForm toks (room - 1) ((r.stands.1 + 1) + 1) f z) (sym r.stands.18) (final_at toks (room - 1) r.stands.1 r.stands.2 f r.stands.15 r.formed.2 (let h = r.height in omega arith) r.stands.16 r.stands.17);
    }))
only_try toks room i _ m k r = absurd cc

-- the parts of a block, a `catch` and a last block at their places
block_stands : (toks : List Tok) (room i n : ℕ) (b : Stmts) (g : BlockForm toks room (i + 1) b n) → StmtsStand toks b (i + 2) g.close
block_stands toks room i n b g = let e : (i + 1) + 1 ≡ i + 2 = omega arith in subst (λ (z : ℕ). StmtsStand toks b z g.close) e g.stands

two_keys : (toks : List Tok) (i : ℕ) (a b : Token) → HasToken toks i a → HasToken toks i b → (a ≡ b → ⊥) → ⊥
two_keys toks i a b h g nay = nay (same_token _ a b h g)

module _ (toks : List Tok) (room i : ℕ) (kind : KindIs toks i kinds.Try) where
  try_form : (u : Stmt) (m : ℕ) → StmtReading toks room i u m → Stops toks m u → TryForm toks room i u m
  try_form u m r s = only_try toks room i u m (of_kind toks room i _ kind u m r s) r

  some_block : {X : Type 0} (u : Stmt) (m : ℕ) → ((us : Stmts) (n : ℕ) → BlockForm toks (room - 1) (i + 1) us n → X) → TryForm toks room i u m → X
  some_block u m go (inl x) = go x.body x.place x.block
  some_block u m go (inr (inl x)) = go x.body x.place x.block
  some_block u m go (inr (inr x)) = go x.body x.place x.block

  pub try_no_block : ((us : Stmts) (m : ℕ) → BlockForm toks (room - 1) (i + 1) us m → ⊥) → (u : Stmt) (m : ℕ) → StmtReading toks room i u m → Stops toks m u → ⊥
  try_no_block none u m r s = some_block u m none (try_form u m r s)

  module _ (a : List Node) (p : Spot) (f : FindsBlock toks (room - 1) (i + 1) a p) where
    at_key : (us : Stmts) (n : ℕ) → BlockForm toks (room - 1) (i + 1) us n → n ≡ p.next
    at_key us n g = (f.only us n g).1

    key_of : (k : Token) (us : Stmts) (n : ℕ) → BlockForm toks (room - 1) (i + 1) us n → HasToken toks n k → HasToken toks p.next k
    key_of k us n g h = subst (λ (z : ℕ). HasToken toks z k) (at_key us n g) h

    pub try_bare : (HasKey toks p.next keys.Catch → ⊥) → (HasKey toks p.next keys.Finally → ⊥) → (u : Stmt) (m : ℕ) → StmtReading toks room i u m → Stops toks m u → ⊥
    try_bare c d u m r s = pick (try_form u m r s)
      where
        pick : TryForm toks room i u m → ⊥
        pick (inl x) = c (key_of _ x.body x.place x.block x.handler.key)
        pick (inr (inl x)) = d (key_of _ x.body x.place x.block x.key)
        pick (inr (inr x)) = c (key_of _ x.body x.place x.block x.handler.key)

    -- with `finally` alone
    last_there : (us : Stmts) (m : ℕ) (b : Stmts) (n : ℕ) → BlockForm toks (room - 1) (i + 1) b n → BlockForm toks (room - 1) (n + 1) us m → BlockForm toks (room - 1) (p.next + 1) us m
    last_there us m b n g h = subst (λ (z : ℕ). BlockForm toks (room - 1) (z + 1) us m) (at_key b n g) h

    pub try_no_last : (HasKey toks p.next keys.Catch → ⊥) → ((us : Stmts) (m : ℕ) → BlockForm toks (room - 1) (p.next + 1) us m → ⊥) → (u : Stmt) (m : ℕ) → StmtReading toks room i u m → Stops toks m u → ⊥
    try_no_last c none u m r s = pick (try_form u m r s)
      where
        pick : TryForm toks room i u m → ⊥
        pick (inl x) = c (key_of _ x.body x.place x.block x.handler.key)
        pick (inr (inl x)) = none x.last m (last_there x.last m x.body x.place x.block x.final)
        pick (inr (inr x)) = c (key_of _ x.body x.place x.block x.handler.key)

    pub finally_found : (b new : List Node) (q : Spot) (node : NodeId) → 0 < room → (HasKey toks p.next keys.Catch → ⊥) → HasKey toks p.next keys.Finally → Keeps a b → FindsBlock toks (room - 1) (p.next + 1) b q → Keeps b new → Has new node (nodes.Try p.node None (Some q.node))
        → FindsStmt toks room i new (record { node = node; next = q.next; is_open = false })
    finally_found b new q node below c key k g k2 has =
        let e : p.next ≡ f.form.close + 1 = f.form.ends in
        let e2 : p.next + 1 ≡ f.form.close + 2 = omega arith in
        let e3 : (p.next + 1) + 1 ≡ f.form.close + 3 = omega arith in
        record {
          stmt = TryFinally f.trees g.trees;
          used = node.0 ∷ ((p.node.0 ∷ f.used) ++ (q.node.0 ∷ g.used));
          shows = (p.node, q.node, f.list, g.list, f.used, g.used, has, refl, k2.same p.node.0 _ (k.same p.node.0 _ f.has), stmts_kept a new (keeps_both a b new k k2) f.trees f.list f.used f.shows, k2.same q.node.0 _ g.has, stmts_kept b new k2 g.trees g.list g.used g.shows);
          is_open = refl;
          reading = record {
            formed = (f.form.formed, g.form.formed);
            height = (let h = f.form.height in let h2 = g.form.height in omega arith);
            stands = (
              f.form.close,
              g.form.close,
              told toks i _ kind,
              f.form.opens,
              block_stands toks (room - 1) i p.next f.trees f.form,
              f.form.closes,
              subst (λ (z : ℕ). HasKey toks z keys.Finally) e key,
              subst (λ (z : ℕ). HasSign toks z signs.OpenBrace) e2 g.form.opens,
              subst (λ (z : ℕ). StmtsStand toks g.trees z g.form.close) e3 g.form.stands,
              g.form.closes,
              g.form.ends,
            );
          };
          only = λ u m r s. pick u m (try_form u m r s);
        }
      where
        pick : (u : Stmt) (m : ℕ) → TryForm toks room i u m → (u ≡ TryFinally f.trees g.trees) × (m ≡ q.next)
        pick u m (inl x) = absurd (c (key_of _ x.body x.place x.block x.handler.key))
        pick u m (inr (inl x)) =
            let y = f.only x.body x.place x.block in
            let z = g.only x.last m (last_there x.last m x.body x.place x.block x.final) in
            ((let x1 = x.is in let x2 = y.0 in let x3 = z.0 in cc), z.1)
        pick u m (inr (inr x)) = absurd (c (key_of _ x.body x.place x.block x.handler.key))

    -- with `catch`
    handler_there : (x : TextId) (us : Stmts) (m : ℕ) (b : Stmts) (n : ℕ) → BlockForm toks (room - 1) (i + 1) b n → HandlerForm toks (room - 1) n x us m → HandlerForm toks (room - 1) p.next x us m
    handler_there x us m b n g h = subst (λ (z : ℕ). HandlerForm toks (room - 1) z x us m) (at_key b n g) h

    pub try_no_handler : HasKey toks p.next keys.Catch → ((x : TextId) (us : Stmts) (m : ℕ) → HandlerForm toks (room - 1) p.next x us m → ⊥) → (u : Stmt) (m : ℕ) → StmtReading toks room i u m → Stops toks m u → ⊥
    try_no_handler key none u m r s = pick (try_form u m r s)
      where
        pick : TryForm toks room i u m → ⊥
        pick (inl x) = none x.name x.caught m (handler_there x.name x.caught m x.body x.place x.block x.handler)
        pick (inr (inl x)) = two_keys toks p.next _ _ key (key_of _ x.body x.place x.block x.key) (λ q. cc)
        pick (inr (inr x)) = none x.name x.caught x.middle (handler_there x.name x.caught x.middle x.body x.place x.block x.handler)

    module _ (b : List Node) (h : Handled) (k : Keeps a b) (key : HasKey toks p.next keys.Catch) (g : FindsHandler toks (room - 1) p.next b h) where
      -- the parts of the `catch` at their places
      at_one : (t : Token) (n : ℕ) → HasToken toks (p.next + n) t → HasToken toks (f.form.close + (1 + n)) t
      at_one t n x = let e : p.next ≡ f.form.close + 1 = f.form.ends in let e2 : p.next + n ≡ f.form.close + (1 + n) = omega arith in subst (λ (z : ℕ). HasToken toks z t) e2 x

      -- without `finally`
      pub catch_found : (new : List Node) (node : NodeId) → 0 < room → (HasKey toks h.next keys.Finally → ⊥) → Keeps b new → Has new node (nodes.Try p.node (Some h.handler) None) → FindsStmt toks room i new (record { node = node; next = h.next; is_open = false })
      catch_found new node below nay k2 has =
          let e : p.next ≡ f.form.close + 1 = f.form.ends in
          let e5 : p.next + 4 ≡ f.form.close + 5 = omega arith in
          let e6 : (p.next + 4) + 1 ≡ f.form.close + 6 = omega arith in
          record {
            stmt = TryCatch f.trees h.handler.name g.trees;
            used = node.0 ∷ ((p.node.0 ∷ f.used) ++ (h.handler.block.0 ∷ g.used));
            shows = (p.node, h.handler.block, f.list, g.list, f.used, g.used, has, refl, k2.same p.node.0 _ (k.same p.node.0 _ f.has), stmts_kept a new (keeps_both a b new k k2) f.trees f.list f.used f.shows, k2.same h.handler.block.0 _ g.has, stmts_kept b new k2 g.trees g.list g.used g.shows);
            is_open = refl;
            reading = record {
              formed = (f.form.formed, g.form.block.formed);
              height = (let h1 = f.form.height in let h2 = g.form.block.height in omega arith);
              stands = (
                f.form.close,
                g.form.block.close,
                told toks i _ kind,
                f.form.opens,
                block_stands toks (room - 1) i p.next f.trees f.form,
                f.form.closes,
                subst (λ (z : ℕ). HasKey toks z keys.Catch) e key,
                at_one _ 1 g.form.opens,
                at_one _ 2 g.form.name,
                at_one _ 3 g.form.closes,
                subst (λ (z : ℕ). HasSign toks z signs.OpenBrace) e5 g.form.block.opens,
                subst (λ (z : ℕ). StmtsStand toks g.trees z g.form.block.close) e6 g.form.block.stands,
                g.form.block.closes,
                g.form.block.ends,
              );
            };
            only = λ u m r s. pick u m s (try_form u m r s);
          }
        where
          pick : (u : Stmt) (m : ℕ) → Stops toks m u → TryForm toks room i u m → (u ≡ TryCatch f.trees h.handler.name g.trees) × (m ≡ h.next)
          pick u m s (inl x) =
              let y = f.only x.body x.place x.block in
              let z = g.only x.name x.caught m (handler_there x.name x.caught m x.body x.place x.block x.handler) in
              ((let x1 = x.is in let x2 = y.0 in let x3 = z.0 in let x4 = z.1 in cc), z.2)
          pick u m s (inr (inl x)) = absurd (two_keys toks p.next _ _ key (key_of _ x.body x.place x.block x.key) (λ q. cc))
          pick u m s (inr (inr x)) =
              absurd (let z = g.only x.name x.caught x.middle (handler_there x.name x.caught x.middle x.body x.place x.block x.handler) in nay (subst (λ (w : ℕ). HasKey toks w keys.Finally) z.2 x.key))

      final_there : (u : Stmt) (m : ℕ) (x : BothForm toks room i u m) → BlockForm toks (room - 1) (h.next + 1) x.last m
      final_there u m x = subst (λ (z : ℕ). BlockForm toks (room - 1) (z + 1) x.last m) (g.only x.name x.caught x.middle (handler_there x.name x.caught x.middle x.body x.place x.block x.handler)).2 x.final

      -- `finally` behind a `catch` belongs to it
      catch_alone : (u : Stmt) (m : ℕ) → HasKey toks h.next keys.Finally → Stops toks m u → CatchForm toks room i u m → ⊥
      catch_alone u m fin s x = s.no_finally (subst (λ (z : ℕ). HasKey toks z keys.Finally) (sym (g.only x.name x.caught m (handler_there x.name x.caught m x.body x.place x.block x.handler)).2) fin)

      pub both_no_last : HasKey toks h.next keys.Finally → ((us : Stmts) (m : ℕ) → BlockForm toks (room - 1) (h.next + 1) us m → ⊥) → (u : Stmt) (m : ℕ) → StmtReading toks room i u m → Stops toks m u → ⊥
      both_no_last fin none u m r s = pick (try_form u m r s)
        where
          pick : TryForm toks room i u m → ⊥
          pick (inl x) = catch_alone u m fin s x
          pick (inr (inl x)) = two_keys toks p.next _ _ key (key_of _ x.body x.place x.block x.key) (λ q. cc)
          pick (inr (inr x)) = none x.last m (final_there u m x)

      pub both_found : (c new : List Node) (q : Spot) (node : NodeId) → 0 < room → HasKey toks h.next keys.Finally → Keeps b c → FindsBlock toks (room - 1) (h.next + 1) c q → Keeps c new → Has new node (nodes.Try p.node (Some h.handler) (Some q.node))
          → FindsStmt toks room i new (record { node = node; next = q.next; is_open = false })
      both_found c new q node below fin k2 l k3 has =
          let e : p.next ≡ f.form.close + 1 = f.form.ends in
          let e5 : p.next + 4 ≡ f.form.close + 5 = omega arith in
          let e6 : (p.next + 4) + 1 ≡ f.form.close + 6 = omega arith in
          let d : h.next ≡ g.form.block.close + 1 = g.form.block.ends in
          let d2 : h.next + 1 ≡ g.form.block.close + 2 = omega arith in
          let d3 : (h.next + 1) + 1 ≡ g.form.block.close + 3 = omega arith in
          let kk = keeps_both b c new k2 k3 in
          record {
            stmt = TryBoth f.trees h.handler.name g.trees l.trees;
            used = node.0 ∷ ((p.node.0 ∷ f.used) ++ ((h.handler.block.0 ∷ g.used) ++ (q.node.0 ∷ l.used)));
            shows = (p.node, h.handler.block, q.node, f.list, g.list, l.list, f.used, g.used, l.used, has, refl, kk.same p.node.0 _ (k.same p.node.0 _ f.has), stmts_kept a new (keeps_both a b new k kk) f.trees f.list f.used f.shows, kk.same h.handler.block.0 _ g.has, stmts_kept b new kk g.trees g.list g.used g.shows, k3.same q.node.0 _ l.has, stmts_kept c new k3 l.trees l.list l.used l.shows);
            is_open = refl;
            reading = record {
              formed = (f.form.formed, g.form.block.formed, l.form.formed);
              height = (let h1 = f.form.height in let h2 = g.form.block.height in let h3 = l.form.height in omega arith);
              stands = (
                f.form.close,
                g.form.block.close,
                l.form.close,
                told toks i _ kind,
                f.form.opens,
                block_stands toks (room - 1) i p.next f.trees f.form,
                f.form.closes,
                subst (λ (z : ℕ). HasKey toks z keys.Catch) e key,
                at_one _ 1 g.form.opens,
                at_one _ 2 g.form.name,
                at_one _ 3 g.form.closes,
                subst (λ (z : ℕ). HasSign toks z signs.OpenBrace) e5 g.form.block.opens,
                subst (λ (z : ℕ). StmtsStand toks g.trees z g.form.block.close) e6 g.form.block.stands,
                g.form.block.closes,
                subst (λ (z : ℕ). HasKey toks z keys.Finally) d fin,
                subst (λ (z : ℕ). HasSign toks z signs.OpenBrace) d2 l.form.opens,
                subst (λ (z : ℕ). StmtsStand toks l.trees z l.form.close) d3 l.form.stands,
                l.form.closes,
                l.form.ends,
              );
            };
            only = λ u m r s. pick u m s (try_form u m r s);
          }
        where
          pick : (u : Stmt) (m : ℕ) → Stops toks m u → TryForm toks room i u m → (u ≡ TryBoth f.trees h.handler.name g.trees l.trees) × (m ≡ q.next)
          pick u m s (inl x) = absurd (catch_alone u m fin s x)
          pick u m s (inr (inl x)) = absurd (two_keys toks p.next _ _ key (key_of _ x.body x.place x.block x.key) (λ z. cc))
          pick u m s (inr (inr x)) =
              let y = f.only x.body x.place x.block in
              let z = g.only x.name x.caught x.middle (handler_there x.name x.caught x.middle x.body x.place x.block x.handler) in
              let w = l.only x.last m (final_there u m x) in
              ((let x1 = x.is in let x2 = y.0 in let x3 = z.0 in let x4 = z.1 in let x5 = w.0 in cc), w.1)
