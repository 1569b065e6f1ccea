-- Chains of `if`s made of nodes of their own, which a loop makes from the last to the first.
use Rattle.std.proofs.Common.{◌≡◌, ℕ, ◌≤◌, ◌⊎◌, inl, inr, List, [], ◌∷◌, ◌++◌, Some, refl, sym, ap, ◌∙◌, subst, arith, append_assoc}
use Rattle.wjs_base.specs.declared.ids.NodeId.{NodeId}
use Rattle.wjs_tree.specs.declared.tokens.Tok.{Tok}
use Rattle.wjs_tree.specs.declared.node.Node.{Node}
use Rattle.wjs_tree.specs.declared.node.Node.TheVariants as nodes
use Rattle.wjs_tree.specs.Trees.{IfElse}
use Rattle.wjs_tree.specs.Shows.{Shows, StmtShows, Keeps}
use Rattle.wjs_tree.specs.Used.{IsUsed, IsOnce, AreApart}
use Rattle.wjs_tree.proofs.Using.{used_cases, once_both}
use Rattle.wjs_tree.proofs.Kept.{kept, stmt_kept}
use Rattle.wjs_parse_expr.specs.declared.functions.Functions.{Functions}
use Rattle.wjs_parse_expr.specs.Table.{Holds}
use Rattle.wjs_parse_stmt.specs.declared.parts.Branch.{Branch}
use Rattle.wjs_parse_stmt.specs.Chains.{Head}
use Rattle.wjs_parse_simple.specs.Made.{Span, StmtMade}
use Rattle.wjs_parse_stmt.specs.Made.{BranchMade, HeadsUse, HeadsMade, ChainMade, IsWoven}
use Rattle.wjs_parse_simple.proofs.Spans.{Added, span_none, span_wide, span_both, span_top}

-- ---- the same numbers in another order

abbrev IsIn : List ℕ → List ℕ → Type 0
IsIn us vs = (n : ℕ) → IsUsed us n → IsUsed vs n

used_left : (us vs : List ℕ) → IsIn us (us ++ vs)
used_left (m ∷ us) vs n (inl e) = inl e
used_left (m ∷ us) vs n (inr h) = inr (used_left us vs n h)
used_left [] vs n h = absurd h

used_right : (us vs : List ℕ) → IsIn vs (us ++ vs)
used_right [] vs n h = h
used_right (m ∷ us) vs n h = inr (used_right us vs n h)

once_left : (us vs : List ℕ) → IsOnce (us ++ vs) → IsOnce us
once_left [] vs h = tt
once_left (m ∷ us) vs h = (λ u. h.0 (used_left us vs m u), once_left us vs h.1)

once_right : (us vs : List ℕ) → IsOnce (us ++ vs) → IsOnce vs
once_right [] vs h = h
once_right (m ∷ us) vs h = once_right us vs h.1

once_apart : (us vs : List ℕ) → IsOnce (us ++ vs) → AreApart us vs
once_apart (m ∷ us) vs h n (inl e) v = h.0 (used_right us vs m (subst (λ (z : ℕ). IsUsed vs z) e v))
once_apart (m ∷ us) vs h n (inr u) v = once_apart us vs h.1 n u v
once_apart [] vs h n u v = absurd u

-- one number put into the middle
once_between : (us vs : List ℕ) (m : ℕ) → IsOnce (m ∷ (us ++ vs)) → IsOnce (us ++ m ∷ vs)
once_between us vs m h =
    once_both us (m ∷ vs) (once_left us vs h.1) (λ u. h.0 (used_right us vs m u), once_right us vs h.1) (λ n u w. apart n u w)
  where
    apart : (n : ℕ) → IsUsed us n → IsUsed (m ∷ vs) n → ⊥
    apart n u (inl e) = h.0 (used_left us vs m (subst (λ (z : ℕ). IsUsed us z) e u))
    apart n u (inr w) = once_apart us vs h.1 n u w

in_between : (us vs : List ℕ) (m : ℕ) → IsIn (us ++ m ∷ vs) (m ∷ (us ++ vs))
in_between us vs m n h = sides (used_cases us (m ∷ vs) n h)
  where
    sides : IsUsed us n ⊎ IsUsed (m ∷ vs) n → IsUsed (m ∷ (us ++ vs)) n
    sides (inl u) = inr (used_left us vs n u)
    sides (inr (inl e)) = inl e
    sides (inr (inr v)) = inr (used_right us vs n v)

span_between : (functions : Functions) (old new : List Node) (i n : ℕ) (us vs : List ℕ) (m : ℕ) → Span functions old new i n (m ∷ (us ++ vs)) → Span functions old new i n (us ++ m ∷ vs)
span_between functions old new i n us vs m a = record {
  own = record { once = once_between us vs m a.own.once; each = λ k u. a.own.each k (in_between us vs m k u) };
  keeps = a.keeps;
  forward = a.forward;
}

-- ---- heads

heads_use_kept : (a b : List Node) → Keeps a b → (hs : List Head) (list : List Branch) (used : List ℕ) → HeadsUse a hs list used → HeadsUse b hs list used
heads_use_kept a b k [] list used h = h
heads_use_kept a b k (x ∷ hs) list used h =
    (h.0, h.1, h.2, h.3, h.4, h.5, h.6, kept a b k x.test h.0.test h.2 h.7, stmt_kept a b k x.body h.0.body h.3 h.8, heads_use_kept a b k hs h.1 h.4 h.9)

nil : {A : Type 0} (xs : List A) → xs ++ [] ≡ xs
nil [] = refl
nil (x ∷ xs) = ap (λ z. x ∷ z) (nil xs)

heads_use_last : (ns : List Node) (hs : List Head) (list : List Branch) (used : List ℕ) (h : Head) (b : Branch) (us vs : List ℕ) → HeadsUse ns hs list used → Shows ns h.test b.test us → StmtShows ns h.body b.body vs
    → HeadsUse ns (hs ++ h ∷ []) (list ++ b ∷ []) (used ++ (us ++ vs))
heads_use_last ns [] list used h b us vs s t u = (b, [], us, vs, [], ap (λ z. z ++ b ∷ []) s.0, ap (λ z. z ++ (us ++ vs)) s.1 ∙ sym (nil (us ++ vs)), t, u, (refl, refl))
heads_use_last ns (x ∷ hs) list used h b us vs s t u =
    (s.0, s.1 ++ b ∷ [], s.2, s.3, s.4 ++ (us ++ vs), ap (λ z. z ++ b ∷ []) s.5, ap (λ z. z ++ (us ++ vs)) s.6 ∙ append_assoc (s.2 ++ s.3) s.4 (us ++ vs), s.7, s.8, heads_use_last ns hs s.1 s.4 h b us vs s.9 t u)

pub heads_none : (functions : Functions) (ns : List Node) (i : ℕ) (list : List Branch) → list ≡ [] → HeadsMade functions ns ns i list i
heads_none functions ns i list e = record { heads = []; used = []; shows = (e, refl); span = span_none functions ns i }

pub heads_more : (toks : List Tok) (functions : Functions) (place room : ℕ) (n0 : List Node) → Holds toks functions place room n0 → (n1 n2 : List Node) (i j n : ℕ) (list list' : List Branch) (b : Branch)
    → HeadsMade functions n0 n1 i list j → b.next ≤ n → BranchMade functions n1 n2 j b → list' ≡ list ++ b ∷ [] → HeadsMade functions n0 n2 i list' n
heads_more toks functions place room n0 h n1 n2 i j n list list' b f le g e =
    let x : Head = record { test = g.test; body = g.tree } in
    let us : List ℕ = g.test_used ++ g.used in
    record {
      heads = f.heads ++ x ∷ [];
      used = f.used ++ us;
      shows = subst (λ (z : List Branch). HeadsUse n2 (f.heads ++ x ∷ []) z (f.used ++ us)) (sym e)
          (heads_use_last n2 f.heads list f.used x b g.test_used g.used (heads_use_kept n1 n2 g.span.keeps f.heads list f.used f.shows) g.test_shows g.shows);
      span = wider (span_both toks functions place room n0 h n1 n2 i j j b.next f.used us f.span (omega arith) g.span);
    }
  where
    wider : Span functions n0 n2 i b.next (f.used ++ (g.test_used ++ g.used)) → Span functions n0 n2 i n (f.used ++ (g.test_used ++ g.used))
    wider a = span_wide functions n0 n2 i i b.next n (f.used ++ (g.test_used ++ g.used)) (omega arith) le a

-- heads and the last statement behind them
pub chain_begun : (toks : List Tok) (functions : Functions) (place room : ℕ) (n0 : List Node) → Holds toks functions place room n0 → (n1 n2 : List Node) (i j n : ℕ) (list : List Branch) (node : NodeId)
    → HeadsMade functions n0 n1 i list j → StmtMade functions n1 n2 j node n → ChainMade functions n0 n2 i list node n
chain_begun toks functions place room n0 h n1 n2 i j n list node f g = record {
  heads = f.heads;
  tree = g.tree;
  heads_used = f.used;
  used = g.used;
  heads_show = heads_use_kept n1 n2 g.span.keeps f.heads list f.used f.shows;
  shows = g.shows;
  span = span_both toks functions place room n0 h n1 n2 i j j n f.used g.used f.span (omega arith) g.span;
}

-- the last head and those before it
record Split (ns : List Node) (used : List ℕ) (rest : List Branch) (b : Branch) : Type 0 where
  before : List Head
  before_used : List ℕ
  head : Head
  test_used : List ℕ
  body_used : List ℕ
  is : used ≡ before_used ++ (test_used ++ body_used)
  heads : HeadsUse ns before rest before_used
  test : Shows ns head.test b.test test_used
  body : StmtShows ns head.body b.body body_used

cons_same : {A : Type 0} (x y : A) (xs ys : List A) → x ∷ xs ≡ y ∷ ys → (x ≡ y) × (xs ≡ ys)
cons_same x y xs ys h = (cc, cc)

split : (ns : List Node) (hs : List Head) (used : List ℕ) (rest : List Branch) (b : Branch) → HeadsUse ns hs (rest ++ b ∷ []) used → Split ns used rest b
split ns [] used [] b h = absurd (let e = h.0 in cc)
split ns [] used (c ∷ rest) b h = absurd (let e = h.0 in cc)
split ns (x ∷ []) used [] b h =
    let e = cons_same b h.0 [] h.1 h.5 in
    record {
      before = [];
      before_used = [];
      head = x;
      test_used = h.2;
      body_used = h.3;
      is = h.6 ∙ ap (λ z. (h.2 ++ h.3) ++ z) h.9.1 ∙ nil (h.2 ++ h.3);
      heads = (refl, refl);
      test = subst (λ (z : Branch). Shows ns x.test z.test h.2) (sym e.0) h.7;
      body = subst (λ (z : Branch). StmtShows ns x.body z.body h.3) (sym e.0) h.8;
    }
split ns (x ∷ y ∷ hs) used [] b h = absurd (let e = cons_same b h.0 [] h.1 h.5 in let k = h.9.5 in let q = e.1 in cc)
split ns (x ∷ hs) used (c ∷ rest) b h =
    let e = cons_same c h.0 (rest ++ b ∷ []) h.1 h.5 in
    let s = split ns hs h.4 rest b (subst (λ (z : List Branch). HeadsUse ns hs z h.4) (sym e.1) h.9) in
    record {
      before = x ∷ s.before;
      before_used = (h.2 ++ h.3) ++ s.before_used;
      head = s.head;
      test_used = s.test_used;
      body_used = s.body_used;
      is = h.6 ∙ ap (λ z. (h.2 ++ h.3) ++ z) s.is ∙ sym (append_assoc (h.2 ++ h.3) s.before_used (s.test_used ++ s.body_used));
      heads = (c, rest, h.2, h.3, s.before_used, refl, refl, subst (λ (z : Branch). Shows ns x.test z.test h.2) (sym e.0) h.7, subst (λ (z : Branch). StmtShows ns x.body z.body h.3) (sym e.0) h.8, s.heads);
      test = s.test;
      body = s.body;
    }

-- ---- the loop

pub record Weaving (old : List Node) (all : List Branch) (last : NodeId) (now : List Node) (left : List Branch) (node : NodeId) : Type 0 where
  pub made : (toks : List Tok) (functions : Functions) (place room : ℕ) (start : List Node) (i n : ℕ) → Holds toks functions place room start → ChainMade functions start old i all last n → ChainMade functions start now i left node n

pub weave_start : (old : List Node) (all : List Branch) (last : NodeId) → Weaving old all last old all last
weave_start old all last = record { made = λ toks functions place room start i n h f. f }

one_more : (now new : List Node) (rest : List Branch) (b : Branch) (node node' : NodeId) → Added now new node' (nodes.If b.test b.body (Some node))
    → (toks : List Tok) (functions : Functions) (place room : ℕ) (start : List Node) (i n : ℕ) → Holds toks functions place room start → ChainMade functions start now i (rest ++ b ∷ []) node n → ChainMade functions start new i rest node' n
one_more now new rest b node node' d toks functions place room start i n h f =
    let s = split now f.heads f.heads_used rest b f.heads_show in
    let vs : List ℕ = s.test_used ++ (s.body_used ++ f.used) in
    let e : f.heads_used ++ f.used ≡ s.before_used ++ vs = ap (λ z. z ++ f.used) s.is ∙ append_assoc s.before_used (s.test_used ++ s.body_used) f.used ∙ ap (λ z. s.before_used ++ z) (append_assoc s.test_used s.body_used f.used) in
    let a : Span functions start now i n (s.before_used ++ vs) = subst (λ (z : List ℕ). Span functions start now i n z) e f.span in
    record {
      heads = s.before;
      tree = IfElse s.head.test s.head.body f.tree;
      heads_used = s.before_used;
      used = node'.0 ∷ vs;
      heads_show = heads_use_kept now new d.keeps s.before rest s.before_used s.heads;
      shows = (b.test, b.body, node, s.test_used, s.body_used, f.used, d.has, refl, kept now new d.keeps s.head.test b.test s.test_used s.test, stmt_kept now new d.keeps s.head.body b.body s.body_used s.body, stmt_kept now new d.keeps f.tree node f.used f.shows);
      span = span_between functions start new i n s.before_used vs node'.0 (span_top toks functions place room start h now new i i n n node' _ (s.before_used ++ vs) (omega arith) a (omega arith) d);
    }

pub weave_more : (old : List Node) (all : List Branch) (last : NodeId) (now new : List Node) (left rest : List Branch) (b : Branch) (node node' : NodeId) → Weaving old all last now left node → left ≡ rest ++ b ∷ [] → Added now new node' (nodes.If b.test b.body (Some node))
    → Weaving old all last new rest node'
weave_more old all last now new left rest b node node' p e d = record {
  made = λ toks functions place room start i n h f.
      one_more now new rest b node node' d toks functions place room start i n h (subst (λ (z : List Branch). ChainMade functions start now i z node n) e (p.made toks functions place room start i n h f));
}

no_use : (ns : List Node) (hs : List Head) (used : List ℕ) → HeadsUse ns hs [] used → used ≡ []
no_use ns [] used h = h.1
no_use ns (x ∷ hs) used h = absurd (let e = h.5 in cc)

pub weave_done : (old : List Node) (all : List Branch) (last : NodeId) (now : List Node) (left : List Branch) (node : NodeId) → Weaving old all last now left node → left ≡ [] → IsWoven old all last now node
weave_done old all last now left node p e = record {
  made = λ toks functions place room start i n h f. finish functions start i n (p.made toks functions place room start i n h f);
}
  where
    finish : (functions : Functions) (start : List Node) (i n : ℕ) → ChainMade functions start now i left node n → StmtMade functions start now i node n
    finish functions start i n f =
        let z = no_use now f.heads f.heads_used (subst (λ (w : List Branch). HeadsUse now f.heads w f.heads_used) e f.heads_show) in
        record { tree = f.tree; used = f.used; shows = f.shows; span = subst (λ (w : List ℕ). Span functions start now i n (w ++ f.used)) z f.span }
