-- `if`s behind each other's `else`s, which a loop makes from the last to the first.
use Rattle.std.proofs.Common.{◌≡◌, ℕ, ◌-◌, take, ◌<◌, ◌≤◌, List, [], ◌∷◌, ◌++◌, Some, refl, sym, ap, ◌∙◌, subst, arith}
use Rattle.wjs_base.specs.declared.ids.NodeId.{NodeId}
use Rattle.wjs_tree.specs.declared.node.Node.{Node}
use Rattle.wjs_tree.specs.declared.node.Node.TheVariants as nodes
use Rattle.wjs_tree.specs.Trees.{Stmt, IfElse}
use Rattle.wjs_tree.specs.Shows.{Has, Shows, StmtShows, Keeps}
use Rattle.wjs_tree.proofs.Kept.{kept, stmt_kept}
use Rattle.wjs_parse_stmt.specs.declared.parts.Branch.{Branch}
use Rattle.wjs_parse_stmt.specs.Chains.{Head, chain, HeadsShow, BranchesBelow, IsChained}

pub heads_kept : (a b : List Node) → Keeps a b → (hs : List Head) (list : List Branch) → HeadsShow a hs list → HeadsShow b hs list
heads_kept a b k [] list h = h
heads_kept a b k (x ∷ hs) list h = (h.0, h.1, h.2, h.3, h.4, kept a b k x.test h.0.test h.2 h.5, stmt_kept a b k x.body h.0.body h.3 h.6, heads_kept a b k hs h.1 h.7)

pub chain_last : (hs : List Head) (h : Head) (s : Stmt) → chain (hs ++ h ∷ []) s ≡ chain hs (IfElse h.test h.body s)
chain_last [] h s = refl
chain_last (x ∷ hs) h s = ap (IfElse x.test x.body) (chain_last hs h s)

-- one more head
pub heads_last : (ns : List Node) (hs : List Head) (list : List Branch) (h : Head) (b : Branch) (us vs : List ℕ) → HeadsShow ns hs list → Shows ns h.test b.test us → StmtShows ns h.body b.body vs → HeadsShow ns (hs ++ h ∷ []) (list ++ b ∷ [])
heads_last ns [] list h b us vs s t u = (b, [], us, vs, ap (λ z. z ++ b ∷ []) s, t, u, refl)
heads_last ns (x ∷ hs) list h b us vs s t u = (s.0, s.1 ++ b ∷ [], s.2, s.3, ap (λ z. z ++ b ∷ []) s.4, s.5, s.6, heads_last ns hs s.1 h b us vs s.7 t u)

-- the last head and those before it
record Split (ns : List Node) (hs : List Head) (rest : List Branch) (b : Branch) : Type 0 where
  before : List Head
  head : Head
  test_used : List ℕ
  body_used : List ℕ
  is : hs ≡ before ++ head ∷ []
  heads : HeadsShow ns before rest
  test : Shows ns head.test b.test test_used
  body : StmtShows ns head.body b.body body_used

cons_same : {A : Type 0} (x y : A) (xs ys : List A) → x ∷ xs ≡ y ∷ ys → (x ≡ y) × (xs ≡ ys)
cons_same x y xs ys h = (cc, cc)

split : (ns : List Node) (hs : List Head) (rest : List Branch) (b : Branch) → HeadsShow ns hs (rest ++ b ∷ []) → Split ns hs rest b
split ns [] [] b h = absurd cc
split ns [] (c ∷ rest) b h = absurd cc
split ns (x ∷ []) [] b h =
    let e = cons_same b h.0 [] h.1 h.4 in
    record {
      before = [];
      head = x;
      test_used = h.2;
      body_used = h.3;
      is = refl;
      heads = refl;
      test = subst (λ (z : Branch). Shows ns x.test z.test h.2) (sym e.0) h.5;
      body = subst (λ (z : Branch). StmtShows ns x.body z.body h.3) (sym e.0) h.6;
    }
split ns (x ∷ y ∷ hs) [] b h = absurd (let e = cons_same b h.0 [] h.1 h.4 in let k = h.7.4 in let q = e.1 in cc)
split ns (x ∷ hs) (c ∷ rest) b h =
    let e = cons_same c h.0 (rest ++ b ∷ []) h.1 h.4 in
    let s = split ns hs rest b (subst (λ (z : List Branch). HeadsShow ns hs z) (sym e.1) h.7) in
    record {
      before = x ∷ s.before;
      head = s.head;
      test_used = s.test_used;
      body_used = s.body_used;
      is = ap (λ z. x ∷ z) s.is;
      heads = (c, rest, h.2, h.3, refl, subst (λ (z : Branch). Shows ns x.test z.test h.2) (sym e.0) h.5, subst (λ (z : Branch). StmtShows ns x.body z.body h.3) (sym e.0) h.6, s.heads);
      test = s.test;
      body = s.body;
    }

-- what is left to make, and what is made
pub record Built (ns : List Node) (left : List Branch) (node : NodeId) (u : Stmt) : Type 0 where
  pub heads : List Head
  pub stmt : Stmt
  pub used : List ℕ
  pub shows : HeadsShow ns heads left
  pub stmt_shows : StmtShows ns stmt node used
  pub is : chain heads stmt ≡ u

pub record Building (old : List Node) (all : List Branch) (last : NodeId) (now : List Node) (left : List Branch) (node : NodeId) : Type 0 where
  pub builds : (hs : List Head) (s : Stmt) (us : List ℕ) → HeadsShow old hs all → StmtShows old s last us → Built now left node (chain hs s)

pub build_start : (old : List Node) (all : List Branch) (last : NodeId) → Building old all last old all last
build_start old all last = record { builds = λ hs s us h t. record { heads = hs; stmt = s; used = us; shows = h; stmt_shows = t; is = refl } }

one_more : (now new : List Node) (rest : List Branch) (b : Branch) (node node' : NodeId) (u : Stmt) → Keeps now new → Has new node' (nodes.If b.test b.body (Some node)) → Built now (rest ++ b ∷ []) node u → Built new rest node' u
one_more now new rest b node node' u k has p =
    let s = split now p.heads rest b p.shows in
    record {
      heads = s.before;
      stmt = IfElse s.head.test s.head.body p.stmt;
      used = node'.0 ∷ (s.test_used ++ (s.body_used ++ p.used));
      shows = heads_kept now new k s.before rest s.heads;
      stmt_shows = (b.test, b.body, node, s.test_used, s.body_used, p.used, has, refl, kept now new k s.head.test b.test s.test_used s.test, stmt_kept now new k s.head.body b.body s.body_used s.body, stmt_kept now new k p.stmt node p.used p.stmt_shows);
      is = sym (chain_last s.before s.head p.stmt) ∙ ap (λ z. chain z p.stmt) (sym s.is) ∙ p.is;
    }

pub build_more : (old : List Node) (all : List Branch) (last : NodeId) (now new : List Node) (left rest : List Branch) (b : Branch) (node node' : NodeId) → Building old all last now left node → left ≡ rest ++ b ∷ [] → Keeps now new → Has new node' (nodes.If b.test b.body (Some node))
    → Building old all last new rest node'
build_more old all last now new left rest b node node' p e k has = record {
  builds = λ hs s us h t. one_more now new rest b node node' (chain hs s) k has (subst (λ (z : List Branch). Built now z node (chain hs s)) e (p.builds hs s us h t));
}

none_left : (ns : List Node) (hs : List Head) → HeadsShow ns hs [] → hs ≡ []
none_left ns [] h = refl
none_left ns (x ∷ hs) h = absurd (let e = h.4 in cc)

pub build_done : (old : List Node) (all : List Branch) (last : NodeId) (now : List Node) (left : List Branch) (node : NodeId) → Building old all last now left node → left ≡ [] → IsChained old all last now node
build_done old all last now left node p e = record {
  shows = λ hs s us h t. finish (chain hs s) (p.builds hs s us h t);
}
  where
    finish : (u : Stmt) → Built now left node u → (vs : List ℕ) × StmtShows now u node vs
    finish u b =
        let n = none_left now b.heads (subst (λ (z : List Branch). HeadsShow now b.heads z) e b.shows) in
        let q : b.stmt ≡ u = ap (λ z. chain z b.stmt) (sym n) ∙ b.is in
        (b.used, subst (λ (z : Stmt). StmtShows now z node b.used) q b.stmt_shows)

-- children
pub branches_more : (n m : ℕ) (list : List Branch) → n ≤ m → BranchesBelow n list → BranchesBelow m list
branches_more n m [] le h = tt
branches_more n m (b ∷ rest) le h = ((let q = h.0 in omega arith), (let q = h.1 in omega arith), branches_more n m rest le h.2)

pub branches_last : (n m : ℕ) (list : List Branch) (b : Branch) → n ≤ m → b.test.0 < m → b.body.0 < m → BranchesBelow n list → BranchesBelow m (list ++ b ∷ [])
branches_last n m [] b le t u h = (t, u, tt)
branches_last n m (x ∷ rest) b le t u h = ((let q = h.0 in omega arith), (let q = h.1 in omega arith), branches_last n m rest b le t u h.2)

pub branches_split : (n : ℕ) (list rest : List Branch) (b : Branch) → list ≡ rest ++ b ∷ [] → BranchesBelow n list → BranchesBelow n rest × (b.test.0 < n) × (b.body.0 < n)
branches_split n list rest b e h = go rest (subst (λ (z : List Branch). BranchesBelow n z) e h)
  where
    go : (rest : List Branch) → BranchesBelow n (rest ++ b ∷ []) → BranchesBelow n rest × (b.test.0 < n) × (b.body.0 < n)
    go [] h = (tt, h.0, h.1)
    go (x ∷ rest) h = let q = go rest h.2 in ((h.0, h.1, q.0), q.1, q.2)

-- nothing is left of a list that has no last element
pub popped_all : {A : Type 0} (xs ys : List A) (n : ℕ) → n ≡ 0 → ys ≡ take (n - 1) xs → xs ≡ ys ++ [] → xs ≡ []
popped_all xs ys n z r s = let e : n - 1 ≡ 0 = omega arith in let q : ys ≡ [] = r ∙ ap (λ (k : ℕ). take k xs) e in s ∙ ap (λ w. w ++ []) q
