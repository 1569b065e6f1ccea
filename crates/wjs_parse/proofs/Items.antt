-- Elements one behind another.
use Rattle.std.proofs.Common.{◌≡◌, ℕ, ◌+◌, ◌≤◌, true, false, List, [], ◌∷◌, ◌++◌, Some, refl, sym, ap, ◌∙◌, subst, arith, append_assoc}
use Rattle.wjs_base.specs.declared.ids.TextId.{TextId}
use Rattle.wjs_base.specs.declared.ids.NodeId.{NodeId}
use Rattle.wjs_tree.specs.declared.tokens.Token.TheVariants as tokens
use Rattle.wjs_tree.specs.declared.signs.Sign.TheVariants as signs
use Rattle.wjs_tree.specs.declared.keys.Key.TheVariants as keys
use Rattle.wjs_tree.specs.declared.tokens.Tok.{Tok}
use Rattle.wjs_tree.specs.declared.node.Node.{Node}
use Rattle.wjs_tree.specs.Trees.{Function, Stmt, Elements, NoElement, Statement, FunctionDecl}
use Rattle.wjs_tree.specs.Height.{elements_height}
use Rattle.wjs_tree.specs.Formed.{ElementsFormed}
use Rattle.wjs_tree.specs.Ends.{token_at, HasSign}
use Rattle.wjs_tree.specs.Spelling.{FormalsStand, Stands, ElementsStand}
use Rattle.wjs_tree.specs.Shows.{ElementsShow, Keeps}
use Rattle.wjs_tree.proofs.Kept.{stmt_kept, elements_kept, keeps_self, keeps_both}
use Rattle.wjs_parse_expr.specs.declared.found.Found.{Found}
use Rattle.wjs_parse_stmt.specs.declared.parts.Listed.{Listed}
use Rattle.wjs_parse_simple.specs.Readings.{Stops, is_closer}
use Rattle.wjs_parse_stmt.specs.Readings.{ElementsForm}
use Rattle.wjs_parse_simple.proofs.Forms.{starting, no_start, start_stops, close_stops}
use Rattle.wjs_parse.specs.Readings.{Element, Plain, Declared, before, element_height, ElementFormed, ElementStands, ElementShows, ElementReading, ElementStops}
use Rattle.wjs_parse.specs.Answers.{FindsElement, FindsElements}

-- The elements before a place are read, and each list goes through them.
pub record Gathered (toks : List Tok) (room at : ℕ) (ns : List Node) (list : List NodeId) (place : ℕ) : Type 0 where
  pub wrap : Elements → Elements
  pub used : List ℕ
  pub show : (ns' : List Node) → Keeps ns ns' → (rest : Elements) (more : List NodeId) (vs : List ℕ) → ElementsShow ns' rest more vs → ElementsShow ns' (wrap rest) (list ++ more) (used ++ vs)
  pub formed : (rest : Elements) → ElementsFormed rest → ElementsFormed (wrap rest)
  pub height : (rest : Elements) → elements_height rest ≤ room → elements_height (wrap rest) ≤ room
  pub whole : (rest : Elements) (k : ℕ) → ElementsStand toks rest place k → ElementsStand toks (wrap rest) at k
  pub ahead : (us : Elements) (k : ℕ) → ElementsForm toks room at us k → (rest : Elements) × (us ≡ wrap rest) × ElementsForm toks room place rest k

append_nil : {A : Type 0} (xs : List A) → xs ++ [] ≡ xs
append_nil [] = refl
append_nil (x ∷ xs) = ap (λ z. x ∷ z) (append_nil xs)

-- an element before others
pub before_show : (ns : List Node) (e : Element) (a : NodeId) (us : List ℕ) → ElementShows ns e a us → (rest : Elements) (more : List NodeId) (vs : List ℕ) → ElementsShow ns rest more vs → ElementsShow ns (before e rest) (a ∷ more) (us ++ vs)
before_show ns (Plain s) a us h rest more vs r = (a, more, us, vs, refl, refl, h, r)
before_show ns (Declared x formals body) a us h rest more vs r = (a, h.0, more, h.1, vs, refl, ap (λ z. z ++ vs) h.3, h.2, h.4, r)

element_kept : (a b : List Node) → Keeps a b → (e : Element) (i : NodeId) (used : List ℕ) → ElementShows a e i used → ElementShows b e i used
element_kept a b k (Plain s) i used h = stmt_kept a b k s i used h
element_kept a b k (Declared x formals body) i used h = (h.0, h.1, k.same i.0 _ h.2, h.3, elements_kept a b k body h.0 h.1 h.4)

before_formed : (e : Element) (rest : Elements) → ElementFormed e → ElementsFormed rest → ElementsFormed (before e rest)
before_formed (Plain s) rest f r = (f, r)
before_formed (Declared x formals body) rest f r = (f.0, f.1, r)

before_height : (e : Element) (rest : Elements) (room : ℕ) → element_height e ≤ room → elements_height rest ≤ room → elements_height (before e rest) ≤ room
before_height (Plain s) rest room f r = omega arith
before_height (Declared x formals body) rest room f r = omega arith

join : (toks : List Tok) (x : TextId) (formals : List TextId) (body rest : Elements) (i m n : ℕ) → Stands toks (Function (Some x) formals body) i m → ElementsStand toks rest m n → ElementsStand toks (FunctionDecl x formals body rest) i n
join toks x formals body rest i m n s r =
    let e : s.0 ≡ i + 2 = (let q = s.4.1 in omega arith) in
    let f : s.0 + 1 ≡ i + 3 = omega arith in (
      s.1,
      s.2,
      s.3,
      s.4.0,
      subst (λ (z : ℕ). HasSign toks z signs.OpenParen) e s.5,
      subst (λ (z : ℕ). FormalsStand toks formals z s.1) f s.6,
      s.7,
      s.8,
      s.9,
      s.10,
      subst (λ (z : ℕ). ElementsStand toks rest z n) s.11 r,
    )

split : (toks : List Tok) (x : TextId) (formals : List TextId) (body rest : Elements) (i n : ℕ) → ElementsStand toks (FunctionDecl x formals body rest) i n → (m : ℕ) × Stands toks (Function (Some x) formals body) i m × ElementsStand toks rest m n
split toks x formals body rest i n s =
    let e : i + 2 ≡ i + 1 + 1 = omega arith in
    let f : i + 3 ≡ i + 2 + 1 = omega arith in
    (s.1 + 1, (i + 2, s.0, s.1, s.2, (s.3, e), s.4, subst (λ (z : ℕ). FormalsStand toks formals z s.0) f s.5, s.6, s.7, s.8, s.9, refl), s.10)

before_stands : (toks : List Tok) (e : Element) (rest : Elements) (i m n : ℕ) → ElementStands toks e i m → ElementsStand toks rest m n → ElementsStand toks (before e rest) i n
before_stands toks (Plain s) rest i m n h r = (m, h, r)
before_stands toks (Declared x formals body) rest i m n h r = join toks x formals body rest i m n h r

module _ (toks : List Tok) (room at : ℕ) where
  pub list_start : (ns : List Node) (list : List NodeId) → list ≡ [] → Gathered toks room at ns list at
  list_start ns list e = record {
    wrap = λ rest. rest;
    used = [];
    show = λ ns' k rest more vs h. subst (λ (z : List NodeId). ElementsShow ns' rest (z ++ more) vs) (sym e) h;
    formed = λ rest h. h;
    height = λ rest h. h;
    whole = λ rest k s. s;
    ahead = λ us k g. (us, refl, g);
  }

  end_here : (place : ℕ) → is_closer (token_at toks place) ≡ true → (rest : Elements) (k : ℕ) → ElementsForm toks room place rest k → (rest ≡ NoElement) × (k ≡ place)
  end_here place close NoElement k g = (refl, g.stands)
  end_here place close (Statement s rest) k g = absurd (no_start toks s place g.stands.0 close g.stands.1)
  end_here place close (FunctionDecl x formals body rest) k g = absurd (let q : is_closer (token_at toks place) ≡ is_closer (Some (tokens.Key keys.Function)) = ap is_closer g.stands.2 in cc)

  pub list_end : (ns : List Node) (list : List NodeId) (place : ℕ) (p : Listed) → Gathered toks room at ns list place → is_closer (token_at toks place) ≡ true → p.list ≡ list → p.next ≡ place → FindsElements toks room at ns p
  list_end ns list place p l close made next = record {
    trees = l.wrap NoElement;
    used = l.used ++ [];
    shows = subst (λ (z : List NodeId). ElementsShow ns (l.wrap NoElement) z (l.used ++ [])) (append_nil list ∙ sym made) (l.show ns (keeps_self ns) NoElement [] [] (refl, refl));
    form = record {
      formed = l.formed NoElement tt;
      height = l.height NoElement (omega arith);
      stands = subst (λ (z : ℕ). ElementsStand toks (l.wrap NoElement) at z) (sym next) (l.whole NoElement place refl);
      closes = subst (λ (z : ℕ). is_closer (token_at toks z) ≡ true) (sym next) close;
    };
    only = λ us m g.
        (let a = l.ahead us m g in
        let c = end_here place close a.0 m a.2 in
        (a.1 ∙ ap l.wrap c.0, c.1 ∙ sym next));
  }

  -- what stands behind a statement among elements ends it
  stopped : (s : Stmt) (rest : Elements) (m k : ℕ) → ElementsStand toks rest m k → is_closer (token_at toks k) ≡ true → Stops toks m s
  stopped s NoElement m k st close = close_stops toks m s (subst (λ (z : ℕ). is_closer (token_at toks z) ≡ true) st close)
  stopped s (Statement t rest) m k st close = start_stops toks m s (starting toks t m st.0 st.1)
  stopped s (FunctionDecl x formals body rest) m k st close = start_stops toks m s (tokens.Key keys.Function, st.2, refl)

  -- elements that aren't closed have a first one
  some_element : (place : ℕ) → is_closer (token_at toks place) ≡ false → (rest : Elements) (k : ℕ) → ElementsForm toks room place rest k
      → (e : Element) × (more : Elements) × (m : ℕ) × (rest ≡ before e more) × ElementReading toks room place e m × ElementStops toks m e × ElementsForm toks room m more k
  some_element place go NoElement k g = absurd (let q : is_closer (token_at toks k) ≡ is_closer (token_at toks place) = ap (λ (z : ℕ). is_closer (token_at toks z)) g.stands in let c = g.closes in cc)
  some_element place go (Statement s more) k g = (
    Plain s,
    more,
    g.stands.0,
    refl,
    record { formed = g.formed.0; height = (let h = g.height in omega arith); stands = g.stands.1 },
    stopped s more g.stands.0 k g.stands.2 g.closes,
    record { formed = g.formed.1; height = (let h = g.height in omega arith); stands = g.stands.2; closes = g.closes },
  )
  some_element place go (FunctionDecl x formals body more) k g =
      let s = split toks x formals body more place k g.stands in (
        Declared x formals body,
        more,
        s.0,
        refl,
        record { formed = (g.formed.0, g.formed.1); height = (let h = g.height in omega arith); stands = s.1 },
        tt,
        record { formed = g.formed.2; height = (let h = g.height in omega arith); stands = s.2; closes = g.closes },
      )

  module _ (ns : List Node) (list : List NodeId) (place : ℕ) (l : Gathered toks room at ns list place) (go : is_closer (token_at toks place) ≡ false) where
    pub list_none : ((u : Element) (m : ℕ) → ElementReading toks room place u m → ElementStops toks m u → ⊥) → (us : Elements) (m : ℕ) → ElementsForm toks room at us m → ⊥
    list_none none us m g = let a = l.ahead us m g in let b = some_element place go a.0 m a.2 in none b.0 b.2 b.4 b.5

    onward : (ns' : List Node) (p : Found) (f : FindsElement toks room place ns' p) (us : Elements) (k : ℕ) → ElementsForm toks room at us k → (more : Elements) × (us ≡ l.wrap (before f.tree more)) × ElementsForm toks room p.next more k
    onward ns' p f us k g =
        let a = l.ahead us k g in
        let b = some_element place go a.0 k a.2 in
        let s = f.only b.0 b.2 b.4 b.5 in
        (b.1, a.1 ∙ ap l.wrap b.3 ∙ ap (λ z. l.wrap (before z b.1)) s.0, subst (λ (z : ℕ). ElementsForm toks room z b.1 k) s.1 b.6)

    pub list_more : (ns' : List Node) (p : Found) (list' : List NodeId) → Keeps ns ns' → FindsElement toks room place ns' p → list' ≡ list ++ p.node ∷ [] → Gathered toks room at ns' list' p.next
    list_more ns' p list' k f made = record {
      wrap = λ rest. l.wrap (before f.tree rest);
      used = l.used ++ f.used;
      show = λ ns2 k2 rest more vs h.
          subst (λ (z : List NodeId). ElementsShow ns2 (l.wrap (before f.tree rest)) (z ++ more) ((l.used ++ f.used) ++ vs)) (sym made)
          (rw (append_assoc, append_assoc)
          (l.show ns2 (keeps_both ns ns' ns2 k k2) (before f.tree rest) (p.node ∷ more) (f.used ++ vs) (before_show ns2 f.tree p.node f.used (element_kept ns' ns2 k2 f.tree p.node f.used f.shows) rest more vs h)));
      formed = λ rest h. l.formed (before f.tree rest) (before_formed f.tree rest f.reading.formed h);
      height = λ rest h. l.height (before f.tree rest) (before_height f.tree rest room f.reading.height h);
      whole = λ rest n s. l.whole (before f.tree rest) n (before_stands toks f.tree rest place p.next n f.reading.stands s);
      ahead = λ us n g. onward ns' p f us n g;
    }
