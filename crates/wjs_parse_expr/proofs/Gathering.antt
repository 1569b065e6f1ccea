-- Lists in brackets, which a loop reads one by one.
use Rattle.std.proofs.Common.{◌≡◌, ℕ, ◌+◌, ◌-◌, ◌<◌, ◌≤◌, ◌⊎◌, inl, inr, Bool, true, false, List, [], ◌∷◌, ◌++◌, Option, Some, None, refl, sym, ap, ◌∙◌, subst, arith, append_assoc}
use Rattle.wjs_base.specs.declared.ids.NodeId.{NodeId}
use Rattle.wjs_tree.specs.declared.tokens.Token.TheVariants as tokens
use Rattle.wjs_tree.specs.declared.signs.Sign.{Sign}
use Rattle.wjs_tree.specs.declared.signs.Sign.TheVariants as signs
use Rattle.wjs_tree.specs.declared.tokens.Tok.{Tok}
use Rattle.wjs_tree.specs.declared.node.Node.{Node}
use Rattle.wjs_tree.specs.Trees.{Expr, Arguments, NoArgument, Argument, Items, NoItem, Hole, Item, LastItem}
use Rattle.wjs_tree.specs.Height.{arguments_height, items_height}
use Rattle.wjs_tree.specs.Formed.{ArgumentsFormed, ItemsFormed}
use Rattle.wjs_tree.specs.Ends.{token_at, HasSign}
use Rattle.wjs_tree.specs.Spelling.{Stands, ArgumentsStand, MoreArgumentsStand, ItemsStand}
use Rattle.wjs_tree.specs.Shows.{ArgumentsShow, ItemsShow, has_tail, Keeps}
use Rattle.wjs_tree.proofs.Kept.{kept, keeps_both, keeps_self}
use Rattle.wjs_parse_expr.specs.declared.parts.Part.{Part}
use Rattle.wjs_parse_expr.specs.declared.parts.Listed.{Listed}
use Rattle.wjs_parse_expr.specs.declared.parts.ListedItems.{ListedItems}
use Rattle.wjs_parse_expr.specs.Reach.{reach, sign_reach}
use Rattle.wjs_parse_expr.specs.Readings.{Reading, Continues}
use Rattle.wjs_parse_expr.specs.Steps.{Listing, ItemsListing}
use Rattle.std.proofs.lemmas.List.{append-nil}
use Rattle.wjs_parse_expr.specs.Table.{Owns}
use Rattle.wjs_parse_expr.proofs.Owning.{own_none, own_later}
use Rattle.wjs_parse_expr.specs.Answers.{Origin, Finds, Lists, FindsItems}
use Rattle.wjs_parse_expr.proofs.Unaries.{never_begins}
use Rattle.wjs_parse_expr.proofs.Suffixes.{two_signs}

-- an element before a comma or a closing bracket is the one that is read, since neither continues it
pub same_element : (o : Origin) (toks : List Tok) (room place : ℕ) (ns : List Node) (item : Part) (f : Finds o toks 1 false room place ns item) (u : Expr) (m : ℕ) (s : Sign) → HasSign toks m s → sign_reach s ≤ 1 → Reading toks 1 false room place u m
    → (u ≡ f.tree) × (m ≡ item.next)
same_element o toks room place ns item f u m s sign low r = pick (f.best.longest u m r)
  where
    pick : ((u ≡ f.tree) × (m ≡ item.next)) ⊎ ((m < item.next) × Continues toks 1 false u m) → (u ≡ f.tree) × (m ≡ item.next)
    pick (inl e) = e
    pick (inr l) = absurd (let h : reach false (token_at toks m) ≡ sign_reach s = ap (reach false) sign in let z = l.1.0 in omega arith)

-- ---- arguments

-- an argument at a place, and what follows it
pub record Tail (toks : List Tok) (room place : ℕ) (u : Expr) (rest : Arguments) (m k : ℕ) : Type 0 where
  pub first : Reading toks 1 false (room - 1) place u m
  pub rest_formed : ArgumentsFormed rest
  pub rest_height : arguments_height rest + 1 ≤ room
  pub rest_stands : MoreArgumentsStand toks rest m k

-- The arguments before a place are read, and each list of arguments goes through them and has more.
pub record Gathered (o : Origin) (toks : List Tok) (room at : ℕ) (ns : List Node) (list : List NodeId) (place : ℕ) : Type 0 where
  pub wrap : Arguments → Arguments
  pub used : List ℕ
  pub show : (ns' : List Node) → Keeps ns ns' → (rest : Arguments) (more : List NodeId) (vs : List ℕ) → ArgumentsShow ns' rest more vs → ArgumentsShow ns' (wrap rest) (list ++ more) (used ++ vs)
  pub own : Owns o.functions o.start ns o.at place used
  pub formed : (rest : Arguments) → ArgumentsFormed rest → ArgumentsFormed (wrap rest)
  pub height : (rest : Arguments) → arguments_height rest + 1 ≤ room → arguments_height (wrap rest) + 1 ≤ room
  pub whole : (u : Expr) (rest : Arguments) (m k : ℕ) → Stands toks u place m → MoreArgumentsStand toks rest m k → ArgumentsStand toks (wrap (Argument u rest)) at k
  pub ahead : (us : Arguments) (k : ℕ) → Listing toks room at us k → (u : Expr) × (rest : Arguments) × (m : ℕ) × (us ≡ wrap (Argument u rest)) × Tail toks room place u rest m k

module _ (o q : Origin) (toks : List Tok) (room at : ℕ) where
  begins_with : (us : Arguments) (k : ℕ) → 0 < room → (HasSign toks at signs.CloseParen → ⊥) → Listing toks room at us k → (u : Expr) × (rest : Arguments) × (m : ℕ) × (us ≡ Argument u rest) × Tail toks room at u rest m k
  begins_with NoArgument k below not l = absurd (not (subst (λ (z : ℕ). HasSign toks z signs.CloseParen) l.stands l.closed))
  begins_with (Argument u rest) k below not l = (
    u,
    rest,
    l.stands.0,
    refl,
    record {
      first = record { level = l.formed.0; formed = l.formed.1; height = (let h = l.height in omega arith); stands = l.stands.1 };
      rest_formed = l.formed.2;
      rest_height = (let h = l.height in omega arith);
      rest_stands = l.stands.2;
    },
  )

  pub start : (ns : List Node) (list : List NodeId) → list ≡ [] → 0 < room → (HasSign toks at signs.CloseParen → ⊥) → Gathered o toks room at ns list at
  start ns list e below not = record {
    wrap = λ rest. rest;
    used = [];
    show = λ ns' k rest more vs h. subst (λ (z : List NodeId). ArgumentsShow ns' rest (z ++ more) vs) (sym e) h;
    own = own_none o.functions o.start ns o.at at;
    formed = λ rest f. f;
    height = λ rest h. h;
    whole = λ u rest m k s r. (m, s, r);
    ahead = λ us k l. begins_with us k below not l;
  }

  same_item : (place : ℕ) (ns : List Node) (item : Part) (f : Finds q toks 1 false (room - 1) place ns item) (u : Expr) (rest : Arguments) (m k : ℕ) → HasSign toks k signs.CloseParen → Tail toks room place u rest m k → (u ≡ f.tree) × (m ≡ item.next)
  same_item place ns item f u rest m k close t = pick rest t.rest_stands
    where
      pick : (rest : Arguments) → MoreArgumentsStand toks rest m k → (u ≡ f.tree) × (m ≡ item.next)
      pick NoArgument r = same_element q toks (room - 1) place ns item f u m signs.CloseParen (subst (λ (z : ℕ). HasSign toks z signs.CloseParen) r close) (omega arith) t.first
      pick (Argument v vs) r = same_element q toks (room - 1) place ns item f u m signs.Comma r.1 (omega arith) t.first

  end_with : (place : ℕ) (ns : List Node) (item : Part) (f : Finds q toks 1 false (room - 1) place ns item) (wrap : Arguments → Arguments)
      → HasSign toks item.next signs.CloseParen → (us : Arguments) (k : ℕ) (u : Expr) (rest : Arguments) (m : ℕ) → us ≡ wrap (Argument u rest) → MoreArgumentsStand toks rest m k → (u ≡ f.tree) × (m ≡ item.next) → (us ≡ wrap (Argument f.tree NoArgument)) × (k ≡ item.next)
  end_with place ns item f wrap close us k u NoArgument m e r s = (e ∙ ap (λ z. wrap (Argument z NoArgument)) s.0, r ∙ s.1)
  end_with place ns item f wrap close us k u (Argument v vs) m e r s =
      absurd (let z : HasSign toks item.next signs.Comma = subst (λ (z : ℕ). HasSign toks z signs.Comma) s.1 r.1 in cc)

  -- the list is closed
  pub ends : (ns : List Node) (list : List NodeId) (place : ℕ) (ns' : List Node) (item : Part) (p : Listed) → 0 < room → Gathered o toks room at ns list place → Keeps ns ns' → (f : Finds q toks 1 false (room - 1) place ns' item) → ((us : List ℕ) → Owns o.functions o.start ns o.at place us → Owns q.functions q.start ns' q.at item.next f.part.used → Owns o.functions o.start ns' o.at item.next (us ++ f.part.used))
      → HasSign toks item.next signs.CloseParen → p.list ≡ list ++ item.node ∷ [] → p.next ≡ item.next → Lists o toks room at ns' p
  ends ns list place ns' item p below l k f grow close made next = record {
    trees = l.wrap (Argument f.tree NoArgument);
    used = l.used ++ (f.part.used ++ []);
    show = subst (λ (z : List NodeId). ArgumentsShow ns' (l.wrap (Argument f.tree NoArgument)) z (l.used ++ (f.part.used ++ []))) (sym made)
        (l.show ns' k (Argument f.tree NoArgument) (item.node ∷ []) (f.part.used ++ []) (item.node, [], f.part.used, [], refl, refl, f.part.shows, (refl, refl)));
    own = subst (λ z. Owns o.functions o.start ns' o.at z (l.used ++ (f.part.used ++ []))) (sym next)
        (subst (λ z. Owns o.functions o.start ns' o.at item.next (l.used ++ z)) (sym (append-nil f.part.used)) (grow l.used l.own f.part.own));
    listing = record {
      formed = l.formed (Argument f.tree NoArgument) (f.best.reading.level, f.best.reading.formed, tt);
      height = l.height (Argument f.tree NoArgument) (let h = f.best.reading.height in omega arith);
      stands = subst (λ (z : ℕ). ArgumentsStand toks (l.wrap (Argument f.tree NoArgument)) at z) (sym next) (l.whole f.tree NoArgument item.next item.next f.best.reading.stands refl);
      closed = subst (λ (z : ℕ). HasSign toks z signs.CloseParen) (sym next) close;
    };
    only = λ us m g.
        (let a = l.ahead us m g in
        let s = same_item place ns' item f a.0 a.1 a.2 m g.closed a.4 in
        let e = end_with place ns' item f l.wrap close us m a.0 a.1 a.2 a.3 a.4.rest_stands s in
        (e.0, e.1 ∙ sym next));
  }

  -- no argument is read
  pub no_item : (ns : List Node) (list : List NodeId) (place : ℕ) → Gathered o toks room at ns list place → ((u : Expr) (m : ℕ) → Reading toks 1 false (room - 1) place u m → ⊥) → (us : Arguments) (m : ℕ) → Listing toks room at us m → ⊥
  no_item ns list place l none us m g = let a = l.ahead us m g in none a.0 a.2 a.4.first

  neither : (next : ℕ) → (HasSign toks next signs.CloseParen → ⊥) → (HasSign toks next signs.Comma → ⊥) → (rest : Arguments) (m k : ℕ) → m ≡ next → HasSign toks k signs.CloseParen → MoreArgumentsStand toks rest m k → ⊥
  neither next close comma NoArgument m k e c r = close (subst (λ (z : ℕ). HasSign toks z signs.CloseParen) (r ∙ e) c)
  neither next close comma (Argument v vs) m k e c r = comma (subst (λ (z : ℕ). HasSign toks z signs.Comma) e r.1)

  -- neither `)` nor `,` follows
  pub no_sign : (ns : List Node) (list : List NodeId) (place : ℕ) (ns' : List Node) (item : Part) → Gathered o toks room at ns list place → Finds q toks 1 false (room - 1) place ns' item
      → (HasSign toks item.next signs.CloseParen → ⊥) → (HasSign toks item.next signs.Comma → ⊥) → (us : Arguments) (m : ℕ) → Listing toks room at us m → ⊥
  no_sign ns list place ns' item l f close comma us m g =
      let a = l.ahead us m g in
      let s = same_item place ns' item f a.0 a.1 a.2 m g.closed a.4 in
      neither item.next close comma a.1 a.2 m s.1 g.closed a.4.rest_stands

  onward : (wrap : Arguments → Arguments) (us : Arguments) (t u : Expr) (next m k : ℕ) → HasSign toks next signs.Comma → HasSign toks k signs.CloseParen → (rest : Arguments) → us ≡ wrap (Argument u rest) → ArgumentsFormed rest → arguments_height rest + 1 ≤ room → MoreArgumentsStand toks rest m k → (u ≡ t) × (m ≡ next)
      → (v : Expr) × (vs : Arguments) × (n : ℕ) × (us ≡ wrap (Argument t (Argument v vs))) × Tail toks room (next + 1) v vs n k
  onward wrap us t u next m k comma close NoArgument e formed h r s =
      absurd (let z : HasSign toks next signs.CloseParen = subst (λ (z : ℕ). HasSign toks z signs.CloseParen) (r ∙ s.1) close in cc)
  onward wrap us t u next m k comma close (Argument v vs) e formed h r s = (
    v,
    vs,
    r.0,
    e ∙ ap (λ z. wrap (Argument z (Argument v vs))) s.0,
    record {
      first = record { level = formed.0; formed = formed.1; height = omega arith; stands = subst (λ (z : ℕ). Stands toks v (z + 1) r.0) s.1 r.2 };
      rest_formed = formed.2;
      rest_height = omega arith;
      rest_stands = r.3;
    },
  )

  -- one more argument and a comma
  pub one_more_item : (ns : List Node) (list : List NodeId) (place : ℕ) (ns' : List Node) (item : Part) (list' : List NodeId) → 0 < room → Gathered o toks room at ns list place → Keeps ns ns' → (f : Finds q toks 1 false (room - 1) place ns' item) → ((us : List ℕ) → Owns o.functions o.start ns o.at place us → Owns q.functions q.start ns' q.at item.next f.part.used → Owns o.functions o.start ns' o.at item.next (us ++ f.part.used))
      → HasSign toks item.next signs.Comma → list' ≡ list ++ item.node ∷ [] → Gathered o toks room at ns' list' (item.next + 1)
  one_more_item ns list place ns' item list' below l k f grow comma made = record {
    wrap = λ rest. l.wrap (Argument f.tree rest);
    used = l.used ++ f.part.used;
    show = λ ns2 k2 rest more vs h.
        subst (λ (z : List NodeId). ArgumentsShow ns2 (l.wrap (Argument f.tree rest)) (z ++ more) ((l.used ++ f.part.used) ++ vs)) (sym made)
        (rw (append_assoc, append_assoc)
        (l.show ns2 (keeps_both ns ns' ns2 k k2) (Argument f.tree rest) (item.node ∷ more) (f.part.used ++ vs) (item.node, more, f.part.used, vs, refl, refl, kept ns' ns2 k2 f.tree item.node f.part.used f.part.shows, h)));
    own = own_later o.functions o.start ns' ns' o.at item.next (item.next + 1) (l.used ++ f.part.used) (keeps_self ns') (omega arith) (grow l.used l.own f.part.own);
    formed = λ rest g. l.formed (Argument f.tree rest) (f.best.reading.level, f.best.reading.formed, g);
    height = λ rest h. l.height (Argument f.tree rest) (let z = f.best.reading.height in omega arith);
    whole = λ u rest m z s r. l.whole f.tree (Argument u rest) item.next z f.best.reading.stands (m, comma, s, r);
    ahead = λ us m g.
        (let a = l.ahead us m g in
        let s = same_item place ns' item f a.0 a.1 a.2 m g.closed a.4 in
        onward l.wrap us f.tree a.0 item.next a.2 m comma g.closed a.1 a.3 a.4.rest_formed a.4.rest_height a.4.rest_stands s);
  }

-- no arguments
pub empty : (o : Origin) (toks : List Tok) (room at : ℕ) (ns : List Node) (p : Listed) → 0 < room → p.list ≡ [] → p.next ≡ at → HasSign toks at signs.CloseParen → Lists o toks room at ns p
empty o toks room at ns p below e next close = record {
  trees = NoArgument;
  used = [];
  show = (e, refl);
  own = own_none o.functions o.start ns o.at p.next;
  listing = record { formed = tt; height = omega arith; stands = next; closed = subst (λ (z : ℕ). HasSign toks z signs.CloseParen) (sym next) close };
  only = λ us m g. one us m g;
}
  where
    one : (us : Arguments) (m : ℕ) → Listing toks room at us m → (us ≡ NoArgument) × (m ≡ p.next)
    one NoArgument m g = (refl, g.stands ∙ sym next)
    one (Argument t ts) m g = absurd (never_begins toks t at g.stands.0 (tokens.Sign signs.CloseParen) g.stands.1 close refl)

-- ---- items

abbrev is_more : Items → Bool
is_more NoItem = false
is_more _ = true

-- The items before a place are read, and each list of items goes through them.
pub record GatheredItems (o : Origin) (toks : List Tok) (room at : ℕ) (ns : List Node) (list : List (Option NodeId)) (tail : Bool) (place : ℕ) : Type 0 where
  pub wrap : Items → Items
  pub used : List ℕ
  pub show : (ns' : List Node) → Keeps ns ns' → (rest : Items) (more : List (Option NodeId)) (vs : List ℕ) → ItemsShow ns' rest more vs → ItemsShow ns' (wrap rest) (list ++ more) (used ++ vs)
  pub own : Owns o.functions o.start ns o.at place used
  pub formed : (rest : Items) → ItemsFormed rest → ItemsFormed (wrap rest)
  pub height : (rest : Items) → items_height rest + 1 ≤ room → items_height (wrap rest) + 1 ≤ room
  pub whole : (rest : Items) (k : ℕ) → ItemsStand toks rest place k → ItemsStand toks (wrap rest) at k
  pub ahead : (us : Items) (k : ℕ) → ItemsListing toks room at us k → (rest : Items) × (us ≡ wrap rest) × ItemsListing toks room place rest k
  pub tail_none : has_tail (wrap NoItem) ≡ tail
  pub tail_more : (rest : Items) → is_more rest ≡ true → has_tail (wrap rest) ≡ has_tail rest

item_tail : (e : Expr) (rest : Items) → is_more rest ≡ true → has_tail (Item e rest) ≡ has_tail rest
item_tail e NoItem h = cc
item_tail e (Hole rest) h = refl
item_tail e (Item f rest) h = refl
item_tail e (LastItem f) h = refl

module _ (o q : Origin) (toks : List Tok) (room at : ℕ) where
  pub items_start : (ns : List Node) (list : List (Option NodeId)) → list ≡ [] → GatheredItems o toks room at ns list false at
  items_start ns list e = record {
    wrap = λ rest. rest;
    used = [];
    show = λ ns' k rest more vs h. subst (λ (z : List (Option NodeId)). ItemsShow ns' rest (z ++ more) vs) (sym e) h;
    own = own_none o.functions o.start ns o.at at;
    formed = λ rest f. f;
    height = λ rest h. h;
    whole = λ rest k s. s;
    ahead = λ us k l. (us, refl, l);
    tail_none = refl;
    tail_more = λ rest h. refl;
  }

  close_here : (place : ℕ) → HasSign toks place signs.CloseBracket → (rest : Items) (k : ℕ) → ItemsListing toks room place rest k → (rest ≡ NoItem) × (k ≡ place)
  close_here place close NoItem k g = (refl, g.stands)
  close_here place close (Hole rest) k g = absurd (let e : signs.CloseBracket ≡ signs.Comma = two_signs _ signs.CloseBracket signs.Comma close g.stands.0 in cc)
  close_here place close (Item e rest) k g = absurd (never_begins toks e place g.stands.0 (tokens.Sign signs.CloseBracket) g.stands.1 close refl)
  close_here place close (LastItem e) k g = absurd (never_begins toks e place k (tokens.Sign signs.CloseBracket) g.stands close refl)

  -- the bracket closes before another item
  pub items_close : (ns : List Node) (list : List (Option NodeId)) (tail : Bool) (place : ℕ) (p : ListedItems) → 0 < room → GatheredItems o toks room at ns list tail place
      → HasSign toks place signs.CloseBracket → p.list ≡ list → p.tail ≡ tail → p.next ≡ place → FindsItems o toks room at ns p
  items_close ns list tail place p below l close made tails next = record {
    trees = l.wrap NoItem;
    used = l.used ++ [];
    show = subst (λ (z : List (Option NodeId)). ItemsShow ns (l.wrap NoItem) z (l.used ++ [])) (append_nil list ∙ sym made) (l.show ns (keeps_self ns) NoItem [] [] (refl, refl));
    own = subst (λ z. Owns o.functions o.start ns o.at z (l.used ++ [])) (sym next) (subst (λ z. Owns o.functions o.start ns o.at place z) (sym (append-nil l.used)) l.own);
    tail = tails ∙ sym l.tail_none;
    listing = record {
      formed = l.formed NoItem tt;
      height = l.height NoItem (omega arith);
      stands = subst (λ (z : ℕ). ItemsStand toks (l.wrap NoItem) at z) (sym next) (l.whole NoItem place refl);
      closed = subst (λ (z : ℕ). HasSign toks z signs.CloseBracket) (sym next) close;
    };
    only = λ us m g.
        (let a = l.ahead us m g in
        let c = close_here place close a.0 m a.2 in
        (a.1 ∙ ap l.wrap c.0, c.1 ∙ sym next));
  }
    where
      append_nil : {A : Type 0} (xs : List A) → xs ++ [] ≡ xs
      append_nil [] = refl
      append_nil (x ∷ xs) = ap (λ z. x ∷ z) (append_nil xs)

  hole_here : (place : ℕ) → HasSign toks place signs.Comma → (rest : Items) (k : ℕ) → ItemsListing toks room place rest k → (more : Items) × (rest ≡ Hole more) × ItemsListing toks room (place + 1) more k
  hole_here place comma NoItem k g = absurd (let e : signs.Comma ≡ signs.CloseBracket = two_signs _ signs.Comma signs.CloseBracket comma (subst (λ (z : ℕ). HasSign toks z signs.CloseBracket) g.stands g.closed) in cc)
  hole_here place comma (Hole rest) k g = (rest, refl, record { formed = g.formed; height = g.height; stands = g.stands.1; closed = g.closed })
  hole_here place comma (Item e rest) k g = absurd (never_begins toks e place g.stands.0 (tokens.Sign signs.Comma) g.stands.1 comma refl)
  hole_here place comma (LastItem e) k g = absurd (never_begins toks e place k (tokens.Sign signs.Comma) g.stands comma refl)

  -- one more hole
  pub items_hole : (ns : List Node) (list : List (Option NodeId)) (tail : Bool) (place : ℕ) (list' : List (Option NodeId)) → GatheredItems o toks room at ns list tail place
      → HasSign toks place signs.Comma → list' ≡ list ++ None ∷ [] → GatheredItems o toks room at ns list' false (place + 1)
  items_hole ns list tail place list' l comma made = record {
    wrap = λ rest. l.wrap (Hole rest);
    used = l.used;
    show = λ ns2 k2 rest more vs h.
        subst (λ (z : List (Option NodeId)). ItemsShow ns2 (l.wrap (Hole rest)) (z ++ more) (l.used ++ vs)) (sym made) (rw append_assoc (l.show ns2 k2 (Hole rest) (None ∷ more) vs (more, refl, h)));
    own = own_later o.functions o.start ns ns o.at place (place + 1) l.used (keeps_self ns) (omega arith) l.own;
    formed = λ rest g. l.formed (Hole rest) g;
    height = λ rest h. l.height (Hole rest) h;
    whole = λ rest k s. l.whole (Hole rest) k (comma, s);
    ahead = λ us m g.
        (let a = l.ahead us m g in
        let c = hole_here place comma a.0 m a.2 in
        (c.0, a.1 ∙ ap l.wrap c.1, c.2));
    tail_none = l.tail_more (Hole NoItem) refl;
    tail_more = λ rest h. l.tail_more (Hole rest) refl;
  }

  no_item_here : (place : ℕ) → (HasSign toks place signs.CloseBracket → ⊥) → (HasSign toks place signs.Comma → ⊥) → ((u : Expr) (m : ℕ) → Reading toks 1 false (room - 1) place u m → ⊥) → (rest : Items) (k : ℕ) → ItemsListing toks room place rest k → ⊥
  no_item_here place close comma none NoItem k g = close (subst (λ (z : ℕ). HasSign toks z signs.CloseBracket) g.stands g.closed)
  no_item_here place close comma none (Hole rest) k g = comma g.stands.0
  no_item_here place close comma none (Item e rest) k g = none e g.stands.0 (record { level = g.formed.0; formed = g.formed.1; height = (let h = g.height in omega arith); stands = g.stands.1 })
  no_item_here place close comma none (LastItem e) k g = none e k (record { level = g.formed.0; formed = g.formed.1; height = (let h = g.height in omega arith); stands = g.stands })

  pub items_none : (ns : List Node) (list : List (Option NodeId)) (tail : Bool) (place : ℕ) → GatheredItems o toks room at ns list tail place → (HasSign toks place signs.CloseBracket → ⊥) → (HasSign toks place signs.Comma → ⊥)
      → ((u : Expr) (m : ℕ) → Reading toks 1 false (room - 1) place u m → ⊥) → (us : Items) (m : ℕ) → ItemsListing toks room at us m → ⊥
  items_none ns list tail place l close comma none us m g = let a = l.ahead us m g in no_item_here place close comma none a.0 m a.2

  module _ (place : ℕ) (ns' : List Node) (item : Part) (f : Finds q toks 1 false (room - 1) place ns' item) (not_close : HasSign toks place signs.CloseBracket → ⊥) (not_comma : HasSign toks place signs.Comma → ⊥) where
    -- an item with its comma, or the last one
    item_here : (rest : Items) (k : ℕ) → ItemsListing toks room place rest k
        → ((more : Items) × (rest ≡ Item f.tree more) × HasSign toks item.next signs.Comma × ItemsListing toks room (item.next + 1) more k) ⊎ ((rest ≡ LastItem f.tree) × (k ≡ item.next) × HasSign toks item.next signs.CloseBracket)
    item_here NoItem k g = absurd (not_close (subst (λ (z : ℕ). HasSign toks z signs.CloseBracket) g.stands g.closed))
    item_here (Hole rest) k g = absurd (not_comma g.stands.0)
    item_here (Item e rest) k g =
        let s = same_element q toks (room - 1) place ns' item f e g.stands.0 signs.Comma g.stands.2 (omega arith) (record { level = g.formed.0; formed = g.formed.1; height = (let h = g.height in omega arith); stands = g.stands.1 }) in
        inl (
          rest,
          ap (λ z. Item z rest) s.0,
          subst (λ (z : ℕ). HasSign toks z signs.Comma) s.1 g.stands.2,
          record { formed = g.formed.2; height = (let h = g.height in omega arith); stands = subst (λ (z : ℕ). ItemsStand toks rest (z + 1) k) s.1 g.stands.3; closed = g.closed },
        )
    item_here (LastItem e) k g =
        let s = same_element q toks (room - 1) place ns' item f e k signs.CloseBracket g.closed (omega arith) (record { level = g.formed.0; formed = g.formed.1; height = (let h = g.height in omega arith); stands = g.stands }) in
        inr (ap LastItem s.0, s.1, subst (λ (z : ℕ). HasSign toks z signs.CloseBracket) s.1 g.closed)

    closed_last : (wrap : Items → Items) (us rest : Items) (k : ℕ) → HasSign toks item.next signs.CloseBracket → us ≡ wrap rest
        → ((more : Items) × (rest ≡ Item f.tree more) × HasSign toks item.next signs.Comma × ItemsListing toks room (item.next + 1) more k) ⊎ ((rest ≡ LastItem f.tree) × (k ≡ item.next) × HasSign toks item.next signs.CloseBracket)
        → (us ≡ wrap (LastItem f.tree)) × (k ≡ item.next)
    closed_last wrap us rest k close e (inl c) = absurd (let z : signs.CloseBracket ≡ signs.Comma = two_signs _ signs.CloseBracket signs.Comma close c.2 in cc)
    closed_last wrap us rest k close e (inr c) = (e ∙ ap wrap c.0, c.1)

    -- the bracket closes behind the item
    pub items_last : (ns : List Node) (list : List (Option NodeId)) (tail : Bool) (p : ListedItems) → 0 < room → GatheredItems o toks room at ns list tail place → Keeps ns ns'
        → ((us : List ℕ) → Owns o.functions o.start ns o.at place us → Owns q.functions q.start ns' q.at item.next f.part.used → Owns o.functions o.start ns' o.at item.next (us ++ f.part.used))
        → HasSign toks item.next signs.CloseBracket → p.list ≡ list ++ Some item.node ∷ [] → p.tail ≡ false → p.next ≡ item.next → FindsItems o toks room at ns' p
    items_last ns list tail p below l k grow close made tails next = record {
      trees = l.wrap (LastItem f.tree);
      used = l.used ++ f.part.used;
      show = subst (λ (z : List (Option NodeId)). ItemsShow ns' (l.wrap (LastItem f.tree)) z (l.used ++ f.part.used)) (sym made) (l.show ns' k (LastItem f.tree) (Some item.node ∷ []) f.part.used (item.node, refl, f.part.shows));
      own = subst (λ z. Owns o.functions o.start ns' o.at z (l.used ++ f.part.used)) (sym next) (grow l.used l.own f.part.own);
      tail = tails ∙ sym (l.tail_more (LastItem f.tree) refl);
      listing = record {
        formed = l.formed (LastItem f.tree) (f.best.reading.level, f.best.reading.formed);
        height = l.height (LastItem f.tree) (let h = f.best.reading.height in omega arith);
        stands = subst (λ (z : ℕ). ItemsStand toks (l.wrap (LastItem f.tree)) at z) (sym next) (l.whole (LastItem f.tree) item.next f.best.reading.stands);
        closed = subst (λ (z : ℕ). HasSign toks z signs.CloseBracket) (sym next) close;
      };
      only = λ us m g.
          (let a = l.ahead us m g in
          let c = closed_last l.wrap us a.0 m close a.1 (item_here a.0 m a.2) in
          (c.0, c.1 ∙ sym next));
    }

    neither_here : (rest : Items) (k : ℕ) → (HasSign toks item.next signs.CloseBracket → ⊥) → (HasSign toks item.next signs.Comma → ⊥)
        → ((more : Items) × (rest ≡ Item f.tree more) × HasSign toks item.next signs.Comma × ItemsListing toks room (item.next + 1) more k) ⊎ ((rest ≡ LastItem f.tree) × (k ≡ item.next) × HasSign toks item.next signs.CloseBracket) → ⊥
    neither_here rest k close comma (inl c) = comma c.2
    neither_here rest k close comma (inr c) = close c.2

    pub items_neither : (ns : List Node) (list : List (Option NodeId)) (tail : Bool) → GatheredItems o toks room at ns list tail place → (HasSign toks item.next signs.CloseBracket → ⊥) → (HasSign toks item.next signs.Comma → ⊥)
        → (us : Items) (m : ℕ) → ItemsListing toks room at us m → ⊥
    items_neither ns list tail l close comma us m g = let a = l.ahead us m g in neither_here a.0 m close comma (item_here a.0 m a.2)

    comma_here : (wrap : Items → Items) (us rest : Items) (k : ℕ) → HasSign toks item.next signs.Comma → us ≡ wrap rest
        → ((more : Items) × (rest ≡ Item f.tree more) × HasSign toks item.next signs.Comma × ItemsListing toks room (item.next + 1) more k) ⊎ ((rest ≡ LastItem f.tree) × (k ≡ item.next) × HasSign toks item.next signs.CloseBracket)
        → (more : Items) × (us ≡ wrap (Item f.tree more)) × ItemsListing toks room (item.next + 1) more k
    comma_here wrap us rest k comma e (inl c) = (c.0, e ∙ ap wrap c.1, c.3)
    comma_here wrap us rest k comma e (inr c) = absurd (let z : signs.Comma ≡ signs.CloseBracket = two_signs _ signs.Comma signs.CloseBracket comma c.2 in cc)

    -- one more item and its comma
    pub items_more : (ns : List Node) (list : List (Option NodeId)) (tail : Bool) (list' : List (Option NodeId)) → GatheredItems o toks room at ns list tail place → Keeps ns ns'
        → ((us : List ℕ) → Owns o.functions o.start ns o.at place us → Owns q.functions q.start ns' q.at item.next f.part.used → Owns o.functions o.start ns' o.at item.next (us ++ f.part.used))
        → HasSign toks item.next signs.Comma → list' ≡ list ++ Some item.node ∷ [] → GatheredItems o toks room at ns' list' true (item.next + 1)
    items_more ns list tail list' l k grow comma made = record {
      wrap = λ rest. l.wrap (Item f.tree rest);
      used = l.used ++ f.part.used;
      show = λ ns2 k2 rest more vs h.
          subst (λ (z : List (Option NodeId)). ItemsShow ns2 (l.wrap (Item f.tree rest)) (z ++ more) ((l.used ++ f.part.used) ++ vs)) (sym made)
          (rw (append_assoc, append_assoc)
          (l.show ns2 (keeps_both ns ns' ns2 k k2) (Item f.tree rest) (Some item.node ∷ more) (f.part.used ++ vs) (item.node, more, f.part.used, vs, refl, refl, kept ns' ns2 k2 f.tree item.node f.part.used f.part.shows, h)));
      own = own_later o.functions o.start ns' ns' o.at item.next (item.next + 1) (l.used ++ f.part.used) (keeps_self ns') (omega arith) (grow l.used l.own f.part.own);
      formed = λ rest g. l.formed (Item f.tree rest) (f.best.reading.level, f.best.reading.formed, g);
      height = λ rest h. l.height (Item f.tree rest) (let z = f.best.reading.height in omega arith);
      whole = λ rest z s. l.whole (Item f.tree rest) z (item.next, f.best.reading.stands, comma, s);
      ahead = λ us m g. (let a = l.ahead us m g in comma_here l.wrap us a.0 m comma a.1 (item_here a.0 m a.2));
      tail_none = l.tail_more (Item f.tree NoItem) refl;
      tail_more = λ rest h. l.tail_more (Item f.tree rest) refl ∙ item_tail f.tree rest h;
    }
