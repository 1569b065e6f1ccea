-- Properties in braces, which a loop reads one by one.
use Rattle.std.proofs.Common.{◌≡◌, ℕ, ◌+◌, ◌-◌, ◌<◌, ◌≤◌, ◌⊎◌, inl, inr, Bool, true, false, List, [], ◌∷◌, ◌++◌, Option, Some, None, refl, sym, ap, ◌∙◌, subst, arith, append_assoc}
use Rattle.wjs_tree.specs.declared.tokens.Token.{Token}
use Rattle.wjs_tree.specs.declared.tokens.Token.TheVariants as tokens
use Rattle.wjs_tree.specs.declared.signs.Sign.{Sign}
use Rattle.wjs_tree.specs.declared.signs.Sign.TheVariants as signs
use Rattle.wjs_tree.specs.declared.tokens.Tok.{Tok}
use Rattle.wjs_tree.specs.declared.node.Node.{Node}
use Rattle.wjs_tree.specs.declared.node.Property.{Property as Pair}
use Rattle.wjs_tree.specs.declared.node.Spelt.TheVariants as spelts
use Rattle.wjs_tree.specs.declared.node.PropertyKey.{PropertyKey}
use Rattle.wjs_tree.specs.declared.node.PropertyKey.TheVariants as property_keys
use Rattle.wjs_tree.specs.Trees.{Expr, Properties, NoProperty, Property, LastProperty}
use Rattle.wjs_tree.specs.Height.{properties_height}
use Rattle.wjs_tree.specs.Formed.{PropertiesFormed}
use Rattle.wjs_tree.specs.Ends.{HasSign, HasToken}
use Rattle.wjs_tree.specs.Spelling.{PropertiesStand, property_token}
use Rattle.wjs_tree.specs.Shows.{PropertiesShow, has_comma, Keeps}
use Rattle.wjs_tree.proofs.Kept.{kept, keeps_both, keeps_self}
use Rattle.wjs_parse_expr.specs.declared.parts.Part.{Part}
use Rattle.wjs_parse_expr.specs.declared.parts.ListedProperties.{ListedProperties}
use Rattle.wjs_parse_expr.specs.Readings.{Reading}
use Rattle.wjs_parse_expr.specs.Steps.{PropertiesListing}
use Rattle.wjs_parse_expr.specs.Table.{Owns}
use Rattle.wjs_parse_expr.proofs.Owning.{own_none, own_later}
use Rattle.wjs_parse_expr.specs.Answers.{Origin, FindsProperties, FindsValue}
use Rattle.wjs_parse_expr.proofs.Suffixes.{two_signs}
use Rattle.wjs_parse_expr.proofs.Gathering.{same_element}

abbrev property_back : Token → Option PropertyKey
property_back (tokens.Word x) = Some (property_keys.Spelt (spelts.Word x))
property_back (tokens.Key k) = Some (property_keys.Spelt (spelts.Key k))
property_back (tokens.Text x) = Some (property_keys.Text x)
property_back (tokens.Number n) = Some (property_keys.Number n)
property_back _ = None

property_same : (key : PropertyKey) → property_back (property_token key) ≡ Some key
property_same (property_keys.Spelt (spelts.Word x)) = refl
property_same (property_keys.Spelt (spelts.Key k)) = refl
property_same (property_keys.Text x) = refl
property_same (property_keys.Number n) = refl

-- a token spells one name
same_property : (o : Option Token) (a b : PropertyKey) → o ≡ Some (property_token a) → o ≡ Some (property_token b) → a ≡ b
same_property o a b p q =
    let t : property_token a ≡ property_token b = cc in
    let x = property_same a in let y = property_same b in let z : property_back (property_token a) ≡ property_back (property_token b) = ap property_back t in cc

-- no name is a sign
no_sign_key : (o : Option Token) (s : Sign) (key : PropertyKey) → o ≡ Some (tokens.Sign s) → o ≡ Some (property_token key) → ⊥
no_sign_key o s key p q =
    let t : tokens.Sign s ≡ property_token key = cc in
    let x = property_same key in let z : property_back (tokens.Sign s) ≡ property_back (property_token key) = ap property_back t in cc

abbrev is_more : Properties → Bool
is_more NoProperty = false
is_more _ = true

-- The properties before a place are read, and each list of properties goes through them.
pub record GatheredProperties (o : Origin) (toks : List Tok) (room at : ℕ) (ns : List Node) (list : List Pair) (comma : Bool) (place : ℕ) : Type 0 where
  pub wrap : Properties → Properties
  pub used : List ℕ
  pub show : (ns' : List Node) → Keeps ns ns' → (rest : Properties) (more : List Pair) (vs : List ℕ) → PropertiesShow ns' rest more vs → PropertiesShow ns' (wrap rest) (list ++ more) (used ++ vs)
  pub own : Owns o.functions o.start ns o.at place used
  pub formed : (rest : Properties) → PropertiesFormed rest → PropertiesFormed (wrap rest)
  pub height : (rest : Properties) → properties_height rest + 1 ≤ room → properties_height (wrap rest) + 1 ≤ room
  pub whole : (rest : Properties) (k : ℕ) → PropertiesStand toks rest place k → PropertiesStand toks (wrap rest) at k
  pub ahead : (us : Properties) (k : ℕ) → PropertiesListing toks room at us k → (rest : Properties) × (us ≡ wrap rest) × PropertiesListing toks room place rest k
  pub comma_none : has_comma (wrap NoProperty) ≡ comma
  pub comma_more : (rest : Properties) → is_more rest ≡ true → has_comma (wrap rest) ≡ has_comma rest

property_comma : (key : PropertyKey) (e : Expr) (rest : Properties) → is_more rest ≡ true → has_comma (Property key e rest) ≡ has_comma rest
property_comma key e NoProperty h = cc
property_comma key e (Property k f rest) h = refl
property_comma key e (LastProperty k f) h = refl

append_nil : {A : Type 0} (xs : List A) → xs ++ [] ≡ xs
append_nil [] = refl
append_nil (x ∷ xs) = ap (λ z. x ∷ z) (append_nil xs)

module _ (o : Origin) (toks : List Tok) (room at : ℕ) where
  pub properties_start : (ns : List Node) (list : List Pair) → list ≡ [] → GatheredProperties o toks room at ns list false at
  properties_start ns list e = record {
    wrap = λ rest. rest;
    used = [];
    show = λ ns' k rest more vs h. subst (λ (z : List Pair). PropertiesShow ns' rest (z ++ more) vs) (sym e) h;
    own = own_none o.functions o.start ns o.at at;
    formed = λ rest f. f;
    height = λ rest h. h;
    whole = λ rest k s. s;
    ahead = λ us k l. (us, refl, l);
    comma_none = refl;
    comma_more = λ rest h. refl;
  }

  close_here : (place : ℕ) → HasSign toks place signs.CloseBrace → (rest : Properties) (k : ℕ) → PropertiesListing toks room place rest k → (rest ≡ NoProperty) × (k ≡ place)
  close_here place close NoProperty k g = (refl, g.stands)
  close_here place close (Property key e rest) k g = absurd (no_sign_key _ signs.CloseBrace key close g.stands.1)
  close_here place close (LastProperty key e) k g = absurd (no_sign_key _ signs.CloseBrace key close g.stands.0)

  -- the brace closes before another property
  pub properties_close : (ns : List Node) (list : List Pair) (comma : Bool) (place : ℕ) (p : ListedProperties) → 0 < room → GatheredProperties o toks room at ns list comma place
      → HasSign toks place signs.CloseBrace → p.list ≡ list → p.comma ≡ comma → p.next ≡ place → FindsProperties o toks room at ns p
  properties_close ns list comma place p below l close made commas next = record {
    trees = l.wrap NoProperty;
    used = l.used ++ [];
    show = subst (λ (z : List Pair). PropertiesShow ns (l.wrap NoProperty) z (l.used ++ [])) (append_nil list ∙ sym made) (l.show ns (keeps_self ns) NoProperty [] [] (refl, refl));
    own = subst (λ z. Owns o.functions o.start ns o.at z (l.used ++ [])) (sym next) (subst (λ z. Owns o.functions o.start ns o.at place z) (sym (append_nil l.used)) l.own);
    comma = commas ∙ sym l.comma_none;
    listing = record {
      formed = l.formed NoProperty tt;
      height = l.height NoProperty (omega arith);
      stands = subst (λ (z : ℕ). PropertiesStand toks (l.wrap NoProperty) at z) (sym next) (l.whole NoProperty place refl);
      closed = subst (λ (z : ℕ). HasSign toks z signs.CloseBrace) (sym next) close;
    };
    only = λ us m g.
        (let a = l.ahead us m g in
        let c = close_here place close a.0 m a.2 in
        (a.1 ∙ ap l.wrap c.0, c.1 ∙ sym next));
  }

  no_property_here : (place : ℕ) → (HasSign toks place signs.CloseBrace → ⊥)
      → ((key : PropertyKey) (u : Expr) (m : ℕ) → HasToken toks place (property_token key) → HasSign toks (place + 1) signs.Colon → Reading toks 1 false (room - 1) (place + 2) u m → ⊥)
      → (rest : Properties) (k : ℕ) → PropertiesListing toks room place rest k → ⊥
  no_property_here place close none NoProperty k g = close (subst (λ (z : ℕ). HasSign toks z signs.CloseBrace) g.stands g.closed)
  no_property_here place close none (Property key e rest) k g = none key e g.stands.0 g.stands.1 g.stands.2 (record { level = g.formed.0; formed = g.formed.1; height = (let h = g.height in omega arith); stands = g.stands.3 })
  no_property_here place close none (LastProperty key e) k g = none key e k g.stands.0 g.stands.1 (record { level = g.formed.0; formed = g.formed.1; height = (let h = g.height in omega arith); stands = g.stands.2 })

  pub properties_none : (ns : List Node) (list : List Pair) (comma : Bool) (place : ℕ) → GatheredProperties o toks room at ns list comma place → (HasSign toks place signs.CloseBrace → ⊥)
      → ((key : PropertyKey) (u : Expr) (m : ℕ) → HasToken toks place (property_token key) → HasSign toks (place + 1) signs.Colon → Reading toks 1 false (room - 1) (place + 2) u m → ⊥)
      → (us : Properties) (m : ℕ) → PropertiesListing toks room at us m → ⊥
  properties_none ns list comma place l close none us m g = let a = l.ahead us m g in no_property_here place close none a.0 m a.2

  module _ (q : Origin) (place : ℕ) (ns' : List Node) (key : PropertyKey) (item : Part) (f : FindsValue q toks room place ns' key item) (not_close : HasSign toks place signs.CloseBrace → ⊥) where
    abbrev Here : Properties → ℕ → Type 0
    Here rest k =
        ((more : Properties) × (rest ≡ Property key f.value.tree more) × HasSign toks item.next signs.Comma × PropertiesListing toks room (item.next + 1) more k)
        ⊎ ((rest ≡ LastProperty key f.value.tree) × (k ≡ item.next) × HasSign toks item.next signs.CloseBrace)

    -- a property with its comma, or the last one
    property_here : (rest : Properties) (k : ℕ) → PropertiesListing toks room place rest k → Here rest k
    property_here NoProperty k g = absurd (not_close (subst (λ (z : ℕ). HasSign toks z signs.CloseBrace) g.stands g.closed))
    property_here (Property name e rest) k g =
        let n = same_property _ name key g.stands.1 f.name in
        let s = same_element q toks (room - 1) (place + 2) ns' item f.value e g.stands.0 signs.Comma g.stands.4 (omega arith) (record { level = g.formed.0; formed = g.formed.1; height = (let h = g.height in omega arith); stands = g.stands.3 }) in
        inl (
          rest,
          (let a = s.0 in cc),
          subst (λ (z : ℕ). HasSign toks z signs.Comma) s.1 g.stands.4,
          record { formed = g.formed.2; height = (let h = g.height in omega arith); stands = subst (λ (z : ℕ). PropertiesStand toks rest (z + 1) k) s.1 g.stands.5; closed = g.closed },
        )
    property_here (LastProperty name e) k g =
        let n = same_property _ name key g.stands.0 f.name in
        let s = same_element q toks (room - 1) (place + 2) ns' item f.value e k signs.CloseBrace g.closed (omega arith) (record { level = g.formed.0; formed = g.formed.1; height = (let h = g.height in omega arith); stands = g.stands.2 }) in
        inr ((let a = s.0 in cc), s.1, subst (λ (z : ℕ). HasSign toks z signs.CloseBrace) s.1 g.closed)

    closed_last : (wrap : Properties → Properties) (us rest : Properties) (k : ℕ) → HasSign toks item.next signs.CloseBrace → us ≡ wrap rest → Here rest k → (us ≡ wrap (LastProperty key f.value.tree)) × (k ≡ item.next)
    closed_last wrap us rest k close e (inl c) = absurd (let q : signs.CloseBrace ≡ signs.Comma = two_signs _ signs.CloseBrace signs.Comma close c.2 in cc)
    closed_last wrap us rest k close e (inr c) = (e ∙ ap wrap c.0, c.1)

    -- the brace closes behind the property
    pub properties_last : (ns : List Node) (list : List Pair) (comma : Bool) (p : ListedProperties) → 0 < room → GatheredProperties o toks room at ns list comma place → Keeps ns ns'
        → ((us : List ℕ) → Owns o.functions o.start ns o.at place us → Owns q.functions q.start ns' q.at item.next f.value.part.used → Owns o.functions o.start ns' o.at item.next (us ++ f.value.part.used))
        → HasSign toks item.next signs.CloseBrace → p.list ≡ list ++ record { key = key; value = item.node } ∷ [] → p.comma ≡ false → p.next ≡ item.next → FindsProperties o toks room at ns' p
    properties_last ns list comma p below l k grow close made commas next = record {
      trees = l.wrap (LastProperty key f.value.tree);
      used = l.used ++ f.value.part.used;
      show = subst (λ (z : List Pair). PropertiesShow ns' (l.wrap (LastProperty key f.value.tree)) z (l.used ++ f.value.part.used)) (sym made)
          (l.show ns' k (LastProperty key f.value.tree) (record { key = key; value = item.node } ∷ []) f.value.part.used (item.node, refl, f.value.part.shows));
      own = subst (λ z. Owns o.functions o.start ns' o.at z (l.used ++ f.value.part.used)) (sym next) (grow l.used l.own f.value.part.own);
      comma = commas ∙ sym (l.comma_more (LastProperty key f.value.tree) refl);
      listing = record {
        formed = l.formed (LastProperty key f.value.tree) (f.value.best.reading.level, f.value.best.reading.formed);
        height = l.height (LastProperty key f.value.tree) (let h = f.value.best.reading.height in omega arith);
        stands = subst (λ (z : ℕ). PropertiesStand toks (l.wrap (LastProperty key f.value.tree)) at z) (sym next) (l.whole (LastProperty key f.value.tree) item.next (f.name, f.colon, f.value.best.reading.stands));
        closed = subst (λ (z : ℕ). HasSign toks z signs.CloseBrace) (sym next) close;
      };
      only = λ us m g.
          (let a = l.ahead us m g in
          let c = closed_last l.wrap us a.0 m close a.1 (property_here a.0 m a.2) in
          (c.0, c.1 ∙ sym next));
    }

    neither_here : (rest : Properties) (k : ℕ) → (HasSign toks item.next signs.CloseBrace → ⊥) → (HasSign toks item.next signs.Comma → ⊥) → Here rest k → ⊥
    neither_here rest k close comma (inl c) = comma c.2
    neither_here rest k close comma (inr c) = close c.2

    pub properties_neither : (ns : List Node) (list : List Pair) (comma : Bool) → GatheredProperties o toks room at ns list comma place → (HasSign toks item.next signs.CloseBrace → ⊥) → (HasSign toks item.next signs.Comma → ⊥)
        → (us : Properties) (m : ℕ) → PropertiesListing toks room at us m → ⊥
    properties_neither ns list c l close comma us m g = let a = l.ahead us m g in neither_here a.0 m close comma (property_here a.0 m a.2)

    comma_here : (wrap : Properties → Properties) (us rest : Properties) (k : ℕ) → HasSign toks item.next signs.Comma → us ≡ wrap rest → Here rest k
        → (more : Properties) × (us ≡ wrap (Property key f.value.tree more)) × PropertiesListing toks room (item.next + 1) more k
    comma_here wrap us rest k comma e (inl c) = (c.0, e ∙ ap wrap c.1, c.3)
    comma_here wrap us rest k comma e (inr c) = absurd (let q : signs.Comma ≡ signs.CloseBrace = two_signs _ signs.Comma signs.CloseBrace comma c.2 in cc)

    -- one more property and its comma
    pub properties_more : (ns : List Node) (list : List Pair) (behind : Bool) (list' : List Pair) → GatheredProperties o toks room at ns list behind place → Keeps ns ns'
        → ((us : List ℕ) → Owns o.functions o.start ns o.at place us → Owns q.functions q.start ns' q.at item.next f.value.part.used → Owns o.functions o.start ns' o.at item.next (us ++ f.value.part.used))
        → HasSign toks item.next signs.Comma → list' ≡ list ++ record { key = key; value = item.node } ∷ [] → GatheredProperties o toks room at ns' list' true (item.next + 1)
    properties_more ns list behind list' l k grow comma made = record {
      wrap = λ rest. l.wrap (Property key f.value.tree rest);
      used = l.used ++ f.value.part.used;
      show = λ ns2 k2 rest more vs h.
          subst (λ (z : List Pair). PropertiesShow ns2 (l.wrap (Property key f.value.tree rest)) (z ++ more) ((l.used ++ f.value.part.used) ++ vs)) (sym made)
          (rw (append_assoc, append_assoc)
          (l.show ns2 (keeps_both ns ns' ns2 k k2) (Property key f.value.tree rest) (record { key = key; value = item.node } ∷ more) (f.value.part.used ++ vs)
          (item.node, more, f.value.part.used, vs, refl, refl, kept ns' ns2 k2 f.value.tree item.node f.value.part.used f.value.part.shows, h)));
      own = own_later o.functions o.start ns' ns' o.at item.next (item.next + 1) (l.used ++ f.value.part.used) (keeps_self ns') (omega arith) (grow l.used l.own f.value.part.own);
      formed = λ rest g. l.formed (Property key f.value.tree rest) (f.value.best.reading.level, f.value.best.reading.formed, g);
      height = λ rest h. l.height (Property key f.value.tree rest) (let q = f.value.best.reading.height in omega arith);
      whole = λ rest z s. l.whole (Property key f.value.tree rest) z (item.next, f.name, f.colon, f.value.best.reading.stands, comma, s);
      ahead = λ us m g. (let a = l.ahead us m g in comma_here l.wrap us a.0 m comma a.1 (property_here a.0 m a.2));
      comma_none = l.comma_more (Property key f.value.tree NoProperty) refl;
      comma_more = λ rest h. l.comma_more (Property key f.value.tree rest) refl ∙ property_comma key f.value.tree rest h;
    }
