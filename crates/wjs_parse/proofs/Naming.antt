-- Names, formals, and what stands before the body of a function.
use Rattle.std.proofs.Common.{◌≡◌, ℕ, ◌+◌, List, [], ◌∷◌, ◌++◌, Option, Some, None, refl, sym, ap, ◌∙◌, subst, append_assoc}
use Rattle.wjs_base.specs.declared.ids.TextId.{TextId}
use Rattle.wjs_tree.specs.declared.tokens.Token.{Token}
use Rattle.wjs_tree.specs.declared.tokens.Token.TheVariants as tokens
use Rattle.wjs_tree.specs.declared.signs.Sign.TheVariants as signs
use Rattle.wjs_tree.specs.declared.keys.Key.TheVariants as keys
use Rattle.wjs_tree.specs.declared.tokens.Tok.{Tok}
use Rattle.wjs_tree.specs.Ends.{HasToken, HasSign, HasKey}
use Rattle.wjs_tree.specs.Spelling.{NameStands, FormalsStand, MoreFormalsStand}
use Rattle.wjs_parse_expr.proofs.Readings.{same_token}
use Rattle.wjs_parse.specs.declared.formals.ListedFormals.{ListedFormals}
use Rattle.wjs_parse.specs.declared.formals.Head.{Head}
use Rattle.wjs_parse.specs.Readings.{HeaderForm}
use Rattle.wjs_parse.specs.Answers.{NameAnswers, FindsFormals, FindsHeader}

-- one token stands at a place
clash : (toks : List Tok) (i j : ℕ) (a b : Token) → HasToken toks i a → HasToken toks j b → j ≡ i → a ≡ b
clash toks i j a b h g e = same_token _ a b h (subst (λ (z : ℕ). HasToken toks z b) e g)

-- ---- a name

pub some_name : (toks : List Tok) (i : ℕ) (x : TextId) → HasToken toks i (tokens.Word x) → NameAnswers toks i (Some x) (i + 1)
some_name toks i x h = ((h, refl), λ y m s paren. other y m s paren)
  where
    other : (y : Option TextId) (m : ℕ) → NameStands toks y i m → HasSign toks m signs.OpenParen → (y ≡ Some x) × (m ≡ i + 1)
    other None m s paren = absurd (let q = clash toks i m (tokens.Word x) (tokens.Sign signs.OpenParen) h paren s in cc)
    other (Some y) m s paren = (let q = same_token _ (tokens.Word x) (tokens.Word y) h s.0 in cc, s.1)

pub no_name : (toks : List Tok) (i : ℕ) → ((x : TextId) → HasToken toks i (tokens.Word x) → ⊥) → NameAnswers toks i None i
no_name toks i nay = (refl, λ y m s paren. other y m s paren)
  where
    other : (y : Option TextId) (m : ℕ) → NameStands toks y i m → HasSign toks m signs.OpenParen → (y ≡ None) × (m ≡ i)
    other None m s paren = (refl, s)
    other (Some y) m s paren = absurd (nay y s.0)

-- ---- formals

-- The formals before a place are read, and each list goes through them.
pub record Naming (toks : List Tok) (at : ℕ) (list : List TextId) (place : ℕ) : Type 0 where
  pub whole : (rest : List TextId) (k : ℕ) → MoreFormalsStand toks rest place k → FormalsStand toks (list ++ rest) at k
  pub ahead : (us : List TextId) (k : ℕ) → FormalsStand toks us at k → HasSign toks k signs.CloseParen → (rest : List TextId) × (us ≡ list ++ rest) × MoreFormalsStand toks rest place k

append_nil : {A : Type 0} (xs : List A) → xs ++ [] ≡ xs
append_nil [] = refl
append_nil (x ∷ xs) = ap (λ z. x ∷ z) (append_nil xs)

module _ (toks : List Tok) (at : ℕ) where
  pub naming_empty : ((x : TextId) → HasToken toks at (tokens.Word x) → ⊥) → (p : ListedFormals) → p.list ≡ [] → p.next ≡ at → FindsFormals toks at p
  naming_empty nay p list next = record {
    stand = subst (λ (z : List TextId). FormalsStand toks z at p.next) (sym list) next;
    only = λ xs m s close. other xs m s;
  }
    where
      other : (xs : List TextId) (m : ℕ) → FormalsStand toks xs at m → (xs ≡ p.list) × (m ≡ p.next)
      other [] m s = (sym list, s ∙ sym next)
      other (y ∷ ys) m s = absurd (nay y s.0)

  first : (x : TextId) → HasToken toks at (tokens.Word x) → (us : List TextId) (k : ℕ) → FormalsStand toks us at k → HasSign toks k signs.CloseParen → (rest : List TextId) × (us ≡ x ∷ rest) × MoreFormalsStand toks rest (at + 1) k
  first x h [] k s close = absurd (let q = clash toks at k (tokens.Word x) (tokens.Sign signs.CloseParen) h close s in cc)
  first x h (y ∷ ys) k s close = (ys, let q = same_token _ (tokens.Word x) (tokens.Word y) h s.0 in cc, s.1)

  pub naming_start : (x : TextId) (old list : List TextId) → HasToken toks at (tokens.Word x) → old ≡ [] → list ≡ old ++ x ∷ [] → Naming toks at list (at + 1)
  naming_start x old list h none made =
      let e : list ≡ x ∷ [] = made ∙ ap (λ z. z ++ x ∷ []) none in
      record {
        whole = λ rest k s. subst (λ (z : List TextId). FormalsStand toks (z ++ rest) at k) (sym e) (h, s);
        ahead = λ us k s close. (let a = first x h us k s close in (a.0, a.1 ∙ ap (λ z. z ++ a.0) (sym e), a.2));
      }

  module _ (list : List TextId) (place : ℕ) (l : Naming toks at list place) where
    pub naming_end : (HasSign toks place signs.Comma → ⊥) → (p : ListedFormals) → p.list ≡ list → p.next ≡ place → FindsFormals toks at p
    naming_end nay p made next = record {
      stand = subst (λ (z : List TextId). FormalsStand toks z at p.next) (append_nil list ∙ sym made) (l.whole [] p.next next);
      only = λ xs m s close. (let a = l.ahead xs m s close in let b = ended a.0 m a.2 in (a.1 ∙ ap (λ z. list ++ z) b.0 ∙ append_nil list ∙ sym made, b.1 ∙ sym next));
    }
      where
        ended : (rest : List TextId) (m : ℕ) → MoreFormalsStand toks rest place m → (rest ≡ []) × (m ≡ place)
        ended [] m s = (refl, s)
        ended (y ∷ ys) m s = absurd (nay s.0)

    module _ (comma : HasSign toks place signs.Comma) where
      more : (rest : List TextId) (k : ℕ) → MoreFormalsStand toks rest place k → HasSign toks k signs.CloseParen → (y : TextId) × (ys : List TextId) × (rest ≡ y ∷ ys) × HasToken toks (place + 1) (tokens.Word y) × MoreFormalsStand toks ys (place + 2) k
      more [] k s close = absurd (let q = clash toks place k (tokens.Sign signs.Comma) (tokens.Sign signs.CloseParen) comma close s in cc)
      more (y ∷ ys) k s close = (y, ys, refl, s.1, s.2)

      pub naming_none : ((x : TextId) → HasToken toks (place + 1) (tokens.Word x) → ⊥) → (us : List TextId) (m : ℕ) → FormalsStand toks us at m → HasSign toks m signs.CloseParen → ⊥
      naming_none nay us m s close = let a = l.ahead us m s close in let b = more a.0 m a.2 close in nay b.0 b.3

      pub naming_more : (x : TextId) (list' : List TextId) → HasToken toks (place + 1) (tokens.Word x) → list' ≡ list ++ x ∷ [] → Naming toks at list' (place + 2)
      naming_more x list' h made = record {
        whole = λ rest k s. subst (λ (z : List TextId). FormalsStand toks (z ++ rest) at k) (sym made) (rw append_assoc (l.whole (x ∷ rest) k (comma, h, s)));
        ahead = λ us k s close.
            (let a = l.ahead us k s close in
            let b = more a.0 k a.2 close in
            let q : tokens.Word x ≡ tokens.Word b.0 = same_token _ (tokens.Word x) (tokens.Word b.0) h b.3 in
            let r : b.0 ≡ x = cc in
            (b.1, a.1 ∙ ap (λ z. list ++ z) b.2 ∙ ap (λ z. list ++ z ∷ b.1) r ∙ joined b.1 ∙ ap (λ z. z ++ b.1) (sym made), b.4));
      }
        where
          joined : (rest : List TextId) → list ++ x ∷ rest ≡ (list ++ x ∷ []) ++ rest
          joined rest = rw append_assoc refl

-- ---- what stands before a body

module _ (toks : List Tok) (i : ℕ) where
  pub header_keyless : (HasKey toks i keys.Function → ⊥) → (name : Option TextId) (xs : List TextId) (m : ℕ) → HeaderForm toks i name xs m → ⊥
  header_keyless nay name xs m g = nay g.key

  module _ (key : HasKey toks i keys.Function) (x : Option TextId) (paren : ℕ) (n : NameAnswers toks (i + 1) x paren) where
    pub header_unopened : (HasSign toks paren signs.OpenParen → ⊥) → (name : Option TextId) (xs : List TextId) (m : ℕ) → HeaderForm toks i name xs m → ⊥
    header_unopened nay name xs m g = nay (subst (λ (z : ℕ). HasSign toks z signs.OpenParen) (n.1 name g.opening g.name_stands g.opens).1 g.opens)

    -- the formals of a header stand behind the name
    formals_of : (name : Option TextId) (xs : List TextId) (m : ℕ) (g : HeaderForm toks i name xs m) → FormalsStand toks xs (paren + 1) g.close
    formals_of name xs m g = subst (λ (z : ℕ). FormalsStand toks xs (z + 1) g.close) (n.1 name g.opening g.name_stands g.opens).1 g.formals_stand

    pub header_formless : ((xs : List TextId) (m : ℕ) → FormalsStand toks xs (paren + 1) m → HasSign toks m signs.CloseParen → ⊥) → (name : Option TextId) (xs : List TextId) (m : ℕ) → HeaderForm toks i name xs m → ⊥
    header_formless none name xs m g = none xs g.close (formals_of name xs m g) g.closes

    module _ (p : ListedFormals) (f : FindsFormals toks (paren + 1) p) where
      closed_at : (name : Option TextId) (xs : List TextId) (m : ℕ) (g : HeaderForm toks i name xs m) → g.close ≡ p.next
      closed_at name xs m g = (f.only xs g.close (formals_of name xs m g) g.closes).1

      pub header_unclosed : (HasSign toks p.next signs.CloseParen → ⊥) → (name : Option TextId) (xs : List TextId) (m : ℕ) → HeaderForm toks i name xs m → ⊥
      header_unclosed nay name xs m g = nay (subst (λ (z : ℕ). HasSign toks z signs.CloseParen) (closed_at name xs m g) g.closes)

      pub header_bodiless : (HasSign toks (p.next + 1) signs.OpenBrace → ⊥) → (name : Option TextId) (xs : List TextId) (m : ℕ) → HeaderForm toks i name xs m → ⊥
      header_bodiless nay name xs m g = nay (subst (λ (z : ℕ). HasSign toks (z + 1) signs.OpenBrace) (closed_at name xs m g) g.brace)

      pub header_found : HasSign toks paren signs.OpenParen → HasSign toks p.next signs.CloseParen → HasSign toks (p.next + 1) signs.OpenBrace → (h : Head) → h.name ≡ x → h.formals ≡ p.list → h.next ≡ p.next + 2 → FindsHeader toks i h
      header_found opens closes brace h name list next = record {
        form = record {
          opening = paren;
          close = p.next;
          key = key;
          name_stands = subst (λ (z : Option TextId). NameStands toks z (i + 1) paren) (sym name) n.0;
          opens = opens;
          formals_stand = subst (λ (z : List TextId). FormalsStand toks z (paren + 1) p.next) (sym list) f.stand;
          closes = closes;
          brace = brace;
          ends = next;
        };
        only = λ y xs m g.
            (let a = n.1 y g.opening g.name_stands g.opens in
            let b = f.only xs g.close (formals_of y xs m g) g.closes in
            (a.0 ∙ sym name, b.0 ∙ sym list, g.ends ∙ ap (λ z. z + 2) b.1 ∙ sym next));
      }
