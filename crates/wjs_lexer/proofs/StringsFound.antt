-- What was read is the string literal that stands there, or none stands there.
use Rattle.std.proofs.Common.{◌≡◌, ℕ, ◌+◌, inr, Bool, true, false, ◌||◌, ◌==◌, refl, subst, sym, ◌∙◌, ap, arith, List, [], ◌++◌, Option, Some, None, append_assoc}
use Rattle.std.specs.Prelude.{slice_get, if◌then◌else◌}
use Rattle.std.proofs.lemmas.List.{append-nil}
use Rattle.std.proofs.lemmas.Bool.Decides.{nat_tests}
use Rattle.wjs_base.proofs.Numbers.{equals_itself}
use Rattle.wjs_lexer.specs.declared.strings.Part.{Part}
use Rattle.wjs_lexer.specs.declared.characters.Kind.TheVariants as kinds
use Rattle.wjs_lexer.specs.Characters.{is_line_end}
use Rattle.wjs_lexer.specs.Strings.{part_of, part_at, units_of, Body, close, more, is_quote, IsText}
use Rattle.wjs_lexer.specs.Pieces.{Piece, text, StandsAt, PieceAt, NoPieceAt}
use Rattle.wjs_lexer.proofs.Ranges.{same_char}
use Rattle.wjs_lexer.proofs.KindLemmas.{fits, fits_kind, quote_kind}

-- The literal from the start is what was read and the rest from i on.
pub record Open (cs : List ℕ) (quote start : ℕ) (out : List ℕ) (i : ℕ) : Type 0 where
  pub whole : (n : ℕ) (us : List ℕ) → Body cs quote n i us → Body cs quote n start (out ++ us)
  pub only : (n : ℕ) (us : List ℕ) → Body cs quote n start us → (vs : List ℕ) × (Body cs quote n i vs × (us ≡ out ++ vs))

same_part : (a b : Part) (o : Option Part) → o ≡ Some a → o ≡ Some b → b ≡ a
same_part a b o x y = cc

quote_part : (quote : ℕ) (o e : Option Part) (p : Part) (b c d : Bool) → b ≡ false → c ≡ true → (if b then e else (if c || d then None else o)) ≡ Some p → ⊥
quote_part quote o e p true c d x y h = cc
quote_part quote o e p false true d x y h = cc
quote_part quote o e p false false d x y h = cc

quote_no_backslash : (c : ℕ) → is_quote c ≡ true → (c == 92) ≡ false
quote_no_backslash c h = grind (arith, nat_tests)

-- the quote is no part
no_part_at_quote : (cs : List ℕ) (quote i : ℕ) (p : Part) → is_quote quote ≡ true → slice_get cs i ≡ Some quote → part_at cs quote i ≡ Some p → ⊥
unfolding part_at
no_part_at_quote cs quote i p q e h =
    let k = subst (λ (o : Option ℕ). part_of cs quote i o ≡ Some p) e h in
    quote_part quote _ _ p (quote == 92) (quote == quote) (is_line_end quote) (quote_no_backslash quote q) (equals_itself quote) k

step_on : (cs : List ℕ) (quote i n : ℕ) (p : Part) (us : List ℕ) → is_quote quote ≡ true → part_at cs quote i ≡ Some p → Body cs quote n i us → (vs : List ℕ) × (Body cs quote n (i + p.size) vs × (us ≡ units_of p.stands ++ vs))
step_on cs quote i n p us q h (close e f) = absurd (no_part_at_quote cs quote i p q f h)
step_on cs quote i n p us q h (more {us = vs} r k b e) =
    let o = same_part p r (part_at cs quote i) h k in
    (vs, (subst (λ (x : Part). Body cs quote n (i + x.size) vs) o b, e ∙ ap (λ (x : Part). units_of x.stands ++ vs) o))

-- a part was read
pub open_more : (cs : List ℕ) (quote start i j : ℕ) (p : Part) (out new : List ℕ) → is_quote quote ≡ true → part_at cs quote i ≡ Some p → j ≡ i + p.size → new ≡ out ++ units_of p.stands → Open cs quote start out i → Open cs quote start new j
open_more cs quote start i j p out new q h at is o = record {
  whole = λ n us b.
      let r = o.whole n (units_of p.stands ++ us) (more p h (subst (λ (k : ℕ). Body cs quote n k us) at b) refl) in
      subst (λ (ts : List ℕ). Body cs quote n start ts) (sym (append_assoc out (units_of p.stands) us) ∙ ap (λ (ts : List ℕ). ts ++ us) (sym is)) r;
  only = λ n us b.
      let k = o.only n us b in
      let s = step_on cs quote i n p k.0 q h k.1.0 in
      (s.0, (subst (λ (x : ℕ). Body cs quote n x s.0) (sym at) s.1.0, k.1.1 ∙ ap (λ (ts : List ℕ). out ++ ts) s.1.1 ∙ sym (append_assoc out (units_of p.stands) s.0) ∙ ap (λ (ts : List ℕ). ts ++ s.0) (sym is)));
}

closed : (cs : List ℕ) (quote i n : ℕ) (us : List ℕ) → is_quote quote ≡ true → slice_get cs i ≡ Some quote → Body cs quote n i us → (n ≡ i) × (us ≡ [])
closed cs quote i n us q e (close k h) = (sym k, refl)
closed cs quote i n us q e (more p k b h) = absurd (no_part_at_quote cs quote i p q e k)

-- what begins with a quote is a string literal
quote_piece : (q : Piece) (cs : List ℕ) (i m : ℕ) → fits q kinds.Quote ≡ true → StandsAt cs i m q → (us : List ℕ) × ((q ≡ text us) × IsText cs i m us)
quote_piece (text us) cs i m f h = (us, (refl, h))
quote_piece q cs i m f h = cc

at_quote : (cs : List ℕ) (quote i m : ℕ) (q : Piece) → slice_get cs i ≡ Some quote → is_quote quote ≡ true → StandsAt cs i m q → (us : List ℕ) × ((q ≡ text us) × IsText cs i m us)
at_quote cs quote i m q e f h = quote_piece q cs i m (fits_kind q cs i m quote kinds.Quote e (quote_kind quote f) h) h

body_of : (cs : List ℕ) (quote i m : ℕ) (us : List ℕ) → slice_get cs i ≡ Some quote → (h : IsText cs i m us) → Body cs quote h.close (i + 1) us
body_of cs quote i m us e h = subst (λ (x : ℕ). Body cs x h.close (i + 1) us) (same_char h.quote quote (slice_get cs i) h.opens e) h.body

pub text_found : (cs : List ℕ) (quote i j n : ℕ) (out : List ℕ) → slice_get cs i ≡ Some quote → is_quote quote ≡ true → slice_get cs j ≡ Some quote → n ≡ j + 1 → Open cs quote (i + 1) out j → PieceAt cs i n (text out)
text_found cs quote i j n out e f g at o = record {
  stands = record {
    quote = quote;
    opens = e;
    quotes = f;
    close = j;
    body = subst (λ (ts : List ℕ). Body cs quote j (i + 1) ts) (append-nil out) (o.whole j [] (close refl g));
    end = at;
  };
  longest = λ m q h.
      let t = at_quote cs quote i m q e f h in
      let k = o.only t.1.1.close t.0 (body_of cs quote i m t.0 e t.1.1) in
      let c = closed cs quote j t.1.1.close k.0 f g k.1.0 in
      inr (t.1.1.end ∙ ap (λ (x : ℕ). x + 1) c.0 ∙ sym at, t.1.0 ∙ ap (λ (us : List ℕ). text us) (k.1.1 ∙ ap (λ (us : List ℕ). out ++ us) c.1 ∙ append-nil out));
}

no_rest : (cs : List ℕ) (quote i n : ℕ) (us : List ℕ) → (slice_get cs i ≡ Some quote → ⊥) → part_at cs quote i ≡ None → Body cs quote n i us → ⊥
no_rest cs quote i n us f g (close k h) = f h
no_rest cs quote i n us f g (more p k b h) = cc

pub text_missing : (cs : List ℕ) (quote i j : ℕ) (out : List ℕ) → slice_get cs i ≡ Some quote → is_quote quote ≡ true → (slice_get cs j ≡ Some quote → ⊥) → part_at cs quote j ≡ None → Open cs quote (i + 1) out j → NoPieceAt cs i
text_missing cs quote i j out e f g h o = record {
  none = λ m q s.
      let t = at_quote cs quote i m q e f s in
      let k = o.only t.1.1.close t.0 (body_of cs quote i m t.0 e t.1.1) in
      no_rest cs quote j t.1.1.close k.0 g h k.1.0;
}
