-- A run is read backward: the ends of statements.
use Rattle.std.proofs.Common.{◌≡◌, ℕ, ◌+◌, ◌⊎◌, inl, inr, Bool, true, false, not, ◌&&◌, ◌||◌, List, [], ◌∷◌, Option, Some, None, slice_get, refl, sym, ap, ◌∙◌, subst}
use Rattle.wjs_tree.specs.declared.tokens.Tok.{Tok}
use Rattle.wjs_tree.specs.declared.tokens.Token.{Token}
use Rattle.wjs_tree.specs.declared.tokens.Token.TheVariants as tokens
use Rattle.wjs_tree.specs.declared.signs.Sign.TheVariants as signs
use Rattle.wjs_tree.specs.declared.node.End.{End}
use Rattle.wjs_tree.specs.declared.node.End.TheVariants as ends
use Rattle.wjs_tree.specs.Ends.{token_at, HasToken, HasSign, is_joined, is_operator, is_suffix, continues_name, continues, Ending, Complete, InName, InExpr, Offends, CanInsert, Ends}
use Rattle.wjs_forms.specs.declared.class.Class.{Class}
use Rattle.wjs_forms.specs.declared.class.Class.TheVariants as classes
use Rattle.wjs_forms.specs.Classes.{class_of, class_at}
use Rattle.wjs_forms.proofs.Runs.{class_here, joined_here}
use Rattle.wjs_forms.proofs.Endings.{is_operator_class, is_suffix_class, continues_name_class, operator_class, suffix_class, name_class, Ended}
use Rattle.wjs_forms.proofs.Rests.{CompleteRest}
use Rattle.wjs_forms.proofs.Standing.{Has}

both_stop : (a b c : Bool) → a ≡ false → (b ≡ true → c ≡ true) → (a || (b && not c)) ≡ false
both_stop true b c h f = cc
both_stop false true true h f = refl
both_stop false true false h f = absurd (let w : false ≡ true = f refl in cc)
both_stop false false true h f = refl
both_stop false false false h f = refl

stops : (ending : Ending) (t : Token) → Ended ending (class_of t) → continues ending t ≡ false
stops Complete t h = refl
stops InName t h = name_class t ∙ h
stops (InExpr update) t h = both_stop (is_operator t) (is_suffix t) update (operator_class t ∙ h.0) (λ q. h.1 (sym (suffix_class t) ∙ q))

module _ (toks : List Tok) where
  offends_as : (ending : Ending) (i : ℕ) → Ended ending (class_here toks i) → Offends toks Complete i → Offends toks ending i
  offends_as ending i h o = record {
    token = o.token;
    stands = o.stands;
    after_line = o.after_line;
    no_semicolon = o.no_semicolon;
    stops = stops ending o.token (subst (Ended ending) (ap class_at o.stands) h);
  }

  can_as : (ending : Ending) (i : ℕ) → Ended ending (class_here toks i) → CanInsert toks Complete i → CanInsert toks ending i
  can_as ending i h (inl e) = inl e
  can_as ending i h (inr (inl e)) = inr (inl e)
  can_as ending i h (inr (inr o)) = inr (inr (offends_as ending i h o))

  -- the end of what was complete is the end of what nothing there continues
  pub ends_as : (ending : Ending) (end : End) (i n : ℕ) → Ended ending (class_here toks i) → Ends toks Complete end i n → Ends toks ending end i n
  ends_as ending ends.Written i n h e = e
  ends_as ending ends.Inserted i n h e = (can_as ending i h e.0, e.1)

  pub written : (done : ℕ → Type 0) (i : ℕ) → HasSign toks i signs.Semicolon → done (i + 1) → CompleteRest toks done i
  written done i h d = (ends.Written, i + 1, (h, refl), d)

  pub at_end : (done : ℕ → Type 0) (i : ℕ) → token_at toks i ≡ None → done i → CompleteRest toks done i
  at_end done i h d = (ends.Inserted, i, (inl h, refl), d)

  pub at_brace : (done : ℕ → Type 0) (i : ℕ) → HasSign toks i signs.CloseBrace → done i → CompleteRest toks done i
  at_brace done i h d = (ends.Inserted, i, (inr (inl h), refl), d)

  pub at_line : (done : ℕ → Type 0) (i : ℕ) (t : Token) → HasToken toks i t → joined_here toks i ≡ false → (class_of t ≡ classes.Semicolon → ⊥) → done i → CompleteRest toks done i
  at_line done i t h j n d =
      (ends.Inserted, i, (inr (inr (record { token = t; stands = h; after_line = j; no_semicolon = λ e. n (ap class_of e); stops = refl })), refl), d)
