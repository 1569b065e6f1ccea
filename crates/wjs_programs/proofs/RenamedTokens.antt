-- What stands among tokens stands there with other numbers for the texts.
use Rattle.std.specs.Prelude.{◌≡◌, ℕ, List, Option, None, Some, slice_get}
use Rattle.std.specs.Option.{option_map}
use Rattle.std.proofs.Common.{refl, ap, ◌∙◌, subst, sym, inl, inr}
use Rattle.std.proofs.lemmas.Option.{slice_get-map}
use Rattle.wjs_base.specs.declared.ids.TextId.{TextId}
use Rattle.wjs_tree.specs.declared.tokens.Tok.{Tok}
use Rattle.wjs_tree.specs.declared.tokens.Token.{Token}
use Rattle.wjs_tree.specs.declared.tokens.Token.TheVariants as tokens
use Rattle.wjs_tree.specs.declared.signs.Sign.{Sign}
use Rattle.wjs_tree.specs.declared.signs.Sign.TheVariants as signs
use Rattle.wjs_tree.specs.declared.node.End.{End}
use Rattle.wjs_tree.specs.declared.node.End.TheVariants as ends
use Rattle.wjs_tree.specs.declared.node.Spelt.{Spelt}
use Rattle.wjs_tree.specs.declared.node.Spelt.TheVariants as spelt
use Rattle.wjs_tree.specs.declared.node.PropertyKey.{PropertyKey}
use Rattle.wjs_tree.specs.declared.node.PropertyKey.TheVariants as keys
use Rattle.wjs_tree.specs.declared.operators.UpdateOperator.{UpdateOperator}
use Rattle.wjs_tree.specs.declared.operators.UpdateOperator.TheVariants as updates
use Rattle.wjs_tree.specs.declared.operators.PrefixOperator.{PrefixOperator}
use Rattle.wjs_tree.specs.declared.operators.PrefixOperator.TheVariants as prefixes
use Rattle.wjs_tree.specs.declared.operators.BinaryOperator.{BinaryOperator}
use Rattle.wjs_tree.specs.declared.operators.BinaryOperator.TheVariants as binaries
use Rattle.wjs_tree.specs.declared.operators.AssignOperator.{AssignOperator}
use Rattle.wjs_tree.specs.declared.operators.AssignOperator.TheVariants as assigns
use Rattle.wjs_tree.specs.Operators.{update_token, prefix_token, binary_token, assign_token}
use Rattle.wjs_tree.specs.Ends.{token_at, HasToken, is_joined, IsJoined, Ending, Complete, InName, InExpr, continues, Offends, CanInsert, Ends}
use Rattle.wjs_tree.specs.Spelling.{spelt_token, property_token}
use Rattle.wjs_programs.proofs.Renaming.{token_renamed, tok_renamed, toks_renamed, spelt_renamed, key_renamed}

module _ (r : TextId → TextId) where
  token_of_renamed : (t : Option Tok) → option_map (λ t. t.token) (option_map (tok_renamed r) t) ≡ option_map (token_renamed r) (option_map (λ t. t.token) t)
  token_of_renamed None = refl
  token_of_renamed (Some t) = refl

  joined_renamed : (t : Option Tok) → is_joined (option_map (tok_renamed r) t) ≡ is_joined t
  joined_renamed None = refl
  joined_renamed (Some t) = refl

  -- ---- operators keep their tokens

  update_fixed : (op : UpdateOperator) → token_renamed r (update_token op) ≡ update_token op
  update_fixed updates.Increment = refl
  update_fixed _ = refl

  prefix_fixed : (op : PrefixOperator) → token_renamed r (prefix_token op) ≡ prefix_token op
  prefix_fixed prefixes.Delete = refl
  prefix_fixed _ = refl

  binary_fixed : (op : BinaryOperator) → token_renamed r (binary_token op) ≡ binary_token op
  binary_fixed binaries.Multiply = refl
  binary_fixed _ = refl

  assign_fixed : (op : AssignOperator) → token_renamed r (assign_token op) ≡ assign_token op
  assign_fixed assigns.Plain = refl
  assign_fixed _ = refl

  spelt_token_renamed : (s : Spelt) → token_renamed r (spelt_token s) ≡ spelt_token (spelt_renamed r s)
  spelt_token_renamed (spelt.Word x) = refl
  spelt_token_renamed (spelt.Key k) = refl

  property_token_renamed : (key : PropertyKey) → token_renamed r (property_token key) ≡ property_token (key_renamed r key)
  property_token_renamed (keys.Spelt s) = spelt_token_renamed s
  property_token_renamed (keys.Text x) = refl
  property_token_renamed (keys.Number n) = refl

  -- ---- ends of statements

  sign_before : (token : Token) (s : Sign) → token_renamed r token ≡ tokens.Sign s → token ≡ tokens.Sign s
  sign_before (tokens.Word x) s e = cc
  sign_before (tokens.Key k) s e = cc
  sign_before (tokens.Sign q) s e = e
  sign_before (tokens.Number n) s e = cc
  sign_before (tokens.Text x) s e = cc

  continues_renamed : (ending : Ending) (token : Token) → continues ending (token_renamed r token) ≡ continues ending token
  continues_renamed Complete token = refl
  continues_renamed InName (tokens.Word x) = refl
  continues_renamed InName _ = refl
  continues_renamed (InExpr update) (tokens.Word x) = refl
  continues_renamed (InExpr update) _ = refl

  module _ (toks : List Tok) where
    token_at_renamed : (i : ℕ) → token_at (toks_renamed r toks) i ≡ option_map (token_renamed r) (token_at toks i)
    token_at_renamed i = ap (option_map (λ t. t.token)) (slice_get-map (tok_renamed r) toks i) ∙ token_of_renamed (slice_get toks i)

    pub has : (i : ℕ) (token : Token) → HasToken toks i token → HasToken (toks_renamed r toks) i (token_renamed r token)
    has i token h = token_at_renamed i ∙ ap (option_map (token_renamed r)) h

    -- another form of the renamed token
    has_as : (i : ℕ) (token other : Token) → token_renamed r token ≡ other → HasToken toks i token → HasToken (toks_renamed r toks) i other
    has_as i token other e h = has i token h ∙ ap Some e

    pub has_update : (i : ℕ) (op : UpdateOperator) → HasToken toks i (update_token op) → HasToken (toks_renamed r toks) i (update_token op)
    has_update i op h = has_as i (update_token op) (update_token op) (update_fixed op) h

    pub has_prefix : (i : ℕ) (op : PrefixOperator) → HasToken toks i (prefix_token op) → HasToken (toks_renamed r toks) i (prefix_token op)
    has_prefix i op h = has_as i (prefix_token op) (prefix_token op) (prefix_fixed op) h

    pub has_binary : (i : ℕ) (op : BinaryOperator) → HasToken toks i (binary_token op) → HasToken (toks_renamed r toks) i (binary_token op)
    has_binary i op h = has_as i (binary_token op) (binary_token op) (binary_fixed op) h

    pub has_assign : (i : ℕ) (op : AssignOperator) → HasToken toks i (assign_token op) → HasToken (toks_renamed r toks) i (assign_token op)
    has_assign i op h = has_as i (assign_token op) (assign_token op) (assign_fixed op) h

    pub has_spelt : (i : ℕ) (s : Spelt) → HasToken toks i (spelt_token s) → HasToken (toks_renamed r toks) i (spelt_token (spelt_renamed r s))
    has_spelt i s h = has_as i (spelt_token s) (spelt_token (spelt_renamed r s)) (spelt_token_renamed s) h

    pub has_property : (i : ℕ) (key : PropertyKey) → HasToken toks i (property_token key) → HasToken (toks_renamed r toks) i (property_token (key_renamed r key))
    has_property i key h = has_as i (property_token key) (property_token (key_renamed r key)) (property_token_renamed key) h

    line_renamed : (i : ℕ) → is_joined (slice_get (toks_renamed r toks) i) ≡ is_joined (slice_get toks i)
    line_renamed i = ap is_joined (slice_get-map (tok_renamed r) toks i) ∙ joined_renamed (slice_get toks i)

    pub joined : (i : ℕ) → IsJoined toks i → IsJoined (toks_renamed r toks) i
    joined i h = line_renamed i ∙ h

    offends : (ending : Ending) (i : ℕ) → Offends toks ending i → Offends (toks_renamed r toks) ending i
    offends ending i h = record {
      token = token_renamed r h.token;
      stands = has i h.token h.stands;
      after_line = line_renamed i ∙ h.after_line;
      no_semicolon = λ e. h.no_semicolon (sign_before h.token _ e);
      stops = continues_renamed ending h.token ∙ h.stops;
    }

    can_insert : (ending : Ending) (i : ℕ) → CanInsert toks ending i → CanInsert (toks_renamed r toks) ending i
    can_insert ending i (inl none) = inl (token_at_renamed i ∙ ap (option_map (token_renamed r)) none)
    can_insert ending i (inr (inl brace)) = inr (inl (has i (tokens.Sign signs.CloseBrace) brace))
    can_insert ending i (inr (inr h)) = inr (inr (offends ending i h))

    ends_so : (ending : Ending) (end : End) (i n : ℕ) → Ends toks ending end i n → Ends (toks_renamed r toks) ending end i n
    ends_so ending ends.Written i n h = (has i (tokens.Sign signs.Semicolon) h.0, h.1)
    ends_so ending ends.Inserted i n h = (can_insert ending i h.0, h.1)

    pub ends_renamed : (ending other : Ending) (end : End) (i n : ℕ) → other ≡ ending → Ends toks ending end i n → Ends (toks_renamed r toks) other end i n
    ends_renamed ending other end i n e h = subst (λ k. Ends (toks_renamed r toks) k end i n) (sym e) (ends_so ending end i n h)
