-- The tokens of the same pieces by two tables.
use Rattle.std.specs.Prelude.{◌≡◌, List, [], ◌∷◌}
use Rattle.std.proofs.Common.{refl, sym, ◌∙◌}
use Rattle.wjs_base.specs.Same.{whole_same}
use Rattle.wjs_base.specs.declared.ids.TextId.{TextId}
use Rattle.wjs_base.specs.Text.{Units, Table, Denotes}
use Rattle.wjs_tree.specs.declared.tokens.Tok.{Tok}
use Rattle.wjs_tree.specs.declared.tokens.Token.{Token}
use Rattle.wjs_tree.specs.declared.tokens.Token.TheVariants as tokens
use Rattle.wjs_lexer.specs.Pieces.{Piece, word, key, sign, number, text}
use Rattle.wjs_lexer.specs.Readings.{Placed}
use Rattle.wjs_lexer.specs.Lexing.{Means, IsTok, AreToks}
use Rattle.wjs_programs.proofs.Renaming.{token_renamed, tok_renamed, toks_renamed}

-- the number that each text has by the second table is the one that r makes of its number by the first
module _ (t u : Table) (r : TextId → TextId) (same : (x y : TextId) (units : Units) → Denotes t x units → Denotes u y units → r x ≡ y) where
  same_token : (a b : Token) (p : Piece) → Means t a p → Means u b p → b ≡ token_renamed r a
  same_token (tokens.Word x) (tokens.Word y) (word units) h k = λ z. tokens.Word (sym (same x y units h k) z)
  same_token (tokens.Word x) b (word units) h k = absurd k
  same_token (tokens.Word x) b p h k = absurd h
  same_token (tokens.Key x) (tokens.Key y) (key l) h k = λ z. tokens.Key ((k ∙ sym h) z)
  same_token (tokens.Key x) b (key l) h k = absurd k
  same_token (tokens.Key x) b p h k = absurd h
  same_token (tokens.Sign x) (tokens.Sign y) (sign s) h k = λ z. tokens.Sign ((k ∙ sym h) z)
  same_token (tokens.Sign x) b (sign s) h k = absurd k
  same_token (tokens.Sign x) b p h k = absurd h
  same_token (tokens.Number x) (tokens.Number y) (number v) h k = λ z. tokens.Number (whole_same y x (k ∙ sym h) z)
  same_token (tokens.Number x) b (number v) h k = absurd k
  same_token (tokens.Number x) b p h k = absurd h
  same_token (tokens.Text x) (tokens.Text y) (text units) h k = λ z. tokens.Text (sym (same x y units h k) z)
  same_token (tokens.Text x) b (text units) h k = absurd k
  same_token (tokens.Text x) b p h k = absurd h

  same_tok : (a b : Tok) (p : Placed) → IsTok t a p → IsTok u b p → b ≡ tok_renamed r a
  same_tok a b p h k =
      let token = same_token a.token b.token p.piece h.token k.token in
      let byte = k.byte ∙ sym h.byte in
      let line = k.line ∙ sym h.line in
      let after_line = k.after_line ∙ sym h.after_line in
      λ z. record { token = token z; byte = byte z; line = line z; after_line = after_line z }

  pub same_toks : (ts us : List Tok) (ps : List Placed) → AreToks t ts ps → AreToks u us ps → us ≡ toks_renamed r ts
  same_toks [] [] ps h k = refl
  same_toks [] (b ∷ us) [] h k = absurd k
  same_toks [] (b ∷ us) (p ∷ ps) h k = absurd h
  same_toks (a ∷ ts) us [] h k = absurd h
  same_toks (a ∷ ts) [] (p ∷ ps) h k = absurd k
  same_toks (a ∷ ts) (b ∷ us) (p ∷ ps) h k = λ z. same_tok a b p h.0 k.0 z ∷ same_toks ts us ps h.1 k.1 z
