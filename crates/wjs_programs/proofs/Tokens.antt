-- The texts of tokens are in the table by which bytes are these tokens.
use Rattle.std.proofs.Common.{◌≡◌, ℕ, zero, suc, List, [], ◌∷◌, Some, None, length, subst}
use Rattle.wjs_base.specs.declared.ids.TextId.{TextId}
use Rattle.wjs_base.specs.Text.{Table, Has}
use Rattle.wjs_base.proofs.TextLaws.{Denotes-Has}
use Rattle.wjs_tree.specs.declared.tokens.Tok.{Tok}
use Rattle.wjs_tree.specs.declared.tokens.Token.{Token}
use Rattle.wjs_tree.specs.declared.tokens.Token.TheVariants as tokens
use Rattle.wjs_tree.specs.Trees.{Elements}
use Rattle.wjs_tree.specs.Ends.{HasToken}
use Rattle.wjs_tree.specs.Spelling.{ElementsStand}
use Rattle.wjs_lexer.specs.Lexing.{Means, AreToks, HasTokens}
use Rattle.wjs_lexer.specs.Pieces.{Piece, word, text}
use Rattle.wjs_lexer.specs.Readings.{Placed}
use Rattle.wjs_programs.proofs.Names.{ElementsNames}
use Rattle.wjs_programs.proofs.Standing.{stand_names}

-- the token at a place means a piece
means_at : (t : Table) (toks : List Tok) (placed : List Placed) (i : ℕ) (token : Token) → AreToks t toks placed → HasToken toks i token → (piece : Piece) × Means t token piece
means_at t [] placed i token are h = absurd (let e : None ≡ Some token = h in cc)
means_at t (x ∷ xs) [] i token are h = absurd are
means_at t (x ∷ xs) (p ∷ ps) zero token are h = (p.piece, subst (λ (z : Token). Means t z p.piece) (let e : Some x.token ≡ Some token = h in cc) are.0.token)
means_at t (x ∷ xs) (p ∷ ps) (suc i) token are h = means_at t xs ps i token are.1 h

word_is_there : (t : Table) (x : TextId) (piece : Piece) → Means t (tokens.Word x) piece → Has t x
word_is_there t x (word units) m = Denotes-Has t x units m
word_is_there t x _ m = absurd m

text_is_there : (t : Table) (x : TextId) (piece : Piece) → Means t (tokens.Text x) piece → Has t x
text_is_there t x (text units) m = Denotes-Has t x units m
text_is_there t x _ m = absurd m

-- and so are those of each tree that they spell
pub texts_are_there : (bytes : List ℕ) (t : Table) (toks : List Tok) (tree : Elements) → HasTokens bytes t toks → ElementsStand toks tree 0 (length toks) → ElementsNames (Has t) tree
texts_are_there bytes t toks tree has stands =
    stand_names toks (Has t)
    (λ i x h. let m = means_at t toks has.placed i (tokens.Word x) has.same h in word_is_there t x m.0 m.1)
    (λ i x h. let m = means_at t toks has.placed i (tokens.Text x) has.same h in text_is_there t x m.0 m.1)
    tree 0 (length toks) stands
