-- Tokens of the same pieces do the same in programs, whatever numbers their texts have.
use Rattle.std.proofs.Common.{◌≡◌, ℕ, zero, suc, List, [], ◌∷◌, ◌++◌, length, take, refl, sym, ap, ◌∙◌, subst}
use Rattle.wjs_base.specs.Text.{Table}
use Rattle.wjs_tree.specs.declared.tokens.Tok.{Tok}
use Rattle.wjs_tree.specs.declared.tokens.Token.{Token}
use Rattle.wjs_tree.specs.declared.tokens.Token.TheVariants as tokens
use Rattle.wjs_lexer.specs.Pieces.{Piece, word, key, sign, number, text}
use Rattle.wjs_lexer.specs.Readings.{Placed}
use Rattle.wjs_lexer.specs.Lexing.{Means, IsTok, AreToks, HasTokens}
use Rattle.wjs_lexer.specs.Laws.{OneReading}
use Rattle.wjs_forms.specs.declared.class.Class.{Class}
use Rattle.wjs_forms.specs.declared.class.Class.TheVariants as classes
use Rattle.wjs_forms.specs.Classes.{sign_class, key_class, class_of}

-- the tokens are of one class and on one line, and a line ends before both or before neither
pub record Alike (t u : Tok) : Type 0 where
  pub class : class_of t.token ≡ class_of u.token
  pub after_line : t.after_line ≡ u.after_line
  pub line : t.line ≡ u.line

-- the same of tokens, one by one
abbrev pub AreAlike : List Tok → List Tok → Type 0
AreAlike [] [] = Unit {0}
AreAlike (t ∷ ts) (u ∷ us) = Alike t u × AreAlike ts us
AreAlike [] (u ∷ us) = ⊥
AreAlike (t ∷ ts) [] = ⊥

-- ---- the tokens of the same pieces are alike

abbrev piece_class : Piece → Class
piece_class (word units) = classes.Word
piece_class (key k) = key_class k
piece_class (sign s) = sign_class s
piece_class (number v) = classes.Literal
piece_class (text units) = classes.Literal
piece_class _ = classes.End

class_means : (t : Table) (token : Token) (p : Piece) → Means t token p → class_of token ≡ piece_class p
class_means t (tokens.Word x) (word units) h = refl
class_means t (tokens.Key k) (key l) h = ap key_class h
class_means t (tokens.Sign s) (sign r) h = ap sign_class h
class_means t (tokens.Number n) (number v) h = refl
class_means t (tokens.Text x) (text units) h = refl
class_means t token p h = absurd h

alike : (t u : Table) (a b : Tok) (p : Placed) → IsTok t a p → IsTok u b p → Alike a b
alike t u a b p h k = record {
  class = class_means t a.token p.piece h.token ∙ sym (class_means u b.token p.piece k.token);
  after_line = h.after_line ∙ sym k.after_line;
  line = h.line ∙ sym k.line;
}

are_alike : (t u : Table) (ts us : List Tok) (ps : List Placed) → AreToks t ts ps → AreToks u us ps → AreAlike ts us
are_alike t u [] [] ps h k = tt
are_alike t u [] (b ∷ us) [] h k = absurd k
are_alike t u [] (b ∷ us) (p ∷ ps) h k = absurd h
are_alike t u (a ∷ ts) us [] h k = absurd h
are_alike t u (a ∷ ts) [] (p ∷ ps) h k = absurd k
are_alike t u (a ∷ ts) (b ∷ us) (p ∷ ps) h k = (alike t u a b p h.0 k.0, are_alike t u ts us ps h.1 k.1)

-- the tokens of the same bytes by two tables are alike
pub bytes_alike : OneReading → (bytes : List ℕ) (t u : Table) (ts us : List Tok) → HasTokens bytes t ts → HasTokens bytes u us → AreAlike ts us
bytes_alike one bytes t u ts us h k = are_alike t u ts us h.placed h.same (subst (λ (ps : List Placed). AreToks u us ps) (one bytes t u ts us h k) k.same)

-- ---- lists of tokens that are alike

pub alike_sym : (ts us : List Tok) → AreAlike ts us → AreAlike us ts
alike_sym [] [] h = tt
alike_sym [] (u ∷ us) h = absurd h
alike_sym (t ∷ ts) [] h = absurd h
alike_sym (t ∷ ts) (u ∷ us) h = (record { class = sym (h.0).class; after_line = sym (h.0).after_line; line = sym (h.0).line }, alike_sym ts us h.1)

alike_refl : (ts : List Tok) → AreAlike ts ts
alike_refl [] = tt
alike_refl (t ∷ ts) = (record { class = refl; after_line = refl; line = refl }, alike_refl ts)

-- with the same behind
pub alike_append : (ts us more : List Tok) → AreAlike ts us → AreAlike (ts ++ more) (us ++ more)
alike_append [] [] more h = alike_refl more
alike_append [] (u ∷ us) more h = absurd h
alike_append (t ∷ ts) [] more h = absurd h
alike_append (t ∷ ts) (u ∷ us) more h = (h.0, alike_append ts us more h.1)

pub alike_take : (k : ℕ) (ts us : List Tok) → AreAlike ts us → AreAlike (take k ts) (take k us)
alike_take zero ts us h = tt
alike_take (suc k) [] [] h = tt
alike_take (suc k) [] (u ∷ us) h = absurd h
alike_take (suc k) (t ∷ ts) [] h = absurd h
alike_take (suc k) (t ∷ ts) (u ∷ us) h = (h.0, alike_take k ts us h.1)

pub alike_length : (ts us : List Tok) → AreAlike ts us → length ts ≡ length us
alike_length [] [] h = refl
alike_length [] (u ∷ us) h = absurd h
alike_length (t ∷ ts) [] h = absurd h
alike_length (t ∷ ts) (u ∷ us) h = ap suc (alike_length ts us h.1)
