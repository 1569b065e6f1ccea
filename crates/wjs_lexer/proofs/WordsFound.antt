-- What was read is the identifier or the reserved word that stands there.
use Rattle.std.proofs.Common.{◌≡◌, ℕ, ◌+◌, ◌<◌, ◌⊎◌, inl, inr, true, false, refl, sym, ◌∙◌, ap, arith, List, Option, Some, None}
use Rattle.std.specs.Prelude.{slice_get, slice_range}
use Rattle.std.specs.List.{flat_map}
use Rattle.std.specs.Char.Escape.{encode_utf16}
use Rattle.std.proofs.lemmas.Bool.{cases_order}
use Rattle.wjs_tree.specs.declared.keys.Key.{Key}
use Rattle.wjs_tree.specs.Keys.{spelling}
use Rattle.wjs_lexer.specs.declared.characters.Kind.TheVariants as kinds
use Rattle.wjs_lexer.specs.Characters.{starts_name, continues_name}
use Rattle.wjs_lexer.specs.KindSteps.{kind_of}
use Rattle.wjs_lexer.specs.Places.{AllPass, passes}
use Rattle.wjs_lexer.specs.Words.{Name, IsWord, IsKey}
use Rattle.wjs_lexer.specs.Pieces.{Piece, word, key, StandsAt, PieceAt}
use Rattle.wjs_lexer.proofs.Ranges.{clash}
use Rattle.wjs_lexer.proofs.KindLemmas.{fits, fits_kind, letter_kind}
use Rattle.wjs_lexer.proofs.KeysFound.{spelled_once}

-- what begins with a letter is a word or a key
pub record OneWord (cs : List ℕ) (i m : ℕ) (q : Piece) : Type 0 where
  pub units : List ℕ
  pub is : q ≡ word units
  pub stands : IsWord cs i m units

pub record OneKey (cs : List ℕ) (i m : ℕ) (q : Piece) : Type 0 where
  pub which : Key
  pub is : q ≡ key which
  pub stands : IsKey cs i m which

letter_piece : (q : Piece) (cs : List ℕ) (i m : ℕ) → fits q kinds.Letter ≡ true → StandsAt cs i m q → OneWord cs i m q ⊎ OneKey cs i m q
letter_piece (word units) cs i m f h = inl (record { units = units; is = refl; stands = h })
letter_piece (key k) cs i m f h = inr (record { which = k; is = refl; stands = h })
letter_piece q cs i m f h = cc

name_of : (cs : List ℕ) (i m : ℕ) (q : Piece) → OneWord cs i m q ⊎ OneKey cs i m q → Name cs i m
name_of cs i m q (inl h) = h.stands.name
name_of cs i m q (inr h) = h.stands.name

name_ends : (cs : List ℕ) (i n m : ℕ) → i < n → passes continues_name (slice_get cs n) ≡ false → Name cs i m → (m ≡ n) ⊎ ((m < n) ⊎ (n < m)) → (m < n) ⊎ (m ≡ n)
name_ends cs i n m lt s h (inl k) = inr k
name_ends cs i n m lt s h (inr (inl k)) = inl k
name_ends cs i n m lt s h (inr (inr k)) = absurd (clash continues_name (slice_get cs n) (h.rest n (omega arith) k) s)

word_same : (cs : List ℕ) (i n m : ℕ) (us : List ℕ) (q : Piece) → ((k : Key) → slice_range cs i n ≡ spelling k → ⊥) → us ≡ flat_map encode_utf16 (slice_range cs i n) → m ≡ n → OneWord cs i m q ⊎ OneKey cs i m q → q ≡ word us
word_same cs i n m us q free e k (inl h) = h.is ∙ ap (λ (x : List ℕ). word x) (h.stands.spelled ∙ ap (λ (j : ℕ). flat_map encode_utf16 (slice_range cs i j)) k ∙ sym e)
word_same cs i n m us q free e k (inr h) = absurd (free h.which (ap (λ (j : ℕ). slice_range cs i j) (sym k) ∙ h.stands.spelled))

word_or : (cs : List ℕ) (i n m : ℕ) (us : List ℕ) (q : Piece) → ((k : Key) → slice_range cs i n ≡ spelling k → ⊥) → us ≡ flat_map encode_utf16 (slice_range cs i n) → OneWord cs i m q ⊎ OneKey cs i m q → (m < n) ⊎ (m ≡ n) → (m < n) ⊎ ((m ≡ n) × (q ≡ word us))
word_or cs i n m us q free e h (inl lt) = inl lt
word_or cs i n m us q free e h (inr k) = inr (k, word_same cs i n m us q free e k h)

key_same : (cs : List ℕ) (i n m : ℕ) (k : Key) (q : Piece) → slice_range cs i n ≡ spelling k → m ≡ n → OneWord cs i m q ⊎ OneKey cs i m q → q ≡ key k
key_same cs i n m k q e f (inl h) = absurd (h.stands.free k (ap (λ (j : ℕ). slice_range cs i j) f ∙ e))
key_same cs i n m k q e f (inr h) = h.is ∙ ap (λ (x : Key). key x) (spelled_once h.which k (sym h.stands.spelled ∙ ap (λ (j : ℕ). slice_range cs i j) f ∙ e))

key_or : (cs : List ℕ) (i n m : ℕ) (k : Key) (q : Piece) → slice_range cs i n ≡ spelling k → OneWord cs i m q ⊎ OneKey cs i m q → (m < n) ⊎ (m ≡ n) → (m < n) ⊎ ((m ≡ n) × (q ≡ key k))
key_or cs i n m k q e h (inl lt) = inl lt
key_or cs i n m k q e h (inr f) = inr (f, key_same cs i n m k q e f h)

first_of_name : (cs : List ℕ) (i : ℕ) (o : Option ℕ) → slice_get cs i ≡ o → passes starts_name o ≡ true → (c : ℕ) × ((slice_get cs i ≡ Some c) × (kind_of c ≡ kinds.Letter))
first_of_name cs i None e h = cc
first_of_name cs i (Some c) e h = (c, (e, letter_kind c h))

here_letter : (cs : List ℕ) (i m : ℕ) (q : Piece) → passes starts_name (slice_get cs i) ≡ true → StandsAt cs i m q → OneWord cs i m q ⊎ OneKey cs i m q
here_letter cs i m q s h =
    let f = first_of_name cs i (slice_get cs i) refl s in
    letter_piece q cs i m (fits_kind q cs i m f.0 kinds.Letter f.1.0 f.1.1 h) h

pub word_found : (cs : List ℕ) (i n : ℕ) (us : List ℕ) → passes starts_name (slice_get cs i) ≡ true → i < n → AllPass continues_name cs (i + 1) n → passes continues_name (slice_get cs n) ≡ false
    → ((k : Key) → slice_range cs i n ≡ spelling k → ⊥) → us ≡ flat_map encode_utf16 (slice_range cs i n) → PieceAt cs i n (word us)
word_found cs i n us s some rest stop free e = record {
  stands = record { name = record { start = s; some = some; rest = rest }; free = free; spelled = e };
  longest = λ m q h. let w = here_letter cs i m q s h in word_or cs i n m us q free e w (name_ends cs i n m some stop (name_of cs i m q w) (cases_order m n));
}

pub key_found : (cs : List ℕ) (i n : ℕ) (k : Key) → passes starts_name (slice_get cs i) ≡ true → i < n → AllPass continues_name cs (i + 1) n → passes continues_name (slice_get cs n) ≡ false
    → slice_range cs i n ≡ spelling k → PieceAt cs i n (key k)
key_found cs i n k s some rest stop e = record {
  stands = record { name = record { start = s; some = some; rest = rest }; spelled = e };
  longest = λ m q h. let w = here_letter cs i m q s h in key_or cs i n m k q e w (name_ends cs i n m some stop (name_of cs i m q w) (cases_order m n));
}
